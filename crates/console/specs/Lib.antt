pub mod Cases
pub mod Program
pub mod Report
pub mod WorkedScripts
