-- How an effect arises: one node reacts, to a call or to a message.
use Rattle.std.proofs.Common.{◌≡◌, ℕ, ◌<◌, Bool, true, false, cond, Some, None, Ok, Err, Option, Result, sym, refl, arith}
use Rattle.bridge.specs.Inputs as bridge
use Rattle.bridge.specs.declared.fault.DeviceFault.{DeviceFault}
use Rattle.bridge.specs.declared.state.Bridge.{Bridge}
use Rattle.device.specs.Meaning.{Meaning}
use Rattle.home.specs.Reactions as home
use Rattle.home.specs.declared.machine.Home.{Home}
use Rattle.message.specs.declared.message.Message.{Message}
use Rattle.message.specs.declared.reaction.Reaction.{Reaction}
use Rattle.processor.specs.Inputs as processor
use Rattle.processor.specs.declared.state.Processor.{Processor}
use Rattle.std.specs.Option.{option_map}
use Rattle.coherence.specs.Steps.{Effect, check, by_processor, by_home, by_first, by_second, wished}
use Rattle.coherence.specs.Worlds.{World, processor_at, home_at}
use Rattle.coherence.specs.declared.fault.Fault.{Fault}

-- a check that is passed
pub passed_check : {R : Type 0} (ok : Bool) (f : Fault) (x : Result R Fault) (r : R) → check ok f x ≡ Ok r → (ok ≡ true) × (x ≡ Ok r)
passed_check true f x r h = (refl, h)
passed_check false f x r h = let z : ◌≡◌ {A = ℕ} 0 1 = cc in absurd (let no_way : ⊥ = omega arith in no_way)

pub never : {A : Type 0} → ◌≡◌ {A = ℕ} 0 1 → A
never h = absurd (let no_way : ⊥ = omega arith in no_way)

-- what came of something that came
pub came : {X Y : Type 0} (f : X → Y) (o : Option X) (y : Y) → option_map f o ≡ Some y → (x : X) × (o ≡ Some x) × (y ≡ f x)
came f None y h = never cc
came f (Some x) y h = (x, refl, let same : f x ≡ y = cc in sym same)

pub allowed : {X : Type 0} (b : Bool) (o : Option X) (x : X) → cond b o None ≡ Some x → (b ≡ true) × (o ≡ Some x)
allowed true o x h = (refl, h)
allowed false o x h = never cc

module _ {A B : Type 0} (ma : Meaning A) (mb : Meaning B) (w : World A B) where
  pub data Arises (e : Effect A B) : Type 0 where
    at_processor : (p : ℕ) → p < 4 → (i : processor.Input) (r : Reaction (Processor ℕ)) → processor.reaction (processor_at w p) p i ≡ Some r → e ≡ by_processor w p r → Arises e
    at_home : (b : ℕ) → b < 16 → (m : Message ℕ) (r : Reaction (Home ℕ)) → home.received (home_at w b) b m ≡ Some r → e ≡ by_home w b r → Arises e
    at_first : (i : bridge.Input) (r : Reaction (Bridge A ℕ)) → bridge.reaction ma 0 w.first i ≡ Some r → e ≡ by_first w r → Arises e
    at_second : (i : bridge.Input) (r : Reaction (Bridge B ℕ)) → bridge.reaction mb 1 w.second i ≡ Some r → e ≡ by_second w r → Arises e

  pub from_wish : {S : Type 0} (e : Effect A B) (by : Reaction (Bridge S ℕ) → Effect A B) (x : Result (Reaction (Bridge S ℕ)) DeviceFault) → wished by x ≡ Ok e
      → (r : Reaction (Bridge S ℕ)) × (x ≡ Ok r) × (e ≡ by r)
  from_wish e by (Ok r) h = (r, refl, let same : by r ≡ e = cc in sym same)
  from_wish e by (Err f) h = never cc
