-- Worked scripts, computed from their bytes to the bytes that are written.
use Rattle.std.specs.Prelude.{◌≡◌, ◌++◌, List, ℕ, codes}
use Rattle.console.specs.Program.{output_of}

abbrev pub listing : List ℕ
listing = codes "M\t1\t0\nW\t0\t0\t1\t9\nG\t0\nR\t0\t0\t1\nG\t0\nG\t0\nC\t0\t0\nC\t0\t0\n"

abbrev pub listing_output : List ℕ
listing_output =
    codes "ok\nok\nok\nok\nok\nok\nok\t9\nno\t8\t0\n"
    ++ codes "0\t0\t0\tSTio\t1\t1\t9\t1\t1\t4\n1\t0\t1\tLDio\t1\t1\t9\t2\t1\t4\nsum\t18\n"

pub record WorkedScripts : Type 0 where
  pub listing : output_of listing ≡ listing_output
  pub empty : output_of (codes "") ≡ codes "sum\t0\n"
  pub odd_lines : output_of (codes "M\t5\t0\n\nL\t0\t0") ≡ codes "no\t1\t0\nno\t17\t2\nno\t1\t0\nsum\t0\n"
