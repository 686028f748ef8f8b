-- The meaning of a sweeping device, from its task.
use Rattle.std.specs.Prelude.{ℕ, if◌then◌else◌, None, Option, ◌==◌}
use Rattle.device.specs.declared.meaning.Wish.{Wish}
use Rattle.device.specs.Meaning.{Meaning}
use Rattle.device.specs.Registers.{zeros, after_write}
use Rattle.sweepers.specs.declared.sweeper.Sweeper.{Sweeper}
use Rattle.sweepers.specs.Sweeps.{commanded, went_on, wished}
use Rattle.sweepers.specs.Tasks.{Task, first_block, block_count, last_wish}

abbrev pub blank : {J : Type 0} (n : ℕ) → Sweeper J n
blank n = record { words = zeros n; sweep = None; job = record {} }

abbrev pub sweeper_wish : {J : Type 0} {n : ℕ} → Task → Sweeper J n → Option Wish
sweeper_wish t s = wished (t.each s.words.at) (last_wish t s.words.at) s.sweep

-- A write to the command's place starts a sweep or stops it.
abbrev pub sweeper_writing : {J : Type 0} {n : ℕ} → Task → Sweeper J n → ℕ → ℕ → Sweeper J n
sweeper_writing t s p v = record s {
  words = after_write s.words p v;
  sweep = if p == t.command then commanded v (first_block t s.words.at) (block_count t s.words.at) else s.sweep;
}

abbrev pub sweeper_meaning : {J : Type 0} {n : ℕ} → Task → Meaning (Sweeper J n)
sweeper_meaning t = record {
  words = λ s. s.words.at;
  wish = sweeper_wish t;
  reading = λ s p. s;
  writing = sweeper_writing t;
  accepted = λ s w. record s { sweep = went_on s.sweep };
  landed = λ s b ws. s;
}
