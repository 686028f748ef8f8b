-- The rule in words: its cases by whether space and place agree, the letter, and whether the target is one.
use Rattle.std.proofs.Common.{◌≡◌, ◌≢◌, ℕ, Bool, true, false, cond, ◌||◌, eqb, arith}
use Rattle.std.proofs.lemmas.Bool.Decides.{nat_tests}
use Rattle.ordering.specs.declared.operation.Operation.TheVariants.{Int}
use Rattle.ordering.specs.declared.order.Access.{Access}
use Rattle.ordering.specs.Operations.{is}
use Rattle.ordering.specs.Orders.{letter_A, letter_D, letter_none, letter, one_target, agrees, RuleInWords}

abbrev by_letter : Bool → ℕ → Bool → Bool
by_letter a x t = a || cond (eqb x letter_A) true (cond (eqb x letter_D) t false)

at_A : (a t : Bool) (x : ℕ) → x ≡ letter_A → by_letter a x t ≡ true
at_A a t x h = grind (arith, nat_tests)

at_D : (e l : Access) (x : ℕ) → x ≡ letter_D → is Int e.operation ≡ false → by_letter (agrees e l) x (one_target e l) ≡ eqb e.space l.space
at_D e l x h i = grind (arith, nat_tests)

at_D_int : (e l : Access) (x : ℕ) → x ≡ letter_D → is Int e.operation ≡ true → by_letter (agrees e l) x (one_target e l) ≡ eqb e.place l.place
at_D_int e l x h i = grind (arith, nat_tests)

at_none : (a t : Bool) (x : ℕ) → x ≡ letter_none → a ≡ false → by_letter a x t ≡ false
at_none a t x h n = grind (arith, nat_tests)

same : (e l : Access) (x : ℕ) (t : Bool) → e.space ≡ l.space → e.place ≡ l.place → by_letter (agrees e l) x t ≡ true
same e l x t s p = grind (arith, nat_tests)

other_space : (e l : Access) → e.space ≢ l.space → agrees e l ≡ false
other_space e l n = grind (arith, nat_tests)

other_place : (e l : Access) → e.place ≢ l.place → agrees e l ≡ false
other_place e l n = grind (arith, nat_tests)

pub rule_in_words : RuleInWords
rule_in_words = record {
  one_word = λ p e l s q. same e l (letter p e.operation l.operation) (one_target e l) s q;
  always = λ p e l h. at_A (agrees e l) (one_target e l) _ h;
  one_device = λ p e l h i. at_D e l _ h i;
  one_processor = λ p e l h i. at_D_int e l _ h i;
  other_space = λ p e l h n. at_none (agrees e l) (one_target e l) _ h (other_space e l n);
  other_place = λ p e l h n. at_none (agrees e l) (one_target e l) _ h (other_place e l n);
}
