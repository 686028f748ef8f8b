-- A well-formed message is delivered where its receiver has a rule for its kind; and what waits about a block is counted there.
use Rattle.std.proofs.Common.{◌≡◌, ℕ, zero, suc, ◌<◌, ◌≤◌, Bool, true, ◌||◌, List, [], ◌∷◌, length, get_or, is_some, Some, None, filter, Option, refl, ap, ◌∙◌, ⊎_elim, arith}
use Rattle.bridge.specs.Reactions as bridge
use Rattle.bridge.specs.Receipts as bridge_messages
use Rattle.bridge.specs.declared.state.Bridge.{Bridge}
use Rattle.device.specs.Meaning.{Meaning}
use Rattle.home.specs.Reactions as home
use Rattle.message.specs.Laws.{comes_from_home, goes_home}
use Rattle.message.specs.Messages.{no_message}
use Rattle.message.specs.Nodes.{home_node, node_numbered}
use Rattle.message.specs.declared.message.Message.{Message}
use Rattle.message.specs.declared.node.Node.TheVariants as node
use Rattle.processor.specs.Receive as processor
use Rattle.std.proofs.lemmas.Bool.{and_from, cond_both, cond-true, eq-eqb, cases_lt}
use Rattle.std.proofs.lemmas.Option.{slice_get-get_or, slice_get_past, none-some, same_Some}
use Rattle.std.specs.Option.{option_map}
use Rattle.std.specs.List.{slice_get}
use Rattle.coherence.proofs.Arising.{never}
use Rattle.coherence.proofs.Blocks.{about, hits, peer, pending, pending_is, token}
use Rattle.coherence.proofs.Counting.{count, count_cons, indicator}
use Rattle.coherence.proofs.FormsBuilt.{Well}
use Rattle.coherence.proofs.Tally.{crosses, traffic, traffic_out}
use Rattle.coherence.specs.Steps.{by_first, by_home, by_processor, by_second, delivered, figures}
use Rattle.coherence.specs.Worlds.{World, home_at, processor_at}

-- What stands in a list and is kept is counted among what is kept.
module _ {X : Type 0} (f g : X → Bool) where
  pub count_kept : (xs : List X) (i : ℕ) (x : X) → slice_get xs i ≡ Some x → g x ≡ true → indicator (f x) ≤ count f (filter g xs)
  count_kept [] i x at passes = absurd (none-some x at)
  count_kept (y ∷ xs) zero x at passes =
      let same = same_Some y x at in
      let now : filter g (y ∷ xs) ≡ y ∷ filter g xs = cond-true (g y) (y ∷ filter g xs) (filter g xs) (ap g same ∙ passes) in
      let all = ap (count f) now in
      let one = ap (λ z. indicator (f z)) same in
      omega (arith, count_cons f y (filter g xs))
  count_kept (y ∷ xs) (suc i) x at passes =
      let rest = count_kept xs i x at passes in
      cond_both (g y) (y ∷ filter g xs) (filter g xs) (λ ys. indicator (f x) ≤ count f ys) (λ _. omega (arith, count_cons f y (filter g xs))) (λ _. rest)

pub counted_about : (ms : List (Message ℕ)) (i : ℕ) (m : Message ℕ) → slice_get ms i ≡ Some m → (goes_home m.kind || comes_from_home m.kind) ≡ true
    → (c q : ℕ) → token m ≡ c → peer m ≡ q → 1 ≤ pending (filter (about m.place) ms) c q
counted_about ms i m at goes c q class end =
    let one = ap indicator (and_from _ _ (eq-eqb (token m) c class) (eq-eqb (peer m) q end)) in
    let some = count_kept (hits c q) (about m.place) ms i m at (and_from _ _ goes (eq-eqb m.place m.place refl)) in
    omega (arith, pending_is (filter (about m.place) ms) c q)

pub counted_crossing : (ms : List (Message ℕ)) (i : ℕ) (m : Message ℕ) → slice_get ms i ≡ Some m → (c s r : ℕ) → crosses c s r m ≡ true → 1 ≤ traffic ms c s r
counted_crossing ms i m at c s r is = ⊎_elim here (λ past. never (let none = slice_get_past ms i past in cc)) (cases_lt i (length ms))
  where
    here : i < length ms → 1 ≤ traffic ms c s r
    here within =
        let same : get_or ms i no_message ≡ m = (let there = slice_get-get_or ms i no_message within in cc) in
        let one = ap indicator (ap (crosses c s r) same ∙ is) in
        omega (arith, traffic_out ms i within s r c)

mapped_some : {X Y : Type 0} (f : X → Y) (o : Option X) → is_some o ≡ true → is_some (option_map f o) ≡ true
mapped_some f (Some x) is = refl
mapped_some f None is = is

home_numbered : (b : ℕ) → b < 16 → node_numbered (home_node b) ≡ Some (node.Home b)
home_numbered b small = grind arith

processor_numbered : (p : ℕ) → p < 4 → node_numbered p ≡ Some (node.Processor p)
processor_numbered p small = grind arith

bridge_some : {S : Type 0} (m : Meaning S) (d : ℕ) (b : Bridge S ℕ) (x : Message ℕ) → is_some (bridge_messages.receive_plan m d b x) ≡ true → is_some (bridge.receive m d b x) ≡ true
bridge_some m d b x is = grind arith

module _ {A B : Type 0} (ma : Meaning A) (mb : Meaning B) (w : World A B) (m : Message ℕ) (well : Well (figures ma mb w) m) where
  pub at_home : (b : ℕ) → b < 16 → m.receiver ≡ home_node b → is_some (home.received (home_at w b) b m) ≡ true → is_some (delivered ma mb w m) ≡ true
  at_home b small to ruled = rw (well, to, home_numbered b small) (mapped_some (by_home w b) (home.received (home_at w b) b m) ruled)

  pub at_processor : m.receiver < 4 → is_some (processor.receive (processor_at w m.receiver) m.receiver m) ≡ true → is_some (delivered ma mb w m) ≡ true
  at_processor small ruled = rw (well, processor_numbered m.receiver small) (mapped_some (by_processor w m.receiver) (processor.receive (processor_at w m.receiver) m.receiver m) ruled)

  pub at_first : m.receiver ≡ 4 → is_some (bridge_messages.receive_plan ma 0 w.first m) ≡ true → is_some (delivered ma mb w m) ≡ true
  at_first to ruled =
      let numbered : node_numbered m.receiver ≡ Some (node.Device 0) = ap node_numbered to in
      rw (well, numbered)
      (mapped_some (by_first w) (bridge.receive ma 0 w.first m) (bridge_some ma 0 w.first m ruled))

  pub at_second : m.receiver ≡ 5 → is_some (bridge_messages.receive_plan mb 1 w.second m) ≡ true → is_some (delivered ma mb w m) ≡ true
  at_second to ruled =
      let numbered : node_numbered m.receiver ≡ Some (node.Device 1) = ap node_numbered to in
      rw (well, numbered)
      (mapped_some (by_second w) (bridge.receive mb 1 w.second m) (bridge_some mb 1 w.second m ruled))
