-- Over every run, in trail order: stamps rise between conflicting entries, and every read has the current words. So every read
-- is current by stamps.
use Rattle.std.proofs.Common.{◌≡◌, ℕ, ◌+◌, ◌<◌, true, false, ◌||◌, eqb, ◌⊎◌, List, ◌++◌, get_or, Some, filter, Option, sym, ap, ◌∙◌, subst, inl, inr, ⊎_elim, arith}
use Rattle.bridge.proofs.Clocks as bridge
use Rattle.bridge.proofs.Writing as bridge_writing
use Rattle.bridge.specs.Inputs as bridge_input
use Rattle.bridge.specs.declared.state.Bridge.{Bridge}
use Rattle.device.specs.Meaning.{Meaning, Laws}
use Rattle.home.specs.Reactions.{received}
use Rattle.message.specs.declared.figures.Figures.{Figures}
use Rattle.message.specs.declared.reaction.Reaction.{Reaction}
use Rattle.ordering.specs.Operations.{is, is_read, is_write}
use Rattle.ordering.specs.Stamps.{below}
use Rattle.ordering.specs.Words.{one_word}
use Rattle.ordering.specs.declared.operation.Operation.TheVariants.{LdIo, StIo}
use Rattle.std.proofs.ByRecursion.{all-has}
use Rattle.std.proofs.lemmas.Bool.{and_parts, cases_eq, eqb-true}
use Rattle.std.proofs.lemmas.Bool.Decides.{nat_tests}
use Rattle.std.specs.Option.{option_to_list}
use Rattle.std.specs.List.{ContainsAt as Has, AllByRecursion as All}
use Rattle.trail.proofs.Covering.{covers_own_words}
use Rattle.trail.specs.Addresses.{address_of}
use Rattle.trail.specs.declared.address.Address.{Address}
use Rattle.trail.specs.declared.entry.Entry.{Entry}
use Rattle.coherence.proofs.Adding.{Adding, adding}
use Rattle.coherence.proofs.Arising.{Arises, at_processor, at_home, at_first, at_second}
use Rattle.coherence.proofs.Blocks.{Block, all_from_has, block, on}
use Rattle.coherence.proofs.Bounds.{Bounds, Fresh}
use Rattle.coherence.proofs.BoundsKept.{bounds_moved, fresh_moved}
use Rattle.coherence.proofs.Clocks.{Timely}
use Rattle.coherence.proofs.Dating.{Dated}
use Rattle.coherence.proofs.DeviceWords.{Mirrored, address}
use Rattle.coherence.proofs.Entering.{below_by_global, covered_block, on_memory}
use Rattle.coherence.proofs.HomeClocks.{HomeTimely, home_timely}
use Rattle.coherence.proofs.Keeping.{Kept, fitted}
use Rattle.coherence.proofs.Meeting.{Meets}
use Rattle.coherence.proofs.Moves.{Moves}
use Rattle.coherence.proofs.MovesCalls.{kept_entry}
use Rattle.coherence.proofs.Moving.{passes}
use Rattle.coherence.proofs.Reading.{Reads, current}
use Rattle.coherence.proofs.ReadingAbout.{covers_on, current_about}
use Rattle.coherence.proofs.Rising.{Rises}
use Rattle.coherence.proofs.Seats.{no_device_words, rises_at_node}
use Rattle.coherence.proofs.Spaces.{Placed, Spaced, placed, same_space}
use Rattle.coherence.proofs.Stepping.{after}
use Rattle.coherence.proofs.Timing.{came_so}
use Rattle.coherence.proofs.Tokens.{Tokens}
use Rattle.coherence.proofs.TokensKept.{near_block, tokens_moved}
use Rattle.coherence.proofs.Tracking.{kept_passes}
use Rattle.coherence.proofs.Values.{Values}
use Rattle.coherence.proofs.ValuesKept.{values_moved, values_read}
use Rattle.coherence.specs.Makings.{Making}
use Rattle.coherence.specs.Promise.{at_making}
use Rattle.coherence.specs.Steps.{Effect, by_first, by_second, waiting}
use Rattle.coherence.specs.Worlds.{World, home_at, processor_at}
use Rattle.coherence.specs.declared.call.Call.{Call}

-- What the operation on a block starts from.
record Good (b : ℕ) (start : Address → ℕ) (x : Block) : Type 0 where
  tokens : Tokens x
  bounds : Bounds x
  values : Values b start x

module _ {A B : Type 0} (ma : Meaning A) (mb : Meaning B) (la : Laws ma) (lb : Laws mb) (start : Address → ℕ) (f : Figures) (w : World A B)
    (fit : w.fit ≡ true) (kept : Kept ma mb f w) (values : (b : ℕ) → b < 16 → Values b start (block b w)) (c : Call) (e : Effect A B) (meeting : Meets ma mb w c e)
    (x : Entry) (is : e.entry ≡ Some x) where
  -- an entry on memory comes by a move of its block
  added : (b : ℕ) → b < 16 → on b x ≡ true → Adding (Good b start) b (filter (on b) w.trail) x
  added b low here =
      let good : Good b start (block b w) = record { tokens = kept.tokens b low; bounds = kept.bounds b low; values = values b low } in
      let later : (z : Block) → Moves b (block b w) z → Good b start z = λ z m. record {
        tokens = tokens_moved b (block b w) z good.tokens (inl (near_block b w)) m;
        bounds = bounds_moved b (block b w) z good.tokens good.bounds m;
        values = values_moved b start (block b w) z good.tokens good.values m;
      } in
      adding (Good b start) b (block b w) (block b (after w (waiting ma mb c w) e)) good later x
      (ap (λ (o : Option Entry). filter (on b) (w.trail ++ option_to_list o)) is ∙ kept_entry b w.trail x here)
      (passes ma mb la lb w (fitted ma mb f w fit kept) b low c e meeting)

  fresh : (b : ℕ) → b < 16 → on b x ≡ true → All (λ g. on b g ≡ true → (is_write g.operation || is_write x.operation) ≡ true → (g.stamp.node ≡ x.stamp.node → ⊥) → g.stamp.global < x.stamp.global) w.trail
  fresh b low here =
      let a = added b low here in
      kept_passes _ (on b) w.trail
      (subst (λ (es : List Entry). Fresh es x) a.same (fresh_moved b a.before a.after a.good.tokens a.good.bounds x a.grown a.move))

  reads_memory : (b : ℕ) → b < 16 → on b x ≡ true → Reads (current start w.trail) x
  reads_memory b low here read n has =
      let a = added b low here in
      let old : Reads (current start (filter (on b) w.trail)) x =
      subst (λ (es : List Entry). Reads (current start es) x) a.same (values_read b start a.before a.after a.good.tokens a.good.values a.move x a.grown) in
      let own = covered_block b x (address_of x n) here (covers_own_words.own x n has) in
      old read n has ∙ current_about b (address_of x n) own.0 own.1 start w.trail

  module _ (arises : Arises ma mb w e) (time : Timely w e) (dated : All (Dated w) w.trail) (places : All Placed w.trail) where
    new : Placed x
    new = placed ma mb la lb w e arises x is

    rises : (g : Entry) → Has w.trail g → Rises g x
    rises g has conflict = go (cases_eq g.stamp.node x.stamp.node)
      where
        a : Address
        a = conflict.shared

        space : g.space ≡ x.space
        space =
            eqb-true g.space a.space (and_parts (eqb g.space a.space) _ conflict.early).0
            ∙ sym (eqb-true x.space a.space (and_parts (eqb x.space a.space) _ conflict.late).0)

        go : (g.stamp.node ≡ x.stamp.node) ⊎ (g.stamp.node ≡ x.stamp.node → ⊥) → below g.stamp x.stamp ≡ true
        go (inl same) = rises_at_node w e time x is g (all-has (Dated w) w.trail g dated has) same
        go (inr apart) = ⊎_elim memory (λ same. absurd (apart same)) (same_space g x (all-has Placed w.trail g places has) new space conflict.written)
          where
            memory : (g.space ≡ 0) × (x.space ≡ 0) → below g.stamp x.stamp ≡ true
            memory both =
                let m = on_memory ma mb w c e meeting x is both.1 in
                let own = covered_block m.0 x a m.2 conflict.late in
                let there = covers_on m.0 a own.0 own.1 g conflict.early in
                below_by_global g.stamp x.stamp (all-has _ w.trail g (fresh m.0 m.1 m.2) has there conflict.written apart)

    pub all_rise : All (λ g. Rises g x) w.trail
    all_rise = all_from_has (λ g. Rises g x) w.trail rises

-- what an LDio read of a device's words is what stands in the device's space
device_reads : (now : Address → ℕ) (d : ℕ) (ws : List ℕ) (x : Entry) → x.space ≡ 1 + d → (is LdIo x.operation || is StIo x.operation) ≡ true
    → (is LdIo x.operation ≡ true → x.values ≡ one_word (get_or ws x.place 0)) → now (address (1 + d) x.place) ≡ get_or ws x.place 0 → Reads now x
device_reads now d ws x space io loaded stands read n has = grind (arith, nat_tests)

-- a read that is not of a device's word is on memory
memory_reads : (x : Entry) → Spaced x → (is LdIo x.operation || is StIo x.operation) ≡ false → is_read x.operation ≡ true → x.space ≡ 0
memory_reads x spaced io read = grind (arith, nat_tests)

module _ {A B : Type 0} (ma : Meaning A) (mb : Meaning B) (la : Laws ma) (lb : Laws mb) (k : Making A B) (f : Figures) (w : World A B)
    (fit : w.fit ≡ true) (kept : Kept ma mb f w) (values : (b : ℕ) → b < 16 → Values b (at_making ma mb k) (block b w)) (mirrored : Mirrored ma mb la lb k w)
    (c : Call) (e : Effect A B) (meeting : Meets ma mb w c e) (arises : Arises ma mb w e) (x : Entry) (is : e.entry ≡ Some x) where
  abbrev now : Address → ℕ
  now = current (at_making ma mb k) w.trail

  on_blocks : x.space ≡ 0 → Reads now x
  on_blocks memory =
      let m = on_memory ma mb w c e meeting x is memory in
      reads_memory ma mb la lb (at_making ma mb k) f w fit kept values c e meeting x is m.0 m.1 m.2

  at_first_device : (i : bridge_input.Input) (r : Reaction (Bridge A ℕ)) → bridge_input.reaction ma 0 w.first i ≡ Some r → e ≡ by_first w r → Reads now x
  at_first_device i r h by =
      let j : r.entry ≡ Some x = sym (ap (λ (y : Effect A B). y.entry) by) ∙ is in
      let law = bridge_writing.only_stores_write ma la in
      device_reads now 0 (ma.words w.first.device) x ((bridge.entries_are_stamped ma).stamps w.first 0 i r h x j).1 (law.places w.first 0 i r h x j).0 (law.loads w.first 0 i r h x j)
      (mirrored.first x.place)

  at_second_device : (i : bridge_input.Input) (r : Reaction (Bridge B ℕ)) → bridge_input.reaction mb 1 w.second i ≡ Some r → e ≡ by_second w r → Reads now x
  at_second_device i r h by =
      let j : r.entry ≡ Some x = sym (ap (λ (y : Effect A B). y.entry) by) ∙ is in
      let law = bridge_writing.only_stores_write mb lb in
      device_reads now 1 (mb.words w.second.device) x ((bridge.entries_are_stamped mb).stamps w.second 1 i r h x j).1 (law.places w.second 1 i r h x j).0 (law.loads w.second 1 i r h x j)
      (mirrored.second x.place)

  pub reads_now : Reads now x
  reads_now = go arises
    where
      spaced : Spaced x
      spaced = (placed ma mb la lb w e arises x is).spaced

      go : Arises ma mb w e → Reads now x
      go (at_first i r h by) = at_first_device i r h by
      go (at_second i r h by) = at_second_device i r h by
      go (at_home b small m r h by) =
          let t = came_so (received (home_at w b) b m) (HomeTimely (home_at w b).clock b) r h (home_timely (home_at w b) b m) in
          on_blocks (t.enters x (sym (ap (λ (y : Effect A B). y.entry) by) ∙ is)).space
      go (at_processor p small i r h by) =
          λ read. on_blocks (memory_reads x spaced (no_device_words (processor_at w p) p i r h x (sym (ap (λ (y : Effect A B). y.entry) by) ∙ is)) read) read
