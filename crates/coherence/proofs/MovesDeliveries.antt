-- A message about a block reaches a processor: it gives way, takes a reply, or ends a refused request.
use Rattle.std.proofs.Common.{◌≡◌, ℕ, ◌+◌, ◌<◌, max, true, false, cond, ◌||◌, eqb, List, [], ◌∷◌, ◌++◌, length, get_or, Some, None, filter, Option, sym, refl, ap, ◌∙◌, subst, ⊎_elim, arith}
use Rattle.list.specs.Contents.{removed}
use Rattle.message.specs.Kinds.{is_request}
use Rattle.message.specs.Laws.{goes_home, comes_from_home}
use Rattle.message.specs.Messages.{no_message, plain}
use Rattle.message.specs.Nodes.{home_node, is_device}
use Rattle.message.specs.Reactions.{sent, quiet}
use Rattle.message.specs.Requests.{out}
use Rattle.message.specs.declared.kind.Kind.{Kind}
use Rattle.message.specs.declared.kind.Kind.TheVariants as kind
use Rattle.message.specs.declared.message.Message.{Message}
use Rattle.message.specs.declared.reaction.Reaction.{Reaction}
use Rattle.ordering.specs.Clocks.{passed}
use Rattle.ordering.specs.Words.{no_words}
use Rattle.ordering.specs.declared.operation.Words.{Words}
use Rattle.processor.specs.Inputs.{Receive}
use Rattle.processor.specs.Lines.{line_at}
use Rattle.processor.specs.Receive.{Outcome, acknowledgement, giving_way, taking, taking_line, invalidated, downgraded, shared, owned, granted, done, nacked, receive_kind, receive}
use Rattle.processor.specs.States.{at_request}
use Rattle.processor.specs.declared.line.Line.{Line}
use Rattle.processor.specs.declared.line.Line.TheVariants.{Invalid, Shared, Exclusive}
use Rattle.processor.specs.declared.state.Processor.{Processor}
use Rattle.std.proofs.lemmas.List.{get_or-set_same}
use Rattle.std.proofs.lemmas.Bool.{and_parts, both_ways, cases_Bool, eq-eqb, eqb-true, ne_eqb, lt-ltb}
use Rattle.std.proofs.lemmas.Bool.Decides.{nat_tests}
use Rattle.std.specs.Option.{option_to_list}
use Rattle.std.specs.Prelude.{unwrap_or}
use Rattle.coherence.proofs.Arising.{never}
use Rattle.coherence.proofs.Blocks.{Block, Posted, block, about, on, token, peer}
use Rattle.coherence.proofs.Classes.{marked_ack, refusal_of}
use Rattle.coherence.proofs.Clocks.{Shape}
use Rattle.coherence.proofs.Moves.{Moves, GivesWay, Takes, invalidates_shared, invalidates_owned, downgrades, shares, owns, betters, gives_back, nacked as ends}
use Rattle.coherence.proofs.MovesFacts as facts
use Rattle.coherence.proofs.MovesElsewhere.{Touches, sends_elsewhere}
use Rattle.coherence.proofs.MovesProcessors.{kept, lines_put, lines_stay, outs_put, outs_stay, clocks_rise, put, processor_rests}
use Rattle.coherence.proofs.Posts.{kept_added, kept_one, kept_still, posted_delivery}
use Rattle.coherence.proofs.Stepping.{after}
use Rattle.coherence.proofs.Tables.{ProcessorTables}
use Rattle.coherence.specs.Steps.{by_processor}
use Rattle.coherence.specs.Worlds.{World, processor_at}

-- a refused kind is a request
abbrev pub WellRefused : Message ℕ → Type 0
WellRefused m = (k : Kind) → m.refused ≡ Some k → is_request k ≡ true

pub nack_token : (m : Message ℕ) (k : Kind) → m.kind ≡ kind.Nack → m.refused ≡ Some k → token m ≡ refusal_of k
nack_token m k is refuses = rw (is, refuses) refl

-- what is about a block and has a rule at a processor comes from the home
for_processors : (s : Processor ℕ) (n : ℕ) (m : Message ℕ) (r : Reaction (Processor ℕ)) → receive s n m ≡ Some r → (goes_home m.kind || comes_from_home m.kind) ≡ true → comes_from_home m.kind ≡ true
for_processors s n m r h about = grind (arith, nat_tests)

module _ {A B : Type 0} (w : World A B) (shape : Shape w) (p : ℕ) (small : p < 4) (tables : ProcessorTables (processor_at w p)) (b : ℕ) (low : b < 16)
    (i : ℕ) (there : i < length w.messages) (m : Message ℕ) (is : get_or w.messages i no_message ≡ m) (to : m.receiver ≡ p) where
  abbrev state : Processor ℕ
  state = processor_at w p

  abbrev x : Block
  x = block b w

  abbrev ms : List (Message ℕ)
  ms = removed w.messages i

  abbrev y : Reaction (Processor ℕ) → Block
  y r = block b (after w ms (by_processor w p r))

  -- the message goes, and those come that the processor sends about the block
  posted : (r : Reaction (Processor ℕ)) (ns : List (Message ℕ)) → about b m ≡ true → filter (about b) (sent r.sent) ≡ ns
      → Posted x.messages (m ∷ []) ns (y r).messages
  posted r ns here come =
      let P : List (Message ℕ) → List (Message ℕ) → Type 0 = λ gone new. Posted x.messages gone new (y r).messages in
      let whole : P (filter (about b) (get_or w.messages i no_message ∷ [])) (filter (about b) (sent r.sent)) = posted_delivery (about b) w.messages (sent r.sent) i there in
      let one : filter (about b) (get_or w.messages i no_message ∷ []) ≡ m ∷ [] = ap (λ (n : Message ℕ). filter (about b) (n ∷ [])) is ∙ kept_one (about b) m here in
      subst (λ (new : List (Message ℕ)). P (m ∷ []) new) come (subst (λ (gone : List (Message ℕ)). P gone (filter (about b) (sent r.sent))) one whole)

  self : eqb b b ≡ true
  self = eq-eqb b b refl

  module _ (from : m.sender ≡ home_node b) (place : m.place ≡ b) where
    -- the message by the home and the block that it names
    abbrev named : Message ℕ
    named = record m { sender = home_node b; place = b }

    same : m ≡ named
    same = λ i. record m { sender = from i; place = place i }

    -- INV and DOWN
    gives : (k : Kind) (old new : Line) (mine : Option Words) (c d : ℕ) → m.kind ≡ k → about b m ≡ true → token m ≡ c → peer m ≡ p
        → token (acknowledgement p named 0 mine) ≡ d → line_at state.lines b ≡ old
        → GivesWay b x (y (giving_way state p named new mine)) p old new c d (unwrap_or mine no_words) m
        (acknowledgement p named (passed state.clock state.clock.global).global mine)
    gives k old new mine c d is_kind here class end class_back was =
        let z = giving_way state p named new mine in
        let g = state.clock.global in
        let clock : (y z).clock p ≡ max g g + 1 = put w shape p small (λ s. s.clock.global) z.next p ∙ rw (eq-eqb p p refl) refl in
        let line : line_at z.next.lines b ≡ new = get_or-set_same state.lines.at b new Invalid (omega (arith, tables.lines)) in
        record {
          small = small;
          was = was;
          class = class;
          end = end;
          class_back = class_back;
          end_back = refl;
          clock_back = sym clock;
          words_back = refl;
          onward = omega arith;
          lines = λ q. lines_put w shape p small b ms z q ∙ ap (λ (l : Line). cond (eqb p q) l (x.line q)) line;
          outs = outs_stay w shape p small b ms z refl;
          clocks = clocks_rise w shape p small b ms z (omega arith);
          home = refl;
          messages = posted z _ here (kept_one (about b) _ self);
          trail = kept_added (on b) w.trail [] refl;
        }

    -- replies, with the line that they leave
    takes : (k : Kind) (old new : Line) (z : Reaction (Processor ℕ)) (c : ℕ) → about b m ≡ true → token m ≡ c → peer m ≡ p
        → out state.requests b ≡ Some k → line_at state.lines b ≡ old → line_at z.next.lines b ≡ new
        → z.sent ≡ (taking state p named).sent → z.entry ≡ None
        → z.next.requests ≡ (taking state p named).next.requests
        → z.next.clock ≡ passed state.clock m.clock
        → Takes b x (y z) p k old new c m
    takes k old new z c here class end asked was line sends does outs clock =
        let g = state.clock.global in
        let now : (y z).clock p ≡ max g m.clock + 1 = put w shape p small (λ s. s.clock.global) z.next p ∙ rw (eq-eqb p p refl) (ap (λ k. k.global) clock) in
        let up : z.next.clock.global ≡ max g m.clock + 1 = ap (λ k. k.global) clock in
        let none : out z.next.requests b ≡ None = ap (λ r. out r b) outs ∙ get_or-set_same state.requests.at b None None (omega (arith, tables.requests)) in
        let come : filter (about b) (sent z.sent) ≡ plain kind.Taken p (home_node b) b ∷ [] = ap (λ o. filter (about b) (sent o)) sends ∙ kept_one (about b) _ self in
        record {
          asked = rw (lt-ltb p 4 small) asked;
          was = was;
          class = class;
          end = end;
          onward = λ _. omega arith;
          lines = λ q. lines_put w shape p small b ms z q ∙ ap (λ (l : Line). cond (eqb p q) l (x.line q)) line;
          outs = λ q. outs_put w shape p small b ms z q ∙ ap (λ (o : Option Kind). cond (eqb p q) o (x.out q)) none;
          clocks = clocks_rise w shape p small b ms z (omega arith);
          home = refl;
          messages = posted z _ here come;
          trail = ap (λ o. filter (on b) (w.trail ++ option_to_list o)) does ∙ kept_added (on b) w.trail [] refl;
        }

    not_device : is_device m.receiver ≡ false
    not_device = rw (to, ne_eqb p 4 (omega arith), ne_eqb p 5 (omega arith)) refl

    -- what a kind's rule says of it
    said : (f : Message ℕ → Outcome) (r : Reaction (Processor ℕ)) → f m ≡ Some r → f named ≡ Some r
    said f r h = subst (λ (n : Message ℕ). f n ≡ Some r) same h

    by_kind : (k : Kind) (r : Reaction (Processor ℕ)) → m.kind ≡ k → about b m ≡ true → WellRefused m → receive_kind k state p m ≡ Some r → Moves b x (y r)
    by_kind kind.Int r k here ok h = absurd (both_ways (about b m) (rw k refl) here)
    by_kind kind.Value r k here ok h = absurd (both_ways (about b m) (rw k refl) here)
    by_kind kind.Inv r k here ok h = go (facts.invalidates state p r named (said (invalidated state p) r h))
      where
        go : facts.Invalidates state p r named → Moves b x (y r)
        go (facts.shared_copy ws was form) =
            subst (λ (z : Reaction (Processor ℕ)). Moves b x (y z)) (sym form)
            (invalidates_shared p ws m _ (gives kind.Inv (Shared ws) Invalid None 10 12 k here (rw k refl) (rw k to) refl was))
        go (facts.owned_copy ws was form) =
            subst (λ (z : Reaction (Processor ℕ)). Moves b x (y z)) (sym form)
            (invalidates_owned p ws m _ (gives kind.Inv (Exclusive ws) Invalid (Some ws) 10 marked_ack k here (rw k refl) (rw k to) refl was))
    by_kind kind.Down r k here ok h =
        let f = facts.downgrades state p r named (said (downgraded state p) r h) in
        subst (λ (z : Reaction (Processor ℕ)). Moves b x (y z)) (sym f.2)
        (downgrades p f.0 m _ (gives kind.Down (Exclusive f.0) (Shared f.0) (Some f.0) 11 marked_ack k here (rw k refl) (rw k to) refl f.1))
    by_kind kind.SData r k here ok h =
        let f = facts.shares state p r named (said (shared state p) r h) in
        let line = get_or-set_same state.lines.at b (Shared m.words) Invalid (omega (arith, tables.lines)) in
        subst (λ (z : Reaction (Processor ℕ)). Moves b x (y z)) (sym f.1)
        (shares p m small (takes kind.Gets (x.line p) (Shared m.words) (taking_line state p named (Shared m.words)) 13 here (rw k refl) (rw k to) f.0 refl line refl refl refl refl))
    by_kind kind.XData r k here ok h =
        let f = facts.owns state p r named (said (owned state p) r h) in
        let line = get_or-set_same state.lines.at b (Exclusive m.words) Invalid (omega (arith, tables.lines)) in
        subst (λ (z : Reaction (Processor ℕ)). Moves b x (y z)) (sym f.1)
        (owns p m small (takes kind.Getx (x.line p) (Exclusive m.words) (taking_line state p named (Exclusive m.words)) 14 here (rw k refl) (rw k to) f.0 refl line refl refl refl refl))
    by_kind kind.Grant r k here ok h =
        let f = facts.betters state p r named (said (granted state p) r h) in
        let ws = f.1 in
        let line = get_or-set_same state.lines.at b (Exclusive ws) Invalid (omega (arith, tables.lines)) in
        subst (λ (z : Reaction (Processor ℕ)). Moves b x (y z)) (sym f.3)
        (betters p ws m small (takes kind.Upg (Shared ws) (Exclusive ws) (taking_line state p named (Exclusive ws)) 15 here (rw k refl) (rw k to) f.0 f.2 line refl refl refl refl))
    by_kind kind.Done r k here ok h =
        let f = facts.gives_back state p r named (said (done state p) r h) in
        subst (λ (z : Reaction (Processor ℕ)). Moves b x (y z)) (sym f.1)
        (gives_back p m small (takes kind.Wb (x.line p) (x.line p) (taking state p named) 16 here (rw (k, not_device) refl) (rw k to) f.0 refl refl refl refl refl refl))
    by_kind kind.Nack r k here ok h =
        let f = facts.ends state p r named (said (nacked state) r h) in
        let z = quiet (at_request b None state) in
        let none : out z.next.requests b ≡ None = get_or-set_same state.requests.at b None None (omega (arith, tables.requests)) in
        subst (λ (z : Reaction (Processor ℕ)). Moves b x (y z)) (sym f.3)
        (ends p f.0 m (ok f.0 f.1) (record {
          asked = rw (lt-ltb p 4 small) f.2;
          class = nack_token m f.0 k f.1;
          end = rw k to;
          lines = lines_stay w shape p small b ms z refl;
          outs = λ q. outs_put w shape p small b ms z q ∙ ap (λ (o : Option Kind). cond (eqb p q) o (x.out q)) none;
          clocks = kept w shape p small (λ s. s.clock.global) z.next refl;
          home = refl;
          messages = posted z [] here refl;
          trail = kept_added (on b) w.trail [] refl;
        }))
    by_kind _ r k here ok h = never cc

  -- Whatever reaches a processor is a move of the block.
  pub delivery_moves : (r : Reaction (Processor ℕ)) → (comes_from_home m.kind ≡ true → m.sender ≡ home_node m.place) → WellRefused m
      → receive state p m ≡ Some r → Moves b x (y r)
  delivery_moves r sound ok h = ⊎_elim near far (cases_Bool (about b m))
    where
      far : about b m ≡ false → Moves b x (y r)
      far other =
          let not_here : Touches b (Receive m) → ⊥ = λ here. both_ways (about b m) other here in
          processor_rests w shape p small b ms r (Receive m) h not_here
          (kept_still (about b) w.messages (sent r.sent) i no_message there (ap (about b) is ∙ other) (sends_elsewhere b state p (Receive m) r h not_here))

      near : about b m ≡ true → Moves b x (y r)
      near here =
          let parts = and_parts (goes_home m.kind || comes_from_home m.kind) (eqb m.place b) here in
          let place = eqb-true m.place b parts.1 in
          let comes = for_processors state p m r h parts.0 in
          by_kind (sound comes ∙ ap home_node place) place m.kind r refl here ok h
