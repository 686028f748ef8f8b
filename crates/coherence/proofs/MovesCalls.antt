-- A processor's call about a block: it loads, stores or requests.
use Rattle.std.proofs.Common.{◌≡◌, ℕ, ◌/◌, ◌<◌, true, cond, eqb, List, [], ◌∷◌, ◌++◌, Some, None, filter, Option, sym, refl, ap, ◌∙◌, subst, inl, ⊎_elim, arith}
use Rattle.message.specs.Kinds.{kind_number, request_numbered}
use Rattle.message.specs.Messages.{plain}
use Rattle.message.specs.Nodes.{home_node}
use Rattle.message.specs.Reactions.{sent}
use Rattle.message.specs.Requests.{out}
use Rattle.message.specs.declared.kind.Kind.{Kind}
use Rattle.message.specs.declared.message.Message.{Message}
use Rattle.message.specs.declared.reaction.Reaction.{Reaction}
use Rattle.ordering.specs.declared.operation.Operation.TheVariants.{Ld, St}
use Rattle.processor.specs.Calls.{operation_entry}
use Rattle.processor.specs.Inputs.{Input, Load, Store, Request, Ldio, Stio, Collect, GiveUp, Poll, Receive, reaction, message_of}
use Rattle.processor.specs.Lines.{line_at, held_words, with_line, with_word, word_of, block_of}
use Rattle.processor.specs.declared.line.Line.{Line}
use Rattle.processor.specs.declared.line.Line.TheVariants.{Invalid, Exclusive}
use Rattle.processor.specs.declared.state.Processor.{Processor}
use Rattle.std.proofs.lemmas.List.Elements.{filter-append}
use Rattle.std.proofs.lemmas.List.{get_or-set_same}
use Rattle.std.proofs.lemmas.Bool.{cases_eq, eq-eqb, lt-ltb}
use Rattle.std.proofs.lemmas.Bool.Decides.{nat_tests}
use Rattle.trail.specs.declared.entry.Entry.{Entry}
use Rattle.coherence.proofs.Arising.{never}
use Rattle.coherence.proofs.Blocks.{Block, Posted, block, about, on, token, peer}
use Rattle.coherence.proofs.Clocks.{Shape}
use Rattle.coherence.proofs.Moves.{Moves, loads, stores, requests}
use Rattle.coherence.proofs.MovesFacts.{loaded, load_done, stored, store_done, requested, request_sent}
use Rattle.coherence.proofs.MovesElsewhere.{Touches, sends_elsewhere}
use Rattle.coherence.proofs.MovesProcessors.{kept, lines_put, lines_stay, outs_put, outs_stay, processor_rests}
use Rattle.coherence.proofs.Posts.{kept_added, kept_one, posted_call}
use Rattle.coherence.proofs.Stepping.{after}
use Rattle.coherence.proofs.Tables.{ProcessorTables}
use Rattle.coherence.specs.Steps.{by_processor}
use Rattle.coherence.specs.Worlds.{World, processor_at}

-- an entry on block b is kept
pub kept_entry : (b : ℕ) (es : List Entry) (e : Entry) → on b e ≡ true → filter (on b) (es ++ e ∷ []) ≡ filter (on b) es ++ e ∷ []
kept_entry b es e is = filter-append (on b) es (e ∷ []) ∙ ap (λ (xs : List Entry). filter (on b) es ++ xs) (kept_one (on b) e is)

-- a request is about its block, and its class is its kind's
requests_tokens : (k : Kind) (j n b : ℕ) → request_numbered j ≡ Some k
    → (about b (plain k n (home_node b) b) ≡ true) × (token (plain k n (home_node b) b) ≡ kind_number k) × (peer (plain k n (home_node b) b) ≡ n)
requests_tokens k j n b is = (grind (arith, nat_tests), grind (arith, nat_tests), grind (arith, nat_tests))

-- The requests of calls are those with a number.
abbrev pub ByNumber : Input → Type 0
ByNumber (Request a k) = (j : ℕ) × (request_numbered j ≡ Some k)
ByNumber _ = Unit {0}

module _ {A B : Type 0} (w : World A B) (shape : Shape w) (p : ℕ) (small : p < 4) (tables : ProcessorTables (processor_at w p)) (b : ℕ) (low : b < 16) where
  abbrev state : Processor ℕ
  state = processor_at w p

  abbrev x : Block
  x = block b w

  abbrev y : Reaction (Processor ℕ) → Block
  y r = block b (after w w.messages (by_processor w p r))

  clocks_same : (r : Reaction (Processor ℕ)) → r.next.clock.global ≡ state.clock.global → (q : ℕ) → (y r).clock q ≡ x.clock q
  clocks_same r same = kept w shape p small (λ s. s.clock.global) r.next same

  call_loads : (n : ℕ) (r : Reaction (Processor ℕ)) → reaction state p (Load n) ≡ Some r → block_of n ≡ b → Moves b x (y r)
  call_loads n r h here =
      let f = loaded state p r n h in
      let ws = f.0 in
      let e = operation_entry state p Ld n (word_of ws n) in
      subst (λ (q : Reaction (Processor ℕ)). Moves b x (y q)) (sym f.2)
      (loads p n ws e (record {
        small = small;
        word = here;
        held = subst (λ (a : ℕ). held_words (line_at state.lines a) ≡ Some ws) here f.1;
        entry = record { operation = refl; space = refl; place = refl; values = refl; node = refl; global = refl };
        lines = lines_stay w shape p small b w.messages (load_done state p r n ws) refl;
        outs = outs_stay w shape p small b w.messages (load_done state p r n ws) refl;
        clocks = clocks_same (load_done state p r n ws) refl;
        home = refl;
        messages = kept_added (about b) w.messages [] refl;
        trail = kept_entry b w.trail e (eq-eqb (n / 4) b here);
      }))

  call_stores : (n v : ℕ) (r : Reaction (Processor ℕ)) → reaction state p (Store n v) ≡ Some r → block_of n ≡ b → Moves b x (y r)
  call_stores n v r h here =
      let f = stored state p r n v h in
      let ws = f.0 in
      let e = operation_entry state p St n v in
      let z = store_done state p r n v ws in
      let new : line_at z.next.lines b ≡ Exclusive (with_word ws n v) =
      ap (λ (a : ℕ). line_at (with_line state.lines a (Exclusive (with_word ws n v))) b) here
      ∙ get_or-set_same state.lines.at b (Exclusive (with_word ws n v)) Invalid (omega (arith, tables.lines)) in
      subst (λ (q : Reaction (Processor ℕ)). Moves b x (y q)) (sym f.2)
      (stores p n v ws e (record {
        small = small;
        word = here;
        owned = subst (λ (a : ℕ). line_at state.lines a ≡ Exclusive ws) here f.1;
        entry = record { operation = refl; space = refl; place = refl; values = refl; node = refl; global = refl };
        lines = λ q. lines_put w shape p small b w.messages z q ∙ ap (λ (l : Line). cond (eqb p q) l (x.line q)) new;
        outs = outs_stay w shape p small b w.messages z refl;
        clocks = clocks_same z refl;
        home = refl;
        messages = kept_added (about b) w.messages [] refl;
        trail = kept_entry b w.trail e (eq-eqb (n / 4) b here);
      }))

  call_requests : (k : Kind) (j : ℕ) (r : Reaction (Processor ℕ)) → request_numbered j ≡ Some k → reaction state p (Request b k) ≡ Some r → Moves b x (y r)
  call_requests k j r own h =
      let f = requested state p r b k h in
      let z = request_sent state p r b k in
      let m = plain k p (home_node b) b in
      let t = requests_tokens k j p b own in
      let new : out z.next.requests b ≡ Some k = get_or-set_same state.requests.at b (Some k) None (omega (arith, tables.requests)) in
      let post : Posted x.messages [] (m ∷ []) (y z).messages =
      subst (λ (ns : List (Message ℕ)). Posted x.messages [] ns (y z).messages) (kept_one (about b) m t.0) (posted_call (about b) w.messages (m ∷ [])) in
      subst (λ (q : Reaction (Processor ℕ)). Moves b x (y q)) (sym f.3)
      (requests p k m (record {
        free = rw (lt-ltb p 4 small) f.2;
        fit = inl (small, f.1);
        class = t.1;
        end = t.2;
        four = refl;
        lines = lines_stay w shape p small b w.messages z refl;
        outs = λ q. outs_put w shape p small b w.messages z q ∙ ap (λ (o : Option Kind). cond (eqb p q) o (x.out q)) new;
        clocks = clocks_same z refl;
        home = refl;
        messages = post;
        trail = kept_added (on b) w.trail [] refl;
      }))

  -- a call that is about another block, or about none
  call_rests : (i : Input) (r : Reaction (Processor ℕ)) → reaction state p i ≡ Some r → (Touches b i → ⊥) → Moves b x (y r)
  call_rests i r h other =
      processor_rests w shape p small b w.messages r i h other
      (kept_added (about b) w.messages (sent r.sent) (sends_elsewhere b state p i r h other))

  pub call_moves : (i : Input) (r : Reaction (Processor ℕ)) → reaction state p i ≡ Some r → message_of i ≡ None → ByNumber i → Moves b x (y r)
  call_moves (Load n) r h own k = ⊎_elim (call_loads n r h) (call_rests (Load n) r h) (cases_eq (block_of n) b)
  call_moves (Store n v) r h own k = ⊎_elim (call_stores n v r h) (call_rests (Store n v) r h) (cases_eq (block_of n) b)
  call_moves (Request a k) r h own j =
      ⊎_elim
      (λ here. call_requests k j.0 r j.1 (subst (λ (c : ℕ). reaction state p (Request c k) ≡ Some r) here h))
      (call_rests (Request a k) r h)
      (cases_eq a b)
  call_moves (Ldio d n) r h own k = call_rests (Ldio d n) r h (λ e. e)
  call_moves (Stio d n v) r h own k = call_rests (Stio d n v) r h (λ e. e)
  call_moves (Collect d) r h own k = call_rests (Collect d) r h (λ e. e)
  call_moves (GiveUp d) r h own k = call_rests (GiveUp d) r h (λ e. e)
  call_moves Poll r h own k = call_rests Poll r h (λ e. e)
  call_moves (Receive m) r h own k = never cc
