-- A home that finishes: what it reads for a device, and what it replies, stands in the block; and what it writes stands there
-- from now on, when nobody has a copy.
use Rattle.std.proofs.Common.{◌≡◌, ℕ, ◌+◌, ◌*◌, ◌/◌, ◌<◌, true, false, ◌⊎◌, List, [], ◌∷◌, ◌++◌, length, get_or, Some, None, Option, sym, refl, ap, ◌∙◌, subst, inl, inr, arith}
use Rattle.home.specs.Directories.{round_of}
use Rattle.home.specs.Reactions.{block_entry, clock_after, entry_for, reply, words_after}
use Rattle.home.specs.Requests.{carries_words, operation_for}
use Rattle.home.specs.declared.machine.Home.{Home}
use Rattle.home.specs.declared.request.Request.{Request}
use Rattle.message.specs.Kinds.{same_kind}
use Rattle.message.specs.declared.kind.Kind.{Kind}
use Rattle.message.specs.declared.kind.Kind.TheVariants.{Wblk}
use Rattle.ordering.specs.Words.{no_words}
use Rattle.ordering.specs.declared.clock.Clock.{Clock}
use Rattle.ordering.specs.declared.operation.Operation.{Operation}
use Rattle.ordering.specs.declared.operation.Operation.TheVariants.{LdBlk, StBlk}
use Rattle.ordering.specs.declared.operation.Words.{Words}
use Rattle.processor.specs.Lines.{held_words}
use Rattle.std.proofs.ByRecursion.{All-weaker}
use Rattle.std.proofs.lemmas.List.{append-nil}
use Rattle.std.proofs.lemmas.Bool.{cond_both, cond-false, cond-true, eq-eqb, ltb-true}
use Rattle.std.proofs.lemmas.Bool.Decides.{nat_tests}
use Rattle.std.specs.Option.{option_to_list}
use Rattle.std.specs.List.{AllByRecursion as All}
use Rattle.trail.specs.declared.address.Address.{Address}
use Rattle.trail.specs.declared.entry.Entry.{Entry}
use Rattle.coherence.proofs.Adding.{grown, last_entry}
use Rattle.coherence.proofs.Blocks.{Block, pending, posted_all, token}
use Rattle.coherence.proofs.Carrying.{gathers}
use Rattle.coherence.proofs.Counting.{indicator}
use Rattle.coherence.proofs.DeviceWords.{address}
use Rattle.coherence.proofs.Moves.{Finishes}
use Rattle.coherence.proofs.Reading.{Reads, current, current_written, no_read}
use Rattle.coherence.proofs.Sole.{empty_has, none_asked, none_owned}
use Rattle.coherence.proofs.Tokens.{Tokens, awaited, gathering, held, lowers, serving}
use Rattle.coherence.proofs.Values.{Bare, Data, Four, Says, Values, bare_data, carries, now, says_still}
use Rattle.coherence.proofs.ValuesOperations.{none_carried, none_held, now_kept}

-- What a home does, by the kind of the request: nothing of its own, LDblk, or STblk.
abbrev Does : Kind → Type 0
Does k =
    ((operation_for k ≡ None) × (same_kind k Wblk ≡ false))
    ⊎ (((operation_for k ≡ Some LdBlk) × (same_kind k Wblk ≡ false)) ⊎ ((operation_for k ≡ Some StBlk) × (k ≡ Wblk)))

does : (k : Kind) → Does k
does k = grind (arith, nat_tests)

entry_some : (b : ℕ) (r : Request) (w : Words) (c : Clock ℕ) (o : Operation) → operation_for r.kind ≡ Some o → entry_for b r w c ≡ Some (block_entry b r w c o)
entry_some b r w c o is = rw (is, entry_for) refl

entry_none : (b : ℕ) (r : Request) (w : Words) (c : Clock ℕ) → operation_for r.kind ≡ None → entry_for b r w c ≡ None
entry_none b r w c is = rw (is, entry_for) refl

-- only S-DATA, X-DATA and WORDS have words, and these are the home's
reply_words : (b : ℕ) (r : Request) (w : Words) (c : ℕ) → carries (token (reply b r w c)) ≡ true → carries_words r.kind ≡ true
reply_words b r w c is = grind (arith, nat_tests)

-- After STblk, its words stand in the block.
stblk_now : (b : ℕ) (start : Address → ℕ) (trail : List Entry) (r : Request) (w : Words) (c : Clock ℕ) (i : ℕ) → i < 4
    → now b start (trail ++ block_entry b r w c StBlk ∷ []) i ≡ get_or w.at i 0
stblk_now b start trail r w c i low =
    current_written start trail (block_entry b r w c StBlk) (address 0 (4 * b + i)) (eq-eqb ((4 * b + i) / 4) b (omega arith))
    ∙ ap (λ (j : ℕ). get_or w.at j 0) (omega arith)

-- LDblk reads what stands there.
ldblk_reads : (b : ℕ) (start : Address → ℕ) (trail : List Entry) (r : Request) (w : Words) (c : Clock ℕ)
    → ((i : ℕ) → i < 4 → get_or w.at i 0 ≡ now b start trail i) → Reads (current start trail) (block_entry b r w c LdBlk)
ldblk_reads b start trail r w c says reads n has = says n (ltb-true n 4 has)

module _ (b : ℕ) (start : Address → ℕ) (x y : Block) (t : Tokens x) (v : Values b start x) (g : Finishes b x y) where
  abbrev request : Request
  request = (round_of x.home.directory).request

  abbrev words : Words
  words = words_after x.home.words request

  abbrev clock : Clock ℕ
  clock = clock_after x.home.clock (round_of x.home.directory)

  busy : gathering x.home ≡ 1
  busy = ap indicator g.gathering

  -- what the home has may be relied on
  home_says : Says (now b start x.trail) x.home.words
  home_says = record {
    four = v.home_four;
    words = v.home (λ q. let own = none_owned x t g.heard busy q in let back = (none_asked x t g.heard q).3 in omega arith);
  }

  -- the words that the home has then
  words_stay : same_kind request.kind Wblk ≡ false → words ≡ x.home.words
  words_stay other = cond-false (same_kind request.kind Wblk) request.words x.home.words other

  words_new : request.kind ≡ Wblk → words ≡ request.words
  words_new is = cond-true (same_kind request.kind Wblk) request.words x.home.words (ap (λ (k : Kind). same_kind k Wblk) is)

  entered : (o : Operation) → operation_for request.kind ≡ Some o → y.trail ≡ x.trail ++ block_entry b request words clock o ∷ []
  entered o is = g.trail ∙ ap (λ (e : Option Entry). x.trail ++ option_to_list e) (entry_some b request words clock o is)

  unentered : operation_for request.kind ≡ None → y.trail ≡ x.trail
  unentered is = g.trail ∙ ap (λ (e : Option Entry). x.trail ++ option_to_list e) (entry_none b request words clock is) ∙ append-nil x.trail

  -- where the home writes, nobody has a copy, and no data waits
  module _ (writes : request.kind ≡ Wblk) where
    no_copy : (q : ℕ) → held (x.line q) ≡ 0
    no_copy q =
        let all = (t.gathered q).all_asked in
        let copy = (t.copies q).copy in
        let heard : awaited x.home q ≡ 0 = ap indicator (empty_has (round_of x.home.directory).awaited t.awaited_four g.heard q) in
        let takes : lowers x.home ≡ 0 = rw writes refl in
        let no_upgrade : serving x.home 3 q ≡ 0 = rw (writes, g.gathering, gathers) refl in
        omega (arith, busy)

    no_data : (q : ℕ) → (pending x.messages 13 q ≡ 0) × (pending x.messages 14 q ≡ 0) × (pending x.messages 41 q ≡ 0)
    no_data q = grind (arith, nat_tests)

  record Then : Type 0 where
    pub home : Says (now b start y.trail) words
    pub copies : (q : ℕ) (ws : Words) → held_words (x.line q) ≡ Some ws → Says (now b start y.trail) ws
    pub carried : All (Data (now b start y.trail)) x.messages

  -- where the home does not write, all is as it was
  unwritten : same_kind request.kind Wblk ≡ false → ((i : ℕ) → now b start y.trail i ≡ now b start x.trail i) → Then
  unwritten other same = record {
    home = subst (Says (now b start y.trail)) (sym (words_stay other)) (stay x.home.words home_says);
    copies = λ q ws is. stay ws (v.copies q ws is);
    carried = All-weaker (Data (now b start x.trail)) (Data (now b start y.trail)) (λ m says is. stay m.words (says is)) x.messages v.carried;
  }
    where
      stay : (ws : Words) → Says (now b start x.trail) ws → Says (now b start y.trail) ws
      stay ws says = says_still (now b start x.trail) (now b start y.trail) ws (λ i _. same i) says

  then : Does request.kind → Then
  then (inl (none, other)) = unwritten other (λ i. ap (λ (es : List Entry). now b start es i) (unentered none))
  then (inr (inl (reads, other))) = unwritten other (now_kept b start x.trail y.trail (block_entry b request words clock LdBlk) refl (entered LdBlk reads))
  then (inr (inr (writes, is))) = record {
    home = record {
      four = ap (λ (ws : Words). length ws.at) (words_new is) ∙ v.request_four;
      words = λ i low. sym (ap (λ (es : List Entry). now b start es i) (entered StBlk writes) ∙ stblk_now b start x.trail request words clock i low);
    };
    copies = λ q ws has. absurd (none_held (x.line q) ws (no_copy is q) has);
    carried = All-weaker Bare (Data (now b start y.trail)) (bare_data (now b start y.trail)) x.messages (none_carried x.messages (no_data is));
  }

  pub finishes_values : Values b start y
  finishes_values =
      let new = then (does request.kind) in
      let home_words : y.home.words ≡ words = ap (λ (h : Home ℕ). h.words) g.home in
      let said : Says (now b start y.trail) y.home.words = subst (Says (now b start y.trail)) (sym home_words) new.home in
      let c = y.home.clock.global in
      record {
        copies = λ q ws is. new.copies q ws (sym (ap held_words (g.lines q)) ∙ is);
        home_four = said.four;
        home = λ _. said.words;
        carried = posted_all (Data (now b start y.trail)) x.messages [] _ y.messages g.messages new.carried
            ((λ is. subst (Says (now b start y.trail)) (sym (cond-true (carries_words request.kind) y.home.words no_words (reply_words b request y.home.words c is))) said), tt);
        four = posted_all Four x.messages [] _ y.messages g.messages v.four
            (cond_both (carries_words request.kind) y.home.words no_words (λ (ws : Words). length ws.at ≡ 4) (λ _. said.four) (λ _. refl), tt);
        request_four = ap (λ (h : Home ℕ). length (round_of h.directory).request.words.at) g.home ∙ v.request_four;
      }

  -- the entry that was added
  pub finishes_reads : (e : Entry) → y.trail ≡ x.trail ++ e ∷ [] → Reads (current start x.trail) e
  finishes_reads e added = go (does request.kind)
    where
      go : Does request.kind → Reads (current start x.trail) e
      go (inl (none, other)) = absurd (grown x.trail e (sym (unentered none) ∙ added))
      go (inr (inl (reads, other))) =
          subst (Reads (current start x.trail)) (last_entry x.trail (block_entry b request words clock LdBlk) e (sym (entered LdBlk reads) ∙ added))
          (ldblk_reads b start x.trail request words clock (subst (Says (now b start x.trail)) (sym (words_stay other)) home_says).words)
      go (inr (inr (writes, is))) =
          subst (Reads (current start x.trail)) (last_entry x.trail (block_entry b request words clock StBlk) e (sym (entered StBlk writes) ∙ added))
          (no_read (current start x.trail) (block_entry b request words clock StBlk) refl)
