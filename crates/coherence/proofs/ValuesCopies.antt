-- Moves that change a copy: a processor gives way, or takes a copy; and the home hears an acknowledgement. What each has
-- stays what stands in the block.
use Rattle.std.proofs.Common.{◌≡◌, ℕ, ◌+◌, ◌<◌, ◌≤◌, Bool, true, false, cond, eqb, ◌⊎◌, List, [], ◌∷◌, length, get_or, Some, sym, refl, ap, ◌∙◌, subst, inl, inr, arith}
use Rattle.home.specs.Directories.{round_of}
use Rattle.home.specs.declared.machine.Home.{Home}
use Rattle.message.specs.declared.kind.Kind.{Kind}
use Rattle.message.specs.declared.message.Message.{Message}
use Rattle.ordering.specs.declared.operation.Words.{Words}
use Rattle.processor.specs.Lines.{held_words}
use Rattle.processor.specs.declared.line.Line.{Line}
use Rattle.std.proofs.lemmas.Bool.{cases_Bool, false≢true}
use Rattle.std.specs.List.{AllByRecursion as All}
use Rattle.trail.specs.declared.address.Address.{Address}
use Rattle.coherence.proofs.Blocks.{Block, Posted, pending, posted_all, posted_gone, token}
use Rattle.coherence.proofs.Counting.{indicator}
use Rattle.coherence.proofs.Moves.{GivesWay, Hears, Takes}
use Rattle.coherence.proofs.Shifts.{each, moved_here, moved_there, put_here, put_there}
use Rattle.coherence.proofs.Tokens.{owned}
use Rattle.coherence.proofs.Values.{Data, Four, NoneOwned, Says, Values, carries, none_returned, now, values_along}

module _ (b : ℕ) (start : Address → ℕ) (x y : Block) (v : Values b start x) where
  abbrev stands : ℕ → ℕ
  stands = now b start x.trail

  -- The line of p becomes `new`, whose words are those that stand there; the home stays, and where its words are to be so
  -- now they were to be so before.
  line_changes : (p : ℕ) (new : Line) (gone come : List (Message ℕ)) → ((q : ℕ) → y.line q ≡ cond (eqb p q) new (x.line q))
      → ((ws : Words) → held_words new ≡ Some ws → Says stands ws) → (NoneOwned y.line y.messages → NoneOwned x.line x.messages)
      → y.home ≡ x.home → Posted x.messages gone come y.messages → All (Data stands) come → All Four come → y.trail ≡ x.trail
      → Values b start y
  line_changes p new gone come lines own before home post bring four trail =
      values_along b start x y trail (record {
        copies = λ q ws is. copy q ws (cases_Bool (eqb p q)) is;
        home_four = ap (λ (h : Home ℕ). length h.words.at) home ∙ v.home_four;
        home = λ none i low. ap (λ (h : Home ℕ). get_or h.words.at i 0) home ∙ v.home (before none) i low;
        carried = posted_all (Data stands) x.messages gone come y.messages post v.carried bring;
        four = posted_all Four x.messages gone come y.messages post v.four four;
        request_four = ap (λ (h : Home ℕ). length (round_of h.directory).request.words.at) home ∙ v.request_four;
      })
    where
      copy : (q : ℕ) (ws : Words) → (eqb p q ≡ true) ⊎ (eqb p q ≡ false) → held_words (y.line q) ≡ Some ws → Says stands ws
      copy q ws (inl here) is = own ws (sym (ap held_words (lines q ∙ ap (λ (t : Bool). cond t new (x.line q)) here)) ∙ is)
      copy q ws (inr there) is = v.copies q ws (sym (ap held_words (lines q ∙ ap (λ (t : Bool). cond t new (x.line q)) there)) ∙ is)

  -- A processor gives way: what it sends back under the mark are its words.
  pub gives_values : (p : ℕ) (old new : Line) (c d : ℕ) (back : Words) (m a : Message ℕ) → GivesWay b x y p old new c d back m a
      → ((ws : Words) → held_words new ≡ Some ws → held_words old ≡ Some ws)
      → eqb c 41 ≡ false → (owned old ≤ indicator (eqb d 41))
      → (carries d ≡ true → held_words old ≡ Some back) → length back.at ≡ 4 → Values b start y
  gives_values p old new c d back m a r still other marks bring four =
      line_changes p new (m ∷ []) (a ∷ []) r.lines (λ ws is. own ws (still ws is)) before r.home r.messages
      ((λ is. subst (Says stands) (sym r.words_back) (own back (bring (sym (ap carries r.class_back) ∙ is)))), tt)
      (ap (λ (ws : Words). length ws.at) r.words_back ∙ four, tt) r.trail
    where
      own : (ws : Words) → held_words old ≡ Some ws → Says stands ws
      own ws is = v.copies p ws (ap held_words r.was ∙ is)

      before : NoneOwned y.line y.messages → NoneOwned x.line x.messages
      before none = each p (λ q. owned (x.line q) + pending x.messages 41 q ≡ 0) here there
        where
          here : owned (x.line p) + pending x.messages 41 p ≡ 0
          here =
              let count = moved_here x.messages y.messages m c p r.class r.end a d r.class_back r.end_back r.messages 41 in
              let was = ap owned r.was in
              let gone = ap indicator other in
              let both = none p in
              omega arith

          there : (q : ℕ) → eqb p q ≡ false → owned (x.line q) + pending x.messages 41 q ≡ 0
          there q apart =
              let count = moved_there x.messages y.messages m c p r.class r.end a d r.class_back r.end_back r.messages q apart 41 in
              let line = ap owned (put_there p q new (x.line q) (y.line q) (r.lines q) apart) in
              let both = none q in
              omega arith

  -- A processor takes a copy: its words came with the reply, or were there.
  pub takes_copy_values : (p : ℕ) (k : Kind) (old new : Line) (c : ℕ) (m : Message ℕ) → Takes b x y p k old new c m
      → ((ws : Words) → held_words new ≡ Some ws → Says stands ws) → eqb c 41 ≡ false → owned old ≤ owned new → Values b start y
  takes_copy_values p k old new c m r own other better =
      line_changes p new (m ∷ []) _ r.lines own before r.home r.messages ((λ is. absurd (false≢true is)), tt) (refl, tt) r.trail
    where
      counts : (q : ℕ) → pending y.messages 41 q ≡ 0 → pending x.messages 41 q ≡ 0
      counts = none_returned x.messages (m ∷ []) _ y.messages r.messages (ap (λ (n : ℕ). eqb n 41) r.class ∙ other, tt)

      before : NoneOwned y.line y.messages → NoneOwned x.line x.messages
      before none = each p (λ q. owned (x.line q) + pending x.messages 41 q ≡ 0) here there
        where
          here : owned (x.line p) + pending x.messages 41 p ≡ 0
          here =
              let both = none p in
              let count = counts p (omega arith) in
              let was = ap owned r.was in
              let line = ap owned (put_here p new (x.line p) (y.line p) (r.lines p)) in
              omega arith

          there : (q : ℕ) → eqb p q ≡ false → owned (x.line q) + pending x.messages 41 q ≡ 0
          there q apart =
              let both = none q in
              let count = counts q (omega arith) in
              let line = ap owned (put_there p q new (x.line q) (y.line q) (r.lines q) apart) in
              omega arith

  -- what a reply of class c brings
  pub brought : (p : ℕ) (k : Kind) (old new : Line) (c : ℕ) (m : Message ℕ) → Takes b x y p k old new c m → carries c ≡ true → Says stands m.words
  brought p k old new c m r bring = (posted_gone (Data stands) x.messages (m ∷ []) _ y.messages r.messages v.carried).0 (ap carries r.class ∙ bring)

  -- The home hears an acknowledgement: words under the mark are those that stand there, and without it nothing is new.
  pub hears_values : (m : Message ℕ) → Hears b x y m → Values b start y
  hears_values m r =
      values_along b start x y r.trail (record {
        copies = λ q ws is. v.copies q ws (sym (ap held_words (r.lines q)) ∙ is);
        home_four = ap (λ (h : Home ℕ). length h.words.at) r.home ∙ four m.exclusive;
        home = λ none i low. ap (λ (h : Home ℕ). get_or h.words.at i 0) r.home ∙ words m.exclusive refl none i low;
        carried = posted_all (Data stands) x.messages (m ∷ []) [] y.messages r.messages v.carried tt;
        four = posted_all Four x.messages (m ∷ []) [] y.messages r.messages v.four tt;
        request_four = ap (λ (h : Home ℕ). length (round_of h.directory).request.words.at) r.home ∙ v.request_four;
      })
    where
      four : (mark : Bool) → length (cond mark m.words x.home.words).at ≡ 4
      four true = (posted_gone Four x.messages (m ∷ []) [] y.messages r.messages v.four).0
      four false = v.home_four

      words : (mark : Bool) → m.exclusive ≡ mark → NoneOwned y.line y.messages → (i : ℕ) → i < 4 → get_or (cond mark m.words x.home.words).at i 0 ≡ stands i
      words true is none i low =
          let class : token m ≡ 41 = r.class ∙ ap (λ (t : Bool). cond t 41 12) is in
          ((posted_gone (Data stands) x.messages (m ∷ []) [] y.messages r.messages v.carried).0 (ap carries class)).words i low
      words false is none i low = v.home before i low
        where
          class : token m ≡ 12
          class = r.class ∙ ap (λ (t : Bool). cond t 41 12) is

          before : NoneOwned x.line x.messages
          before q =
              let both = none q in
              let line = ap owned (r.lines q) in
              let count = none_returned x.messages (m ∷ []) [] y.messages r.messages (ap (λ (n : ℕ). eqb n 41) class, tt) q (omega arith) in
              omega arith
