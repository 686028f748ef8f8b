-- Tokens after a home hears an acknowledgement.
use Rattle.std.proofs.Common.{◌≡◌, ℕ, ◌+◌, ◌<◌, ◌≤◌, Bool, true, false, cond, eqb, [], ◌∷◌, length, sym, refl, ap, ◌∙◌, arith, length-set}
use Rattle.home.specs.Directories.{round_of, awaits}
use Rattle.home.specs.Laws.{has_replied}
use Rattle.home.specs.Requests.{asks_down}
use Rattle.home.specs.Sets.{has, with_member}
use Rattle.home.specs.declared.machine.Home.{Home}
use Rattle.home.specs.Sets.{Processors}
use Rattle.message.specs.declared.message.Message.{Message}
use Rattle.std.proofs.lemmas.List.{get_or-set_same, get_or-set_other}
use Rattle.std.proofs.lemmas.Bool.{eqb-false}
use Rattle.coherence.proofs.Blocks.{Block, pending, posted_all}
use Rattle.coherence.proofs.Carrying.{gathers}
use Rattle.coherence.proofs.Counting.{indicator, indicator_most}
use Rattle.coherence.proofs.Moves.{Hears}
use Rattle.coherence.proofs.Shifts.{TimedReply, apart, each, went_here, went_there}
use Rattle.coherence.proofs.Sole.{copies_add, held_most}
use Rattle.coherence.proofs.Tokens.{Tokens, AskedFor, Gathered, Held, answering, awaited, exclusive, gathering, holder, lowers, serving}
use Rattle.coherence.proofs.TokensFreed.{answering_as, serving_as}

-- a set after one member comes or goes
pub member_here : (s : Processors) (p : ℕ) (v : Bool) → p < 4 → length s.at ≡ 4 → has (with_member s p v) p ≡ v
member_here s p v small four = get_or-set_same s.at p v false (omega arith)

pub member_there : (s : Processors) (p : ℕ) (v : Bool) (q : ℕ) → eqb p q ≡ false → has (with_member s p v) q ≡ has s q
member_there s p v q apart = get_or-set_other s.at p q v false (λ same. eqb-false p q apart (sym same))

hearing : (h : Home ℕ) (p : ℕ) → awaits h.directory p ≡ true → (has_replied h ≡ false) × (gathers h ≡ true) × (has (round_of h.directory).awaited p ≡ true)
hearing h p is = grind arith

-- the holders once p is heard: all but p, or after DOWN the same
abbrev kept : Bool → Processors → ℕ → Processors
kept d s p = cond d s (with_member s p false)

kept_here : (d : Bool) (s : Processors) (p : ℕ) → p < 4 → length s.at ≡ 4
    → (indicator (has (kept d s p) p) ≤ indicator d) × (indicator (has (kept d s p) p) ≤ indicator (has s p)) × (indicator (has s p) + indicator d ≤ 1 + indicator (has (kept d s p) p))
kept_here true s p small four = omega (arith, indicator_most)
kept_here false s p small four = let gone = ap indicator (member_here s p false small four) in omega (arith, indicator_most)

kept_there : (d : Bool) (s : Processors) (p q : ℕ) → eqb p q ≡ false → has (kept d s p) q ≡ has s q
kept_there true s p q apart = refl
kept_there false s p q apart = member_there s p false q apart

kept_four : (d : Bool) (s : Processors) (p : ℕ) → length s.at ≡ 4 → length (kept d s p).at ≡ 4
kept_four true s p four = four
kept_four false s p four = length-set s.at p false ∙ four

module _ (b : ℕ) (x y : Block) (t : Tokens x) (m : Message ℕ) (g : Hears b x y m) where
  abbrev p : ℕ
  p = m.sender

  heard : (has_replied x.home ≡ false) × (gathers x.home ≡ true) × (has (round_of x.home.directory).awaited p ≡ true)
  heard = hearing x.home p g.awaited

  there : (q : ℕ) → eqb p q ≡ false → (c : ℕ) → pending y.messages c q ≡ pending x.messages c q
  there = went_there x.messages y.messages m (cond m.exclusive 41 12) p g.class g.end g.messages

  abbrev Gone : ℕ → Type 0
  Gone d = (c : ℕ) → pending y.messages c p + indicator (eqb d c) ≡ pending x.messages c p

  -- by its mark
  marked_or_not : (P : Type 0) → (Gone 41 → P) → (Gone 12 → P) → P
  marked_or_not P marked unmarked =
      go m.exclusive (went_here x.messages y.messages m (cond m.exclusive 41 12) p g.class g.end g.messages)
    where
      go : (e : Bool) → Gone (cond e 41 12) → P
      go true count = marked count
      go false count = unmarked count

  gathering_then : gathering x.home ≡ 1
  gathering_then = ap indicator heard.1

  awaited_then : awaited x.home p ≡ 1
  awaited_then = ap indicator heard.2

  gathering_now : gathering y.home ≡ gathering x.home
  gathering_now = ap gathering g.home ∙ sym gathering_then

  exclusive_now : exclusive y.home ≡ 0
  exclusive_now = ap exclusive g.home

  lowers_now : lowers y.home ≡ lowers x.home
  lowers_now = ap lowers g.home

  serving_now : (q k : ℕ) → serving y.home k q ≡ serving x.home k q
  serving_now q k = ap (λ h. serving h k q) g.home ∙ sym (serving_as x.home true heard.1 q k)

  answering_now : (q : ℕ) → answering y.home q ≡ answering x.home q
  answering_now q = ap (λ h. answering h q) g.home ∙ sym (answering_as x.home false heard.0 q)

  holder_there : (q : ℕ) → eqb p q ≡ false → holder y.home q ≡ holder x.home q
  holder_there q apart = ap (λ h. holder h q) g.home ∙ ap indicator (kept_there (asks_down (round_of x.home.directory).request.kind) x.home.directory.holders p q apart)

  awaited_there : (q : ℕ) → eqb p q ≡ false → awaited y.home q ≡ awaited x.home q
  awaited_there q apart = ap (λ h. awaited h q) g.home ∙ ap indicator (member_there (round_of x.home.directory).awaited p false q apart)

  awaited_here : awaited y.home p ≡ 0
  awaited_here = ap (λ h. awaited h p) g.home ∙ ap indicator (member_here (round_of x.home.directory).awaited p false g.small t.awaited_four)

  holder_here : (holder y.home p ≤ lowers x.home) × (holder y.home p ≤ holder x.home p) × (holder x.home p + lowers x.home ≤ 1 + holder y.home p)
  holder_here =
      let now = ap (λ h. holder h p) g.home in
      let facts = kept_here (asks_down (round_of x.home.directory).request.kind) x.home.directory.holders p g.small t.holders_four in
      omega arith

  asked_heard : (q : ℕ) → AskedFor (y.out q) y.home y.messages q
  asked_heard = each p (λ q. AskedFor (y.out q) y.home y.messages q)
      (let o = t.asked p in marked_or_not _
      (λ count. rw (g.outs p) (omega (arith, count, serving_now p, answering_now p)))
      (λ count. rw (g.outs p) (omega (arith, count, serving_now p, answering_now p))))
      (λ q apart. let o = t.asked q in rw (g.outs q) (omega (arith, there q apart, serving_now q, answering_now q)))

  gathered_here : Gathered y.home y.messages p
  gathered_here =
      let o = t.gathered p in
      let now = gathering_now in
      let then = gathering_then in
      let away = awaited_here in
      let await = awaited_then in
      let keep = holder_here in
      let none = exclusive_now in
      let low = lowers_now in
      marked_or_not _
      (λ count. let first = count 41 in omega (arith, count, serving_now p, indicator_most))
      (λ count. let first = count 12 in omega (arith, count, serving_now p, indicator_most))

  gathered_there : (q : ℕ) → eqb p q ≡ false → Gathered y.home y.messages q
  gathered_there q apart =
      let o = t.gathered q in
      let now = gathering_now in
      let away = awaited_there q apart in
      let await = awaited_then in
      let keep = holder_there q apart in
      let mine = (t.gathered p).holds in
      let one = t.one p q (eqb-false p q apart) in
      let none = exclusive_now in
      let low = lowers_now in
      omega (arith, there q apart, serving_now q, indicator_most)

  held_here : Held (y.line p) (y.out p) y.home y.messages p
  held_here =
      let o = t.copies p in
      let w = (t.gathered p).waits in
      let r = (t.asked p).reply in
      let v = apart x.home p in
      let then = gathering_then in
      let await = awaited_then in
      let keep = holder_here in
      let none = exclusive_now in
      let low = lowers_now in
      let sum = copies_add (x.line p) in
      marked_or_not _
      (λ count. let first = count 41 in rw (g.lines p, g.outs p) (omega (arith, count, indicator_most, held_most (x.line p))))
      (λ count. let first = count 12 in rw (g.lines p, g.outs p) (omega (arith, count, indicator_most, held_most (x.line p))))

  held_there : (q : ℕ) → eqb p q ≡ false → Held (y.line q) (y.out q) y.home y.messages q
  held_there q apart' =
      let o = t.copies q in
      let r = (t.asked q).reply in
      let v = apart x.home q in
      let then = gathering_then in
      let await = awaited_then in
      let mine = (t.gathered p).holds in
      let one = t.one p q (eqb-false p q apart') in
      let keep = holder_there q apart' in
      let none = exclusive_now in
      let low = lowers_now in
      let sum = copies_add (x.line q) in
      rw (g.lines q, g.outs q) (omega (arith, there q apart', indicator_most, held_most (x.line q)))

  pub heard_tokens : Tokens y
  heard_tokens =
      let none = exclusive_now in
      let now = ap gathering g.home in
      let most = indicator_most (gathers x.home) in
      record {
        asked = asked_heard;
        gathered = each p (λ q. Gathered y.home y.messages q) gathered_here gathered_there;
        copies = each p (λ q. Held (y.line q) (y.out q) y.home y.messages q) held_here held_there;
        one = λ r q _. omega (arith, indicator_most);
        some = omega arith;
        owner_asked = omega arith;
        holders_four = rw g.home (kept_four (asks_down (round_of x.home.directory).request.kind) x.home.directory.holders p t.holders_four);
        awaited_four = rw g.home (length-set (round_of x.home.directory).awaited.at p false ∙ t.awaited_four);
        asks = rw g.home (λ _. t.asks heard.1);
        clocks = rw g.home (posted_all (TimedReply x.home) x.messages (m ∷ []) [] y.messages g.messages t.clocks tt);
      }
