-- Tokens after a request is sent or refused, or goes back and forth between home and requester.
use Rattle.std.proofs.lemmas.Bool.Decides.{nat_tests}
use Rattle.std.proofs.Common.{◌≡◌, ℕ, ◌+◌, ◌<◌, ◌≤◌, true, false, eqb, ◌⊎◌, List, [], ◌∷◌, Some, None, Option, refl, ap, ◌∙◌, inl, inr, ⊎_elim, arith}
use Rattle.home.specs.declared.machine.Home.{Home}
use Rattle.message.specs.Kinds.{kind_number, is_request}
use Rattle.message.specs.declared.kind.Kind.{Kind}
use Rattle.message.specs.declared.message.Message.{Message}
use Rattle.processor.specs.Calls.{fits}
use Rattle.processor.specs.declared.line.Line.{Line}
use Rattle.std.proofs.lemmas.Bool.{both_ways}
use Rattle.coherence.proofs.Blocks.{Block, pending, posted_all, token}
use Rattle.coherence.proofs.Carrying.{is_block_request}
use Rattle.coherence.proofs.Classes.{refusal_of}
use Rattle.coherence.proofs.Counting.{indicator}
use Rattle.coherence.proofs.Moves.{Requests, Nacked, Returns}
use Rattle.coherence.proofs.Shifts.{TimedReply, came_here, came_there, went_here, went_there, moved_here, moved_there, node_moves, put_here, put_there}
use Rattle.coherence.proofs.Sole.{held_most}
use Rattle.coherence.proofs.Tokens.{Tokens, AskedFor, Gathered, Held, held, out_is, is_reply}

-- What holds of the numbers 1 to 6 holds of every request's.
pub by_request : (P : ℕ → Type 0) → P 1 → P 2 → P 3 → P 4 → P 5 → P 6 → (k : Kind) → is_request k ≡ true → P (kind_number k)
by_request P one two three four five six k is = grind (arith, nat_tests)

fitting : (l : Line) (k : Kind) → fits l k ≡ true → (is_request k ≡ true) × (indicator (eqb (kind_number k) 1) + indicator (eqb (kind_number k) 2) + held l ≤ 1)
    × (indicator (eqb (kind_number k) 5) + indicator (eqb (kind_number k) 6) ≡ 0)
fitting l k is = grind arith

of_block : (k : Kind) → is_block_request k ≡ true → (is_request k ≡ true) × (indicator (eqb (kind_number k) 1) + indicator (eqb (kind_number k) 2) ≡ 0)
    × (indicator (eqb (kind_number k) 3) + indicator (eqb (kind_number k) 4) ≡ 0)
of_block k is = grind arith

-- What a node's records come to, by the number n of the request's kind.
module _ (l : Line) (h : Home ℕ) (before now : List (Message ℕ)) (q : ℕ) (o o' : Option Kind) where
  abbrev Kept : Type 0
  Kept = AskedFor o h before q → Gathered h before q → Held l o h before q → AskedFor o' h now q × Gathered h now q × Held l o' h now q

  abbrev Sent : ℕ → Type 0
  Sent n =
      ((c : ℕ) → out_is o c ≡ 0) → ((c : ℕ) → out_is o' c ≡ indicator (eqb n c))
      → ((c : ℕ) → pending now c q ≡ pending before c q + indicator (eqb n c))
      → (4 ≤ q → indicator (eqb n 1) + indicator (eqb n 2) + indicator (eqb n 3) + indicator (eqb n 4) ≡ 0)
      → (q < 4 → indicator (eqb n 5) + indicator (eqb n 6) ≡ 0)
      → indicator (eqb n 1) + indicator (eqb n 2) + held l ≤ 1
      → Kept

  when_sent : (k : Kind) → is_request k ≡ true → Sent (kind_number k)
  when_sent = by_request Sent
      (λ then after count d p free a g c. omega (arith, then, after, count))
      (λ then after count d p free a g c. omega (arith, then, after, count))
      (λ then after count d p free a g c. omega (arith, then, after, count))
      (λ then after count d p free a g c. omega (arith, then, after, count))
      (λ then after count d p free a g c. omega (arith, then, after, count))
      (λ then after count d p free a g c. omega (arith, then, after, count))

  abbrev Refused : ℕ → Type 0
  Refused n =
      ((c : ℕ) → out_is o c ≡ indicator (eqb n c)) → ((c : ℕ) → out_is o' c ≡ 0)
      → ((c : ℕ) → pending now c q + indicator (eqb (20 + n) c) ≡ pending before c q)
      → Kept

  when_refused : (k : Kind) → is_request k ≡ true → Refused (kind_number k)
  when_refused = by_request Refused
      (λ then after count a g c. omega (arith, then, after, count))
      (λ then after count a g c. omega (arith, then, after, count))
      (λ then after count a g c. omega (arith, then, after, count))
      (λ then after count a g c. omega (arith, then, after, count))
      (λ then after count a g c. omega (arith, then, after, count))
      (λ then after count a g c. omega (arith, then, after, count))

  abbrev Returned : ℕ → Type 0
  Returned n =
      ((c : ℕ) → out_is o' c ≡ out_is o c)
      → ((c : ℕ) → pending now c q + indicator (eqb (20 + n) c) ≡ pending before c q + indicator (eqb n c)) ⊎ ((c : ℕ) → pending now c q + indicator (eqb n c) ≡ pending before c q + indicator (eqb (20 + n) c))
      → Kept

  when_returned : (k : Kind) → is_request k ≡ true → Returned (kind_number k)
  when_returned = by_request Returned
      (λ same counts a g c. ⊎_elim (λ count. omega (arith, same, count)) (λ count. omega (arith, same, count)) counts)
      (λ same counts a g c. ⊎_elim (λ count. omega (arith, same, count)) (λ count. omega (arith, same, count)) counts)
      (λ same counts a g c. ⊎_elim (λ count. omega (arith, same, count)) (λ count. omega (arith, same, count)) counts)
      (λ same counts a g c. ⊎_elim (λ count. omega (arith, same, count)) (λ count. omega (arith, same, count)) counts)
      (λ same counts a g c. ⊎_elim (λ count. omega (arith, same, count)) (λ count. omega (arith, same, count)) counts)
      (λ same counts a g c. ⊎_elim (λ count. omega (arith, same, count)) (λ count. omega (arith, same, count)) counts)

-- no request and no NACK is a reply
not_reply : (k : Kind) → is_request k ≡ true → (is_reply (kind_number k) ≡ false) × (is_reply (refusal_of k) ≡ false)
not_reply = by_request (λ n. (is_reply n ≡ false) × (is_reply (20 + n) ≡ false)) (refl, refl) (refl, refl) (refl, refl) (refl, refl) (refl, refl) (refl, refl)

module _ (b : ℕ) (x y : Block) (t : Tokens x) where
  silent : (m : Message ℕ) (c : ℕ) → token m ≡ c → is_reply c ≡ false → TimedReply x.home m
  silent m c class none is = absurd (both_ways (is_reply (token m)) (ap is_reply class ∙ none) is)

  pub requested : (n : ℕ) (k : Kind) (m : Message ℕ) → Requests b x y n k m → Tokens y
  requested n k m g = ⊎_elim of_processor of_device g.fit
    where
      done : is_request k ≡ true
          → (4 ≤ n → indicator (eqb (kind_number k) 1) + indicator (eqb (kind_number k) 2) + indicator (eqb (kind_number k) 3) + indicator (eqb (kind_number k) 4) ≡ 0)
          → (n < 4 → indicator (eqb (kind_number k) 5) + indicator (eqb (kind_number k) 6) ≡ 0)
          → indicator (eqb (kind_number k) 1) + indicator (eqb (kind_number k) 2) + held (x.line n) ≤ 1 → Tokens y
      done is device processor missing =
          let kept = when_sent (x.line n) x.home x.messages y.messages n (x.out n) (y.out n) k is
          (λ c. ap (λ o. out_is o c) g.free)
          (λ c. ap (λ o. out_is o c) (put_here n (Some k) (x.out n) (y.out n) (g.outs n)))
          (came_here x.messages y.messages m (kind_number k) n g.class g.end g.messages)
          device processor missing (t.asked n) (t.gathered n) (t.copies n) in
          node_moves x y n t
          (record {
            home = g.home;
            lines = λ q _. g.lines q;
            outs = λ q. put_there n q (Some k) (x.out q) (y.out q) (g.outs q);
            counts = came_there x.messages y.messages m (kind_number k) n g.class g.end g.messages;
          })
          kept.0 kept.1 (rw (g.lines n) kept.2)
          (posted_all (TimedReply x.home) x.messages [] (m ∷ []) y.messages g.messages t.clocks
          (silent m (kind_number k) g.class (not_reply k is).0, tt))

      of_processor : (n < 4) × (fits (x.line n) k ≡ true) → Tokens y
      of_processor at = let f = fitting (x.line n) k at.1 in done f.0 (λ far. absurd (omega arith)) (λ _. f.2) f.1

      of_device : (4 ≤ n) × (is_block_request k ≡ true) → Tokens y
      of_device at =
          let f = of_block k at.1 in
          done f.0 (λ _. omega arith) (λ near. absurd (omega arith)) (omega (arith, held_most (x.line n)))

  pub refused : (p : ℕ) (k : Kind) (m : Message ℕ) → is_request k ≡ true → Nacked b x y p k m → Tokens y
  refused p k m is g =
      let kept = when_refused (x.line p) x.home x.messages y.messages p (x.out p) (y.out p) k is
      (λ c. ap (λ o. out_is o c) g.asked)
      (λ c. ap (λ o. out_is o c) (put_here p None (x.out p) (y.out p) (g.outs p)))
      (went_here x.messages y.messages m (refusal_of k) p g.class g.end g.messages)
      (t.asked p) (t.gathered p) (t.copies p) in
      node_moves x y p t
      (record {
        home = g.home;
        lines = λ q _. g.lines q;
        outs = λ q. put_there p q None (x.out q) (y.out q) (g.outs q);
        counts = went_there x.messages y.messages m (refusal_of k) p g.class g.end g.messages;
      })
      kept.0 kept.1 (rw (g.lines p) kept.2)
      (posted_all (TimedReply x.home) x.messages (m ∷ []) [] y.messages g.messages t.clocks tt)

  module _ (n c d : ℕ) (k : Kind) (is : is_request k ≡ true) (m a : Message ℕ) (g : Returns b x y n c d m a) where
    abbrev Shift : Type 0
    Shift = (e : ℕ) → pending y.messages e n + indicator (eqb c e) ≡ pending x.messages e n + indicator (eqb d e)

    shift : Shift
    shift = moved_here x.messages y.messages m c n g.class g.end a d g.class_back g.end_back g.messages

    back : is_reply d ≡ false
        → ((e : ℕ) → pending y.messages e n + indicator (eqb (refusal_of k) e) ≡ pending x.messages e n + indicator (eqb (kind_number k) e))
        ⊎ ((e : ℕ) → pending y.messages e n + indicator (eqb (kind_number k) e) ≡ pending x.messages e n + indicator (eqb (refusal_of k) e))
        → Tokens y
    back none counts =
        let kept = when_returned (x.line n) x.home x.messages y.messages n (x.out n) (y.out n) k is
        (λ e. ap (λ o. out_is o e) (g.outs n)) counts
        (t.asked n) (t.gathered n) (t.copies n) in
        node_moves x y n t
        (record {
          home = g.home;
          lines = λ q _. g.lines q;
          outs = λ q _. g.outs q;
          counts = moved_there x.messages y.messages m c n g.class g.end a d g.class_back g.end_back g.messages;
        })
        kept.0 kept.1 (rw (g.lines n) kept.2)
        (posted_all (TimedReply x.home) x.messages (m ∷ []) (a ∷ []) y.messages g.messages t.clocks
        (silent a d g.class_back none, tt))

  pub sent_again : (n : ℕ) (k : Kind) (m a : Message ℕ) → is_request k ≡ true → Returns b x y n (refusal_of k) (kind_number k) m a → Tokens y
  sent_again n k m a is g =
      back n (refusal_of k) (kind_number k) k is m a g (not_reply k is).0 (inl (shift n (refusal_of k) (kind_number k) k is m a g))

  pub sent_back : (n : ℕ) (k : Kind) (m a : Message ℕ) → is_request k ≡ true → Returns b x y n (kind_number k) (refusal_of k) m a → Tokens y
  sent_back n k m a is g =
      back n (kind_number k) (refusal_of k) k is m a g (not_reply k is).1 (inr (shift n (kind_number k) (refusal_of k) k is m a g))
