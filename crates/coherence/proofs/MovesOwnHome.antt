-- A message that reaches its block's home is one move, or two: a request taken or the last acknowledgement heard, and then
-- the home finishes.
use Rattle.std.proofs.lemmas.Bool.Decides.{nat_tests}
use Rattle.std.proofs.Common.{◌≡◌, ℕ, ◌<◌, Bool, true, false, cond, ◌||◌, eqb, ltb, ◌⊎◌, List, [], ◌∷◌, ◌++◌, length, get_or, Some, None, filter, Option, sym, refl, ap, ◌∙◌, subst, inl, inr, arith}
use Rattle.home.specs.Directories.{round_of, view, awaits, freed}
use Rattle.home.specs.Homes.{home}
use Rattle.home.specs.Plans.{plan}
use Rattle.home.specs.Reactions.{reply, finished, nack, refused, asks, asking_home, began, asked, planned, heard_home, after_hearing, acknowledged, clock_freed, awaits_taken, taken, requested, received}
use Rattle.home.specs.Requests.{request_of, asks_by}
use Rattle.home.specs.Sets.{nobody, is_empty}
use Rattle.home.specs.declared.machine.Home.{Home}
use Rattle.home.specs.declared.plan.Plan.{Plan}
use Rattle.home.specs.declared.plan.Plan.TheVariants.{Refuse, Ask}
use Rattle.home.specs.Sets.{Processors}
use Rattle.list.specs.Contents.{removed}
use Rattle.message.proofs.Numbering.{numbers_tell_kinds}
use Rattle.message.specs.Kinds.{same_kind, is_request}
use Rattle.message.specs.Laws.{goes_home, comes_from_home}
use Rattle.message.specs.Messages.{no_message}
use Rattle.message.specs.Reactions.{sent, quiet}
use Rattle.message.specs.declared.kind.Kind.{Kind}
use Rattle.message.specs.declared.kind.Kind.TheVariants as kind
use Rattle.message.specs.declared.message.Message.{Message}
use Rattle.message.specs.declared.reaction.Reaction.{Reaction}
use Rattle.std.proofs.lemmas.List.Elements.{filter-append}
use Rattle.std.proofs.lemmas.List.{append-nil, get_or-set_same}
use Rattle.std.proofs.lemmas.Bool.{and_from, eq-eqb, or_left}
use Rattle.std.specs.Option.{option_to_list}
use Rattle.trail.specs.declared.entry.Entry.{Entry}
use Rattle.coherence.proofs.Arising.{allowed, never}
use Rattle.coherence.proofs.Blocks.{Block, Posted, block, about, on, token}
use Rattle.coherence.proofs.Carrying.{gathers}
use Rattle.coherence.proofs.Classes.{marked_ack}
use Rattle.coherence.proofs.Clocks.{Shape}
use Rattle.coherence.proofs.FormsKept.{PlanGood, plan_good}
use Rattle.coherence.proofs.Moves.{Moves, Passes, once, twice, refuses, asks_holders, hears, finishes, frees}
use Rattle.coherence.proofs.MovesHomes.{each_asked, request_class, replies_come, questions_come, asks_if_free}
use Rattle.coherence.proofs.Phases.{gathers_so}
use Rattle.coherence.proofs.Posts.{kept_added, kept_all, kept_one, posted_call, posted_delivery}
use Rattle.coherence.proofs.Stepping.{after}
use Rattle.coherence.specs.Steps.{by_home}
use Rattle.coherence.specs.Worlds.{World, home_at, no_home}

module _ {A B : Type 0} (w : World A B) (shape : Shape w) (b : ℕ) (low : b < 16)
    (i : ℕ) (there : i < length w.messages) (m : Message ℕ) (is : get_or w.messages i no_message ≡ m) (place : m.place ≡ b)
    (acks : m.kind ≡ kind.Ack → m.sender < 4) (busy : gathers (home_at w b) ≡ true → is_request (round_of (home_at w b).directory).request.kind ≡ true) where
  abbrev h : Home ℕ
  h = home_at w b

  abbrev x : Block
  x = block b w

  abbrev ms : List (Message ℕ)
  ms = removed w.messages i

  abbrev y : Reaction (Home ℕ) → Block
  y r = block b (after w ms (by_home w b r))

  -- the block once the message is taken, with the home as it then is
  abbrev z : Home ℕ → Block
  z k = record { line = x.line; out = x.out; clock = x.clock; home = k; messages = filter (about b) ms; trail = x.trail }

  now : (r : Reaction (Home ℕ)) → (y r).home ≡ r.next
  now r = get_or-set_same w.homes b r.next no_home (let sixteen = shape.homes in omega arith)

  gone : about b m ≡ true → filter (about b) (get_or w.messages i no_message ∷ []) ≡ m ∷ []
  gone here = ap (λ (n : Message ℕ). filter (about b) (n ∷ [])) is ∙ kept_one (about b) m here

  posted : (r : Reaction (Home ℕ)) (ns : List (Message ℕ)) → about b m ≡ true → filter (about b) (sent r.sent) ≡ ns → Posted x.messages (m ∷ []) ns (y r).messages
  posted r ns here come =
      let P : List (Message ℕ) → List (Message ℕ) → Type 0 = λ out new. Posted x.messages out new (y r).messages in
      subst (λ (new : List (Message ℕ)). P (m ∷ []) new) come
      (subst (λ (out : List (Message ℕ)). P out (filter (about b) (sent r.sent))) (gone here) (posted_delivery (about b) w.messages (sent r.sent) i there))

  posted_taken : (k : Home ℕ) → about b m ≡ true → Posted x.messages (m ∷ []) [] (z k).messages
  posted_taken k here =
      let whole = posted_delivery (about b) w.messages [] i there in
      let P : List (Message ℕ) → List (Message ℕ) → Type 0 = λ out new. Posted x.messages out [] (filter (about b) new) in
      let half : P (m ∷ []) (ms ++ []) = subst (λ (out : List (Message ℕ)). P out (ms ++ [])) (gone here) whole in
      subst (λ (new : List (Message ℕ)). P (m ∷ []) new) (append-nil ms) half

  here_by : (k : Kind) → m.kind ≡ k → (goes_home k || comes_from_home k) ≡ true → about b m ≡ true
  here_by k at block_kind = and_from _ (eqb m.place b) (ap (λ j. goes_home j || comes_from_home j) at ∙ block_kind) (eq-eqb m.place b place)

  -- a home that has heard all finishes
  finish : (k : Home ℕ) → gathers k ≡ true → is_request (round_of k.directory).request.kind ≡ true → is_empty (round_of k.directory).awaited ≡ true
      → filter (on b) (option_to_list (finished k b).entry) ≡ option_to_list (finished k b).entry → Moves b (z k) (y (finished k b))
  finish k gathering asked heard own =
      let r = finished k b in
      let a = reply b (round_of k.directory).request r.next.words r.next.clock.global in
      let one : filter (about b) (a ∷ []) ≡ a ∷ [] = kept_one (about b) a (and_from _ (eqb b b) (replies_come (round_of k.directory).request.kind) (eq-eqb b b refl)) in
      let post : Posted (z k).messages [] (a ∷ []) (y r).messages = subst (λ (ns : List (Message ℕ)). Posted (z k).messages [] ns (y r).messages) one (posted_call (about b) ms (a ∷ [])) in
      let P : Home ℕ → Type 0 = λ g. Posted (z k).messages [] (reply b (round_of k.directory).request g.words g.clock.global ∷ []) (y r).messages in
      finishes (record {
        gathering = gathering;
        request = asked;
        heard = heard;
        lines = λ q. refl;
        outs = λ q. refl;
        clocks = λ q. refl;
        home = now r;
        messages = subst P (sym (now r)) post;
        trail = filter-append (on b) w.trail (option_to_list r.entry) ∙ ap (λ (es : List Entry). x.trail ++ es) own;
      })

  -- what a home does is on its block
  own_entry : (k : Home ℕ) → filter (on b) (option_to_list (finished k b).entry) ≡ option_to_list (finished k b).entry
  own_entry k = grind (arith, nat_tests)

  moved : {r q : Reaction (Home ℕ)} → q ≡ r → Passes b x (y q) → Passes b x (y r)
  moved same pass = subst (λ (o : Reaction (Home ℕ)). Passes b x (y o)) same pass

  -- an acknowledgement is heard
  ack_class : m.kind ≡ kind.Ack → token m ≡ cond m.exclusive marked_ack 12
  ack_class at = rw at refl

  ack_moves : (r : Reaction (Home ℕ)) → m.kind ≡ kind.Ack → acknowledged h b m ≡ Some r → Passes b x (y r)
  ack_moves r at heard = go (is_empty (round_of k.directory).awaited) refl same.1
    where
      k : Home ℕ
      k = heard_home h m

      same : (awaits h.directory m.sender ≡ true) × (Some (after_hearing k b) ≡ Some r)
      same = allowed (awaits h.directory m.sender) (Some (after_hearing k b)) r heard

      here : about b m ≡ true
      here = here_by kind.Ack at refl

      hear : (v : Block) → ((q : ℕ) → v.line q ≡ x.line q) → ((q : ℕ) → v.out q ≡ x.out q) → ((q : ℕ) → v.clock q ≡ x.clock q) → v.home ≡ k
          → Posted x.messages (m ∷ []) [] v.messages → v.trail ≡ x.trail → Moves b x v
      hear v lines outs clocks at_home post trail = hears m (record {
        small = acks at;
        awaited = same.0;
        class = ack_class at;
        end = rw at refl;
        lines = lines;
        outs = outs;
        clocks = clocks;
        home = at_home;
        messages = post;
        trail = trail;
      })

      go : (t : Bool) → is_empty (round_of k.directory).awaited ≡ t → Some (cond t (finished k b) (quiet k)) ≡ Some r → Passes b x (y r)
      go true all done =
          moved (let e : finished k b ≡ r = cc in e)
          (twice (z k) (hear (z k) (λ q. refl) (λ q. refl) (λ q. refl) refl (posted_taken k here) refl) (finish k refl (busy (gathers_so h m.sender same.0)) all (own_entry k)))
      go false some done =
          moved (let e : quiet k ≡ r = cc in e)
          (once (hear (y (quiet k)) (λ q. refl) (λ q. refl) (λ q. refl) (now (quiet k)) (posted (quiet k) [] here refl) (kept_added (on b) w.trail [] refl)))

  -- TAKEN
  taken_moves : (r : Reaction (Home ℕ)) → m.kind ≡ kind.Taken → taken h m.sender ≡ Some r → Passes b x (y r)
  taken_moves r at done =
      let same = allowed (awaits_taken h.directory m.sender) (Some (quiet k)) r done in
      moved (let e : quiet k ≡ r = (let f = same.1 in cc) in e)
      (once (frees m.sender m (record {
        awaited = same.0;
        class = rw at refl;
        end = rw at refl;
        lines = λ q. refl;
        outs = λ q. refl;
        clocks = λ q. refl;
        home = now (quiet k);
        messages = posted (quiet k) [] (here_by kind.Taken at refl) refl;
        trail = kept_added (on b) w.trail [] refl;
      })))
    where
      k : Home ℕ
      k = home (clock_freed h.clock m.sender) h.words (freed h.directory)

  -- a request is refused, or taken
  module _ (here : about b m ≡ true) (request : is_request m.kind ≡ true) where
    refuse : Passes b x (y (refused h b (request_of m)))
    refuse =
        let c = request_class m request in
        let r = refused h b (request_of m) in
        once (refuses m.sender m.kind m (nack b (request_of m)) request (record {
          class = c.0;
          end = c.1;
          class_back = refl;
          end_back = refl;
          words_back = refl;
          lines = λ q. refl;
          outs = λ q. refl;
          clocks = λ q. refl;
          home = now r;
          messages = posted r _ here (kept_one (about b) (nack b (request_of m)) (eq-eqb b b refl));
          trail = kept_added (on b) w.trail [] refl;
        }))

    ask : (t s : Processors) (v : Block) → plan m.kind (view h.directory) h.directory.holders m.sender ≡ Some (Ask t) → (s ≡ t) ⊎ ((s ≡ nobody) × (is_empty t ≡ true))
        → ((q : ℕ) → v.line q ≡ x.line q) → ((q : ℕ) → v.out q ≡ x.out q) → ((q : ℕ) → v.clock q ≡ x.clock q) → v.home ≡ asking_home h (request_of m) s
        → Posted x.messages (m ∷ []) (sent (asks (asks_by m.kind) b s)) v.messages → v.trail ≡ x.trail → Moves b x v
    ask t s v planned which lines outs clocks at_home post trail =
        let c = request_class m request in
        asks_holders m t s (record {
          free = asks_if_free h.directory m.kind t m.sender planned;
          planned = planned;
          asked = which;
          request = request;
          class = c.0;
          end = c.1;
          lines = lines;
          outs = outs;
          clocks = clocks;
          home = at_home;
          messages = post;
          trail = trail;
        })

    take : (t : Processors) → plan m.kind (view h.directory) h.directory.holders m.sender ≡ Some (Ask t) → Passes b x (y (asked h b (request_of m) t))
    take t planned = go (is_empty t) refl
      where
        k : Home ℕ
        k = began h (request_of m)

        q : Reaction (Home ℕ)
        q = record { next = asking_home h (request_of m) t; sent = asks (asks_by m.kind) b t; entry = None; answer = None }

        go : (e : Bool) → is_empty t ≡ e → Passes b x (y (cond e (finished k b) q))
        go true empty =
            twice (z k) (ask t nobody (z k) planned (inr (refl, empty)) (λ p. refl) (λ p. refl) (λ p. refl) refl (posted_taken k here) refl)
            (finish k refl request refl (own_entry k))
        go false some =
            once (ask t t (y q) planned (inl refl) (λ p. refl) (λ p. refl) (λ p. refl) (now q)
            (posted q _ here (kept_all (about b) (sent (asks (asks_by m.kind) b t)) (each_asked (λ n. about b n ≡ true) (asks_by m.kind) b t (λ p. and_from _ (eqb b b) (questions_come m.kind) (eq-eqb b b refl)))))
            (kept_added (on b) w.trail [] refl))

  request_moves : (r : Reaction (Home ℕ)) → requested h b (request_of m) ≡ Some r → Passes b x (y r)
  request_moves r done = go (plan m.kind (view h.directory) h.directory.holders m.sender) refl (plan_good m.kind (view h.directory) h.directory.holders m.sender) done
    where
      here : is_request m.kind ≡ true → about b m ≡ true
      here request = and_from _ (eqb m.place b) (or_left (goes_home m.kind) _ (request_class m request).2) (eq-eqb m.place b place)

      go : (f : Option Plan) → plan m.kind (view h.directory) h.directory.holders m.sender ≡ f → PlanGood m.kind h.directory.holders f → planned h b (request_of m) f ≡ Some r → Passes b x (y r)
      go None at good done = never cc
      go (Some Refuse) at good done = moved (let e : refused h b (request_of m) ≡ r = cc in e) (refuse (here good) good)
      go (Some (Ask t)) at good done = moved (let e : asked h b (request_of m) t ≡ r = cc in e) (take (here good.0) good.0 t at)

  pub home_moves : (r : Reaction (Home ℕ)) → received h b m ≡ Some r → Passes b x (y r)
  home_moves r done = by_ack (same_kind m.kind kind.Ack) refl (allowed (ltb b 16) _ r done).1
    where
      by_taken : (t : Bool) → same_kind m.kind kind.Taken ≡ t → cond t (taken h m.sender) (requested h b (request_of m)) ≡ Some r → Passes b x (y r)
      by_taken true at done = taken_moves r (numbers_tell_kinds m.kind kind.Taken at) done
      by_taken false at done = request_moves r done

      by_ack : (t : Bool) → same_kind m.kind kind.Ack ≡ t
          → cond t (acknowledged h b m) (cond (same_kind m.kind kind.Taken) (taken h m.sender) (requested h b (request_of m))) ≡ Some r
          → Passes b x (y r)
      by_ack true at done = ack_moves r (numbers_tell_kinds m.kind kind.Ack at) done
      by_ack false at done = by_taken (same_kind m.kind kind.Taken) refl done
