-- What a device's node does is, for a block, one of the moves.
use Rattle.std.proofs.Common.{◌≡◌, ℕ, ◌<◌, ◌≤◌, true, false, cond, eqb, List, [], ◌∷◌, ◌++◌, length, get_or, Some, None, filter, Option, sym, refl, ap, ◌∙◌, subst, inr, ⊎_elim, arith}
use Rattle.bridge.specs.Inputs.{Input, Act, Receive, reaction}
use Rattle.bridge.specs.Acts.{wish_message}
use Rattle.bridge.specs.Receipts.{again}
use Rattle.bridge.specs.declared.state.Bridge.{Bridge}
use Rattle.device.specs.Meaning.{Meaning, Laws}
use Rattle.list.specs.Contents.{removed}
use Rattle.message.specs.Kinds.{kind_number, is_request}
use Rattle.message.specs.Laws.{goes_home, comes_from_home}
use Rattle.message.specs.Messages.{no_message, plain}
use Rattle.message.specs.Nodes.{device_node, home_node, is_device}
use Rattle.message.specs.Reactions.{sent}
use Rattle.message.specs.Requests.{out, with_out}
use Rattle.message.specs.declared.kind.Kind.{Kind}
use Rattle.message.specs.declared.kind.Kind.TheVariants as kind
use Rattle.message.specs.declared.message.Message.{Message}
use Rattle.message.specs.Requests.{Requests}
use Rattle.message.specs.declared.reaction.Outbox.{Outbox}
use Rattle.message.specs.declared.reaction.Reaction.{Reaction}
use Rattle.ordering.specs.declared.operation.Words.{Words}
use Rattle.std.proofs.lemmas.List.{get_or-set_same, get_or-set_other}
use Rattle.std.proofs.lemmas.Bool.{and_from, and_right, cases_eq, eq-eqb, ne_eqb, or_left}
use Rattle.std.proofs.lemmas.Bool.Decides.{nat_tests}
use Rattle.std.specs.Option.{option_to_list}
use Rattle.trail.specs.declared.entry.Entry.{Entry}
use Rattle.coherence.proofs.Blocks.{Block, Posted, about, on, token, peer, done_to_device}
use Rattle.coherence.proofs.Carrying.{is_block_request}
use Rattle.coherence.proofs.Moves.{Moves, Takes, OutPut, OutsStay, rests, requests, lands, stored, again as sends_again}
use Rattle.coherence.proofs.MovesDeliveries.{nack_token}
use Rattle.coherence.proofs.MovesWishes as wishes
use Rattle.coherence.proofs.Posts.{kept_added, kept_one, kept_not, kept_still, posted_call, posted_delivery}
use Rattle.coherence.proofs.Shifts.{put_same}

-- a block request by its class
request_token : (k : Kind) (n h b c q : ℕ) (ws : Words) → is_block_request k ≡ true
    → (token (record { kind = k; sender = n; receiver = h; place = b; words = ws; clock = c; sequence = q; exclusive = false; refused = None }) ≡ kind_number k)
    × (goes_home k ≡ true) × (is_request k ≡ true)
request_token k n h b c q ws is = (grind (arith, nat_tests), grind (arith, nat_tests), grind (arith, nat_tests))

-- what is refused to a device is a block request
abbrev pub BlockRefused : Message ℕ → Type 0
BlockRefused m = (k : Kind) → m.refused ≡ Some k → is_block_request k ≡ true

-- Blocks x and y differ by what node n, a device's, did: it has br before and r's next after.
module _ (b : ℕ) (low : b < 16) (x y : Block) (n : ℕ) (device : 4 ≤ n) (two : is_device n ≡ true)
    (messages : List (Message ℕ)) (trail : List Entry) (old_messages : x.messages ≡ filter (about b) messages) (old_trail : x.trail ≡ filter (on b) trail)
    (lines : (q : ℕ) → y.line q ≡ x.line q) (clocks : (q : ℕ) → y.clock q ≡ x.clock q) (home : y.home ≡ x.home) where
  module _ {S : Type 0} (m : Meaning S) (d : ℕ) (is_node : n ≡ device_node d) (br : Bridge S ℕ) (r : Reaction (Bridge S ℕ)) (sixteen : length br.requests.at ≡ 16)
      (was_out : x.out n ≡ out br.requests b) (outs : OutPut b x y n (out r.next.requests b))
      (new_trail : y.trail ≡ filter (on b) (trail ++ option_to_list r.entry)) where
    outs_stay : out r.next.requests b ≡ out br.requests b → OutsStay b x y
    outs_stay same q = grind (arith, nat_tests)

    trail_stays : (i : Input) → reaction m d br i ≡ Some r → y.trail ≡ x.trail
    trail_stays i h = new_trail ∙ kept_added (on b) trail (option_to_list r.entry) (wishes.off_blocks m d br r i h b) ∙ sym old_trail

    still : (i : Input) → reaction m d br i ≡ Some r → out r.next.requests b ≡ out br.requests b → y.messages ≡ x.messages → Moves b x y
    still i h same quiet = rests (record {
      lines = lines;
      outs = outs_stay same;
      clocks = λ q. let c = clocks q in omega arith;
      home = home;
      messages = quiet;
      trail = trail_stays i h;
    })

    -- its device's wish
    pub wish_moves : Laws m → (ps : ℕ) → reaction m d br (Act ps) ≡ Some r → y.messages ≡ filter (about b) (messages ++ sent r.sent) → Moves b x y
    wish_moves l ps h new = go (wishes.acted m d br r l ps h)
      where
        go : wishes.Acts m d br r → Moves b x y
        go (wishes.works z) =
            still (Act ps) h (ap (λ (o : Requests). out o b) z.requests)
            (new ∙ kept_added (about b) messages (sent r.sent) (z.sends b) ∙ sym old_messages)
        go (wishes.asks k a ws z) = ⊎_elim here there (cases_eq a b)
          where
            a_message : Message ℕ
            a_message = wish_message k d br (home_node a) a ws

            t : (token a_message ≡ kind_number k) × (goes_home k ≡ true) × (is_request k ≡ true)
            t = request_token k (device_node d) (home_node a) a br.clock.global br.sequence ws z.block_request

            sends : sent r.sent ≡ a_message ∷ []
            sends = ap (λ (q : Reaction (Bridge S ℕ)). sent q.sent) z.is

            asked : r.next.requests ≡ with_out br.requests a (Some k)
            asked = ap (λ (q : Reaction (Bridge S ℕ)). q.next.requests) z.is

            there : (a ≡ b → ⊥) → Moves b x y
            there apart =
                still (Act ps) h (ap (λ (o : Requests). out o b) asked ∙ get_or-set_other br.requests.at a b (Some k) None (λ e. apart (sym e)))
                (new ∙ kept_added (about b) messages (sent r.sent) (ap (filter (about b)) sends ∙ kept_not (about b) a_message (and_right _ (eqb a b) (ne_eqb a b apart))) ∙ sym old_messages)

            here : a ≡ b → Moves b x y
            here same =
                let one : filter (about b) (sent r.sent) ≡ a_message ∷ [] = ap (filter (about b)) sends ∙ kept_one (about b) a_message (and_from _ (eqb a b) (or_left (goes_home k) _ t.1) (eq-eqb a b same)) in
                let post = posted_call (about b) messages (sent r.sent) in
                let posted : Posted x.messages [] (a_message ∷ []) y.messages =
                rw (old_messages, new) (subst (λ (ns : List (Message ℕ)). Posted (filter (about b) messages) [] ns (filter (about b) (messages ++ sent r.sent))) one post) in
                let now : out r.next.requests b ≡ Some k =
                ap (λ (o : Requests). out o b) asked ∙ ap (λ (c : ℕ). out (with_out br.requests c (Some k)) b) same ∙ get_or-set_same br.requests.at b (Some k) None (omega arith) in
                requests n k a_message (record {
                  free = was_out ∙ ap (out br.requests) (sym same) ∙ z.free;
                  fit = inr (device, z.block_request);
                  class = t.0;
                  end = rw t.1 (sym is_node);
                  four = z.four;
                  lines = lines;
                  outs = λ q. outs q ∙ ap (λ (o : Option Kind). cond (eqb n q) o (x.out q)) now;
                  clocks = clocks;
                  home = home;
                  messages = posted;
                  trail = trail_stays (Act ps) h;
                })

    -- a message that reaches it
    module _ (i : ℕ) (there : i < length messages) (e : Message ℕ) (is : get_or messages i no_message ≡ e) (to : e.receiver ≡ n)
        (new : y.messages ≡ filter (about b) (removed messages i ++ sent r.sent)) where
      quiet : about b e ≡ false → filter (about b) (sent r.sent) ≡ [] → y.messages ≡ x.messages
      quiet other none = new ∙ kept_still (about b) messages (sent r.sent) i no_message there (ap (about b) is ∙ other) none ∙ sym old_messages

      posted : (a : Message ℕ) → about b e ≡ true → filter (about b) (sent r.sent) ≡ a ∷ [] → Posted x.messages (e ∷ []) (a ∷ []) y.messages
      posted a here come =
          let P : List (Message ℕ) → List (Message ℕ) → Type 0 = λ gone ns. Posted (filter (about b) messages) gone ns (filter (about b) (removed messages i ++ sent r.sent)) in
          let whole : P (filter (about b) (get_or messages i no_message ∷ [])) (filter (about b) (sent r.sent)) = posted_delivery (about b) messages (sent r.sent) i there in
          let one : filter (about b) (get_or messages i no_message ∷ []) ≡ e ∷ [] = ap (λ (z : Message ℕ). filter (about b) (z ∷ [])) is ∙ kept_one (about b) e here in
          rw (old_messages, new) (subst (λ (ns : List (Message ℕ)). P (e ∷ []) ns) come (subst (λ (gone : List (Message ℕ)). P gone (filter (about b) (sent r.sent))) one whole))

      -- a reply
      takes : (k : Kind) (c : ℕ) → wishes.Ends m d br r k e → e.sender ≡ home_node b → e.place ≡ b → about b e ≡ true → token e ≡ c → peer e ≡ n
          → reaction m d br (Receive e) ≡ Some r → Takes b x y n k (x.line n) (x.line n) c e
      takes k c z from place here class end h =
          let sends : sent r.sent ≡ plain kind.Taken n (home_node b) b ∷ [] =
          ap sent z.sends ∙ ap (λ (p : ℕ). plain kind.Taken (device_node d) e.sender p ∷ []) place ∙ ap (λ (s : ℕ). plain kind.Taken (device_node d) s b ∷ []) from
          ∙ ap (λ (q : ℕ). plain kind.Taken q (home_node b) b ∷ []) (sym is_node) in
          let one : filter (about b) (sent r.sent) ≡ plain kind.Taken n (home_node b) b ∷ [] = ap (filter (about b)) sends ∙ kept_one (about b) _ (eq-eqb b b refl) in
          let now : out r.next.requests b ≡ None =
          ap (λ (o : Requests). out o b) z.requests ∙ ap (λ (p : ℕ). out (with_out br.requests p None) b) place ∙ get_or-set_same br.requests.at b None None (omega arith) in
          record {
            asked = was_out ∙ ap (out br.requests) (sym place) ∙ z.asked;
            was = refl;
            class = class;
            end = end;
            onward = λ small. absurd (omega arith);
            lines = λ q. lines q ∙ sym (put_same n q x.line);
            outs = λ q. outs q ∙ ap (λ (o : Option Kind). cond (eqb n q) o (x.out q)) now;
            clocks = λ q. let c = clocks q in omega arith;
            home = home;
            messages = posted _ here one;
            trail = trail_stays (Receive e) h;
          }

      -- a reply about another block
      takes_elsewhere : (k : Kind) → wishes.Ends m d br r k e → (e.place ≡ b → ⊥) → about b e ≡ false → reaction m d br (Receive e) ≡ Some r → Moves b x y
      takes_elsewhere k z apart other h =
          still (Receive e) h (ap (λ (o : Requests). out o b) z.requests ∙ get_or-set_other br.requests.at e.place b None None (λ s. apart (sym s)))
          (quiet other (ap (λ (o : Outbox). filter (about b) (sent o)) z.sends ∙ kept_not (about b) (plain kind.Taken (device_node d) e.sender e.place) (ne_eqb e.place b apart)))

      pub delivery_moves : (comes_from_home e.kind ≡ true → e.sender ≡ home_node e.place) → BlockRefused e → reaction m d br (Receive e) ≡ Some r → Moves b x y
      delivery_moves sound block_only h = go (wishes.got m d br r e h)
        where
          apart_from : (e.place ≡ b → ⊥) → about b e ≡ false
          apart_from apart = and_right _ (eqb e.place b) (ne_eqb e.place b apart)

          go : wishes.Gets m d br r e → Moves b x y
          go (wishes.untouched none z) = still (Receive e) h (ap (λ (o : Requests). out o b) z.requests) (quiet (none b) (z.sends b))
          go (wishes.landed k z) =
              ⊎_elim
              (λ place. lands n e device (takes kind.Rblk 17 z (sound (rw k refl) ∙ ap home_node place) place (rw k (eq-eqb e.place b place)) (rw k refl) (rw k to) h))
              (λ apart. takes_elsewhere kind.Rblk z apart (apart_from apart) h)
              (cases_eq e.place b)
          go (wishes.finished k z) =
              ⊎_elim
              (λ place. stored n e device (takes kind.Wblk done_to_device z (sound (rw k refl) ∙ ap home_node place) place (rw k (eq-eqb e.place b place)) (rw (k, to, two) refl) (rw k to) h))
              (λ apart. takes_elsewhere kind.Wblk z apart (apart_from apart) h)
              (cases_eq e.place b)
          go (wishes.sent_again k is_nack z) = ⊎_elim here elsewhere (cases_eq e.place b)
            where
              a : Message ℕ
              a = again k d br e

              request : is_block_request k ≡ true
              request = block_only k z.refused

              t : (token a ≡ kind_number k) × (goes_home k ≡ true) × (is_request k ≡ true)
              t = request_token k (device_node d) e.sender e.place br.clock.global e.sequence e.words request

              same : out r.next.requests b ≡ out br.requests b
              same = ap (λ (o : Requests). out o b) z.requests

              elsewhere : (e.place ≡ b → ⊥) → Moves b x y
              elsewhere apart =
                  still (Receive e) h same
                  (quiet (apart_from apart) (ap (λ (o : Outbox). filter (about b) (sent o)) z.sends ∙ kept_not (about b) a (and_right _ (eqb e.place b) (ne_eqb e.place b apart))))

              here : e.place ≡ b → Moves b x y
              here place =
                  let one : filter (about b) (sent r.sent) ≡ a ∷ [] =
                  ap (λ (o : Outbox). filter (about b) (sent o)) z.sends ∙ kept_one (about b) a (and_from _ (eqb e.place b) (or_left (goes_home k) _ t.1) (eq-eqb e.place b place)) in
                  sends_again n k e a t.2 (record {
                    class = nack_token e k is_nack z.refused;
                    end = rw is_nack to;
                    class_back = t.0;
                    end_back = rw t.1 (sym is_node);
                    words_back = refl;
                    lines = lines;
                    outs = outs_stay same;
                    clocks = clocks;
                    home = home;
                    messages = posted a (rw is_nack (eq-eqb e.place b place)) one;
                    trail = trail_stays (Receive e) h;
                  })
