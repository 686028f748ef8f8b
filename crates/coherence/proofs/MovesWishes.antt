-- What each reaction of a bridge is for the blocks: nothing, a request, a reply taken, or a refused request sent again.
use Rattle.std.proofs.Common.{◌≡◌, ℕ, ◌+◌, ◌<◌, true, false, [], length, Some, None, Ok, Err, filter, Option, Result, sym, refl, ◌∙◌, arith}
use Rattle.bridge.specs.Acts.{Decision, numbering, wish_message, request, act_on}
use Rattle.bridge.specs.Deeds.{performed}
use Rattle.bridge.specs.Inputs.{Input, Act, Receive, reaction}
use Rattle.bridge.specs.Receipts.{again, answering, replied, receive_kind, refused}
use Rattle.bridge.specs.declared.fault.DeviceFault.{DeviceFault}
use Rattle.bridge.specs.declared.fault.DeviceFault.TheVariants.{NoWish}
use Rattle.bridge.specs.declared.plan.Deed.{Deed}
use Rattle.bridge.specs.declared.plan.Deed.TheVariants.{Request, Land, Finish}
use Rattle.bridge.specs.declared.plan.Plan.{Plan}
use Rattle.bridge.specs.declared.state.Bridge.{Bridge}
use Rattle.bridge.proofs.Clocks.{entries_are_stamped}
use Rattle.device.specs.Meaning.{Meaning, Laws}
use Rattle.device.specs.declared.meaning.Wish.{Wish}
use Rattle.message.specs.Messages.{plain}
use Rattle.message.specs.Nodes.{device_node, home_node}
use Rattle.message.specs.Reactions.{sent, single}
use Rattle.message.specs.Requests.{out, with_out}
use Rattle.message.specs.declared.kind.Kind.{Kind}
use Rattle.message.specs.declared.kind.Kind.TheVariants as kind
use Rattle.message.specs.declared.message.Message.{Message}
use Rattle.message.specs.declared.reaction.Reaction.{Reaction}
use Rattle.ordering.specs.Words.{no_words}
use Rattle.ordering.specs.declared.operation.Operation.{Operation}
use Rattle.ordering.specs.declared.operation.Operation.TheVariants.{Ld, St, LdIo, StIo, Int, LdBlk, StBlk}
use Rattle.ordering.specs.declared.operation.Words.{Words}
use Rattle.ordering.specs.Clocks.{passed}
use Rattle.std.proofs.lemmas.Bool.{ne_eqb}
use Rattle.std.proofs.lemmas.Bool.Decides.{nat_tests}
use Rattle.std.specs.Option.{option_to_list}
use Rattle.coherence.proofs.Arising.{never}
use Rattle.coherence.proofs.Blocks.{about, on}
use Rattle.coherence.proofs.Carrying.{is_block_request}
use Rattle.coherence.proofs.MovesElsewhere.{off_memory}

module _ {S : Type 0} (m : Meaning S) (d : ℕ) (br : Bridge S ℕ) (r : Reaction (Bridge S ℕ)) where
  -- what a decision comes to
  abbrev comes_to : Decision → Option (Reaction (Bridge S ℕ))
  comes_to z = elim z [ Ok p ↦ Some (performed m d br p) | Err f ↦ None ]

  pub record Works : Type 0 where
    pub requests : r.next.requests ≡ br.requests
    pub sends : (b : ℕ) → filter (about b) (sent r.sent) ≡ []

  abbrev pub request_sent : Kind → ℕ → Words → Reaction (Bridge S ℕ)
  request_sent k a ws = performed m d br (numbering br br.clock (Request (wish_message k d br (home_node a) a ws)))

  pub record Asks (k : Kind) (a : ℕ) (ws : Words) : Type 0 where
    pub block_request : is_block_request k ≡ true
    pub four : length ws.at ≡ 4
    pub low : a < 16
    pub free : out br.requests a ≡ None
    pub is : r ≡ request_sent k a ws

  pub data Acts : Type 0 where
    works : Works → Acts
    asks : (k : Kind) (a : ℕ) (ws : Words) → Asks k a ws → Acts

  asked : (k : Kind) (a : ℕ) (ws : Words) → is_block_request k ≡ true → length ws.at ≡ 4 → comes_to (request d br k a ws) ≡ Some r → Asks k a ws
  asked k a ws block_kind four h = grind (arith, nat_tests)

  by_operation : (ps : ℕ) (h : Wish) (o : Operation) → length h.words.at ≡ 4 → comes_to (act_on o m d ps br h) ≡ Some r → Acts
  by_operation ps h Ld four is = never cc
  by_operation ps h St four is = never cc
  by_operation ps h LdIo four is = works (record { requests = grind (arith, nat_tests); sends = λ b. grind (arith, nat_tests) })
  by_operation ps h StIo four is = works (record { requests = grind (arith, nat_tests); sends = λ b. grind (arith, nat_tests) })
  by_operation ps h Int four is = works (record { requests = grind (arith, nat_tests); sends = λ b. grind (arith, nat_tests) })
  by_operation ps h LdBlk four is = asks kind.Rblk h.place no_words (asked kind.Rblk h.place no_words refl refl is)
  by_operation ps h StBlk four is = asks kind.Wblk h.place h.words (asked kind.Wblk h.place h.words refl four is)

  abbrev performing : Decision → Result (Reaction (Bridge S ℕ)) DeviceFault
  performing z = elim z [ Ok p ↦ Ok (performed m d br p) | Err f ↦ Err f ]

  abbrev accepted : Result (Reaction (Bridge S ℕ)) DeviceFault → Option (Reaction (Bridge S ℕ))
  accepted z = elim z [ Ok r ↦ Some r | Err f ↦ None ]

  flat : (z : Decision) → accepted (performing z) ≡ comes_to z
  flat (Ok p) = refl
  flat (Err f) = refl

  pub acted : Laws m → (ps : ℕ) → reaction m d br (Act ps) ≡ Some r → Acts
  acted l ps is = go (m.wish br.device) refl is
    where
      go : (o : Option Wish) → m.wish br.device ≡ o
          → accepted (performing (elim o [ None ↦ Err (NoWish d) | Some h ↦ act_on h.operation m d ps br h ])) ≡ Some r → Acts
      go None wish is = never cc
      go (Some h) wish is = by_operation ps h h.operation (l.four_words br.device h wish) (sym (flat (act_on h.operation m d ps br h)) ∙ is)

  -- WORDS and DONE end the request for the block, and TAKEN goes to the home; a NACK has the request sent again.
  pub record Ends (k : Kind) (x : Message ℕ) : Type 0 where
    pub asked : out br.requests x.place ≡ Some k
    pub requests : r.next.requests ≡ with_out br.requests x.place None
    pub sends : r.sent ≡ single (plain kind.Taken (device_node d) x.sender x.place)

  pub record Again (k : Kind) (x : Message ℕ) : Type 0 where
    pub refused : x.refused ≡ Some k
    pub asked : out br.requests x.place ≡ Some k
    pub requests : r.next.requests ≡ br.requests
    pub sends : r.sent ≡ single (again k d br x)

  pub data Gets (x : Message ℕ) : Type 0 where
    untouched : ((b : ℕ) → about b x ≡ false) → Works → Gets x
    landed : x.kind ≡ kind.Words → Ends kind.Rblk x → Gets x
    finished : x.kind ≡ kind.Done → Ends kind.Wblk x → Gets x
    sent_again : (k : Kind) → x.kind ≡ kind.Nack → Again k x → Gets x

  abbrev does : Option (Plan ℕ) → Option (Reaction (Bridge S ℕ))
  does z = elim z [ Some p ↦ Some (performed m d br p) | None ↦ None ]

  -- a reply to a request of kind k that is out
  ended : (x : Message ℕ) (k : Kind) (a : Deed) → ((performed m d br (answering br (passed br.clock x.clock) a)).next.requests ≡ with_out br.requests x.place None)
      → (performed m d br (answering br (passed br.clock x.clock) a)).sent ≡ single (plain kind.Taken (device_node d) x.sender x.place)
      → does (replied br x k a) ≡ Some r → Ends k x
  ended x k a requests sends h = grind (arith, nat_tests)

  resent : (x : Message ℕ) → does (refused d br x) ≡ Some r → (k : Kind) × Again k x
  resent x h = grind (arith, nat_tests)

  pub got : (x : Message ℕ) → reaction m d br (Receive x) ≡ Some r → Gets x
  got x h = go x.kind refl h
    where
      go : (k : Kind) → x.kind ≡ k → does (receive_kind k m d br x) ≡ Some r → Gets x
      go kind.Rio k h = untouched (λ b. rw k refl) (record { requests = grind (arith, nat_tests); sends = λ b. grind (arith, nat_tests) })
      go kind.Wio k h = untouched (λ b. rw k refl) (record { requests = grind (arith, nat_tests); sends = λ b. grind (arith, nat_tests) })
      go kind.Done k h = finished k (ended x kind.Wblk (Finish x.sender x.place) refl refl h)
      go kind.Words k h = landed k (ended x kind.Rblk (Land x.sender x.place x.words) refl refl h)
      go kind.Nack k h = let z = resent x h in sent_again z.0 k z.1
      go _ k h = never cc

  -- what a bridge does is on its device's words
  pub off_blocks : (i : Input) → reaction m d br i ≡ Some r → (b : ℕ) → filter (on b) (option_to_list r.entry) ≡ []
  off_blocks i h b =
      off_memory b r.entry (λ e is. ne_eqb e.space 0 (let s : e.space ≡ 1 + d = ((entries_are_stamped m).stamps br d i r h e is).1 in omega arith))
