-- What effects at homes do to the operations under way.
use Rattle.std.proofs.Common.{◌≡◌, ℕ, ◌<◌, true, false, ◌⊎◌, List, [], ◌∷◌, Some, None, Option, sym, refl, ap, subst, inl, inr, ⊎_elim, arith}
use Rattle.home.specs.Directories.{round_of}
use Rattle.home.specs.Reactions as home
use Rattle.home.specs.declared.machine.Home.{Home}
use Rattle.home.specs.declared.request.Request.{Request}
use Rattle.message.specs.Checks.{end_fits, fits}
use Rattle.message.specs.Forms.{form_of}
use Rattle.message.specs.Nodes.{device_node, home_node}
use Rattle.message.specs.Reactions.{sent}
use Rattle.message.specs.declared.figures.Figures.{Figures}
use Rattle.message.specs.declared.form.End.{End}
use Rattle.message.specs.declared.form.End.TheVariants as end
use Rattle.message.specs.declared.form.Form.{Form}
use Rattle.message.specs.declared.message.Message.{Message}
use Rattle.message.specs.declared.reaction.Reaction.{Reaction}
use Rattle.std.proofs.ByRecursion.{All-weaker}
use Rattle.std.proofs.lemmas.List.{get_or-set_same, get_or-set_other}
use Rattle.std.proofs.lemmas.Bool.{cases_eq, both_ways}
use Rattle.std.proofs.lemmas.Bool.Decides.{nat_tests}
use Rattle.std.specs.List.{AllByRecursion as All}
use Rattle.coherence.proofs.Carrying.{carries, serves, block_access, carried_access, served_access}
use Rattle.coherence.proofs.Clocks.{Shape}
use Rattle.coherence.proofs.Errands.{Errands, goes_on, delivered, gathered, Carrier, in_message, in_home}
use Rattle.coherence.proofs.ErrandsHomes.{GivenBack, HomeErrands, home_errands}
use Rattle.coherence.proofs.ErrandsAtProcessors.{Comes}
use Rattle.coherence.proofs.FormsBuilt.{Well, fits_parts}
use Rattle.coherence.proofs.Orderly.{is_channel, Follows}
use Rattle.coherence.proofs.Rising.{Pairs}
use Rattle.coherence.proofs.Standing.{stands_all}
use Rattle.coherence.proofs.Tally.{crosses}
use Rattle.coherence.proofs.Timing.{came_so}
use Rattle.coherence.specs.Promise.{Stands}
use Rattle.coherence.specs.Steps.{Effect, by_home}
use Rattle.coherence.specs.Worlds.{World, home_at, no_home}

pairs_silent : (m : Message ℕ) (ys : List (Message ℕ)) → All (GivenBack m) ys → Pairs Follows ys
pairs_silent m [] all = tt
pairs_silent m (y ∷ ys) all =
    (All-weaker (GivenBack m) (Follows y) (λ z g a. absurd (both_ways (is_channel y.kind) all.0.channel a)) ys all.1, pairs_silent m ys all.1)

home_place : (f : Figures) (m : Message ℕ) (b : ℕ) → Well f m → m.receiver ≡ home_node b → m.place ≡ b
home_place f m b well to = go (form_of m.kind m.refused) well
  where
    end_at : (x : End) (p : ℕ) → end_fits f x (home_node b) p ≡ true → p ≡ b
    end_at end.Processor p fits = grind (arith, nat_tests)
    end_at end.Device p fits = grind (arith, nat_tests)
    end_at end.Requester p fits = grind (arith, nat_tests)
    end_at end.Home p fits = grind (arith, nat_tests)
    end_at end.Owner p fits = grind (arith, nat_tests)
    end_at end.Target p fits = grind (arith, nat_tests)

    go : (x : Option Form) → elim x [ None ↦ false | Some o ↦ fits f o m ] ≡ true → m.place ≡ b
    go None h = absurd (both_ways false refl h)
    go (Some o) h = end_at o.receiver m.place (subst (λ (n : ℕ). end_fits f o.receiver n m.place ≡ true) to (fits_parts f o m h).receiver)

module _ {A B : Type 0} (w : World A B) where
  module _ (shape : Shape w) (f : Figures) (b : ℕ) (small : b < 16) (m : Message ℕ) (r : Reaction (Home ℕ)) (comes : Comes w f m (home_node b)) (h : home.received (home_at w b) b m ≡ Some r) where
    abbrev e : Effect A B
    e = by_home w b r

    t : HomeErrands b (home_at w b) m r
    t = came_so (home.received (home_at w b) b m) (HomeErrands b (home_at w b) m) r h (home_errands b (home_at w b) m (home_place f m b comes.well comes.receiver))

    given : (y : Message ℕ) → Stands (sent r.sent) y → GivenBack m y
    given y there = stands_all (GivenBack m) (sent r.sent) y t.sends there

    here : home_at e.next b ≡ r.next
    here = get_or-set_same w.homes b r.next no_home (omega (arith, shape.homes))

    abbrev Kept : ℕ → ℕ → ℕ → Home ℕ → Type 0
    Kept j n s k = serves n s k ≡ true → Carrier w n s (round_of k.directory).request.clock (served_access j k)

    homes_here : (n s : ℕ) → Kept b n s r.next
    homes_here n s c =
        ⊎_elim
        (λ (x : (serves n s (home_at w b) ≡ true) × ((round_of r.next.directory).request ≡ (round_of (home_at w b).directory).request)).
        in_home b small x.0 (ap (λ (q : Request). q.clock) (sym x.1)) (ap (λ (q : Request). block_access q.kind b) (sym x.1)))
        (λ (x : (carries n s m ≡ true) × (carried_access m ≡ served_access b r.next) × ((round_of r.next.directory).request.clock ≡ m.clock)).
        in_message m (comes.at, comes.there) x.0 (sym x.2) x.1)
        (t.gathers n s c)

    homes : (j n s : ℕ) → j < 16 → Kept j n s (home_at e.next j)
    homes j n s low = go (cases_eq j b)
      where
        go : (j ≡ b) ⊎ (j ≡ b → ⊥) → Kept j n s (home_at e.next j)
        go (inl same) = subst (λ (i : ℕ). Kept i n s (home_at e.next i)) (sym same) (subst (Kept b n s) (sym here) (homes_here n s))
        go (inr apart) = subst (Kept j n s) (sym (get_or-set_other w.homes b j r.next no_home apart)) (λ c. in_home j low c refl refl)

    pub at_homes : Errands w e
    at_homes = record {
      sends = λ y there n s c.
          let x = (given y there).back n s c in
          goes_on m.clock (in_message m (comes.at, comes.there) x.0 refl x.1) x.3 (inl x.2);
      together = pairs_silent m (sent r.sent) t.sends;
      homes = homes;
      does = λ x does.
          ⊎_elim
          (λ k. gathered b small k.0 k.1 k.2)
          (λ k. delivered comes.at m comes.there comes.turn k.0 k.1 k.2)
          (t.does x does);
      values = λ p d low two y there value. absurd (both_ways (crosses 18 (device_node d) p y) ((given y there).value (device_node d) p) value);
      slots = λ p d low two none. inl none;
      came = λ p d v low two is. inl is;
      outs = λ d j two low none. inl none;
    }
