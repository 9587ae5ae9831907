-- Lanes that the code holds: what its functions may ask of them, and that a next step leads to such lanes
-- again. Assumes nothing.
use Prim.Native.Nat.{ℕ, suc, ◌+◌, ◌*◌, ◌-◌, ◌≤◌, ◌<◌}
use mathlib.Core.Path.{◌≡◌, sym, ap, subst, ◌∙◌}
use mathlib.Core.Logic.{◌≢◌}
use mathlib.Core.Bool.{Bool, false}
use mathlib.Core.List.{List}
use lib.ListN.{length}
use native.Mathlib.Omega.{arith}
use Rattle.cases.specs.declared.case.Step.{Step}
use Rattle.cases.specs.Sizes.{step_size}
use Rattle.cases.specs.Checks.{limits_of, step_fault}
use Rattle.machine.specs.Sizes.{most_work}
use Rattle.machine.specs.Rules.{rule_of, next_of}
use Rattle.machine.specs.Work.{work}
use Rattle.machine.specs.Model.{Listed, legal_steps}
use Rattle.machine.specs.Ptso.{ptso}
use Rattle.machine.proofs.Promises.{ptso_lawful, step_fits, step_lowers}
use Rattle.search.specs.declared.next.Ranks.{Ranks}
use Rattle.search.specs.Sizes.{most_lanes}
use Rattle.search.specs.Listing.{ListingFits}
use Rattle.search.specs.Rows.{FewEntries}
use Rattle.search.specs.Barred.{legal_lanes, next_lanes}
use Rattle.search.specs.Taken.{padded, step_lanes, lanes_machine, reaches_lanes, Takes}
use Rattle.search.specs.Held.{Held}
use Rattle.search.proofs.listing.ListingLaws.{listing_fits}
use Rattle.search.proofs.lanes.StateLaws.{lay_of}
use Rattle.search.proofs.lanes.LookLanesLaws.{laid_of}
use Rattle.search.proofs.lanes.NextLanesLaws.{legal_is, legal_listed}
use Rattle.search.proofs.lanes.StepLanesLaws.{few_lanes, lanes_long, step_lanes_lem, step_takes, step_few}
use Rattle.search.proofs.next.RanksLaws.{next_pushed, ranks_lists}
use Rattle.search.proofs.walk.WalkLoopLaws.{Lists, Walking, walking_start}

-- what the walk's loop keeps, over lanes
abbrev pub Walks : List ℕ → List Bool → List ℕ → List ℕ → List ℕ → ℕ → ℕ → Ranks → List ℕ → List ℕ → ℕ → ℕ → Type 0
Walks c wanted want passed x depth =
    Walking (lanes_machine c) (most_work - depth) (reaches_lanes c wanted want passed) x

module _ {c x : List ℕ} {depth room : ℕ} (h : Held c x depth room) where
  -- they are the lanes of a state that fits, of a program that does
  laid_is : x ≡ laid_of h.program h.state
  laid_is = h.laid ∙ ap padded (sym (lay_of h.program h.state))

  pub held_fits : ListingFits c
  held_fits = rw h.listed (listing_fits h.program h.fits.program)

  pub held_few : FewEntries c x
  held_few = rw (h.listed, laid_is) (few_lanes h.program h.state h.fits h.few)

  pub held_long : length x ≡ most_lanes
  held_long = ap length laid_is ∙ lanes_long h.program h.state h.fits h.few

  -- their next steps are the state's
  legal_held : legal_lanes c x ≡ legal_steps (ptso h.program) h.state
  legal_held = rw (h.listed, laid_is) (legal_is h.program h.state h.fits)

  -- the array of ranks lists the next steps
  pub held_lists : Lists (next_lanes c x) (legal_lanes c x)
  held_lists =
      rw (next_pushed c x, legal_held) (ranks_lists h.program h.state h.fits)

  -- the loop begins
  pub walks_start : (wanted : List Bool) (want passed : List ℕ) (b : ℕ) (next : Ranks) (out : List ℕ)
      → next ≡ next_lanes c x → b ≢ 0 → (here : Bool) → here ≡ reaches_lanes c wanted want passed x → here ≡ false
      → Walks c wanted want passed x depth b next out out (b - 1) 0
  walks_start wanted want passed b next out e = walking_start out (rw e held_lists)

  -- a next step
  module _ (k : Step) (on : Listed k (legal_lanes c x)) where
    -- it is legal; it leaves less to do
    legal : (step_fault (limits_of h.program) k ≡ 0) × (rule_of h.program h.state k ≡ 0)
    legal = legal_listed h.program h.fits.program h.state k (subst (Listed k) legal_held on)

    less : work h.program (next_of h.program h.state k) < work h.program h.state
    less =
        step_lowers (ptso h.program) (ptso_lawful h.program h.fits.program) h.state h.fits k
        legal.0 legal.1

    -- it is what the code asks of a step; the walk is not as deep as it may be
    pub held_takes : Takes c x k
    held_takes =
        rw (h.listed, laid_is) (step_takes h.program h.state h.fits h.few k legal.0 legal.1)

    pub held_deep : depth < most_work
    held_deep = let w = less in let d = h.deep in omega arith

    -- how deep the walk below may go, one deeper
    pub held_below : suc (most_work - (depth + 1)) ≡ most_work - depth
    held_below = let d = held_deep in omega arith

    -- the run has room for it; the lanes that it leads to are held again
    pub held_room : step_size * depth + step_size ≤ room
    held_room = let w = less in let r = h.roomy in omega arith

    pub held_next : (z : List ℕ) → z ≡ step_lanes c x k → Held c z (depth + 1) room
    held_next z z_is =
        record {
          program = h.program;
          state = next_of h.program h.state k;
          fits = step_fits h.program h.state h.fits k legal.0 legal.1;
          few = step_few h.program h.state h.fits h.few k legal.0 legal.1;
          listed = h.listed;
          laid =
              z_is
              ∙ rw (h.listed, laid_is)
              (step_lanes_lem h.program h.state h.fits h.few k legal.0 legal.1
              ∙ ap padded (lay_of h.program (next_of h.program h.state k)));
          deep = (let w = less in let d = h.deep in omega arith);
          roomy = (let w = less in let r = h.roomy in omega arith);
        }
