-- "Wherever both engines decide, they agree, the run shown included": what is decided of the walk and what is
-- decided of the distinct states are one, for a test that states of one key pass alike. Assumes nothing.
use Prim.Native.Nat.{ℕ, zero, suc}
use mathlib.Core.Path.{◌≡◌, refl, sym, ap, ◌∙◌}
use mathlib.Core.Bool.{Bool, true, false}
use mathlib.Core.Logic.{◌≢◌}
use mathlib.Core.List.{List, [], ◌∷◌}
use native.Mathlib.Omega.{arith}
use lib.ListN.{length, take}
use lib.Seq.{take_all}
use lib.Dec.{leb}
use borrow.Author.Tests.{leb-true}
use Rattle.cases.specs.declared.case.Program.{Program}
use Rattle.cases.specs.declared.case.Ask.{Ask}
use Rattle.cases.specs.Ranges.{ProgramFits}
use Rattle.cases.proofs.ChoiceLaws.{never_both}
use Rattle.machine.specs.declared.cells.State.{State}
use Rattle.machine.specs.Fit.{Fits}
use Rattle.machine.specs.Model.{Model, Lawful, Listed}
use Rattle.machine.specs.Ptso.{ptso}
use Rattle.machine.proofs.Promises.{ptso_lawful, leads_fits}
use Rattle.search.specs.Walk.{Visit, walk_from}
use Rattle.search.specs.Question.{reaches, First, found, missing, first_of, undecided, decided_by, decided}
use Rattle.search.specs.Question.{ask_of}
use Rattle.search.specs.Lanes.{lanes_of}
use Rattle.search.specs.Listing.{listing_of}
use Rattle.search.specs.Taken.{reaches_lanes}
use Rattle.search.specs.Held.{AskWithin}
use Rattle.search.specs.Remember.{among, distinct_of, recall_of}
use Rattle.search.proofs.lanes.ReachLanesLaws.{reaches_is}
use Rattle.search.proofs.lanes.WorkLanesLaws.{lanes_laid}
use Rattle.search.proofs.walk.WalkModelLaws.{walk_leads}
use Rattle.search.proofs.recall.FirstsLaws.{cases}
use Rattle.search.proofs.recall.FirstsOnceLaws.{first_agrees}

module _ {S K : Type 0} (test : S → Bool) where
  -- the first that passes among some at the front is the first of all
  first_take : (b : ℕ) (vs : List (Visit S K)) (run : List K) → first_of test (take b vs) ≡ found run
      → first_of test vs ≡ found run
  unfolding first_of
  first_take zero vs run h = absurd (let z : ◌≡◌ {A = ℕ} 0 1 = cc in omega arith)
  first_take (suc b) [] run h = h
  first_take (suc b) (v ∷ vs) run h =
      cases (test v.end)
      (λ t. rw (t, first_of) (rw (t, first_of) at h))
      (λ t. rw (t, first_of) (first_take b vs run (rw (t, first_of) at h)))

  -- what is decided at some budget is what all runs say
  decided_whole : (b : ℕ) (vs : List (Visit S K)) → decided test b vs ≢ undecided
      → decided test b vs ≡ decided_by (first_of test vs) true
  unfolding decided decided_by
  decided_whole b vs = go (first_of test (take b vs)) refl (leb (length vs) b) refl
    where
      go : (x : First K) → first_of test (take b vs) ≡ x → (t : Bool) → leb (length vs) b ≡ t
          → decided_by x t ≢ undecided
          → decided_by x t ≡ decided_by (first_of test vs) true
      go (found run) e t l n = ap (λ x. decided_by x true) (sym (first_take b vs run e))
      go missing e true l n =
          ap (λ x. decided_by x true)
          (sym e ∙ ap (first_of test) (take_all b vs (leb-true (length vs) b l)))
      go missing e false l n = absurd (n refl)

  -- so two lists that have the same first one agree
  pub decided_agrees : (vs ws : List (Visit S K)) → first_of test vs ≡ first_of test ws → (b n : ℕ)
      → decided test b vs ≢ undecided → decided test n ws ≢ undecided
      → decided test b vs ≡ decided test n ws
  decided_agrees vs ws e b n h k =
      decided_whole b vs h ∙ ap (λ x. decided_by x true) e ∙ sym (decided_whole n ws k)

-- A model that has its laws, a key, and a test that states of one key which fit pass alike
module _ {S K : Type 0} (m : Model S K) {Fit : S → Type 0} {rank : K → ℕ} (laws : Lawful m Fit rank)
    (key : S → List ℕ) (test : S → Bool)
    (like : (s u : S) → Fit s → Fit u → key s ≡ key u → test s ≡ test u) where
  -- every run of the walk ends in a state that fits
  ends_fit : (v : Visit S K) → Listed v (walk_from m) → Fit v.end
  unfolding walk_from
  ends_fit v l =
      let r = walk_leads m laws m.start laws.starts v.run v.end l in
      leads_fits m laws m.start v.run v.end laws.starts r.0 r.1

  -- the first distinct state that passes stands at the end of the walk's first run that passes
  pub distinct_agrees : first_of test (distinct_of m key) ≡ first_of test (walk_from m)
  unfolding distinct_of among
  distinct_agrees =
      first_agrees key test Fit like [] (λ s f a. absurd (never_both a refl)) (walk_from m) ends_fit

  pub recall_agrees : (b n : ℕ) → ask_of m test b ≢ undecided → recall_of m key test n ≢ undecided
      → ask_of m test b ≡ recall_of m key test n
  unfolding ask_of recall_of
  recall_agrees b n = decided_agrees test (walk_from m) (distinct_of m key) (sym distinct_agrees) b n

-- The machine: states that fit and have equal lanes reach what is asked alike; so its engines agree
module _ (p : Program) (a : Ask) (within : AskWithin p a) where
  pub reaches_alike : (s u : State) → Fits p s → Fits p u → lanes_of p s ≡ lanes_of p u
      → reaches a s ≡ reaches a u
  reaches_alike s u fit fits e =
      sym (reaches_is p s fit a within)
      ∙ ap (reaches_lanes (listing_of p) a.wanted a.want a.passed) (lanes_laid p s u e)
      ∙ reaches_is p u fits a within

  pub recall_agrees_ptso : ProgramFits p → (b n : ℕ)
      → ask_of (ptso p) (reaches a) b ≢ undecided
      → recall_of (ptso p) (lanes_of p) (reaches a) n ≢ undecided
      → ask_of (ptso p) (reaches a) b ≡ recall_of (ptso p) (lanes_of p) (reaches a) n
  recall_agrees_ptso fits =
      recall_agrees (ptso p) (ptso_lawful p fits) (lanes_of p) (reaches a) reaches_alike
