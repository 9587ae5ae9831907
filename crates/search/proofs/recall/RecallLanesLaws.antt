-- The walk over lanes that remembers lists the first meetings of the machine's walk, and what the code seeks is sought
-- among these. Assumes nothing.
use Prim.Native.Nat.{ℕ, suc, ◌≤◌}
use mathlib.Core.Path.{◌≡◌, sym, ap, subst, ◌∙◌}
use mathlib.Core.List.{[]}
use native.Mathlib.Omega.{arith}
use Rattle.cases.specs.declared.case.Step.{Step}
use Rattle.cases.specs.declared.case.Program.{Program}
use Rattle.cases.specs.declared.case.Ask.{Ask}
use Rattle.cases.specs.Sizes.{all_code}
use Rattle.cases.specs.Ranges.{ProgramFits}
use Rattle.machine.specs.declared.cells.State.{State}
use Rattle.machine.specs.Sizes.{most_work}
use Rattle.machine.specs.Rules.{next_of}
use Rattle.machine.specs.Fit.{together, Fits}
use Rattle.machine.specs.Work.{work}
use Rattle.machine.specs.Model.{legal_steps, Listed}
use Rattle.machine.specs.Ptso.{ptso}
use Rattle.machine.proofs.Promises.{ptso_lawful}
use Rattle.search.specs.Walk.{machine_of, walk_of}
use Rattle.search.specs.Question.{reaches}
use Rattle.search.specs.Seek.{seek}
use Rattle.search.specs.Lanes.{lanes_of}
use Rattle.search.specs.Listing.{listing_of}
use Rattle.search.specs.Taken.{padded, reaches_lanes, step_lanes}
use Rattle.search.specs.Barred.{legal_lanes}
use Rattle.search.specs.Held.{AskWithin}
use Rattle.search.specs.Remember.{firsts}
use Rattle.search.specs.Recall.{key_lanes, sought_new}
use Rattle.search.proofs.lanes.StateLaws.{lay_of}
use Rattle.search.proofs.lanes.NextLanesLaws.{legal_is}
use Rattle.search.proofs.lanes.ReachLanesLaws.{reaches_is}
use Rattle.search.proofs.lanes.WorkLanesLaws.{same_work, key_lanes_lem, laid_lanes, lanes_laid}
use Rattle.search.proofs.walk.WalkLaws.{walk_enough}
use Rattle.search.proofs.walk.WalkModelLaws.{walkable}
use Rattle.search.proofs.walk.WalkLanesLaws.{Good, lanes_along}
use Rattle.search.proofs.recall.ClosedLaws.{Keyed, closed_none, remembering_firsts}
use Rattle.search.proofs.recall.RecallAlongLaws.{seek_new_along}

module _ (p : Program) (fits : ProgramFits p) where
  -- states with equal lanes have the same next steps, which lead to states with equal lanes
  nexts_same : (s u : State) → Fits p s → Fits p u → lanes_of p s ≡ lanes_of p u
      → legal_steps (ptso p) s ≡ legal_steps (ptso p) u
  nexts_same s u f g e =
      sym (legal_is p s f) ∙ ap (legal_lanes (listing_of p)) (lanes_laid p s u e) ∙ legal_is p u g

  after_same : (s u : State) → Good p fits s → Good p fits u → lanes_of p s ≡ lanes_of p u
      → (k : Step) → Listed k (legal_steps (ptso p) s)
      → lanes_of p (next_of p s k) ≡ lanes_of p (next_of p u k)
  after_same s u f g e k on =
      let there = subst (Listed k) (nexts_same s u f.0 g.0 e) on in
      laid_lanes p (next_of p s k) (next_of p u k)
      ((lanes_along p fits).keeps s f k on).0 ((lanes_along p fits).keeps u g k there).0
      (sym ((lanes_along p fits).after s f k on)
      ∙ ap (λ x. step_lanes (listing_of p) x k) (lanes_laid p s u e)
      ∙ (lanes_along p fits).after u g k there)

  -- so their lanes are a key
  pub lanes_keyed : Keyed (machine_of (ptso p)) (lanes_of p) (Good p fits) (work p)
  lanes_keyed =
      record {
        keeps = (lanes_along p fits).keeps;
        falls = λ s g. (walkable (ptso p) (ptso_lawful p fits)).lowers s g.0;
        same_left = λ s u g h. same_work p s u g.0 h.0;
        same_nexts = λ s u g h. nexts_same s u g.0 h.0;
        same_after = after_same;
      }

  -- what the code seeks, from a state that is not too deep
  pub seek_new : (a : Ask) → AskWithin p a → (s : State) → Fits p s → together p s ≤ all_code
      → work p s ≤ most_work → (b : ℕ)
      → sought_new (listing_of p) a.wanted a.want a.passed 0 b [] (padded (lanes_of p s))
      ≡ seek (reaches a) b (firsts (lanes_of p) [] (walk_of (ptso p) s))
  seek_new a within s f few deep b =
      ap (λ l. sought_new (listing_of p) a.wanted a.want a.passed 0 b [] (padded l)) (sym (lay_of p s))
      ∙ seek_new_along (lanes_along p fits) (lanes_of p) (key_lanes (listing_of p)) (λ u g. key_lanes_lem p u g.0)
      (reaches a) (reaches_lanes (listing_of p) a.wanted a.want a.passed)
      (λ u g. reaches_is p u g.0 a within) b (suc most_work) [] s (f, few)
      ∙ ap (seek (reaches a) b)
      (remembering_firsts lanes_keyed (suc most_work) [] s (f, few) (omega arith) (closed_none lanes_keyed (work p s)))
      ∙ ap (λ vs. seek (reaches a) b (firsts (lanes_of p) [] vs))
      (walk_enough (machine_of (ptso p)) (walkable (ptso p) (ptso_lawful p fits)) (suc most_work) (suc (work p s)) s f
      (omega arith) (omega arith))
