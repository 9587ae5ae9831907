-- The walk over lanes is the machine's walk: the same runs in the same order, each ending in the lanes of the
-- state where the other ends. Assumes nothing.
use Prim.Native.Nat.{ℕ, suc, ◌≤◌}
use mathlib.Core.Path.{◌≡◌, sym, ap, ◌∙◌}
use mathlib.Core.List.{map}
use native.Mathlib.Omega.{arith}
use Rattle.cases.specs.declared.case.Program.{Program}
use Rattle.cases.specs.declared.case.Ask.{Ask}
use Rattle.cases.specs.Sizes.{all_code}
use Rattle.cases.specs.Ranges.{ProgramFits}
use Rattle.machine.specs.declared.cells.State.{State}
use Rattle.machine.specs.Sizes.{most_work}
use Rattle.machine.specs.Fit.{together, Fits}
use Rattle.machine.specs.Work.{work}
use Rattle.machine.specs.Ptso.{ptso}
use Rattle.machine.proofs.Promises.{ptso_lawful, step_fits}
use Rattle.search.specs.Walk.{walk, machine_of, walk_of}
use Rattle.search.specs.Question.{reaches}
use Rattle.search.specs.Seek.{seek}
use Rattle.search.specs.Lanes.{lanes_of}
use Rattle.search.specs.Listing.{listing_of}
use Rattle.search.specs.Taken.{padded, lanes_machine, reaches_lanes}
use Rattle.search.specs.Held.{AskWithin}
use Rattle.search.proofs.lanes.StateLaws.{lay_of}
use Rattle.search.proofs.lanes.LookLanesLaws.{laid_of}
use Rattle.search.proofs.lanes.NextLanesLaws.{legal_is, legal_listed}
use Rattle.search.proofs.lanes.StepLanesLaws.{step_lanes_lem, step_few}
use Rattle.search.proofs.lanes.ReachLanesLaws.{reaches_is}
use Rattle.search.proofs.walk.WalkLaws.{walk_enough}
use Rattle.search.proofs.walk.WalkModelLaws.{walkable}
use Rattle.search.proofs.walk.AlongLaws.{Along, ends_along, walk_along, seek_along}

module _ (p : Program) (fits : ProgramFits p) where
  -- a state that fits, with no more entries than there is room for
  abbrev pub Good : State → Type 0
  Good s = Fits p s × (together p s ≤ all_code)

  -- the machine over lanes goes along with the machine
  pub lanes_along : Along (machine_of (ptso p)) (lanes_machine (listing_of p)) (laid_of p) Good
  lanes_along =
      record {
        keeps = λ s g k on.
            let l = legal_listed p fits s k on in
            (step_fits p s g.0 k l.0 l.1, step_few p s g.0 g.1 k l.0 l.1);
        nexts = λ s g. legal_is p s g.0;
        after = λ s g k on. let l = legal_listed p fits s k on in step_lanes_lem p s g.0 g.1 k l.0 l.1;
      }

  -- so does its walk
  pub walk_lanes : (n : ℕ) (s : State) → Fits p s → together p s ≤ all_code
      → walk (lanes_machine (listing_of p)) n (laid_of p s) ≡ map (ends_along (laid_of p)) (walk (machine_of (ptso p)) n s)
  walk_lanes n s f few = walk_along lanes_along n s (f, few)

  -- what the code seeks, from a state that is not too deep
  pub seek_lanes : (a : Ask) → AskWithin p a → (s : State) → Fits p s → together p s ≤ all_code
      → work p s ≤ most_work → (b : ℕ)
      → seek (reaches_lanes (listing_of p) a.wanted a.want a.passed) b
      (walk (lanes_machine (listing_of p)) (suc most_work) (padded (lanes_of p s)))
      ≡ seek (reaches a) b (walk_of (ptso p) s)
  seek_lanes a within s f few deep b =
      ap (λ l. seek (reaches_lanes (listing_of p) a.wanted a.want a.passed) b
      (walk (lanes_machine (listing_of p)) (suc most_work) (padded l))) (sym (lay_of p s))
      ∙ seek_along lanes_along (reaches a) (reaches_lanes (listing_of p) a.wanted a.want a.passed)
      (λ u g. reaches_is p u g.0 a within) b (suc most_work) s (f, few)
      ∙ ap (seek (reaches a) b)
      (walk_enough (machine_of (ptso p)) (walkable (ptso p) (ptso_lawful p fits)) (suc most_work) (suc (work p s)) s f
      (omega arith) (omega arith))
