-- The test for what is asked, over the lanes of a state, says what it says of the state. Assumes nothing.
use Prim.Native.Nat.{ℕ, ◌≤◌}
use mathlib.Core.Path.{◌≡◌, refl, ap, ◌∙◌}
use mathlib.Core.Bool.{Bool, true, false}
use mathlib.Core.List.{List}
use native.Mathlib.Omega.{arith}
use native.Mathlib.Nat.{eq-zero-or-pos}
use mathlib.Core.Logic.{⊎_elim}
use borrow.Author.Tests.{le-ltb}
use lib.Dec.{ltb}
use lib.ListN.{get_or}
use Rattle.cases.specs.declared.case.Program.{Program}
use Rattle.cases.specs.declared.case.Ask.{Ask}
use Rattle.cases.specs.Choice.{both}
use Rattle.cases.specs.Sizes.{most_threads, most_locations}
use Rattle.cases.specs.Checks.{count_at}
use Rattle.machine.specs.declared.cells.State.{State}
use Rattle.machine.specs.Fit.{any_from, Fits}
use Rattle.search.specs.Question.{misses, misses_at, lacks_at, reaches_in, reaches}
use Rattle.search.specs.Listing.{threads_in, locations_in, listing_of}
use Rattle.search.specs.Taken.{misses_lane, reaches_lanes}
use Rattle.search.specs.Held.{AskWithin}
use Rattle.search.proofs.listing.ListingLaws.{listing_threads, listing_locations}
use Rattle.search.proofs.lanes.GeneralLaws.{any_below}
use Rattle.search.proofs.lanes.LayLaws.{see_issued, see_word}
use Rattle.search.proofs.lanes.StateLaws.{seen_of}
use Rattle.search.proofs.lanes.LookLanesLaws.{laid_of}

module _ (p : Program) (s : State) (fit : Fits p s) (a : Ask) (within : AskWithin p a) where
  abbrev c : List ℕ
  c = listing_of p

  abbrev x : List ℕ
  x = laid_of p s

  -- of a location that the program lacks nothing is wanted
  unwanted : (l : ℕ) → p.locations ≤ l → (b : Bool) → get_or a.wanted l false ≡ b → b ≡ false
  unwanted l far false e = refl
  unwanted l far true e = let low = within.wants l e in absurd (omega arith)

  -- so a word is missed among the lanes where one is in the state
  missed : any_from 0 (locations_in c) (misses_lane c a.wanted a.want x)
      ≡ any_from 0 most_locations (misses_at a.wanted a.want s.words)
  unfolding misses_lane misses_at
  missed =
      let few = fit.program.sized.few_locations in
      let e = listing_locations p in
      any_below (misses_lane c a.wanted a.want x) (misses_at a.wanted a.want s.words)
      (locations_in c) most_locations (omega arith)
      (λ l low. ap (misses (get_or a.wanted l false) (get_or a.want l 0)) (see_word c (seen_of p s) l low))
      (λ l far low.
      ap (λ b. misses b (get_or a.want l 0) (get_or s.words l 0))
      (unwanted l (omega arith) (get_or a.wanted l false) refl)
      ∙ unfold misses both in refl)

  -- a thread that the program lacks has nothing to issue
  no_count : (t : ℕ) → p.threads ≤ t → count_at p t ≡ 0
  no_count t far =
      ⊎_elim (λ e. e) (λ some. let low = (fit.program.instructions t 0 some).0 in absurd (omega arith))
      (eq-zero-or-pos (count_at p t))

  -- so a thread lacks something by the lanes where one does by the state
  lacked : any_from 0 (threads_in c) (lacks_at a.passed x) ≡ any_from 0 most_threads (lacks_at a.passed s.issued)
  unfolding lacks_at
  lacked =
      let few = fit.program.sized.few_threads in
      let e = listing_threads p in
      any_below (lacks_at a.passed x) (lacks_at a.passed s.issued) (threads_in c) most_threads (omega arith)
      (λ t low. ap (λ n. ltb n (get_or a.passed t 0)) (see_issued c (seen_of p s) t low))
      (λ t far low.
      let none = no_count t (omega arith) in
      let most = within.passed t in
      le-ltb (get_or s.issued t 0) (get_or a.passed t 0) (omega arith))

  -- together
  pub reaches_is : reaches_lanes c a.wanted a.want a.passed x ≡ reaches a s
  unfolding reaches_lanes reaches reaches_in
  reaches_is = rw (missed, lacked)
