-- What Takes tells of a step, by its code. Assumes nothing.
use Prim.Native.Nat.{ℕ, ◌<◌}
use mathlib.Core.Path.{◌≡◌}
use mathlib.Core.Logic.{◌≢◌, ⊎_elim}
use mathlib.Core.List.{List}
use native.Mathlib.Omega.{arith}
use lib.ListN.{get_or}
use Rattle.cases.specs.declared.case.Step.{Step}
use Rattle.cases.specs.Operations.{issue, move}
use Rattle.cases.proofs.ChoiceLaws.{otherwise}
use Rattle.search.specs.Listing.{threads_in, lines_in, count_in}
use Rattle.search.specs.Rows.{queue_row, row_len, RoomForOne}
use Rattle.search.specs.Taken.{Takes}

-- what Takes says of a step by its code
module _ (c x : List ℕ) (k : Step) (h : Takes c x k) where
  pub takes_issue : k.code ≡ issue
      → (k.thread.0 < threads_in c) × (get_or x k.thread.0 0 < count_in c k.thread.0) × RoomForOne c x
  unfolding Takes
  takes_issue e =
      ⊎_elim (λ w. (w.1, w.2, w.3))
      (λ v. absurd (⊎_elim (λ w. let d = w.0 in omega arith) (λ w. let d = w.0 in omega arith) v)) h

  pub takes_move : k.code ≡ move → (k.thread.0 < threads_in c) × (k.position < row_len c x k.thread.0)
  unfolding Takes
  takes_move e =
      ⊎_elim (λ w. (w.1, w.2)) (λ w. absurd (let d = w.0 in omega arith))
      (otherwise h (λ w. let d = w.0 in omega arith))

  pub takes_persist : k.code ≢ issue → k.code ≢ move
      → (k.location.0 < lines_in c) × (0 < row_len c x (queue_row c k.location.0))
  unfolding Takes
  takes_persist e f =
      let w = otherwise (otherwise h (λ v. e v.0)) (λ v. f v.0) in
      (w.1, w.2)

pub ruleset taking = (takes_issue, takes_move, takes_persist)
