-- A turn of a walk's loop, over any lists of runs: what the walk below tells, and each way out.
--   Turn          `below` are the runs that follow the turn's step k, `rest` those behind them; to seek through both
--                 comes to what it is to seek through the whole, and nothing is stored yet
--   LeavesBelow   what the walk below tells and stores, one deeper
-- Assumes nothing.
use Prim.Native.Nat.{ℕ, ◌+◌, ◌*◌}
use mathlib.Core.Path.{◌≡◌, refl, sym, ap, ◌∙◌}
use mathlib.Core.Bool.{Bool}
use mathlib.Core.List.{List, ◌∷◌, ◌++◌, map}
use lib.ListN.{length}
use lib.Seq.{sets}
use native.Mathlib.Omega.{arith}
use Rattle.cases.specs.declared.case.Step.{Step}
use Rattle.cases.specs.declared.record.Record.TheVariants.{Take}
use Rattle.cases.specs.Record.{record_bytes}
use Rattle.cases.specs.Seats.{steps_bytes}
use Rattle.cases.specs.Sizes.{step_size}
use Rattle.search.specs.declared.walk.Walked.{Walked}
use Rattle.search.specs.declared.walk.Walked.TheVariants.{Found, Finished, Stopped}
use Rattle.search.specs.Walk.{Visit, under}
use Rattle.search.specs.Seek.{Sought, hit, used_up, seek, walked_of, stored_of}
use Rattle.search.proofs.seek.SeekLaws.{onward, behind_step, seek_append, seek_under, walked_found}
use Rattle.search.proofs.seek.SeekLaws.{walked_finished, walked_stopped}
use Rattle.search.proofs.shown.StoreLaws.{step_before, length_stored}
use Rattle.search.proofs.walk.WalkLoopLaws.{Left, left_as}

pub record Turn {S : Type 0} (test : S → Bool) (left b : ℕ) (below rest whole : List (Visit S Step)) (k : Step)
    (before out : List ℕ) : Type 0 where
  pub same : seek test left (map (under k) below ++ rest) ≡ seek test b whole
  pub kept : out ≡ before

abbrev pub LeavesBelow : ℕ → Sought Step → List ℕ → Walked → List ℕ → Type 0
LeavesBelow depth sought out r last =
    (r ≡ walked_of (depth + 1) sought) × (last ≡ stored_of (depth + 1) sought out)

module _ {S : Type 0} {test : S → Bool} {left b : ℕ} {below rest whole : List (Visit S Step)} {k : Step}
    {before out : List ℕ} (o : Turn test left b below rest whole k before out) (depth : ℕ) (r : Walked)
    (last : List ℕ) (leaves : LeavesBelow depth (seek test left below) out r last) where
  -- what is found below decides, or it goes on with what is left of the budget
  on_from : Sought Step → Sought Step
  on_from x = onward (behind_step k x) (λ c. seek test c rest)

  whole_is : seek test b whole ≡ on_from (seek test left below)
  unfolding on_from
  whole_is =
      sym o.same
      ∙ seek_append test left (map (under k) below) rest
      ∙ ap (λ x. onward x (λ c. seek test c rest)) (seek_under test left k below)

  -- the lent bytes are as many as before
  pub below_length : length last ≡ length out
  below_length = ap length leaves.1 ∙ length_stored (depth + 1) (seek test left below) out

  -- a run was found below: the step goes before it
  pub below_found : (f : ℕ) → r ≡ Found f
      → Left test whole b depth before (Found f) (sets last (step_size * depth) (record_bytes (Take k)))
  unfolding walked_of stored_of on_from
  below_found f e =
      let w = walked_found (depth + 1) (seek test left below) f (sym leaves.0 ∙ e) in
      let long = w.2 in
      left_as test b depth before whole (hit (k ∷ w.0)) (whole_is ∙ ap on_from w.1) (Found f) _
      (ap Found (omega arith))
      (ap (λ y. sets y (step_size * depth) (record_bytes (Take k)))
      (leaves.1 ∙ ap (λ y. stored_of (depth + 1) y out) w.1)
      ∙ step_before out depth k w.0
      ∙ ap (λ y. sets y (step_size * depth) (steps_bytes (k ∷ w.0))) o.kept)

  -- the budget was used up below
  pub below_stopped : r ≡ Stopped → Left test whole b depth before Stopped last
  unfolding walked_of stored_of on_from
  below_stopped e =
      let w = walked_stopped (depth + 1) (seek test left below) (sym leaves.0 ∙ e) in
      left_as test b depth before whole used_up (whole_is ∙ ap on_from w) Stopped last refl
      (leaves.1 ∙ ap (λ y. stored_of (depth + 1) y out) w ∙ o.kept)

  -- none was found below: it goes on with what is left of the budget, and nothing is stored yet
  pub below_finished : (more : ℕ) → r ≡ Finished more
      → (seek test more rest ≡ seek test b whole) × (last ≡ before)
  unfolding stored_of on_from
  below_finished more e =
      let w = walked_finished (depth + 1) (seek test left below) more (sym leaves.0 ∙ e) in
      (sym (whole_is ∙ ap on_from w), leaves.1 ∙ ap (λ y. stored_of (depth + 1) y out) w ∙ o.kept)
