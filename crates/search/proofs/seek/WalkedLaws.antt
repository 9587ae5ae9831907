-- What the walk's answer comes to: the number and the place that the question tells, and what is left of the
-- budget. Assumes nothing.
use Prim.Native.Nat.{ℕ, zero, suc, ◌+◌, ◌-◌, ◌≤◌}
use mathlib.Core.Path.{◌≡◌, refl, sym, ap}
use mathlib.Core.Logic.{inl, inr}
use mathlib.Core.Bool.{Bool}
use mathlib.Core.List.{List, [], ◌∷◌}
use native.Mathlib.Omega.{arith}
use lib.ListN.{length}
use Rattle.cases.specs.declared.case.Step.{Step}
use Rattle.machine.specs.Model.{Model, Listed}
use Rattle.search.specs.Walk.{Visit, walk_from}
use Rattle.search.specs.Question.{None, ask_of, outcome_no, outcome_place, told_of}
use Rattle.search.specs.Seek.{Sought, hit, done, used_up, seek, walked_of, walked_no, walked_place}
use Rattle.search.specs.Seek.{walked_rest}
use Rattle.search.proofs.seek.SeekLaws.{comes_to, seek_decides}

-- each of the three
walked_comes : (x : Sought Step)
    → (walked_no (walked_of 0 x) ≡ outcome_no (told_of (comes_to x)))
    × (walked_place (walked_of 0 x) ≡ outcome_place (told_of (comes_to x)))
unfolding walked_of told_of
walked_comes (hit run) = (refl, omega arith)
walked_comes (done b) = (refl, refl)
walked_comes used_up = (refl, refl)

pub walked_told : {S : Type 0} (m : Model S Step) (test : S → Bool) (b : ℕ)
    → (walked_no (walked_of 0 (seek test b (walk_from m))) ≡ outcome_no (told_of (ask_of m test b)))
    × (walked_place (walked_of 0 (seek test b (walk_from m))) ≡ outcome_place (told_of (ask_of m test b)))
unfolding ask_of
walked_told m test b =
    rw (sym (seek_decides test b (walk_from m))) (walked_comes (seek test b (walk_from m)))

-- none passes, and the budget has n more than there are runs
seek_none : {S K : Type 0} (test : S → Bool) (b n : ℕ) (vs : List (Visit S K)) → None test vs
    → b ≡ n + length vs
    → seek test b vs ≡ done n
unfolding seek None Listed
seek_none test b n [] f e = let same : b ≡ n = omega arith in ap done same
seek_none test zero n (v ∷ vs) f e = absurd (omega arith)
seek_none test (suc b) n (v ∷ vs) f e =
    rw (f v (inl refl), seek) (seek_none test b n vs (λ w h. f w (inr h)) (omega arith))

pub walked_rest_lem : {S : Type 0} (m : Model S Step) (test : S → Bool) (b : ℕ)
    → None test (walk_from m)
    → length (walk_from m) ≤ b
    → walked_rest (walked_of 0 (seek test b (walk_from m))) + length (walk_from m) ≡ b
unfolding walked_of
walked_rest_lem m test b none covers =
    let n : ℕ = b - length (walk_from m) in
    rw (seek_none test b n (walk_from m) none (omega arith)) (omega arith)
