-- A turn of the loop of the walk's code: what it may take for granted, and each way out of it. Assumes nothing.
use Prim.Native.Nat.{ℕ, suc, ◌+◌, ◌*◌, ◌<◌}
use mathlib.Core.Path.{◌≡◌, refl, sym, ap, subst, ◌∙◌}
use mathlib.Core.Logic.{inl}
use mathlib.Core.Bool.{Bool}
use mathlib.Core.List.{List, ◌∷◌, ◌++◌, map}
use lib.ListN.{length, get_or, drop}
use lib.Seq.{sets}
use native.Mathlib.Omega.{arith}
use Rattle.cases.specs.declared.case.Step.{Step}
use Rattle.cases.specs.declared.record.Record.TheVariants.{Take}
use Rattle.cases.specs.Record.{record_bytes}
use Rattle.cases.specs.Sizes.{step_size}
use Rattle.machine.specs.Model.{Listed}
use Rattle.machine.proofs.lists.ListedLaws.{listed_drop}
use Rattle.search.specs.declared.next.Ranks.{Ranks}
use Rattle.search.specs.declared.walk.Walked.{Walked}
use Rattle.search.specs.declared.walk.Walked.TheVariants.{Found, Finished, Stopped}
use Rattle.search.specs.Barred.{step_at}
use Rattle.search.specs.Walk.{Machine, under, starting, walk}
use Rattle.search.specs.Seek.{seek}
use Rattle.search.proofs.walk.WalkLoopLaws.{Lists, rest_of, Left, Walking}
use Rattle.search.proofs.walk.TurnLaws.{Turn, LeavesBelow, below_length, below_found}
use Rattle.search.proofs.walk.TurnLaws.{below_stopped, below_finished}

-- k is the step of the rank at position i: it stands in front of those that are still to be walked
module _ {next : Ranks} {ks : List Step} (list : Lists next ks) {i : ℕ} (h : i < next.count) (k : Step)
    (k_is : k ≡ step_at (get_or next.ranks i 0)) where
  pub lists_front : drop i ks ≡ k ∷ drop (i + 1) ks
  lists_front = list.here i h ∙ ap (λ j. j ∷ drop (i + 1) ks) (sym k_is)

  -- it is one of the next steps
  pub lists_listed : Listed k ks
  unfolding Listed
  lists_listed = listed_drop k i ks (subst (Listed k) (sym lists_front) (inl refl))

module _ {S : Type 0} {m : Machine S Step} {n : ℕ} {test : S → Bool} {s : S} {b : ℕ} {next : Ranks}
    {before out : List ℕ} {left i : ℕ} (o : Walking m n test s b next before out left i) where
  -- a turn: k is the step of the rank at position i, z the state behind it, and j the depth of the walk below z
  module _ (h : i < next.count) (k : Step) (k_is : k ≡ step_at (get_or next.ranks i 0)) where
    pub turn_listed : Listed k (m.nexts s)
    turn_listed = lists_listed o.list h k k_is

    module _ (z : S) (z_is : z ≡ m.after s k) (j : ℕ) (j_is : j ≡ n) where
      -- what starts with k, then what starts with a later step
      turn : Turn test left b (walk m j z) (rest_of m n s (drop (i + 1) (m.nexts s))) (walk m (suc n) s) k before out
      unfolding starting
      turn = record { same = through; kept = o.kept }
        where
          through : seek test left (map (under k) (walk m j z) ++ rest_of m n s (drop (i + 1) (m.nexts s)))
              ≡ seek test b (walk m (suc n) s)
          through =
              ap (λ u. seek test left (map (under k) (walk m j u) ++ rest_of m n s (drop (i + 1) (m.nexts s)))) z_is
              ∙ ap (λ d. seek test left
              (map (under k) (walk m d (m.after s k)) ++ rest_of m n s (drop (i + 1) (m.nexts s)))) j_is
              ∙ ap (λ ks. seek test left (rest_of m n s ks)) (sym (lists_front o.list h k k_is))
              ∙ o.same

      module _ (depth : ℕ) (r : Walked) (last : List ℕ)
          (below : LeavesBelow depth (seek test left (walk m j z)) out r last) where
        abbrev Leaves : Walked → List ℕ → Type 0
        Leaves = Left test (walk m (suc n) s) b depth before

        pub turn_length : length last ≡ length out
        turn_length = below_length turn depth r last below

        -- a run was found below; the budget was used up
        pub turn_found : (f : ℕ) → r ≡ Found f
            → Leaves (Found f) (sets last (step_size * depth) (record_bytes (Take k)))
        turn_found = below_found turn depth r last below

        pub turn_stopped : r ≡ Stopped → Leaves Stopped last
        turn_stopped = below_stopped turn depth r last below

        -- none was found: the loop goes on with what is left of the budget
        pub turn_finished : (rest : ℕ) → r ≡ Finished rest
            → Walking m n test s b next before last rest (i + 1)
        turn_finished rest e =
            let w = below_finished turn depth r last below rest e in
            record { list = o.list; within = omega arith; kept = w.1; same = w.0 }
