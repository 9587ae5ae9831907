-- A turn of the loop of the walk that remembers: what it may take for granted, and each way out of it. Assumes nothing.
use Prim.Native.Nat.{ℕ, ◌+◌, ◌*◌, ◌<◌}
use mathlib.Core.Path.{◌≡◌, sym, ap, ◌∙◌}
use mathlib.Core.Bool.{Bool}
use mathlib.Core.List.{List, ◌++◌, map}
use lib.ListN.{get_or, drop}
use lib.Seq.{sets}
use native.Mathlib.Omega.{arith}
use Rattle.cases.specs.declared.case.Step.{Step}
use Rattle.cases.specs.declared.record.Record.TheVariants.{Take}
use Rattle.cases.specs.Record.{record_bytes}
use Rattle.cases.specs.Sizes.{step_size}
use Rattle.machine.specs.Model.{Listed}
use Rattle.search.specs.declared.next.Ranks.{Ranks}
use Rattle.search.specs.declared.walk.Walked.{Walked}
use Rattle.search.specs.declared.walk.Walked.TheVariants.{Found, Finished, Stopped}
use Rattle.search.specs.Barred.{step_at}
use Rattle.search.specs.Walk.{Machine, Visit, under}
use Rattle.search.specs.Seek.{seek}
use Rattle.search.specs.Recall.{met_by, starting_new, remembering}
use Rattle.search.proofs.walk.WalkLoopLaws.{Left}
use Rattle.search.proofs.walk.WalkTurnLaws.{lists_front, lists_listed}
use Rattle.search.proofs.walk.TurnLaws.{Turn, LeavesBelow, below_found, below_stopped}
use Rattle.search.proofs.walk.TurnLaws.{below_finished}
use Rattle.search.proofs.recall.FirstsLaws.{met_append, met_under}
use Rattle.search.proofs.recall.RecallLoopLaws.{rest_new, Recalling}

module _ {S : Type 0} {m : Machine S Step} {key : S → List ℕ} {n : ℕ} {test : S → Bool} {s : S} {b : ℕ}
    {next : Ranks} {first met : List (List ℕ)} {before out : List ℕ} {left i : ℕ}
    (o : Recalling m key n test s b first next before out left i met) where
  -- a turn: k is the step of the rank at position i, z the state behind it, and j the depth of the walk below z
  module _ (h : i < next.count) (k : Step) (k_is : k ≡ step_at (get_or next.ranks i 0)) where
    pub recalls_listed : Listed k (m.nexts s)
    recalls_listed = lists_listed o.list h k k_is

    module _ (z : S) (z_is : z ≡ m.after s k) (j : ℕ) (j_is : j ≡ n) where
      abbrev new : List (Visit S Step)
      new = remembering m key j met z

      abbrev behind : List (Visit S Step)
      behind = rest_new m key n (met_by key met new) s (drop (i + 1) (m.nexts s))

      -- what is new behind k, then what is new behind a later step
      front : rest_new m key n met s (drop i (m.nexts s)) ≡ map (under k) new ++ behind
      unfolding starting_new
      front =
          ap (rest_new m key n met s) (lists_front o.list h k k_is)
          ∙ ap (λ d. map (under k) (remembering m key d met (m.after s k))
          ++ rest_new m key n (met_by key met (remembering m key d met (m.after s k))) s (drop (i + 1) (m.nexts s)))
          (sym j_is)
          ∙ ap (λ u. map (under k) (remembering m key j met u)
          ++ rest_new m key n (met_by key met (remembering m key j met u)) s (drop (i + 1) (m.nexts s)))
          (sym z_is)

      turn : Turn test left b new behind (rest_new m key n first s (m.nexts s)) k before out
      turn = record { same = ap (seek test left) (sym front) ∙ o.same; kept = o.kept }

      module _ (depth : ℕ) (r : Walked) (last : List ℕ)
          (below : LeavesBelow depth (seek test left new) out r last) where
        abbrev Leaves : Walked → List ℕ → Type 0
        Leaves = Left test (rest_new m key n first s (m.nexts s)) b depth before

        -- a run was found below; the limit was used up
        pub recalls_found : (f : ℕ) → r ≡ Found f
            → Leaves (Found f) (sets last (step_size * depth) (record_bytes (Take k)))
        recalls_found = below_found turn depth r last below

        pub recalls_stopped : r ≡ Stopped → Leaves Stopped last
        recalls_stopped = below_stopped turn depth r last below

        -- none was found: the loop goes on with what is left of the limit, and with the keys met
        pub recalls_finished : (rest : ℕ) → r ≡ Finished rest
            → (more : List (List ℕ)) → more ≡ met_by key met new
            → Recalling m key n test s b first next before last rest (i + 1) more
        recalls_finished rest e more more_is =
            let w = below_finished turn depth r last below rest e in
            record {
              list = o.list;
              within = omega arith;
              kept = w.1;
              same = ap (λ y. seek test rest (rest_new m key n y s (drop (i + 1) (m.nexts s)))) more_is ∙ w.0;
              same_met =
                  ap (λ y. met_by key y (rest_new m key n y s (drop (i + 1) (m.nexts s)))) more_is
                  ∙ sym (ap (λ y. met_by key y behind) (met_under key met k new))
                  ∙ sym (met_append key met (map (under k) new) behind)
                  ∙ ap (met_by key met) (sym front)
                  ∙ o.same_met;
            }
