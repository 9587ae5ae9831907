-- The code of the walk that remembers, over lanes: what each way out of it leaves.
--   Recalls   what its loop keeps
--   Leaves    what it is asked for: its answer, the lent bytes, the keys in the lent words
--   Behind    where the loop begins: what is sought and met from a new state on is what is sought and met behind it
-- Assumes nothing.
use Prim.Native.Nat.{ℕ, ◌-◌, ◌≤◌, ◌<◌}
use mathlib.Core.Path.{◌≡◌, sym, ap, subst, ◌∙◌}
use mathlib.Core.Logic.{◌≢◌}
use mathlib.Core.Bool.{Bool, true, false}
use mathlib.Core.List.{List, ◌∷◌}
use native.Mathlib.Omega.{arith}
use Rattle.cases.specs.declared.case.Step.{Step}
use Rattle.machine.specs.Sizes.{most_work}
use Rattle.search.specs.declared.next.Ranks.{Ranks}
use Rattle.search.specs.declared.recall.Met.{Met}
use Rattle.search.specs.declared.recall.Met.TheVariants.{Before, New, Full}
use Rattle.search.specs.declared.walk.Walked.{Walked}
use Rattle.search.specs.declared.walk.Walked.TheVariants.{Found, Finished, Stopped}
use Rattle.search.specs.Walk.{Visit}
use Rattle.search.specs.Barred.{legal_lanes, next_lanes}
use Rattle.search.specs.Seek.{seek, walked_of, stored_of}
use Rattle.search.specs.Taken.{lanes_machine, reaches_lanes}
use Rattle.search.specs.Held.{Held}
use Rattle.search.specs.Remember.{among}
use Rattle.search.specs.Table.{keys_in, Chained}
use Rattle.search.specs.Recall.{met_by, key_lanes, new_from, sought_new, MetAfter, Meets}
use Rattle.search.proofs.walk.WalkLoopLaws.{Left}
use Rattle.search.proofs.walk.WalkHeldLaws.{held_lists}
use Rattle.search.proofs.recall.RecallLoopLaws.{rest_new, Recalling, new_before, met_before, new_full, new_here}
use Rattle.search.proofs.recall.RecallLoopLaws.{new_behind_lem, met_behind, recalling_start, recalling_end}
use Rattle.search.proofs.recall.RecallLoopLaws.{recalling_met}

-- what is kept where nothing was found
pub met_finished : (r : Walked) (memory : List ℕ) (limit : ℕ) (met : List (List ℕ)) → MetAfter r memory limit met
    → (rest : ℕ) → r ≡ Finished rest
    → (rest ≤ limit) × Chained memory limit (limit - rest) × (keys_in memory limit (limit - rest) ≡ met)
unfolding MetAfter
met_finished r memory limit met m rest e = subst (λ y. MetAfter y memory limit met) e m

-- a new key: it was not met, there was room for it, and it is kept
module _ (m : Met) (memory last : List ℕ) (limit left : ℕ) (key : List ℕ)
    (meets : Meets m memory last limit left key) (e : m ≡ New) where
  told : Meets New memory last limit left key
  told = subst (λ y. Meets y memory last limit left key) e meets

  meets_unmet : among key (keys_in memory limit (limit - left)) ≡ false
  unfolding Meets
  meets_unmet = told.0

  pub meets_some : 0 < left
  unfolding Meets
  meets_some = told.1

  pub meets_chained : Chained last limit (limit - (left - 1))
  unfolding Meets
  meets_chained = told.2

  meets_grown : keys_in last limit (limit - (left - 1)) ≡ key ∷ keys_in memory limit (limit - left)
  unfolding Meets
  meets_grown = told.3

module _ (c : List ℕ) (wanted : List Bool) (want passed x : List ℕ) (depth : ℕ) where
  abbrev test : List ℕ → Bool
  test = reaches_lanes c wanted want passed

  -- all that is new behind x, where these keys are met
  abbrev new_behind : List (List ℕ) → List (Visit (List ℕ) Step)
  new_behind met = rest_new (lanes_machine c) (key_lanes c) (most_work - depth) met x (legal_lanes c x)

  abbrev pub Recalls : ℕ → List (List ℕ) → Ranks → List ℕ → List ℕ → ℕ → ℕ → List (List ℕ) → Type 0
  Recalls = Recalling (lanes_machine c) (key_lanes c) (most_work - depth) test x

  -- the loop begins
  pub recalls_start : {room : ℕ} → Held c x depth room → (b : ℕ) (first : List (List ℕ)) (next : Ranks) (out : List ℕ)
      → next ≡ next_lanes c x → Recalls b first next out out b 0 first
  recalls_start h b first next out e = recalling_start first out (rw e (held_lists h))

  -- `left` more states have room, of `limit` in all; `memory` and `run` are lent
  module _ (limit left : ℕ) (memory run : List ℕ) where
    abbrev met : List (List ℕ)
    met = keys_in memory limit (limit - left)

    abbrev pub Leaves : Walked → List ℕ → List ℕ → Type 0
    Leaves r out last =
        (r ≡ walked_of depth (sought_new c wanted want passed depth left met x))
        × (out ≡ stored_of depth (sought_new c wanted want passed depth left met x) run)
        × MetAfter r last limit (met_by (key_lanes c) met (new_from c depth met x))

    -- what `meet` told: the state was met before; there is no room for it
    module _ (m : Met) (last : List ℕ) (meets : Meets m memory last limit left (key_lanes c x)) where
      pub recall_before : left ≤ limit → Chained memory limit (limit - left) → m ≡ Before
          → Leaves (Finished left) run last
      unfolding Meets MetAfter
      recall_before few chained e =
          let w = subst (λ y. Meets y memory last limit left (key_lanes c x)) e meets in
          let l = new_before (lanes_machine c) (key_lanes c) (most_work - depth) test left depth run met x w.0 in
          let k = met_before (lanes_machine c) (key_lanes c) (most_work - depth) test left depth run met x w.0 in
          (l.told, l.stored, (few, rw w.1 chained, ap (λ y. keys_in y limit (limit - left)) w.1 ∙ sym k))

      pub recall_full : m ≡ Full → Leaves Stopped run last
      unfolding Meets MetAfter
      recall_full e =
          let w = subst (λ y. Meets y memory last limit left (key_lanes c x)) e meets in
          let l = new_full (lanes_machine c) (key_lanes c) (most_work - depth) test left depth run met x w.0 w.1 in
          (l.told, l.stored, tt)

      -- it is new, and kept
      module _ (e : m ≡ New) where
        unmet : among (key_lanes c x) met ≡ false
        unmet = meets_unmet m memory last limit left (key_lanes c x) meets e

        some : left ≢ 0
        some z = let l = meets_some m memory last limit left (key_lanes c x) meets e in omega arith

        pub recall_here : (here : Bool) → here ≡ test x → here ≡ true → (final : List ℕ) → Leaves (Found depth) run final
        unfolding MetAfter
        recall_here here d t final =
            let l = new_here (lanes_machine c) (key_lanes c) (most_work - depth) test left depth run met x unmet some
            (sym d ∙ t) in
            (l.told, l.stored, tt)

        -- what is sought and met behind it: r is what the loop leaves
        module _ (here : Bool) (d : here ≡ test x) (t : here ≡ false) where
          abbrev first : List (List ℕ)
          first = keys_in last limit (limit - (left - 1))

          grown : first ≡ key_lanes c x ∷ met
          grown = meets_grown m memory last limit left (key_lanes c x) meets e

          sought_behind : sought_new c wanted want passed depth left met x ≡ seek test (left - 1) (new_behind first)
          sought_behind =
              new_behind_lem (lanes_machine c) (key_lanes c) (most_work - depth) test left depth run met x unmet some
              (sym d ∙ t)
              ∙ ap (λ y. seek test (left - 1) (new_behind y)) (sym grown)

          keys_behind : met_by (key_lanes c) met (new_from c depth met x) ≡ met_by (key_lanes c) first (new_behind first)
          keys_behind =
              met_behind (lanes_machine c) (key_lanes c) (most_work - depth) test left depth run met x unmet
              ∙ ap (λ y. met_by (key_lanes c) y (new_behind y)) (sym grown)

          pub recall_left : (r : Walked) (out final : List ℕ)
              → Left test (new_behind first) (left - 1) depth run r out
              → MetAfter r final limit (met_by (key_lanes c) first (new_behind first))
              → Leaves r out final
          recall_left r out final l k = (
            l.told ∙ ap (walked_of depth) (sym sought_behind),
            l.stored ∙ ap (λ y. stored_of depth y run) (sym sought_behind),
            subst (MetAfter r final limit) (sym keys_behind) k,
          )

          -- a run was found behind it; the limit was used up; nothing was found
          pub recall_found : (n : ℕ) (out final : List ℕ) → Left test (new_behind first) (left - 1) depth run (Found n) out
              → Leaves (Found n) out final
          unfolding MetAfter
          recall_found n out final l = recall_left (Found n) out final l tt

          pub recall_stopped : (out final : List ℕ) → Left test (new_behind first) (left - 1) depth run Stopped out
              → Leaves Stopped out final
          unfolding MetAfter
          recall_stopped out final l = recall_left Stopped out final l tt

          pub recall_end : {next : Ranks} {out : List ℕ} {rest i : ℕ} {final : List ℕ}
              → Recalls (left - 1) first next run out rest i (keys_in final limit (limit - rest))
              → next.count ≤ i → rest ≤ limit → Chained final limit (limit - rest)
              → Leaves (Finished rest) out final
          unfolding MetAfter
          recall_end {next} {out} {rest} {i} {final} o h few chained =
              recall_left (Finished rest) out final (recalling_end o h depth) (few, chained, recalling_met o h)
