-- How the code goes through the distinct states; Remember says what it comes to, and doesn't use this page.
--   met_by key met vs         the keys that are met after the runs vs, the newest first
--   starting_new, remembering m key n met s   the walk that never goes below a state twice: what it lists from the
--                             state s on, where met are the keys met before
--   key_lanes c x             the key of lanes x as the code's array holds them: those in use
--   new_from c depth met x    what it lists over lanes, from x on, at a depth
--   sought_new .. depth left met x   what is sought from the lanes x on, at a depth, where `left` more states may be met
--   WithinLimit limit w       no more is left of the limit than it is
--   states_walked limit w     how many states were gone through, where nothing was found and the limit not used up; else 0
--   MetAfter r memory limit met   where nothing was found and the limit not used up, the lent words keep the keys met
--   Meets r memory last limit left key   what the code's `meet` of a key tells, and leaves in the lent words
-- Assumes nothing.
use Rattle.std.specs.Prelude.{ℕ, zero, suc, ◌-◌, ◌<◌, ◌≤◌, ◌≡◌, Bool, true, false, List, [], ◌∷◌, ◌++◌, map, take}
use Rattle.cases.specs.declared.case.Step.{Step}
use Rattle.machine.specs.Sizes.{most_work}
use Rattle.search.specs.declared.walk.Walked.{Walked}
use Rattle.search.specs.declared.walk.Walked.TheVariants.{Found, Finished, Stopped}
use Rattle.search.specs.declared.recall.Met.{Met}
use Rattle.search.specs.declared.recall.Met.TheVariants.{Before, New, Full}
use Rattle.search.specs.Walk.{Machine, Visit, here, under}
use Rattle.search.specs.Seek.{Sought, seek}
use Rattle.search.specs.Rows.{pool_end}
use Rattle.search.specs.Taken.{lanes_machine, reaches_lanes}
use Rattle.search.specs.Remember.{among}
use Rattle.search.specs.Table.{Chained, keys_in}

unfoldable pub met_by : {S K : Type 0} → (S → List ℕ) → List (List ℕ) → List (Visit S K) → List (List ℕ)
met_by key met [] = met
met_by key met (v ∷ vs) =
    elim (among (key v.end) met) [ true ↦ met_by key met vs | false ↦ met_by key (key v.end ∷ met) vs ]

-- everything new that starts with one of the steps ks, in turn
unfoldable pub starting_new : {S K : Type 0} → Machine S K → (S → List ℕ)
    → (List (List ℕ) → S → List (Visit S K))
    → List (List ℕ) → S → List K → List (Visit S K)
starting_new m key below met s [] = []
starting_new m key below met s (k ∷ ks) =
    map (under k) (below met (m.after s k))
    ++ starting_new m key below (met_by key met (below met (m.after s k))) s ks

unfoldable pub remembering : {S K : Type 0} → Machine S K → (S → List ℕ) → ℕ → List (List ℕ) → S
    → List (Visit S K)
remembering m key zero met s = []
remembering m key (suc n) met s =
    elim (among (key s) met)
    [ true ↦ [] | false ↦ here s ∷ starting_new m key (remembering m key n) (key s ∷ met) s (m.nexts s) ]

unfoldable pub key_lanes : List ℕ → List ℕ → List ℕ
key_lanes c x = take (pool_end c x) x

abbrev pub new_from : List ℕ → ℕ → List (List ℕ) → List ℕ → List (Visit (List ℕ) Step)
new_from c depth met x = remembering (lanes_machine c) (key_lanes c) (suc (most_work - depth)) met x

abbrev pub sought_new : List ℕ → List Bool → List ℕ → List ℕ → ℕ → ℕ → List (List ℕ) → List ℕ → Sought Step
sought_new c wanted want passed depth left met x =
    seek (reaches_lanes c wanted want passed) left (new_from c depth met x)

abbrev pub WithinLimit : ℕ → Walked → Type 0
WithinLimit limit (Found n) = Unit {0}
WithinLimit limit (Finished rest) = rest ≤ limit
WithinLimit limit Stopped = Unit {0}

abbrev pub states_walked : ℕ → Walked → ℕ
states_walked limit (Found n) = 0
states_walked limit (Finished rest) = limit - rest
states_walked limit Stopped = 0

unfoldable pub MetAfter : Walked → List ℕ → ℕ → List (List ℕ) → Type 0
MetAfter (Found n) memory limit met = Unit {0}
MetAfter (Finished rest) memory limit met =
    (rest ≤ limit) × Chained memory limit (limit - rest) × (keys_in memory limit (limit - rest) ≡ met)
MetAfter Stopped memory limit met = Unit {0}

unfoldable pub Meets : Met → List ℕ → List ℕ → ℕ → ℕ → List ℕ → Type 0
Meets Before memory last limit left key =
    (among key (keys_in memory limit (limit - left)) ≡ true) × (last ≡ memory)
Meets New memory last limit left key =
    (among key (keys_in memory limit (limit - left)) ≡ false) × (0 < left)
    × Chained last limit (limit - (left - 1))
    × (keys_in last limit (limit - (left - 1)) ≡ key ∷ keys_in memory limit (limit - left))
Meets Full memory last limit left key =
    (among key (keys_in memory limit (limit - left)) ≡ false) × (left ≡ 0)
