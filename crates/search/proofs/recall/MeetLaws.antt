-- Laws of a state that is looked up: for each way out of the code, what it tells. Assumes nothing.
use Prim.Native.Nat.{ℕ, suc, ◌-◌, ◌≤◌, ◌<◌}
use mathlib.Core.Path.{◌≡◌, refl, sym, subst, ◌∙◌}
use mathlib.Core.Bool.{Bool, true, false}
use mathlib.Core.List.{List, ◌∷◌}
use native.Mathlib.Omega.{arith}
use lib.ListN.{take}
use Rattle.search.specs.declared.recall.Met.TheVariants.{Before, New, Full}
use Rattle.search.specs.Rows.{pool_end}
use Rattle.search.specs.Remember.{among}
use Rattle.search.specs.Table.{keys_in, Chained}
use Rattle.search.specs.Recall.{key_lanes, Meets}

-- the first n lanes are the key, and are looked for among the keys that are kept
module _ (c x : List ℕ) (n : ℕ) (e : n ≡ pool_end c x) (memory : List ℕ) (limit left : ℕ) (found : Bool)
    (k : found ≡ among (take n x) (keys_in memory limit (limit - left))) where
  key_among : among (key_lanes c x) (keys_in memory limit (limit - left)) ≡ found
  unfolding key_lanes
  key_among = rw (sym e) (sym k)

  -- it is one of them; it is none, and there is no room; it is kept
  pub meets_before : found ≡ true → Meets Before memory memory limit left (key_lanes c x)
  unfolding Meets
  meets_before h = (key_among ∙ h, refl)

  pub meets_full : found ≡ false → left ≡ 0 → (last : List ℕ) → Meets Full memory last limit left (key_lanes c x)
  unfolding Meets
  meets_full h z last = (key_among ∙ h, z)

  pub meets_new : found ≡ false → 0 < left → left ≤ limit → (last : List ℕ)
      → (Chained last limit (suc (limit - left)))
      × (keys_in last limit (suc (limit - left)) ≡ take n x ∷ keys_in memory limit (limit - left))
      → Meets New memory last limit left (key_lanes c x)
  unfolding Meets key_lanes
  meets_new h some few last w =
      let one : suc (limit - left) ≡ limit - (left - 1) = omega arith in (
        key_among ∙ h,
        some,
        subst (λ y. Chained last limit y) one w.0,
        rw (sym one, sym e) w.1,
      )

-- each way out
pub ruleset meets = (meets_before, meets_full, meets_new)
