-- Laws of the counts of instructions, with one more for a thread. Assumes nothing.
use Prim.Native.Nat.{ℕ, suc, ◌+◌, ◌*◌, ◌<◌, ◌≤◌}
use mathlib.Core.Path.{◌≡◌, refl, ap}
use mathlib.Core.Logic.{◌≢◌, ◌⊎◌, inl, inr}
use mathlib.Core.Bool.{Bool, true, false}
use lib.ListN.{length, get_or, set}
use lib.Seq.{get_or-set_same, get_or-set_other}
use lib.Dec.{eqb}
use borrow.Author.Tests.{eqb-true, eqb-false}
use native.Mathlib.Omega.{arith}
use Rattle.cases.specs.declared.case.Program.{Program}
use Rattle.cases.specs.declared.case.Thread.{Thread}
use Rattle.cases.specs.Sizes.{most_instructions}
use Rattle.cases.specs.Checks.{count_at}
use Rattle.cases.specs.Seats.{from_code}

-- The counts with one more for thread t: whose count it is, and what the counts stay below
module _ (p : Program) (t : Thread) (low : t.0 < length p.counts) where
  abbrev pub counted : ℕ → ℕ
  counted u = get_or (set p.counts t.0 (count_at p t.0 + 1)) u 0

  -- thread u is t, with one more; or another, with as many
  abbrev pub CountedAs : ℕ → Type 0
  CountedAs u =
      ((u ≡ t.0) × (counted u ≡ count_at p t.0 + 1))
      ⊎ ((u ≢ t.0) × (counted u ≡ get_or p.counts u 0))

  pub count_cases : (u : ℕ) → CountedAs u
  count_cases u = go (eqb u t.0) refl
    where
      go : (b : Bool) → eqb u t.0 ≡ b → CountedAs u
      go true e =
          let q = eqb-true u t.0 e in
          inl (q, rw q (get_or-set_same p.counts t.0 (count_at p t.0 + 1) 0 low))
      go false e =
          let q = eqb-false u t.0 e in
          inr (q, get_or-set_other p.counts t.0 u (count_at p t.0 + 1) 0 q)

  pub count_more : (u : ℕ) → get_or p.counts u 0 ≤ counted u
  count_more u = go (count_cases u)
    where
      go : CountedAs u → get_or p.counts u 0 ≤ counted u
      go (inl e) = omega (arith, ap (λ (n : ℕ). get_or p.counts n 0) e.0)
      go (inr e) = omega arith

  pub count_few : count_at p t.0 < most_instructions
      → ((u : ℕ) → get_or p.counts u 0 ≤ most_instructions)
      → (u : ℕ) → counted u ≤ most_instructions
  count_few few all u = go (count_cases u)
    where
      go : CountedAs u → counted u ≤ most_instructions
      go (inl e) = omega arith
      go (inr e) = omega (arith, all u)

  -- the next seat of a thread that is not below t stands behind the seat that t's next instruction takes
  abbrev pub Behind : ℕ → Type 0
  Behind u =
      suc (from_code + (t.0 * most_instructions + count_at p t.0))
      ≤ from_code + (u * most_instructions + counted u)

  pub count_front : count_at p t.0 < most_instructions → (u : ℕ) → t.0 ≤ u → Behind u
  count_front few u h = go (count_cases u)
    where
      go : CountedAs u → Behind u
      go (inl e) = omega arith
      go (inr e) =
          let other : u ≢ t.0 = e.0 in
          omega arith
