-- How definitions choose.
--   pick t a b        a where the test t is true, else b
--   both, either      of two tests
--   refuse t n rest   the number n where the fault t is there, else what the later checks say
-- Assumes nothing.
use Rattle.std.specs.Prelude.{ℕ, Bool, true, false}

unfoldable pub pick {ℓ} : {A : Type ℓ} → Bool → A → A → A
pick true a b = a
pick false a b = b

unfoldable pub both : Bool → Bool → Bool
both true b = b
both false b = false

unfoldable pub either : Bool → Bool → Bool
either true b = true
either false b = b

unfoldable pub refuse : Bool → ℕ → ℕ → ℕ
refuse true n rest = n
refuse false n rest = rest
