-- Laws of `pick`, `both`, `either` and `refuse`.
--   choices    a set for `search`: where the code answers out of a chain of checks, `search choices` finds the
--              tests that led there among the branches taken and what the callees ensured
-- Assumes nothing.
use Prim.Native.Nat.{ℕ, suc, ◌≤◌}
use mathlib.Core.Path.{◌≡◌, refl, sym, ◌∙◌}
use mathlib.Core.Logic.{◌⊎◌, inl, inr, ◌≢◌}
use mathlib.Core.Bool.{Bool, true, false, not}
use borrow.Author.Tests.{lt-ltb, le-ltb, le-leb, lt-leb, eq-eqb, ne_eqb, not-true, not-false}
use native.Mathlib.Omega.{arith}
use Rattle.cases.specs.Choice.{pick, both, either, refuse}

-- pick: the test is true; it is false
pub pick_true {ℓ} : {A : Type ℓ} (t : Bool) (x y : A) → t ≡ true → pick t x y ≡ x
unfolding pick
pick_true t x y h = rw h

pub pick_false {ℓ} : {A : Type ℓ} (t : Bool) (x y : A) → t ≡ false → pick t x y ≡ y
unfolding pick
pick_false t x y h = rw h

-- no test is both
pub never_both : {b : Bool} → b ≡ true → b ≡ false → ⊥
never_both e d = let z : ◌≡◌ {A = ℕ} 0 1 = cc in omega arith

-- both tests are true; neither is, and back
pub both_true : (a b : Bool) → both a b ≡ true → (a ≡ true) × (b ≡ true)
unfolding both
both_true true b h = (refl, h)
both_true false b h = absurd (let z : ◌≡◌ {A = ℕ} 0 1 = cc in omega arith)

pub either_false : (a b : Bool) → either a b ≡ false → (a ≡ false) × (b ≡ false)
unfolding either
either_false true b h = absurd (let z : ◌≡◌ {A = ℕ} 0 1 = cc in omega arith)
either_false false b h = (refl, h)

pub either_none : (a b : Bool) → a ≡ false → b ≡ false → either a b ≡ false
unfolding either
either_none a b h k = rw (h, k)

-- a chain of checks that ends in 0: this fault is not there, and the later checks end in 0
pub refuse_none : (t : Bool) (n rest : ℕ) → refuse t (suc n) rest ≡ 0 → (t ≡ false) × (rest ≡ 0)
unfolding refuse
refuse_none true n rest h = absurd (omega arith)
refuse_none false n rest h = (refl, h)

-- For `choices`: what the code answers is what the definition says; the test decides here, or what comes next
pub pick_here : {A : Type 0} (t : Bool) (r x y : A) → t ≡ true → r ≡ x → r ≡ pick t x y
unfolding pick
pick_here t r x y h e = rw h e

pub pick_next : {A : Type 0} (t : Bool) (r x y : A) → t ≡ false → r ≡ y → r ≡ pick t x y
unfolding pick
pick_next t r x y h e = rw h e

pub both_here : (t rest : Bool) → t ≡ false → false ≡ both t rest
unfolding both
both_here t rest h = rw h

pub both_next : (t r rest : Bool) → t ≡ true → r ≡ rest → r ≡ both t rest
unfolding both
both_next t r rest h e = rw h e

pub either_here : (t rest : Bool) → t ≡ true → true ≡ either t rest
unfolding either
either_here t rest h = rw h

pub either_next : (t r rest : Bool) → t ≡ false → r ≡ rest → r ≡ either t rest
unfolding either
either_next t r rest h e = rw h e

pub refuse_here : (t : Bool) (n rest : ℕ) → t ≡ true → n ≡ refuse t n rest
unfolding refuse
refuse_here t n rest h = rw h

pub refuse_next : (t : Bool) (r n rest : ℕ) → t ≡ false → r ≡ rest → r ≡ refuse t n rest
unfolding refuse
refuse_next t r n rest h e = rw h e

-- For `choices`: the negation of a test
pub true_not : (t : Bool) → t ≡ true → not t ≡ false
true_not t h = rw h

pub false_not : (t : Bool) → t ≡ false → not t ≡ true
false_not t h = rw h

-- For `choices`: a callee ensured that its answer r is the test t, and the code branched on r or on `not r`
pub told : (r t b : Bool) → r ≡ t → r ≡ b → t ≡ b
told r t b e h = sym e ∙ h

pub told_false : (r t : Bool) → r ≡ t → r ≡ false → t ≡ false
told_false r t e h = sym e ∙ h

pub told_true : (r t : Bool) → r ≡ t → r ≡ true → t ≡ true
told_true r t e h = sym e ∙ h

-- the set: the above, and how the code's comparisons decide the definitions' tests
pub ruleset choices = (
  pick_here,
  pick_next,
  both_here,
  both_next,
  either_here,
  either_next,
  refuse_here,
  refuse_next,
  true_not,
  false_not,
  told,
  told_false,
  told_true,
  lt-ltb,
  le-ltb,
  le-leb,
  lt-leb,
  eq-eqb,
  ne_eqb,
)

-- a chain of checks ends in no number above the most, where each of its numbers is at most that
pub refuse_most : (t : Bool) (n rest most : ℕ) → n ≤ most → rest ≤ most → refuse t n rest ≤ most
unfolding refuse
refuse_most true n rest most h k = h
refuse_most false n rest most h k = k

-- what holds of both, whichever is picked
pub pick_cases {ℓ κ} : {A : Type ℓ} (P : A → Type κ) (t : Bool) (x y : A)
    → (t ≡ true → P x) → (t ≡ false → P y) → P (pick t x y)
unfolding pick
pick_cases P true x y f g = f refl
pick_cases P false x y f g = g refl

-- two choices by one test
pub pick_pair {ℓ κ ι} : {A : Type ℓ} {B : Type κ} (R : A → B → Type ι) (t : Bool) (x y : A) (z w : B)
    → R x z → R y w → R (pick t x y) (pick t z w)
unfolding pick
pick_pair R true x y z w f g = f
pick_pair R false x y z w f g = g

-- of two the first is not so: the second is
pub otherwise : {A B : Type 0} → A ⊎ B → (A → ⊥) → B
otherwise (inl a) n = absurd (n a)
otherwise (inr b) n = b

-- a chain of checks that ends in a number: not this check's, so that this fault is not there; not a later one's, so
-- that it is
pub refuse_past : (t : Bool) (n rest r : ℕ) → refuse t n rest ≡ r → n ≢ r → (t ≡ false) × (rest ≡ r)
unfolding refuse
refuse_past true n rest r h z = absurd (z h)
refuse_past false n rest r h z = (refl, h)

pub refuse_was : (t : Bool) (n rest r : ℕ) → refuse t n rest ≡ r → rest ≢ r → t ≡ true
unfolding refuse
refuse_was true n rest r h z = refl
refuse_was false n rest r h z = absurd (z h)

pub refuse_neither : (t : Bool) (n rest r : ℕ) → n ≢ r → rest ≢ r → refuse t n rest ≢ r
unfolding refuse
refuse_neither true n rest r a b = a
refuse_neither false n rest r a b = b

-- what was picked is not the second: it is the first
pub pick_was : (t : Bool) (x y r : ℕ) → pick t x y ≡ r → y ≢ r → (t ≡ true) × (x ≡ r)
unfolding pick
pick_was true x y r h z = (refl, h)
pick_was false x y r h z = absurd (z h)
