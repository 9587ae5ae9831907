-- Laws of `set_before` and `unset`: which registers a thread's instructions set. Assumes nothing.
use Prim.Native.Nat.{ℕ, zero, suc, ◌+◌, ◌*◌, ◌<◌, ◌≤◌}
use mathlib.Core.Path.{◌≡◌, refl, ap, ◌∙◌}
use mathlib.Core.List.{List}
use mathlib.Core.Bool.{Bool, true, false, ◌||◌}
use lib.ListN.{length, get_or, take, drop, get_or-eq_default}
use lib.Seq.{take_all}
use lib.Dec.{ltb}
use native.Mathlib.Numerals.{add-one}
use Rattle.std.specs.List.{list_any}
use Rattle.std.proofs.lemmas.List.{get_or-drop}
use Rattle.std.proofs.lemmas.List.Folds.{list_any_more}
use native.Mathlib.Omega.{arith}
use borrow.Author.Tests.{ltb-true, ltb-false, not-false}
use Rattle.cases.specs.declared.case.Program.{Program}
use Rattle.cases.specs.declared.case.Thread.{Thread}
use Rattle.cases.specs.declared.case.Instruction.{Instruction}
use Rattle.cases.specs.Sizes.{most_threads, most_instructions, all_code}
use Rattle.cases.specs.Choice.{both, either}
use Rattle.cases.specs.Checks.{no_instruction, sets_register, count_at, instruction_at, needs_register, set_by, set_before, unset}
use Rattle.cases.proofs.ArrayLaws.{within}

-- one of n elements passes the test: the last does, or one before it; where there is no last, none passes behind the list
or_either : (a b : Bool) → (a || b) ≡ either b a
unfolding either
or_either true true = refl
or_either true false = refl
or_either false true = refl
or_either false false = refl

module _ {A : Type 0} (f : A → Bool) (blank : A) (fails : f blank ≡ false) (xs : List A) where
  any_newest : (n : ℕ) → list_any f (take (suc n) xs) ≡ either (f (get_or xs n blank)) (list_any f (take n xs))
  unfolding either
  any_newest n = go (ltb n (length xs)) refl
    where
      go : (b : Bool) → ltb n (length xs) ≡ b
          → list_any f (take (suc n) xs) ≡ either (f (get_or xs n blank)) (list_any f (take n xs))
      go true e =
          let more = list_any_more f xs n blank (ltb-true n (length xs) e) in
          (rw (add-one n) at more) ∙ or_either (list_any f (take n xs)) (f (get_or xs n blank))
      go false e =
          let past : length xs ≤ n = ltb-false n (length xs) e in
          let last : get_or xs n blank ≡ blank = get_or-eq_default xs blank past in
          let all : take n xs ≡ xs = take_all n xs past in
          let more : take (suc n) xs ≡ xs = take_all (suc n) xs (omega (arith, past)) in
          rw (last, fails, all, more)

-- one of a thread's first n instructions sets the register, in whatever order they are looked at
module _ (p : Program) (t r : ℕ) where
  none_sets : set_by r no_instruction ≡ false
  unfolding set_by sets_register both either
  none_sets = refl

  set_any : (n : ℕ) → list_any (set_by r) (take n (drop (t * most_instructions) p.code)) ≡ set_before p t r n
  unfolding set_before
  set_any zero = refl
  set_any (suc n) =
      let code : List Instruction = drop (t * most_instructions) p.code in
      let here : get_or code n no_instruction ≡ instruction_at p t n = get_or-drop _ p.code n no_instruction in
      any_newest (set_by r) no_instruction none_sets code n ∙ rw (here, set_any n)

-- what the code looks for
pub set_found : (p : Program) (t r n : ℕ) (b : Bool) → b ≡ list_any (set_by r) (take n (drop (t * most_instructions) p.code))
    → n ≡ count_at p t
    → b ≡ set_before p t r (count_at p t)
set_found p t r n b h e = rw (← e) (h ∙ set_any p t r n)

-- an instruction below its thread's count stands in the code
pub set_there : (p : Program) (t i : ℕ) → length p.counts ≡ most_threads → count_at p t ≤ most_instructions
    → i < count_at p t
    → t * most_instructions + i < all_code
set_there p t i counts few h =
    let low = within p.counts t 0 (λ z. omega arith) in
    omega arith

-- the same instructions set the same registers
pub set_same : (p q : Program) (t r n : ℕ) → ((i : ℕ) → i < n → instruction_at q t i ≡ instruction_at p t i)
    → set_before q t r n ≡ set_before p t r n
unfolding set_before
set_same p q t r zero same = refl
set_same p q t r (suc n) same =
    let here = ap (set_by r) (same n (omega arith)) in
    let before = set_same p q t r n (λ i h. same i (omega arith)) in
    rw (here, before) refl

-- an instruction that passed 10: the register that it needs is set before it
pub set_before_lem : (p : Program) (t : Thread) (x : Instruction) → unset p t x ≡ false
    → needs_register x.operation ≡ true
    → set_before p t.0 x.register.0 (count_at p t.0) ≡ true
unfolding unset both
set_before_lem p t x h need = not-false _ (rw need at h)
