-- Laws of `weigh`, and the loops that weigh; what an instruction, an entry and a list of them weigh at most. Assumes
-- nothing.
use Prim.Native.Nat.{ℕ, zero, suc, ◌+◌, ◌*◌, ◌≤◌, ◌<◌}
use mathlib.Core.Path.{◌≡◌, refl, ◌∙◌}
use mathlib.Core.List.{List, [], ◌∷◌, ◌++◌}
use native.Mathlib.Omega.{arith}
use native.Mathlib.Nat.{mul-le-mul_right}
use native.Mathlib.Numerals.{add-one}
use lib.ListN.{length, get_or, drop}
use Rattle.std.specs.List.{sum_by}
use Rattle.std.proofs.lemmas.List.Sums.{sum_by-cons}
use Rattle.cases.specs.declared.case.Program.{Program}
use Rattle.machine.specs.declared.cells.State.{State}
use Rattle.machine.specs.declared.cells.Waiting.{Waiting}
use Rattle.machine.specs.declared.cells.Entry.{Entry}
use Rattle.machine.specs.declared.cells.Entry.TheVariants.{Store, Flush, FlushOpt, Sfence}
use Rattle.machine.specs.View.{part, without, buffer}
use Rattle.machine.specs.Work.{weigh, unissued_weight, waiting_weight, code_weight, entry_weight, unissued_code, thread_work}
use Rattle.machine.proofs.lists.PartLaws.{part_next, part_end}
use Rattle.cases.proofs.ChoiceLaws.{pick_cases}

-- one and the rest; two lists joined; one taken out; each at most `most`
module _ {A : Type 0} (f : A → ℕ) where
  pub weigh_cons : (x : A) (xs : List A) → weigh f (x ∷ xs) ≡ f x + weigh f xs
  unfolding weigh
  weigh_cons x xs = refl

  pub weigh_append : (xs ys : List A) → weigh f (xs ++ ys) ≡ weigh f xs + weigh f ys
  unfolding weigh
  weigh_append [] ys = omega arith
  weigh_append (x ∷ xs) ys = rw (weigh_append xs ys) (omega arith)

  pub weigh_without : (xs : List A) (i : ℕ) (d : A) → i < length xs
      → f (get_or xs i d) + weigh f (without i xs) ≡ weigh f xs
  unfolding weigh without
  weigh_without [] i d h = absurd (omega arith)
  weigh_without (x ∷ xs) zero d h = refl
  weigh_without (x ∷ xs) (suc i) d h =
      rw add-one
      (let r = rw add-one at (weigh_without xs i d (omega arith)) in omega arith)

  pub weigh_most : (most : ℕ) → ((x : A) → f x ≤ most) → (xs : List A) → weigh f xs ≤ length xs * most
  unfolding weigh
  weigh_most most h [] = omega arith
  weigh_most most h (x ∷ xs) = let a = h x in let r = weigh_most most h xs in omega arith

-- an instruction weighs 3 at most
pub weight_most : (op : ℕ) → unissued_weight op ≤ 3
unfolding unissued_weight
weight_most op =
    pick_cases (λ n. n ≤ 3) _ _ _ (λ h. omega arith) (λ h.
    pick_cases (λ n. n ≤ 3) _ _ _ (λ h. omega arith) (λ h.
    pick_cases (λ n. n ≤ 3) _ _ _ (λ h. omega arith) (λ h.
    pick_cases (λ n. n ≤ 3) _ _ _ (λ h. omega arith) (λ h.
    pick_cases (λ n. n ≤ 3) _ _ _ (λ h. omega arith) (λ h.
    pick_cases (λ n. n ≤ 3) _ _ _ (λ h. omega arith) (λ h.
    pick_cases (λ n. n ≤ 3) _ _ _ (λ h. omega arith) (λ h.
    pick_cases (λ n. n ≤ 3) _ _ _ (λ h. omega arith) (λ h. omega arith))))))))

-- an entry 2
pub entry_most : (w : Waiting) → entry_weight w ≤ 2
unfolding waiting_weight
entry_most w = go w.entry
  where
    go : (e : Entry) → waiting_weight e ≤ 2
    go (Store x) = omega arith
    go (Flush l) = omega arith
    go (FlushOpt l) = omega arith
    go Sfence = omega arith

-- a loop has weighed the first i of the n from base on, each at most `most`: with those still to weigh it is
-- all
pub record WeighedSoFar {A : Type 0} (f : A → ℕ) (xs : List A) (base n most weight i : ℕ) : Type 0 where
  pub within : base + n ≤ length xs
  pub far : i ≤ n
  pub light : weight ≤ i * most
  pub rest : weight + weigh f (drop i (part base n xs)) ≡ weigh f (part base n xs)

pub weigh_start : {A : Type 0} (f : A → ℕ) (xs : List A) (base n most : ℕ) → base + n ≤ length xs
    → WeighedSoFar f xs base n most 0 0
weigh_start f xs base n most h =
    record { within = h; far = omega arith; light = omega arith; rest = omega arith }

-- one more is weighed; all are
module _ {A : Type 0} {f : A → ℕ} {xs : List A} {base n most weight i : ℕ}
    (o : WeighedSoFar f xs base n most weight i) where
  weigh_at : (blank : A) → i < n
      → weight + (f (get_or xs (base + i) blank) + weigh f (drop (i + 1) (part base n xs)))
      ≡ weigh f (part base n xs)
  unfolding weigh
  weigh_at blank h = rw (part_next base n i xs blank h o.within) at o.rest

  pub weigh_next : (blank : A) (r : ℕ) → i < n → (r ≡ f (get_or xs (base + i) blank)) × (r ≤ most)
      → WeighedSoFar f xs base n most (weight + r) (i + 1)
  weigh_next blank r h e =
      let w = o.light in
      let m = e.1 in
      let a = e.0 in
      let q = weigh_at blank h in
      record { within = o.within; far = omega arith; light = omega arith; rest = omega arith }

  pub weigh_end : n ≤ i → (few : ℕ) → n ≤ few
      → (weight ≡ weigh f (part base n xs)) × (weight ≤ few * most)
  unfolding weigh
  weigh_end h few k =
      let w = o.light in
      let a = o.far in
      let m = mul-le-mul_right {m = i} {n = few} most (omega arith) in
      let e = rw (part_end base n i xs h) at o.rest in
      (omega arith, omega arith)

-- the library's sum of weights, and what it is at most
module _ {A : Type 0} (f : A → ℕ) where
  pub weigh_is : (xs : List A) → sum_by f xs ≡ weigh f xs
  unfolding weigh
  weigh_is [] = refl
  weigh_is (x ∷ xs) = sum_by-cons f x xs ∙ rw (weigh_is xs)

  pub summed_most : (most few : ℕ) → ((x : A) → f x ≤ most) → (xs : List A) → length xs ≤ few → sum_by f xs ≤ most * few
  summed_most most few h xs l =
      let w = weigh_most f most h xs in
      let e = weigh_is xs in
      let m = mul-le-mul_right {m = length xs} {n = few} most l in
      omega arith

-- a thread's work, as the code sums it
pub thread_weighed : (p : Program) (s : State) (t a b : ℕ) → a ≡ sum_by code_weight (unissued_code p s t)
    → b ≡ sum_by entry_weight (buffer s t)
    → a + b ≡ thread_work p s t
unfolding thread_work
thread_weighed p s t a b e f =
    let x = weigh_is code_weight (unissued_code p s t) in
    let y = weigh_is entry_weight (buffer s t) in
    omega arith
