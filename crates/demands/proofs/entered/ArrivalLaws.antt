-- Lists of arrivals, one behind another. Assumes nothing.
use Prim.Native.Nat.{ℕ, zero, suc}
use mathlib.Core.Path.{◌≡◌, refl, sym, ap, ◌∙◌}
use mathlib.Core.Logic.{◌≢◌}
use mathlib.Core.Bool.{Bool, true, false}
use mathlib.Core.List.{List, [], ◌∷◌, ◌++◌, append_assoc}
use borrow.Author.Tests.{ne_eqb}
use lib.Dec.{eqb, ltb}
use lib.ListN.{length, drop}
use Rattle.cases.specs.Choice.{pick, both}
use Rattle.machine.specs.Sizes.{first_marker}
use Rattle.machine.specs.View.{Slot}
use Rattle.demands.specs.Entered.{Arrival, brought_by, entries_of, writes_by}

-- what stands and comes, a step and then the rest
pub joined : {A : Type 0} (a new b taken c rest d : List A) → a ++ new ≡ taken ++ c → c ++ b ≡ rest ++ d
    → a ++ (new ++ b) ≡ (taken ++ rest) ++ d
joined a new b taken c rest d e g =
    sym (append_assoc a new b) ∙ ap (λ x. x ++ b) e ∙ append_assoc taken c b ∙ ap (λ x. taken ++ x) g
    ∙ sym (append_assoc taken rest d)

-- the entries that a thread brings are those entries, and one behind another
pub entries_brought : (t : ℕ) (hs : List Slot) → entries_of (brought_by t hs) ≡ hs
unfolding entries_of brought_by
entries_brought t [] = refl
entries_brought t (h ∷ hs) = ap (λ r. h ∷ r) (entries_brought t hs)

pub entries_append : (xs ys : List Arrival) → entries_of (xs ++ ys) ≡ entries_of xs ++ entries_of ys
unfolding entries_of
entries_append [] ys = refl
entries_append (a ∷ xs) ys = ap (λ r. a.entry ∷ r) (entries_append xs ys)

pub entries_drop : (n : ℕ) (xs : List Arrival) → entries_of (drop n xs) ≡ drop n (entries_of xs)
unfolding entries_of
entries_drop zero xs = refl
entries_drop (suc n) [] = refl
entries_drop (suc n) (a ∷ xs) = entries_drop n xs

pub entries_length : (xs : List Arrival) → length (entries_of xs) ≡ length xs
unfolding entries_of
entries_length [] = refl
entries_length (a ∷ xs) = ap suc (entries_length xs)

-- a thread's writes among them: one behind another; of the first ones, and the rest; another thread's
pub writes_append : (t : ℕ) (xs ys : List Arrival) → writes_by t (xs ++ ys) ≡ writes_by t xs ++ writes_by t ys
unfolding writes_by
writes_append t [] ys = refl
writes_append t (a ∷ xs) ys =
    go (both (eqb a.thread t) (ltb a.entry.mark first_marker)) (writes_append t xs ys)
  where
    go : (b : Bool) → writes_by t (xs ++ ys) ≡ writes_by t xs ++ writes_by t ys
        → pick b (a.entry ∷ writes_by t (xs ++ ys)) (writes_by t (xs ++ ys))
        ≡ pick b (a.entry ∷ writes_by t xs) (writes_by t xs) ++ writes_by t ys
    go true e = unfold pick in ap (λ r. a.entry ∷ r) e
    go false e = unfold pick in e

pub writes_other : (t m : ℕ) → m ≢ t → (hs : List Slot) → writes_by t (brought_by m hs) ≡ []
unfolding writes_by brought_by both pick
writes_other t m n [] = refl
writes_other t m n (h ∷ hs) = rw (ne_eqb m t n) (writes_other t m n hs)
