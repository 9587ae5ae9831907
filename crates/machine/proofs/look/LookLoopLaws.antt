-- Laws of the looks that are one loop each: for each a record of what it has found so far, made where the loop
-- begins (start), and one law for each point of the loop that uses it (next, here, end). Assumes nothing.
use Prim.Native.Nat.{ℕ, zero, suc, ◌+◌, ◌-◌, ◌≤◌, ◌<◌}
use mathlib.Core.Path.{◌≡◌, refl, ap, sym, ◌∙◌}
use mathlib.Core.Logic.{◌≢◌}
use mathlib.Core.List.{List, [], ◌∷◌}
use native.Mathlib.Omega.{arith}
use borrow.Author.Tests.{eq-eqb, ne_eqb}
use lib.ListN.{length, get_or, drop, drop_of_length-le}
use lib.Seq.{drop-cons}
use Rattle.cases.specs.declared.case.Write.{Write}
use Rattle.cases.proofs.ChoiceLaws.{pick_true, pick_false}
use Rattle.machine.specs.declared.cells.Waiting.{Waiting}
use Rattle.machine.specs.declared.cells.Entry.{Entry}
use Rattle.machine.specs.declared.cells.Entry.TheVariants.{Store, Flush, FlushOpt, Sfence}
use Rattle.machine.specs.View.{Slot, part, slots, blank_waiting}
use Rattle.machine.specs.Look.{word_or, newest_write, stored_or, newest_store}
use Rattle.machine.proofs.lists.PartLaws.{length_part, get_or_part}
use Rattle.machine.proofs.view.SlotLaws.{slots_end, slots_next}

-- The newest of a list, looked for from its end: `all xs w` is what the list makes of the word w, entry after entry
-- by `each`. So far the entries from position i on, of n, make nothing of any word.
pub record SilentFrom {A : Type 0} (all : List A → ℕ → ℕ) (xs : List A) (n i : ℕ) : Type 0 where
  pub within : i ≤ n
  pub silent : (w : ℕ) → all (drop i xs) w ≡ w

module _ {A : Type 0} (each : A → ℕ → ℕ) (all : List A → ℕ → ℕ)
    (more : (x : A) (xs : List A) (w : ℕ) → all (x ∷ xs) w ≡ all xs (each x w)) where
  -- what a list makes of a word, its rest makes of some word
  rest_makes : (i : ℕ) (xs : List A) (w : ℕ) → (v : ℕ) × (all xs w ≡ all (drop i xs) v)
  rest_makes zero xs w = (w, refl)
  rest_makes (suc i) [] w = (w, refl)
  rest_makes (suc i) (x ∷ xs) w = let r = rest_makes i xs (each x w) in (r.0, more x xs w ∙ r.1)

  -- the entry x before those makes nothing of any word either, or it sets the word
  module _ {xs : List A} {n i : ℕ} (o : SilentFrom all xs n i) {x : A} (e : drop (i - 1) xs ≡ x ∷ drop i xs) where
    one_makes : (w : ℕ) → all (drop (i - 1) xs) w ≡ each x w
    one_makes w = ap (λ ys. all ys w) e ∙ more x (drop i xs) w ∙ o.silent (each x w)

    silent_next : ((w : ℕ) → each x w ≡ w) → SilentFrom all xs n (i - 1)
    silent_next h = record { within = omega (arith, o.within); silent = λ w. one_makes w ∙ h w }

    silent_here : (word : ℕ) → ((w : ℕ) → each x w ≡ word) → (other : ℕ) → word ≡ all xs other
    silent_here word h other =
        let r = rest_makes (i - 1) xs other in sym (r.1 ∙ one_makes r.0 ∙ h r.0)

pub silent_end : {A : Type 0} {all : List A → ℕ → ℕ} {xs : List A} {n i : ℕ} → SilentFrom all xs n i → i ≤ 0
    → (other : ℕ) → other ≡ all xs other
silent_end {i = i} o h other = let e : i ≡ 0 = omega arith in sym (rw e at (o.silent other))

-- of entries that stand in an array from base on, the one before position i
entry_before : {A : Type 0} (get : ℕ → A) (xs : List A) (base n i : ℕ)
    → ((k : ℕ) → k < n → drop k xs ≡ get (base + k) ∷ drop (k + 1) xs)
    → i ≤ n → 0 < i → drop (i - 1) xs ≡ get (base + (i - 1)) ∷ drop i xs
entry_before get xs base n i next h c =
    let j : (i - 1) + 1 ≡ i = omega arith in
    rw j at (next (i - 1) (omega arith))

-- newest_write: of the n slots from base on
abbrev pub NewestSoFar : ℕ → List ℕ → List ℕ → ℕ → ℕ → ℕ → Type 0
NewestSoFar l held marks base n i = SilentFrom (newest_write l) (slots (part base n held) (part base n marks)) n i

newest_more : (l : ℕ) (h : Slot) (q : List Slot) (w : ℕ)
    → newest_write l (h ∷ q) w ≡ newest_write l q (word_or l h w)
unfolding newest_write
newest_more l h q w = refl

module _ (l : ℕ) (held marks : List ℕ) (base n : ℕ) (h : base + n ≤ length held) (k : base + n ≤ length marks)
  where
    pub newest_start : NewestSoFar l held marks base n n
    unfolding newest_write
    newest_start =
        record { within = omega arith; silent = λ w. rw (slots_end held marks base n h k n (omega arith)) }

    module _ {i : ℕ} (o : NewestSoFar l held marks base n i) (c : 0 < i) where
      newest_before : drop (i - 1) (slots (part base n held) (part base n marks))
          ≡ record { word = get_or held (base + (i - 1)) 0; mark = get_or marks (base + (i - 1)) 0 }
          ∷ drop i (slots (part base n held) (part base n marks))
      newest_before =
          entry_before (λ m. record { word = get_or held m 0; mark = get_or marks m 0 }) _ base n i
          (slots_next held marks base n h k) o.within c

      pub newest_next : get_or marks (base + (i - 1)) 0 ≢ l → NewestSoFar l held marks base n (i - 1)
      unfolding word_or
      newest_next e =
          silent_next (word_or l) (newest_write l) (newest_more l) o newest_before (λ w. pick_false _ _ _ (ne_eqb _ _ e))

      pub newest_here : get_or marks (base + (i - 1)) 0 ≡ l → (other : ℕ)
          → get_or held (base + (i - 1)) 0 ≡ newest_write l (slots (part base n held) (part base n marks)) other
      unfolding word_or
      newest_here e =
          silent_here (word_or l) (newest_write l) (newest_more l) o newest_before _ (λ w. pick_true _ _ _ (eq-eqb _ _ e))

    -- the same from position i on at once, of the marks alone; k slots stand there
    newest_silent : (k i : ℕ) → i + k ≡ n → ((m : ℕ) → i ≤ m → m < n → get_or marks (base + m) 0 ≢ l)
        → NewestSoFar l held marks base n i
    newest_silent zero i e none = let f : i ≡ n = omega arith in rw f newest_start
    newest_silent (suc k) i e none =
        let there : suc i - 1 ≡ i = omega arith in
        let far = newest_silent k (suc i) (omega arith) (λ m a b. none m (omega arith) b) in
        rw there at (newest_next far (omega arith) (rw there (none i (omega arith) (omega arith))))

    -- the last of the marks that is the location's is the newest write's; there is none, and the word stays
    module _ {ms : List ℕ} (e : ms ≡ part base n marks) where
      many_marks : length ms ≡ n
      many_marks = rw e (length_part base n marks k)

      mark_at : (m : ℕ) → m < n → get_or ms m 0 ≡ get_or marks (base + m) 0
      mark_at m a = rw e (get_or_part base n m marks 0 a)

      pub newest_last : {i : ℕ} → (i < length ms) × (get_or ms i 0 ≡ l)
          × ((m : ℕ) → i < m → m < length ms → get_or ms m 0 ≢ l)
          → (other : ℕ)
          → get_or held (base + i) 0 ≡ newest_write l (slots (part base n held) (part base n marks)) other
      newest_last {i} o other =
          let low : i < n = omega (arith, many_marks, o.0) in
          let there : suc i - 1 ≡ i = omega arith in
          let far =
          newest_silent (n - suc i) (suc i) (omega (arith, low))
          (λ m a b. rw (← mark_at m b) (o.2 m (omega arith) (omega (arith, many_marks)))) in
          rw there at (newest_here far (omega arith) (rw (there, ← mark_at i low) o.1) other)

      pub newest_none : ((m : ℕ) → m < length ms → get_or ms m 0 ≢ l) → (other : ℕ)
          → other ≡ newest_write l (slots (part base n held) (part base n marks)) other
      newest_none none other =
          silent_end
          (newest_silent n 0 (omega arith) (λ m a b. rw (← mark_at m b) (none m (omega (arith, many_marks)))))
          (omega arith) other

-- newest_store: of the entries b
abbrev pub StoreSoFar : ℕ → List Waiting → ℕ → Type 0
StoreSoFar l b i = SilentFrom (newest_store l) b (length b) i

abbrev waiting_or : ℕ → Waiting → ℕ → ℕ
waiting_or l w before = stored_or l w.entry before

store_more : (l : ℕ) (w : Waiting) (b : List Waiting) (before : ℕ)
    → newest_store l (w ∷ b) before ≡ newest_store l b (waiting_or l w before)
unfolding newest_store
store_more l w b before = refl

-- what an entry makes of a word: a store to the location, a store elsewhere, an entry that has another tag than a store
pub store_some : {l : ℕ} {e : Entry} (x : Write) → e ≡ Store x → x.location.0 ≡ l → (w : ℕ)
    → stored_or l e w ≡ x.word
unfolding stored_or
store_some x e h w = rw e (pick_true _ _ _ (eq-eqb _ _ h))

pub store_elsewhere : {l : ℕ} {e : Entry} (x : Write) → e ≡ Store x → x.location.0 ≢ l → (w : ℕ)
    → stored_or l e w ≡ w
unfolding stored_or
store_elsewhere x e h w = rw e (pick_false _ _ _ (ne_eqb _ _ h))

pub store_none : (l : ℕ) (e : Entry) → ((x : Write) → e ≢ Store x) → (w : ℕ) → stored_or l e w ≡ w
unfolding stored_or
store_none l (Store x) h w = absurd (h x refl)
store_none l (Flush m) h w = refl
store_none l (FlushOpt m) h w = refl
store_none l Sfence h w = refl

module _ (l : ℕ) (b : List Waiting) where
  pub store_start : StoreSoFar l b (length b)
  unfolding newest_store
  store_start =
      record { within = omega arith; silent = λ w. rw (drop_of_length-le b {i = length b} (omega arith)) refl }

  module _ {i : ℕ} (o : StoreSoFar l b i) (c : 0 < i) where
    store_before : drop (i - 1) b ≡ get_or b (i - 1) blank_waiting ∷ drop i b
    store_before =
        let j : suc (i - 1) ≡ i = omega arith in
        rw j at (drop-cons b (i - 1) blank_waiting (omega (arith, o.within)))

    pub store_next : ((w : ℕ) → stored_or l (get_or b (i - 1) blank_waiting).entry w ≡ w) → StoreSoFar l b (i - 1)
    store_next e = silent_next (waiting_or l) (newest_store l) (store_more l) o store_before e

    pub store_here : (word : ℕ) → ((w : ℕ) → stored_or l (get_or b (i - 1) blank_waiting).entry w ≡ word)
        → (other : ℕ)
        → word ≡ newest_store l b other
    store_here = silent_here (waiting_or l) (newest_store l) (store_more l) o store_before
