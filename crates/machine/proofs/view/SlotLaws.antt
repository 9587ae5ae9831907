-- Laws of words and marks side by side. Assumes nothing.
use Prim.Native.Nat.{ℕ, zero, suc, ◌+◌, ◌≤◌, ◌<◌}
use mathlib.Core.Path.{◌≡◌, refl, ap, sym, ◌∙◌}
use mathlib.Core.List.{List, [], ◌∷◌, ◌++◌}
use native.Mathlib.Omega.{arith}
use lib.ListN.{length, drop, get_or}
use Rattle.machine.specs.View.{Slot, slots, words_of, marks_of, part}
use Rattle.machine.proofs.lists.PartLaws.{length_part, part_next, part_end}

-- what is put side by side comes apart again, where it is equally long
pub words_slots : (ws ms : List ℕ) → length ws ≡ length ms → words_of (slots ws ms) ≡ ws
unfolding slots words_of
words_slots [] ms h = refl
words_slots (w ∷ ws) [] h = absurd (omega arith)
words_slots (w ∷ ws) (m ∷ ms) h = ap (λ r. w ∷ r) (words_slots ws ms (omega arith))

pub marks_slots : (ws ms : List ℕ) → length ws ≡ length ms → marks_of (slots ws ms) ≡ ms
unfolding slots marks_of
marks_slots [] [] h = refl
marks_slots [] (m ∷ ms) h = absurd (omega arith)
marks_slots (w ∷ ws) [] h = absurd (omega arith)
marks_slots (w ∷ ws) (m ∷ ms) h = ap (λ r. m ∷ r) (marks_slots ws ms (omega arith))

pub slots_apart : (q : List Slot) → slots (words_of q) (marks_of q) ≡ q
unfolding slots words_of marks_of
slots_apart [] = refl
slots_apart (h ∷ q) = ap (λ r. h ∷ r) (slots_apart q)

-- how long
pub length_slots : (ws ms : List ℕ) → length ws ≡ length ms → length (slots ws ms) ≡ length ws
unfolding slots
length_slots [] ms h = refl
length_slots (w ∷ ws) [] h = absurd (omega arith)
length_slots (w ∷ ws) (m ∷ ms) h = ap suc (length_slots ws ms (omega arith))

pub length_words : (q : List Slot) → length (words_of q) ≡ length q
unfolding words_of
length_words [] = refl
length_words (h ∷ q) = ap suc (length_words q)

pub length_marks : (q : List Slot) → length (marks_of q) ≡ length q
unfolding marks_of
length_marks [] = refl
length_marks (h ∷ q) = ap suc (length_marks q)

-- one behind another, and the rest
pub words_append : (q r : List Slot) → words_of (q ++ r) ≡ words_of q ++ words_of r
unfolding words_of
words_append [] r = refl
words_append (h ∷ q) r = ap (λ x. h.word ∷ x) (words_append q r)

pub marks_append : (q r : List Slot) → marks_of (q ++ r) ≡ marks_of q ++ marks_of r
unfolding marks_of
marks_append [] r = refl
marks_append (h ∷ q) r = ap (λ x. h.mark ∷ x) (marks_append q r)

pub words_drop : (n : ℕ) (q : List Slot) → words_of (drop n q) ≡ drop n (words_of q)
unfolding words_of
words_drop zero q = refl
words_drop (suc n) [] = refl
words_drop (suc n) (h ∷ q) = words_drop n q

pub marks_drop : (n : ℕ) (q : List Slot) → marks_of (drop n q) ≡ drop n (marks_of q)
unfolding marks_of
marks_drop zero q = refl
marks_drop (suc n) [] = refl
marks_drop (suc n) (h ∷ q) = marks_drop n q

pub drop_slots : (n : ℕ) (ws ms : List ℕ) → length ws ≡ length ms
    → drop n (slots ws ms) ≡ slots (drop n ws) (drop n ms)
unfolding slots
drop_slots zero ws ms h = refl
drop_slots (suc n) [] [] h = refl
drop_slots (suc n) [] (m ∷ ms) h = absurd (omega arith)
drop_slots (suc n) (w ∷ ws) [] h = absurd (omega arith)
drop_slots (suc n) (w ∷ ws) (m ∷ ms) h = drop_slots n ws ms (omega arith)

-- a queue's words and marks side by side: the slot at position i, and the end
module _ (held marks : List ℕ) (base n : ℕ) (h : base + n ≤ length held) (k : base + n ≤ length marks) where
  slots_rest : (i : ℕ) → drop i (slots (part base n held) (part base n marks))
      ≡ slots (drop i (part base n held)) (drop i (part base n marks))
  slots_rest i =
      let p : length (part base n held) ≡ n = length_part base n held h in
      let q : length (part base n marks) ≡ n = length_part base n marks k in
      drop_slots i (part base n held) (part base n marks) (p ∙ sym q)

  pub slots_next : (i : ℕ) → i < n
      → drop i (slots (part base n held) (part base n marks))
      ≡ record { word = get_or held (base + i) 0; mark = get_or marks (base + i) 0 }
      ∷ drop (i + 1) (slots (part base n held) (part base n marks))
  unfolding slots
  slots_next i r =
      slots_rest i ∙ rw (part_next base n i held 0 r h, part_next base n i marks 0 r k, slots_rest (i + 1))

  pub slots_end : (i : ℕ) → n ≤ i → drop i (slots (part base n held) (part base n marks)) ≡ []
  unfolding slots
  slots_end i r = slots_rest i ∙ rw (part_end base n i held r)
