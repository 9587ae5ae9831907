-- The reader's loop: what it keeps, and one law for each way out of a turn. Assumes nothing.
use Prim.Native.Nat.{ℕ, zero, suc, ◌+◌, ◌-◌, ◌<◌, ◌≤◌}
use mathlib.Core.Path.{◌≡◌, refl, sym, ap, ◌∙◌}
use mathlib.Core.Logic.{◌≢◌}
use mathlib.Core.List.{List}
use lib.ListN.{length, take, drop, length-drop}
use lib.Seq.{drop-drop, take_all}
use lib.Dec.{eqb}
use borrow.Author.Tests.{eq-eqb, ne_eqb}
use native.Mathlib.Omega.{arith}
use Rattle.cases.specs.declared.draft.Draft.{Draft}
use Rattle.cases.specs.declared.record.Record.{Record}
use Rattle.cases.specs.declared.reader.Answer.TheVariants.{Whole}
use Rattle.cases.specs.declared.reader.Reading.{Reading}
use Rattle.cases.specs.Sizes.{most_threads, most_locations}
use Rattle.cases.specs.Record.{open_no, size_of}
use Rattle.cases.specs.Checks.{fault_of}
use Rattle.cases.specs.Draft.{empty_case, blank_draft, add_of}
use Rattle.cases.specs.Reading.{refused_of, ended_of, read_from, read_of}
use Rattle.cases.proofs.ChoiceLaws.{pick_true, pick_false}
use Rattle.cases.proofs.record.OpenLaws.{open_whole}
use Rattle.cases.proofs.draft.DraftLaws.{draft_sizes}
use Rattle.cases.proofs.reader.ReadLaws.{as_record, read_cases}

-- What the reader's loop keeps: what is read from `at` on, behind the draft d, is what is read of the whole
-- input s
pub record ReadSoFar (s : List ℕ) (d : Draft) (at : ℕ) : Type 0 where
  pub within : at ≤ length s
  pub few : d.case.program.threads ≤ most_threads
  pub near : d.case.program.locations ≤ most_locations
  pub left : ℕ
  pub enough : length s < at + left
  pub same : read_from left d at (drop at s) ≡ read_of s

-- the same refusal: by that number, at that offset
pub refused_same : {n m at to : ℕ} → n ≡ m → at ≡ to → refused_of n at ≡ refused_of m to
refused_same e f = rw (e, f) refl

-- nothing is read yet
pub read_loop_start : (s : List ℕ) (d : Draft) → d ≡ blank_draft → ReadSoFar s d 0
unfolding read_of blank_draft empty_case
read_loop_start s d e =
    rw e
    (record {
      within = omega arith;
      few = omega arith;
      near = omega arith;
      left = suc (length s);
      enough = omega arith;
      same = refl;
    })

-- A turn of the loop
module _ {s : List ℕ} {d : Draft} {at : ℕ} (so : ReadSoFar s d at) where
  -- what a turn comes to is what is read of the whole
  turn : (x : Reading) → ((k : ℕ) → read_from (suc k) d at (drop at s) ≡ x) → x ≡ read_of s
  turn x f = go so.left so.enough so.same
    where
      go : (k : ℕ) → length s < at + k → read_from k d at (drop at s) ≡ read_of s → x ≡ read_of s
      go zero h i = absurd (omega (arith, so.within))
      go (suc k) h i = sym (f k) ∙ i

  -- the input ends: before a record came, or behind one
  read_end : length s ≤ at → ended_of d at ≡ read_of s
  read_end h =
      let none : length (drop at s) ≡ 0 = omega (arith, length-drop at s) in
      turn (ended_of d at) (λ k. read_cases (λ (x : Reading). x ≡ ended_of d at) k d at (drop at s)
      (λ z. refl) (λ m z. absurd (z none)) (λ m z. absurd (z none)) (λ z. absurd (z none)))

  pub read_loop_none : length s ≤ at → d.kind ≡ 0 → refused_of 1 at ≡ read_of s
  unfolding ended_of
  read_loop_none h k = sym (pick_true (eqb d.kind 0) _ _ (eq-eqb d.kind 0 k)) ∙ read_end h

  pub read_loop_whole : length s ≤ at → d.kind ≢ 0 → record { answer = Whole at; case = d.case } ≡ read_of s
  unfolding ended_of
  read_loop_whole h k = sym (pick_false (eqb d.kind 0) _ _ (ne_eqb d.kind 0 k)) ∙ read_end h

  -- the rest of the input, as the code's `&s[at..]` has it
  module _ (inside : at < length s) where
    abbrev rest : List ℕ
    rest = take (length s - at) (drop at s)

    rest_is : rest ≡ drop at s
    rest_is = take_all (length s - at) (drop at s) (omega (arith, length-drop at s))

    some : length (drop at s) ≢ 0
    some z = omega (arith, length-drop at s)

    -- the record doesn't open
    pub read_loop_faulty : (m : ℕ) → m ≡ open_no rest → m ≢ 0 → refused_of m at ≡ read_of s
    read_loop_faulty m e h =
        let o : open_no (drop at s) ≡ m = sym (rw rest_is at e) in
        turn (refused_of m at) (λ k. read_cases (λ (x : Reading). x ≡ refused_of m at) k d at (drop at s)
        (λ z. absurd (some z))
        (λ i z q. ap (λ (j : ℕ). refused_of j at) (sym q ∙ o))
        (λ i z q f. absurd (h (sym o ∙ q)))
        (λ z q f. absurd (h (sym o ∙ q))))

    -- the record opens as r
    module _ (r : Record) (e : open_no rest ≡ 0) (is : r ≡ as_record rest) where
      opens : (open_no (drop at s) ≡ 0) × (r ≡ as_record (drop at s))
      opens = (rw rest_is at e, is ∙ ap as_record rest_is)

      -- the record has a fault
      pub read_loop_fault : (m : ℕ) → m ≡ fault_of d r → m ≢ 0 → refused_of m at ≡ read_of s
      read_loop_fault m f h =
          let g : m ≡ fault_of d (as_record (drop at s)) = f ∙ ap (fault_of d) opens.1 in
          turn (refused_of m at) (λ k. read_cases (λ (x : Reading). x ≡ refused_of m at) k d at (drop at s)
          (λ z. absurd (some z))
          (λ i z q. absurd (omega (arith, opens.0)))
          (λ i z q f. ap (λ (j : ℕ). refused_of j at) (sym f ∙ sym g))
          (λ z q f. absurd (h (g ∙ f))))

      -- the record ends within the input, and has at least a head
      pub read_loop_within : (n : ℕ) → n ≡ size_of rest → (1 ≤ n) × (at + n ≤ length s)
      read_loop_within n z =
          let w = open_whole (drop at s) opens.0 in
          let m : n ≡ size_of (drop at s) = z ∙ ap size_of rest_is in
          (omega (arith, w.head), omega (arith, w.within, length-drop at s))

      -- reading goes on behind it
      pub read_loop_next : fault_of d r ≡ 0
          → (n : ℕ) → n ≡ size_of rest
          → (after : Draft) → after ≡ add_of d r
          → ReadSoFar s after (at + n)
      read_loop_next f n z after a =
          let m : n ≡ size_of (drop at s) = z ∙ ap size_of rest_is in
          let w = read_loop_within n z in
          let sizes = draft_sizes d so.few so.near r f in
          rw a (go w m sizes so.left so.enough so.same)
        where
          on : ℕ → ℕ → Reading
          on n k = read_from k (add_of d r) (at + n) (drop (at + n) s)

          go : (1 ≤ n) × (at + n ≤ length s) → n ≡ size_of (drop at s)
              → ((add_of d r).case.program.threads ≤ most_threads)
              × ((add_of d r).case.program.locations ≤ most_locations)
              → (k : ℕ) → length s < at + k
              → read_from k d at (drop at s) ≡ read_of s
              → ReadSoFar s (add_of d r) (at + n)
          go w m sizes zero h i = absurd (omega arith)
          go w m sizes (suc k) h i =
              record {
                within = w.1;
                few = sizes.0;
                near = sizes.1;
                left = k;
                enough = omega arith;
                same =
                    read_cases (λ (x : Reading). x ≡ read_of s → on n k ≡ read_of s) k d at (drop at s)
                    (λ z. absurd (some z))
                    (λ j z q. absurd (omega (arith, opens.0)))
                    (λ j z q g. absurd (omega (arith, ap (fault_of d) opens.1)))
                    (λ z q g. λ y. rw (m, opens.1, ← drop-drop (size_of (drop at s)) at s) y)
                    i;
              }
