-- The loops that make the listing of a program, and that it is made. Assumes nothing.
use Prim.Native.Nat.{ℕ, suc, ◌+◌, ◌*◌, ◌≤◌, ◌<◌}
use mathlib.Core.Path.{◌≡◌, refl, ◌∙◌}
use mathlib.Core.List.{List, ◌++◌, append-nil}
use native.Mathlib.Omega.{arith}
use native.Mathlib.Numerals.{add-one}
use lib.ListN.{length, get_or, set, take, replicate, length-append, length-replicate, drop_of_length-le}
use lib.Seq.{sets, take-suc, length-take-le}
use Rattle.cases.specs.declared.case.Instruction.{Instruction}
use Rattle.cases.specs.declared.case.Program.{Program}
use Rattle.cases.specs.Checks.{no_instruction, lines_of}
use Rattle.cases.specs.Ranges.{ProgramFits}
use Rattle.cases.specs.Sizes.{all_code}
use Rattle.cases.proofs.ArrayLaws.{sets_append, sets_front}
use Rattle.search.specs.Sizes.{counts_at, lines_at, codes_at, all_listing}
use Rattle.search.specs.Lanes.{join_to}
use Rattle.search.specs.Listing.{instruction_numbers, listing_of}
use Rattle.search.proofs.listing.ListingLaws.{length_codes}

-- a loop has put the first i of some numbers
pub record NumbersSoFar (before : List ℕ) (at : ℕ) (numbers row : List ℕ) (i : ℕ) : Type 0 where
  pub far : i ≤ length numbers
  pub put : row ≡ sets before at (take i numbers)

-- one more
module _ {before : List ℕ} {at : ℕ} {numbers row : List ℕ} {i : ℕ} (o : NumbersSoFar before at numbers row i) where
  pub numbers_next : i < length numbers → (n : ℕ) → n ≡ get_or numbers i 0
      → NumbersSoFar before at numbers (set row (at + i) n) (i + 1)
  numbers_next h n e =
      record {
        far = omega arith;
        put =
            rw (
              o.put,
              e,
              add-one,
              take-suc numbers i 0 h,
              sets_append before at (take i numbers),
              length-take-le i numbers (omega arith),
            );
      }

-- a loop has put the first i of all instructions
pub record CodeSoFar (before : List ℕ) (code : List Instruction) (row : List ℕ) (i : ℕ) : Type 0 where
  pub far : i ≤ all_code
  pub put : row ≡ sets before codes_at (join_to i (instruction_numbers code))

-- none is put yet
pub codes_start : (row : List ℕ) (code : List Instruction) → CodeSoFar row code row 0
unfolding join_to
codes_start row code = record { far = omega arith; put = refl }

-- one more: its four numbers; all
module _ {before : List ℕ} {code : List Instruction} {row : List ℕ} {i : ℕ} (o : CodeSoFar before code row i) where
  abbrev here : Instruction
  here = get_or code i no_instruction

  pub codes_next : i < all_code
      → CodeSoFar before code
      (set
      (set
      (set (set row (codes_at + 4 * i) here.operation) (codes_at + 4 * i + 1) here.location.0)
      (codes_at + 4 * i + 2) here.register.0)
      (codes_at + 4 * i + 3) here.word)
      (i + 1)
  unfolding join_to instruction_numbers
  codes_next h =
      let a : codes_at + 4 * i + 1 ≡ suc (codes_at + 4 * i) = omega arith in
      let b : codes_at + 4 * i + 2 ≡ suc (suc (codes_at + 4 * i)) = omega arith in
      let d : codes_at + 4 * i + 3 ≡ suc (suc (suc (codes_at + 4 * i))) = omega arith in
      record {
        far = omega arith;
        put =
            rw (
              o.put,
              add-one i,
              sets_append before codes_at (join_to i (instruction_numbers code)),
              length_codes code i,
              a,
              b,
              d,
            );
      }

-- the three first numbers, the counts, the lines and the instructions are the listing
module _ (p : Program) (fits : ProgramFits p) where
  abbrev codes : List ℕ
  codes = join_to all_code (instruction_numbers p.code)

  listing_length : length (listing_of p) ≡ all_listing
  unfolding listing_of
  listing_length =
      let a = fits.sized.counts_long in
      let b = fits.sized.line_long in
      let w = length_codes p.code all_code in
      simp length-append (omega arith)

  -- put into as many numbers as it has, it is all that there is
  listing_all : (blank : List ℕ) → length blank ≡ all_listing → sets blank 0 (listing_of p) ≡ listing_of p
  listing_all blank e =
      let l = listing_length in
      sets_front blank (listing_of p) (omega arith)
      ∙ rw (drop_of_length-le blank {i = length (listing_of p)} (omega arith), append-nil)

  put_all : (blank first second third : List ℕ) → length blank ≡ all_listing
      → first ≡ sets (set (set (set blank 0 p.threads) 1 p.lines) 2 p.locations) counts_at p.counts
      → second ≡ sets first lines_at p.line
      → third ≡ sets second codes_at (join_to all_code (instruction_numbers p.code))
      → third ≡ listing_of p
  unfolding listing_of lines_of
  put_all blank first second third e f g h =
      let a = fits.sized.counts_long in
      let b = fits.sized.line_long in
      let start : List ℕ = set (set (set blank 0 p.threads) 1 p.lines) 2 p.locations in
      let m : counts_at + length p.counts ≡ lines_at = omega arith in
      let n : lines_at + length p.line ≡ codes_at = omega arith in
      h
      ∙ rw (
        g,
        f,
        ← n,
        ← sets_append (sets start counts_at p.counts) lines_at p.line codes,
        ← m,
        ← sets_append start counts_at p.counts (p.line ++ codes),
      )
      (listing_all blank e)

  pub listing_made : (first second third : List ℕ)
      → first
      ≡ sets (set (set (set (replicate all_listing 0) 0 p.threads) 1 p.lines) 2 p.locations) counts_at
      p.counts
      → second ≡ sets first lines_at p.line
      → third ≡ sets second codes_at (join_to all_code (instruction_numbers p.code))
      → third ≡ listing_of p
  listing_made first second third =
      put_all (replicate all_listing 0) first second third (length-replicate {A = ℕ} all_listing 0)
