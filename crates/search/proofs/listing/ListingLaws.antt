-- What stands where in the listing of a program, and that it fits where the program does. Assumes nothing.
use Prim.Native.Nat.{ℕ, ◌+◌, ◌*◌, ◌≤◌, ◌<◌, suc, ◌-◌}
use mathlib.Core.Path.{◌≡◌, refl, sym, ap, ◌∙◌}
use mathlib.Core.Logic.{⊎_elim}
use mathlib.Core.List.{List, [], ◌∷◌, ◌++◌, append_assoc}
use native.Mathlib.Omega.{arith}
use borrow.Author.Tests.{le-leb, lt-leb}
use lib.ListN.{length, get_or, get_or-append, get_or-eq_default}
use lib.Seq.{get_or-append-add}
use Rattle.cases.specs.declared.case.Instruction.{Instruction}
use Rattle.cases.specs.declared.case.Program.{Program}
use Rattle.cases.specs.Choice.{pick}
use Rattle.cases.specs.Sizes.{most_threads, most_instructions, most_locations, most_registers, all_code}
use Rattle.cases.specs.Checks.{lines_of, count_at, instruction_at}
use Rattle.cases.specs.Ranges.{ProgramFits}
use Rattle.machine.specs.View.{line_of}
use Rattle.machine.proofs.lists.PartLaws.{lt_or_ge}
use Rattle.search.specs.Sizes.{counts_at, lines_at, codes_at}
use Rattle.search.specs.Lanes.{join_to}
use Rattle.search.specs.Listing.{instruction_numbers, listing_of, threads_in, lines_in, locations_in, count_in}
use Rattle.search.specs.Listing.{line_in, code_at, ListingFits}
use Rattle.search.specs.Rows.{rows_in, queue_row}
use Rattle.cases.proofs.ChoiceLaws.{pick_here, pick_next}
use Rattle.search.proofs.lanes.JoinLaws.{length_wide, join_split, shifted}

-- line_in: there is no such location; there is
pub line_none : (c : List ℕ) (l : ℕ) → most_locations ≤ l → 0 ≡ line_in c l
unfolding line_in
line_none c l h = pick_here _ _ _ _ (le-leb _ _ h) refl

pub line_some : (c : List ℕ) (l : ℕ) → l < most_locations → get_or c (lines_at + l) 0 ≡ line_in c l
unfolding line_in
line_some c l h = pick_next _ _ _ _ (lt-leb _ _ h) refl

-- a line is below 256
pub line_byte_lem : (c : List ℕ) → ListingFits c → (l : ℕ) → l < most_locations → get_or c (lines_at + l) 0 < 256
line_byte_lem c g l h = let e = line_some c l h in let b = g.few_lines in let w = g.low_lines l in omega arith

-- the row of a location's queue is one of the rows
line_row : (c : List ℕ) → ListingFits c → (l : ℕ) → queue_row c (line_in c l) < rows_in c
line_row c g l = let w = g.low_lines l in omega arith

pub queue_low : (c : List ℕ) → ListingFits c → (l q r : ℕ) → q ≡ line_in c l → r ≡ queue_row c q → r < rows_in c
queue_low c g l q r e f = let w = line_row c g l in omega arith

-- an instruction that is left: its thread and its number are low
pub code_low : (c : List ℕ) → ListingFits c → (t i : ℕ) → t < threads_in c → i < count_in c t
    → (t < most_threads) × (i < most_instructions)
code_low c g t i h k =
    let w = g.few_threads in
    let l : t < most_threads = omega arith in
    let f = g.few_instructions t l in
    (l, omega arith)

-- instructions one behind the other: how many numbers; number j of instruction i
module _ (code : List Instruction) where
  pub length_codes : (n : ℕ) → length (join_to n (instruction_numbers code)) ≡ 4 * n
  unfolding instruction_numbers
  length_codes n = let e = length_wide 4 n (instruction_numbers code) (λ i. refl) in omega arith

  get_codes : (n i j : ℕ) → i < n → j < 4
      → get_or (join_to n (instruction_numbers code)) (4 * i + j) 0 ≡ get_or (instruction_numbers code i) j 0
  unfolding instruction_numbers
  get_codes n i j h l =
      let before : List ℕ = join_to i (instruction_numbers code) in
      let after : List ℕ = join_to (n - suc i) (shifted (suc i) (instruction_numbers code)) in
      rw (join_split n i (instruction_numbers code) h, ← length_codes i)
      (ap (λ (x : List ℕ). get_or x (length before + j) 0) (append_assoc before (instruction_numbers code i) after)
      ∙ get_or-append-add before (instruction_numbers code i ++ after) j 0
      ∙ get_or-append (instruction_numbers code i) after 0 j l)

-- what stands first
module _ (p : Program) where
  pub listing_threads : threads_in (listing_of p) ≡ p.threads
  unfolding listing_of
  listing_threads = refl

  pub listing_lines : lines_in (listing_of p) ≡ lines_of p
  unfolding listing_of
  listing_lines = refl

  pub listing_locations : locations_in (listing_of p) ≡ p.locations
  unfolding listing_of
  listing_locations = refl

-- A program that the machine can run
module _ (p : Program) (fits : ProgramFits p) where
  abbrev code : List ℕ
  code = join_to all_code (instruction_numbers p.code)

  -- behind the three first numbers
  behind : (i : ℕ) → get_or (listing_of p) (counts_at + i) 0 ≡ get_or (p.counts ++ (p.line ++ code)) i 0
  unfolding listing_of
  behind i = get_or-append-add (p.threads ∷ lines_of p ∷ p.locations ∷ []) (p.counts ++ (p.line ++ code)) i 0

  pub listing_count : (t : ℕ) → t < most_threads → count_in (listing_of p) t ≡ count_at p t
  listing_count t low =
      let long = fits.sized.counts_long in
      behind t ∙ get_or-append p.counts (p.line ++ code) 0 t (omega arith)

  behind_counts : (i : ℕ) → get_or (listing_of p) (lines_at + i) 0 ≡ get_or (p.line ++ code) i 0
  behind_counts i =
      let long = fits.sized.counts_long in
      let e : lines_at + i ≡ counts_at + (most_threads + i) = omega arith in
      ap (λ n. get_or (listing_of p) n 0) e
      ∙ behind (most_threads + i)
      ∙ rw (sym long) (get_or-append-add p.counts (p.line ++ code) i 0)

  pub listing_line : (l : ℕ) → line_in (listing_of p) l ≡ line_of p l
  unfolding line_in line_of pick
  listing_line l = ⊎_elim here beyond (lt_or_ge l most_locations)
    where
      here : l < most_locations → line_in (listing_of p) l ≡ line_of p l
      here low =
          let long = fits.sized.line_long in
          rw (lt-leb most_locations l low)
          (behind_counts l ∙ get_or-append p.line code 0 l (omega arith))

      beyond : most_locations ≤ l → line_in (listing_of p) l ≡ line_of p l
      beyond far =
          let long = fits.sized.line_long in
          rw (le-leb most_locations l far) (sym (get_or-eq_default p.line 0 (omega arith)))

  -- the four numbers of an instruction
  in_code : (i j : ℕ) → i < all_code → j < 4
      → get_or (listing_of p) (codes_at + 4 * i + j) 0 ≡ get_or (instruction_numbers p.code i) j 0
  in_code i j low less =
      let long = fits.sized.line_long in
      let e : codes_at + 4 * i + j ≡ lines_at + (most_locations + (4 * i + j)) = omega arith in
      ap (λ n. get_or (listing_of p) n 0) e
      ∙ behind_counts (most_locations + (4 * i + j))
      ∙ rw (sym long) (get_or-append-add p.line code (4 * i + j) 0)
      ∙ get_codes p.code all_code i j low less

  module _ (t i : ℕ) (low : t < most_threads) (few : i < most_instructions) where
    there : t * most_instructions + i < all_code
    there = omega arith

    pub listing_operation : get_or (listing_of p) (code_at t i) 0 ≡ (instruction_at p t i).operation
    unfolding instruction_numbers
    listing_operation =
        let at : code_at t i ≡ codes_at + 4 * (t * most_instructions + i) + 0 = omega arith in
        ap (λ n. get_or (listing_of p) n 0) at ∙ in_code (t * most_instructions + i) 0 there (omega arith)

    pub listing_location : get_or (listing_of p) (code_at t i + 1) 0 ≡ (instruction_at p t i).location.0
    unfolding instruction_numbers
    listing_location = in_code (t * most_instructions + i) 1 there (omega arith)

    pub listing_register : get_or (listing_of p) (code_at t i + 2) 0 ≡ (instruction_at p t i).register.0
    unfolding instruction_numbers
    listing_register = in_code (t * most_instructions + i) 2 there (omega arith)

    pub listing_word : get_or (listing_of p) (code_at t i + 3) 0 ≡ (instruction_at p t i).word
    unfolding instruction_numbers
    listing_word = in_code (t * most_instructions + i) 3 there (omega arith)

  -- it fits
  pub listing_fits : ListingFits (listing_of p)
  listing_fits =
      record {
        few_threads = rw (listing_threads p) fits.sized.few_threads;
        few_lines = rw (listing_lines p) (unfold lines_of in fits.sized.few_lines);
        few_locations = rw (listing_locations p) fits.sized.few_locations;
        few_instructions = λ t low. rw (listing_count t low) (fits.sized.few_instructions t);
        low_lines = λ l. rw (listing_line l, listing_lines p) (line_low l);
        low_locations = λ t i low left. located t i low (rw (listing_count t low) at left);
        low_registers = λ t i low left. registered t i low (rw (listing_count t low) at left);
      }
    where
      line_low : (l : ℕ) → line_of p l < lines_of p
      line_low l = unfold line_of lines_of in ⊎_elim (fits.lines l) beyond (lt_or_ge l most_locations)
        where
          beyond : most_locations ≤ l → get_or p.line l 0 < p.lines
          beyond far =
              let long = fits.sized.line_long in
              let some = fits.lines 0 (omega arith) in
              let blank : get_or p.line l 0 ≡ 0 = get_or-eq_default p.line 0 (omega arith) in
              omega arith

      few : (t i : ℕ) → i < count_at p t → i < most_instructions
      few t i left = let m = fits.sized.few_instructions t in omega arith

      located : (t i : ℕ) → t < most_threads → i < count_at p t
          → get_or (listing_of p) (code_at t i + 1) 0 < locations_in (listing_of p)
      located t i low left =
          rw (listing_location t i low (few t i left), listing_locations p)
          (fits.instructions t i left).1.low_location

      registered : (t i : ℕ) → t < most_threads → i < count_at p t
          → get_or (listing_of p) (code_at t i + 2) 0 < most_registers
      registered t i low left =
          rw (listing_register t i low (few t i left)) (fits.instructions t i left).1.low_register
