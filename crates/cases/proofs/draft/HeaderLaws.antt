-- The record of the program: its sizes, the lines that it says, and the bytes that it lists. Assumes nothing.
--   Opening h   what is known of a program's record that was read and passed its checks
use Prim.Native.Nat.{ℕ, ◌-◌, ◌<◌, ◌≤◌}
use mathlib.Core.Path.{◌≡◌, refl, sym, ap, subst, ◌∙◌}
use mathlib.Core.List.{List}
use mathlib.Core.Bool.{Bool, true, false}
use lib.ListN.{length, get_or, replicate, get_or-eq_default}
use lib.Seq.{length-take-le, get_or-take}
use lib.Dec.{eqb, ltb}
use borrow.Author.Tests.{eqb-true, eq-eqb, ne_eqb, not-false, ltb-true, ltb-false}
use native.Mathlib.Omega.{arith}
use Rattle.cases.specs.declared.case.Case.{Case}
use Rattle.cases.specs.declared.record.Header.{Header}
use Rattle.cases.specs.declared.record.Record.{Record}
use Rattle.cases.specs.declared.record.Record.TheVariants.{Declare}
use Rattle.cases.specs.Sizes.{most_threads, most_locations}
use Rattle.cases.specs.Choice.{pick}
use Rattle.cases.specs.Bytes.{half, IsBytes}
use Rattle.cases.specs.Lines.{own_version, line_version, last_version, listed_of, own_lines, unordered, lines_in}
use Rattle.cases.specs.Record.{as_row, line_bytes, line_byte, as_header, record_of}
use Rattle.cases.specs.Checks.{outside, header_out, mislisted}
use Rattle.cases.specs.Draft.{line_table, line_count, with_header, with_sizes}
use Rattle.cases.proofs.ChoiceLaws.{either_false, pick_true, pick_false, pick_cases}
use Rattle.cases.proofs.lines.LineTableLaws.{table_long, table_behind, table_blank, own_low}
use Rattle.cases.proofs.lines.NumberingLaws.{lines_few, lines_low, own_lines_counted}
use Rattle.cases.proofs.record.OpenLaws.{row_back}
use Rattle.cases.proofs.draft.RecordFitLaws.{outside_low}

-- a record of the program that passed 5 and 3 has at most the most threads, locations and line bytes
pub header_low : (h : Header) → header_out h ≡ false
    → (1 ≤ h.threads) × (h.threads ≤ most_threads) × (1 ≤ h.locations) × (h.locations ≤ most_locations)
unfolding header_out
header_low h out =
    let sizes = either_false _ _ (either_false (outside h.version last_version) _ out).1 in
    let t = outside_low h.threads most_threads sizes.0 in
    let l = outside_low h.locations most_locations sizes.1 in
    (t.0, t.1, l.0, l.1)

pub header_listed : (h : Header) → mislisted h ≡ false → h.listed ≡ listed_of h.version h.locations
unfolding mislisted
header_listed h right = eqb-true _ _ (not-false _ right)

pub header_listed_few : (h : Header) → header_out h ≡ false → mislisted h ≡ false → h.listed ≤ most_locations
unfolding listed_of
header_listed_few h out right =
    rw (header_listed h right)
    (pick_cases (λ (n : ℕ). n ≤ most_locations) (eqb h.version own_version) _ _
    (λ e. omega arith) (λ e. (header_low h out).3))

-- a record that is read has a byte for each location, and behind its line bytes stand zeros
pub record Listing (h : Header) : Type 0 where
  pub long : length h.line ≡ most_locations
  pub zeros : (l : ℕ) → h.listed ≤ l → get_or h.line l 0 ≡ 0

read_listing : (t : List ℕ) → Listing (as_header t)
unfolding as_header
read_listing t = record {
  long = table_long (line_byte t) (half t 0 - 4);
  zeros = λ l h. table_behind (line_byte t) (half t 0 - 4) l h;
}

pub header_listing : (k : ℕ) (t : List ℕ) (h : Header) → record_of k t ≡ Declare h → Listing h
unfolding record_of
header_listing k t h =
    pick_cases Read (eqb k 1) _ _ (λ e q. let is : as_header t ≡ h = cc in subst Listing is (read_listing t)) (λ e.
    pick_cases Read (eqb k 2) _ _ (λ e q. absurd (let z : ◌≡◌ {A = ℕ} 0 1 = cc in omega arith)) (λ e.
    pick_cases Read (eqb k 3) _ _ (λ e q. absurd (let z : ◌≡◌ {A = ℕ} 0 1 = cc in omega arith)) (λ e.
    pick_cases Read (eqb k 4) _ _ (λ e q. absurd (let z : ◌≡◌ {A = ℕ} 0 1 = cc in omega arith)) (λ e.
    pick_cases Read (eqb k 5) _ _ (λ e q. absurd (let z : ◌≡◌ {A = ℕ} 0 1 = cc in omega arith)) (λ e q.
    absurd (let z : ◌≡◌ {A = ℕ} 0 1 = cc in omega arith))))))
  where
    Read : Record → Type 0
    Read r = r ≡ Declare h → Listing h

pub record Opening (h : Header) : Type 0 where
  pub out : header_out h ≡ false
  pub right : mislisted h ≡ false
  pub ordered : unordered 0 (line_bytes h) ≡ false
  pub listing : Listing h

-- Such a record
module _ (h : Header) (o : Opening h) where
  listed_few : h.listed ≤ most_locations
  listed_few = header_listed_few h o.out o.right

  listed_long : length (line_bytes h) ≡ h.listed
  unfolding line_bytes
  listed_long = length-take-le h.listed h.line (omega (arith, listed_few, o.listing.long))

  listed_low : (l : ℕ) → l < h.listed → get_or h.line l 0 < lines_in 0 (line_bytes h)
  unfolding line_bytes
  listed_low l low =
      rw (get_or-take h.listed h.line l 0 low)
      at (lines_low (line_bytes h) 0 o.ordered l (omega (arith, listed_long)))

  -- the line bytes are bytes
  pub header_bytes : IsBytes (line_bytes h)
  header_bytes i = go (ltb i (length (line_bytes h))) refl
    where
      go : (b : Bool) → ltb i (length (line_bytes h)) ≡ b → get_or (line_bytes h) i 0 < 256
      go true e =
          omega (
            arith,
            lines_low (line_bytes h) 0 o.ordered i (ltb-true _ _ e),
            lines_few (line_bytes h) 0,
            listed_long,
            listed_few,
          )
      go false e = omega (arith, get_or-eq_default (line_bytes h) 0 {n = i} (ltb-false _ _ e))

  -- the table of lines: how long it is, how many lines there are, and that every location lies on one of them
  pub header_table_long : length (line_table h) ≡ most_locations
  unfolding line_table own_lines
  header_table_long =
      pick_cases (λ (xs : List ℕ). length xs ≡ most_locations) (eqb h.version own_version) _ _
      (λ e. table_long (λ l. l) h.locations) (λ e. o.listing.long)

  pub header_few_lines : line_count h ≤ most_locations
  unfolding line_count
  header_few_lines =
      pick_cases (λ (n : ℕ). n ≤ most_locations) (eqb h.version own_version) _ _
      (λ e. (header_low h o.out).3)
      (λ e. omega (arith, lines_few (line_bytes h) 0, listed_long, listed_few))

  pub header_on_lines : (l : ℕ) → l < most_locations → get_or (line_table h) l 0 < line_count h
  unfolding line_table line_count listed_of
  header_on_lines l low = go (eqb h.version own_version) (ltb l h.listed) refl refl
    where
      sizes : (1 ≤ h.threads) × (h.threads ≤ most_threads) × (1 ≤ h.locations) × (h.locations ≤ most_locations)
      sizes = header_low h o.out

      go : (b c : Bool) → eqb h.version own_version ≡ b → ltb l h.listed ≡ c
          → get_or (line_table h) l 0 < line_count h
      go true c e f =
          rw (pick_true _ (own_lines h.locations) h.line e, pick_true _ h.locations _ e)
          (own_low h.locations l sizes.2 sizes.3)
      go false true e f =
          rw (pick_false _ (own_lines h.locations) h.line e, pick_false _ h.locations _ e)
          (listed_low l (ltb-true l h.listed f))
      go false false e f =
          let all : h.listed ≡ h.locations = header_listed h o.right ∙ pick_false _ 0 h.locations e in
          rw (pick_false _ (own_lines h.locations) h.line e, pick_false _ h.locations _ e)
          (omega (arith, o.listing.zeros l (ltb-false l h.listed f), listed_low 0 (omega (arith, sizes.2, all))))

  -- as it was listed it is written
  pub header_row : as_row (pick (eqb h.version own_version) (replicate most_locations 0) (line_table h)) ≡ h.line
  unfolding line_table listed_of
  header_row = go (eqb h.version own_version) refl
    where
      written : Bool → List ℕ
      written b = pick b (replicate most_locations 0) (pick b (own_lines h.locations) h.line)

      go : (b : Bool) → eqb h.version own_version ≡ b → as_row (written b) ≡ h.line
      go true e =
          let none : h.listed ≡ 0 = header_listed h o.right ∙ pick_true _ 0 h.locations e in
          let blank = table_blank h.line o.listing.long (λ l. o.listing.zeros l (omega arith)) in
          ap as_row (pick_true true (replicate most_locations 0) _ refl ∙ sym blank) ∙ row_back h.line o.listing.long
      go false e =
          ap as_row (pick_false false (replicate most_locations 0) _ refl ∙ pick_false false _ _ refl)
          ∙ row_back h.line o.listing.long

-- a record of version 1 says a line each
pub header_own : (h : Header) → h.version ≡ own_version
    → (line_count h ≡ h.locations) × (line_table h ≡ own_lines h.locations)
unfolding line_count line_table
header_own h e =
    (pick_true _ _ _ (eq-eqb h.version own_version e), pick_true _ _ _ (eq-eqb h.version own_version e))

-- and one of version 2 that says the same lines says the same
pub header_twin : (h : Header) → eqb h.version own_version ≡ false
    → h.locations ≤ most_locations
    → h.listed ≡ h.locations
    → h.line ≡ own_lines h.locations
    → (line_count h ≡ h.locations) × (line_table h ≡ own_lines h.locations)
unfolding line_count line_table line_bytes
header_twin h other few all same = (
  pick_false _ _ _ other ∙ rw (all, same) (own_lines_counted h.locations few),
  pick_false _ _ _ other ∙ same,
)

-- so both make the same program
pub header_same : (c : Case) (h k : Header) → h.version ≡ own_version → k.version ≡ line_version
    → k.threads ≡ h.threads
    → k.locations ≡ h.locations
    → h.locations ≤ most_locations
    → k.listed ≡ h.locations
    → k.line ≡ own_lines h.locations
    → (with_header c h).program ≡ (with_header c k).program
unfolding with_header with_sizes
header_same c h k own lined threads locations few all same =
    let a = header_own h own in
    let other = ne_eqb k.version own_version (λ e. omega arith) in
    let b = header_twin k other (omega arith) (all ∙ sym locations) (same ∙ ap own_lines (sym locations)) in
    let count = a.0 ∙ sym (b.0 ∙ locations) in
    let line = a.1 ∙ sym (b.1 ∙ ap own_lines locations) in
    let t = sym threads in
    let l = sym locations in
    λ i. record {
      threads = t i;
      locations = l i;
      lines = count i;
      line = line i;
      first = c.program.first;
      counts = c.program.counts;
      code = c.program.code;
    }
