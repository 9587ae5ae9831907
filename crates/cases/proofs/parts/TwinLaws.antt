-- A version 1 case and its version 2 twin with a line each: the same file behind the program's record, which lists the
-- lines. No check but the program record's own looks at the version. Assumes nothing.
use Prim.Native.Nat.{ℕ, zero, suc, ◌+◌, ◌-◌, ◌<◌, ◌≤◌}
use mathlib.Core.Path.{◌≡◌, refl, sym, ap, ◌∙◌}
use mathlib.Core.Logic.{◌≢◌}
use mathlib.Core.List.{List, [], ◌∷◌, ◌++◌}
use mathlib.Core.Bool.{Bool, false}
use lib.ListN.{length, take, length-append, length-drop, get_or-append}
use lib.Seq.{length-take-le, get_or-take, get_or-drop}
use lib.Dec.{eqb}
use borrow.Author.Tests.{le-ltb, ne_eqb, eq-eqb}
use native.Mathlib.Omega.{arith}
use Rattle.cases.specs.declared.case.Program.{Program}
use Rattle.cases.specs.declared.draft.Draft.{Draft}
use Rattle.cases.specs.declared.record.Header.{Header}
use Rattle.cases.specs.declared.record.Record.{Record}
use Rattle.cases.specs.declared.record.Record.TheVariants.{Declare, First, Instruct, Want, Passed, Take}
use Rattle.cases.specs.declared.reader.Answer.TheVariants.{Whole}
use Rattle.cases.specs.declared.reader.Reading.{Reading}
use Rattle.cases.specs.Sizes.{most_locations, longest_record}
use Rattle.cases.specs.Choice.{pick, either, refuse}
use Rattle.cases.specs.Bytes.{IsBytes, half}
use Rattle.cases.specs.Lines.{own_version, line_version, last_version, listed_of, own_lines, unordered}
use Rattle.cases.specs.Record.{payload_of, spare_of, mislong, line_bytes, line_byte, as_header}
use Rattle.cases.specs.Record.{record_of, open_no, size_of}
use Rattle.cases.specs.Checks.{misplaced, disordered, outside, header_out, mislisted, fault_of}
use Rattle.cases.specs.Draft.{empty_case, with_header}
use Rattle.cases.specs.Draft.{with_program, with_ask, with_run, with_version, blank_draft, add_of}
use Rattle.cases.specs.Reading.{number_of, refused_of, ended_of, read_from, read_of}
use Rattle.cases.proofs.ArrayLaws.{length_none}
use Rattle.cases.proofs.ChoiceLaws.{refuse_none, pick_false, either_false, either_none}
use Rattle.cases.proofs.bytes.BytesLaws.{bytes_drop, bytes_take, bytes_join}
use Rattle.cases.proofs.lines.LineTableLaws.{table_long, table_below, table_same, own_low}
use Rattle.cases.proofs.lines.NumberingLaws.{own_lines_ordered}
use Rattle.cases.proofs.draft.HeaderLaws.{header_low, header_same}
use Rattle.cases.proofs.reader.ReadLaws.{as_record, behind, read_cases, sound_goes_on, record_is_behind}
use Rattle.cases.proofs.reader.ReadLaws.{end_behind_a_record_succeeds}
use Rattle.cases.proofs.reader.PrefixLaws.{read_fuel_same}
use Rattle.cases.proofs.parts.GoesLaws.{Begins, opens, goes_one}

-- the draft d as of a case of version v: no check behind the program's record looks at it, and every record keeps it
abbrev versioned : Draft → ℕ → Draft
versioned d v = record { case = with_version d.case v; kind = d.kind; next = d.next }

fault_versioned : (d : Draft) (v : ℕ) (r : Record) → fault_of (versioned d v) r ≡ fault_of d r
unfolding fault_of with_version disordered
fault_versioned d v (Declare h) = refl
fault_versioned d v (First w) = refl
fault_versioned d v (Instruct t x) = refl
fault_versioned d v (Want w) = refl
fault_versioned d v (Passed t n) = refl
fault_versioned d v (Take k) = refl

-- a second program's record is misplaced
declared_once : (d : Draft) (h : Header) → d.kind ≢ 0 → fault_of d (Declare h) ≡ 0 → ⊥
unfolding fault_of misplaced pick either refuse
declared_once d h came f = let z : ◌≡◌ {A = ℕ} 4 0 = rw (ne_eqb d.kind 0 came) at f in omega arith

module _ (d : Draft) (came : d.kind ≢ 0) where
  add_versioned : (v : ℕ) (r : Record) → fault_of d r ≡ 0 → add_of (versioned d v) r ≡ versioned (add_of d r) v
  unfolding add_of with_version with_program with_ask with_run
  add_versioned v (Declare h) f = absurd (declared_once d h came f)
  add_versioned v (First w) f = refl
  add_versioned v (Instruct t x) f = refl
  add_versioned v (Want w) f = refl
  add_versioned v (Passed t n) f = refl
  add_versioned v (Take k) f = refl

  add_keeps : (r : Record) → fault_of d r ≡ 0 → (add_of d r).case.version ≡ d.case.version
  unfolding add_of with_program with_ask with_run
  add_keeps (Declare h) f = absurd (declared_once d h came f)
  add_keeps (First w) f = refl
  add_keeps (Instruct t x) f = refl
  add_keeps (Want w) f = refl
  add_keeps (Passed t n) f = refl
  add_keeps (Take k) f = refl

-- what reading on behind a draft comes to: the version stays, and with another one the same case is read
record ReadsOn (n : ℕ) (d : Draft) (s : List ℕ) (y : Reading) : Type 0 where
  kept : y.case.version ≡ d.case.version
  other : (v m : ℕ)
      → (number_of (read_from n (versioned d v) m s).answer ≡ 0)
      × ((read_from n (versioned d v) m s).case ≡ with_version y.case v)

module _ (n : ℕ) (d : Draft) (at : ℕ) (s : List ℕ) (came : d.kind ≢ 0) where
  on_ended : length s ≡ 0 → ReadsOn (suc n) d s (ended_of d at)
  on_ended none =
      let y : ended_of d at ≡ record { answer = Whole at; case = d.case }
      = unfold ended_of in pick_false (eqb d.kind 0) _ _ (ne_eqb d.kind 0 came) in
      let e = length_none s none in
      rw y (record {
        kept = refl;
        other = λ v m.
            let r = end_behind_a_record_succeeds n (versioned d v) m came in
            rw (e, r) (refl, refl);
      })

  on_next : length s ≢ 0 → open_no s ≡ 0 → fault_of d (as_record s) ≡ 0
      → (y : Reading) → ReadsOn n (add_of d (as_record s)) (behind s) y → ReadsOn (suc n) d s y
  on_next some o f y r =
      record {
        kept = r.kept ∙ add_keeps d came (as_record s) f;
        other = λ v m.
            let e = sound_goes_on n (versioned d v) m s some o (fault_versioned d v (as_record s) ∙ f) in
            let t = r.other v (m + size_of s) in
            rw (e, add_versioned d came v (as_record s) f) t;
      }

reads_on : (n : ℕ) (d : Draft) (at : ℕ) (s : List ℕ) → d.kind ≢ 0
    → number_of (read_from n d at s).answer ≡ 0
    → ReadsOn n d s (read_from n d at s)
reads_on zero d at s came = λ h. absurd (unread h)
  where
    unread : number_of (read_from zero d at s).answer ≡ 0 → ⊥
    unread z = unfold read_from refused_of in (omega arith)
reads_on (suc n) d at s came =
    read_cases (λ (y : Reading). number_of y.answer ≡ 0 → ReadsOn (suc n) d s y) n d at s
    (λ e h. on_ended n d at s came e)
    (λ m some o h. absurd (unfold refused_of in (omega arith)))
    (λ m some o f h. absurd (unfold refused_of in (omega arith)))
    (λ some o f h. on_next n d at s came some o f _
    (reads_on n (add_of d (as_record s)) (at + size_of s) (behind s) (record_is_behind d (as_record s)) h))

-- a chain of checks goes on where a fault is not there
refuse_passes : (t : Bool) (n rest : ℕ) → t ≡ false → rest ≡ 0 → refuse t n rest ≡ 0
unfolding refuse
refuse_passes t n rest h e = rw h e

-- The program's record of version 2 with a line each: t threads, n locations
module _ (t n : ℕ) (few : n ≤ most_locations) where
  abbrev header : Header
  header =
      record { version = line_version; threads = t; locations = n; listed = n; line = own_lines n }

  abbrev front : List ℕ
  front = (4 + n) ∷ 0 ∷ 1 ∷ 0 ∷ line_version ∷ 0 ∷ t ∷ n ∷ take n (own_lines n)

  own_long : length (own_lines n) ≡ most_locations
  unfolding own_lines
  own_long = table_long (λ l. l) n

  listed_own : line_bytes header ≡ take n (own_lines n)
  unfolding line_bytes
  listed_own = refl

  front_long : length front ≡ 8 + n
  front_long = let k = length-take-le n (own_lines n) (omega (arith, own_long)) in omega arith

  module _ (x : List ℕ) where
    front_length : half (front ++ x) 0 ≡ 4 + n
    unfolding half
    front_length = omega arith

    front_line : (l : ℕ) → l < most_locations → l < n → line_byte (front ++ x) l ≡ l
    front_line l low below =
        let k = length-take-le n (own_lines n) (omega (arith, own_long)) in
        sym (get_or-drop 8 (front ++ x) l 0)
        ∙ get_or-append (take n (own_lines n)) x 0 l (omega arith)
        ∙ get_or-take n (own_lines n) l 0 below
        ∙ (unfold own_lines in table_below (λ i. i) n l few below)

    front_header : as_header (front ++ x) ≡ header
    unfolding as_header half own_lines
    front_header =
        let m : half (front ++ x) 0 - 4 ≡ n = omega (arith, front_length) in
        rw (m, table_same (line_byte (front ++ x)) (λ l. l) n front_line) refl

  front_opens : (x : List ℕ) → open_no (front ++ x) ≡ 0
  front_opens x = opens (front ++ x) known right (omega (arith, front_length x, length-append front x, front_long))
    where
      known : payload_of (half (front ++ x) 2) ≢ 0
      known z = unfold payload_of half pick in (omega arith)

      right : mislong (half (front ++ x) 2) (half (front ++ x) 0) ≡ false
      right = rw (front_length x) (unfold mislong payload_of spare_of half pick in
          either_none _ _ (le-ltb (4 + n) 4 (omega arith)) (le-ltb most_locations ((4 + n) - 4) (omega arith)))

  front_begins : Begins front (Declare header)
  front_begins =
      record {
        opened = front_opens;
        is = λ x. unfold record_of half pick in ap Declare (front_header x);
        size = λ x. unfold size_of in (omega (arith, front_length x, front_long));
      }

  -- it passes its checks, and makes the same program as that of version 1
  module _ (h : Header) (version : h.version ≡ own_version) (threads : h.threads ≡ t) (locations : h.locations ≡ n)
    where
      twin_passes : header_out h ≡ false → fault_of blank_draft (Declare header) ≡ 0
      unfolding fault_of
      twin_passes out =
          refuse_passes _ 4 _ placed
          (refuse_passes _ 5 _ range (refuse_passes _ 3 _ listed (refuse_passes _ 8 _ ordered refl)))
        where
          placed : misplaced blank_draft.kind 1 ≡ false
          placed = unfold blank_draft misplaced pick in refl

          range : header_out header ≡ false
          range = unfold header_out in
              either_none (outside line_version last_version) _ (unfold outside either in refl)
              (rw (threads, locations) at (either_false (outside h.version last_version) _ out).1)

          listed : mislisted header ≡ false
          listed = unfold mislisted listed_of pick in rw (eq-eqb n n refl) refl

          ordered : unordered 0 (line_bytes header) ≡ false
          ordered = ap (unordered 0) listed_own ∙ own_lines_ordered n few

      twin_adds : add_of blank_draft (Declare header) ≡ versioned (add_of blank_draft (Declare h)) line_version
      unfolding add_of with_header with_version blank_draft
      twin_adds =
          ap added (sym (header_same empty_case h header version refl (sym threads) (sym locations)
          (rw (← locations) at few) (sym locations) (ap own_lines (sym locations))))
        where
          added : Program → Draft
          added p =
              record {
                case = record { version = line_version; program = p; ask = empty_case.ask; run = empty_case.run };
                kind = 1;
                next = 0;
              }

-- Only a program's record comes first
first_declares : (r : Record) → fault_of blank_draft r ≡ 0 → (h : Header) × (r ≡ Declare h)
unfolding fault_of blank_draft misplaced pick refuse
first_declares (Declare h) f = (h, refl)
first_declares (First w) f = absurd (omega arith)
first_declares (Instruct t x) f = absurd (omega arith)
first_declares (Want w) f = absurd (omega arith)
first_declares (Passed t n) f = absurd (omega arith)
first_declares (Take k) f = absurd (omega arith)

bytes_cons : (a : ℕ) (t : List ℕ) → a < 256 → IsBytes t → IsBytes (a ∷ t)
bytes_cons a t h b zero = h
bytes_cons a t h b (suc i) = b i

front_bytes : (t n : ℕ) (few : n ≤ most_locations) → t < 256 → 1 ≤ n → IsBytes (front t n few)
front_bytes t n few low some =
    bytes_join ((4 + n) ∷ 0 ∷ 1 ∷ 0 ∷ line_version ∷ 0 ∷ t ∷ n ∷ []) (take n (own_lines n))
    (bytes_cons (4 + n) (0 ∷ 1 ∷ 0 ∷ line_version ∷ 0 ∷ t ∷ n ∷ []) (omega arith)
    (bytes_cons 0 (1 ∷ 0 ∷ line_version ∷ 0 ∷ t ∷ n ∷ []) (omega arith)
    (bytes_cons 1 (0 ∷ line_version ∷ 0 ∷ t ∷ n ∷ []) (omega arith)
    (bytes_cons 0 (line_version ∷ 0 ∷ t ∷ n ∷ []) (omega arith)
    (bytes_cons line_version (0 ∷ t ∷ n ∷ []) (omega arith)
    (bytes_cons 0 (t ∷ n ∷ []) (omega arith)
    (bytes_cons t (n ∷ []) low
    (bytes_cons n [] (omega arith) (λ i. omega arith)))))))))
    (bytes_take n (own_lines n) (λ i. let k = own_low n i some few in omega arith))

-- no record at all is no case
ended_none : (at : ℕ) → number_of (ended_of blank_draft at).answer ≡ 0 → ⊥
unfolding ended_of blank_draft pick refused_of
ended_none at h = omega arith

-- What reads as a case of version 1, read with fuel to spare, has a twin that reads as the same of version 2
abbrev Twin : Reading → Type 0
Twin y = number_of y.answer ≡ 0 → y.case.version ≡ own_version
    → (t : List ℕ) × IsBytes t × (number_of (read_of t).answer ≡ 0)
    × ((read_of t).case ≡ with_version y.case line_version)

module _ (s : List ℕ) (b : IsBytes s) (n : ℕ) (spare : length s + longest_record < n) where
  -- behind the program's record h
  module _ (h : Header) (is : as_record s ≡ Declare h) (sound : fault_of blank_draft (Declare h) ≡ 0) where
    abbrev after : Reading
    after = read_from n (add_of blank_draft (as_record s)) (0 + size_of s) (behind s)

    out : header_out h ≡ false
    unfolding fault_of
    out = (refuse_none _ 4 _ (refuse_none _ 3 _ sound).1).0

    behind_twin : Twin after
    behind_twin read one =
        let low = header_low h out in
        let t : ℕ = h.threads in
        let m : ℕ = h.locations in
        let few : m ≤ most_locations = low.3 in
        let r = reads_on n (add_of blank_draft (as_record s)) (0 + size_of s) (behind s)
        (record_is_behind blank_draft (as_record s)) read in
        let v = sym (r.kept ∙ header_version) ∙ one in
        let g = goes_one blank_draft (front t m few) (Declare (header t m few)) (front_begins t m few)
        (twin_passes t m few h v refl refl out) in
        let x : List ℕ = front t m few ++ behind s in
        let o = r.other line_version (0 + length (front t m few)) in
        let e : read_of x ≡ read_from n (versioned (add_of blank_draft (as_record s)) line_version)
        (0 + length (front t m few)) (behind s)
        = fuelled x g.records (room t m few g.records)
        ∙ g.reads n 0 (behind s)
        ∙ ap (λ (d : Draft). read_from n d (0 + length (front t m few)) (behind s))
        (twin_adds t m few h v refl refl
        ∙ ap (λ (y : Record). versioned (add_of blank_draft y) line_version) (sym is)) in (
          x,
          bytes_join (front t m few) (behind s) (front_bytes t m few (omega arith) low.2)
              (bytes_drop (size_of s) s b),
          rw e o.0,
          rw e o.1,
        )
      where
        fuelled : (x : List ℕ) (k : ℕ) → length x < k + n → read_of x ≡ read_from (k + n) blank_draft 0 x
        fuelled x k h = unfold read_of in
            read_fuel_same (k + n) (suc (length x)) blank_draft 0 x h (omega arith)

        room : (t m : ℕ) (few : m ≤ most_locations) (k : ℕ) → length (front t m few ++ behind s) < k + n
        room t m few more =
            let k = length-append (front t m few) (behind s) in
            let l = front_long t m few in
            let d = length-drop (size_of s) s in
            omega arith

        header_version : (add_of blank_draft (as_record s)).case.version ≡ h.version
        header_version = rw is (unfold add_of with_header in refl)

  -- with fuel to spare the reading is the same
  pub twin_file : Twin (read_from (suc n) blank_draft 0 s)
  twin_file =
      read_cases Twin n blank_draft 0 s
      (λ e h v. absurd (ended_none 0 h))
      (λ m some o h v. absurd (unfold refused_of in (omega arith)))
      (λ m some o f h v. absurd (unfold refused_of in (omega arith)))
      (λ some o f h v.
      let d = first_declares (as_record s) f in
      behind_twin d.0 d.1 (rw d.1 at f) h v)

pub twin_reads : (s : List ℕ) → IsBytes s → Twin (read_of s)
unfolding read_of
twin_reads s b =
    rw (read_fuel_same (suc (length s + suc longest_record)) (suc (length s)) blank_draft 0 s (omega arith) (omega arith))
    (twin_file s b (length s + suc longest_record) (omega arith))
