-- Laws of a file in a buffer of the longest length, of reading it again, and of what the writer answers.
-- Assumes nothing.
use Prim.Native.Nat.{ℕ, ◌<◌, ◌≤◌}
use mathlib.Core.Path.{◌≡◌, refl, sym, ap, ◌∙◌}
use mathlib.Core.Logic.{◌≢◌}
use mathlib.Core.List.{List, [], ◌++◌}
use mathlib.Core.Bool.{Bool, true, false}
use lib.ListN.{length, take, drop}
use lib.Seq.{take_at}
use lib.Dec.{ltb}
use borrow.Author.Tests.{lt-ltb, le-ltb, eq-eqb, ne_eqb}
use native.Mathlib.Omega.{arith}
use Rattle.std.specs.declared.result.Result.TheVariants.{Ok, Err}
use Rattle.cases.specs.declared.case.Case.{Case}
use Rattle.cases.specs.declared.reader.Answer.TheVariants.{Whole, Refused}
use Rattle.cases.specs.declared.reader.Reading.{Reading}
use Rattle.cases.specs.declared.writer.Unwritten.{Unwritten}
use Rattle.cases.specs.declared.writer.Unwritten.TheVariants.{Unreadable, Short}
use Rattle.cases.specs.Sizes.{longest}
use Rattle.cases.specs.Choice.{pick, both}
use Rattle.cases.specs.Reading.{number_of, read_of}
use Rattle.cases.specs.Seats.{encode_of}
use Rattle.cases.specs.Writing.{same_case, reads_as, reads_back, wrote_of, written_of}
use Rattle.cases.proofs.ChoiceLaws.{pick_true, false_not}
use Rattle.cases.proofs.seats.EncodeLengthLaws.{encode_length}
use Rattle.cases.proofs.reader.RoundTripLaws.{RoundTripTold, round_trip}

-- reads_as: a refusal, whose number is never 0; a reading
module _ (s : List ℕ) (c : Case) (r : Reading) (is_read : r ≡ read_of s) where
  pub reads_as_refused : (n at : ℕ) → r.answer ≡ Refused n at → false ≡ reads_as s c
  unfolding reads_as both
  reads_as_refused n at e =
      let told : RoundTripTold [] s r = rw is_read (round_trip s) in
      let some : number_of r.answer ≢ 0 = λ z.
      let whole = told.ends z in
      let one : ◌≡◌ {A = ℕ} 0 1 = cc in
      omega arith in
      rw (← is_read, ne_eqb (number_of r.answer) 0 some)

  pub reads_as_whole : (at : ℕ) → r.answer ≡ Whole at
      → (b : Bool) → b ≡ same_case c r.case
      → b ≡ reads_as s c
  unfolding reads_as both
  reads_as_whole at e b same = rw (← is_read, eq-eqb (number_of r.answer) 0 (ap number_of e)) same

-- a case's file at the front of the longest file's bytes: it has room, it is the first n bytes, and they are read back
module _ (c : Case) (bytes : List ℕ) (sized : length bytes ≡ longest) where
  pub write_file_room : length (encode_of c) ≤ length bytes
  write_file_room = omega (arith, encode_length c)

  module _ (n : ℕ) (file : List ℕ) (is_length : n ≡ length (encode_of c))
      (filled : file ≡ encode_of c ++ drop (length (encode_of c)) bytes) where
    pub write_file_front : take n file ≡ encode_of c
    write_file_front = rw filled (take_at (encode_of c) _ n (sym is_length))

    pub write_file_reads : (r : Bool) → r ≡ reads_as (take n file) c → r ≡ reads_back c
    unfolding reads_back
    write_file_reads r e = e ∙ ap (λ (s : List ℕ). reads_as s c) write_file_front

-- The ways out of the writer: 32, 31, and the file
module _ (c : Case) (out : List ℕ) where
  pub write_unreadable : reads_back c ≡ false → (Err Unreadable ≡ wrote_of c out) × (out ≡ written_of c out)
  unfolding wrote_of written_of
  write_unreadable h =
      (sym (pick_true _ _ _ (false_not _ h)), sym (pick_true _ _ _ (false_not _ h)))

  module _ (readable : reads_back c ≡ true) (n : ℕ) (is_length : n ≡ length (encode_of c)) where
    pub write_short : length out < n → (Err Short ≡ wrote_of c out) × (out ≡ written_of c out)
    unfolding wrote_of written_of pick
    write_short h =
        let short = lt-ltb (length out) n h in
        (rw (readable, ← is_length, short), rw (readable, ← is_length, short))

    pub write_whole : n ≤ length out
        → (after : List ℕ) → after ≡ encode_of c ++ drop (length (encode_of c)) out
        → (Ok n ≡ wrote_of c out) × (after ≡ written_of c out)
    unfolding wrote_of written_of pick
    write_whole h after e = (
      rw (readable, ← is_length, le-ltb (length out) n h),
      rw (readable, le-ltb (length out) (length (encode_of c)) (omega arith)) e,
    )

    -- the file is copied
    pub write_copied : n ≤ length out → (front : List ℕ) → front ≡ encode_of c
        → (Ok n ≡ wrote_of c out) × (front ++ drop n out ≡ written_of c out)
    write_copied h front e = write_whole h (front ++ drop n out) (rw (e, is_length))

  -- a readable case whose file is known, into bytes that it fits into
  pub write_stored_as : reads_back c ≡ true → (s : List ℕ) → encode_of c ≡ s → length s ≤ length out
      → (wrote_of c out ≡ Ok (length s)) × (written_of c out ≡ s ++ drop (length s) out)
  write_stored_as readable s file h =
      let w = write_whole readable (length s) (ap length (sym file)) h _ refl in
      (sym w.0, sym w.1 ∙ ap (λ (t : List ℕ). t ++ drop (length t) out) file)

  -- back from the answer: what was stored
  abbrev WasStored : ℕ → Type 0
  WasStored n =
      (reads_back c ≡ true)
      × (n ≡ length (encode_of c))
      × (written_of c out ≡ encode_of c ++ drop (length (encode_of c)) out)

  pub write_stored_is : (n : ℕ) → wrote_of c out ≡ Ok n → WasStored n
  unfolding wrote_of written_of pick
  write_stored_is n h = go (reads_back c) (ltb (length out) (length (encode_of c))) refl refl
    where
      go : (b t : Bool) → reads_back c ≡ b → ltb (length out) (length (encode_of c)) ≡ t → WasStored n
      go false t p q = let e = rw p at h in absurd (let z : ◌≡◌ {A = ℕ} 0 1 = cc in omega arith)
      go true true p q = let e = rw (p, q) at h in absurd (let z : ◌≡◌ {A = ℕ} 0 1 = cc in omega arith)
      go true false p q =
          let e : Ok (length (encode_of c)) ≡ Ok n = rw (p, q) at h in
          (p, cc, rw (p, q))

  -- back from the answer: what a refusal leaves
  pub write_untouched_is : (m : Unwritten) → wrote_of c out ≡ Err m → written_of c out ≡ out
  unfolding wrote_of written_of pick
  write_untouched_is m h = go (reads_back c) (ltb (length out) (length (encode_of c))) refl refl
    where
      go : (b t : Bool) → reads_back c ≡ b → ltb (length out) (length (encode_of c)) ≡ t → written_of c out ≡ out
      go false t p q = rw p
      go true true p q = rw (p, q)
      go true false p q = let e = rw (p, q) at h in absurd (let z : ◌≡◌ {A = ℕ} 0 1 = cc in omega arith)
