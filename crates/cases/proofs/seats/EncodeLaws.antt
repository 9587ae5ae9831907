-- Laws of a case's file, put seat by seat. Assumes nothing.
--   Encoded c d k at out   the first k seats of c's file are put into d: they end at `at`, and d is then `out`
use Prim.Native.Nat.{ℕ, ◌+◌, ◌<◌, ◌≤◌}
use mathlib.Core.Path.{◌≡◌, refl, sym, ap, ◌∙◌}
use mathlib.Core.List.{List, [], ◌++◌}
use lib.ListN.{length, drop, length-append}
use lib.Seq.{sets, length-sets}
use native.Mathlib.Nat.{add-zero, zero-add}
use native.Mathlib.Omega.{arith}
use Rattle.cases.specs.declared.case.Case.{Case}
use Rattle.cases.specs.declared.record.Record.{Record}
use Rattle.std.specs.declared.option.Option.TheVariants.{Some, None}
use Rattle.cases.specs.Record.{record_bytes}
use Rattle.cases.specs.Seats.{seats, seat_of, seat_bytes, bytes_at, each, encode_of}
use Rattle.cases.proofs.seats.EachLaws.{each_next, each_below}
use Rattle.cases.proofs.ArrayLaws.{sets_append, sets_front}

pub record Encoded (c : Case) (d : List ℕ) (k at : ℕ) (out : List ℕ) : Type 0 where
  pub ends : at ≡ length (each k (bytes_at c))
  pub holds : out ≡ sets d 0 (each k (bytes_at c))

-- nothing is put yet
pub encoded_start : (c : Case) (d : List ℕ) → Encoded c d 0 0 d
unfolding each
encoded_start c d = record { ends = refl; holds = refl }

-- bytes_at: a seat that holds a record; an empty one
bytes_held : (c : Case) (k : ℕ) (r : Record) → seat_of c k ≡ Some r → bytes_at c k ≡ record_bytes r
unfolding bytes_at seat_bytes
bytes_held c k r h = rw h

bytes_none : (c : Case) (k : ℕ) → seat_of c k ≡ None → bytes_at c k ≡ []
unfolding bytes_at seat_bytes
bytes_none c k h = rw h

module _ {c : Case} {d : List ℕ} {k at : ℕ} {out : List ℕ} (put : Encoded c d k at out) where
  -- putting keeps the length
  pub encoded_length : length out ≡ length d
  encoded_length = ap length put.holds ∙ length-sets d 0 (each k (bytes_at c))

  -- the seat's bytes are put, so that they end at `end`, and `after` is what d is then
  encoded_more : {end : ℕ} {after : List ℕ} (bs : List ℕ) → bytes_at c k ≡ bs
      → end ≡ at + length bs
      → after ≡ sets out at bs
      → Encoded c d (k + 1) end after
  encoded_more bs here e f =
      record {
        ends = rw (e, put.ends, each_next, here) (sym (length-append (each k (bytes_at c)) bs));
        holds =
            f ∙ rw (put.holds, each_next, here, put.ends)
            (sym (rw zero-add at (sets_append d 0 (each k (bytes_at c)) bs)));
      }

  -- a seat that holds a record: its bytes fit; they are put
  module _ {r : Record} (here : seat_of c k ≡ Some r) where
    pub encoded_fits : k < seats → length (encode_of c) ≤ length d → at + length (record_bytes r) ≤ length out
    unfolding encode_of
    encoded_fits h fit =
        rw (← bytes_held c k r here)
        (omega (arith, put.ends, encoded_length, each_below (bytes_at c) k seats h))

    pub encoded_next : {end : ℕ} {after : List ℕ} → end ≡ at + length (record_bytes r)
        → after ≡ sets out at (record_bytes r)
        → Encoded c d (k + 1) end after
    encoded_next = encoded_more (record_bytes r) (bytes_held c k r here)

  -- an empty seat
  pub encoded_none : seat_of c k ≡ None → Encoded c d (k + 1) at out
  encoded_none here = encoded_more [] (bytes_none c k here) (sym (add-zero at)) refl

  -- every seat is put
  pub encoded_end : k ≡ seats → length (encode_of c) ≤ length d
      → (at ≡ length (encode_of c)) × (out ≡ encode_of c ++ drop (length (encode_of c)) d)
  unfolding encode_of
  encoded_end h fit =
      (rw h at put.ends, rw h at put.holds ∙ sets_front d (each seats (bytes_at c)) fit)
