-- Laws of `read_from`: one law for all that a turn of reading may come to, which record decides, and what the
-- end of the input does.
--   as_record t   the record that t starts with
--   behind t     what stands behind that record
-- Assumes nothing.
use Prim.Native.Nat.{ℕ, zero, suc, ◌+◌}
use mathlib.Core.Path.{◌≡◌, refl, sym, ap}
use mathlib.Core.Logic.{◌≢◌}
use mathlib.Core.List.{List, []}
use lib.ListN.{length, drop}
use borrow.Author.Tests.{ne_eqb}
use native.Mathlib.Omega.{arith}
use Rattle.cases.specs.declared.draft.Draft.{Draft}
use Rattle.cases.specs.declared.record.Record.{Record}
use Rattle.cases.specs.declared.record.Record.TheVariants.{Declare, First, Instruct, Want, Passed, Take}
use Rattle.cases.specs.declared.reader.Answer.TheVariants.{Whole}
use Rattle.cases.specs.declared.reader.Reading.{Reading}
use Rattle.cases.specs.Choice.{pick}
use Rattle.cases.specs.Bytes.{half}
use Rattle.cases.specs.Record.{record_of, open_no, size_of}
use Rattle.cases.specs.Checks.{fault_of}
use Rattle.cases.specs.Draft.{blank_draft, add_of}
use Rattle.cases.specs.Reading.{refused_of, ended_of, read_from, read_of}

abbrev pub as_record : List ℕ → Record
as_record t = record_of (half t 2) t

abbrev pub behind : List ℕ → List ℕ
behind t = drop (size_of t) t

-- a turn: the input ends, the record doesn't open, it has a fault, or reading goes on behind it
pub read_cases {ℓ} : (P : Reading → Type ℓ) (n : ℕ) (d : Draft) (at : ℕ) (t : List ℕ)
    → (length t ≡ 0 → P (ended_of d at))
    → ((m : ℕ) → length t ≢ 0 → open_no t ≡ suc m → P (refused_of (suc m) at))
    → ((m : ℕ) → length t ≢ 0 → open_no t ≡ 0 → fault_of d (as_record t) ≡ suc m → P (refused_of (suc m) at))
    → (length t ≢ 0 → open_no t ≡ 0 → fault_of d (as_record t) ≡ 0
    → P (read_from n (add_of d (as_record t)) (at + size_of t) (behind t)))
    → P (read_from (suc n) d at t)
unfolding read_from
read_cases P n d at t ended bad fault next = go (length t) (open_no t) (fault_of d (as_record t)) refl refl refl
  where
    by : ℕ → ℕ → ℕ → Reading
    by l o f =
        elim l as (λ _. Reading) [
          | zero ↦ ended_of d at
          | suc k ↦
              elim o as (λ _. Reading) [
                | suc m ↦ refused_of (suc m) at
                | zero ↦
                    elim f as (λ _. Reading) [
                      | suc m ↦ refused_of (suc m) at
                      | zero ↦ read_from n (add_of d (as_record t)) (at + size_of t) (behind t)
                    ]
              ]
        ]

    go : (l o f : ℕ) → length t ≡ l → open_no t ≡ o → fault_of d (as_record t) ≡ f → P (by l o f)
    go zero o f p q r = ended p
    go (suc l) (suc m) f p q r = bad m (λ z. omega arith) q
    go (suc l) zero (suc m) p q r = fault m (λ z. omega arith) q r
    go (suc l) zero zero p q r = next (λ z. omega arith) q r

-- the first faulty record decides; behind a sound one reading goes on
module _ (n : ℕ) (d : Draft) (at : ℕ) (t : List ℕ) (some : length t ≢ 0) where
  pub unopened_decides : open_no t ≢ 0 → read_from (suc n) d at t ≡ refused_of (open_no t) at
  unopened_decides bad =
      read_cases (λ (y : Reading). y ≡ refused_of (open_no t) at) n d at t
      (λ e. absurd (some e))
      (λ m h o. ap (λ k. refused_of k at) (sym o))
      (λ m h o f. absurd (bad o))
      (λ h o f. absurd (bad o))

  module _ (opens : open_no t ≡ 0) where
    pub faulty_decides : fault_of d (as_record t) ≢ 0
        → read_from (suc n) d at t ≡ refused_of (fault_of d (as_record t)) at
    faulty_decides bad =
        read_cases (λ (y : Reading). y ≡ refused_of (fault_of d (as_record t)) at) n d at t
        (λ e. absurd (some e))
        (λ m h o. absurd (let z = opens in omega arith))
        (λ m h o f. ap (λ k. refused_of k at) (sym f))
        (λ h o f. absurd (bad f))

    pub sound_goes_on : fault_of d (as_record t) ≡ 0
        → read_from (suc n) d at t ≡ read_from n (add_of d (as_record t)) (at + size_of t) (behind t)
    sound_goes_on sound =
        read_cases (λ (y : Reading). y ≡ read_from n (add_of d (as_record t)) (at + size_of t) (behind t)) n d at t
        (λ e. absurd (some e))
        (λ m h o. absurd (let z = opens in omega arith))
        (λ m h o f. absurd (let z = sound in omega arith))
        (λ h o f. refl)

-- the input ends: nothing was given; a record came before; and a record that was added is one that came before
pub nothing_given_refused : read_of [] ≡ refused_of 1 0
unfolding read_of read_from ended_of blank_draft pick
nothing_given_refused = refl

pub end_behind_a_record_succeeds : (n : ℕ) (d : Draft) (at : ℕ) → d.kind ≢ 0
    → read_from (suc n) d at [] ≡ record { answer = Whole at; case = d.case }
unfolding read_from ended_of pick
end_behind_a_record_succeeds n d at came = rw (ne_eqb d.kind 0 came)

pub record_is_behind : (d : Draft) (r : Record) → (add_of d r).kind ≢ 0
unfolding add_of
record_is_behind d (Declare h) e = omega arith
record_is_behind d (First w) e = omega arith
record_is_behind d (Instruct t x) e = omega arith
record_is_behind d (Want w) e = omega arith
record_is_behind d (Passed t n) e = omega arith
record_is_behind d (Take k) e = omega arith
