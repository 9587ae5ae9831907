-- Laws of `unread_of` and `unread_at`: where a reading stops is within the input, and what stands from there on is the
-- unread part. Assumes nothing.
use Prim.Native.Nat.{ℕ, ◌+◌, ◌-◌, ◌≤◌}
use mathlib.Core.Path.{◌≡◌, ap, ◌∙◌}
use mathlib.Core.List.{List}
use lib.ListN.{length, take, drop, length-drop}
use lib.Seq.{take_all}
use native.Mathlib.Omega.{arith}
use Rattle.cases.specs.declared.reader.Reading.{Reading}
use Rattle.cases.specs.Reading.{offset_of, read_of, unread_of, unread_at}
use Rattle.cases.proofs.reader.RoundTripLaws.{round_trip}

-- the offset of a reading of s is within s, and what stands from there on is the unread part
module _ (s : List ℕ) (r : Reading) (at : ℕ) (is_read : r ≡ read_of s) (is_at : at ≡ offset_of r.answer) where
  pub unread_within : at ≤ length s
  unread_within =
      omega (arith, is_at ∙ ap (λ (x : Reading). offset_of x.answer) is_read, (round_trip s).within)

  pub unread_is : take (length s - at) (drop at s) ≡ unread_of s
  unfolding unread_of
  unread_is =
      take_all (length s - at) (drop at s) (omega (arith, length-drop at s))
      ∙ ap (λ (n : ℕ). drop n s) (is_at ∙ ap (λ (x : Reading). offset_of x.answer) is_read)

  pub unread_there : (place : ℕ × ℕ) → (place.0, at + place.1) ≡ unread_at place s
  unread_there place =
      ap (λ (n : ℕ). (place.0, n + place.1)) (is_at ∙ ap (λ (x : Reading). offset_of x.answer) is_read)
