-- Laws of the run's records in the lent bytes: a step's record goes before those that stand behind it already.
-- Assumes nothing.
use Prim.Native.Nat.{ℕ, suc, ◌+◌, ◌*◌, ◌≤◌}
use mathlib.Core.Path.{◌≡◌, refl, sym, ap, ◌∙◌}
use mathlib.Core.List.{List, [], ◌∷◌}
use lib.ListN.{length, set}
use lib.Seq.{sets, length-sets}
use borrow.Rule.Slice.PartMut.{put_mid}
use native.Mathlib.Omega.{arith}
use Rattle.cases.specs.declared.case.Step.{Step}
use Rattle.cases.specs.declared.record.Record.TheVariants.{Take}
use Rattle.cases.specs.Bytes.{half_bytes}
use Rattle.cases.specs.Choice.{pick}
use Rattle.cases.specs.Record.{payload_of, payload_bytes, record_bytes, bytes_of}
use Rattle.cases.specs.Seats.{steps_bytes}
use Rattle.cases.proofs.ArrayLaws.{sets_append}
use Rattle.cases.specs.Sizes.{step_size}
use Rattle.search.proofs.table.CopyLaws.{written_over}
use Rattle.search.proofs.taken.InPlaceLaws.{set_sets}
use Rattle.search.specs.Seek.{Sought, hit, done, used_up, stored_of}

-- bytes before bytes that were put
sets_before : (d : List ℕ) (at n : ℕ) (a b : List ℕ) → at + length a ≤ n
    → sets (sets d n b) at a ≡ sets (sets d at a) n b
sets_before d at n [] b h = refl
sets_before d at n (x ∷ a) b h =
    ap (λ e. sets e (suc at) a) (set_sets d n b at x (omega arith))
    ∙ sets_before (set d at x) (suc at) n a b (omega arith)

pub record_length : (k : Step) → length (record_bytes (Take k)) ≡ 8
unfolding record_bytes payload_bytes half_bytes
record_length k = refl

-- eight bytes, one behind the other; a step's record put so, or written over
pub put_eight : (d : List ℕ) (at x y z w k l m n : ℕ)
    → set (set (set (set (set (set (set (set d at x) (at + 1) y) (at + 2) z) (at + 3) w) (at + 4) k) (at + 5) l)
    (at + 6) m) (at + 7) n
    ≡ sets d at (x ∷ y ∷ z ∷ w ∷ k ∷ l ∷ m ∷ n ∷ [])
put_eight d at x y z w k l m n =
    let a : at + 1 ≡ suc at = omega arith in
    let b : at + 2 ≡ suc (suc at) = omega arith in
    let c : at + 3 ≡ suc (suc (suc at)) = omega arith in
    let e : at + 4 ≡ suc (suc (suc (suc at))) = omega arith in
    let f : at + 5 ≡ suc (suc (suc (suc (suc at)))) = omega arith in
    let g : at + 6 ≡ suc (suc (suc (suc (suc (suc at))))) = omega arith in
    let h : at + 7 ≡ suc (suc (suc (suc (suc (suc (suc at)))))) = omega arith in
    rw (a, b, c, e, f, g, h)

pub put_record : (d : List ℕ) (at : ℕ) (k : Step)
    → set (set (set (set (set (set (set (set d at 4) (at + 1) 0) (at + 2) 6) (at + 3) 0)
    (at + 4) k.thread.0) (at + 5) k.code) (at + 6) k.position) (at + 7) k.location.0
    ≡ sets d at (record_bytes (Take k))
unfolding record_bytes payload_of payload_bytes half_bytes pick
put_record d at k = put_eight d at 4 0 6 0 k.thread.0 k.code k.position k.location.0

pub record_over : (d : List ℕ) (at many : ℕ) (k : Step) → at + step_size ≤ length d → many ≡ step_size
    → put_mid at many d (4 ∷ 0 ∷ 6 ∷ 0 ∷ k.thread.0 ∷ k.code ∷ k.position ∷ k.location.0 ∷ [])
    ≡ sets d at (record_bytes (Take k))
unfolding record_bytes payload_of payload_bytes half_bytes pick
record_over d at many k h e =
    written_over d (4 ∷ 0 ∷ 6 ∷ 0 ∷ k.thread.0 ∷ k.code ∷ k.position ∷ k.location.0 ∷ []) at many h e

-- the record of a step before the records of the steps behind it
pub step_before : (d : List ℕ) (depth : ℕ) (k : Step) (ks : List Step)
    → sets (sets d (step_size * (depth + 1)) (steps_bytes ks)) (step_size * depth) (record_bytes (Take k))
    ≡ sets d (step_size * depth) (steps_bytes (k ∷ ks))
unfolding steps_bytes bytes_of
step_before d depth k ks =
    let e = record_length k in
    let behind : step_size * (depth + 1) ≡ step_size * depth + length (record_bytes (Take k)) = omega arith in
    sets_before d (step_size * depth) (step_size * (depth + 1)) (record_bytes (Take k)) (steps_bytes ks)
    (omega arith)
    ∙ rw behind (sym (sets_append d (step_size * depth) (record_bytes (Take k)) (steps_bytes ks)))

-- storing keeps the length
pub length_stored : (depth : ℕ) (x : Sought Step) (out : List ℕ) → length (stored_of depth x out) ≡ length out
unfolding stored_of
length_stored depth (hit run) out = length-sets out (step_size * depth) (steps_bytes run)
length_stored depth (done b) out = refl
length_stored depth used_up out = refl
