-- A run of some steps: with a step more, and at the end of a case's file. Assumes nothing.
use Prim.Native.Nat.{suc, ◌+◌, ◌-◌, ◌*◌, ◌<◌, ◌≤◌}
use mathlib.Core.Path.{◌≡◌, refl, sym, ap, ◌∙◌}
use mathlib.Core.List.{List, [], ◌∷◌, ◌++◌, append_assoc, append-nil}
use lib.ListN.{length, take, length-append, length-replicate}
use lib.Seq.{append_snoc, set-append_seam, take-append_seam}
use lib.Dec.{leb}
use borrow.Author.Tests.{le-leb}
use native.Mathlib.Omega.{arith}
use Rattle.cases.specs.declared.case.Step.{Step}
use Rattle.cases.specs.declared.case.Run.{Run}
use Rattle.cases.specs.declared.case.Case.{Case}
use Rattle.cases.specs.declared.record.Record.{Record}
use Rattle.cases.specs.declared.record.Record.TheVariants.{Take}
use Rattle.std.specs.declared.option.Option.{Option}
use Rattle.cases.specs.Sizes.{most_steps, step_size}
use Rattle.cases.specs.Bytes.{half_bytes}
use Rattle.cases.specs.Record.{payload_bytes, record_bytes, bytes_of}
use Rattle.cases.specs.Draft.{run_with, with_run, with_step}
use Rattle.cases.specs.Seats.{from_steps, seats, listed_lines, header_seat, step_seat, seat_bytes, bytes_at}
use Rattle.cases.specs.Seats.{encode_of, steps_bytes}
use Rattle.cases.proofs.ChoiceLaws.{pick_true}
use Rattle.cases.proofs.seats.EachLaws.{each_more}
use Rattle.cases.proofs.seats.SeatLaws.{seat_step, seat_same}
use Rattle.cases.proofs.draft.WithLaws.{step_same, step_other}

-- how long the steps' bytes are
pub steps_length : (ks : List Step) → length (steps_bytes ks) ≡ step_size * length ks
unfolding steps_bytes bytes_of record_bytes payload_bytes half_bytes
steps_length [] = refl
steps_length (k ∷ ks) = omega (arith, length-append (record_bytes (Take k)) (steps_bytes ks), steps_length ks)

-- a run with its steps: as long as the array; with a step more
run_long : (js : List Step) → length js ≤ most_steps → length (run_with js).steps ≡ most_steps
unfolding run_with
run_long js h = simp (length-append, length-replicate) (omega arith)

pub steps_run_more : (js : List Step) (k : Step) → length js < most_steps
    → with_step (run_with js) k ≡ run_with (js ++ (k ∷ []))
unfolding run_with with_step
steps_run_more js k h =
    let n : length (js ++ (k ∷ [])) ≡ length js + 1 = length-append js (k ∷ []) in
    let left : most_steps - length js ≡ suc (most_steps - (length js + 1)) = omega arith in
    rw (n, left, set-append_seam, append_snoc)

-- a step more behind a run: its bytes are added at the end of the file
step_longer : (c : Case) (r : Run) (k : Step) → r.count < most_steps → length r.steps ≡ most_steps
    → encode_of (with_run c (with_step r k)) ≡ encode_of (with_run c r) ++ record_bytes (Take k)
unfolding encode_of bytes_at seat_bytes with_run header_seat listed_lines step_seat
step_longer c r k h long =
    let more : Case = with_run c (with_step r k) in
    let less : Case = with_run c r in
    each_more seats (from_steps + r.count) (bytes_at more) (bytes_at less) (omega arith)
    (λ j n. ap seat_bytes
    (seat_same more less j (λ z. refl) (λ l z. refl) (λ m z. refl) (λ l z. refl) (λ t z. refl)
    (λ i z. step_other r k i (λ q. n (omega arith)))))
    (λ j n. ap seat_bytes (seat_step less j (j - from_steps) (omega arith)
    ∙ pick_true (leb r.count (j - from_steps)) _ _ (le-leb r.count (j - from_steps) (omega arith))))
    ∙ ap (λ (x : Option Record). encode_of less ++ seat_bytes x)
    (seat_step more (from_steps + r.count) r.count refl ∙ step_same r k (omega arith))

-- the steps ks behind the steps js
pub steps_file_more : (c : Case) (ks js : List Step) → length js + length ks ≤ most_steps
    → encode_of (with_run c (run_with (js ++ ks))) ≡ encode_of (with_run c (run_with js)) ++ steps_bytes ks
unfolding steps_bytes bytes_of run_with
steps_file_more c [] js h = rw (append-nil js) (sym (append-nil (encode_of (with_run c (run_with js)))))
steps_file_more c (k ∷ ks) js h =
    let longer = step_longer c (run_with js) k (omega arith) (run_long js (omega arith)) in
    ap (λ (l : List Step). encode_of (with_run c (run_with l))) (sym (append_snoc js k ks))
    ∙ steps_file_more c ks (js ++ (k ∷ [])) (omega (arith, length-append js (k ∷ [])))
    ∙ rw (← steps_run_more js k (omega arith), longer)
    (append_assoc (encode_of (with_run c (run_with js))) (record_bytes (Take k)) (steps_bytes ks))

-- a run that is some steps is its steps
pub steps_run_own : (r : Run) (js : List Step) → r ≡ run_with js → r ≡ run_with (take r.count r.steps)
unfolding run_with
steps_run_own r js e =
    e ∙ ap run_with (sym (ap (λ (x : Run). take x.count x.steps) e ∙ take-append_seam js _))
