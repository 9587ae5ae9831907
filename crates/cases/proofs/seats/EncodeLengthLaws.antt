-- No file is longer than the longest. Assumes nothing.
use Prim.Native.Nat.{ℕ, ◌-◌, ◌≤◌}
use mathlib.Core.Path.{◌≡◌, refl}
use lib.ListN.{length, length-take}
use lib.Dec.{ltb}
use native.Mathlib.Omega.{arith}
use Rattle.cases.specs.declared.case.Case.{Case}
use Rattle.cases.specs.declared.record.Record.{Record}
use Rattle.cases.specs.declared.case.Program.{Program}
use Rattle.cases.specs.declared.case.Ask.{Ask}
use Rattle.cases.specs.declared.case.Run.{Run}
use Rattle.std.specs.declared.option.Option.{Option}
use Rattle.cases.specs.Sizes.{longest_record, longest}
use Rattle.cases.specs.Choice.{pick}
use Rattle.cases.specs.Bytes.{half_bytes, word_bytes}
use Rattle.cases.specs.Lines.{listed_of}
use Rattle.cases.specs.Record.{as_row, line_bytes, payload_bytes, record_bytes}
use Rattle.cases.specs.Seats.{from_firsts, from_code, from_wants, from_passed, from_steps, seats}
use Rattle.cases.specs.Seats.{listed_lines, header_seat, first_seat, instruction_seat}
use Rattle.cases.specs.Seats.{want_seat, passed_seat, step_seat}
use Rattle.cases.specs.Seats.{seat_of, seat_bytes, bytes_at, encode_of}
use Rattle.cases.proofs.record.OpenLaws.{row_long}
use Rattle.cases.proofs.ChoiceLaws.{pick_cases, pick_pair}
use Rattle.cases.proofs.seats.EachLaws.{total, each_length}

-- how many bytes a seat has at most
width : ℕ → ℕ
width k =
    pick (ltb k from_firsts) longest_record
    (pick (ltb k from_code) 9
    (pick (ltb k from_wants) 12
    (pick (ltb k from_passed) 9
    (pick (ltb k from_steps) 6 8))))

-- what stands at a seat has at most n bytes
abbrev Within : Option Record → ℕ → Type 0
Within x n = length (seat_bytes x) ≤ n

-- for each part of the case, how many bytes its seats have at most
first_width : (p : Program) (l : ℕ) → Within (first_seat p l) 9
unfolding first_seat seat_bytes record_bytes payload_bytes half_bytes word_bytes
first_width p l = pick_cases (λ (x : Option Record). Within x 9) _ _ _ (λ e. omega arith) (λ e. omega arith)

instruction_width : (p : Program) (m : ℕ) → Within (instruction_seat p m) 12
unfolding instruction_seat seat_bytes record_bytes payload_bytes half_bytes word_bytes
instruction_width p m = pick_cases (λ (x : Option Record). Within x 12) _ _ _ (λ e. omega arith) (λ e. omega arith)

want_width : (a : Ask) (l : ℕ) → Within (want_seat a l) 9
unfolding want_seat seat_bytes record_bytes payload_bytes half_bytes word_bytes
want_width a l = pick_cases (λ (x : Option Record). Within x 9) _ _ _ (λ e. omega arith) (λ e. omega arith)

passed_width : (a : Ask) (t : ℕ) → Within (passed_seat a t) 6
unfolding passed_seat seat_bytes record_bytes payload_bytes half_bytes
passed_width a t = pick_cases (λ (x : Option Record). Within x 6) _ _ _ (λ e. omega arith) (λ e. omega arith)

step_width : (r : Run) (k : ℕ) → Within (step_seat r k) 8
unfolding step_seat seat_bytes record_bytes payload_bytes half_bytes
step_width r k = pick_cases (λ (x : Option Record). Within x 8) _ _ _ (λ e. omega arith) (λ e. omega arith)

header_width : (c : Case) → Within (header_seat c) longest_record
unfolding header_seat seat_bytes record_bytes payload_bytes half_bytes line_bytes
header_width c =
    omega (
      arith,
      length-take (listed_of c.version c.program.locations) (as_row (listed_lines c)),
      row_long (listed_lines c),
    )

seat_width : (c : Case) (k : ℕ) → length (bytes_at c k) ≤ width k
unfolding bytes_at seat_of width
seat_width c k =
    pick_pair Within (ltb k from_firsts) _ _ _ _ (header_width c)
    (pick_pair Within (ltb k from_code) _ _ _ _ (first_width c.program (k - from_firsts))
    (pick_pair Within (ltb k from_wants) _ _ _ _ (instruction_width c.program (k - from_code))
    (pick_pair Within (ltb k from_passed) _ _ _ _ (want_width c.ask (k - from_wants))
    (pick_pair Within (ltb k from_steps) _ _ _ _ (passed_width c.ask (k - from_passed))
    (step_width c.run (k - from_steps))))))

-- all of them filled
longest_is : total seats width ≡ longest
unfolding total width pick
longest_is = refl

-- no case's file is longer than the longest
pub encode_length : (c : Case) → length (encode_of c) ≤ longest
unfolding encode_of
encode_length c = omega (arith, each_length seats (bytes_at c) width (seat_width c), longest_is)
