-- What to unfold so that a definition computes on a case or on bytes that are written out: to unfold one of
-- these names is to unfold all that it names. The number itself says nothing. Assumes nothing.
use Prim.Native.Nat.{ℕ}
use Rattle.cases.specs.Choice.{pick, both, either, refuse}
use Rattle.cases.specs.Bytes.{half, word_at, half_bytes, word_bytes}
use Rattle.cases.specs.Lines.{listed_of, table, own_lines, new_after, unordered, lines_in}
use Rattle.cases.specs.Record.{payload_of, spare_of, mislong, as_row, line_bytes, payload_bytes, record_bytes}
use Rattle.cases.specs.Record.{bytes_of, as_header, as_write, as_instruction, as_step, record_of, open_no, size_of}
use Rattle.cases.specs.Checks.{kind_rank, misplaced, disordered, outside, beyond, left_over, header_out}
use Rattle.cases.specs.Checks.{mislisted, uses_location, uses_register, uses_word, instruction_out, instruction_left}
use Rattle.cases.specs.Checks.{needs_register, sets_register, set_by, set_before, unset, passed_out, lines_of}
use Rattle.cases.specs.Checks.{step_out, step_left, fault_of}
use Rattle.cases.specs.Draft.{empty_case, line_table, line_count, with_sizes, with_header, with_first}
use Rattle.cases.specs.Draft.{with_instruction, with_want, with_passed, with_step, with_program, with_ask}
use Rattle.cases.specs.Draft.{with_run, blank_draft, add_of}
use Rattle.cases.specs.Reading.{refused_of, ended_of, read_from, read_of}
use Rattle.cases.specs.Seats.{listed_lines, header_seat, first_seat, instruction_seat, want_seat, passed_seat}
use Rattle.cases.specs.Seats.{step_seat, seat_of, seat_bytes, bytes_at, each, encode_of}
use Rattle.cases.specs.Writing.{same_list, same_instruction, same_step, same_sizes, same_program, same_ask}
use Rattle.cases.specs.Writing.{same_run, same_case, reads_as, reads_back}

-- read_of, and what it takes to know a record's fault
unfoldable pub reading_computes : ℕ
unfolding pick both either refuse half word_at listed_of table own_lines new_after unordered lines_in payload_of
    spare_of mislong as_row line_bytes as_header as_write as_instruction as_step record_of open_no size_of kind_rank
    misplaced disordered outside beyond left_over header_out mislisted uses_location uses_register uses_word
    instruction_out instruction_left needs_register sets_register set_by set_before unset passed_out lines_of step_out
    step_left fault_of empty_case line_table line_count with_sizes with_header with_first with_instruction with_want
    with_passed with_step with_program with_ask with_run blank_draft add_of refused_of ended_of read_from read_of
reading_computes = 0

-- the bytes of records
unfoldable pub bytes_compute : ℕ
unfolding half_bytes word_bytes line_bytes payload_bytes record_bytes bytes_of
bytes_compute = 0

-- encode_of
unfoldable pub writing_computes : ℕ
unfolding bytes_compute pick listed_of as_row listed_lines header_seat first_seat instruction_seat want_seat passed_seat
    step_seat seat_of seat_bytes bytes_at each encode_of
writing_computes = 0

-- reads_back
unfoldable pub testing_computes : ℕ
unfolding reading_computes writing_computes same_list same_instruction same_step same_sizes same_program same_ask
    same_run same_case reads_as reads_back
testing_computes = 0
