-- Demand 1's words: each check of a record by its number, for every kind of record; false where a kind has no
-- such check. "Within a record the checks go in the order 1 (head), 2, 3, 1 (payload), 4, 5, 8, 6, 7, 9"; document
-- 02, P3, of kind 1: behind 5 "3 again for a length not that version's and count's, and 8 for line numbers out of
-- order"; P8, of kind 3: 10, "checked after 7".
--   out_of d r            5: something out of range
--   mislisted_of r        3: not as many line bytes as that version and count have
--   left_of r             8: a field not used that is not 0, a 0 that says nothing, or a line number out of order
--   unordered_of d r      6: rising or not-falling order broken
--   crowded_of d r        7: an instruction more than a thread may have
--   unset_of d r          10: a store of a register, or a compare, whose register no earlier instruction sets
--   overlong_of d r       9: a step record more than a run may have
-- Assumes nothing.
use Rattle.std.specs.Prelude.{Bool, false, eqb, leb}
use Rattle.cases.specs.declared.draft.Draft.{Draft}
use Rattle.cases.specs.declared.record.Record.{Record}
use Rattle.cases.specs.declared.record.Record.TheVariants.{Declare, First, Instruct, Want, Passed, Take}
use Rattle.cases.specs.Sizes.{most_instructions, most_steps}
use Rattle.cases.specs.Lines.{unordered}
use Rattle.cases.specs.Record.{line_bytes}
use Rattle.cases.specs.Checks.{disordered, header_out, mislisted, instruction_out, instruction_left, passed_out}
use Rattle.cases.specs.Checks.{unset, limits_of, step_out, step_left, count_at}

unfoldable pub out_of : Draft → Record → Bool
out_of d (Declare h) = header_out h
out_of d (First w) = leb d.case.program.locations w.location.0
out_of d (Instruct t x) = instruction_out d.case.program t x
out_of d (Want w) = leb d.case.program.locations w.location.0
out_of d (Passed t n) = passed_out d.case.program t n
out_of d (Take k) = step_out (limits_of d.case.program) k

unfoldable pub mislisted_of : Record → Bool
mislisted_of (Declare h) = mislisted h
mislisted_of (First w) = false
mislisted_of (Instruct t x) = false
mislisted_of (Want w) = false
mislisted_of (Passed t n) = false
mislisted_of (Take k) = false

unfoldable pub left_of : Record → Bool
left_of (Declare h) = unordered 0 (line_bytes h)
left_of (First w) = eqb w.word 0
left_of (Instruct t x) = instruction_left x
left_of (Want w) = false
left_of (Passed t n) = eqb n 0
left_of (Take k) = step_left k

unfoldable pub unordered_of : Draft → Record → Bool
unordered_of d (Declare h) = false
unordered_of d (First w) = disordered d 2 w.location.0
unordered_of d (Instruct t x) = disordered d 3 t.0
unordered_of d (Want w) = disordered d 4 w.location.0
unordered_of d (Passed t n) = disordered d 5 t.0
unordered_of d (Take k) = false

unfoldable pub crowded_of : Draft → Record → Bool
crowded_of d (Declare h) = false
crowded_of d (First w) = false
crowded_of d (Instruct t x) = leb most_instructions (count_at d.case.program t.0)
crowded_of d (Want w) = false
crowded_of d (Passed t n) = false
crowded_of d (Take k) = false

unfoldable pub unset_of : Draft → Record → Bool
unset_of d (Declare h) = false
unset_of d (First w) = false
unset_of d (Instruct t x) = unset d.case.program t x
unset_of d (Want w) = false
unset_of d (Passed t n) = false
unset_of d (Take k) = false

unfoldable pub overlong_of : Draft → Record → Bool
overlong_of d (Declare h) = false
overlong_of d (First w) = false
overlong_of d (Instruct t x) = false
overlong_of d (Want w) = false
overlong_of d (Passed t n) = false
overlong_of d (Take k) = leb most_steps d.case.run.count
