-- What to unfold so that a definition of the machine computes, as in `cases`. Assumes nothing.
use Prim.Native.Nat.{ℕ}
use Rattle.cases.proofs.Computing.{reading_computes}
use Rattle.cases.specs.Checks.{lines_of}
use Rattle.machine.specs.View.{part, put, without, slots, words_of, marks_of, line_of, marks_in}
use Rattle.machine.specs.View.{queue_in, with_queue, buffer_in, with_buffer, with_word, with_register}
use Rattle.machine.specs.View.{with_issued}
use Rattle.machine.specs.Look.{word_or, newest_write, stored_or, newest_store, queued_word, load_of}
use Rattle.machine.specs.Look.{marker_among, marker_from, marker_of, marked, bars, first_bar}
use Rattle.machine.specs.Rules.{enqueue, await, barrier_rule, is_barrier, operation_rule, issue_rule, entry_of}
use Rattle.machine.specs.Rules.{loaded, fetched, exchanged, matches, compared, performed, issue_of}
use Rattle.machine.specs.Rules.{effect_rule, effect_of, pass_rule}
use Rattle.machine.specs.Rules.{move_rule, move_of, persist_rule, settled, persist_first, persist_of, rule_in, rule_of}
use Rattle.machine.specs.Rules.{next_of, start_of}
use Rattle.machine.specs.Blocker.{entry_line, blocker_by, blocker_in, blocker_of}
use Rattle.machine.specs.Fit.{sum_to, unissued}
use Rattle.machine.specs.Work.{unissued_weight, waiting_weight, unissued_code, thread_work, work, weigh}
use Rattle.machine.specs.Model.{full_length, allowed, legal_steps}
use Rattle.machine.specs.Judge.{judged, judge_from, judge_run, judge_bytes}
use Rattle.machine.specs.Next.{steps_from, moves_from, candidates}

-- rule_of and next_of
unfoldable pub steps_compute : ℕ
unfolding part put without slots words_of marks_of line_of marks_in queue_in with_queue buffer_in with_buffer with_word
    with_register with_issued word_or newest_write stored_or newest_store queued_word load_of marker_among marker_from
    marker_of marked bars first_bar enqueue await barrier_rule is_barrier operation_rule issue_rule entry_of loaded
    fetched exchanged matches compared performed issue_of effect_rule effect_of pass_rule move_rule move_of
    persist_rule settled persist_first persist_of rule_in rule_of next_of start_of
steps_compute = 0

-- work and full_length
unfoldable pub work_computes : ℕ
unfolding part buffer_in sum_to unissued unissued_weight waiting_weight weigh unissued_code
    thread_work work start_of full_length
work_computes = 0

-- legal_steps
unfoldable pub next_computes : ℕ
unfolding steps_compute lines_of steps_from moves_from candidates allowed legal_steps
next_computes = 0

-- judge_bytes
unfoldable pub judging_computes : ℕ
unfolding reading_computes steps_compute entry_line blocker_by blocker_in blocker_of judged judge_from judge_run judge_bytes
judging_computes = 0
