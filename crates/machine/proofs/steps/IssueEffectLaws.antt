-- What a legal issue does to each part of the state, as lists: AddsLaws has what an instruction adds; here is
-- what counting it changes besides. Assumes nothing.
use Prim.Native.Nat.{ℕ, suc, ◌+◌, ◌≤◌, ◌<◌}
use mathlib.Core.Path.{◌≡◌, ◌∙◌}
use mathlib.Core.Logic.{◌≢◌}
use mathlib.Core.Bool.{true}
use mathlib.Core.List.{[], ◌++◌}
use native.Mathlib.Omega.{arith}
use native.Mathlib.Numerals.{add-one}
use borrow.Author.Tests.{ltb-false}
use Rattle.cases.specs.declared.case.Instruction.{Instruction}
use Rattle.cases.specs.declared.case.Program.{Program}
use Rattle.cases.specs.Choice.{pick}
use Rattle.cases.specs.Sizes.{most_threads, most_locations}
use Rattle.cases.proofs.ChoiceLaws.{refuse_none}
use Rattle.cases.proofs.Promises.{thread_low}
use Rattle.cases.specs.Checks.{count_at, instruction_at}
use Rattle.machine.specs.declared.cells.State.{State}
use Rattle.machine.specs.View.{queue, buffer_in, buffer, buffer_len, word_of, issued_of, with_issued}
use Rattle.machine.specs.Rules.{is_barrier, barrier_rule, operation_rule, issue_rule, issue_of}
use Rattle.machine.specs.Rules.{matches, rule_in, rule_of, next_of}
use Rattle.machine.specs.Look.{queued_word}
use Rattle.machine.specs.Joins.{joins, swaps, exchanges}
use Rattle.machine.specs.Next.{issue_step}
use Rattle.machine.specs.Fit.{Fits}
use Rattle.machine.proofs.lists.PartLaws.{part_none}
use Rattle.machine.proofs.view.IssuedLaws.{issued_same, issued_other}
use Rattle.machine.proofs.fit.SpareLaws.{counted_spare}
use Rattle.machine.proofs.steps.IssueLaws as IssueLaws
use Rattle.machine.proofs.steps.AddsLaws.{Adds, performed_adds}

-- Issue: the instruction is counted, and adds what it adds
module _ (p : Program) (s : State) (f : Fits p s) (t : ℕ) (low : t < p.threads)
    (legal : rule_of p s (issue_step t) ≡ 0) where
  abbrev next : Instruction
  next = instruction_at p t (issued_of s t)

  in_range : t < most_threads
  in_range = thread_low f.program low

  pub issue_left : issued_of s t < count_at p t
  unfolding rule_of rule_in pick
  issue_left = IssueLaws.issue_left p s f t legal

  issue_adds : Adds (with_issued s t (issued_of s t + 1)) (next_of p s (issue_step t)) t
      (joins s.registers t next)
      (λ q. exchanges p s t q next)
  unfolding next_of pick issue_of with_issued exchanges swaps matches queued_word
  issue_adds =
      let x = (f.program.instructions t (issued_of s t) issue_left).1 in
      performed_adds p _ t (counted_spare p s f t low issue_left) low next.location next.register
      next.word x.low_location next.operation x.some_operation x.low_operation

  pub issue_issued : issued_of (next_of p s (issue_step t)) t ≡ suc (issued_of s t)
  issue_issued = issue_adds.counts t ∙ issued_same s f.sized t _ in_range ∙ add-one _

  pub issue_issued_other : (k : ℕ) → k ≢ t → issued_of (next_of p s (issue_step t)) k ≡ issued_of s k
  issue_issued_other k h = issue_adds.counts k ∙ issued_other s f.sized t _ k h

  pub issue_buffer : buffer (next_of p s (issue_step t)) t ≡ buffer s t ++ joins s.registers t next
  unfolding with_issued
  issue_buffer = issue_adds.own

  pub issue_buffer_other : (k : ℕ) → k < most_threads → k ≢ t
      → buffer (next_of p s (issue_step t)) k ≡ buffer s k
  unfolding with_issued
  issue_buffer_other = issue_adds.others

  pub issue_queue : (q : ℕ) → q < most_locations
      → queue (next_of p s (issue_step t)) q ≡ queue s q ++ exchanges p s t q next
  unfolding with_issued
  issue_queue = issue_adds.queues

  pub issue_word : (l : ℕ) → word_of (next_of p s (issue_step t)) l ≡ word_of s l
  unfolding with_issued
  issue_word = issue_adds.words

  -- rule 22: exchange, compare and mfence are issued with nothing in the own buffer
  pub barrier_alone : is_barrier next.operation ≡ true → buffer s t ≡ []
  unfolding rule_of rule_in pick issue_rule operation_rule barrier_rule buffer_in
  barrier_alone e =
      let rest = rw e at (refuse_none _ 20 _ legal).1 in
      let n : buffer_len s t ≤ 0 = ltb-false _ _ (refuse_none _ 21 _ rest).0 in
      part_none _ _ _ (omega arith)
