-- Demand 3, sentence by sentence: "No program of ours can wedge the machine." A program of ours is that of a
-- case that can be read (one that some bytes read as: `readable_exactly`, DemandOne); a run is legal where the
-- judge passes it. Where operation 9, compare and swap, occurs, document 02's request P5 restates the demand; its
-- sentences hold of every program, the user's of every program without that operation. Assumes nothing.
use Prim.Native.Nat.{ℕ, ◌+◌, ◌≤◌, ◌<◌}
use mathlib.Core.Path.{◌≡◌, sym, ◌∙◌}
use native.Mathlib.Omega.{arith}
use mathlib.Core.Logic.{◌⊎◌, ◌≢◌, ◌↔◌}
use mathlib.Core.Bool.{true}
use mathlib.Core.List.{List, ◌++◌}
use lib.ListN.{length, get_or}
use Rattle.cases.specs.declared.case.Step.{Step}
use Rattle.cases.specs.declared.case.Program.{Program}
use Rattle.cases.specs.declared.case.Case.{Case}
use Rattle.cases.specs.Sizes.{most_threads}
use Rattle.cases.specs.Checks.{limits_of, step_fault, count_at, instruction_at}
use Rattle.cases.specs.Draft.{run_with, with_run}
use Rattle.cases.specs.Writing.{reads_back}
use Rattle.cases.specs.Operations.{store_register, compare}
use Rattle.cases.specs.Choice.{pick}
use Rattle.machine.specs.declared.cells.State.{State}
use Rattle.machine.specs.declared.runs.Verdict.TheVariants.{Legal}
use Rattle.machine.specs.View.{word_of}
use Rattle.machine.specs.Rules.{rule_of, next_of, start_of}
use Rattle.machine.specs.Fit.{sum_to, Fits}
use Rattle.machine.specs.Work.{work, Unfinished, program_weight, Uncompared, fails_at, cost_if, cost, failures_of}
use Rattle.machine.specs.Model.{full_length, spent, LegalRun, CannotGoOn, FinishedRun}
use Rattle.machine.specs.Judge.{judged, judge_of}
use Rattle.machine.specs.Ptso.{ptso}
use Rattle.machine.proofs.Promises.{program_fits, start_fits, full_length_weighs, progress, case_lawful, step_work}
use Rattle.machine.proofs.Promises.{cost_one, spent_failures, failures_none}
use Rattle.demands.specs.Writes.{writes_at, fixed_of, made_of, Writer, LastWrite, LastMade, Unwritten, NoneMade}
use Rattle.demands.specs.Writes.{Alone}
use Rattle.demands.specs.Carried.{last_run}
use Rattle.demands.proofs.ends.EndLaws as EndLaws
use Rattle.demands.proofs.answers.JudgedLaws as JudgedLaws
use Rattle.demands.proofs.ends.MemoryLaws as MemoryLaws
use Rattle.demands.proofs.turns.AnyThreadLaws as AnyThreadLaws

-- "So all runs that cannot go on have one length, known from the program alone." The full length is what the
-- program's instructions weigh.
pub known_from_the_program : (p : Program) → full_length (ptso p) ≡ sum_to most_threads (program_weight p)
known_from_the_program = full_length_weighs

-- A case that can be read
module _ (c : Case) (readable : reads_back c ≡ true) where
  fit : (ks : List Step) (u : State) → LegalRun (ptso c.program) ks u → Fits c.program u
  fit = EndLaws.run_fits (ptso c.program) (case_lawful c readable)

  working : (s : State) → Fits c.program s → 0 < work c.program s
      → (k : Step) × (step_fault (limits_of c.program) k ≡ 0) × (rule_of c.program s k ≡ 0)
  working = EndLaws.working c.program

  spent_is : (ks : List Step)
      → spent (ptso c.program) (start_of c.program) ks ≡ length ks + failures_of c.program ks
  unfolding failures_of
  spent_is = spent_failures c.program (start_of c.program)

  none_fail : Uncompared c.program → (ks : List Step) (u : State) → LegalRun (ptso c.program) ks u
      → failures_of c.program ks ≡ 0
  unfolding failures_of
  none_fail plain ks u run =
      failures_none c.program (start_of c.program) (start_fits c.program (program_fits c readable)) ks u plain
      run.faultless run.leads

  -- A legal run is one that the judge passes, put into the case as its steps, and no other.
  pub legal_as_judged : (ks : List Step) (u : State)
      → LegalRun (ptso c.program) ks u
      ↔ (judge_of (with_run c (run_with ks)) ≡ judged (Legal (length ks)) u)
  legal_as_judged = JudgedLaws.legal_as_judged c readable

  -- After a legal run
  module _ (ks : List Step) (u : State) (run : LegalRun (ptso c.program) ks u) where
    -- "After any legal run, while an instruction is unissued or an entry waits, some step is legal."
    pub never_wedged :
        Unfinished c.program u
        → (k : Step) × (step_fault (limits_of c.program) k ≡ 0) × (rule_of c.program u k ≡ 0)
    never_wedged = progress c.program u (fit ks u run)

    -- Document 02, P5: "every step lowers the work left by one, but a failed compare by two,"
    pub each_step_its_cost : (k : Step)
        → step_fault (limits_of c.program) k ≡ 0
        → rule_of c.program u k ≡ 0
        → work c.program (next_of c.program u k) + pick (fails_at c.program u k) 2 1 ≡ work c.program u
    unfolding cost cost_if
    each_step_its_cost = step_work c.program u (fit ks u run)

    -- "so a run that cannot go on has the full length less the number of its failures."
    pub finished_length :
        CannotGoOn (ptso c.program) u
        → length ks + failures_of c.program ks ≡ full_length (ptso c.program)
    finished_length stuck =
        sym (spent_is ks)
        ∙ EndLaws.finished_spends (ptso c.program) (case_lawful c readable) working ks u run stuck

    -- Where it cannot go on, every instruction is issued and no entry waits.
    pub nothing_left : CannotGoOn (ptso c.program) u → Unfinished c.program u → ⊥
    nothing_left = EndLaws.stuck_not c.program u (fit ks u run)

    -- And where a run has that length, it cannot go on; no run is longer than the full length; every run can be made
    -- one that cannot go on.
    pub finished_length_ends :
        length ks + failures_of c.program ks ≡ full_length (ptso c.program)
        → CannotGoOn (ptso c.program) u
    finished_length_ends e =
        EndLaws.spent_ends (ptso c.program) (case_lawful c readable) ks u run (spent_is ks ∙ e)

    pub none_longer : length ks ≤ full_length (ptso c.program)
    none_longer = EndLaws.none_longer (ptso c.program) (case_lawful c readable) ks u run

    pub every_run_finishes : (ms : List Step) × (v : State) × FinishedRun (ptso c.program) (ks ++ ms) v
    every_run_finishes = EndLaws.run_ends (ptso c.program) (case_lawful c readable) working ks u run

  -- "Where operation 9 occurs, its end_of_run sentence says only: each location holds the last write that some thread
  -- really made there, or its first content if none made one." It holds where operation 9 does not occur, too. The
  -- word is the one that the instruction fixed as this run issued it.
  pub end_of_run_really_made : (ks : List Step) (u : State)
      → FinishedRun (ptso c.program) ks u
      → (l : ℕ) → l < c.program.locations
      → ((t : ℕ) × (i : ℕ) × LastMade c.program ks t l i × (word_of u l ≡ fixed_of c.program ks t i))
      ⊎ (NoneMade c.program ks l × (word_of u l ≡ get_or c.program.first l 0))
  end_of_run_really_made = MemoryLaws.memory_made c.program (program_fits c readable)

  -- Of a store of a word, an exchange or a compare that is the word that stands in the program.
  pub word_of_the_program : (ks : List Step) (u : State)
      → FinishedRun (ptso c.program) ks u
      → (t i : ℕ) → i < count_at c.program t
      → (instruction_at c.program t i).operation ≢ store_register
      → fixed_of c.program ks t i ≡ (instruction_at c.program t i).word
  word_of_the_program = MemoryLaws.memory_own_word c.program (program_fits c readable)

  -- A location that one thread alone writes, its last write there being a store of a word or an exchange: every
  -- run that cannot go on leaves that word, known from the program.
  pub one_sure_writer : (t l i : ℕ)
      → LastWrite c.program t l i
      → Alone c.program t l
      → (instruction_at c.program t i).operation ≢ store_register
      → (instruction_at c.program t i).operation ≢ compare
      → (ks : List Step) (u : State)
      → FinishedRun (ptso c.program) ks u
      → word_of u l ≡ (instruction_at c.program t i).word
  one_sure_writer = MemoryLaws.memory_alone c.program (program_fits c readable)

  -- A location that no thread writes keeps its first content after every legal run.
  pub no_writer : (l : ℕ) → l < c.program.locations
      → Unwritten c.program l
      → (ks : List Step) (u : State)
      → LegalRun (ptso c.program) ks u
      → word_of u l ≡ get_or c.program.first l 0
  no_writer = MemoryLaws.memory_unwritten c.program (program_fits c readable)

  -- Where operation 9 does not occur
  module _ (plain : Uncompared c.program) where
    -- every step costs one, none of a legal run is a failed compare, and at the end of a run every write of the
    -- program is really made, and no other: so the sentences above say those below
    pub no_compare_as_before : (ks : List Step) (u : State)
        → LegalRun (ptso c.program) ks u
        → ((k : Step) → step_fault (limits_of c.program) k ≡ 0 → rule_of c.program u k ≡ 0
        → cost c.program u k ≡ 1)
        × (failures_of c.program ks ≡ 0)
        × (CannotGoOn (ptso c.program) u
        → (t l i : ℕ) → i < count_at c.program t
        → made_of c.program ks t l i ≡ writes_at c.program t l i)
    no_compare_as_before ks u run = (
      (λ k faultless legal. cost_one c.program u (fit ks u run) k faultless legal plain),
      none_fail plain ks u run,
      (λ over. MemoryLaws.plain_made c.program (program_fits c readable) plain ks u
          (record { legal = run; over = over })),
    )

    module _ (ks : List Step) (u : State) (run : LegalRun (ptso c.program) ks u) where
      -- "Every legal step lowers the work left, as your rules weigh it, by exactly one."
      pub each_step_one : (k : Step)
          → step_fault (limits_of c.program) k ≡ 0
          → rule_of c.program u k ≡ 0
          → work c.program (next_of c.program u k) + 1 ≡ work c.program u
      each_step_one k faultless legal =
          rw (cost_one c.program u (fit ks u run) k faultless legal plain) at
          (step_work c.program u (fit ks u run) k faultless legal)

      -- "So all runs that cannot go on have one length, known from the program alone."
      pub one_length : CannotGoOn (ptso c.program) u → length ks ≡ full_length (ptso c.program)
      one_length stuck =
          let none = none_fail plain ks u run in
          let all = finished_length ks u run stuck in
          omega arith

      -- And where a run has that length, it cannot go on; every run can be made that long.
      pub full_length_ends : length ks ≡ full_length (ptso c.program) → CannotGoOn (ptso c.program) u
      full_length_ends e = let none = none_fail plain ks u run in finished_length_ends ks u run (omega arith)

    pub every_run_ends : (ks : List Step) (u : State)
        → LegalRun (ptso c.program) ks u
        → (ms : List Step) × (v : State)
        × FinishedRun (ptso c.program) (ks ++ ms) v
        × (length (ks ++ ms) ≡ full_length (ptso c.program))
    every_run_ends ks u run =
        let r = every_run_finishes ks u run in
        (r.0, r.1, r.2, one_length (ks ++ r.0) r.1 r.2.legal r.2.over)

    -- "At their end each location holds the last write, in program order, of one of the threads that write it, or
    -- its first content if none does;"
    pub end_of_run : (ks : List Step) (u : State)
        → FinishedRun (ptso c.program) ks u
        → (l : ℕ) → l < c.program.locations
        → ((t : ℕ) × (i : ℕ) × LastWrite c.program t l i × (word_of u l ≡ fixed_of c.program ks t i))
        ⊎ (Unwritten c.program l × (word_of u l ≡ get_or c.program.first l 0))
    end_of_run = MemoryLaws.memory_at_end c.program (program_fits c readable) plain

    -- "taking one location alone, any of those threads can be the one." In the run that `last_run` writes out.
    pub any_thread : (t l : ℕ)
        → Writer c.program t l
        → (i : ℕ) × (u : State)
        × LastWrite c.program t l i
        × FinishedRun (ptso c.program) (last_run c.program t) u
        × (word_of u l ≡ fixed_of c.program (last_run c.program t) t i)
    any_thread = AnyThreadLaws.any_thread c.program (program_fits c readable) plain

    -- A location that one thread alone writes, its last write there being a store of a word or an exchange: every
    -- run that cannot go on leaves that word.
    pub one_writer : (t l i : ℕ)
        → LastWrite c.program t l i
        → Alone c.program t l
        → (instruction_at c.program t i).operation ≢ store_register
        → (ks : List Step) (u : State)
        → FinishedRun (ptso c.program) ks u
        → word_of u l ≡ (instruction_at c.program t i).word
    unfolding Uncompared
    one_writer t l i last alone word = one_sure_writer t l i last alone word (plain t i last.there)
