-- What the machine promises to the layers above: all that they may cite, but for what each step does to each
-- part of the state, which is Effects. Each law is stated in full. Assumes nothing.
use Prim.Native.Nat.{ℕ, ◌+◌, ◌<◌, ◌≤◌}
use mathlib.Core.Path.{◌≡◌, refl, sym, ◌∙◌}
use mathlib.Core.Logic.{◌⊎◌, ◌≢◌, ◌↔◌}
use mathlib.Core.List.{List, [], ◌++◌}
use native.Mathlib.Omega.{arith}
use mathlib.Core.Bool.{true, false}
use lib.ListN.{length, get_or}
use borrow.Author.Tests.{eq-eqb, ne_eqb}
use Rattle.cases.specs.declared.case.Step.{Step}
use Rattle.cases.specs.declared.case.Program.{Program}
use Rattle.cases.specs.declared.case.Ask.{Ask}
use Rattle.cases.specs.declared.case.Case.{Case}
use Rattle.cases.specs.Sizes.{most_threads, most_locations, all_code, longest}
use Rattle.cases.specs.Bytes.{IsBytes}
use Rattle.cases.specs.Checks.{limits_of, lines_of, step_fault, count_at}
use Rattle.cases.specs.Draft.{no_step, run_with, with_ask, with_run}
use Rattle.cases.specs.Reading.{number_of, offset_of, read_of}
use Rattle.cases.specs.Writing.{reads_back}
use Rattle.cases.proofs.Promises.{read_ranged, readable_ranged, read_reads_back}
use Rattle.cases.proofs.ChoiceLaws.{pick_true, pick_false, pick_cases, true_not, false_not}
use Rattle.machine.specs.declared.cells.State.{State}
use Rattle.machine.specs.declared.blocker.Blocker.{Blocker}
use Rattle.machine.specs.declared.steps.Stepped.{Stepped}
use Rattle.machine.specs.declared.runs.Verdict.TheVariants.{Legal, Illegal}
use Rattle.machine.specs.View.{line_of, marks_of, marks_in, queue, queue_len, buffer, buffer_len, issued_of, mark_of}
use Rattle.machine.specs.Behind.{BlankBehind, SameEntries}
use Rattle.machine.specs.Look.{marker_of, is_at, found_queue, found_position}
use Rattle.machine.specs.Rules.{rule_of, next_of, start_of}
use Rattle.machine.specs.Blocker.{blocker_number, blocker_position, blocker_of}
use Rattle.machine.specs.Fit.{sum_to, together, instructions_of, misfits, Sized, Fits}
use Rattle.cases.specs.Ranges.{ProgramFits}
use Rattle.machine.specs.Work.{work, Unfinished, program_weight, Uncompared, cost, failures_from, failures_of}
use Rattle.machine.specs.Model.{Model, ruled, Lawful, spent, full_length, Leads, Faultless, StopsAt}
use Rattle.machine.specs.Model.{legal_steps, Listed, Ascending}
use Rattle.machine.specs.Judge.{ruling_no, told, stepped_of, step_of, verdict_no, verdict_place, verdict_blocker}
use Rattle.machine.specs.Judge.{judged, judge_from, run_of, judge_run, stopped, judge_of, judge_bytes}
use Rattle.machine.specs.Next.{issue_step, move_step, persist_step, rank_of}
use Rattle.machine.specs.Ptso.{ptso}
use Rattle.machine.specs.Eager.{is_eager, has_eager, eager_rule, eager, those, or_else}
use Rattle.machine.specs.Sizes.{room, most_candidates, most_work}
use Rattle.machine.proofs.view.LineOfLaws as LineOfLaws
use Rattle.machine.proofs.fit.StartLaws as StartLaws
use Rattle.machine.proofs.steps.StepFaultLaws.{fault_none}
use Rattle.machine.proofs.steps.StepLaws as StepLaws
use Rattle.machine.proofs.steps.TogetherLaws as TogetherLaws
use Rattle.machine.proofs.fit.FitLaws as FitLaws
use Rattle.machine.proofs.fit.SpareLaws as SpareLaws
use Rattle.machine.proofs.steps.FailureLaws as FailureLaws
use Rattle.machine.proofs.work.CostLaws as CostLaws
use Rattle.machine.proofs.steps.ProgressLaws as ProgressLaws
use Rattle.machine.proofs.runs.RerunLaws as RerunLaws
use Rattle.machine.proofs.model.ModelLaws as ModelLaws
use Rattle.machine.proofs.model.PtsoLaws as PtsoLaws
use Rattle.machine.proofs.next.CandidateLaws as CandidateLaws
use Rattle.machine.proofs.rules.RuleLaws as RuleLaws
use Rattle.machine.proofs.fit.FitTestLaws as FitTestLaws
use Rattle.machine.proofs.look.MarkerLaws as MarkerLaws
use Rattle.machine.proofs.runs.VerdictLaws as VerdictLaws
use Rattle.machine.proofs.eager.EagerLaws as EagerLaws
use Rattle.machine.proofs.behind.BlankStepLaws as BlankStepLaws
use Rattle.machine.proofs.behind.BlankSameLaws as BlankSameLaws
use Rattle.machine.proofs.runs.JudgeLaws.{leads_or_stops, judge_says_legal, judge_says_illegal}
use Rattle.machine.proofs.runs.JudgeLaws.{judge_legal_says, judge_illegal_says, judge_says_leads}
use Rattle.machine.proofs.runs.JudgeLaws.{judge_says_stops, judge_state_is}

-- the program of a case that is handed out with 0 is one that the machine can run
pub read_fits : (s : List ℕ) → number_of (read_of s).answer ≡ 0 → ProgramFits (read_of s).case.program
read_fits s h = (read_ranged s h).program

-- Any machine
module _ {S K : Type 0} (m : Model S K) where
  -- a run behind a run
  pub leads_append : (s : S) (ks : List K) (u : S) (js : List K) (v : S) → Leads m s ks u → Leads m u js v
      → Leads m s (ks ++ js) v
  leads_append = ModelLaws.leads_append m

  pub faultless_append : (ks js : List K) → Faultless m ks → Faultless m js → Faultless m (ks ++ js)
  faultless_append = ModelLaws.faultless_append m

  -- that has its laws
  module _ {Fit : S → Type 0} {rank : K → ℕ} (laws : Lawful m Fit rank) where
    -- the list of next steps holds the legal ones, exactly, in 01's order, each once
    pub next_legal : (s : S) (k : K) → Listed k (legal_steps m s) ↔ ((m.fault k ≡ 0) × (m.rule s k ≡ 0))
    next_legal s k =
        (ModelLaws.listed_legal m laws s k, (λ h. ModelLaws.legal_listed m laws s k h.0 h.1))

    pub next_rising : (s : S) → Ascending rank (legal_steps m s)
    next_rising = ModelLaws.legal_rises m laws

    -- a legal step lowers the work left
    pub step_lowers : (s : S) → Fit s → (k : K) → m.fault k ≡ 0 → m.rule s k ≡ 0
        → m.left (m.after s k) < m.left s
    step_lowers = ModelLaws.step_lowers m laws

    -- a legal run keeps the fit, and lowers the work left by what its steps use up together, which is at least
    -- their number
    pub leads_fits : (s : S) (ks : List K) (u : S) → Fit s → Faultless m ks → Leads m s ks u → Fit u
    leads_fits = ModelLaws.leads_fits m laws

    pub leads_work : (s : S) (ks : List K) (u : S) → Fit s → Faultless m ks → Leads m s ks u
        → m.left u + spent m s ks ≡ m.left s
    leads_work = ModelLaws.leads_work m laws

    pub spent_least : (s : S) (ks : List K) (u : S) → Fit s → Faultless m ks → Leads m s ks u
        → length ks ≤ spent m s ks
    spent_least = ModelLaws.spent_least m laws

-- with rules that leave no step legal that was not, a machine keeps its laws, and its runs are legal runs
module _ {S K : Type 0} (m : Model S K) (rule : S → K → ℕ)
    (stricter : (s : S) (k : K) → rule s k ≡ 0 → m.rule s k ≡ 0) where
  pub ruled_lawful : {Fit : S → Type 0} {rank : K → ℕ} → Lawful m Fit rank → Lawful (ruled rule m) Fit rank
  ruled_lawful = ModelLaws.ruled_lawful m rule stricter

  pub ruled_leads : (s : S) (ks : List K) (u : S) → Leads (ruled rule m) s ks u → Leads m s ks u
  ruled_leads = ModelLaws.ruled_leads m rule stricter

  pub ruled_faultless : (ks : List K) → Faultless (ruled rule m) ks ↔ Faultless m ks
  ruled_faultless ks =
      (ModelLaws.ruled_faultless m rule stricter ks, ModelLaws.faultless_ruled m rule stricter ks)

-- where a run stops: the state there fits, and the step there passes the checks 5 and 8
pub stops_fits : {S : Type 0} (m : Model S Step) {Fit : S → Type 0} {rank : Step → ℕ} → Lawful m Fit rank
    → (s : S) (ks : List Step) (n : ℕ) (u : S) → Fit s → Faultless m ks → StopsAt m s ks n u
    → Fit u × (m.fault (get_or ks n no_step) ≡ 0)
stops_fits = ModelLaws.stops_fits

-- of the machine of document 01 a run uses up one for each of its steps, and one more for each compare that fails
pub spent_failures : (p : Program) (s : State) (ks : List Step)
    → spent (ptso p) s ks ≡ length ks + failures_from p s ks
spent_failures = CostLaws.spent_failures

-- A program that the machine can run
module _ (p : Program) (fits : ProgramFits p) where
  -- the machine of document 01, for it, is one that has its laws
  pub ptso_lawful : Lawful (ptso p) (Fits p) rank_of
  ptso_lawful = PtsoLaws.ptso_lawful p fits

  -- it has no more queues than there is room for, and each location's queue is one of them
  pub few_lines : lines_of p ≤ most_locations
  few_lines = LineOfLaws.few_lines p fits

  pub line_there : (l : ℕ) → l < p.locations → line_of p l < lines_of p
  line_there = LineOfLaws.line_there p fits

  -- its start fits it
  pub start_fits : Fits p (start_of p)
  start_fits = StartLaws.start_fits p fits

  -- "The sum at the start is the program's full length, at most 96." With P6 192.
  pub full_length_most : full_length (ptso p) ≤ most_work
  full_length_most = StartLaws.full_most p fits

  -- after a legal run all entries in queues and buffers and all unissued instructions together are at most the
  -- program's instructions, which are as many as there is room for at most
  pub entries_together : (ks : List Step) (u : State) → Faultless (ptso p) ks → Leads (ptso p) (start_of p) ks u
      → together p u ≤ instructions_of p
  entries_together ks u faultless leads =
      let all = TogetherLaws.leads_together p (start_of p) ks u start_fits faultless leads in
      let begun = TogetherLaws.start_together p fits in
      omega arith

  pub start_together : together p (start_of p) ≡ instructions_of p
  start_together = TogetherLaws.start_together p fits

  pub instructions_most : instructions_of p ≤ all_code
  instructions_most = TogetherLaws.instructions_most p fits

  -- every state that a legal run from its start reaches is blank behind its entries
  pub run_blank : (ks : List Step) (u : State) → Faultless (ptso p) ks → Leads (ptso p) (start_of p) ks u
      → BlankBehind u
  run_blank ks u = BlankStepLaws.run_blank p ks u fits

  -- and two of them that have the same entries are the same state
  pub run_same : (ks js : List Step) (s u : State)
      → Faultless (ptso p) ks → Leads (ptso p) (start_of p) ks s
      → Faultless (ptso p) js → Leads (ptso p) (start_of p) js u
      → SameEntries s u
      → s ≡ u
  run_same ks js s u faultless leads other goes =
      BlankSameLaws.blank_same s u
      (leads_fits (ptso p) ptso_lawful _ ks s start_fits faultless leads).sized
      (leads_fits (ptso p) ptso_lawful _ js u start_fits other goes).sized
      (run_blank ks s faultless leads) (run_blank js u other goes)

  -- where eager steps come before all others, it is a machine too; an eager step is legal, and back
  pub eager_lawful : Lawful (eager p) (Fits p) rank_of
  eager_lawful = EagerLaws.eager_lawful p fits

  pub has_eager_lem : (s : State)
      → (has_eager p s ≡ true)
      ↔ ((k : Step) × (step_fault (limits_of p) k ≡ 0) × (rule_of p s k ≡ 0) × (is_eager s k ≡ true))
  has_eager_lem = EagerLaws.has_eager_lem p fits

-- "is always taken before any other step": in a state with a legal eager step only the eager ones are next, in the usual
-- order; else the usual ones. So a step is legal there exactly where it is legal, and eager if any that is legal is.
module _ (p : Program) (s : State) where
  pub eager_steps : legal_steps (eager p) s
      ≡ or_else (those (is_eager s) (legal_steps (ptso p) s)) (legal_steps (ptso p) s)
  eager_steps = EagerLaws.eager_steps p s

  pub eager_rule_lem : (k : Step)
      → (eager_rule p s k ≡ 0) ↔ ((rule_of p s k ≡ 0) × (has_eager p s ≡ true → is_eager s k ≡ true))
  eager_rule_lem = EagerLaws.eager_rule_lem p s

-- the start of any program is blank behind its entries
pub start_blank : (p : Program) → BlankBehind (start_of p)
start_blank = BlankStepLaws.start_blank

-- two states that are blank behind their entries, and have the same entries, are the same state, array for
-- array
pub blank_same : (s u : State) → Sized s → Sized u → BlankBehind s → BlankBehind u → SameEntries s u → s ≡ u
blank_same = BlankSameLaws.blank_same

-- "known from the program alone": it is what the threads' instructions weigh
pub full_length_weighs : (p : Program) → full_length (ptso p) ≡ sum_to most_threads (program_weight p)
full_length_weighs = StartLaws.full_weighs

-- A case that passes the test for 32
module _ (c : Case) (readable : reads_back c ≡ true) where
  -- its program is one that the machine can run
  pub program_fits : ProgramFits c.program
  program_fits = (readable_ranged c readable).program

  -- so it has the laws of a machine
  pub case_lawful : Lawful (ptso c.program) (Fits c.program) rank_of
  case_lawful = ptso_lawful c.program program_fits

  judge_is : judge_of c ≡ judge_from (ptso c.program) 0 (start_of c.program) (run_of c)
  unfolding judge_of judge_run
  judge_is = pick_false _ _ _ (true_not _ readable)

  -- "It passes a run exactly when every step is legal": with their number, and the end state
  pub judge_legal :
      ((judge_of c).verdict ≡ Legal (length (run_of c)))
      ↔ ((u : State) × Leads (ptso c.program) (start_of c.program) (run_of c) u)
  judge_legal =
      rw judge_is (
        judge_says_leads (ptso c.program) (start_of c.program) (run_of c) (length (run_of c)),
        (λ e. judge_legal_says (ptso c.program) (start_of c.program) (run_of c) e.0 e.1),
      )

  pub judge_legal_state : (u : State) → Leads (ptso c.program) (start_of c.program) (run_of c) u
      → (judge_of c).state ≡ u
  judge_legal_state u h = rw judge_is (judge_state_is _ _ _ _ u (judge_says_legal _ _ _ u h))

  -- "else it names the first illegal step and its rule": the rule that this step breaks in the state that the
  -- steps before it lead to, the first entry that stands in its way there, and that state
  pub judge_illegal : (r i : ℕ) (b : Blocker) →
      ((judge_of c).verdict ≡ Illegal r i b)
      ↔ ((u : State) × StopsAt (ptso c.program) (start_of c.program) (run_of c) i u
      × (rule_of c.program u (get_or (run_of c) i no_step) ≡ r)
      × (blocker_of c.program u (get_or (run_of c) i no_step) ≡ b))
  judge_illegal r i b =
      rw judge_is (
        judge_says_stops (ptso c.program) (start_of c.program) (run_of c) r i b,
        (λ e. judge_illegal_says (ptso c.program) (start_of c.program) (run_of c) i e.0 r b e.1
            e.2 e.3),
      )

  pub judge_illegal_state : (i : ℕ) (u : State)
      → StopsAt (ptso c.program) (start_of c.program) (run_of c) i u
      → (judge_of c).state ≡ u
  judge_illegal_state i u h = rw judge_is (judge_state_is _ _ _ _ u (judge_says_illegal _ _ _ i u h))

  -- its steps pass the checks 5 and 8
  pub run_faultless : Faultless (ptso c.program) (run_of c)
  run_faultless = RerunLaws.run_faultless c (readable_ranged c readable)

  -- a legal run of it ends in a state that fits, and has used up one of the full length for each of its steps, and
  -- one more for each compare that failed
  pub legal_run_fits : (u : State) → Leads (ptso c.program) (start_of c.program) (run_of c) u
      → Fits c.program u
  legal_run_fits u h =
      leads_fits (ptso c.program) case_lawful _ (run_of c) u
      (start_fits c.program program_fits) run_faultless h

  pub legal_run_work : (u : State) → Leads (ptso c.program) (start_of c.program) (run_of c) u
      → work c.program u + (length (run_of c) + failures_of c.program (run_of c))
      ≡ full_length (ptso c.program)
  unfolding full_length failures_of
  legal_run_work u h =
      let each = spent_failures c.program (start_of c.program) (run_of c) in
      let all = leads_work (ptso c.program) case_lawful _ (run_of c) u
      (start_fits c.program program_fits) run_faultless h in
      omega arith

  -- a run is legal to its end, or stops at one step
  pub legal_or_not :
      ((u : State) × Leads (ptso c.program) (start_of c.program) (run_of c) u)
      ⊎ ((i : ℕ) × (u : State) × StopsAt (ptso c.program) (start_of c.program) (run_of c) i u)
  legal_or_not = leads_or_stops (ptso c.program) (start_of c.program) (run_of c)

-- Where 32 or reading stops the judge: the number, the offset, the empty case's start
pub judge_unreadable : (c : Case) → reads_back c ≡ false → judge_of c ≡ stopped 32 0
unfolding judge_of
judge_unreadable c h = pick_true _ _ _ (false_not _ h)

module _ (s : List ℕ) where
  pub judge_refused : number_of (read_of s).answer ≢ 0
      → judge_bytes s ≡ stopped (number_of (read_of s).answer) (offset_of (read_of s).answer)
  unfolding judge_bytes
  judge_refused h = pick_false _ _ _ (ne_eqb _ _ h)

  -- bytes that read are judged as the case they read as
  pub judge_read : IsBytes s → number_of (read_of s).answer ≡ 0 → judge_bytes s ≡ judge_of (read_of s).case
  unfolding judge_bytes judge_of
  judge_read b h =
      pick_true _ _ _ (eq-eqb _ _ h) ∙ sym (pick_false _ _ _ (true_not _ (read_reads_back s b h)))

  -- the number and the place are low enough to be packed: a refusal's, a rule's, or those of a legal run
  pub verdict_low : (verdict_no (judge_bytes s).verdict < 256) × (verdict_place (judge_bytes s).verdict ≤ longest)
  verdict_low = VerdictLaws.verdict_low s

  -- so are those of the first entry in the way: which buffer or queue, and the position in it
  pub verdict_blocker_low :
      (blocker_number (verdict_blocker (judge_bytes s).verdict) < most_locations)
      × (blocker_position (verdict_blocker (judge_bytes s).verdict) < room)
  verdict_blocker_low = VerdictLaws.verdict_blocker_low s

-- "It doesn't look at kinds 4 and 5."
pub ask_not_looked_at : (c : Case) (a : Ask) → judge_run (with_ask c a) ≡ judge_run c
unfolding judge_run with_ask
ask_not_looked_at c a = refl

-- the run of a case with the steps ks is ks
pub run_again : (c : Case) (ks : List Step) → run_of (with_run c (run_with ks)) ≡ ks
run_again = RerunLaws.run_again

-- where they are a legal run of a case that passes the test for 32: the case with them passes it too, and the
-- judge passes them, with their number and their end
module _ (c : Case) (readable : reads_back c ≡ true) (ks : List Step) (u : State)
    (faultless : Faultless (ptso c.program) ks)
    (legal : Leads (ptso c.program) (start_of c.program) ks u) where
  pub rerun_reads : reads_back (with_run c (run_with ks)) ≡ true
  rerun_reads = RerunLaws.rerun_reads c readable ks u faultless legal

  pub rerun_passes : judge_of (with_run c (run_with ks)) ≡ judged (Legal (length ks)) u
  rerun_passes = RerunLaws.rerun_passes c readable ks u faultless legal

-- A state that fits its program
module _ (p : Program) (s : State) (fit : Fits p s) where
  module _ (k : Step) (faultless : step_fault (limits_of p) k ≡ 0) (legal : rule_of p s k ≡ 0) where
    -- a legal step leads to a state that fits
    pub step_fits : Fits p (next_of p s k)
    step_fits = StepLaws.step_fits p s fit k (fault_none p k faultless) legal

    -- and uses up its cost of the work left: one, but a failed compare two
    pub step_work : work p (next_of p s k) + cost p s k ≡ work p s
    step_work = StepLaws.step_work p s fit k (fault_none p k faultless) legal

    -- without operation 9 that is one
    pub cost_one : Uncompared p → cost p s k ≡ 1
    cost_one plain = FailureLaws.cost_one p plain s fit k (fault_none p k faultless) legal

    -- from a state that is blank behind its entries it leads to one that is
    pub step_blank : BlankBehind s → BlankBehind (next_of p s k)
    step_blank blank = BlankStepLaws.step_blank p s fit blank k (fault_none p k faultless) legal

  -- and in a run nothing fails
  pub failures_none : (ks : List Step) (u : State) → Uncompared p → Faultless (ptso p) ks → Leads (ptso p) s ks u
      → failures_from p s ks ≡ 0
  failures_none ks u plain = FailureLaws.failures_none p plain s ks u fit

  -- a legal step makes all entries and all unissued instructions together no more
  pub step_together : (k : Step) → step_fault (limits_of p) k ≡ 0 → rule_of p s k ≡ 0
      → together p (next_of p s k) ≤ together p s
  step_together = TogetherLaws.step_together p s fit

  -- a buffer and a queue have as many entries as is said
  pub buffer_long : (t : ℕ) → t < most_threads → length (buffer s t) ≡ buffer_len s t
  buffer_long = FitLaws.fits_buffer_long p s fit

  pub queue_long : (q : ℕ) → q < most_locations → length (queue s q) ≡ queue_len s q
  queue_long = FitLaws.fits_queue_long p s fit

  -- the marks of a queue's entries, as a look for a marker goes through them
  pub queue_marks : (q : ℕ) → q < most_locations → marks_of (queue s q) ≡ marks_in s.marks s.lengths q
  queue_marks = SpareLaws.marks_fit p s fit

  -- from a blank state a run leads to one that is
  pub leads_blank : (ks : List Step) (u : State) → BlankBehind s → Faultless (ptso p) ks → Leads (ptso p) s ks u
      → BlankBehind u
  leads_blank ks u = BlankStepLaws.leads_blank p s ks u fit

  -- a queue that holds something: its oldest may persist
  pub persist_legal : (q : ℕ) → q < lines_of p → queue s q ≢ []
      → (step_fault (limits_of p) (persist_step q) ≡ 0) × (rule_of p s (persist_step q) ≡ 0)
  persist_legal = ProgressLaws.persist_legal p s fit

  module _ (quiet : (q : ℕ) → q < lines_of p → queue s q ≡ []) where
    -- where every queue is empty any thread's first entry may move
    pub move_legal : (t : ℕ) → t < p.threads → buffer s t ≢ []
        → (step_fault (limits_of p) (move_step t 0) ≡ 0) × (rule_of p s (move_step t 0) ≡ 0)
    move_legal = ProgressLaws.move_legal p s fit quiet

    -- and a thread with an empty buffer may issue what it has left
    pub issue_legal : (t : ℕ) → t < p.threads → buffer s t ≡ [] → issued_of s t < count_at p t
        → (step_fault (limits_of p) (issue_step t) ≡ 0) × (rule_of p s (issue_step t) ≡ 0)
    issue_legal = ProgressLaws.issue_legal p s fit quiet

  -- while an instruction is unissued or an entry waits, some step is legal
  pub progress : Unfinished p s → (k : Step) × (step_fault (limits_of p) k ≡ 0) × (rule_of p s k ≡ 0)
  progress = ProgressLaws.progress p s fit

  -- work is left only where there is something to do
  pub work_some : 0 < work p s → Unfinished p s
  work_some = ProgressLaws.work_some p s fit

  -- there are no more next steps than there is room for
  pub legal_few : length (legal_steps (ptso p) s) ≤ most_candidates
  unfolding legal_steps
  legal_few = CandidateLaws.legal_few p (rule_of p s) fit.program

-- the test for 33 and the facts that proofs use are one: of a state whose arrays are as long as their types say
pub fits_exactly : (p : Program) (s : State) → ProgramFits p → Sized s → (misfits p s ≡ false) ↔ Fits p s
fits_exactly p s g z = (FitTestLaws.fits_is p s g z, FitTestLaws.is_fits p s)

-- "Looking for a thread's marker goes through every queue and stops at the first one found."
module _ (marks lengths : List ℕ) (t : ℕ) where
  -- one that is found stands in a queue that there is, at a position of it, and bears the thread
  pub marker_stands : is_at (marker_of marks lengths t) ≡ true
      → (found_queue (marker_of marks lengths t) < most_locations)
      × (found_position (marker_of marks lengths t)
      < length (marks_in marks lengths (found_queue (marker_of marks lengths t))))
      × (get_or (marks_in marks lengths (found_queue (marker_of marks lengths t)))
      (found_position (marker_of marks lengths t)) 0 ≡ mark_of t)
  marker_stands = MarkerLaws.marker_stands marks lengths t

  -- it is the first: no earlier queue holds one of that thread, and no earlier position of its own queue does
  pub marker_first : is_at (marker_of marks lengths t) ≡ true
      → ((q i : ℕ) → q < found_queue (marker_of marks lengths t) → get_or (marks_in marks lengths q) i 0 ≢ mark_of t)
      × ((i : ℕ) → i < found_position (marker_of marks lengths t)
      → get_or (marks_in marks lengths (found_queue (marker_of marks lengths t))) i 0 ≢ mark_of t)
  marker_first = MarkerLaws.marker_first marks lengths t

  -- where none is found no queue holds one
  pub marker_none : is_at (marker_of marks lengths t) ≡ false
      → (q i : ℕ) → q < most_locations → get_or (marks_in marks lengths q) i 0 ≢ mark_of t
  marker_none = MarkerLaws.marker_none marks lengths t

-- a step breaks no rule, or one of 21 to 29
pub rule_in_table : (p : Program) (s : State) (k : Step)
    → (rule_of p s k ≡ 0) ⊎ ((21 ≤ rule_of p s k) × (rule_of p s k ≤ 29))
rule_in_table = RuleLaws.rule_table

-- "It gives back the state unchanged when it refuses."
pub refused_unchanged : (c : Case) (s : State) (k : Step)
    → ruling_no (step_of c s k).ruling ≢ 103
    → (step_of c s k).state ≡ s
unfolding step_of stepped_of told
refused_unchanged c s k =
    pick_cases Kept _ _ _ (λ h n. refl) (λ h.
    pick_cases Kept _ _ _ (λ h n. refl) (λ h.
    pick_cases Kept _ _ _ (λ h n. refl) (λ h.
    pick_cases Kept _ _ _ (λ h n. refl) (λ h n. absurd (n refl)))))
  where
    Kept : Stepped → Type 0
    Kept r = ruling_no r.ruling ≢ 103 → r.state ≡ s
