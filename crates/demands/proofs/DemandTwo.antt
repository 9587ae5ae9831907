-- Demand 2, sentence by sentence. "The judge follows the PTSOsyn machine as your rules write it": the rules are
-- `rule_of` and `next_of` (crates/machine/specs/Rules.antt), and all that is said here is said over them. Assumes
-- nothing.
use Prim.Native.Nat.{ℕ, ◌*◌, ◌≤◌, ◌<◌}
use mathlib.Core.Path.{◌≡◌}
use mathlib.Core.Logic.{◌⊎◌, ◌↔◌}
use mathlib.Core.Bool.{true, false}
use mathlib.Core.List.{List, [], ◌++◌}
use lib.ListN.{length, get_or, take, drop}
use Rattle.cases.specs.declared.case.Step.{Step}
use Rattle.cases.specs.declared.case.Ask.{Ask}
use Rattle.cases.specs.declared.case.Case.{Case}
use Rattle.cases.specs.declared.reader.Answer.TheVariants.{Whole}
use Rattle.std.specs.declared.result.Result.TheVariants.{Ok}
use Rattle.cases.specs.Sizes.{most_threads, most_locations, step_size}
use Rattle.cases.specs.Bytes.{IsBytes}
use Rattle.cases.specs.Draft.{no_step, run_with, with_run}
use Rattle.cases.specs.Reading.{number_of, read_of}
use Rattle.cases.specs.Seats.{encode_of, steps_bytes}
use Rattle.cases.specs.Writing.{reads_back, wrote_of, written_of}
use Rattle.cases.proofs.Promises as Cases
use Rattle.machine.specs.declared.cells.State.{State}
use Rattle.machine.specs.declared.blocker.Blocker.{Blocker}
use Rattle.machine.specs.declared.runs.Verdict.TheVariants.{Legal, Illegal}
use Rattle.machine.specs.View.{word_of, issued_of}
use Rattle.machine.specs.Rules.{rule_of, start_of}
use Rattle.machine.specs.Blocker.{blocker_of}
use Rattle.machine.specs.Model.{full_length, Leads, Faultless, StopsAt, Listed}
use Rattle.machine.specs.Judge.{run_of, judge_of, judge_bytes}
use Rattle.machine.specs.Next.{rank_of}
use Rattle.machine.specs.Ptso.{ptso}
use Rattle.machine.proofs.Promises as Machine
use Rattle.search.specs.declared.ask.Outcome.TheVariants.{Reached, Unreachable, Undecided}
use Rattle.search.specs.Walk.{Visit, InOrder, walk_from}
use Rattle.search.specs.Question.{reaches, None, FirstThat, question_of, shown_of}
use Rattle.search.proofs.Promises as Search
use Rattle.demands.proofs.answers.AskedLaws as AskedLaws

-- The judge, over a case that can be read
module _ (c : Case) (readable : reads_back c ≡ true) where
  -- "It passes a run exactly when every step is legal,": with their number, and the state where they end
  pub passes_exactly :
      ((judge_of c).verdict ≡ Legal (length (run_of c)))
      ↔ ((u : State) × Leads (ptso c.program) (start_of c.program) (run_of c) u)
  passes_exactly = Machine.judge_legal c readable

  pub passes_with_its_end : (u : State) → Leads (ptso c.program) (start_of c.program) (run_of c) u
      → (judge_of c).state ≡ u
  passes_with_its_end = Machine.judge_legal_state c readable

  -- "else it names the first illegal step and its rule.": with P4 the first entry in its way too (page Blocker); and
  -- gives the state before it
  pub names_the_first_illegal_step : (r i : ℕ) (b : Blocker)
      → ((judge_of c).verdict ≡ Illegal r i b)
      ↔ ((u : State) × StopsAt (ptso c.program) (start_of c.program) (run_of c) i u
      × (rule_of c.program u (get_or (run_of c) i no_step) ≡ r)
      × (blocker_of c.program u (get_or (run_of c) i no_step) ≡ b))
  names_the_first_illegal_step = Machine.judge_illegal c readable

  pub stops_with_the_state_before : (i : ℕ) (u : State)
      → StopsAt (ptso c.program) (start_of c.program) (run_of c) i u
      → (judge_of c).state ≡ u
  stops_with_the_state_before = Machine.judge_illegal_state c readable

  -- one or the other, of every run
  pub passes_or_names :
      ((u : State) × Leads (ptso c.program) (start_of c.program) (run_of c) u)
      ⊎ ((i : ℕ) × (u : State) × StopsAt (ptso c.program) (start_of c.program) (run_of c) i u)
  passes_or_names = Machine.legal_or_not c readable

  -- "the first runs of the stated walk": it lists exactly the legal runs, with their ends, in the stated order,
  -- and no other list does
  pub the_stated_walk : (ks : List Step) (u : State)
      → Listed (record { run = ks; end = u }) (walk_from (ptso c.program))
      ↔ (Faultless (ptso c.program) ks × Leads (ptso c.program) (start_of c.program) ks u)
  the_stated_walk = Search.walk_exact (ptso c.program) (Machine.case_lawful c readable)

  pub the_stated_order : InOrder rank_of (walk_from (ptso c.program))
  the_stated_order = Search.walk_in_order (ptso c.program) (Machine.case_lawful c readable)

  pub no_other_walk : (vs : List (Visit State Step)) → InOrder rank_of vs
      → ((v : Visit State Step) → Listed v vs ↔ Listed v (walk_from (ptso c.program)))
      → vs ≡ walk_from (ptso c.program)
  no_other_walk = Search.walk_only (ptso c.program) (Machine.case_lawful c readable)

-- bytes that read are judged as the case they read as
pub judged_as_read : (s : List ℕ) → IsBytes s → number_of (read_of s).answer ≡ 0
    → judge_bytes s ≡ judge_of (read_of s).case
judged_as_read = Machine.judge_read

-- "whether a power cut can leave a given memory with given instructions issued": a run reaches the question
-- where the persistent words match every want and every passed count is met
pub what_a_cut_leaves : (a : Ask) (s : State)
    → (reaches a s ≡ true)
    ↔ (((l : ℕ) → l < most_locations → get_or a.wanted l false ≡ true → word_of s l ≡ get_or a.want l 0)
    × ((t : ℕ) → t < most_threads → get_or a.passed t 0 ≤ issued_of s t))
what_a_cut_leaves = Search.reaches_exactly

-- "Asked ..", bytes that read, and a lent buffer with room for a run of the full length
module _ (s : List ℕ) (bytes : IsBytes s) (read : number_of (read_of s).answer ≡ 0) (b : ℕ) (out : List ℕ)
    (room : step_size * full_length (ptso (read_of s).case.program) ≤ length out) where
  -- "it says reached, .., exactly when one stands among the first runs of the stated walk that the budget
  -- covers;": with n steps, those of the walk's first run that reaches the question
  pub reached_exactly : (n : ℕ)
      → (question_of s (length out) b ≡ Reached n)
      ↔ ((before : List (Visit State Step)) × (v : Visit State Step)
      × FirstThat (reaches (read_of s).case.ask) (walk_from (ptso (read_of s).case.program)) before v
      × (length before < b)
      × (n ≡ length v.run))
  reached_exactly = AskedLaws.reached_exactly s read b out room

  -- with that run, as kind 6 records from the front of the lent bytes
  pub reached_shows_the_run : (before : List (Visit State Step)) (v : Visit State Step)
      → FirstThat (reaches (read_of s).case.ask) (walk_from (ptso (read_of s).case.program)) before v
      → length before < b
      → shown_of s b out ≡ steps_bytes v.run ++ drop (step_size * length v.run) out
  reached_shows_the_run = AskedLaws.reached_shows_the_run s read b out room

  -- "with a run it would itself pass,": what is stored, behind the case's file without its own steps, gets 103
  pub reached_passes : (n : ℕ) → question_of s (length out) b ≡ Reached n
      → (judge_bytes
      (encode_of (with_run (read_of s).case (run_with [])) ++ take (step_size * n) (shown_of s b out))).verdict
      ≡ Legal n
  reached_passes = AskedLaws.reached_passes s bytes read b out room

  -- "unreachable exactly when the budget covers the whole walk and no run does;"
  pub unreachable_exactly :
      (question_of s (length out) b ≡ Unreachable)
      ↔ ((length (walk_from (ptso (read_of s).case.program)) ≤ b)
      × None (reaches (read_of s).case.ask) (walk_from (ptso (read_of s).case.program)))
  unreachable_exactly = AskedLaws.unreachable_exactly s read b out room

  -- "undecided otherwise.": the walk is longer than the budget, and none of the runs that it covers does
  pub undecided_exactly :
      (question_of s (length out) b ≡ Undecided)
      ↔ ((b < length (walk_from (ptso (read_of s).case.program)))
      × None (reaches (read_of s).case.ask) (take b (walk_from (ptso (read_of s).case.program))))
  undecided_exactly = AskedLaws.undecided_exactly s read b out room

-- "A case written and read back is the same case,"
pub written_reads_back : (c : Case) (out : List ℕ) (n : ℕ)
    → wrote_of c out ≡ Ok n
    → read_of (take n (written_of c out)) ≡ record { answer = Whole n; case = c }
written_reads_back = Cases.written_reads

-- "and the same bytes.": the case that bytes read as is stored wherever they fit, as these very bytes
pub read_writes_back : (s : List ℕ) → IsBytes s
    → number_of (read_of s).answer ≡ 0
    → (out : List ℕ) → length s ≤ length out
    → (wrote_of (read_of s).case out ≡ Ok (length s))
    × (written_of (read_of s).case out ≡ s ++ drop (length s) out)
read_writes_back = Cases.read_writes
