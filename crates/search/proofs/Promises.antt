-- What the search promises: all that others may cite. Each law is stated in full. Assumes nothing.
use Prim.Native.Nat.{ℕ, ◌+◌, ◌*◌, ◌<◌, ◌≤◌}
use mathlib.Core.Path.{◌≡◌, ap, subst, ◌∙◌}
use mathlib.Core.Logic.{◌≢◌, ◌↔◌}
use mathlib.Core.Bool.{Bool, true, false}
use mathlib.Core.List.{List, [], ◌∷◌, ◌++◌}
use lib.ListN.{length, get_or, take, drop}
use Rattle.cases.specs.declared.case.Step.{Step}
use Rattle.cases.specs.declared.case.Program.{Program}
use Rattle.cases.specs.declared.case.Ask.{Ask}
use Rattle.cases.specs.declared.case.Case.{Case}
use Rattle.cases.specs.Sizes.{most_threads, most_locations, longest, step_size}
use Rattle.cases.specs.Bytes.{IsBytes}
use Rattle.cases.specs.Draft.{run_with, with_run}
use Rattle.cases.specs.Reading.{number_of, offset_of, read_of}
use Rattle.cases.specs.Seats.{encode_of, steps_bytes}
use Rattle.cases.specs.Writing.{reads_back}
use Rattle.machine.specs.declared.cells.State.{State}
use Rattle.machine.specs.declared.runs.Verdict.TheVariants.{Legal}
use Rattle.machine.specs.View.{word_of, issued_of}
use Rattle.machine.specs.Fit.{Fits}
use Rattle.machine.specs.Model.{Model, Lawful, full_length, Leads, Faultless, Listed}
use Rattle.machine.specs.Judge.{judge_of, judge_bytes}
use Rattle.machine.specs.Ptso.{ptso}
use Rattle.search.specs.declared.ask.Outcome.TheVariants.{Reached, Unreachable, Undecided, Refused}
use Rattle.search.specs.Walk.{Machine, Visit, here, walk, Runs, Walkable, InOrder, thinned, Thinned}
use Rattle.search.specs.Walk.{walk_from}
use Rattle.search.specs.Question.{reaches, reached, unreachable, undecided, None, FirstThat, ask_of}
use Rattle.search.specs.Question.{outcome_no, outcome_place, told_of, question_of, shown_of}
use Rattle.search.specs.Lanes.{lanes_of, Alike}
use Rattle.search.specs.Remember.{remember_of}
use Rattle.search.specs.Seek.{seek, walked_of, walked_no, walked_place, walked_rest}
use Rattle.search.proofs.walk.WalkLaws as WalkLaws
use Rattle.search.proofs.walk.WalkModelLaws as WalkModelLaws
use Rattle.search.proofs.walk.WalkOrderLaws as WalkOrderLaws
use Rattle.search.proofs.seek.BudgetLaws as BudgetLaws
use Rattle.search.proofs.seek.WalkedLaws as WalkedLaws
use Rattle.search.proofs.ask.ReachLaws as ReachLaws
use Rattle.search.proofs.shown.ShownLaws as ShownLaws
use Rattle.search.proofs.ask.QuestionLaws as QuestionLaws
use Rattle.search.proofs.lanes.AlikeLaws as AlikeLaws
use Rattle.search.proofs.distinct.RecalledLaws as RecalledLaws

-- Machines: only some of a model's legal steps next, or all
module _ {S K : Type 0} (m : Model S K) {Fit : S → Type 0} {rank : K → ℕ} (laws : Lawful m Fit rank) where
  -- with some of them next, in their order, it can be walked, and its runs are legal runs
  pub thinned_walkable : (nexts : S → List K) → Thinned m nexts → Walkable (thinned m nexts) Fit m.left rank
  thinned_walkable = WalkModelLaws.thinned_walkable m laws

  pub thinned_leads : (nexts : S → List K) → Thinned m nexts
      → (s : S) (ks : List K) (u : S) → Runs (thinned m nexts) s ks u
      → Faultless m ks × Leads m s ks u
  thinned_leads = WalkModelLaws.thinned_leads m laws

-- Of a machine that can be walked: above the work left the walk is the same list, whatever depth it is given
pub walk_enough : {S K : Type 0} (m : Machine S K) {Fit : S → Type 0} {left : S → ℕ} {rank : K → ℕ}
    → Walkable m Fit left rank
    → (n j : ℕ) (s : S) → Fit s → left s < n → left s < j
    → walk m n s ≡ walk m j s
walk_enough = WalkLaws.walk_enough

-- The walk of a model that has its laws
module _ {S K : Type 0} (m : Model S K) {Fit : S → Type 0} {rank : K → ℕ} (laws : Lawful m Fit rank) where
  -- "The walk lists all legal runs": exactly these, of steps that pass the checks 5 and 8, with their end
  pub walk_exact : (ks : List K) (u : S)
      → Listed (record { run = ks; end = u }) (walk_from m) ↔ (Faultless m ks × Leads m m.start ks u)
  unfolding walk_from
  walk_exact ks u = (
    WalkModelLaws.walk_leads m laws m.start laws.starts ks u,
    (λ h. WalkModelLaws.leads_walk m laws m.start laws.starts ks u h.0 h.1),
  )

  -- "the empty run first; each run is followed by everything that starts with it, next steps in the order issue
  -- by thread, move by thread then position, persist by location": each run comes before all that stand behind
  -- it in the list, by that order
  pub walk_in_order : InOrder rank (walk_from m)
  unfolding walk_from
  walk_in_order = WalkModelLaws.walk_ordered m laws m.start laws.starts

  -- and no other list holds exactly these in that order
  pub walk_only : (vs : List (Visit S K)) → InOrder rank vs
      → ((v : Visit S K) → Listed v vs ↔ Listed v (walk_from m))
      → vs ≡ walk_from m
  walk_only vs o h = WalkOrderLaws.order_only rank vs (walk_from m) o walk_in_order (λ v. (h v).0) (λ v. (h v).1)

  pub walk_first : (rest : List (Visit S K)) × (walk_from m ≡ here m.start ∷ rest)
  walk_first = QuestionLaws.walk_first m

  -- each once: of two parts of the list, the runs differ
  pub walk_once : (xs ys : List (Visit S K)) → walk_from m ≡ xs ++ ys
      → (v w : Visit S K) → Listed v xs → Listed w ys → v.run ≢ w.run
  walk_once xs ys e = WalkOrderLaws.order_once rank xs ys (subst (InOrder rank) e walk_in_order)

  -- "It never goes deeper than the full length"
  pub walk_deep : (ks : List K) (u : S) → Listed (record { run = ks; end = u }) (walk_from m)
      → length ks ≤ full_length m
  walk_deep = QuestionLaws.walk_deep m laws

-- "A run reaches the question if the persistent words match every want and every passed count is met."
pub reaches_exactly : (a : Ask) (s : State)
    → (reaches a s ≡ true)
    ↔ (((l : ℕ) → l < most_locations → get_or a.wanted l false ≡ true → word_of s l ≡ get_or a.want l 0)
    × ((t : ℕ) → t < most_threads → get_or a.passed t 0 ≤ issued_of s t))
reaches_exactly a s = (ReachLaws.reaches_is a s, (λ h. ReachLaws.is_reaches a s h.0 h.1))

-- "A budget B covers the first B runs." What it decides, over a model and a test of its states
module _ {S K : Type 0} (m : Model S K) (test : S → Bool) (b : ℕ) where
  -- reached, with a run, exactly when that run is the walk's first that reaches, and stands among the first B
  pub reached_exactly : (run : List K)
      → (ask_of m test b ≡ reached run)
      ↔ ((before : List (Visit S K))
      × (v : Visit S K)
      × FirstThat test (walk_from m) before v
      × (length before < b)
      × (v.run ≡ run))
  unfolding ask_of
  reached_exactly run = (
    BudgetLaws.budget_reached_is test b (walk_from m) run,
    (λ h. BudgetLaws.budget_is_reached test b (walk_from m) h.0 h.1 h.2 h.3 ∙ ap reached h.4),
  )

  -- unreachable exactly when the budget covers the whole walk and no run reaches
  pub unreachable_exactly : (ask_of m test b ≡ unreachable)
      ↔ ((length (walk_from m) ≤ b) × None test (walk_from m))
  unfolding ask_of
  unreachable_exactly = (
    BudgetLaws.budget_unreachable_is test b (walk_from m),
    (λ h. BudgetLaws.budget_is_unreachable test b (walk_from m) h.0 h.1),
  )

  -- undecided exactly when it does not, and none of the runs that it covers reaches
  pub undecided_exactly :
      (ask_of m test b ≡ undecided) ↔ ((b < length (walk_from m)) × None test (take b (walk_from m)))
  unfolding ask_of
  undecided_exactly = (
    BudgetLaws.budget_undecided_is test b (walk_from m),
    (λ h. BudgetLaws.budget_is_undecided test b (walk_from m) h.0 h.1),
  )

-- What the code's walk answers from the start
module _ {S : Type 0} (m : Model S Step) (test : S → Bool) (b : ℕ) where
  -- its number and its place are those that the question tells
  pub walked_told :
      (walked_no (walked_of 0 (seek test b (walk_from m))) ≡ outcome_no (told_of (ask_of m test b)))
      × (walked_place (walked_of 0 (seek test b (walk_from m))) ≡ outcome_place (told_of (ask_of m test b)))
  walked_told = WalkedLaws.walked_told m test b

  -- where no run reaches and the budget covers the walk, it leaves what the walk's runs don't use up
  pub walked_rest_lem : None test (walk_from m) → length (walk_from m) ≤ b
      → walked_rest (walked_of 0 (seek test b (walk_from m))) + length (walk_from m) ≡ b
  walked_rest_lem = WalkedLaws.walked_rest_lem m test b

-- a budget of just the runs before the first that reaches decides nothing: one less than where that run stands
pub one_less_undecided : {S K : Type 0} (m : Model S K) (test : S → Bool) (before : List (Visit S K))
    (v : Visit S K)
    → FirstThat test (walk_from m) before v
    → ask_of m test (length before) ≡ undecided
unfolding ask_of
one_less_undecided m test before v = BudgetLaws.budget_one_less test (walk_from m) before v

-- What is answered for bytes, and what the lent bytes hold afterwards
module _ (s : List ℕ) (b : ℕ) (out : List ℕ) where
  -- "The question tests reading first"
  pub question_unread : number_of (read_of s).answer ≢ 0
      → question_of s (length out) b ≡ Refused (number_of (read_of s).answer) (offset_of (read_of s).answer)
  question_unread = QuestionLaws.question_unread s (length out) b

  module _ (read : number_of (read_of s).answer ≡ 0) where
    -- "then 31 (shorter than 8 bytes times the program's full length, below)"
    pub question_short : length out < step_size * full_length (ptso (read_of s).case.program)
        → question_of s (length out) b ≡ Refused 31 0
    question_short = QuestionLaws.question_short s (length out) b read

    -- then 100, 101 or 102, by what the budget decides
    module _ (room : step_size * full_length (ptso (read_of s).case.program) ≤ length out) where
      pub question_reached : (n : ℕ)
          → (question_of s (length out) b ≡ Reached n)
          ↔ ((run : List Step)
          × (ask_of (ptso (read_of s).case.program) (reaches (read_of s).case.ask) b ≡ reached run)
          × (n ≡ length run))
      question_reached = QuestionLaws.question_reached s (length out) b read room

      pub question_unreachable :
          (question_of s (length out) b ≡ Unreachable)
          ↔ (ask_of (ptso (read_of s).case.program) (reaches (read_of s).case.ask) b ≡ unreachable)
      question_unreachable = QuestionLaws.question_unreachable s (length out) b read room

      pub question_undecided :
          (question_of s (length out) b ≡ Undecided)
          ↔ (ask_of (ptso (read_of s).case.program) (reaches (read_of s).case.ask) b ≡ undecided)
      question_undecided = QuestionLaws.question_undecided s (length out) b read room

      -- "the first such run, as kind 6 records in the lent buffer": from the front, and nothing behind is
      -- touched
      pub shown_run : (run : List Step)
          → ask_of (ptso (read_of s).case.program) (reaches (read_of s).case.ask) b ≡ reached run
          → shown_of s b out ≡ steps_bytes run ++ drop (step_size * length run) out
      shown_run = QuestionLaws.shown_run s b out read room

  -- "Refusals, and the answers 101 and 102, store nothing."
  pub only_reached_stores : outcome_no (question_of s (length out) b) ≢ 100 → shown_of s b out ≡ out
  only_reached_stores = QuestionLaws.only_reached_stores s b out

-- "Kind 6 records in the input are not looked at": cases with the same program and the same ask answer alike
pub steps_not_looked_at : (s t : List ℕ)
    → number_of (read_of s).answer ≡ 0
    → number_of (read_of t).answer ≡ 0
    → (read_of s).case.program ≡ (read_of t).case.program
    → (read_of s).case.ask ≡ (read_of t).case.ask
    → (b : ℕ) (out : List ℕ)
    → (question_of s (length out) b ≡ question_of t (length out) b) × (shown_of s b out ≡ shown_of t b out)
steps_not_looked_at = QuestionLaws.steps_not_looked_at

-- "with a run it would itself pass": put into the case as its steps, the run gets 103 from the judge, with a
-- state that matches every want and meets every passed count
module _ (c : Case) (readable : reads_back c ≡ true) (b : ℕ) (run : List Step)
    (asked : ask_of (ptso c.program) (reaches c.ask) b ≡ reached run) where
  pub reached_readable : reads_back (with_run c (run_with run)) ≡ true
  reached_readable = ShownLaws.shown_readable c readable b run asked

  pub reached_passes : (judge_of (with_run c (run_with run))).verdict ≡ Legal (length run)
  reached_passes = ShownLaws.shown_legal c readable b run asked

  pub reached_reaches : reaches c.ask (judge_of (with_run c (run_with run))).state ≡ true
  reached_reaches = ShownLaws.shown_reaches c readable b run asked

-- the same of the bytes: those that are stored, behind the case's file without its steps, are a file that gets
-- 103
pub stored_passes : (s : List ℕ) → IsBytes s → number_of (read_of s).answer ≡ 0
    → (b : ℕ) (out : List ℕ) → step_size * full_length (ptso (read_of s).case.program) ≤ length out
    → (run : List Step) → ask_of (ptso (read_of s).case.program) (reaches (read_of s).case.ask) b ≡ reached run
    → (judge_bytes
    (encode_of (with_run (read_of s).case (run_with []))
    ++ take (step_size * length run) (shown_of s b out))).verdict
    ≡ Legal (length run)
stored_passes s bytes read b out room run = ShownLaws.stored_legal s bytes read b out room run

-- the number and its place are low: they can be packed
pub question_low : (s : List ℕ) (room b : ℕ)
    → (outcome_no (question_of s room b) < 256) × (outcome_place (question_of s room b) ≤ longest)
question_low = QuestionLaws.question_low

-- the same of the engine that remembers
pub remember_low : (s : List ℕ) (room words b : ℕ)
    → (outcome_no (remember_of s room words b).outcome < 256)
    × (outcome_place (remember_of s room words b).outcome ≤ longest)
remember_low = RecalledLaws.remember_low

-- Lanes: those of two states that fit are equal exactly where the states hold the same, of the program's threads,
-- lines and locations
pub alike_exactly : (p : Program) (s u : State) → Fits p s → Fits p u → (lanes_of p s ≡ lanes_of p u) ↔ Alike p s u
alike_exactly = AlikeLaws.alike_exactly
