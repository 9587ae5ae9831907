-- What a machine is to everybody above it: a run, the judge, the walk and the question know no more of one.
-- That of document 01 is one (Ptso).
--   Model S K             a machine of states S and steps K
--   ruled rule m          the machine m with other rules, and nothing else changed
--   Leads m s ks u        the steps ks, each legal where it is taken, lead from the state s to u
--   Faultless m ks        each of the steps passes the checks 5 and 8
--   StopsAt m s ks n u    the first n of the steps are legal and lead from s to u, and the next one is not
--   LegalRun m ks u       the steps ks are a legal run, and lead from the start to the state u
--   CannotGoOn m u        no step is legal in u
--   FinishedRun m ks u    a legal run that cannot go on
--   allowed rule ks       those of some steps that break no rule
--   legal_steps m s       the candidates that are legal in s
--   full_length m         "The sum at the start is the program's full length"
--   spent m s ks          what the steps ks use up together
--   Listed, Ascending     how the theorems say "on the list" and "in that order, once"
--   Lawful m Fit rank     the laws of such a machine; of states that it reaches Fit may be taken for granted
-- Assumes nothing.
use Rattle.std.specs.Prelude.{ℕ, ◌+◌, ◌<◌, ◌≤◌, ◌≡◌, ◌⊎◌, ◌≢◌, ◌↔◌, Bool, false, List, [], ◌∷◌, length, get_or, take, eqb}
use Rattle.cases.specs.declared.case.Step.{Step}
use Rattle.cases.specs.Choice.{pick}
use Rattle.cases.specs.Draft.{no_step}
use Rattle.machine.specs.declared.blocker.Blocker.{Blocker}

-- The number 5 or 8 of a step, 0 where it passes both; the number of the rule that it breaks in a state, 0
-- where it is legal; the first entry that stands in its way there, if it is not; the state after it, if it is;
-- where a run starts; every step that there can be, in the order of next steps; the test for 33; the work left;
-- what a legal step uses up of it.
pub record Model (S K : Type 0) : Type 0 where
  pub fault : K → ℕ
  pub rule : S → K → ℕ
  pub blocker : S → K → Blocker
  pub after : S → K → S
  pub start : S
  pub candidates : List K
  pub misfits : S → Bool
  pub left : S → ℕ
  pub cost : S → K → ℕ

abbrev pub ruled : {S K : Type 0} → (S → K → ℕ) → Model S K → Model S K
ruled rule m =
    record {
      fault = m.fault;
      rule = rule;
      blocker = m.blocker;
      after = m.after;
      start = m.start;
      candidates = m.candidates;
      misfits = m.misfits;
      left = m.left;
      cost = m.cost;
    }

unfoldable pub Leads : {S K : Type 0} → Model S K → S → List K → S → Type 0
Leads m s [] u = s ≡ u
Leads m s (k ∷ ks) u = (m.rule s k ≡ 0) × Leads m (m.after s k) ks u

unfoldable pub Faultless : {S K : Type 0} → Model S K → List K → Type 0
Faultless m [] = Unit {0}
Faultless m (k ∷ ks) = (m.fault k ≡ 0) × Faultless m ks

pub record StopsAt {S : Type 0} (m : Model S Step) (s : S) (ks : List Step) (n : ℕ) (u : S) : Type 0 where
  pub within : n < length ks
  pub before : Leads m s (take n ks) u
  pub broken : m.rule u (get_or ks n no_step) ≢ 0

pub record LegalRun {S K : Type 0} (m : Model S K) (ks : List K) (u : S) : Type 0 where
  pub faultless : Faultless m ks
  pub leads : Leads m m.start ks u

unfoldable pub CannotGoOn : {S K : Type 0} → Model S K → S → Type 0
CannotGoOn {S} {K} m u = (k : K) → m.fault k ≡ 0 → m.rule u k ≢ 0

pub record FinishedRun {S K : Type 0} (m : Model S K) (ks : List K) (u : S) : Type 0 where
  pub legal : LegalRun m ks u
  pub over : CannotGoOn m u

unfoldable pub allowed : {K : Type 0} → (K → ℕ) → List K → List K
allowed rule [] = []
allowed rule (k ∷ ks) = pick (eqb (rule k) 0) (k ∷ allowed rule ks) (allowed rule ks)

unfoldable pub legal_steps : {S K : Type 0} → Model S K → S → List K
legal_steps m s = allowed (m.rule s) m.candidates

unfoldable pub full_length : {S K : Type 0} → Model S K → ℕ
full_length m = m.left m.start

unfoldable pub spent : {S K : Type 0} → Model S K → S → List K → ℕ
spent m s [] = 0
spent m s (k ∷ ks) = m.cost s k + spent m (m.after s k) ks

unfoldable pub Listed : {A : Type 0} → A → List A → Type 0
Listed x [] = ⊥
Listed x (y ∷ ys) = (x ≡ y) ⊎ Listed x ys

unfoldable pub Ascending : {K : Type 0} → (K → ℕ) → List K → Type 0
Ascending rank [] = Unit {0}
Ascending {K} rank (k ∷ ks) = ((j : K) → Listed j ks → rank k < rank j) × Ascending rank ks

-- The start fits, a legal step leads to a state that fits, and what fits passes the test for 33; a legal step
-- lowers the work left by its cost, which is at least one; the candidates are just the steps that pass 5 and 8,
-- in order.
pub record Lawful {S K : Type 0} (m : Model S K) (Fit : S → Type 0) (rank : K → ℕ) : Type 0 where
  pub starts : Fit m.start
  pub keeps : (s : S) → Fit s → (k : K) → m.fault k ≡ 0 → m.rule s k ≡ 0 → Fit (m.after s k)
  pub passes : (s : S) → Fit s → m.misfits s ≡ false
  pub lowers : (s : S) → Fit s → (k : K) → m.fault k ≡ 0 → m.rule s k ≡ 0
      → m.left (m.after s k) + m.cost s k ≡ m.left s
  pub costs : (s : S) → Fit s → (k : K) → m.fault k ≡ 0 → m.rule s k ≡ 0 → 1 ≤ m.cost s k
  pub complete : (k : K) → Listed k m.candidates ↔ (m.fault k ≡ 0)
  pub rises : Ascending rank m.candidates
