-- The array of ranks that the code makes stands for the list of the legal next steps.
--   push_all ks n   the ranks n, with those of the steps ks behind them
-- Assumes nothing.
use Prim.Native.Nat.{ℕ, zero, suc, ◌+◌, ◌*◌, ◌-◌, ◌/◌, ◌%◌, ◌≤◌, ◌<◌}
use mathlib.Core.Path.{◌≡◌, refl, sym, ap, ◌∙◌}
use mathlib.Core.Logic.{inl, inr}
use mathlib.Core.Bool.{Bool, true, false}
use mathlib.Core.List.{List, [], ◌∷◌, ◌++◌}
use native.Mathlib.Omega.{arith}
use native.Mathlib.Nat.{add-zero, zero-add}
use borrow.Author.Tests.{lt-ltb, le-ltb}
use lib.ListN.{length, get_or, drop, replicate, length-set, length-replicate}
use lib.Seq.{drop-length, drop-cons, get_or-set_same, get_or-set_other}
use Rattle.cases.specs.declared.case.Step.{Step}
use Rattle.cases.specs.declared.case.Program.{Program}
use Rattle.cases.specs.Choice.{pick}
use Rattle.cases.specs.Sizes.{most_threads, most_instructions}
use Rattle.cases.specs.Draft.{no_step}
use Rattle.cases.proofs.ChoiceLaws.{pick_true, pick_false}
use Rattle.cases.proofs.Promises.{thread_low}
use Rattle.machine.specs.declared.cells.State.{State}
use Rattle.machine.specs.Sizes.{most_candidates, kind_ranks}
use Rattle.machine.specs.Rules.{rule_of}
use Rattle.machine.specs.Model.{Listed, legal_steps}
use Rattle.machine.specs.Next.{issue_step, move_step, persist_step, rank_of}
use Rattle.machine.specs.Ptso.{ptso}
use Rattle.machine.specs.Fit.{Fits}
use Rattle.machine.proofs.Promises.{legal_few, buffer_long}
use Rattle.machine.proofs.Effects.{step_kinds, move_within}
use Rattle.search.specs.declared.next.Ranks.{Ranks}
use Rattle.search.specs.Listing.{threads_in, lines_in}
use Rattle.search.specs.Rows.{row_len}
use Rattle.search.specs.Barred.{issue_barred, move_barred, persist_barred, free_from, free_moves, legal_lanes}
use Rattle.search.specs.Barred.{step_at, next_with, pushed, offered, offered_from, offered_moves, next_lanes}
use Rattle.search.proofs.lanes.GeneralLaws.{listed_get}
use Rattle.search.proofs.lanes.NextLanesLaws.{legal_listed}
use Rattle.search.proofs.lanes.StepLanesLaws.{Kinds}
use Rattle.search.proofs.walk.WalkLoopLaws.{Lists}

unfoldable pub push_all : List Step → Ranks → Ranks
push_all [] n = n
push_all (k ∷ ks) n = push_all ks (pushed k n)

-- push_all: one list behind another
push_append : (ks js : List Step) (n : Ranks) → push_all (ks ++ js) n ≡ push_all js (push_all ks n)
unfolding push_all
push_append [] js n = refl
push_append (k ∷ ks) js n = push_append ks js (pushed k n)

-- what is offered is pushed where it is free
offered_pushed : (barred : ℕ → Bool) (step : ℕ → Step) (i m : ℕ) (n : Ranks)
    → offered_from barred step i m n ≡ push_all (free_from barred step i m) n
unfolding offered_from free_from push_all
offered_pushed barred step i zero n = refl
offered_pushed barred step i (suc m) n =
    offered_pushed barred step (suc i) m (offered (barred i) (step i) n) ∙ go (barred i)
  where
    go : (b : Bool) → push_all (free_from barred step (suc i) m) (offered b (step i) n)
        ≡ push_all (pick b (free_from barred step (suc i) m) (step i ∷ free_from barred step (suc i) m)) n
    go true = unfold offered pick in refl
    go false = unfold offered pick push_all in refl

moves_pushed : (c x : List ℕ) (t k : ℕ) (n : Ranks) → offered_moves c x t k n ≡ push_all (free_moves c x t k) n
unfolding offered_moves free_moves push_all
moves_pushed c x t zero n = refl
moves_pushed c x t (suc k) n =
    moves_pushed c x (suc t) k (offered_from (move_barred c x t) (move_step t) 0 (row_len c x t) n)
    ∙ ap (push_all (free_moves c x (suc t) k)) (offered_pushed (move_barred c x t) (move_step t) 0 (row_len c x t) n)
    ∙ sym (push_append (free_from (move_barred c x t) (move_step t) 0 (row_len c x t)) (free_moves c x (suc t) k) n)

-- no ranks; the code's ranks are those of the legal next steps, pushed one after the other
abbrev pub blank : Ranks
blank = next_with 0 (replicate most_candidates 0)

pub next_pushed : (c x : List ℕ) → next_lanes c x ≡ push_all (legal_lanes c x) blank
unfolding next_lanes legal_lanes
next_pushed c x =
    rw (
      offered_pushed (issue_barred c x) issue_step 0 (threads_in c) blank,
      moves_pushed c x 0 (threads_in c),
      offered_pushed (persist_barred c x) persist_step 0 (lines_in c),
      push_append _ (free_from (persist_barred c x) persist_step 0 (lines_in c)) blank,
      push_append (free_from (issue_barred c x) issue_step 0 (threads_in c)) (free_moves c x 0 (threads_in c)) blank,
    )

-- how many there are; those that were there; those pushed
push_count : (ks : List Step) (n : Ranks) → (push_all ks n).count ≡ n.count + length ks
unfolding push_all pushed
push_count [] n = sym (add-zero n.count)
push_count (k ∷ ks) n = let e = push_count ks (pushed k n) in e ∙ omega arith

push_before : (ks : List Step) (n : Ranks) (j : ℕ) → j < n.count
    → get_or (push_all ks n).ranks j 0 ≡ get_or n.ranks j 0
unfolding push_all pushed
push_before [] n j h = refl
push_before (k ∷ ks) n j h =
    push_before ks (pushed k n) j (omega arith)
    ∙ get_or-set_other n.ranks n.count j (rank_of k) 0 (λ e. omega arith)

push_here : (ks : List Step) (n : Ranks) (i : ℕ) → i < length ks → n.count + length ks ≤ length n.ranks
    → get_or (push_all ks n).ranks (n.count + i) 0 ≡ rank_of (get_or ks i no_step)
unfolding push_all pushed
push_here [] n i h room = absurd (omega arith)
push_here (k ∷ ks) n zero h room =
    ap (λ j. get_or (push_all ks (pushed k n)).ranks j 0) (add-zero n.count)
    ∙ push_before ks (pushed k n) n.count (omega arith)
    ∙ get_or-set_same n.ranks n.count (rank_of k) 0 (omega arith)
push_here (k ∷ ks) n (suc i) h room =
    let long = length-set n.ranks n.count (rank_of k) in
    ap (λ j. get_or (push_all ks (pushed k n)).ranks j 0) (omega arith)
    ∙ push_here ks (pushed k n) i (omega arith) (omega arith)

-- a list whose every step comes back from its rank
ranks_list : (ks : List Step) → length ks ≤ most_candidates
    → ((k : Step) → Listed k ks → step_at (rank_of k) ≡ k)
    → Lists (push_all ks blank) ks
ranks_list ks few back =
    record {
      here = λ i h. here i (let e = push_count ks blank in omega arith);
      end = rw (push_count ks blank) (ap (λ n. drop n ks) (zero-add (length ks)) ∙ drop-length ks);
      few = let e = push_count ks blank in omega arith;
    }
  where
    here : (i : ℕ) → i < length ks
        → drop i ks ≡ step_at (get_or (push_all ks blank).ranks i 0) ∷ drop (i + 1) ks
    here i h =
        let long = length-replicate {A = ℕ} most_candidates 0 in
        let e : get_or (push_all ks blank).ranks i 0 ≡ rank_of (get_or ks i no_step)
        = ap (λ j. get_or (push_all ks blank).ranks j 0) (sym (zero-add i))
        ∙ push_here ks blank i h (omega arith) in
        let one : suc i ≡ i + 1 = omega arith in
        drop-cons ks i no_step h
        ∙ rw (e, back (get_or ks i no_step) (listed_get ks i no_step h)) (ap (λ j. get_or ks i no_step ∷ drop j ks) one)

-- the step of a step's rank is that step: of each kind
issue_back : (t : ℕ) → t < most_threads → step_at (rank_of (issue_step t)) ≡ issue_step t
unfolding step_at rank_of
issue_back t h =
    let e : rank_of (issue_step t) / most_instructions ≡ t = omega arith in
    pick_true _ _ _ (lt-ltb (rank_of (issue_step t)) kind_ranks (omega arith)) ∙ ap issue_step e

move_back : (t i : ℕ) → t < most_threads → i < most_instructions → step_at (rank_of (move_step t i)) ≡ move_step t i
unfolding step_at rank_of
move_back t i h k =
    let e : (rank_of (move_step t i) - kind_ranks) / most_instructions ≡ t = omega arith in
    let f : (rank_of (move_step t i) - kind_ranks) % most_instructions ≡ i = omega arith in
    pick_false _ _ _ (le-ltb (rank_of (move_step t i)) kind_ranks (omega arith))
    ∙ pick_true _ _ _ (lt-ltb (rank_of (move_step t i)) (2 * kind_ranks) (omega arith))
    ∙ (λ j. move_step (e j) (f j))

persist_back : (q : ℕ) → step_at (rank_of (persist_step q)) ≡ persist_step q
unfolding step_at rank_of
persist_back q =
    let e : rank_of (persist_step q) - 2 * kind_ranks ≡ q = omega arith in
    pick_false _ _ _ (le-ltb (rank_of (persist_step q)) kind_ranks (omega arith))
    ∙ pick_false _ _ _ (le-ltb (rank_of (persist_step q)) (2 * kind_ranks) (omega arith))
    ∙ ap persist_step e

-- of every legal step of a state that fits
module _ (p : Program) (s : State) (fit : Fits p s) where
  legal_back : (k : Step) → Listed k (legal_steps (ptso p) s) → step_at (rank_of k) ≡ k
  legal_back k h =
      let n = legal_listed p fit.program s k h in
      go (step_kinds p k n.0) n.1
    where
      go : Kinds p k → rule_of p s k ≡ 0 → step_at (rank_of k) ≡ k
      go (inl (t, low, e)) legal = rw e (issue_back t (thread_low fit.program low))
      go (inr (inl (t, i, low, e))) legal =
          let there = move_within p s fit t i low (rw e at legal) in
          let m = thread_low fit.program low in
          let long = buffer_long p s fit t m in
          let w = fit.few_waiting t m in
          rw e (move_back t i m (omega arith))
      go (inr (inr (q, low, e))) legal = rw e (persist_back q)

  pub ranks_lists : Lists (push_all (legal_steps (ptso p) s) blank) (legal_steps (ptso p) s)
  ranks_lists = ranks_list (legal_steps (ptso p) s) (legal_few p s fit) legal_back
