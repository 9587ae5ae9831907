-- A thread's writes enter a line's queue in the order in which the thread issued them: those that wait in its buffer
-- come next. Assumes nothing.
use Prim.Native.Nat.{ℕ, ◌≤◌, ◌<◌}
use mathlib.Core.Path.{◌≡◌, refl, sym, ap, ◌∙◌}
use mathlib.Core.Logic.{◌⊎◌, inl, inr, ⊎_elim}
use mathlib.Core.Bool.{Bool, true, false}
use mathlib.Core.List.{List, [], ◌∷◌, ◌++◌, append-nil}
use native.Mathlib.Omega.{arith}
use native.Mathlib.Decide.{ℕ_discrete}
use borrow.Author.Tests.{eq-eqb, ne_eqb, lt-ltb, le-ltb}
use lib.Dec.{eqb}
use Rattle.cases.specs.declared.case.Location.{Location}
use Rattle.cases.specs.declared.case.Register.{Register}
use Rattle.cases.specs.declared.case.Instruction.{Instruction}
use Rattle.cases.specs.declared.case.Step.{Step}
use Rattle.cases.specs.declared.case.Program.{Program}
use Rattle.cases.specs.Choice.{pick, both, either}
use Rattle.cases.specs.Operations.{last_operation, first_operation, compare, issue}
use Rattle.cases.proofs.ChoiceLaws.{pick_false}
use Rattle.cases.specs.Checks.{limits_of, lines_of, step_fault, instruction_at}
use Rattle.cases.specs.Ranges.{InstructionFits}
use Rattle.cases.proofs.Promises.{thread_low}
use Rattle.machine.specs.declared.cells.State.{State}
use Rattle.machine.specs.declared.cells.Waiting.{Waiting}
use Rattle.machine.specs.declared.cells.Entry.{Entry}
use Rattle.machine.specs.declared.cells.Entry.TheVariants.{Store, Flush, FlushOpt, Sfence}
use Rattle.machine.specs.Sizes.{first_marker}
use Rattle.machine.specs.View.{Slot, line_of, write_slot, marker_slot, mark_of, buffer, issued_of, blank_waiting}
use Rattle.machine.specs.Rules.{entry_at, entry_of, is_barrier, matches, rule_of, next_of}
use Rattle.machine.specs.Joins.{joins, swaps, exchanges, enters}
use Rattle.machine.specs.Fit.{Fits, Named, NamedBy}
use Rattle.machine.proofs.lists.AllLaws.{all_get}
use Rattle.machine.specs.Model.{Leads, Faultless}
use Rattle.machine.specs.Next.{issue_step, move_step, persist_step}
use Rattle.machine.specs.Ptso.{ptso}
use Rattle.machine.proofs.Promises.{step_fits}
use Rattle.machine.proofs.OperationLaws.{each_operation, of}
use Rattle.machine.proofs.Effects.{step_kinds, issue_left, issue_buffer, issue_buffer_other}
use Rattle.machine.proofs.Effects.{move_within, move_first_or, move_buffer, move_buffer_other, persist_buffer}
use Rattle.demands.specs.Writes.{really, fixed_by}
use Rattle.demands.specs.Entered.{brought_by, arrives, entered_from, writes_by, write_to, issues, issued_from}
use Rattle.demands.proofs.writes.StoresLaws.{gathered, gathered_append, gathered_without}
use Rattle.demands.proofs.writes.StoresLaws.{gathered_alone, gathered_swap}
use Rattle.demands.proofs.entered.ArrivalLaws.{joined, writes_append, writes_other}

-- the writes to line q that wait in a buffer
unfoldable pub store_to : Program → ℕ → Entry → List Slot
store_to p q (Store w) = pick (eqb (line_of p w.location.0) q) (write_slot w.location.0 w.word ∷ []) []
store_to p q (Flush l) = []
store_to p q (FlushOpt l) = []
store_to p q Sfence = []

abbrev pub waits : Program → ℕ → List Waiting → List Slot
waits p q b = gathered (store_to p q) b

-- a write that a thread brings is one of its writes; a marker is none
module _ (t : ℕ) where
  brought_write : (l w : ℕ) → l < first_marker → (b : Bool)
      → writes_by t (brought_by t (pick b (write_slot l w ∷ []) [])) ≡ pick b (write_slot l w ∷ []) []
  unfolding pick brought_by writes_by both
  brought_write l w there true = rw (eq-eqb t t refl, lt-ltb _ _ there) refl
  brought_write l w there false = refl

  brought_marker : (b : Bool) → writes_by t (brought_by t (pick b (marker_slot t ∷ []) [])) ≡ []
  unfolding pick brought_by writes_by both
  brought_marker true =
      let high : first_marker ≤ mark_of t = omega arith in
      rw (eq-eqb t t refl, le-ltb _ _ high) refl
  brought_marker false = refl

  -- an entry that moves brings the write that waited in it
  brought_entry : (p : Program) (q : ℕ) → p.locations ≤ first_marker → (e : Entry) → Named p.locations e
      → writes_by t (brought_by t (enters p t q e)) ≡ store_to p q e
  unfolding enters store_to Named
  brought_entry p q few (Store w) h = brought_write w.location.0 w.word (omega arith) _
  brought_entry p q few (Flush l) h = unfold brought_by writes_by in refl
  brought_entry p q few (FlushOpt l) h = brought_marker _
  brought_entry p q few Sfence h = unfold brought_by writes_by in refl

-- What an instruction makes goes into its thread's buffer or straight into the queue
module _ (p : Program) (s : State) (t q : ℕ) (m : Location) (r : Register) (w : ℕ) (there : m.0 < first_marker) where
  abbrev Splits : ℕ → Type 0
  Splits op = write_to p s t q (of op m r w)
      ≡ waits p q (joins s.registers t (of op m r w))
      ++ writes_by t (brought_by t (exchanges p s t q (of op m r w)))

  stored : (hs : List Slot) → hs ≡ (hs ++ []) ++ []
  stored hs = sym (append-nil (hs ++ []) ∙ append-nil hs)

  ordered_split : (op : ℕ) → first_operation ≤ op → op ≤ last_operation → Splits op
  unfolding write_to really swaps both either fixed_by joins is_barrier exchanges entry_of gathered store_to pick brought_by
      writes_by
  ordered_split =
      each_operation Splits
      (stored _)
      (stored _)
      refl
      (sym (brought_write t m.0 w there (eqb (line_of p m.0) q)))
      refl
      refl
      refl
      refl
      (sym (brought_write t m.0 w there (both (matches p s t (of compare m r w)) (eqb (line_of p m.0) q))))

-- a step of thread t, or of another: what waits and what it issues is what it brings and what waits then
abbrev Keeps : Program → State → Step → ℕ → ℕ → Type 0
Keeps p s k t q =
    waits p q (buffer s t) ++ issues p s k t q ≡ writes_by t (arrives p s k q) ++ waits p q (buffer (next_of p s k) t)

module _ (p : Program) (s : State) (f : Fits p s) (t q : ℕ) (low : t < p.threads) where
  -- a step that issues nothing of t, brings nothing of t and leaves its buffer alone
  still : (k : Step) → issues p s k t q ≡ [] → writes_by t (arrives p s k q) ≡ []
      → buffer (next_of p s k) t ≡ buffer s t
      → Keeps p s k t q
  still k a b c = rw (a, b, c) (append-nil (waits p q (buffer s t)))

  issues_none : (k : Step) (m : ℕ) → both (eqb k.code issue) (eqb k.thread.0 m) ≡ false
      → issues p s k m q ≡ []
  unfolding issues
  issues_none k m e = pick_false _ _ _ e

  persist_keeps : (m : ℕ) → m < lines_of p → rule_of p s (persist_step m) ≡ 0 → Keeps p s (persist_step m) t q
  persist_keeps m there legal =
      still (persist_step m) (issues_none (persist_step m) t (unfold both in refl))
      (unfold arrives pick writes_by in refl) (persist_buffer p s f m there legal t)

  -- Move
  module _ (m i : ℕ) (there : m < p.threads) (legal : rule_of p s (move_step m i) ≡ 0) where
    abbrev moved : Entry
    moved = entry_at (buffer s m) i

    first_or : (i ≡ 0) ⊎ (store_to p q moved ≡ [])
    unfolding store_to
    first_or = go (move_first_or p s f m i there legal)
      where
        go : (i ≡ 0) ⊎ ((l : Location) × (moved ≡ FlushOpt l)) → (i ≡ 0) ⊎ (store_to p q moved ≡ [])
        go (inl e) = inl e
        go (inr e) = inr (rw e.1)

    -- it names a location that the program has
    named : Named p.locations moved
    named =
        all_get (NamedBy p.locations) (buffer s m) i blank_waiting (f.named m (thread_low f.program there))
        (move_within p s f m i there legal)

    few : p.locations ≤ first_marker
    few = let most = f.program.sized.few_locations in omega arith

    move_own : Keeps p s (move_step m i) m q
    move_own =
        rw (issues_none (move_step m i) m (unfold both in refl), append-nil (waits p q (buffer s m)))
        (gathered_without (store_to p q) (buffer s m) i (move_within p s f m i there legal) first_or
        ∙ rw (move_buffer p s f m i there legal)
        (unfold arrives pick in rw (brought_entry m p q few moved named) refl))

    move_keeps : Keeps p s (move_step m i) t q
    move_keeps = go (ℕ_discrete m t)
      where
        go : Dec (m ≡ t) → Keeps p s (move_step m i) t q
        go (yes e) = rw (← e) move_own
        go (no e) =
            still (move_step m i) (issues_none (move_step m i) t (unfold both in refl))
            (unfold arrives pick in writes_other t m e _)
            (move_buffer_other p s f m i there legal t (thread_low f.program low) (λ z. e (sym z)))

  -- Issue
  module _ (m : ℕ) (there : m < p.threads) (legal : rule_of p s (issue_step m) ≡ 0) where
    abbrev next : Instruction
    next = instruction_at p m (issued_of s m)

    fits : InstructionFits p next
    fits = (f.program.instructions m (issued_of s m) (issue_left p s f m there legal)).1

    under : next.location.0 < first_marker
    under = let few = f.program.sized.few_locations in let l = fits.low_location in omega arith

    abbrev swapped : List Slot
    swapped = writes_by m (brought_by m (exchanges p s m q next))

    alone : ((waits p q (buffer s m) ≡ []) × (waits p q (joins s.registers m next) ≡ [])) ⊎ (swapped ≡ [])
    alone = ⊎_elim inl (λ e. inr (none e)) (gathered_alone (store_to p q) p s f m there legal)
      where
        none : swaps p s m next ≡ false → swapped ≡ []
        none e = unfold exchanges both pick brought_by writes_by in rw e refl

    issue_own : Keeps p s (issue_step m) m q
    unfolding issues both pick arrives
    issue_own =
        rw (
          eq-eqb m m refl,
          ordered_split p s m q next.location next.register next.word under next.operation
              fits.some_operation
              fits.low_operation,
          issue_buffer p s f m there legal,
          gathered_append (store_to p q) (buffer s m) (joins s.registers m next),
        )
        (gathered_swap (waits p q (buffer s m)) _ swapped alone)

    issue_keeps : Keeps p s (issue_step m) t q
    issue_keeps = go (ℕ_discrete m t)
      where
        go : Dec (m ≡ t) → Keeps p s (issue_step m) t q
        go (yes e) = rw (← e) issue_own
        go (no e) =
            still (issue_step m) (issues_none (issue_step m) t (unfold both in ne_eqb m t e))
            (unfold arrives pick in writes_other t m e _)
            (issue_buffer_other p s f m there legal t (thread_low f.program low) (λ z. e (sym z)))

  step_keeps : (k : Step) → step_fault (limits_of p) k ≡ 0 → rule_of p s k ≡ 0 → Keeps p s k t q
  step_keeps k faultless legal = go (step_kinds p k faultless)
    where
      go : ((m : ℕ) × (m < p.threads) × (k ≡ issue_step m))
          ⊎ ((m : ℕ) × (i : ℕ) × (m < p.threads) × (k ≡ move_step m i))
          ⊎ ((m : ℕ) × (m < lines_of p) × (k ≡ persist_step m)) → Keeps p s k t q
      go (inl x) = rw x.2 (issue_keeps x.0 x.1 (rw x.2 at legal))
      go (inr (inl x)) = rw x.3 (move_keeps x.0 x.1 x.2 (rw x.3 at legal))
      go (inr (inr x)) = rw x.2 (persist_keeps x.0 x.1 (rw x.2 at legal))

-- along a run
pub run_ordered : (p : Program) (t q : ℕ) → t < p.threads → (s : State) (ks : List Step) (u : State) → Fits p s
    → Faultless (ptso p) ks
    → Leads (ptso p) s ks u
    → waits p q (buffer s t) ++ issued_from p s ks t q
    ≡ writes_by t (entered_from p s ks q) ++ waits p q (buffer u t)
unfolding Faultless Leads entered_from issued_from
run_ordered p t q low s [] u f r h =
    append-nil (waits p q (buffer s t)) ∙ ap (λ x. waits p q (buffer x t)) h ∙ none
  where
    none : waits p q (buffer u t) ≡ writes_by t [] ++ waits p q (buffer u t)
    none = unfold writes_by in refl
run_ordered p t q low s (k ∷ ks) u f r h =
    let o = step_keeps p s f t q low k r.0 h.0 in
    let rest = run_ordered p t q low (next_of p s k) ks u (step_fits p s f k r.0 h.0) r.1 h.1 in
    joined (waits p q (buffer s t)) _ _ (writes_by t (arrives p s k q)) _ _ _ o rest
    ∙ ap (λ x. x ++ waits p q (buffer u t)) (sym (writes_append t (arrives p s k q) _))
