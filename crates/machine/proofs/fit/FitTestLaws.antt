-- The test of a state's fit and the facts of it say the same. Assumes nothing.
use Prim.Native.Nat.{ℕ, ◌+◌, ◌≤◌, ◌<◌}
use mathlib.Core.Path.{◌≡◌, refl, ◌∙◌}
use mathlib.Core.Logic.{inl, inr}
use mathlib.Core.Bool.{Bool, true, false, not}
use native.Mathlib.Omega.{arith}
use lib.Dec.{eqb, leb, ltb}
use borrow.Author.Tests.{leb-true, leb-false, lt-leb, le-leb, ltb-false, lt-ltb, le-ltb, eqb-true, eq-eqb, not-false}
use Rattle.cases.specs.declared.case.Program.{Program}
use Rattle.cases.specs.declared.case.Case.{Case}
use Rattle.cases.specs.Choice.{pick, both, either}
use Rattle.cases.specs.Sizes.{most_threads, most_instructions, most_locations}
use Rattle.cases.specs.Writing.{reads_back}
use Rattle.cases.proofs.ChoiceLaws.{pick_true, pick_false, either_false, either_none, true_not}
use Rattle.cases.proofs.Promises.{readable_ranged}
use Rattle.cases.specs.Checks.{count_at, lines_of}
use Rattle.machine.specs.declared.cells.State.{State}
use Rattle.machine.specs.declared.cells.Entry.{Entry}
use Rattle.machine.specs.declared.cells.Entry.TheVariants.{Store, Flush, FlushOpt, Sfence}
use Rattle.machine.specs.Sizes.{room, first_marker}
use Rattle.machine.specs.View.{mark_of, line_of, queue_len, marks_in, buffer, buffer_len, issued_of}
use Rattle.machine.specs.Rules.{start_of}
use Rattle.machine.specs.Fit.{strays, foreign, unissued, due, thread_misfits, queue_misfits, misfits, Sized, Named}
use Rattle.machine.specs.Fit.{Fits, AllOf, Borne, NamedBy}
use Rattle.cases.specs.Ranges.{ProgramFits}
use Rattle.machine.proofs.lists.AnyLaws.{any_none, none_any}
use Rattle.machine.proofs.fit.StartLaws.{start_fits}
use Rattle.machine.proofs.lists.AllLaws.{all_none, none_all}

-- nothing stands where the program has no such thread or queue
none_is : (m i n : ℕ) → both (leb m i) (ltb 0 n) ≡ false → m ≤ i → n ≡ 0
unfolding both
none_is m i n h l = let e = ltb-false 0 n (rw (le-leb m i l) at h) in omega arith

is_none : (m i n : ℕ) → (m ≤ i → n ≡ 0) → both (leb m i) (ltb 0 n) ≡ false
is_none m i n h = go (leb m i) refl
  where
    go : (b : Bool) → leb m i ≡ b → both b (ltb 0 n) ≡ false
    go true e = unfold both in le-ltb 0 n (let z = h (leb-true m i e) in omega arith)
    go false e = unfold both in refl

-- an entry that is not stray names a location that there is, and back
named_is : (n : ℕ) (e : Entry) → strays n e ≡ false → Named n e
unfolding strays Named
named_is n (Store w) h = leb-false _ _ h
named_is n (Flush l) h = leb-false _ _ h
named_is n (FlushOpt l) h = leb-false _ _ h
named_is n Sfence h = tt

is_named : (n : ℕ) (e : Entry) → Named n e → strays n e ≡ false
unfolding strays Named
is_named n (Store w) h = lt-leb _ _ h
is_named n (Flush l) h = lt-leb _ _ h
is_named n (FlushOpt l) h = lt-leb _ _ h
is_named n Sfence h = refl

-- a mark that is not foreign belongs in the queue, and back: a write is of a location below every marker
module _ (p : Program) (q : ℕ) where
  borne_is : (m : ℕ) → foreign p q m ≡ false → Borne p q m
  unfolding foreign pick
  borne_is m h = go (ltb m first_marker) refl h
    where
      go : (b : Bool) → ltb m first_marker ≡ b
          → pick b (either (leb p.locations m) (not (eqb (line_of p m) q))) (leb (mark_of p.threads) m) ≡ false
          → Borne p q m
      go true e f =
          let a = either_false _ _ f in
          inl (leb-false _ _ a.0, eqb-true _ _ (not-false _ a.1))
      go false e f = inr (ltb-false _ _ e, leb-false _ _ f)

  is_borne : p.locations ≤ first_marker → (m : ℕ) → Borne p q m → foreign p q m ≡ false
  unfolding foreign
  is_borne few m (inl (h, e)) =
      let k : m < first_marker = omega arith in
      pick_true _ _ _ (lt-ltb _ _ k)
      ∙ either_none _ _ (lt-leb _ _ h) (true_not _ (eq-eqb _ _ e))
  is_borne few m (inr (h, k)) = pick_false _ _ _ (le-ltb _ _ h) ∙ lt-leb _ _ k

-- a thread's part, and a queue's
record ThreadFits (p : Program) (s : State) (t : ℕ) : Type 0 where
  few_issued : issued_of s t ≤ count_at p t
  no_buffer : p.threads ≤ t → buffer_len s t ≡ 0
  few_waiting : buffer_len s t + unissued p s t ≤ most_instructions
  named : AllOf (NamedBy p.locations) (buffer s t)

record QueueFits (p : Program) (s : State) (q : ℕ) : Type 0 where
  no_queue : lines_of p ≤ q → queue_len s q ≡ 0
  few_queued : queue_len s q + due p s ≤ room
  borne : AllOf (Borne p q) (marks_in s.marks s.lengths q)

module _ (p : Program) (s : State) where
  thread_is : (t : ℕ) → thread_misfits p s t ≡ false → ThreadFits p s t
  unfolding thread_misfits
  thread_is t h =
      let a = either_false _ _ h in
      let b = either_false _ _ a.1 in
      let c = either_false _ _ b.1 in
      record {
        few_issued = ltb-false _ _ a.0;
        no_buffer = none_is _ _ _ b.0;
        few_waiting = ltb-false _ _ c.0;
        named = none_all (NamedBy p.locations) _ (λ w. named_is _ w.entry) _ c.1;
      }

  is_thread : (t : ℕ) → ThreadFits p s t → thread_misfits p s t ≡ false
  unfolding thread_misfits
  is_thread t f =
      either_none _ _ (le-ltb _ _ f.few_issued)
      (either_none _ _ (is_none _ _ _ f.no_buffer)
      (either_none _ _ (le-ltb _ _ f.few_waiting)
      (all_none (NamedBy p.locations) _ (λ w. is_named _ w.entry) _ f.named)))

  queue_is : (q : ℕ) → queue_misfits p s q ≡ false → QueueFits p s q
  unfolding queue_misfits
  queue_is q h =
      let a = either_false _ _ h in
      let b = either_false _ _ a.1 in
      record {
        no_queue = none_is _ _ _ a.0;
        few_queued = ltb-false _ _ b.0;
        borne = none_all (Borne p q) _ (borne_is p q) _ b.1;
      }

  is_queue : (q : ℕ) → p.locations ≤ first_marker → QueueFits p s q → queue_misfits p s q ≡ false
  unfolding queue_misfits
  is_queue q few f =
      either_none _ _ (is_none _ _ _ f.no_queue)
      (either_none _ _ (le-ltb _ _ f.few_queued)
      (all_none (Borne p q) _ (is_borne p q few) _ f.borne))

  -- the test is false: the facts hold
  pub fits_is : ProgramFits p → Sized s → misfits p s ≡ false → Fits p s
  unfolding misfits
  fits_is g z h =
      record {
        program = g;
        sized = z;
        few_issued = λ t k. (thread t k).few_issued;
        few_waiting = λ t k. (thread t k).few_waiting;
        few_queued = λ q k. (queue q k).few_queued;
        no_buffer = λ t k. (thread t k).no_buffer;
        no_queue = λ q k. (queue q k).no_queue;
        named = λ t k. (thread t k).named;
        borne = λ q k. (queue q k).borne;
      }
    where
      thread : (t : ℕ) → t < most_threads → ThreadFits p s t
      thread t k = thread_is t (any_none _ 0 most_threads t (either_false _ _ h).0 (omega arith) (omega arith))

      queue : (q : ℕ) → q < most_locations → QueueFits p s q
      queue q k = queue_is q (any_none _ 0 most_locations q (either_false _ _ h).1 (omega arith) (omega arith))

  -- and back
  pub is_fits : Fits p s → misfits p s ≡ false
  unfolding misfits
  is_fits f =
      either_none _ _ (none_any _ 0 most_threads (λ t a b. is_thread t (thread t (omega arith))))
      (none_any _ 0 most_locations (λ q a b. is_queue q few (queue q (omega arith))))
    where
      thread : (t : ℕ) → t < most_threads → ThreadFits p s t
      thread t k =
          record {
            few_issued = f.few_issued t k;
            no_buffer = f.no_buffer t k;
            few_waiting = f.few_waiting t k;
            named = f.named t k;
          }

      queue : (q : ℕ) → q < most_locations → QueueFits p s q
      queue q k =
          record {
            no_queue = f.no_queue q k;
            few_queued = f.few_queued q k;
            borne = f.borne q k;
          }

      few : p.locations ≤ first_marker
      few = let w = f.program.sized.few_locations in omega arith

-- the program of a case that passes 32 fits: with a state that passes 33, and where its runs start
module _ (c : Case) (readable : reads_back c ≡ true) where
  pub readable_fits : (s : State) → Sized s → misfits c.program s ≡ false → Fits c.program s
  readable_fits s z h = fits_is c.program s (readable_ranged c readable).program z h

  pub readable_start : (s : State) → s ≡ start_of c.program → Fits c.program s
  readable_start s e = rw e (start_fits c.program (readable_ranged c readable).program)
