-- A fit with room for one entry more in thread t's buffer and in each queue. Taking an entry out of a buffer,
-- or counting an instruction as issued, leaves it; putting one in uses it up. Assumes nothing.
use Prim.Native.Nat.{ℕ, suc, ◌+◌, ◌≤◌, ◌<◌}
use mathlib.Core.Path.{◌≡◌, refl, sym, ap, ◌∙◌}
use mathlib.Core.Logic.{◌≢◌}
use mathlib.Core.List.{List, [], ◌∷◌, ◌++◌}
use native.Mathlib.Omega.{arith}
use native.Mathlib.Decide.{ℕ_discrete}
use lib.ListN.{length, length-append}
use Rattle.cases.specs.declared.case.Program.{Program}
use Rattle.cases.specs.Sizes.{most_threads, most_instructions, most_locations}
use Rattle.cases.specs.Checks.{count_at, lines_of}
use Rattle.machine.specs.declared.cells.State.{State}
use Rattle.machine.specs.declared.cells.Waiting.{Waiting}
use Rattle.machine.specs.declared.cells.Entry.{Entry}
use Rattle.machine.specs.Sizes.{room}
use Rattle.machine.specs.View.{Slot, marks_of, marks_in, queue, queue_len, without, buffer, buffer_len}
use Rattle.machine.specs.View.{with_buffer, with_register, issued_of, with_issued}
use Rattle.machine.specs.Rules.{enqueue, await}
use Rattle.machine.specs.Fit.{sum_to, unissued, due, Fits, Named, AllOf, Borne, NamedBy}
use Rattle.machine.proofs.lists.SumLaws.{sum_change}
use Rattle.machine.proofs.lists.PutLaws.{length_without}
use Rattle.machine.proofs.view.SlotLaws.{marks_append}
use Rattle.machine.proofs.view.QueueLaws.{queue_marks}
use Rattle.machine.proofs.view.LineOfLaws.{few_lines}
use Rattle.machine.proofs.view.BufferLaws.{buffer_len_same}
use Rattle.machine.proofs.view.SizedLaws.{sized_issued}
use Rattle.machine.proofs.view.IssuedLaws.{issued_same, issued_other}
use Rattle.machine.proofs.fit.FitLaws.{fits_queue_within, fits_buffer_within, fits_queue_long}
use Rattle.machine.proofs.fit.FitLaws.{fits_buffer_long, fits_queue, due_buffer, fits_buffer}
use Rattle.machine.proofs.fit.FitLaws.{fits_register}
use Rattle.machine.proofs.lists.AllLaws.{all_append, all_without}
use Rattle.cases.proofs.Promises.{thread_low}

-- room for one more
pub record Spare (p : Program) (s : State) (t : ℕ) : Type 0 where
  pub fit : Fits p s
  pub space : buffer_len s t + unissued p s t < most_instructions
  pub queues : (q : ℕ) → q < most_locations → queue_len s q + due p s < room

-- the marks of a queue of a state that fits are its slots' marks
pub marks_fit : (p : Program) (s : State) (f : Fits p s) (q : ℕ) → q < most_locations
    → marks_of (queue s q) ≡ marks_in s.marks s.lengths q
marks_fit p s f q low =
    let h = f.sized.held_long in
    let m = f.sized.marks_long in
    let n = fits_queue_within p s f q low in
    queue_marks s.held s.marks s.lengths q (omega arith) (omega arith)

-- they belong there: the oldest entry's, and the rest
pub marks_borne : (p : Program) (s : State) (f : Fits p s) (q : ℕ) → q < most_locations
    → (h : Slot) (r : List Slot) → queue s q ≡ h ∷ r
    → Borne p q h.mark × AllOf (Borne p q) (marks_of r)
unfolding marks_of AllOf
marks_borne p s f q low h r e = rw (sym (marks_fit p s f q low) ∙ ap marks_of e) at (f.borne q low)

-- an entry taken out of a buffer
module _ (p : Program) (s : State) (f : Fits p s) (t i : ℕ) (low : t < p.threads)
    (there : i < buffer_len s t) where
  in_threads : t < most_threads
  in_threads = thread_low f.program low

  shorter : suc (length (without i (buffer s t))) ≡ buffer_len s t
  shorter =
      let e = fits_buffer_long p s f t in_threads in
      length_without i (buffer s t) (omega arith) ∙ e

  pub taken_spare : Spare p (with_buffer s t (without i (buffer s t))) t
  taken_spare =
      record {
        fit = fits_buffer p s f t low b few (λ q h. let w = f.few_queued q h in let e = lower in omega arith)
            (all_without (NamedBy p.locations) (buffer s t) i (f.named t in_threads));
        space = room_left;
        queues = λ q h. unfold with_buffer in (let w = f.few_queued q h in let e = lower in omega arith);
      }
    where
      b : List Waiting
      b = without i (buffer s t)

      few : length b + unissued p s t ≤ most_instructions
      few = let e = shorter in let w = f.few_waiting t in_threads in omega arith

      lower : suc (due p (with_buffer s t b)) ≡ due p s
      lower = let e = shorter in let d = due_buffer p s f t low b few in omega arith

      room_left : buffer_len (with_buffer s t b) t + unissued p (with_buffer s t b) t < most_instructions
      room_left =
          let n = fits_buffer_within p s f t in_threads in
          let k : length b ≤ most_instructions = omega (arith, few) in
          let e = shorter in
          let w = f.few_waiting t in_threads in
          let u : unissued p (with_buffer s t b) t ≡ unissued p s t = unfold with_buffer unissued in refl in
          rw (buffer_len_same s f.sized t in_threads n b k, u) (omega arith)

-- an instruction counted as issued
module _ (p : Program) (s : State) (f : Fits p s) (t : ℕ) (low : t < p.threads)
    (left : issued_of s t < count_at p t) where
  abbrev counted : State
  counted = with_issued s t (issued_of s t + 1)

  in_range : t < most_threads
  in_range = thread_low f.program low

  pub unissued_same : suc (unissued p counted t) ≡ unissued p s t
  unfolding unissued
  unissued_same = let e = issued_same s f.sized t (issued_of s t + 1) in_range in rw e (omega arith)

  pub unissued_other : (k : ℕ) → k ≢ t → unissued p counted k ≡ unissued p s k
  unfolding unissued
  unissued_other k h = rw (issued_other s f.sized t (issued_of s t + 1) k h)

  due_counted : suc (due p counted) ≡ due p s
  unfolding due
  due_counted =
      let c = sum_change most_threads t (unissued p counted) (unissued p s) in_range
      (λ k a e. unissued_other k e) in
      let e = unissued_same in
      let b : sum_to most_threads (buffer_len counted) ≡ sum_to most_threads (buffer_len s)
      = unfold with_issued in refl in
      omega arith

  pub counted_spare : Spare p counted t
  counted_spare =
      record {
        fit = record {
          program = f.program;
          sized = sized_issued s f.sized t (issued_of s t + 1);
          few_issued = λ k h. count k h (ℕ_discrete k t);
          few_waiting = λ k h. wait k h (ℕ_discrete k t);
          few_queued =
              λ q h. unfold with_issued in (let w = f.few_queued q h in let e = due_counted in omega arith);
          no_buffer = unfold with_issued in f.no_buffer;
          no_queue = unfold with_issued in f.no_queue;
          named = unfold with_issued in f.named;
          borne = unfold with_issued in f.borne;
        };
        space =
            unfold with_issued in (let w = f.few_waiting t in_range in let e = unissued_same in omega arith);
        queues = λ q h. unfold with_issued in (let w = f.few_queued q h in let e = due_counted in omega arith);
      }
    where
      count : (k : ℕ) → k < most_threads → Dec (k ≡ t) → issued_of counted k ≤ count_at p k
      count k h (yes e) = rw (e, issued_same s f.sized t (issued_of s t + 1) in_range) (omega arith)
      count k h (no e) = rw (issued_other s f.sized t (issued_of s t + 1) k e) (f.few_issued k h)

      wait : (k : ℕ) → k < most_threads → Dec (k ≡ t)
          → buffer_len counted k + unissued p counted k ≤ most_instructions
      wait k h (yes e) =
          unfold with_issued in rw e (let w = f.few_waiting t in_range in let e = unissued_same in omega arith)
      wait k h (no e) = unfold with_issued in rw (unissued_other k e) (f.few_waiting k h)

-- what uses the room up: an entry more in the buffer, or in a queue
module _ (p : Program) (s : State) (t : ℕ) (o : Spare p s t) where
  pub await_fits : t < p.threads → (e : Entry) → Named p.locations e → Fits p (await s t e)
  unfolding await
  await_fits low e named =
      let z = thread_low o.fit.program low in
      let n = fits_buffer_long p s o.fit t (omega arith) in
      let k : length (buffer s t ++ (record { entry = e } ∷ [])) ≡ suc (buffer_len s t)
      = simp (length-append, n) (omega arith) in
      let w = o.space in
      let d = due_buffer p s o.fit t low (buffer s t ++ (record { entry = e } ∷ [])) (omega arith) in
      fits_buffer p s o.fit t low (buffer s t ++ (record { entry = e } ∷ [])) (omega arith)
      (λ q h. let w = o.queues q h in omega arith)
      (all_append (NamedBy p.locations) (buffer s t) _ (o.fit.named t (omega arith))
      (unfold AllOf in (named, tt)))

  pub enqueue_fits : (q : ℕ) → q < lines_of p → (h : Slot) → Borne p q h.mark → Fits p (enqueue s q h)
  unfolding enqueue
  enqueue_fits q low h borne =
      let z = few_lines p o.fit.program in
      let n = fits_queue_long p s o.fit q (omega arith) in
      let k : length (queue s q ++ (h ∷ [])) ≡ suc (queue_len s q) = simp (length-append, n) (omega arith) in
      let w = o.queues q (omega arith) in
      fits_queue p s o.fit q low (queue s q ++ (h ∷ [])) (omega arith)
      (rw (marks_append (queue s q) (h ∷ []), marks_fit p s o.fit q (omega arith))
      (all_append (Borne p q) _ _ (o.fit.borne q (omega arith)) (unfold AllOf marks_of in (borne, tt))))

  pub register_spare : (r w : ℕ) → Spare p (with_register s t r w) t
  register_spare r w =
      record {
        fit = fits_register p s o.fit t r w;
        space = unfold with_register unissued in o.space;
        queues = unfold with_register due unissued in o.queues;
      }
