-- What a change of one part of a state does to the work left. Assumes nothing.
use Prim.Native.Nat.{ℕ, suc, ◌+◌, ◌*◌, ◌-◌, ◌≤◌, ◌<◌}
use mathlib.Core.Path.{◌≡◌, refl, ap, ◌∙◌}
use mathlib.Core.Logic.{◌≢◌}
use mathlib.Core.List.{List, [], ◌∷◌, ◌++◌}
use native.Mathlib.Omega.{arith}
use native.Mathlib.Nat.{add-zero}
use lib.ListN.{length, get_or, length-append}
use Rattle.cases.specs.declared.case.Program.{Program}
use Rattle.cases.specs.Sizes.{most_threads, most_instructions, most_locations}
use Rattle.cases.specs.Checks.{no_instruction, count_at, instruction_at}
use Rattle.machine.specs.declared.cells.State.{State}
use Rattle.machine.specs.declared.cells.Waiting.{Waiting}
use Rattle.machine.specs.declared.cells.Entry.{Entry}
use Rattle.machine.specs.Sizes.{room}
use Rattle.machine.specs.View.{Slot, queue, queue_len, with_queue, without, buffer, buffer_len, with_buffer}
use Rattle.machine.specs.View.{with_word, with_register, issued_of, with_issued}
use Rattle.machine.specs.Rules.{enqueue, await}
use Rattle.machine.specs.Fit.{sum_to, unissued, Fits}
use Rattle.machine.specs.Work.{unissued_weight, waiting_weight, unissued_code, thread_work, work, code_weight}
use Rattle.machine.specs.Work.{entry_weight, weigh}
use Rattle.machine.proofs.lists.SumLaws.{sum_change}
use Rattle.machine.proofs.lists.PartLaws.{part_next, drop_part}
use Rattle.machine.proofs.lists.PutLaws.{length_without}
use Rattle.machine.proofs.view.QueueLaws.{queue_len_same, queue_len_other}
use Rattle.machine.proofs.view.BufferLaws.{buffer_same, buffer_other}
use Rattle.machine.proofs.view.IssuedLaws.{issued_same, issued_other}
use Rattle.machine.proofs.fit.FitLaws.{fits_queue_within, fits_buffer_within, fits_queue_long}
use Rattle.machine.proofs.fit.FitLaws.{fits_buffer_long}
use Rattle.machine.proofs.fit.SpareLaws.{unissued_same, unissued_other}
use Rattle.machine.proofs.work.WeighLaws.{weigh_append, weigh_cons, weigh_without}
use Rattle.cases.proofs.Promises.{thread_low}

module _ (p : Program) (s : State) (f : Fits p s) where
  -- a queue put
  module _ (q : ℕ) (low : q < most_locations) (r : List Slot) (m : length r ≤ room) where
    pub work_queue : work p (with_queue s q r) + queue_len s q ≡ work p s + length r
    unfolding work
    work_queue =
        let n = fits_queue_within p s f q low in
        let c = sum_change most_locations q (queue_len (with_queue s q r)) (queue_len s) low
        (λ k a e. queue_len_other s f.sized q low n r m k e) in
        let e = queue_len_same s f.sized q low n r m in
        let b : sum_to most_threads (thread_work p (with_queue s q r)) ≡ sum_to most_threads (thread_work p s)
        = unfold with_queue thread_work unissued_code unissued in refl in
        omega arith

  -- one more at a queue's end
  pub work_enqueue : (q : ℕ) → q < most_locations → queue_len s q < room → (h : Slot)
      → work p (enqueue s q h) ≡ suc (work p s)
  unfolding enqueue
  work_enqueue q low less h =
      let n = fits_queue_long p s f q low in
      let k : length (queue s q ++ (h ∷ [])) ≡ suc (queue_len s q) = simp (length-append, n) (omega arith) in
      let w = work_queue q low (queue s q ++ (h ∷ [])) (omega arith) in
      omega arith

  -- a buffer put
  module _ (t : ℕ) (low : t < most_threads) (b : List Waiting) (m : length b ≤ most_instructions) where
    pub work_buffer :
        work p (with_buffer s t b) + weigh entry_weight (buffer s t) ≡ work p s + weigh entry_weight b
    unfolding work
    work_buffer =
        let n = fits_buffer_within p s f t low in
        let c = sum_change most_threads t (thread_work p (with_buffer s t b)) (thread_work p s) low other in
        let e : thread_work p (with_buffer s t b) t + weigh entry_weight (buffer s t)
        ≡ thread_work p s t + weigh entry_weight b
        = here in
        let q : sum_to most_locations (queue_len (with_buffer s t b)) ≡ sum_to most_locations (queue_len s)
        = unfold with_buffer in refl in
        omega arith
      where
        code : (k : ℕ) → unissued_code p (with_buffer s t b) k ≡ unissued_code p s k
        code k = unfold with_buffer unissued_code unissued in refl

        other : (k : ℕ) → k < most_threads → k ≢ t → thread_work p (with_buffer s t b) k ≡ thread_work p s k
        other k a e = unfold thread_work in
            rw (
              code k,
              buffer_other s f.sized t low (fits_buffer_within p s f t low) b m k e
                  (fits_buffer_within p s f k a),
            )

        here : thread_work p (with_buffer s t b) t + weigh entry_weight (buffer s t)
            ≡ thread_work p s t + weigh entry_weight b
        here = unfold thread_work in
            rw (code t, buffer_same s f.sized t low (fits_buffer_within p s f t low) b m) (omega arith)

  -- one more at a buffer's end; one taken out
  pub work_await : (t : ℕ) → t < most_threads → buffer_len s t < most_instructions → (e : Entry)
      → work p (await s t e) ≡ work p s + waiting_weight e
  unfolding await
  work_await t low less e =
      let n = fits_buffer_long p s f t low in
      let k : length (buffer s t ++ (record { entry = e } ∷ [])) ≡ suc (buffer_len s t)
      = simp (length-append, n) (omega arith) in
      let w = work_buffer t low (buffer s t ++ (record { entry = e } ∷ [])) (omega arith) in
      let a = weigh_append entry_weight (buffer s t) (record { entry = e } ∷ []) in
      let z : weigh entry_weight (record { entry = e } ∷ []) ≡ waiting_weight e = unfold weigh in add-zero _ in
      omega arith

  pub work_without : (t i : ℕ) (d : Waiting) → t < most_threads → i < buffer_len s t
      → work p (with_buffer s t (without i (buffer s t))) + waiting_weight (get_or (buffer s t) i d).entry
      ≡ work p s
  work_without t i d low there =
      let n = fits_buffer_long p s f t low in
      let k = length_without i (buffer s t) (omega arith) in
      let m = fits_buffer_within p s f t low in
      let w = work_buffer t low (without i (buffer s t)) (omega arith) in
      let a = weigh_without entry_weight (buffer s t) i d (omega arith) in
      omega arith

  -- an instruction counted as issued
  module _ (t : ℕ) (low : t < p.threads) (left : issued_of s t < count_at p t) where
    in_range : t < most_threads
    in_range = thread_low f.program low

    code_next : unissued_code p s t
        ≡ instruction_at p t (issued_of s t) ∷ unissued_code p (with_issued s t (issued_of s t + 1)) t
    unfolding unissued_code
    code_next =
        let c = f.program.sized.code_long in
        let m = f.program.sized.few_instructions t in
        let u : unissued p s t ≡ count_at p t - issued_of s t = unfold unissued in refl in
        let v = unissued_same p s f t low left in
        let e = issued_same s f.sized t (issued_of s t + 1) in_range in
        let at : t * most_instructions + issued_of s t + 1 ≡ t * most_instructions + (issued_of s t + 1)
        = omega arith in
        let one : unissued p s t - 1 ≡ unissued p (with_issued s t (issued_of s t + 1)) t = omega arith in
        part_next (t * most_instructions + issued_of s t) (unissued p s t) 0 p.code no_instruction
        (omega arith) (omega arith)
        ∙ rw (
          add-zero,
          drop_part 1 (t * most_instructions + issued_of s t) (unissued p s t)
              p.code,
          e,
          at,
          one,
        )

    other_work : (k : ℕ) → k < most_threads → k ≢ t
        → thread_work p (with_issued s t (issued_of s t + 1)) k ≡ thread_work p s k
    unfolding thread_work unissued_code with_issued
    other_work k a e =
        rw (unissued_other p s f t low left k e, issued_other s f.sized t (issued_of s t + 1) k e)

    here_work : thread_work p (with_issued s t (issued_of s t + 1)) t
        + unissued_weight (instruction_at p t (issued_of s t)).operation ≡ thread_work p s t
    unfolding thread_work
    here_work =
        let w : weigh code_weight (unissued_code p s t)
        ≡ unissued_weight (instruction_at p t (issued_of s t)).operation
        + weigh code_weight (unissued_code p (with_issued s t (issued_of s t + 1)) t)
        = ap (weigh code_weight) code_next ∙ weigh_cons code_weight _ _ in
        let b : weigh entry_weight (buffer (with_issued s t (issued_of s t + 1)) t)
        ≡ weigh entry_weight (buffer s t)
        = unfold with_issued in refl in
        omega arith

    pub work_counted : work p (with_issued s t (issued_of s t + 1))
        + unissued_weight (instruction_at p t (issued_of s t)).operation ≡ work p s
    unfolding work
    work_counted =
        let c = sum_change most_threads t (thread_work p (with_issued s t (issued_of s t + 1)))
        (thread_work p s) in_range
        other_work in
        let e = here_work in
        let q : sum_to most_locations (queue_len (with_issued s t (issued_of s t + 1)))
        ≡ sum_to most_locations (queue_len s)
        = unfold with_issued in refl in
        omega arith

  -- a word, a register
  pub work_word : (l w : ℕ) → work p (with_word s l w) ≡ work p s
  work_word l w = unfold with_word work thread_work unissued_code unissued in refl

  pub work_register : (t r w : ℕ) → work p (with_register s t r w) ≡ work p s
  work_register t r w = unfold with_register work thread_work unissued_code unissued in refl
