-- Where a run starts: the start fits every program of a case that can be read, and its work, the full length,
-- is at most the number of steps of a case. Assumes nothing.
use Prim.Native.Nat.{ℕ, ◌+◌, ◌*◌, ◌≤◌, ◌<◌}
use mathlib.Core.Path.{◌≡◌, refl}
use mathlib.Core.List.{[]}
use native.Mathlib.Omega.{arith}
use native.Mathlib.Nat.{add-zero}
use lib.ListN.{get_or, length-replicate}
use Rattle.cases.specs.declared.case.Program.{Program}
use Rattle.cases.specs.Sizes.{most_threads, most_instructions, most_locations, all_code}
use Rattle.cases.proofs.ArrayLaws.{get_or_blank}
use Rattle.cases.specs.Checks.{count_at}
use Rattle.machine.specs.Sizes.{room, all_slots, all_registers, most_work}
use Rattle.machine.specs.View.{part, slots, marks_in, queue, queue_in, queue_len, buffer, buffer_in}
use Rattle.machine.specs.View.{buffer_len, blank_waiting, issued_of, word_of}
use Rattle.machine.specs.Rules.{start_of}
use Rattle.machine.specs.Fit.{sum_to, unissued, due, Sized, Fits, AllOf}
use Rattle.cases.specs.Ranges.{ProgramFits}
use Rattle.machine.specs.Work.{unissued_code, thread_work, work, program_weight, code_weight, entry_weight}
use Rattle.machine.specs.Work.{weigh}
use Rattle.machine.specs.Model.{full_length}
use Rattle.machine.specs.Ptso.{ptso}
use Rattle.machine.proofs.lists.PartLaws.{length_part, part_none}
use Rattle.machine.proofs.lists.SumLaws.{sum_same, sum_none, sum_most}
use Rattle.machine.proofs.work.WeighLaws.{weigh_most, weight_most}

-- the start's parts: nothing queued, waiting or issued, the first contents
module _ (p : Program) where
  no_queue : (q : ℕ) → queue_len (start_of p) q ≡ 0
  unfolding start_of
  no_queue q = get_or_blank {A = ℕ} most_locations q 0

  no_buffer : (t : ℕ) → buffer_len (start_of p) t ≡ 0
  unfolding start_of
  no_buffer t = get_or_blank {A = ℕ} most_threads t 0

  no_words : (q : ℕ) → part (q * room) (queue_len (start_of p) q) (start_of p).held ≡ []
  no_words q = part_none _ _ _ (no_queue q)

  no_marks : (q : ℕ) → marks_in (start_of p).marks (start_of p).lengths q ≡ []
  unfolding marks_in
  no_marks q = part_none _ _ _ (no_queue q)

  pub start_buffer : (t : ℕ) → buffer (start_of p) t ≡ []
  unfolding buffer_in
  start_buffer t = part_none _ _ _ (no_buffer t)

  pub start_queue : (q : ℕ) → queue (start_of p) q ≡ []
  unfolding queue_in slots
  start_queue q = rw (no_words q)

  pub start_issued : (t : ℕ) → issued_of (start_of p) t ≡ 0
  unfolding start_of
  start_issued t = get_or_blank {A = ℕ} most_threads t 0

  pub start_word : (l : ℕ) → word_of (start_of p) l ≡ get_or p.first l 0
  unfolding start_of
  start_word l = refl

  unissued_all : (t : ℕ) → unissued p (start_of p) t ≡ count_at p t
  unfolding unissued
  unissued_all t = let e = start_issued t in omega arith

-- the start fits its program
module _ (p : Program) (g : ProgramFits p) where
  start_sized : Sized (start_of p)
  unfolding start_of
  start_sized =
      record {
        words_long = g.sized.first_long;
        held_long = length-replicate {A = ℕ} all_slots 0;
        marks_long = length-replicate {A = ℕ} all_slots 0;
        lengths_long = length-replicate {A = ℕ} most_locations 0;
        buffers_long = length-replicate all_code blank_waiting;
        waiting_long = length-replicate {A = ℕ} most_threads 0;
        registers_long = length-replicate {A = ℕ} all_registers 0;
        issued_long = length-replicate {A = ℕ} most_threads 0;
      }

  start_due : due p (start_of p) ≤ room
  unfolding due
  start_due =
      let a = sum_none most_threads (buffer_len (start_of p)) (λ t h. no_buffer p t) in
      let b = sum_most most_threads most_instructions (unissued p (start_of p))
      (λ t h. rw (unissued_all p t) (g.sized.few_instructions t)) in
      omega arith

  pub start_fits : Fits p (start_of p)
  start_fits =
      record {
        program = g;
        sized = start_sized;
        few_issued = λ t h. rw (start_issued p t) (omega arith);
        few_waiting =
            λ t h. rw (no_buffer p t, unissued_all p t) (let n = g.sized.few_instructions t in omega arith);
        few_queued = λ q h. rw (no_queue p q) (let n = start_due in omega arith);
        no_buffer = λ t h a. no_buffer p t;
        no_queue = λ q h a. no_queue p q;
        named = λ t h. rw (start_buffer p t) (unfold AllOf in tt);
        borne = λ q h. rw (no_marks p q) (unfold AllOf in tt);
      }

-- "The sum at the start is the program's full length, at most 96." With P6 192.
module _ (p : Program) (g : ProgramFits p) where
  start_thread : (t : ℕ) → t < most_threads → thread_work p (start_of p) t ≤ 3 * most_instructions
  unfolding thread_work unissued_code
  start_thread t h =
      let c = g.sized.code_long in
      let n = g.sized.few_instructions t in
      let e = start_issued p t in
      let u = unissued_all p t in
      let l = length_part (t * most_instructions + issued_of (start_of p) t) (unissued p (start_of p) t) p.code
      (omega arith) in
      let a = weigh_most code_weight 3 (λ x. weight_most x.operation)
      (part (t * most_instructions + issued_of (start_of p) t) (unissued p (start_of p) t) p.code) in
      let b : weigh entry_weight (buffer (start_of p) t) ≡ 0 = rw (start_buffer p t) (unfold weigh in refl) in
      omega arith

  pub full_most : full_length (ptso p) ≤ most_work
  unfolding full_length work
  full_most =
      let a = sum_most most_threads (3 * most_instructions) (thread_work p (start_of p)) start_thread in
      let b = sum_none most_locations (queue_len (start_of p)) (λ q h. no_queue p q) in
      omega arith

-- the full length is what the program's instructions weigh, and nothing else
module _ (p : Program) where
  start_weight : (t : ℕ) → thread_work p (start_of p) t ≡ program_weight p t
  unfolding thread_work unissued_code program_weight weigh
  start_weight t = rw (start_issued p t, unissued_all p t, start_buffer p t, add-zero, add-zero)

  pub full_weighs : full_length (ptso p) ≡ sum_to most_threads (program_weight p)
  unfolding full_length work
  full_weighs =
      let a = sum_same most_threads (thread_work p (start_of p)) (program_weight p) (λ t h. start_weight t) in
      let b = sum_none most_locations (queue_len (start_of p)) (λ q h. no_queue p q) in
      omega arith
