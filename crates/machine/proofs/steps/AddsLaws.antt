-- What an instruction does as it is issued, and an entry as it takes effect, to each part of the state: it adds
-- to the end of a buffer or of a queue, and leaves the rest. Assumes nothing.
use Prim.Native.Nat.{ℕ, ◌≤◌, ◌<◌}
use mathlib.Core.Path.{◌≡◌, refl, sym}
use mathlib.Core.Logic.{◌≢◌}
use mathlib.Core.Bool.{Bool, true, false}
use mathlib.Core.List.{List, [], ◌∷◌, ◌++◌, append-nil}
use native.Mathlib.Omega.{arith}
use native.Mathlib.Decide.{ℕ_discrete}
use borrow.Author.Tests.{eq-eqb, ne_eqb}
use lib.Dec.{eqb}
use lib.ListN.{length, length-append}
use Rattle.cases.specs.declared.case.Location.{Location}
use Rattle.cases.specs.declared.case.Register.{Register}
use Rattle.cases.specs.declared.case.Program.{Program}
use Rattle.cases.specs.Choice.{pick, both, either}
use Rattle.cases.specs.Sizes.{most_threads, most_instructions, most_locations}
use Rattle.cases.specs.Checks.{lines_of}
use Rattle.cases.specs.Operations.{exchange, compare, last_operation, first_operation}
use Rattle.machine.specs.declared.cells.State.{State}
use Rattle.machine.specs.declared.cells.Waiting.{Waiting}
use Rattle.machine.specs.declared.cells.Entry.{Entry}
use Rattle.machine.specs.declared.cells.Entry.TheVariants.{Store, Flush, FlushOpt, Sfence}
use Rattle.machine.specs.Sizes.{room}
use Rattle.machine.specs.View.{Slot, line_of, write_slot, marker_slot, queue, queue_len, with_queue, buffer}
use Rattle.machine.specs.View.{with_buffer, word_of, with_register, issued_of}
use Rattle.machine.specs.Rules.{enqueue, await, is_barrier, entry_of, loaded, fetched, exchanged, matches}
use Rattle.machine.specs.Rules.{compared, performed, effect_of}
use Rattle.machine.specs.Joins.{joins, swaps, exchanges, enters}
use Rattle.machine.specs.Fit.{Named}
use Rattle.machine.proofs.OperationLaws.{each_operation, of}
use Rattle.machine.proofs.view.QueueLaws.{queue_same, queue_other}
use Rattle.machine.proofs.view.LineOfLaws.{few_lines, line_there}
use Rattle.machine.proofs.view.BufferLaws.{buffer_same, buffer_other}
use Rattle.machine.proofs.fit.FitLaws.{fits_queue_within, fits_buffer_within, fits_queue_long}
use Rattle.machine.proofs.fit.FitLaws.{fits_buffer_long}
use Rattle.machine.proofs.fit.SpareLaws.{Spare, register_spare}
use Rattle.cases.proofs.Promises.{thread_low}

-- u is s with b at the end of thread t's buffer and r q at the end of each queue q; registers aside
pub record Adds (s u : State) (t : ℕ) (b : List Waiting) (r : ℕ → List Slot) : Type 0 where
  pub own : buffer u t ≡ buffer s t ++ b
  pub others : (k : ℕ) → k < most_threads → k ≢ t → buffer u k ≡ buffer s k
  pub queues : (q : ℕ) → q < most_locations → queue u q ≡ queue s q ++ r q
  pub counts : (k : ℕ) → issued_of u k ≡ issued_of s k
  pub words : (l : ℕ) → word_of u l ≡ word_of s l

-- nothing; what is added to a state with a register put
adds_none : (s : State) (t : ℕ) → Adds s s t [] (λ q. [])
adds_none s t =
    record {
      own = sym (append-nil _);
      others = λ k h e. refl;
      queues = λ q h. sym (append-nil _);
      counts = λ k. refl;
      words = λ l. refl;
    }

adds_register : (s u : State) (t n w : ℕ) (b : List Waiting) (r : ℕ → List Slot)
    → Adds (with_register s t n w) u t b r
    → Adds s u t b r
unfolding with_register
adds_register s u t n w b r a =
    record { own = a.own; others = a.others; queues = a.queues; counts = a.counts; words = a.words }

-- one more in the buffer, or in a queue
module _ (p : Program) (s : State) (t : ℕ) (o : Spare p s t) where
  adds_await : t < p.threads → (e : Entry) → Adds s (await s t e) t (record { entry = e } ∷ []) (λ q. [])
  unfolding await
  adds_await low e =
      let m = thread_low o.fit.program low in
      let n = fits_buffer_within p s o.fit t m in
      let h = fits_buffer_long p s o.fit t m in
      let w = o.space in
      let b : List Waiting = buffer s t ++ (record { entry = e } ∷ []) in
      let k : length b ≤ most_instructions = simp (length-append, h) (omega arith) in
      record {
        own = buffer_same s o.fit.sized t m n b k;
        others = λ j a d. buffer_other s o.fit.sized t m n b k j d (fits_buffer_within p s o.fit j a);
        queues = λ q a. unfold with_buffer in sym (append-nil _);
        counts = λ j. unfold with_buffer in refl;
        words = λ l. unfold with_buffer in refl;
      }

  adds_enqueue : (q : ℕ) → q < lines_of p → (h : Slot)
      → Adds s (enqueue s q h) t [] (λ k. pick (eqb q k) (h ∷ []) [])
  unfolding enqueue
  adds_enqueue q low h =
      record {
        own = unfold with_queue in sym (append-nil _);
        others = λ k a e. unfold with_queue in refl;
        queues = λ k a. queues k a (ℕ_discrete k q);
        counts = λ k. unfold with_queue in refl;
        words = λ k. unfold with_queue in refl;
      }
    where
      r : List Slot
      r = queue s q ++ (h ∷ [])

      in_range : q < most_locations
      in_range = let z = few_lines p o.fit.program in omega arith

      within : queue_len s q ≤ room
      within = fits_queue_within p s o.fit q in_range

      short : length r ≤ room
      short =
          let n = fits_queue_long p s o.fit q in_range in
          let w = o.queues q in_range in
          simp (length-append, n) (omega arith)

      queues : (k : ℕ) → k < most_locations → Dec (k ≡ q)
          → queue (with_queue s q r) k ≡ queue s k ++ pick (eqb q k) (h ∷ []) []
      queues k a (yes e) = unfold pick in
          rw (e, eq-eqb q q refl) (queue_same s o.fit.sized q in_range within r short)
      queues k a (no e) = unfold pick in
          rw (ne_eqb q k (λ d. e (sym d)), append-nil)
          (queue_other s o.fit.sized q in_range within r short k e (fits_queue_within p s o.fit k a))

-- an instruction that is counted already; an entry that is out of its buffer
module _ (p : Program) (s : State) (t : ℕ) (o : Spare p s t) (low : t < p.threads) where
  to : (l : ℕ) → l < p.locations → line_of p l < lines_of p
  to = line_there p o.fit.program

  module _ (l : Location) (r : Register) (w : ℕ) (there : l.0 < p.locations) where
    fetched_adds : Adds s (fetched p s t (of exchange l r w)) t [] (λ q. [])
    unfolding fetched
    fetched_adds = adds_register s _ t _ _ _ _ (adds_none _ t)

    exchanged_adds : Adds s (exchanged p s t (of exchange l r w)) t []
        (λ q. pick (eqb (line_of p l.0) q) (write_slot l.0 w ∷ []) [])
    unfolding exchanged fetched
    exchanged_adds =
        adds_register s _ t _ _ _ _
        (adds_enqueue p _ t (register_spare p s t o _ _) (line_of p l.0) (to l.0 there)
        (write_slot l.0 w))

    compared_adds : (b : Bool)
        → Adds s (pick b (exchanged p s t (of exchange l r w)) (fetched p s t (of exchange l r w))) t []
        (λ q. pick (both b (eqb (line_of p l.0) q)) (write_slot l.0 w ∷ []) [])
    unfolding pick both
    compared_adds true = exchanged_adds
    compared_adds false = fetched_adds

    pub performed_adds : (op : ℕ) → first_operation ≤ op → op ≤ last_operation
        → Adds s (performed p s t (of op l r w)) t (joins s.registers t (of op l r w))
        (λ q. exchanges p s t q (of op l r w))
    unfolding performed pick both either is_barrier entry_of loaded fetched exchanged compared joins swaps exchanges
    performed_adds =
        each_operation
        (λ op. Adds s (performed p s t (of op l r w)) t (joins s.registers t (of op l r w))
        (λ q. exchanges p s t q (of op l r w)))
        (adds_await p s t o low _)
        (adds_await p s t o low _)
        (adds_register s _ t _ _ _ _ (adds_none _ t))
        exchanged_adds
        (adds_await p s t o low _)
        (adds_await p s t o low _)
        (adds_await p s t o low _)
        (adds_none s t)
        (compared_adds (matches p s t (of compare l r w)))

  pub effect_adds : (e : Entry) → Named p.locations e
      → Adds s (effect_of p s t e) t [] (λ q. enters p t q e)
  unfolding effect_of Named enters
  effect_adds (Store w) h = adds_enqueue p s t o _ (to w.location.0 h) (write_slot w.location.0 w.word)
  effect_adds (Flush l) h = adds_none s t
  effect_adds (FlushOpt l) h = adds_enqueue p s t o _ (to l.0 h) (marker_slot t)
  effect_adds Sfence h = adds_none s t
