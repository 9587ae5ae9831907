-- What a legal persist does to each part of the state, as lists: the oldest of the queue is taken, and its word
-- put where it goes. Assumes nothing.
use Prim.Native.Nat.{ℕ, suc, ◌≤◌, ◌<◌}
use mathlib.Core.Path.{◌≡◌, refl, ap, ◌∙◌}
use mathlib.Core.Logic.{◌≢◌}
use mathlib.Core.List.{List, [], ◌∷◌}
use native.Mathlib.Omega.{arith}
use lib.ListN.{length}
use Rattle.cases.specs.declared.case.Program.{Program}
use Rattle.cases.specs.Choice.{pick}
use Rattle.cases.specs.Sizes.{most_locations}
use Rattle.cases.specs.Checks.{lines_of}
use Rattle.cases.proofs.ChoiceLaws.{pick_cases}
use Rattle.machine.specs.declared.cells.State.{State}
use Rattle.machine.specs.Sizes.{room}
use Rattle.machine.specs.View.{Slot, queue, queue_len, with_queue, buffer, word_of, with_word}
use Rattle.machine.specs.View.{issued_of}
use Rattle.machine.specs.Look.{word_or}
use Rattle.machine.specs.Rules.{settled, persist_first, persist_of, rule_in, rule_of, next_of}
use Rattle.machine.specs.Next.{persist_step}
use Rattle.machine.specs.Fit.{Fits, Sized}
use Rattle.machine.proofs.view.QueueLaws.{queue_same, queue_other}
use Rattle.machine.proofs.view.SizedLaws.{sized_word}
use Rattle.machine.proofs.view.LineOfLaws.{few_lines}
use Rattle.machine.proofs.fit.FitLaws.{fits_queue_within, fits_queue_long}
use Rattle.machine.proofs.moves.MoveLaws.{settled_word}
use Rattle.machine.proofs.steps.StepLaws.{persist_there}

module _ (p : Program) (s : State) (f : Fits p s) (q : ℕ) (low : q < lines_of p)
    (legal : rule_of p s (persist_step q) ≡ 0) where
  in_range : q < most_locations
  in_range = let w = few_lines p f.program in omega arith

  few : queue_len s q ≤ room
  few = fits_queue_within p s f q in_range

  oldest : (h : Slot) × (r : List Slot) × (queue s q ≡ h ∷ r)
      × (next_of p s (persist_step q) ≡ with_queue (settled s h) q r)
  unfolding rule_of rule_in next_of pick persist_of persist_first
  oldest = go (queue s q) refl
    where
      go : (r : List Slot) → queue s q ≡ r
          → (h : Slot) × (k : List Slot) × (r ≡ h ∷ k) × (persist_first s q r ≡ with_queue (settled s h) q k)
      go [] e =
          let n = fits_queue_long p s f q in_range in
          let k : length (queue s q) ≡ 0 = ap length e in
          let w = persist_there p s f q low legal in
          absurd (omega arith)
      go (h ∷ r) e = (h, r, refl, refl)

  short : length oldest.1 ≤ room
  short =
      let n = fits_queue_long p s f q in_range in
      let m = few in
      let k : length (queue s q) ≡ suc (length oldest.1) = ap length oldest.2 in
      omega arith

  -- what an entry that settles leaves as it was
  same : {A : Type 0} (get : State → A) → ((l w : ℕ) → get (with_word s l w) ≡ get s) → (h : Slot)
      → get (settled s h) ≡ get s
  unfolding settled
  same get e h = pick_cases (λ u. get u ≡ get s) _ _ s (λ c. e h.mark h.word) (λ c. refl)

  sized : (h : Slot) → Sized (settled s h)
  unfolding settled
  sized h = pick_cases Sized _ _ s (λ c. sized_word s f.sized _ _) (λ c. f.sized)

  within : (h : Slot) (k : ℕ) → k < most_locations → queue_len (settled s h) k ≤ room
  within h k low =
      rw (same (λ u. queue_len u k) (λ l w. unfold with_word in refl) h) (fits_queue_within p s f k low)

  rest : queue (next_of p s (persist_step q)) q ≡ oldest.1
  rest =
      ap (λ u. queue u q) oldest.3
      ∙ queue_same _ (sized oldest.0) q in_range (within oldest.0 q in_range) _ short

  pub persist_issued : (k : ℕ) → issued_of (next_of p s (persist_step q)) k ≡ issued_of s k
  unfolding with_queue
  persist_issued k =
      ap (λ u. issued_of u k) oldest.3 ∙ same (λ u. issued_of u k) (λ l w. unfold with_word in refl) oldest.0

  pub persist_buffer : (t : ℕ) → buffer (next_of p s (persist_step q)) t ≡ buffer s t
  unfolding with_queue
  persist_buffer t =
      ap (λ u. buffer u t) oldest.3 ∙ same (λ u. buffer u t) (λ l w. unfold with_word in refl) oldest.0

  -- the oldest of the queue, and what it makes of each location's word
  pub persist_taken : (h : Slot) × (queue s q ≡ h ∷ queue (next_of p s (persist_step q)) q)
      × ((l : ℕ) → l < most_locations → word_of (next_of p s (persist_step q)) l ≡ word_or l h (word_of s l))
  unfolding with_queue
  persist_taken = (
    oldest.0,
    rw rest oldest.2,
    (λ l low. ap (λ u. word_of u l) oldest.3 ∙ settled_word s oldest.0 f.sized.words_long l low),
  )

  pub persist_queue : (h : Slot) × (queue s q ≡ h ∷ queue (next_of p s (persist_step q)) q)
  persist_queue = (persist_taken.0, persist_taken.1)

  pub persist_queue_other : (m : ℕ) → m < most_locations → m ≢ q
      → queue (next_of p s (persist_step q)) m ≡ queue s m
  persist_queue_other m h e =
      ap (λ u. queue u m) oldest.3
      ∙ queue_other _ (sized oldest.0) q in_range (within oldest.0 q in_range) _ short m e
      (within oldest.0 m h)
      ∙ same (λ u. queue u m) (λ l w. unfold with_word in refl) oldest.0
