-- What a legal move does to each part of the state, as lists: AddsLaws has what an entry adds; here is what
-- taking it out changes besides. Assumes nothing.
use Prim.Native.Nat.{ℕ, ◌≤◌, ◌<◌}
use mathlib.Core.Path.{◌≡◌, refl, ◌∙◌}
use mathlib.Core.Logic.{◌⊎◌, inl, inr, ◌≢◌}
use mathlib.Core.Bool.{Bool, true, false}
use mathlib.Core.List.{List, [], ◌++◌, append-nil}
use native.Mathlib.Omega.{arith}
use borrow.Author.Tests.{eqb-true}
use lib.Dec.{eqb}
use lib.ListN.{length}
use Rattle.cases.specs.declared.case.Location.{Location}
use Rattle.cases.specs.declared.case.Program.{Program}
use Rattle.cases.specs.Choice.{pick}
use Rattle.cases.specs.Sizes.{most_threads, most_instructions, most_locations}
use Rattle.cases.proofs.ChoiceLaws.{refuse_none}
use Rattle.cases.proofs.Promises.{thread_low}
use Rattle.machine.specs.declared.cells.State.{State}
use Rattle.machine.specs.declared.cells.Waiting.{Waiting}
use Rattle.machine.specs.declared.cells.Entry.{Entry}
use Rattle.machine.specs.declared.cells.Entry.TheVariants.{Store, Flush, FlushOpt, Sfence}
use Rattle.machine.specs.View.{without, queue, buffer, buffer_len, with_buffer, word_of, issued_of}
use Rattle.machine.specs.Parts.{parts_of}
use Rattle.machine.specs.Rules.{entry_at, effect_rule, pass_rule, move_rule, move_of, rule_in, rule_of, next_of}
use Rattle.machine.specs.Joins.{enters}
use Rattle.machine.specs.Next.{move_step}
use Rattle.machine.specs.Fit.{Fits}
use Rattle.machine.proofs.lists.PutLaws.{length_without}
use Rattle.machine.proofs.view.BufferLaws.{buffer_same, buffer_other}
use Rattle.machine.proofs.fit.FitLaws.{fits_buffer_within, fits_buffer_long}
use Rattle.machine.proofs.fit.SpareLaws.{taken_spare}
use Rattle.machine.proofs.steps.StepLaws.{move_there, move_named}
use Rattle.machine.proofs.steps.AddsLaws.{Adds, effect_adds}

-- Move: the entry is taken out, and adds what it adds
pass_is : (p : Program) (b : List Waiting) (i : ℕ) (e : Entry) → pass_rule p b i e ≡ 0
    → (l : Location) × (e ≡ FlushOpt l)
unfolding pass_rule
pass_is p b i (Store w) h = absurd (omega arith)
pass_is p b i (Flush l) h = absurd (omega arith)
pass_is p b i (FlushOpt l) h = (l, refl)
pass_is p b i Sfence h = absurd (omega arith)

module _ (p : Program) (s : State) (f : Fits p s) (t i : ℕ) (low : t < p.threads)
    (legal : rule_of p s (move_step t i) ≡ 0) where
  in_threads : t < most_threads
  in_threads = thread_low f.program low

  within : buffer_len s t ≤ most_instructions
  within = fits_buffer_within p s f t in_threads

  pub move_within : i < length (buffer s t)
  unfolding rule_of rule_in pick
  move_within =
      let n = fits_buffer_long p s f t in_threads in
      let h = move_there p s f t i low legal in
      omega arith

  shorter : length (without i (buffer s t)) ≤ most_instructions
  shorter =
      let n = fits_buffer_long p s f t in_threads in
      let m = within in
      let h = length_without i (buffer s t) move_within in
      omega arith

  -- rule 25
  pub move_first_or : (i ≡ 0) ⊎ ((l : Location) × (entry_at (buffer s t) i ≡ FlushOpt l))
  unfolding rule_of rule_in pick move_rule
  move_first_or = go (eqb i 0) refl (refuse_none _ 23 _ legal).1
    where
      go : (a : Bool) → eqb i 0 ≡ a
          → pick a (effect_rule p (parts_of s) t (entry_at (buffer s t) i))
          (pass_rule p (buffer s t) i (entry_at (buffer s t) i)) ≡ 0
          → (i ≡ 0) ⊎ ((l : Location) × (entry_at (buffer s t) i ≡ FlushOpt l))
      go true e h = inl (eqb-true _ _ e)
      go false e h = inr (pass_is p _ i _ h)

  move_adds : Adds (with_buffer s t (without i (buffer s t))) (next_of p s (move_step t i)) t []
      (λ q. enters p t q (entry_at (buffer s t) i))
  unfolding rule_of rule_in next_of pick move_of
  move_adds =
      effect_adds p _ t (taken_spare p s f t i low (move_there p s f t i low legal)) low _
      (move_named p s f t i low legal)

  pub move_issued : (k : ℕ) → issued_of (next_of p s (move_step t i)) k ≡ issued_of s k
  unfolding with_buffer
  move_issued = move_adds.counts

  pub move_buffer : buffer (next_of p s (move_step t i)) t ≡ without i (buffer s t)
  move_buffer =
      move_adds.own ∙ append-nil _ ∙ buffer_same s f.sized t in_threads within _ shorter

  pub move_buffer_other : (k : ℕ) → k < most_threads → k ≢ t
      → buffer (next_of p s (move_step t i)) k ≡ buffer s k
  move_buffer_other k h e =
      move_adds.others k h e
      ∙ buffer_other s f.sized t in_threads within _ shorter k e (fits_buffer_within p s f k h)

  pub move_queue : (q : ℕ) → q < most_locations
      → queue (next_of p s (move_step t i)) q ≡ queue s q ++ enters p t q (entry_at (buffer s t) i)
  unfolding with_buffer
  move_queue = move_adds.queues

  pub move_word : (l : ℕ) → word_of (next_of p s (move_step t i)) l ≡ word_of s l
  unfolding with_buffer
  move_word = move_adds.words
