-- Laws of `thread_misfits`, for each point of code that makes this chain of tests. Loops that ask one after the other are
-- in AnyLaws, loops that sum in SumLaws. Assumes nothing.
use Prim.Native.Nat.{ℕ, ◌+◌, ◌≤◌, ◌<◌}
use mathlib.Core.Path.{◌≡◌, refl}
use mathlib.Core.Logic.{◌⊎◌, inl, inr}
use mathlib.Core.Bool.{Bool, true, false}
use lib.Dec.{leb, ltb}
use borrow.Author.Tests.{lt-ltb, le-ltb, le-leb, lt-leb}
use Rattle.cases.specs.declared.case.Program.{Program}
use Rattle.cases.specs.Choice.{both, either}
use Rattle.cases.specs.Sizes.{most_instructions}
use Rattle.cases.specs.Checks.{count_at}
use Rattle.machine.specs.declared.cells.State.{State}
use Rattle.machine.specs.View.{buffer, buffer_len, issued_of}
use Rattle.machine.specs.Fit.{unissued, thread_misfits, any_of, strayed}

-- number i of m, and n that stand there: something stands where there is no such number, or it doesn't. Of the
-- two ways in which the code finds that it doesn't, each tells what it found.
module _ (m i n : ℕ) where
  lacked_some : m ≤ i → ltb 0 n ≡ true → both (leb m i) (ltb 0 n) ≡ true
  unfolding both
  lacked_some h k = rw (le-leb m i h, k)

  lacked_none : {A B : Type 0} → A ⊎ B → (A → ltb 0 n ≡ false) → (B → i < m) → both (leb m i) (ltb 0 n) ≡ false
  lacked_none (inl a) f g = go (leb m i)
    where
      go : (b : Bool) → both b (ltb 0 n) ≡ false
      go true = unfold both in f a
      go false = unfold both in refl
  lacked_none (inr b) f g = unfold both in rw (lt-leb m i (g b))

-- thread_misfits: too many are issued; there is no such thread; too much may wait; else an entry that strays
module _ (p : Program) (s : State) (t : ℕ) where
  pub thread_misfits_over : count_at p t < issued_of s t → true ≡ thread_misfits p s t
  unfolding thread_misfits either
  thread_misfits_over h = rw (lt-ltb (count_at p t) (issued_of s t) h)

  module _ (h : issued_of s t ≤ count_at p t) where
    pub thread_misfits_lacked : p.threads ≤ t → ltb 0 (buffer_len s t) ≡ true → true ≡ thread_misfits p s t
    unfolding thread_misfits either
    thread_misfits_lacked k e =
        rw (le-ltb (count_at p t) (issued_of s t) h, lacked_some p.threads t (buffer_len s t) k e)

    module _ {A B : Type 0} (k : A ⊎ B) (f : A → ltb 0 (buffer_len s t) ≡ false) (g : B → t < p.threads)
        (n : ℕ) (e : n ≡ unissued p s t) where
      pub thread_misfits_full : most_instructions < buffer_len s t + n → true ≡ thread_misfits p s t
      unfolding thread_misfits either
      thread_misfits_full l =
          rw (
            le-ltb (count_at p t) (issued_of s t) h,
            lacked_none p.threads t (buffer_len s t) k f g,
            ← e,
            lt-ltb most_instructions (buffer_len s t + n) l,
          )

      pub thread_misfits_rest : buffer_len s t + n ≤ most_instructions → (r : Bool)
          → r ≡ any_of (strayed p.locations) (buffer s t)
          → r ≡ thread_misfits p s t
      unfolding thread_misfits either
      thread_misfits_rest l r q =
          rw (
            le-ltb (count_at p t) (issued_of s t) h,
            lacked_none p.threads t (buffer_len s t) k f g,
            ← e,
            le-ltb most_instructions (buffer_len s t + n) l,
          )
          q
