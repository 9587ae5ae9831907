-- What each thread has to come to a location (`coming`), and what it is for a step to pass writes on, from
-- thread to queue to memory (`Passing`). A step that issues nothing, a persist or a move, does so.
-- Assumes nothing.
use Prim.Native.Nat.{ℕ, ◌-◌, ◌<◌}
use mathlib.Core.Path.{◌≡◌, refl, sym, ap, ◌∙◌}
use mathlib.Core.Logic.{◌⊎◌, inl, inr, ◌≢◌}
use mathlib.Core.Bool.{false}
use mathlib.Core.List.{List, [], ◌∷◌, ◌++◌, append-nil, append_assoc}
use Rattle.cases.specs.declared.case.Location.{Location}
use Rattle.cases.specs.declared.case.Step.{Step}
use Rattle.cases.specs.declared.case.Program.{Program}
use Rattle.cases.specs.Checks.{count_at, lines_of}
use Rattle.machine.specs.declared.cells.State.{State}
use Rattle.machine.specs.declared.cells.Entry.TheVariants.{FlushOpt}
use Rattle.machine.specs.View.{buffer, word_of, issued_of}
use Rattle.machine.specs.Joins.{on_way, last_or, store_of}
use Rattle.machine.specs.Rules.{entry_at, rule_of, next_of}
use Rattle.machine.specs.Fit.{Fits}
use Rattle.machine.specs.Next.{move_step, persist_step}
use Rattle.machine.proofs.Effects.{move_within, move_first_or, move_issued, move_buffer, move_buffer_other}
use Rattle.machine.proofs.Effects.{move_words, move_word, persist_issued, persist_buffer, persist_words}
use Rattle.demands.specs.Writes.{issues_at, fixed_from, made_from}
use Rattle.demands.proofs.writes.StoresLaws.{stores_of, fixes_from, gathered_without, fixes_same}
use Rattle.demands.proofs.fixed.IssuesLaws.{fixed_next, made_next, move_issues, persist_issues}
use Rattle.cases.proofs.Promises.{thread_low}

-- what thread t has to come to location l in the run ks from s: what waits in its buffer, then what it really
-- makes
unfoldable pub coming : Program → State → List Step → ℕ → ℕ → List ℕ
coming p s ks l t =
    stores_of l (buffer s t)
    ++ fixes_from (made_from p s ks t l) (fixed_from p s ks t) (issued_of s t) (count_at p t - issued_of s t)

-- the step k: thread `thread` puts `new` on its way, `out` comes to memory
pub record Passing (p : Program) (s : State) (k : Step) (ks : List Step) (l : ℕ) : Type 0 where
  pub thread : ℕ
  pub new : List ℕ
  pub out : List ℕ
  pub low : new ≢ [] → thread < p.threads
  pub queued : on_way p s l ++ new ≡ out ++ on_way p (next_of p s k) l
  pub kept : word_of (next_of p s k) l ≡ last_or out (word_of s l)
  pub here : coming p s (k ∷ ks) l thread ≡ new ++ coming p (next_of p s k) ks l thread
  pub other : (t : ℕ) → t < p.threads → t ≢ thread
      → coming p s (k ∷ ks) l t ≡ coming p (next_of p s k) ks l t

-- a step that issues nothing of thread t: what it takes out of the buffer came first
pub coming_taken : (p : Program) (s : State) (k : Step) (ks : List Step) (l t : ℕ) (new : List ℕ)
    → ((i : ℕ) → issues_at s k t i ≡ false)
    → issued_of (next_of p s k) t ≡ issued_of s t
    → stores_of l (buffer s t) ≡ new ++ stores_of l (buffer (next_of p s k) t)
    → coming p s (k ∷ ks) l t ≡ new ++ coming p (next_of p s k) ks l t
unfolding coming
coming_taken p s k ks l t new h e b =
    rw (
      b,
      e,
      fixes_same (made_from p s (k ∷ ks) t l) (made_from p (next_of p s k) ks t l) (fixed_from p s (k ∷ ks) t)
          (fixed_from p (next_of p s k) ks t)
          (issued_of s t) (count_at p t - issued_of s t) (λ j m. made_next p s k ks t j l (h j))
          (λ j m. fixed_next p s k ks t j (h j)),
    )
    (append_assoc new (stores_of l (buffer (next_of p s k) t)) _)

module _ (p : Program) (s : State) (f : Fits p s) (ks : List Step) (l : ℕ) (there : l < p.locations) where
  -- Persist
  module _ (q : ℕ) (low : q < lines_of p) (legal : rule_of p s (persist_step q) ≡ 0) where
    persist_coming : (t : ℕ)
        → coming p s (persist_step q ∷ ks) l t ≡ coming p (next_of p s (persist_step q)) ks l t
    persist_coming t =
        coming_taken p s (persist_step q) ks l t [] (persist_issues s q t) (persist_issued p s f q low legal t)
        (ap (stores_of l) (sym (persist_buffer p s f q low legal t)))

    pub persist_passing : Passing p s (persist_step q) ks l
    persist_passing =
        let w = persist_words p s f q low legal l there in
        record {
          thread = 0;
          new = [];
          out = w.0;
          low = λ n. absurd (n refl);
          queued = append-nil (on_way p s l) ∙ w.1;
          kept = w.2;
          here = persist_coming 0;
          other = λ t h n. persist_coming t;
        }

  -- Move
  module _ (t i : ℕ) (low : t < p.threads) (legal : rule_of p s (move_step t i) ≡ 0) where
    first_or : (i ≡ 0) ⊎ (store_of l (entry_at (buffer s t) i) ≡ [])
    unfolding store_of
    first_or = go (move_first_or p s f t i low legal)
      where
        go : (i ≡ 0) ⊎ ((m : Location) × (entry_at (buffer s t) i ≡ FlushOpt m))
            → (i ≡ 0) ⊎ (store_of l (entry_at (buffer s t) i) ≡ [])
        go (inl e) = inl e
        go (inr e) = inr (rw e.1)

    pub move_passing : Passing p s (move_step t i) ks l
    unfolding last_or
    move_passing =
        record {
          thread = t;
          new = store_of l (entry_at (buffer s t) i);
          out = [];
          low = λ n. low;
          queued = sym (move_words p s f t i low legal l there);
          kept = move_word p s f t i low legal l;
          here =
              coming_taken p s (move_step t i) ks l t (store_of l (entry_at (buffer s t) i)) (move_issues s t i t)
              (move_issued p s f t i low legal t)
              (rw (move_buffer p s f t i low legal)
              (gathered_without (store_of l) (buffer s t) i (move_within p s f t i low legal) first_or));
          other = λ k h n.
              coming_taken p s (move_step t i) ks l k [] (move_issues s t i k)
              (move_issued p s f t i low legal k)
              (ap (stores_of l) (sym (move_buffer_other p s f t i low legal k (thread_low f.program h) n)));
        }
