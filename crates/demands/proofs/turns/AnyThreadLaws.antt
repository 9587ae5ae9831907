-- The run in which a thread comes last leaves that thread's last write, where the program has no compare. Assumes
-- nothing.
use Prim.Native.Nat.{ℕ, ◌-◌, ◌≤◌, ◌<◌}
use mathlib.Core.Path.{◌≡◌, refl, sym, ap, ◌∙◌}
use mathlib.Core.Logic.{inl, inr, ◌≢◌}
use mathlib.Core.Bool.{Bool}
use mathlib.Core.List.{List, []}
use native.Mathlib.Omega.{arith}
use native.Mathlib.Decide.{ℕ_discrete}
use Rattle.cases.specs.declared.case.Program.{Program}
use Rattle.cases.proofs.ChoiceLaws.{never_both}
use Rattle.cases.specs.Checks.{count_at}
use Rattle.machine.specs.declared.cells.State.{State}
use Rattle.machine.specs.View.{word_of, issued_of}
use Rattle.machine.specs.Rules.{start_of}
use Rattle.cases.specs.Ranges.{ProgramFits}
use Rattle.machine.specs.Model.{Leads, Faultless, FinishedRun}
use Rattle.machine.specs.Ptso.{ptso}
use Rattle.machine.proofs.Promises.{ptso_lawful, start_fits, leads_append, faultless_append}
use Rattle.machine.proofs.Effects.{start_buffer, start_queue, start_issued}
use Rattle.machine.specs.Work.{Uncompared}
use Rattle.demands.specs.Writes.{writes_at, fixed_from, fixed_of, made_from, Writer, LastWrite}
use Rattle.demands.specs.Carried.{carried_all, others_from, last_run}
use Rattle.demands.proofs.writes.LastLaws.{Settles}
use Rattle.machine.specs.Joins.{last_or}
use Rattle.demands.proofs.writes.StoresLaws.{gathered, fixes_from}
use Rattle.demands.proofs.writes.ComingLaws.{coming}
use Rattle.demands.proofs.writes.SettleLaws.{Done, newest, run_settles}
use Rattle.demands.proofs.writes.LastWriteLaws.{fixes_last, fixes_none, some_last, last_one, last_same}
use Rattle.demands.proofs.fixed.FixedLaws.{fixed_behind, made_surely}
use Rattle.demands.proofs.ends.EndLaws.{work_stuck, done_work}
use Rattle.demands.proofs.ends.MemoryLaws.{in_threads, unissued_coming, written_low}
use Rattle.demands.proofs.turns.CarryLaws.{Carries, carries_all}
use Rattle.demands.proofs.turns.LastRunLaws.{Turn, others_lead}

module _ (p : Program) (fits : ProgramFits p) (plain : Uncompared p) where
  -- The run in which thread t comes last, from where only t has anything to come
  module _ (t l i : ℕ) (last : LastWrite p t l i) where
    start_turn : Turn p t 0 (start_of p)
    start_turn =
        record {
          quiet = record {
            fit = start_fits p fits;
            buffers = λ k h. start_buffer p k;
            queues = λ k h. start_queue p k;
          };
          mine = start_issued p t;
          past = λ k h n. absurd (omega arith);
          ahead = λ k h. start_issued p k;
        }

    first : (v : State)
        × Faultless (ptso p) (others_from p t 0 p.threads)
        × Leads (ptso p) (start_of p) (others_from p t 0 p.threads) v
        × Turn p t p.threads v
    first = others_lead p plain t p.threads 0 (start_of p) (omega arith) start_turn

    abbrev middle : State
    middle = first.0

    then : Carries p middle (carried_all p t) t (count_at p t)
    then = carries_all p plain t (in_threads p fits t i last.there) middle first.3.quiet first.3.mine

    end_done : Done p then.end
    end_done =
        record {
          buffers = then.quiet.buffers;
          queues = then.quiet.queues;
          issued = λ k h. all k h (ℕ_discrete k t);
        }
      where
        all : (k : ℕ) → k < p.threads → Dec (k ≡ t) → count_at p k ≤ issued_of then.end k
        all k h (yes e) = let m = then.mine in rw e (omega arith)
        all k h (no e) = let m = then.others k e in let n = first.3.past k h e in omega arith

    -- the other threads have nothing to come, so that what stands there is t's
    others_none : (k : ℕ) → k < p.threads → k ≢ t → coming p middle (carried_all p t) l k ≡ []
    unfolding coming gathered fixes_from
    others_none k h e =
        let n : count_at p k - issued_of middle k ≡ 0 = let m = first.3.past k h e in omega arith in
        rw (first.3.quiet.buffers k h, n) refl

    abbrev made : ℕ → Bool
    made = made_from p middle (carried_all p t) t l

    abbrev fixed : ℕ → ℕ
    fixed = fixed_from p middle (carried_all p t) t

    mine_comes : coming p middle (carried_all p t) l t ≡ fixes_from made fixed 0 (count_at p t)
    mine_comes =
        unissued_coming p fits middle (carried_all p t) l t
        (first.3.quiet.buffers t (in_threads p fits t i last.there)) first.3.mine

    -- all that t writes it makes
    mine_made : (j : ℕ) → j < count_at p t → made j ≡ writes_at p t l j
    unfolding Uncompared
    mine_made j h =
        made_surely p middle (carried_all p t) then.end t l j first.3.quiet.fit then.faultless then.leads
        (let m = first.3.mine in omega arith) (let m = then.mine in omega arith) (plain t j h)

    end_mine : word_of then.end l ≡ fixed i
    unfolding Settles
    end_mine =
        go (run_settles p l (written_low p fits t l i last) middle (carried_all p t) then.end
        first.3.quiet.fit then.faultless then.leads end_done)
      where
        some : coming p middle (carried_all p t) l t ≢ []
        some e =
            never_both last.writing
            (sym (mine_made i last.there)
            ∙ fixes_none made fixed (count_at p t) (sym mine_comes ∙ e) i last.there)

        at : (k : ℕ) → k < p.threads → coming p middle (carried_all p t) l k ≢ []
            → word_of then.end l ≡ last_or (coming p middle (carried_all p t) l k) 0 → Dec (k ≡ t)
            → word_of then.end l ≡ fixed i
        at k h c e (no d) = absurd (c (others_none k h d))
        at k h c e (yes d) =
            let w = fixes_last made fixed (count_at p t) (rw mine_comes at some) in
            e ∙ ap (λ (m : ℕ). last_or (coming p middle (carried_all p t) l m) 0) d
            ∙ ap (λ (y : List ℕ). last_or y 0) mine_comes
            ∙ w.2
            ∙ ap fixed
            (last_one (writes_at p t l) (count_at p t) w.0 i (last_same made _ _ w.0 mine_made w.1) last)

        go : Settles p.threads (coming p middle (carried_all p t) l) (newest p middle l)
            (word_of then.end l)
            → word_of then.end l ≡ fixed i
        go (inl x) = absurd (some (x.0 t (in_threads p fits t i last.there)))
        go (inr x) = at x.0 x.1 x.2 x.3 (ℕ_discrete x.0 t)

    thread_last : (u : State)
        × FinishedRun (ptso p) (last_run p t) u
        × (word_of u l ≡ fixed_of p (last_run p t) t i)
    unfolding last_run fixed_of
    thread_last = (
      then.end,
      record {
        legal = record {
          faultless = faultless_append (ptso p) (others_from p t 0 p.threads) (carried_all p t) first.1
              then.faultless;
          leads = leads_append (ptso p) (start_of p) (others_from p t 0 p.threads) middle (carried_all p t)
              then.end
              first.2 then.leads;
        };
        over = work_stuck (ptso p) (ptso_lawful p fits) then.end then.quiet.fit
            (done_work p then.end then.quiet.fit end_done);
      },
      end_mine
          ∙ sym (fixed_behind p (start_of p) (others_from p t 0 p.threads) middle (carried_all p t) t i
          (start_fits p fits) first.1 first.2 (let m = first.3.mine in omega arith)),
    )

  pub any_thread : (t l : ℕ) → Writer p t l
      → (i : ℕ) × (u : State)
      × LastWrite p t l i
      × FinishedRun (ptso p) (last_run p t) u
      × (word_of u l ≡ fixed_of p (last_run p t) t i)
  unfolding Writer
  any_thread t l w =
      let last = some_last (writes_at p t l) (count_at p t) w.0 w.1 w.2 in
      let run = thread_last t l last.0 last.1 in
      (last.0, run.0, last.1, run.1, run.2)
