-- Where nothing waits, what an issue leaves behind it goes through to the memory: every step is legal, and
-- nothing waits behind it. Assumes nothing.
use Prim.Native.Nat.{ℕ, ◌≤◌, ◌<◌}
use mathlib.Core.Path.{◌≡◌, refl, sym, ap, ◌∙◌}
use mathlib.Core.Logic.{◌≢◌}
use mathlib.Core.List.{List, [], ◌∷◌}
use native.Mathlib.Omega.{arith}
use native.Mathlib.Decide.{ℕ_discrete}
use borrow.Author.Tests.{eq-eqb, ne_eqb}
use lib.Dec.{eqb}
use lib.ListN.{drop}
use Rattle.cases.specs.declared.case.Location.{Location}
use Rattle.cases.specs.declared.case.Register.{Register}
use Rattle.cases.specs.declared.case.Step.{Step}
use Rattle.cases.specs.declared.case.Program.{Program}
use Rattle.cases.specs.Choice.{pick, both, either}
use Rattle.cases.specs.Checks.{limits_of, lines_of, step_fault}
use Rattle.cases.proofs.ChoiceLaws.{pick_true, pick_false}
use Rattle.cases.proofs.Promises.{thread_low}
use Rattle.cases.specs.Operations.{compare, last_operation, first_operation}
use Rattle.machine.specs.declared.cells.State.{State}
use Rattle.machine.specs.declared.cells.Entry.{Entry}
use Rattle.machine.specs.View.{Slot, line_of, write_slot, marker_slot, without, queue, buffer, issued_of}
use Rattle.machine.specs.Rules.{is_barrier, entry_of, rule_of, next_of}
use Rattle.machine.specs.Joins.{joins, swaps, exchanges, enters}
use Rattle.machine.specs.Fit.{Fits}
use Rattle.machine.specs.Model.{Leads, Faultless}
use Rattle.machine.specs.Next.{issue_step, move_step, persist_step}
use Rattle.machine.specs.Ptso.{ptso}
use Rattle.machine.proofs.Promises.{step_fits, few_lines, line_there, persist_legal, move_legal}
use Rattle.machine.proofs.Effects.{move_issued, move_buffer, move_buffer_other, move_queue, persist_issued}
use Rattle.machine.proofs.Effects.{persist_buffer, persist_queue, persist_queue_other}
use Rattle.machine.proofs.OperationLaws.{each_operation, of}
use Rattle.demands.specs.Carried.{carried}
use Rattle.demands.proofs.writes.LastLaws.{cons_some}

-- nothing waits in a buffer or a queue
pub record Quiet (p : Program) (s : State) : Type 0 where
  pub fit : Fits p s
  pub buffers : (t : ℕ) → t < p.threads → buffer s t ≡ []
  pub queues : (q : ℕ) → q < lines_of p → queue s q ≡ []

-- no buffer holds anything, and of the queues queue m holds h and nothing else
record Queued (p : Program) (s : State) (m : ℕ) (h : Slot) : Type 0 where
  pub fit : Fits p s
  pub buffers : (t : ℕ) → t < p.threads → buffer s t ≡ []
  pub queues : (q : ℕ) → q < lines_of p → queue s q ≡ pick (eqb m q) (h ∷ []) []

-- the steps ks lead from s to where nothing waits, and issue nothing
pub record Through (p : Program) (s : State) (ks : List Step) : Type 0 where
  pub end : State
  pub faultless : Faultless (ptso p) ks
  pub leads : Leads (ptso p) s ks end
  pub quiet : Quiet p end
  pub issued : (t : ℕ) → issued_of end t ≡ issued_of s t

through_none : (p : Program) (s : State) → Quiet p s → Through p s []
unfolding Faultless Leads
through_none p s q = record { end = s; faultless = tt; leads = refl; quiet = q; issued = λ t. refl }

-- what is queued persists
through_persist : (p : Program) (s : State) (m : ℕ) (h : Slot) → m < lines_of p → Queued p s m h
    → Through p s (persist_step m ∷ [])
unfolding Faultless Leads
through_persist p s m h low o =
    record {
      end = next_of p s (persist_step m);
      faultless = (legal.0, tt);
      leads = (legal.1, refl);
      quiet = record {
        fit = step_fits p s o.fit (persist_step m) legal.0 legal.1;
        buffers = λ t a. persist_buffer p s o.fit m low legal.1 t ∙ o.buffers t a;
        queues = λ q a. gone q a (ℕ_discrete q m);
      };
      issued = persist_issued p s o.fit m low legal.1;
    }
  where
    one : queue s m ≡ h ∷ []
    one = o.queues m low ∙ pick_true _ _ _ (eq-eqb m m refl)

    legal : (step_fault (limits_of p) (persist_step m) ≡ 0) × (rule_of p s (persist_step m) ≡ 0)
    legal = persist_legal p s o.fit m low (rw one (cons_some h []))

    gone : (q : ℕ) → q < lines_of p → Dec (q ≡ m) → queue (next_of p s (persist_step m)) q ≡ []
    gone q a (yes e) =
        let r = persist_queue p s o.fit m low legal.1 in
        rw e (ap (drop 1) (sym r.1 ∙ one))
    gone q a (no e) =
        let w = few_lines p o.fit.program in
        persist_queue_other p s o.fit m low legal.1 q (omega arith) e
        ∙ o.queues q a ∙ pick_false _ _ _ (ne_eqb _ _ (λ z. e (sym z)))

-- in thread t's buffer e waits and nothing else, and nothing anywhere else
record Waits (p : Program) (s : State) (t : ℕ) (e : Entry) : Type 0 where
  pub fit : Fits p s
  pub here : buffer s t ≡ record { entry = e } ∷ []
  pub others : (k : ℕ) → k < p.threads → k ≢ t → buffer s k ≡ []
  pub queues : (q : ℕ) → q < lines_of p → queue s q ≡ []

-- it moves
module _ (p : Program) (s : State) (t : ℕ) (low : t < p.threads) (e : Entry) (o : Waits p s t e) where
  may_move : (step_fault (limits_of p) (move_step t 0) ≡ 0) × (rule_of p s (move_step t 0) ≡ 0)
  may_move = move_legal p s o.fit o.queues t low (rw o.here (cons_some (record { entry = e }) []))

  abbrev moved : State
  moved = next_of p s (move_step t 0)

  moved_fits : Fits p moved
  moved_fits = step_fits p s o.fit (move_step t 0) may_move.0 may_move.1

  moved_buffers : (k : ℕ) → k < p.threads → buffer moved k ≡ []
  moved_buffers k h = go (ℕ_discrete k t)
    where
      go : Dec (k ≡ t) → buffer moved k ≡ []
      go (yes d) =
          rw (d, move_buffer p s o.fit t 0 low may_move.1, o.here) (unfold without in refl)
      go (no d) =
          move_buffer_other p s o.fit t 0 low may_move.1 k (thread_low o.fit.program h) d
          ∙ o.others k h d

  moved_queue : (q : ℕ) → q < lines_of p → queue moved q ≡ enters p t q e
  moved_queue q h =
      let w = few_lines p o.fit.program in
      rw (move_queue p s o.fit t 0 low may_move.1 q (omega arith), o.queues q h, o.here) refl

  through_move : (ks : List Step) → Through p moved ks → Through p s (move_step t 0 ∷ ks)
  unfolding Faultless Leads
  through_move ks r =
      record {
        end = r.end;
        faultless = (may_move.0, r.faultless);
        leads = (may_move.1, r.leads);
        quiet = r.quiet;
        issued = λ k. r.issued k ∙ move_issued p s o.fit t 0 low may_move.1 k;
      }

  -- and nothing comes of it, or one slot in queue m, which persists
  through_left : ((q : ℕ) → enters p t q e ≡ []) → Through p s (move_step t 0 ∷ [])
  through_left none =
      through_move [] (through_none p moved (record {
        fit = moved_fits;
        buffers = moved_buffers;
        queues = λ q h. moved_queue q h ∙ none q;
      }))

  through_queued : (m : ℕ) (h : Slot) → m < lines_of p
      → ((q : ℕ) → enters p t q e ≡ pick (eqb m q) (h ∷ []) [])
      → Through p s (move_step t 0 ∷ persist_step m ∷ [])
  through_queued m h there one =
      through_move (persist_step m ∷ []) (through_persist p moved m h there (record {
        fit = moved_fits;
        buffers = moved_buffers;
        queues = λ q a. moved_queue q a ∙ one q;
      }))

-- What stands behind an issue where nothing waited before, by the instruction's operation
module _ (p : Program) (s : State) (t : ℕ) (low : t < p.threads) (v : State) (fit : Fits p v)
    (others : (k : ℕ) → k < p.threads → k ≢ t → buffer v k ≡ [])
    (l : Location) (r : Register) (w : ℕ) (there : l.0 < p.locations) where
  abbrev pub Behind : ℕ → Type 0
  Behind op =
      op ≢ compare
      → buffer v t ≡ joins s.registers t (of op l r w)
      → ((q : ℕ) → q < lines_of p → queue v q ≡ exchanges p s t q (of op l r w))
      → (ks : List Step) × (carried p t (of op l r w) ≡ issue_step t ∷ ks) × Through p v ks

  -- the queue of its location
  abbrev own : ℕ
  own = line_of p l.0

  own_there : own < lines_of p
  own_there = line_there p fit.program l.0 there

  waits : (e : Entry) → buffer v t ≡ record { entry = e } ∷ [] → ((q : ℕ) → q < lines_of p → queue v q ≡ [])
      → Waits p v t e
  waits e b q = record { fit = fit; here = b; others = others; queues = q }

  empty : buffer v t ≡ [] → (k : ℕ) → k < p.threads → buffer v k ≡ []
  empty b k h = go (ℕ_discrete k t)
    where
      go : Dec (k ≡ t) → buffer v k ≡ []
      go (yes d) = rw d b
      go (no d) = others k h d

  quiet : buffer v t ≡ [] → ((q : ℕ) → q < lines_of p → queue v q ≡ []) → Quiet p v
  quiet b q = record { fit = fit; buffers = empty b; queues = q }

  -- store word, store register, load, exchange, flush, flush-opt, sfence, mfence; no compare
  pub behind : (op : ℕ) → first_operation ≤ op → op ≤ last_operation → Behind op
  unfolding carried joins swaps exchanges enters is_barrier entry_of both either pick
  behind =
      each_operation Behind
      (λ n b q. (_, refl, through_queued p v t low _ (waits _ b q) own (write_slot l.0 w) own_there (λ k. refl)))
      (λ n b q. (_, refl, through_queued p v t low _ (waits _ b q) own _ own_there (λ k. refl)))
      (λ n b q. ([], refl, through_none p v (quiet b q)))
      (λ n b q. (
        _,
        refl,
        through_persist p v own (write_slot l.0 w) own_there
            (record { fit = fit; buffers = empty b; queues = q }),
      ))
      (λ n b q. (_, refl, through_left p v t low _ (waits _ b q) (λ k. refl)))
      (λ n b q. (_, refl, through_queued p v t low _ (waits _ b q) own (marker_slot t) own_there (λ k. refl)))
      (λ n b q. (_, refl, through_left p v t low _ (waits _ b q) (λ k. refl)))
      (λ n b q. ([], refl, through_none p v (quiet b q)))
      (λ n. absurd (n refl))
