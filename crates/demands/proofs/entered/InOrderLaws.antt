-- From the start on: a line's entries persist first come, first persisted, and a thread's writes among them are in
-- program order. Assumes nothing.
use Prim.Native.Nat.{ℕ, ◌+◌, ◌≤◌, ◌<◌}
use mathlib.Core.Path.{◌≡◌, refl, sym, ap, ◌∙◌}
use mathlib.Core.List.{List, [], ◌++◌, append_assoc}
use native.Mathlib.Omega.{arith}
use lib.ListN.{length, take, drop, length-append, take-append-drop}
use lib.Seq.{drop_at}
use Rattle.cases.specs.declared.case.Step.{Step}
use Rattle.cases.specs.declared.case.Program.{Program}
use Rattle.cases.specs.Ranges.{ProgramFits}
use Rattle.cases.specs.Checks.{lines_of}
use Rattle.machine.specs.declared.cells.State.{State}
use Rattle.machine.specs.View.{Slot, queue, buffer}
use Rattle.machine.specs.Rules.{start_of}
use Rattle.machine.specs.Model.{LegalRun}
use Rattle.machine.specs.Ptso.{ptso}
use Rattle.machine.proofs.Promises.{start_fits, few_lines}
use Rattle.machine.proofs.Effects.{start_queue, start_buffer}
use Rattle.demands.specs.Entered.{entries_of, entered_from, entered_of, persists, writes_by, issued_from, issued_by}
use Rattle.demands.proofs.writes.StoresLaws.{gathered}
use Rattle.demands.proofs.entered.ArrivalLaws.{entries_drop, entries_length, writes_append}
use Rattle.demands.proofs.entered.QueuedLaws.{run_queued}
use Rattle.demands.proofs.entered.OrderedLaws.{waits, run_ordered}

module _ (p : Program) (g : ProgramFits p) (ks : List Step) (u : State) (run : LegalRun (ptso p) ks u) (q : ℕ) where
  pub in_order_queued : q < lines_of p
      → (persists ks q ≤ length (entered_of p ks q)) × (queue u q ≡ entries_of (drop (persists ks q) (entered_of p ks q)))
  unfolding entered_of
  in_order_queued there =
      let z = few_lines p g in
      let r = run_queued p q (omega arith) (start_of p) ks u (start_fits p g) run.faultless run.leads in
      let e : entries_of (entered_from p (start_of p) ks q) ≡ r.0 ++ queue u q
      = rw (start_queue p q) at r.2 in
      let n : length (entries_of (entered_from p (start_of p) ks q)) ≡ length r.0 + length (queue u q)
      = ap length e ∙ length-append r.0 (queue u q) in
      let m = entries_length (entered_from p (start_of p) ks q) in
      let k = r.1 in
      (omega arith, sym (entries_drop (persists ks q) _ ∙ ap (drop (persists ks q)) e ∙ drop_at r.0 _ _ r.1))

  module _ (t : ℕ) (low : t < p.threads) where
    pub in_order_entered : (rest : List Slot) × (writes_by t (entered_of p ks q) ++ rest ≡ issued_by p ks t q)
    unfolding entered_of issued_by
    in_order_entered =
        let r = run_ordered p t q low (start_of p) ks u (start_fits p g) run.faultless run.leads in
        (waits p q (buffer u t), sym (rw (start_buffer p t) at r) ∙ none)
      where
        none : waits p q [] ++ issued_from p (start_of p) ks t q ≡ issued_from p (start_of p) ks t q
        none = unfold gathered in refl

    pub in_order_persisted : (rest : List Slot)
        × (writes_by t (take (persists ks q) (entered_of p ks q)) ++ rest ≡ issued_by p ks t q)
    in_order_persisted =
        let r = in_order_entered in
        let e = writes_append t (take (persists ks q) (entered_of p ks q)) (drop (persists ks q) (entered_of p ks q)) in (
          writes_by t (drop (persists ks q) (entered_of p ks q)) ++ r.0,
          sym (append_assoc (writes_by t (take (persists ks q) (entered_of p ks q))) _ r.0)
              ∙ ap (λ x. x ++ r.0) (sym e ∙ ap (writes_by t) (take-append-drop (persists ks q) (entered_of p ks q)))
              ∙ r.1,
        )
