-- What an instruction that is issued makes of the view of a state.
--   Issues p s t b r registers w   w is the view of s with an instruction more issued by thread t, with b at the
--                     end of its buffer and r q at the end of each queue q, and with these registers
--   issued_seen p s t  the view of s with an instruction more issued by thread t, and no more
-- Assumes nothing.
use Prim.Native.Nat.{ℕ, ◌+◌, ◌*◌, ◌<◌}
use mathlib.Core.Path.{◌≡◌, refl, sym, ap, ◌∙◌}
use mathlib.Core.List.{List, [], ◌∷◌, ◌++◌, append-nil}
use native.Mathlib.Omega.{arith}
use native.Mathlib.Decide.{ℕ_discrete}
use lib.Dec.{eqb}
use lib.ListN.{length, get_or, set}
use Rattle.cases.specs.declared.case.Instruction.{Instruction}
use Rattle.cases.specs.declared.case.Program.{Program}
use Rattle.cases.specs.Choice.{pick}
use Rattle.cases.specs.Sizes.{most_registers}
use Rattle.cases.specs.Checks.{instruction_at, sets_register}
use Rattle.cases.proofs.Promises.{thread_low}
use Rattle.machine.specs.declared.cells.State.{State}
use Rattle.machine.specs.declared.cells.Waiting.{Waiting}
use Rattle.machine.specs.declared.cells.Entry.{Entry}
use Rattle.machine.specs.View.{Slot, write_slot, issued_of, buffer}
use Rattle.machine.specs.Rules.{rule_of, next_of}
use Rattle.machine.specs.Joins.{joins, exchanges, taken_by}
use Rattle.machine.specs.Fit.{Fits}
use Rattle.machine.specs.Next.{issue_step}
use Rattle.machine.proofs.Promises.{few_lines}
use Rattle.machine.proofs.Effects.{issue_issued, issue_issued_other, issue_buffer, issue_buffer_other}
use Rattle.machine.proofs.Effects.{issue_queue, issue_word, issue_registers}
use Rattle.search.specs.Lanes.{spread, entry_lanes, waiting_lanes, buffer_lanes, register_lane}
use Rattle.search.specs.Listing.{listing_of}
use Rattle.search.specs.Rows.{queue_row}
use Rattle.search.proofs.lanes.SeenLaws.{Seen, Even, changed, lay, with_issued, with_register, with_joined}
use Rattle.search.proofs.lanes.SeenLaws.{with_registers}
use Rattle.search.proofs.lanes.JoinLaws.{changed_same, changed_other, changed_set}
use Rattle.search.proofs.lanes.EvenLaws.{even_joined}
use Rattle.search.proofs.lanes.StateLaws.{seen_of, even_of, row_buffer, row_queue}
use Rattle.search.proofs.lanes.SpreadLaws.{spread_append, entry_pair}
use Rattle.search.proofs.lanes.SeenWithLaws.{SeenWith, seen_joined, seen_same}

abbrev pub Issues : Program → State → ℕ → List Waiting → (ℕ → List Slot) → List ℕ → Seen → Type 0
Issues p s t b = SeenWith p s t (changed (issued_of s) t (issued_of s t + 1)) (buffer s t ++ b)

abbrev pub issued_seen : Program → State → ℕ → Seen
issued_seen p s t = with_issued (seen_of p s) t (issued_of s t + 1)

module _ (p : Program) (s : State) (fit : Fits p s) (t : ℕ) (low : t < p.threads) where
  abbrev c : List ℕ
  c = listing_of p

  -- it has two lanes for each entry
  pub even_counted : Even c (issued_seen p s t)
  even_counted = record { twice = (even_of p s fit).twice }

  -- nothing else but the registers; none of them; one of them
  issues_only : (registers : List ℕ) (f : ℕ → ℕ) → ((i : ℕ) → f i ≡ get_or registers i 0)
      → Issues p s t [] (λ q. []) registers (with_registers (issued_seen p s t) f)
  unfolding spread buffer_lanes
  issues_only registers f e =
      record {
        even = record { twice = (even_of p s fit).twice };
        issued = λ k. refl;
        word = λ l. refl;
        register = e;
        own = row_buffer p s t low ∙ ap (spread waiting_lanes) (sym (append-nil (buffer s t)));
        others = λ k h e. row_buffer p s k h;
        queued = λ q h. row_queue p s q ∙ sym (append-nil _);
      }

  pub issues_none : Issues p s t [] (λ q. []) s.registers (issued_seen p s t)
  unfolding register_lane
  issues_none = issues_only s.registers (register_lane s) (λ i. refl)

  pub issues_register : (j a : ℕ) → j < length s.registers
      → Issues p s t [] (λ q. []) (set s.registers j a) (with_register (issued_seen p s t) j a)
  unfolding register_lane
  issues_register j a h =
      issues_only (set s.registers j a) (changed (register_lane s) j a)
      (λ i. changed_set s.registers j a i h)

  -- and an entry more in the buffer; a write more in a queue
  module _ (registers : List ℕ) (w : Seen) (d : Issues p s t [] (λ q. []) registers w) where
    pub issues_await : (e : Entry)
        → Issues p s t (record { entry = e } ∷ []) (λ q. []) registers
        (with_joined w t (get_or (entry_lanes e) 0 0) (get_or (entry_lanes e) 1 0))
    unfolding spread waiting_lanes
    issues_await e =
        let row : w.row t ≡ spread waiting_lanes (buffer s t)
        = d.own ∙ ap (spread waiting_lanes) (append-nil (buffer s t)) in
        let entry : entry_lanes e ++ [] ≡ get_or (entry_lanes e) 0 0 ∷ get_or (entry_lanes e) 1 0 ∷ []
        = append-nil (entry_lanes e) ∙ entry_pair e in
        record {
          even = even_joined c w d.even t (get_or (entry_lanes e) 0 0) (get_or (entry_lanes e) 1 0);
          issued = d.issued;
          word = d.word;
          register = d.register;
          own =
              changed_same w.row t (w.row t ++ (get_or (entry_lanes e) 0 0 ∷ get_or (entry_lanes e) 1 0 ∷ []))
              ∙ rw (row, ← entry) (sym (spread_append waiting_lanes (buffer s t) (record { entry = e } ∷ [])));
          others = λ k h o. changed_other w.row t _ k o ∙ d.others k h o;
          queued = λ q h. changed_other w.row t _ (p.threads + q) (λ o. omega arith) ∙ d.queued q h;
        }

    pub issues_enqueue : (q l a : ℕ)
        → Issues p s t [] (λ k. pick (eqb q k) (write_slot l a ∷ []) []) registers
        (with_joined w (queue_row c q) l a)
    issues_enqueue = seen_joined p s t low _ _ registers w d

  -- where that is what the instruction does, they are the lanes of the state that the issue leads to
  module _ (legal : rule_of p s (issue_step t) ≡ 0) (after : Fits p (next_of p s (issue_step t))) where
    abbrev next : Instruction
    next = instruction_at p t (issued_of s t)

    abbrev u : State
    u = next_of p s (issue_step t)

    counts_same : (k : ℕ) → changed (issued_of s) t (issued_of s t + 1) k ≡ issued_of u k
    counts_same k = go (ℕ_discrete k t)
      where
        go : Dec (k ≡ t) → changed (issued_of s) t (issued_of s t + 1) k ≡ issued_of u k
        go (yes e) =
            let a = issue_issued p s fit t low legal in
            rw e (changed_same (issued_of s) t (issued_of s t + 1) ∙ omega arith)
        go (no e) =
            changed_other (issued_of s) t (issued_of s t + 1) k e ∙ sym (issue_issued_other p s fit t low legal k e)

    pub issues_same : (w : Seen)
        → Issues p s t (joins s.registers t next) (λ q. exchanges p s t q next)
        (pick (sets_register next.operation)
        (set s.registers (t * most_registers + next.register.0) (taken_by p s t next)) s.registers) w
        → lay c w ≡ lay c (seen_of p u)
    issues_same w d =
        let lines = few_lines p fit.program in
        seen_same p s t low _ _ (λ q. exchanges p s t q next) u after (λ k h. counts_same k)
        (issue_word p s fit t low legal) (issue_buffer p s fit t low legal)
        (λ k h. issue_buffer_other p s fit t low legal k (thread_low fit.program h))
        (λ q h. issue_queue p s fit t low legal q (omega arith)) w
        (rw (issue_registers p s fit t low legal) d)
