-- An issue over the lanes of a state gives the lanes of the state that the machine's issue leads to.
-- Assumes nothing.
use Prim.Native.Nat.{ℕ, ◌+◌, ◌*◌, ◌≤◌, ◌<◌}
use mathlib.Core.Path.{◌≡◌, refl, sym, ap, ◌∙◌}
use mathlib.Core.Bool.{Bool, true, false}
use mathlib.Core.List.{List, [], ◌∷◌}
use native.Mathlib.Omega.{arith}
use lib.Dec.{eqb}
use lib.ListN.{length, get_or, set}
use Rattle.cases.specs.declared.case.Location.{Location}
use Rattle.cases.specs.declared.case.Register.{Register}
use Rattle.cases.specs.declared.case.Instruction.{Instruction}
use Rattle.cases.specs.declared.case.Program.{Program}
use Rattle.cases.specs.Choice.{pick, both, either}
use Rattle.cases.specs.Sizes.{most_threads, most_registers, all_code}
use Rattle.cases.specs.Checks.{instruction_at, sets_register}
use Rattle.cases.specs.Operations.{store_word, store_register, flush, flush_opt, sfence, compare}
use Rattle.cases.specs.Operations.{first_operation, last_operation}
use Rattle.cases.proofs.Promises.{thread_low}
use Rattle.machine.specs.declared.cells.State.{State}
use Rattle.machine.specs.declared.cells.Entry.{Entry}
use Rattle.machine.specs.View.{line_of, write_slot, register_in, issued_of}
use Rattle.machine.specs.Look.{queued_word, load_of}
use Rattle.machine.specs.Rules.{is_barrier, entry_of, matches, rule_of, next_of}
use Rattle.machine.specs.Joins.{joins, swaps, exchanges, taken_by}
use Rattle.machine.specs.Fit.{sum_to, unissued, together, Fits}
use Rattle.machine.specs.Next.{issue_step}
use Rattle.machine.proofs.OperationLaws.{each_operation, of}
use Rattle.machine.proofs.Promises.{line_there}
use Rattle.machine.proofs.Effects.{issue_left}
use Rattle.search.specs.Lanes.{entry_lanes}
use Rattle.search.specs.Lanes.{register_lane}
use Rattle.search.specs.Listing.{threads_in, code_at, listing_of}
use Rattle.search.specs.Rows.{rows_in, queue_row, queued_lane, loaded_lane}
use Rattle.search.specs.Taken.{padded, counted, entry_tag, entry_word, awaited_lanes, took_lanes}
use Rattle.search.specs.Taken.{fetched_lanes, exchanged_lanes, compared_lanes, performed_lanes, issue_lanes}
use Rattle.search.proofs.listing.ListingLaws.{listing_threads, listing_line, listing_operation}
use Rattle.search.proofs.listing.ListingLaws.{listing_location, listing_register, listing_word}
use Rattle.search.proofs.listing.ListingLaws.{listing_fits}
use Rattle.search.proofs.lanes.SeenLaws.{Seen, lay, with_register, with_joined}
use Rattle.search.proofs.lanes.LayLaws.{see_issued, see_register, set_issued, set_register}
use Rattle.search.proofs.lanes.LayRowLaws.{row_joined_lem}
use Rattle.search.proofs.lanes.StateLaws.{seen_of, entries_of_lem}
use Rattle.search.proofs.lanes.LookLanesLaws.{laid_of, row_there, queue_there, queued_is, loaded_is}
use Rattle.search.proofs.lanes.SameLanesLaws.{queued_kept}
use Rattle.search.proofs.lanes.SameLanesLaws.{loaded_kept}
use Rattle.machine.proofs.lists.SumLaws.{sum_part}
use Rattle.search.proofs.lanes.IssueViewLaws.{Issues, issued_seen, even_counted, issues_none}
use Rattle.search.proofs.lanes.IssueViewLaws.{issues_register, issues_await, issues_enqueue, issues_same}

module _ (p : Program) (s : State) (fit : Fits p s) (t : ℕ) (low : t < p.threads) where
  abbrev c : List ℕ
  c = listing_of p

  abbrev v : Seen
  v = issued_seen p s t

  abbrev x : List ℕ
  x = padded (lay c v)

  -- the thread is there
  here : t < threads_in c
  here = rw (listing_threads p) low

  -- the looks after the count
  queued_after : (l : ℕ) → l < p.locations → queued_lane c x l ≡ queued_word p s l
  queued_after l there =
      ap (λ (y : List ℕ). queued_lane c y l) (sym (set_issued c (seen_of p s) t (issued_of s t + 1) here))
      ∙ queued_kept c (laid_of p s) t (issued_of s t + 1) here l
      ∙ queued_is p s fit l there

  loaded_after : (l : ℕ) → l < p.locations → loaded_lane c x t l ≡ load_of p s t l
  loaded_after l there =
      ap (λ (y : List ℕ). loaded_lane c y t l) (sym (set_issued c (seen_of p s) t (issued_of s t + 1) here))
      ∙ loaded_kept c (laid_of p s) t (issued_of s t + 1) here t l
      ∙ loaded_is p s fit t l low there

  -- an instruction stands at `at`, and there is room for an entry
  module _ (at : ℕ) (l : Location) (r : Register) (a : ℕ)
      (there : l.0 < p.locations) (few : r.0 < most_registers)
      (isLocation : get_or c (at + 1) 0 ≡ l.0) (is_register : get_or c (at + 2) 0 ≡ r.0)
      (isWord : get_or c (at + 3) 0 ≡ a) (roomy : sum_to (rows_in c) v.long < all_code) where
    abbrev j : ℕ
    j = t * most_registers + r.0

    in_range : j < length s.registers
    in_range = let m = thread_low fit.program low in let n = fit.sized.registers_long in omega arith

    -- the code's pieces: a load; an exchange's register; an exchange; one that waits
    took : took_lanes c x t at ≡ padded (lay c (with_register v j (load_of p s t l.0)))
    unfolding took_lanes
    took = rw (isLocation, is_register, loaded_after l.0 there) (set_register c v t r.0 _ here few)

    fetched : fetched_lanes c x t at ≡ padded (lay c (with_register v j (queued_word p s l.0)))
    unfolding fetched_lanes
    fetched = rw (isLocation, is_register, queued_after l.0 there) (set_register c v t r.0 _ here few)

    abbrev swapped : Seen
    swapped = with_joined (with_register v j (queued_word p s l.0)) (queue_row c (line_of p l.0)) l.0 a

    exchanged : exchanged_lanes c x t at ≡ padded (lay c swapped)
    unfolding exchanged_lanes
    exchanged =
        let to = line_there p fit.program l.0 there in
        rw (fetched, isLocation, isWord, listing_line p fit.program l.0)
        (row_joined_lem c (listing_fits p fit.program) (with_register v j (queued_word p s l.0))
        (record { twice = (even_counted p s fit t low).twice }) (omega arith)
        (queue_row c (line_of p l.0)) l.0 a (queue_there p s fit (line_of p l.0) to) roomy)

    abbrev waits : ℕ → Seen
    waits op =
        with_joined v t (entry_tag op l.0) (entry_word op a (register_in s.registers t r.0))

    awaited : (op : ℕ) → get_or c at 0 ≡ op → awaited_lanes c x t at ≡ padded (lay c (waits op))
    unfolding awaited_lanes register_lane
    awaited op isOperation =
        rw (isOperation, isLocation, is_register, isWord, see_register c v t r.0 here few)
        (row_joined_lem c (listing_fits p fit.program) v (even_counted p s fit t low) (omega arith) t
        (entry_tag op l.0) (entry_word op a (register_in s.registers t r.0)) (row_there p s fit t low) roomy)

    -- what these make of the view: a register that takes a word; a write at once; an entry that waits
    taken_issues : (n : ℕ) → Issues p s t [] (λ q. []) (set s.registers j n) (with_register v j n)
    taken_issues n = issues_register p s fit t low j n in_range

    swapped_issues : Issues p s t [] (λ q. pick (eqb (line_of p l.0) q) (write_slot l.0 a ∷ []) [])
        (set s.registers j (queued_word p s l.0)) swapped
    swapped_issues = issues_enqueue p s fit t low _ _ (taken_issues (queued_word p s l.0)) _ l.0 a

    waits_issues : (e : Entry)
        → Issues p s t (record { entry = e } ∷ []) (λ q. []) s.registers
        (with_joined v t (get_or (entry_lanes e) 0 0) (get_or (entry_lanes e) 1 0))
    waits_issues = issues_await p s fit t low s.registers v (issues_none p s fit t low)

    -- what each operation does, and makes of the view: a compare, that succeeds or fails; all
    abbrev Made : ℕ → Type 0
    Made op =
        get_or c at 0 ≡ op
        → (w : Seen) × (performed_lanes c x t at ≡ padded (lay c w))
        × Issues p s t (joins s.registers t (of op l r a)) (λ q. exchanges p s t q (of op l r a))
        (pick (sets_register op) (set s.registers j (taken_by p s t (of op l r a))) s.registers) w

    made_compared : (b : Bool)
        → (w : Seen) × (pick b (exchanged_lanes c x t at) (fetched_lanes c x t at) ≡ padded (lay c w))
        × Issues p s t [] (λ q. pick (both b (eqb (line_of p l.0) q)) (write_slot l.0 a ∷ []) [])
        (set s.registers j (queued_word p s l.0)) w
    unfolding pick both
    made_compared true = (swapped, exchanged, swapped_issues)
    made_compared false = (with_register v j _, fetched, taken_issues _)

    made_compare : Made compare
    unfolding performed_lanes compared_lanes pick both either joins is_barrier exchanges swaps sets_register taken_by
        matches register_lane
    made_compare e =
        rw (e, isLocation, is_register, see_register c v t r.0 here few, queued_after l.0 there)
        (made_compared (matches p s t (of compare l r a)))

    made : (op : ℕ) → first_operation ≤ op → op ≤ last_operation → Made op
    unfolding performed_lanes pick both either joins is_barrier exchanges swaps sets_register entry_of taken_by entry_tag
        entry_word entry_lanes
    made =
        each_operation Made
        (λ e. (waits store_word, rw e (awaited store_word e), waits_issues _))
        (λ e. (waits store_register, rw e (awaited store_register e), waits_issues _))
        (λ e. (with_register v j _, rw e took, taken_issues _))
        (λ e. (swapped, rw e exchanged, swapped_issues))
        (λ e. (waits flush, rw e (awaited flush e), waits_issues _))
        (λ e. (waits flush_opt, rw e (awaited flush_opt e), waits_issues _))
        (λ e. (waits sfence, rw e (awaited sfence e), waits_issues _))
        (λ e. (v, rw e refl, issues_none p s fit t low))
        made_compare

-- an issue; there is room for its entry
module _ (p : Program) (s : State) (fit : Fits p s) (few : together p s ≤ all_code) where
  pub issue_room : (t : ℕ) → t < p.threads → rule_of p s (issue_step t) ≡ 0
      → sum_to (rows_in (listing_of p)) (seen_of p s).long < all_code
  unfolding unissued
  issue_room t low legal =
      let m = thread_low fit.program low in
      let a = entries_of_lem p s fit in
      let b = sum_part most_threads t (unissued p s) m in
      let d = issue_left p s fit t low legal in
      omega arith

  pub issue_lanes_lem : (t : ℕ) → t < p.threads → rule_of p s (issue_step t) ≡ 0 → Fits p (next_of p s (issue_step t))
      → issue_lanes (listing_of p) (laid_of p s) t ≡ laid_of p (next_of p s (issue_step t))
  unfolding issue_lanes counted
  issue_lanes_lem t low legal after =
      let c : List ℕ = listing_of p in
      let n : ℕ = issued_of s t in
      let next : Instruction = instruction_at p t n in
      let m = thread_low fit.program low in
      let left = issue_left p s fit t low legal in
      let few = fit.program.sized.few_instructions t in
      let fits = (fit.program.instructions t n left).1 in
      let here : t < threads_in c = rw (listing_threads p) low in
      let done = made p s fit t low (code_at t n) next.location next.register next.word
      fits.low_location fits.low_register
      (listing_location p fit.program t n m (omega arith))
      (listing_register p fit.program t n m (omega arith))
      (listing_word p fit.program t n m (omega arith))
      (issue_room t low legal) next.operation fits.some_operation fits.low_operation
      (listing_operation p fit.program t n m (omega arith)) in
      rw (see_issued c (seen_of p s) t here, set_issued c (seen_of p s) t (n + 1) here)
      (done.1 ∙ ap padded (issues_same p s fit t low legal after done.0 done.2))
