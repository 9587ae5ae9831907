-- A step is barred over the lanes of a state exactly where it breaks a rule in the state.
--   broken r   a rule's number that is not 0
-- Assumes nothing.
use Prim.Native.Nat.{ℕ, zero, suc, ◌+◌, ◌-◌, ◌≤◌, ◌<◌}
use mathlib.Core.Path.{◌≡◌, refl, sym, ap, ◌∙◌}
use mathlib.Core.Logic.{⊎_elim}
use mathlib.Core.Bool.{Bool, true, false, not}
use mathlib.Core.List.{List, [], ◌∷◌}
use native.Mathlib.Omega.{arith}
use native.Mathlib.Nat.{zero-add}
use borrow.Author.Tests.{lt-ltb, le-ltb, lt-leb, le-leb, leb-false, ne_eqb}
use lib.Dec.{eqb, leb, ltb}
use lib.ListN.{length, get_or, take}
use lib.Seq.{get_or-take, length-take-le}
use Rattle.cases.specs.declared.case.Program.{Program}
use Rattle.cases.specs.Choice.{pick, either, refuse}
use Rattle.cases.specs.Sizes.{most_threads}
use Rattle.cases.specs.Checks.{lines_of, count_at, instruction_at}
use Rattle.cases.proofs.Promises.{thread_low}
use Rattle.machine.specs.declared.cells.State.{State}
use Rattle.machine.specs.declared.cells.Waiting.{Waiting}
use Rattle.machine.specs.declared.cells.Entry.{Entry}
use Rattle.machine.specs.declared.cells.Entry.TheVariants.{Store, Flush, FlushOpt, Sfence}
use Rattle.machine.specs.View.{line_of, queue_len, buffer, buffer_len, blank_waiting, issued_of}
use Rattle.machine.specs.Parts.{parts_of}
use Rattle.machine.specs.Look.{marked, bars, first_bar}
use Rattle.machine.specs.Rules.{is_barrier, barrier_rule, operation_rule, issue_rule, effect_rule, pass_rule, entry_at}
use Rattle.machine.specs.Rules.{move_rule, persist_rule, rule_in, rule_of}
use Rattle.machine.specs.Fit.{any_from, any_of, Named, Fits}
use Rattle.machine.specs.Next.{issue_step, move_step, persist_step}
use Rattle.machine.proofs.lists.PartLaws.{lt_or_ge}
use Rattle.machine.proofs.Promises.{buffer_long, line_there}
use Rattle.search.specs.Sizes.{flush_tag, flush_opt_tag, sfence_tag}
use Rattle.search.specs.Lanes.{entry_lanes}
use Rattle.search.specs.Listing.{line_in, code_at, listing_of}
use Rattle.search.specs.Rows.{row_start}
use Rattle.search.specs.Barred.{bars_tag, bars_at, operation_barred, issue_barred, head_barred, pass_barred}
use Rattle.search.specs.Barred.{entry_barred, move_barred, persist_barred}
use Rattle.search.proofs.listing.ListingLaws.{listing_threads, listing_count, listing_line}
use Rattle.search.proofs.listing.ListingLaws.{listing_operation}
use Rattle.search.proofs.lanes.GeneralLaws.{any_numbered}
use Rattle.search.proofs.lanes.TagLaws.{tag_sfence, tag_flush_opt, tag_flush, tag_store}
use Rattle.search.proofs.lanes.LayLaws.{see_issued}
use Rattle.search.proofs.lanes.StateLaws.{seen_of}
use Rattle.search.proofs.lanes.LookLanesLaws.{laid_of, see_buffer_long, see_queue_long, see_tag}
use Rattle.search.proofs.lanes.LookLanesLaws.{named_there}
use Rattle.search.proofs.lanes.MarkLanesLaws.{marked_is}

abbrev pub broken : ℕ → Bool
broken r = not (eqb r 0)

-- broken: of a number above 0; of a chain of checks; of its last check; of a choice; as the code tests it
suc_broken : (n : ℕ) → broken (suc n) ≡ true
suc_broken n = ap not (ne_eqb (suc n) 0 (λ e. omega arith))

refuse_broken : (b : Bool) (n r : ℕ) → broken (refuse b (suc n) r) ≡ either b (broken r)
unfolding refuse either
refuse_broken true n r = suc_broken n
refuse_broken false n r = refl

refuse_last : (b : Bool) (n : ℕ) → broken (refuse b (suc n) 0) ≡ b
unfolding refuse
refuse_last true n = suc_broken n
refuse_last false n = refl

pick_broken : (b : Bool) (r : ℕ) → broken (pick b r 0) ≡ pick b (broken r) false
unfolding pick
pick_broken true r = refl
pick_broken false r = refl

some_broken : (n : ℕ) → ltb 0 n ≡ broken n
some_broken zero = refl
some_broken (suc n) = lt-ltb 0 (suc n) (omega arith) ∙ sym (suc_broken n)

-- an entry that waits bars a flush-opt of line q behind it
unfoldable barring : Program → ℕ → Waiting → Bool
barring p q w = bars p q w.entry

-- one that bars is the first, or there is an earlier one
any_first : (p : Program) (q : ℕ) (b : List Waiting) → any_of (barring p q) b ≡ ltb (first_bar p q b) (length b)
unfolding any_of first_bar barring
any_first p q [] = refl
any_first p q (w ∷ b) = go (bars p q w.entry) (any_first p q b)
  where
    less : (m n : ℕ) → ltb m n ≡ ltb (suc m) (suc n)
    less m n =
        ⊎_elim (λ h. lt-ltb m n h ∙ sym (lt-ltb (suc m) (suc n) (omega arith)))
        (λ h. le-ltb m n h ∙ sym (le-ltb (suc m) (suc n) (omega arith)))
        (lt_or_ge m n)

    go : (a : Bool) → any_of (barring p q) b ≡ ltb (first_bar p q b) (length b)
        → either a (any_of (barring p q) b) ≡ ltb (pick a 0 (suc (first_bar p q b))) (suc (length b))
    go true e = unfold either pick in sym (lt-ltb 0 (suc (length b)) (omega arith))
    go false e = unfold either pick in (e ∙ less (first_bar p q b) (length b))

-- A state that fits its program
module _ (p : Program) (s : State) (fit : Fits p s) where
  abbrev c : List ℕ
  c = listing_of p

  abbrev x : List ℕ
  x = laid_of p s

  module _ (t : ℕ) (low : t < p.threads) where
    in_range : t < most_threads
    in_range = thread_low fit.program low

    -- Issue
    operation_barred_lem : (op : ℕ) → operation_barred c x t op ≡ broken (operation_rule op (parts_of s) t)
    unfolding operation_barred operation_rule barrier_rule
    operation_barred_lem op =
        rw (see_buffer_long p s fit t low, marked_is p s fit t)
        (sym (pick_broken (is_barrier op) _
        ∙ ap (λ b. pick (is_barrier op) b false)
        (refuse_broken (ltb 0 (buffer_len s t)) 21 (refuse (marked s.marks s.lengths t) 23 0)
        ∙ rw (some_broken (buffer_len s t), refuse_last (marked s.marks s.lengths t) 22))))

    pub issue_barred_lem : issue_barred c x t ≡ broken (rule_of p s (issue_step t))
    unfolding issue_barred rule_of rule_in pick issue_rule
    issue_barred_lem =
        rw (
          listing_count p fit.program t in_range,
          see_issued c (seen_of p s) t (let a = listing_threads p in omega arith),
          refuse_broken (leb (count_at p t) (issued_of s t)) 20
              (operation_rule (instruction_at p t (issued_of s t)).operation (parts_of s) t),
        )
        (go (leb (count_at p t) (issued_of s t)) refl)
      where
        go : (b : Bool) → leb (count_at p t) (issued_of s t) ≡ b
            → either b (operation_barred c x t (get_or c (code_at t (issued_of s t)) 0))
            ≡ either b (broken (operation_rule (instruction_at p t (issued_of s t)).operation (parts_of s) t))
        go true e = unfold either in refl
        go false e = unfold either in
            (let m = fit.program.sized.few_instructions t in
            let h = leb-false (count_at p t) (issued_of s t) e in
            ap (operation_barred c x t) (listing_operation p fit.program t (issued_of s t) in_range (omega arith))
            ∙ operation_barred_lem (instruction_at p t (issued_of s t)).operation)

    -- Move: by the entry
    line_is : (l g : ℕ) → g ≡ l → line_in c g ≡ line_of p l
    line_is l g e = ap (line_in c) e ∙ listing_line p fit.program l

    head_barred_lem : (e : Entry) → Named p.locations e
        → head_barred c x t (get_or (entry_lanes e) 0 0) ≡ broken (effect_rule p (parts_of s) t e)
    unfolding head_barred effect_rule entry_lanes Named
    head_barred_lem (Store w) there =
        let k = fit.program.sized.few_locations in tag_store w.location.0 _ _ _ _ (omega arith)
    head_barred_lem (Flush l) there =
        let k = fit.program.sized.few_locations in
        let g = flush_tag + l.0 in
        tag_flush g _ _ _ _ (omega arith) (omega arith)
        ∙ rw (
          line_is l.0 (g - flush_tag) (omega arith),
          see_queue_long p s fit (line_of p l.0) (line_there p fit.program l.0 there),
        )
        (sym (refuse_last (ltb 0 (queue_len s (line_of p l.0))) 26 ∙ some_broken (queue_len s (line_of p l.0))))
    head_barred_lem (FlushOpt l) there =
        let k = fit.program.sized.few_locations in
        tag_flush_opt (flush_opt_tag + l.0) _ _ _ _ (omega arith) (omega arith)
    head_barred_lem Sfence there =
        tag_sfence sfence_tag _ _ _ _ (omega arith)
        ∙ marked_is p s fit t
        ∙ sym (refuse_last (marked s.marks s.lengths t) 27)

    -- an entry before a flush-opt
    bars_is : (q : ℕ) (e : Entry) → Named p.locations e
        → bars_tag c q (get_or (entry_lanes e) 0 0) ≡ bars p q e
    unfolding bars_tag bars entry_lanes Named
    bars_is q (Store w) there =
        let k = fit.program.sized.few_locations in
        let l = w.location.0 in
        tag_store l _ _ _ _ (omega arith) ∙ rw (line_is l l refl)
    bars_is q (Flush l) there =
        let k = fit.program.sized.few_locations in
        let g = flush_tag + l.0 in
        tag_flush g _ _ _ _ (omega arith) (omega arith) ∙ rw (line_is l.0 (g - flush_tag) (omega arith))
    bars_is q (FlushOpt l) there =
        let k = fit.program.sized.few_locations in
        tag_flush_opt (flush_opt_tag + l.0) _ _ _ _ (omega arith) (omega arith)
    bars_is q Sfence there = tag_sfence sfence_tag _ _ _ _ (omega arith)

    -- an entry that bars it stands before position i
    barred_before : (q i : ℕ) → i ≤ length (buffer s t)
        → any_from 0 i (bars_at c q x (row_start c x t)) ≡ ltb (first_bar p q (take i (buffer s t))) i
    unfolding bars_at barring
    barred_before q i h =
        let n = length-take-le i (buffer s t) h in
        ap (λ n. any_from 0 n (bars_at c q x (row_start c x t))) (sym n)
        ∙ any_numbered (bars_at c q x (row_start c x t)) (barring p q) (take i (buffer s t)) blank_waiting 0
        (λ j l.
        ap (bars_at c q x (row_start c x t)) (zero-add j)
        ∙ ap (bars_tag c q) (see_tag p s fit t low j (omega arith))
        ∙ bars_is q (entry_at (buffer s t) j) (named_there p s fit t low j (omega arith))
        ∙ ap (barring p q) (sym (get_or-take i (buffer s t) j blank_waiting (omega arith))))
        ∙ any_first p q (take i (buffer s t))
        ∙ ap (ltb (first_bar p q (take i (buffer s t)))) n

    -- an entry behind position 0
    pass_barred_lem : (i : ℕ) → i ≤ length (buffer s t) → (e : Entry) → Named p.locations e
        → pass_barred c x (row_start c x t) i (get_or (entry_lanes e) 0 0) ≡ broken (pass_rule p (buffer s t) i e)
    unfolding pass_barred pass_rule entry_lanes Named
    pass_barred_lem i h (Store w) there =
        let k = fit.program.sized.few_locations in
        let l = w.location.0 in
        rw (lt-leb sfence_tag l (omega arith), lt-leb flush_opt_tag l (omega arith)) (unfold pick in refl)
    pass_barred_lem i h (Flush l) there =
        let k = fit.program.sized.few_locations in
        let g = flush_tag + l.0 in
        rw (lt-leb sfence_tag g (omega arith), lt-leb flush_opt_tag g (omega arith)) (unfold pick in refl)
    pass_barred_lem i h (FlushOpt l) there =
        let k = fit.program.sized.few_locations in
        let g = flush_opt_tag + l.0 in
        rw (
          lt-leb sfence_tag g (omega arith),
          le-leb flush_opt_tag g (omega arith),
          line_is l.0 (g - flush_opt_tag) (omega arith),
          barred_before (line_of p l.0) i h,
        )
        (unfold pick in
        sym (refuse_last (ltb (first_bar p (line_of p l.0) (take i (buffer s t))) i) 25))
    pass_barred_lem i h Sfence there = rw (le-leb sfence_tag sfence_tag (omega arith)) (unfold pick in refl)

    -- a move
    rule_is : (i : ℕ) → rule_of p s (move_step t i)
        ≡ refuse (leb (buffer_len s t) i) 24
        (pick (eqb i 0) (effect_rule p (parts_of s) t (entry_at (buffer s t) i))
        (pass_rule p (buffer s t) i (entry_at (buffer s t) i)))
    unfolding rule_of rule_in pick move_rule
    rule_is i = refl

    pub move_barred_lem : (i : ℕ) → i < length (buffer s t) → move_barred c x t i ≡ broken (rule_of p s (move_step t i))
    unfolding move_barred entry_barred
    move_barred_lem i h =
        let n = buffer_long p s fit t in_range in
        rw (
          rule_is i,
          see_tag p s fit t low i h,
          head_barred_lem (entry_at (buffer s t) i) (named_there p s fit t low i h),
          pass_barred_lem i (omega arith) (entry_at (buffer s t) i) (named_there p s fit t low i h),
          lt-leb (buffer_len s t) i (omega arith),
        )
        (go (eqb i 0))
      where
        go : (b : Bool)
            → pick b (broken (effect_rule p (parts_of s) t (entry_at (buffer s t) i)))
            (broken (pass_rule p (buffer s t) i (entry_at (buffer s t) i)))
            ≡ broken (refuse false 24
            (pick b (effect_rule p (parts_of s) t (entry_at (buffer s t) i))
            (pass_rule p (buffer s t) i (entry_at (buffer s t) i))))
        go true = unfold pick refuse in refl
        go false = unfold pick refuse in refl

    -- behind its entries there are none to move
    pub move_beyond : (i : ℕ) → length (buffer s t) ≤ i → broken (rule_of p s (move_step t i)) ≡ true
    unfolding rule_of rule_in pick move_rule
    move_beyond i h =
        let n = buffer_long p s fit t in_range in
        rw (le-leb (buffer_len s t) i (omega arith)) (unfold refuse in refl)

  -- Persist
  pub persist_barred_lem : (q : ℕ) → q < lines_of p → persist_barred c x q ≡ broken (rule_of p s (persist_step q))
  unfolding persist_barred rule_of rule_in pick persist_rule
  persist_barred_lem q low =
      rw (see_queue_long p s fit q low)
      (sym (refuse_last (eqb (queue_len s q) 0) 28))
