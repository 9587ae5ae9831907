-- Of each rule that names an entry: the place is where one stands that is in the way, and every other that is comes
-- behind it. Assumes nothing.
use Prim.Native.Nat.{ℕ, ◌≤◌, ◌<◌}
use mathlib.Core.Path.{◌≡◌, refl, sym, ap, ◌∙◌}
use mathlib.Core.Logic.{◌⊎◌, inl, inr, ◌≢◌, ⊎_elim}
use mathlib.Core.Bool.{true}
use mathlib.Core.List.{[]}
use native.Mathlib.Omega.{arith}
use lib.ListN.{length, get_or, take}
use Rattle.cases.specs.declared.case.Line.{Line}
use Rattle.cases.specs.declared.case.Thread.{Thread}
use Rattle.cases.specs.declared.case.Step.{Step}
use Rattle.cases.specs.declared.case.Program.{Program}
use Rattle.cases.specs.Sizes.{most_locations}
use Rattle.cases.proofs.ChoiceLaws.{never_both}
use Rattle.machine.specs.declared.cells.State.{State}
use Rattle.machine.specs.declared.look.Place.{Place}
use Rattle.std.specs.Prelude.{Option, Some, None}
use Rattle.machine.specs.declared.blocker.Blocker.{Blocker}
use Rattle.machine.specs.declared.blocker.Blocker.TheVariants.{InBuffer, InQueue, NoEntry}
use Rattle.machine.specs.View.{Slot, mark_of, marks_in, queue, buffer}
use Rattle.machine.specs.Parts.{parts_of}
use Rattle.machine.specs.Look.{marker_of, is_at, found_queue, found_position, marked, first_bar}
use Rattle.machine.specs.Rules.{rule_of}
use Rattle.machine.specs.Blocker.{marker_place, entry_line, taken}
use Rattle.machine.specs.Fit.{Fits}
use Rattle.machine.specs.InTheWay.{StandsAt, InTheWay, Before}
use Rattle.machine.proofs.lists.PartLaws.{lt_or_ge}
use Rattle.machine.proofs.lists.StandsLaws.{some_stands}
use Rattle.machine.proofs.fit.SpareLaws.{marks_fit}
use Rattle.machine.proofs.look.MarkerLaws.{marker_stands, marker_first}
use Rattle.machine.proofs.look.BarLaws.{bar_stands, bar_first}
use Rattle.machine.proofs.blocker.MarkedLaws.{HasMarker, marked_stands, has_marked, stands_mark}

-- places of one thread, and of one line
same_thread : (t u : Thread) (i j : ℕ) → t.0 ≡ u.0 → i ≡ j → InBuffer t i ≡ InBuffer u j
same_thread t u i j e d = λ x. InBuffer (record { 0 = e x }) (d x)

same_line : (q m : Line) (i j : ℕ) → q.0 ≡ m.0 → i ≡ j → InQueue q i ≡ InQueue m j
same_line q m i j e d = λ x. InQueue (record { 0 = e x }) (d x)

-- a place is the first, or comes behind it
abbrev FirstOr : Blocker → Blocker → Type 0
FirstOr first b = (b ≡ first) ⊎ Before first b

-- by their numbers: in one buffer; in queues
buffer_first : (t u : Thread) (i j : ℕ) → u.0 ≡ t.0 → i ≤ j → FirstOr (InBuffer t i) (InBuffer u j)
unfolding Before
buffer_first t u i j e h = ⊎_elim (λ l. inr l) (λ g. inl (same_thread u t j i e (omega arith))) (lt_or_ge i j)

queue_first : (q m : Line) (i j : ℕ) → q.0 ≤ m.0 → (m.0 ≡ q.0 → i ≤ j) → FirstOr (InQueue q i) (InQueue m j)
unfolding Before
queue_first q m i j h g =
    ⊎_elim (λ l. inr (inl l))
    (λ n.
    let e : m.0 ≡ q.0 = omega arith in
    let k = g e in
    ⊎_elim (λ l. inr (inr (sym e, l))) (λ o. inl (same_line m q j i e (omega arith))) (lt_or_ge i j))
    (lt_or_ge q.0 m.0)

-- a marker that was found has its place
pub found_place : (f : Option Place) → is_at f ≡ true → marker_place f ≡ InQueue (record { 0 = found_queue f }) (found_position f)
found_place (Some m) h = refl
found_place None h = absurd (never_both h refl)

-- A state that fits, and a step
module _ (p : Program) (s : State) (fit : Fits p s) (k : Step) where
  -- the first entry in the way, as a fact
  abbrev pub IsFirst : Blocker → Type 0
  IsFirst first = InTheWay p s k first × ((b : Blocker) → InTheWay p s k b → FirstOr first b)

  abbrev own : ℕ
  own = k.thread.0

  -- 22: the own buffer's oldest
  pub first_22 : rule_of p s k ≡ 22 → buffer s own ≢ [] → IsFirst (InBuffer k.thread 0)
  unfolding InTheWay
  first_22 e some = let w = some_stands _ some in ((refl, w.0, w.1, inl e), others)
    where
      others : (b : Blocker) → InTheWay p s k b → FirstOr (InBuffer k.thread 0) b
      others (InBuffer t i) h = buffer_first k.thread t 0 i h.0 (omega arith)
      others (InQueue q i) (h, st, inl (r, l)) = absurd (omega arith)
      others (InQueue q i) (h, st, inr (inl r, l)) = absurd (omega arith)
      others (InQueue q i) (h, st, inr (inr r, l)) = absurd (omega arith)
      others NoEntry h = absurd h

  -- 26: the first before the flush-opt that bars it
  module _ (e : rule_of p s k ≡ 26) (few : k.position ≤ length (buffer s own)) where
    abbrev line : ℕ
    line = entry_line p (taken (parts_of s) k)

    abbrev first : ℕ
    first = first_bar p line (take k.position (buffer s own))

    pub first_26 : first < k.position → IsFirst (InBuffer k.thread first)
    unfolding InTheWay
    first_26 low =
        let w = bar_stands p line (buffer s own) k.position few low in
        ((refl, w.0, w.1, inr (e, low, w.2)), others)
      where
        others : (b : Blocker) → InTheWay p s k b → FirstOr (InBuffer k.thread first) b
        others (InBuffer t i) (h, w, st, inl r) = absurd (omega arith)
        others (InBuffer t i) (h, w, st, inr (r, before, bar)) =
            let here : StandsAt (buffer s own) i w = rw h at st in
            buffer_first k.thread t first i h (bar_first p line (buffer s own) k.position i w here bar before)
        others (InQueue q i) (h, st, inl (r, l)) = absurd (omega arith)
        others (InQueue q i) (h, st, inr (inl r, l)) = absurd (omega arith)
        others (InQueue q i) (h, st, inr (inr r, l)) = absurd (omega arith)
        others NoEntry h = absurd h

  -- 27: the oldest of the flush's queue
  pub first_27 : rule_of p s k ≡ 27 → queue s (entry_line p (taken (parts_of s) k)) ≢ []
      → IsFirst (InQueue (record { 0 = entry_line p (taken (parts_of s) k) }) 0)
  unfolding InTheWay
  first_27 e some = let h = some_stands _ some in ((h.0, h.1, inl (e, refl)), others)
    where
      others : (b : Blocker) → InTheWay p s k b
          → FirstOr (InQueue (record { 0 = entry_line p (taken (parts_of s) k) }) 0) b
      others (InBuffer t i) (h, w, st, inl r) = absurd (omega arith)
      others (InBuffer t i) (h, w, st, inr (r, before, bar)) = absurd (omega arith)
      others (InQueue q i) (h, st, inl (r, l)) =
          queue_first (record { 0 = entry_line p (taken (parts_of s) k) }) q 0 i (omega arith) (λ z. omega arith)
      others (InQueue q i) (h, st, inr (inl r, l)) = absurd (omega arith)
      others (InQueue q i) (h, st, inr (inr r, l)) = absurd (omega arith)
      others NoEntry h = absurd h

  -- 23 and 28: the thread's first marker
  module _ (which : (rule_of p s k ≡ 23) ⊎ (rule_of p s k ≡ 28)) (has : HasMarker s own) where
    abbrev found : Option Place
    found = marker_of s.marks s.lengths own

    pub is_found : is_at found ≡ true
    unfolding marked
    is_found = has_marked p s fit own has

    abbrev place : Blocker
    place = InQueue (record { 0 = found_queue found }) (found_position found)

    pub first_marker_lem : IsFirst place
    unfolding InTheWay marked
    first_marker_lem = let m = marked_stands p s fit own is_found in ((m.0, m.2, inr (which, m.3)), others)
      where
        low : found_queue found < most_locations
        low = (marker_stands s.marks s.lengths own is_found).0

        -- another marker of the thread stands in no lower queue, and at no lower position of its queue
        behind : (q : Line) (i : ℕ) (h : Slot) → StandsAt (queue s q.0) i h → h.mark ≡ mark_of own
            → FirstOr place (InQueue q i)
        behind q i h st m = queue_first _ q _ i not_lower not_before
          where
            marked_here : q.0 < most_locations → get_or (marks_in s.marks s.lengths q.0) i 0 ≡ mark_of own
            marked_here there =
                ap (λ ms. get_or ms i 0) (sym (marks_fit p s fit q.0 there))
                ∙ stands_mark (queue s q.0) i h st ∙ m

            not_lower : found_queue found ≤ q.0
            not_lower =
                ⊎_elim (λ l. absurd ((marker_first s.marks s.lengths own is_found).0 q.0 i l
                (marked_here (omega (arith, low))))) (λ g. g) (lt_or_ge q.0 (found_queue found))

            not_before : q.0 ≡ found_queue found → found_position found ≤ i
            not_before z =
                ⊎_elim (λ l. absurd ((marker_first s.marks s.lengths own is_found).1 i l
                (rw z at (marked_here (omega (arith, low)))))) (λ g. g) (lt_or_ge i (found_position found))

        -- a number that is neither
        never : (n : ℕ) → n ≢ 23 → n ≢ 28 → rule_of p s k ≡ n → ⊥
        never n a b r = ⊎_elim (λ e. a (sym r ∙ e)) (λ e. b (sym r ∙ e)) which

        others : (b : Blocker) → InTheWay p s k b → FirstOr place b
        others (InBuffer t i) (h, w, st, inl r) = absurd (never 22 (λ z. omega arith) (λ z. omega arith) r)
        others (InBuffer t i) (h, w, st, inr (r, before, bar)) =
            absurd (never 26 (λ z. omega arith) (λ z. omega arith) r)
        others (InQueue q i) (h, st, inl (r, l)) = absurd (never 27 (λ z. omega arith) (λ z. omega arith) r)
        others (InQueue q i) (h, st, inr (r, m)) = behind q i h st m
        others NoEntry h = absurd h
