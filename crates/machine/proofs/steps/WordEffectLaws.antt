-- What each legal step does to the words on their way to a location, whichever queue they go through: an issue
-- and a move put what they bring there at the end; a persist takes what goes there from the front. Assumes
-- nothing.
use Prim.Native.Nat.{ℕ, ◌<◌}
use mathlib.Core.Path.{◌≡◌, refl, sym, ap, ◌∙◌}
use mathlib.Core.Logic.{◌≢◌, inl, inr}
use mathlib.Core.Bool.{Bool, true, false}
use mathlib.Core.List.{List, [], ◌∷◌, ◌++◌, append_assoc}
use native.Mathlib.Omega.{arith}
use native.Mathlib.Decide.{ℕ_discrete}
use borrow.Author.Tests.{eq-eqb, ne_eqb}
use lib.Dec.{eqb}
use Rattle.cases.specs.declared.case.Instruction.{Instruction}
use Rattle.cases.specs.declared.case.Program.{Program}
use Rattle.cases.specs.Choice.{pick, both}
use Rattle.cases.proofs.ChoiceLaws.{pick_false, pick_cases}
use Rattle.cases.specs.Sizes.{most_locations}
use Rattle.cases.specs.Checks.{lines_of, instruction_at}
use Rattle.machine.specs.declared.cells.State.{State}
use Rattle.machine.specs.declared.cells.Entry.{Entry}
use Rattle.machine.specs.declared.cells.Entry.TheVariants.{Store, Flush, FlushOpt, Sfence}
use Rattle.machine.specs.View.{Slot, mark_of, line_of, write_slot, marker_slot, queue, buffer, word_of, issued_of}
use Rattle.machine.specs.Sizes.{first_marker}
use Rattle.machine.specs.Look.{word_or}
use Rattle.machine.specs.Rules.{entry_at, rule_of, next_of, start_of}
use Rattle.machine.specs.Joins.{swaps, exchanges, enters, only_if, writes_of, store_of, swap_of, on_way, last_or}
use Rattle.machine.specs.Next.{issue_step, move_step, persist_step}
use Rattle.machine.specs.Fit.{Fits, Borne}
use Rattle.machine.proofs.view.LineOfLaws.{few_lines, line_low}
use Rattle.machine.proofs.fit.StartLaws.{start_queue}
use Rattle.machine.proofs.fit.SpareLaws.{marks_borne}
use Rattle.machine.proofs.steps.IssueEffectLaws.{issue_queue}
use Rattle.machine.proofs.steps.MoveEffectLaws.{move_queue}
use Rattle.machine.proofs.steps.PersistEffectLaws.{persist_taken, persist_queue_other}

-- one behind another
writes_append : (l : ℕ) (q r : List Slot) → writes_of l (q ++ r) ≡ writes_of l q ++ writes_of l r
unfolding writes_of
writes_append l [] r = refl
writes_append l (h ∷ q) r =
    rw (writes_append l q r)
    (sym (append_assoc (only_if (eqb h.mark l) h.word) (writes_of l q) (writes_of l r)))

-- a write of location m that goes where those of location l go is a word of l where it is l's; where m is l it
-- goes there
module _ (p : Program) (l m w : ℕ) where
  write_words : writes_of l (pick (eqb (line_of p m) (line_of p l)) (write_slot m w ∷ []) []) ≡ only_if (eqb m l) w
  unfolding only_if
  write_words = go (ℕ_discrete m l)
    where
      go : Dec (m ≡ l)
          → writes_of l (pick (eqb (line_of p m) (line_of p l)) (write_slot m w ∷ []) []) ≡ pick (eqb m l) (w ∷ []) []
      go (yes e) =
          rw (e, eq-eqb l l refl, eq-eqb (line_of p l) (line_of p l) refl)
          (unfold pick writes_of only_if in rw (eq-eqb l l refl) (unfold pick in refl))
      go (no e) =
          rw (ne_eqb m l e)
          (pick_cases (λ q. writes_of l q ≡ pick false (w ∷ []) []) _ _ _
          (λ c. unfold pick writes_of only_if in rw (ne_eqb m l e) (unfold pick in refl))
          (λ c. unfold pick writes_of in refl))

-- a marker is no location's
marker_words : (l : ℕ) → l < first_marker → (b : Bool) (t : ℕ) → writes_of l (pick b (marker_slot t ∷ []) []) ≡ []
unfolding writes_of only_if pick
marker_words l h true t = rw (ne_eqb (mark_of t) l (λ z. omega arith)) refl
marker_words l h false t = refl

-- what an instruction and an entry put into the queue of a location's line are, of that location, the words that
-- they bring there
exchanges_writes : (p : Program) (s : State) (t l : ℕ) (x : Instruction)
    → writes_of l (exchanges p s t (line_of p l) x) ≡ swap_of p s t l x
unfolding exchanges swap_of
exchanges_writes p s t l x = go (swaps p s t x)
  where
    go : (b : Bool)
        → writes_of l
        (pick (both b (eqb (line_of p x.location.0) (line_of p l))) (write_slot x.location.0 x.word ∷ []) [])
        ≡ only_if (both b (eqb x.location.0 l)) x.word
    go true = unfold both in write_words p l x.location.0 x.word
    go false = unfold both pick only_if writes_of in refl

enters_writes : (p : Program) (t l : ℕ) → l < first_marker → (e : Entry)
    → writes_of l (enters p t (line_of p l) e) ≡ store_of l e
unfolding enters store_of
enters_writes p t l h (Store x) = write_words p l x.location.0 x.word
enters_writes p t l h (Flush m) = unfold writes_of in refl
enters_writes p t l h (FlushOpt m) = marker_words l h _ t
enters_writes p t l h Sfence = unfold writes_of in refl

-- nothing at the start
pub start_words : (p : Program) (l : ℕ) → on_way p (start_of p) l ≡ []
unfolding on_way
start_words p l = ap (writes_of l) (start_queue p (line_of p l)) ∙ (unfold writes_of in refl)

module _ (p : Program) (s : State) (f : Fits p s) where
  low : (l : ℕ) → l < p.locations → line_of p l < most_locations
  low l there = let w = f.program.sized.few_locations in line_low p f.program l (omega arith)

  under : (l : ℕ) → l < p.locations → l < first_marker
  under l there = let w = f.program.sized.few_locations in omega arith

  -- more at the end of a location's queue
  on_way_lem : (u : State) (l : ℕ) (r : List Slot) (ws : List ℕ)
      → queue u (line_of p l) ≡ queue s (line_of p l) ++ r
      → writes_of l r ≡ ws
      → on_way p u l ≡ on_way p s l ++ ws
  unfolding on_way
  on_way_lem u l r ws e d = ap (writes_of l) e ∙ writes_append l _ r ∙ ap (λ x. writes_of l (queue s (line_of p l)) ++ x) d

  pub issue_words : (t : ℕ) → t < p.threads → rule_of p s (issue_step t) ≡ 0
      → (l : ℕ) → l < p.locations
      → on_way p (next_of p s (issue_step t)) l ≡ on_way p s l ++ swap_of p s t l (instruction_at p t (issued_of s t))
  issue_words t there legal l h =
      on_way_lem _ l _ _ (issue_queue p s f t there legal (line_of p l) (low l h)) (exchanges_writes p s t l _)

  pub move_words : (t i : ℕ) → t < p.threads → rule_of p s (move_step t i) ≡ 0
      → (l : ℕ) → l < p.locations
      → on_way p (next_of p s (move_step t i)) l ≡ on_way p s l ++ store_of l (entry_at (buffer s t) i)
  move_words t i there legal l h =
      on_way_lem _ l _ _ (move_queue p s f t i there legal (line_of p l) (low l h)) (enters_writes p t l (under l h) _)

-- the oldest of a queue as the words of a location that leave it
last_word : (l : ℕ) (h : Slot) (w : ℕ) → word_or l h w ≡ last_or (only_if (eqb h.mark l) h.word) w
unfolding word_or only_if
last_word l h w = go (eqb h.mark l)
  where
    go : (b : Bool) → pick b h.word w ≡ last_or (pick b (h.word ∷ []) []) w
    go true = unfold pick last_or in refl
    go false = unfold pick last_or in refl

-- a write of a location that has another line does not stand there
other_line : (p : Program) (q m l : ℕ) → l < first_marker → Borne p q m → line_of p l ≢ q → m ≢ l
other_line p q m l h (inl (a, e)) n z = n (rw z at e)
other_line p q m l h (inr (a, b)) n z = omega arith

module _ (p : Program) (s : State) (f : Fits p s) (q : ℕ) (there : q < lines_of p)
    (legal : rule_of p s (persist_step q) ≡ 0) where
  abbrev next : State
  next = next_of p s (persist_step q)

  pub persist_words : (l : ℕ) → l < p.locations
      → (out : List ℕ) × (on_way p s l ≡ out ++ on_way p next l) × (word_of next l ≡ last_or out (word_of s l))
  unfolding on_way
  persist_words l h = go (ℕ_discrete (line_of p l) q)
    where
      in_range : l < most_locations
      in_range = let w = f.program.sized.few_locations in omega arith

      go : Dec (line_of p l ≡ q)
          → (out : List ℕ) × (on_way p s l ≡ out ++ on_way p next l) × (word_of next l ≡ last_or out (word_of s l))
      go (yes e) =
          let x = persist_taken p s f q there legal in (
            only_if (eqb x.0.mark l) x.0.word,
            rw e (ap (writes_of l) x.1 ∙ (unfold writes_of in refl)),
            x.2 l in_range ∙ last_word l x.0 (word_of s l),
          )
      go (no e) =
          let x = persist_taken p s f q there legal in
          let z = few_lines p f.program in
          let b = (marks_borne p s f q (omega arith) x.0 _ x.1).0 in
          let n = other_line p q x.0.mark l (under p s f l h) b e in (
            [],
            sym (ap (writes_of l) (persist_queue_other p s f q there legal (line_of p l) (low p s f l h) e)),
            x.2 l in_range ∙ (unfold word_or last_or in pick_false _ _ _ (ne_eqb _ _ n)),
          )
