-- What stands in memory at the end of a run, and which runs leave it there. Assumes nothing.
use Prim.Native.Nat.{ℕ, ◌-◌, ◌<◌}
use mathlib.Core.Path.{◌≡◌, refl, sym, ap, subst, ◌∙◌}
use mathlib.Core.Logic.{◌⊎◌, inl, inr, ◌≢◌}
use mathlib.Core.Bool.{false}
use mathlib.Core.List.{List, []}
use native.Mathlib.Omega.{arith}
use native.Mathlib.Decide.{ℕ_discrete}
use borrow.Author.Tests.{eqb-true}
use lib.ListN.{get_or}
use Rattle.cases.specs.declared.case.Step.{Step}
use Rattle.cases.specs.declared.case.Program.{Program}
use Rattle.cases.proofs.ChoiceLaws.{never_both, both_true}
use Rattle.cases.specs.Checks.{count_at, instruction_at}
use Rattle.cases.specs.Operations.{store_register, compare}
use Rattle.machine.specs.declared.cells.State.{State}
use Rattle.machine.specs.View.{buffer, word_of, issued_of}
use Rattle.machine.specs.Rules.{start_of}
use Rattle.cases.specs.Ranges.{ProgramFits}
use Rattle.machine.proofs.Promises.{ptso_lawful, start_fits}
use Rattle.machine.proofs.Effects.{start_buffer, start_words, start_issued, start_word}
use Rattle.machine.specs.Model.{LegalRun, FinishedRun}
use Rattle.machine.specs.Ptso.{ptso}
use Rattle.machine.specs.Work.{Uncompared}
use Rattle.demands.specs.Writes.{writes, writes_at, fixed_from, fixed_of, made_from, made_of, LastWrite, LastMade}
use Rattle.demands.specs.Writes.{Unwritten, NoneMade, Alone}
use Rattle.demands.proofs.writes.LastLaws.{Settles}
use Rattle.machine.specs.Joins.{last_or}
use Rattle.demands.proofs.writes.StoresLaws.{gathered, fixes_from}
use Rattle.demands.proofs.writes.ComingLaws.{coming}
use Rattle.demands.proofs.writes.SettleLaws.{newest, run_settles, run_keeps}
use Rattle.demands.proofs.writes.LastWriteLaws.{fixes_last, fixes_none, none_fixes, last_one, last_same}
use Rattle.demands.proofs.fixed.FixedLaws.{fixed_word, made_surely, made_never}
use Rattle.demands.proofs.ends.EndLaws.{stuck_done, run_fits}

module _ (p : Program) (fits : ProgramFits p) where
  pub in_threads : (t i : ℕ) → i < count_at p t → t < p.threads
  in_threads t i h = (fits.instructions t i h).0

  -- where nothing waits in a thread's buffer and it has issued nothing, all it has to come is still to be made
  pub unissued_coming : (s : State) (ks : List Step) (l t : ℕ) → buffer s t ≡ [] → issued_of s t ≡ 0
      → coming p s ks l t ≡ fixes_from (made_from p s ks t l) (fixed_from p s ks t) 0 (count_at p t)
  unfolding coming gathered
  unissued_coming s ks l t b e = let n : count_at p t - 0 ≡ count_at p t = omega arith in rw (b, e, n) refl

  start_coming : (ks : List Step) (l t : ℕ)
      → coming p (start_of p) ks l t ≡ fixes_from (made_of p ks t l) (fixed_of p ks t) 0 (count_at p t)
  unfolding made_of fixed_of
  start_coming ks l t = unissued_coming (start_of p) ks l t (start_buffer p t) (start_issued p t)

  start_newest : (l : ℕ) → newest p (start_of p) l ≡ get_or p.first l 0
  unfolding newest last_or
  start_newest l = rw (start_words p l, start_word p l) refl

  -- At the end of a run that cannot go on
  module _ (ks : List Step) (u : State) (run : FinishedRun (ptso p) ks u) (l : ℕ) (low : l < p.locations) where
    end_settles : Settles p.threads (coming p (start_of p) ks l) (newest p (start_of p) l) (word_of u l)
    end_settles =
        run_settles p l low (start_of p) ks u (start_fits p fits) run.legal.faultless run.legal.leads
        (stuck_done p u (run_fits (ptso p) (ptso_lawful p fits) ks u run.legal) run.over)

    pub memory_made :
        ((t : ℕ) × (i : ℕ) × LastMade p ks t l i × (word_of u l ≡ fixed_of p ks t i))
        ⊎ (NoneMade p ks l × (word_of u l ≡ get_or p.first l 0))
    unfolding NoneMade Settles
    memory_made = go end_settles
      where
        go : Settles p.threads (coming p (start_of p) ks l) (newest p (start_of p) l) (word_of u l)
            → ((t : ℕ) × (i : ℕ) × LastMade p ks t l i × (word_of u l ≡ fixed_of p ks t i))
            ⊎ (((t i : ℕ) → i < count_at p t → made_of p ks t l i ≡ false) × (word_of u l ≡ get_or p.first l 0))
        go (inl x) =
            inr (
              (λ t i h.
                  let e = sym (start_coming ks l t) ∙ x.0 t (in_threads t i h) in
                  fixes_none (made_of p ks t l) (fixed_of p ks t) (count_at p t) e i h),
              x.1 ∙ start_newest l,
            )
        go (inr x) =
            let e = start_coming ks l x.0 in
            let w = fixes_last (made_of p ks x.0 l) (fixed_of p ks x.0) (count_at p x.0) (rw e at x.2) in
            inl (x.0, w.0, w.1, x.3 ∙ ap (λ (y : List ℕ). last_or y 0) e ∙ w.2)

  -- At the end every instruction is issued: one that is no compare has made its write, where it is one
  module _ (ks : List Step) (u : State) (run : FinishedRun (ptso p) ks u) (t i : ℕ) (there : i < count_at p t) where
    all_issued : i < issued_of u t
    all_issued =
        let d = (stuck_done p u (run_fits (ptso p) (ptso_lawful p fits) ks u run.legal) run.over).issued
        t (in_threads t i there) in
        omega arith

    pub memory_surely : (l : ℕ) → (instruction_at p t i).operation ≢ compare → made_of p ks t l i ≡ writes_at p t l i
    unfolding made_of
    memory_surely l plain =
        made_surely p (start_of p) ks u t l i (start_fits p fits) run.legal.faultless run.legal.leads
        (let z = start_issued p t in omega arith) all_issued plain

    -- and has fixed the word that the program has, but for a store of a register
    pub memory_own_word : (instruction_at p t i).operation ≢ store_register
        → fixed_of p ks t i ≡ (instruction_at p t i).word
    unfolding fixed_of
    memory_own_word word =
        fixed_word p (start_of p) ks u t i (start_fits p fits) run.legal.faultless run.legal.leads
        (let z = start_issued p t in omega arith) all_issued word

  -- A program without a compare: what is really made is what the program writes
  module _ (plain : Uncompared p) (ks : List Step) (u : State) (run : FinishedRun (ptso p) ks u) where
    pub plain_made : (t l i : ℕ) → i < count_at p t → made_of p ks t l i ≡ writes_at p t l i
    unfolding Uncompared
    plain_made t l i h = memory_surely ks u run t i h l (plain t i h)

    pub memory_at_end : (l : ℕ) → l < p.locations
        → ((t : ℕ) × (i : ℕ) × LastWrite p t l i × (word_of u l ≡ fixed_of p ks t i))
        ⊎ (Unwritten p l × (word_of u l ≡ get_or p.first l 0))
    unfolding NoneMade Unwritten
    memory_at_end l low = go (memory_made ks u run l low)
      where
        go : ((t : ℕ) × (i : ℕ) × LastMade p ks t l i × (word_of u l ≡ fixed_of p ks t i))
            ⊎ (((t i : ℕ) → i < count_at p t → made_of p ks t l i ≡ false) × (word_of u l ≡ get_or p.first l 0))
            → ((t : ℕ) × (i : ℕ) × LastWrite p t l i × (word_of u l ≡ fixed_of p ks t i))
            ⊎ (((t i : ℕ) → i < count_at p t → writes_at p t l i ≡ false) × (word_of u l ≡ get_or p.first l 0))
        go (inl x) = inl (x.0, x.1, last_same _ _ _ x.1 (plain_made x.0 l) x.2, x.3)
        go (inr x) = inr ((λ t i h. sym (plain_made t l i h) ∙ x.0 t i h), x.1)

  pub written_low : (t l i : ℕ) → LastWrite p t l i → l < p.locations
  unfolding writes_at writes
  written_low t l i o =
      let e : (instruction_at p t i).location.0 ≡ l = eqb-true _ _ (both_true _ _ o.writing).1 in
      let low = (fits.instructions t i o.there).1.low_location in
      omega arith

  -- what is no write to a location is never made there
  never_made : (ks : List Step) (t l i : ℕ) → writes_at p t l i ≡ false → made_of p ks t l i ≡ false
  unfolding made_of
  never_made = made_never p (start_of p)

  -- A location that one thread alone writes, and whose last write there is surely made, with its word in the
  -- program
  pub memory_alone : (t l i : ℕ) → LastWrite p t l i → Alone p t l
      → (instruction_at p t i).operation ≢ store_register
      → (instruction_at p t i).operation ≢ compare
      → (ks : List Step) (u : State) → FinishedRun (ptso p) ks u → word_of u l ≡ (instruction_at p t i).word
  unfolding Alone NoneMade
  memory_alone t l i last alone word plain ks u run = go (memory_made ks u run l (written_low t l i last))
    where
      made : LastMade p ks t l i
      made =
          record {
            there = last.there;
            writing = memory_surely ks u run t i last.there l plain ∙ last.writing;
            last = λ j h k. never_made ks t l j (last.last j h k);
          }

      own : (k j : ℕ) → LastMade p ks k l j → word_of u l ≡ fixed_of p ks k j → Dec (k ≡ t)
          → word_of u l ≡ (instruction_at p t i).word
      own k j o e (no d) = absurd (never_both o.writing (never_made ks k l j (alone k j d o.there)))
      own k j o e (yes d) =
          e
          ∙ ap (λ (m : ℕ). fixed_of p ks m j) d
          ∙ ap (fixed_of p ks t) (last_one _ _ j i (subst (λ m. LastMade p ks m l j) d o) made)
          ∙ memory_own_word ks u run t i last.there word

      go : ((k : ℕ) × (j : ℕ) × LastMade p ks k l j × (word_of u l ≡ fixed_of p ks k j))
          ⊎ (((k j : ℕ) → j < count_at p k → made_of p ks k l j ≡ false) × (word_of u l ≡ get_or p.first l 0))
          → word_of u l ≡ (instruction_at p t i).word
      go (inl x) = own x.0 x.1 x.2 x.3 (ℕ_discrete x.0 t)
      go (inr x) = absurd (never_both made.writing (x.0 t i last.there))

  -- A location that no thread writes
  pub memory_unwritten : (l : ℕ) → l < p.locations → Unwritten p l
      → (ks : List Step) (u : State) → LegalRun (ptso p) ks u → word_of u l ≡ get_or p.first l 0
  unfolding Unwritten
  memory_unwritten l low none ks u run =
      run_keeps p l low (start_of p) ks u (start_fits p fits) run.faultless run.leads (start_words p l)
      (λ t h. start_coming ks l t ∙ none_fixes _ _ _ (λ i k. never_made ks t l i (none t i k)))
      ∙ start_word p l
