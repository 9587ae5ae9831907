-- A case and the same of another version, both readable, answer alike: the machine takes the program, which is the
-- same. Assumes nothing.
use Prim.Native.Nat.{ℕ}
use mathlib.Core.Path.{◌≡◌, refl, sym, ap, ◌∙◌}
use mathlib.Core.Bool.{true}
use Rattle.cases.specs.declared.case.Case.{Case}
use Rattle.cases.specs.Choice.{pick}
use Rattle.cases.specs.Draft.{with_version}
use Rattle.cases.specs.Seats.{encode_of}
use Rattle.cases.specs.Writing.{reads_back}
use Rattle.cases.specs.Reading.{number_of, read_of}
use Rattle.cases.proofs.Promises.{read_after_write}
use Rattle.machine.specs.Judge.{judge_run, judge_of}
use Rattle.search.proofs.Promises.{steps_not_looked_at}
use Rattle.demands.specs.Twins.{Alike}

module _ (c : Case) (v : ℕ) (readable : reads_back c ≡ true) (other : reads_back (with_version c v) ≡ true) where
  -- the files of both read as they are
  abbrev twin : Case
  twin = with_version c v

  file_case : (d : Case) → reads_back d ≡ true
      → (number_of (read_of (encode_of d)).answer ≡ 0) × ((read_of (encode_of d)).case ≡ d)
  file_case d r = let e = read_after_write d r in (rw e refl, rw e refl)

  same_judged : judge_of c ≡ judge_of twin
  unfolding judge_of pick judge_run
  same_judged = rw (readable, other) (unfold with_version in refl)

  pub twin_alike : Alike c twin
  unfolding with_version
  twin_alike =
      let a = file_case c readable in
      let b = file_case twin other in
      record {
        runs = λ ks u. ((λ h. h), (λ h. h));
        walk = refl;
        judged = same_judged;
        asked = steps_not_looked_at (encode_of c) (encode_of twin) a.0 b.0
            (ap (λ (x : Case). x.program) a.1 ∙ sym (ap (λ (x : Case). x.program) b.1))
            (ap (λ (x : Case). x.ask) a.1 ∙ sym (ap (λ (x : Case). x.ask) b.1));
      }
