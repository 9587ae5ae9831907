-- `first_bar` meets its contract. Assumes nothing.
use Rattle.std.proofs.Common.{◌≡◌, sym, ◌∙◌, rules, take, length, position, Some, None}
use Rattle.machine.specs.View.{buffer}
use Rattle.machine.specs.Look.{bars}
use Rattle.machine.proofs.look.BarLaws.{bar_at, bar_none}
use Rattle.machine.proofs.fitted.Fitted.first_bar.Goals as goal

pub returns-in-Some : goal.returns-in-Some
returns-in-Some c =
    let a = c.args in
    let e : position (λ w. bars a.self.now.p.now a.q.0 w.entry) (take a.i (buffer a.self.now.s.now a.t.0)) ≡ Some c.in-Some.j
    = search rules in
    bar_at _ _ _ _ e

pub returns-in-None : goal.returns-in-None
returns-in-None c =
    let a = c.args in
    let e : position (λ w. bars a.self.now.p.now a.q.0 w.entry) (take a.i (buffer a.self.now.s.now a.t.0)) ≡ None
    = search rules in
    let n : length (take a.i (buffer a.self.now.s.now a.t.0)) ≡ a.i = search rules in
    sym n ∙ bar_none _ _ _ e
