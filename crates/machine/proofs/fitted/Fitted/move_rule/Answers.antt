-- `move_rule` meets its contract. Assumes nothing.
use Rattle.std.proofs.Common.{◌≡◌, ◌<◌, ◌≤◌, sym, arith, rules}
use borrow.Author.Tests.{ltb-true, ltb-false, le-leb}
use Rattle.cases.proofs.ChoiceLaws.{refuse_here}
use Rattle.machine.specs.View.{buffer, buffer_len}
use Rattle.machine.specs.Rules.{entry_at, move_rule}
use Rattle.machine.proofs.moves.MoveLaws.{move_first_named, move_first, move_behind}
use Rattle.machine.proofs.fitted.FittedLaws.{lent_head}
use Rattle.machine.proofs.fitted.Fitted.move_rule.Goals as goal

pub returns-in_default : goal.returns-in_default
unfolding move_rule
returns-in_default c =
    let n = ltb-false _ _ (sym c.in_default.ensures.lookup.0) in
    let none : buffer_len c.args.self.now.s.now c.args.t.0 ≤ c.args.i = omega arith in
    refuse_here _ 24 _ (le-leb _ _ none)

pub effect_rule-requires : goal.effect_rule-requires
effect_rule-requires c =
    let is : entry_at (buffer c.args.self.now.s.now c.args.t.0) c.args.i ≡ c.in-Some.w.now.entry = search rules in
    let head = lent_head c.args.self.now.fits c.args.t.0 c.requires in
    (c.requires, move_first_named c.args.self.now.s.now _ _ _ is c.if-i-eq0.true _ head)

pub returns-then-i-eq0 : goal.returns-then-i-eq0
returns-then-i-eq0 c =
    let n = ltb-true _ _ (sym c.in-Some.ensures.lookup.0) in
    let here : c.args.i < buffer_len c.args.self.now.s.now c.args.t.0 = omega arith in
    let is : entry_at (buffer c.args.self.now.s.now c.args.t.0) c.args.i ≡ c.in-Some.w.now.entry = search rules in
    move_first _ c.args.self.now.s.now _ _ here _ is c.if-i-eq0.true _ c.effect_rule.ensures

pub pass_rule-requires : goal.pass_rule-requires
pass_rule-requires c =
    let n = ltb-true _ _ (sym c.in-Some.ensures.lookup.0) in
    (c.requires, omega arith)

pub returns : goal.returns
returns c =
    let n = ltb-true _ _ (sym c.in-Some.ensures.lookup.0) in
    let here : c.args.i < buffer_len c.args.self.now.s.now c.args.t.0 = omega arith in
    let is : entry_at (buffer c.args.self.now.s.now c.args.t.0) c.args.i ≡ c.in-Some.w.now.entry = search rules in
    move_behind _ c.args.self.now.s.now _ _ here _ is c.if-i-eq0.false _ c.pass_rule.ensures
