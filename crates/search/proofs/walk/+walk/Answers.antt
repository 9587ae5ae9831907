use Rattle.std.proofs.Common.{ℕ, ◌∙◌, arith}
use Rattle.machine.specs.Model.{Listed}
use Rattle.search.specs.Barred.{legal_lanes}
use Rattle.search.proofs.walk.WalkLoopLaws.{left_used_up, left_here, walking_end}
use Rattle.search.proofs.walk.WalkTurnLaws.{turn_listed, turn_length, turn_found, turn_stopped}
use Rattle.search.proofs.walk.WalkTurnLaws.{turn_finished}
use Rattle.search.proofs.walk.WalkHeldLaws.{walks_start, held_few, held_takes}
use Rattle.search.proofs.walk.WalkHeldLaws.{held_deep, held_room, held_next, held_below}
use Rattle.search.proofs.walk.+walk.Goals as goal
use Rattle.search.proofs.walk.+walk.Goals.{After-step_at-k}

-- the step that a turn takes is one of the next
listed : (t : ℕ) (c : After-step_at-k t) → Listed c.step_at-k.result (legal_lanes c.args.c.now.numbers c.args.x.now)
listed t c = turn_listed c.loop-i.invariant.1 (omega arith) _ c.step_at-k.ensures

pub returns-then-budget-eq0 : goal.returns-then-budget-eq0
returns-then-budget-eq0 t c =
    let b = c.args in
    let l = left_used_up _ b.budget b.depth b.run.now _ _ _ c.if-budget-eq0.true in
    (l.told, l.stored)

pub returns-then-is_reached : goal.returns-then-is_reached
returns-then-is_reached t c =
    let b = c.args in
    let e = c.is_reached.ensures in
    let l = left_here _ b.budget b.depth b.run.now _ _ _ c.if-budget-eq0.false _ e c.if-is_reached.true in
    (l.told, l.stored)

pub invariant_of-v : goal.invariant_of-v
invariant_of-v t c = record { few = held_few c.requires }

pub loop-i-init : goal.loop-i-init
loop-i-init t c =
    let h = c.requires in
    let e = c.is_reached.ensures in
    (h, walks_start h _ _ _ _ _ _ c.next_steps-next.ensures c.if-budget-eq0.false _ e c.if-is_reached.false)

pub take-requires : goal.take-requires
take-requires t c =
    let l = c.loop-i in
    let on = listed t (goal.at.take-requires t c).After-step_at-k in
    (held_few l.invariant.0, held_takes l.invariant.0 _ on)

pub walk-below-requires : goal.walk-below-requires
walk-below-requires t c =
    let l = c.loop-i in
    let on = listed t (goal.at.walk-below-requires t c).After-step_at-k in
    let d = held_deep l.invariant.0 _ on in
    let m = c.decreases in
    (omega arith, held_next l.invariant.0 _ on _ c.take.ensures)

pub put_step-requires : goal.put_step-requires
put_step-requires t c =
    let z = c.take.ensures in
    let k = c.step_at-k.ensures in
    let l = c.loop-i in
    let on = listed t (goal.at.put_step-requires t c).After-step_at-k in
    let n = held_below l.invariant.0 _ on in
    let e = turn_length l.invariant.1 (omega arith) _ k _ z _ n _ _ _ c.walk-below.ensures in
    let r = held_room l.invariant.0 _ on in
    omega arith

pub returns-in-Found : goal.returns-in-Found
returns-in-Found t c =
    let z = c.take.ensures in
    let k = c.step_at-k.ensures in
    let l = c.loop-i in
    let on = listed t (goal.at.returns-in-Found t c).After-step_at-k in
    let n = held_below l.invariant.0 _ on in
    let f = c.in-Found.is in
    let x = turn_found l.invariant.1 (omega arith) _ k _ z _ n _ _ _ c.walk-below.ensures _ f in
    (x.told, c.put_step.ensures ∙ x.stored)

pub returns-in-Stopped : goal.returns-in-Stopped
returns-in-Stopped t c =
    let z = c.take.ensures in
    let k = c.step_at-k.ensures in
    let l = c.loop-i in
    let on = listed t (goal.at.returns-in-Stopped t c).After-step_at-k in
    let n = held_below l.invariant.0 _ on in
    let x = turn_stopped l.invariant.1 (omega arith) _ k _ z _ n _ _ _ c.walk-below.ensures c.in-Stopped.is in
    (x.told, x.stored)

pub loop-i-preserved : goal.loop-i-preserved
loop-i-preserved t c =
    let z = c.take.ensures in
    let k = c.step_at-k.ensures in
    let l = c.loop-i in
    let on = listed t (goal.at.loop-i-preserved t c).After-step_at-k in
    let n = held_below l.invariant.0 _ on in
    let e = turn_length l.invariant.1 (omega arith) _ k _ z _ n _ _ _ c.walk-below.ensures in
    let r = c.in-Finished.is in
    let o = turn_finished l.invariant.1 (omega arith) _ k _ z _ n _ _ _ c.walk-below.ensures _ r in
    (rw e l.invariant.0, o)

pub returns : goal.returns
returns t c =
    let e = walking_end c.loop-i.invariant.1 _ (omega arith) in
    (e.told, e.stored)
