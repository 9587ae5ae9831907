use Rattle.std.proofs.Common.{ℕ, refl, ◌∙◌, arith}
use Rattle.machine.specs.Model.{Listed}
use Rattle.search.specs.Barred.{legal_lanes}
use Rattle.search.proofs.walk.WalkHeldLaws.{held_few, held_takes, held_deep}
use Rattle.search.proofs.walk.WalkHeldLaws.{held_room, held_next, held_below}
use Rattle.search.proofs.recall.RecallTurnLaws.{recalls_listed, recalls_found, recalls_stopped}
use Rattle.search.proofs.recall.RecallTurnLaws.{recalls_finished}
use Rattle.search.proofs.recall.RecallHeldLaws.{met_finished, recalls_start, recall_before}
use Rattle.search.proofs.recall.RecallHeldLaws.{meets_some, meets_chained, recall_full}
use Rattle.search.proofs.recall.RecallHeldLaws.{recall_here, recall_found, recall_stopped, recall_end}
use Rattle.search.proofs.recall.+recall.Goals as goal
use Rattle.search.proofs.recall.+recall.Goals.{After-step_at-k}

-- the step that a turn takes is one of the next
listed : (t : ℕ) (c : After-step_at-k t) → Listed c.step_at-k.result (legal_lanes c.args.c.now.numbers c.args.x.now)
listed t c = recalls_listed c.loop-i.invariant.3 (omega arith) _ c.step_at-k.ensures

pub meet-requires : goal.meet-requires
meet-requires t c =
    let g = c.requires in
    (g.1, g.2, g.3)

pub returns-in-Before : goal.returns-in-Before
returns-in-Before t c =
    let g = c.requires in
    recall_before _ _ _ _ _ _ _ _ _ _ _ _ c.meet.ensures g.2 g.3 c.in-Before.is

pub returns-in-Full : goal.returns-in-Full
returns-in-Full t c =
    recall_full _ _ _ _ _ _ _ _ _ _ _ _ c.meet.ensures c.in-Full.is

pub returns-then-is_reached : goal.returns-then-is_reached
returns-then-is_reached t c =
    recall_here _ _ _ _ _ _ _ _ _ _ _ _ c.meet.ensures c.in-New.is _ c.is_reached.ensures
    c.if-is_reached.true _

pub invariant_of-v : goal.invariant_of-v
invariant_of-v t c = record { few = held_few c.requires.0 }

pub overflow_sub-rest : goal.overflow_sub-rest
overflow_sub-rest t c =
    let some = meets_some _ _ _ _ _ _ c.meet.ensures c.in-New.is in
    omega arith

pub loop-i-init : goal.loop-i-init
loop-i-init t c =
    let g = c.requires in
    let few = g.2 in
    let kept = meets_chained _ _ _ _ _ _ c.meet.ensures c.in-New.is in
    (g.0, omega arith, kept, recalls_start _ _ _ _ _ _ g.0 _ _ _ _ c.next_steps-next.ensures, refl)

pub take-requires : goal.take-requires
take-requires t c =
    let l = c.loop-i in
    let on = listed t (goal.at.take-requires t c).After-step_at-k in
    let h = l.invariant.0 in
    (held_few h, held_takes h _ on)

pub recall-below-requires : goal.recall-below-requires
recall-below-requires t c =
    let g = c.requires in
    let m = c.decreases in
    let o = c.loop-i.invariant in
    let k = c.step_at-k.ensures in
    let on = listed t (goal.at.recall-below-requires t c).After-step_at-k in
    let d = held_deep o.0 _ on in
    (omega arith, (held_next o.0 _ on _ c.take.ensures, g.1, o.1, o.2))

pub put_step-requires : goal.put_step-requires
put_step-requires t c =
    let o = c.loop-i.invariant in
    let k = c.step_at-k.ensures in
    let on = listed t (goal.at.put_step-requires t c).After-step_at-k in
    let e = c.recall-below.auto.run in
    let f = held_room o.0 _ on in
    omega arith

pub returns-in-Found : goal.returns-in-Found
returns-in-Found t c =
    let z = c.take.ensures in
    let k = c.step_at-k.ensures in
    let o = c.loop-i.invariant in
    let on = listed t (goal.at.returns-in-Found t c).After-step_at-k in
    let n = held_below o.0 _ on in
    let r = c.recall-below.ensures in
    let f = c.in-Found.is in
    let x = recalls_found o.3 (omega arith) _ k _ z _ n _ _ _ (r.0, r.1) _ f in
    recall_found _ _ _ _ _ _ _ _ _ _ _ _ c.meet.ensures c.in-New.is _
    c.is_reached.ensures c.if-is_reached.false _ _ _
    (rw c.put_step.ensures x)

pub returns-in-Stopped : goal.returns-in-Stopped
returns-in-Stopped t c =
    let z = c.take.ensures in
    let k = c.step_at-k.ensures in
    let o = c.loop-i.invariant in
    let on = listed t (goal.at.returns-in-Stopped t c).After-step_at-k in
    let n = held_below o.0 _ on in
    let r = c.recall-below.ensures in
    let x = recalls_stopped o.3 (omega arith) _ k _ z _ n _ _ _ (r.0, r.1) c.in-Stopped.is in
    recall_stopped _ _ _ _ _ _ _ _ _ _ _ _ c.meet.ensures c.in-New.is _
    c.is_reached.ensures c.if-is_reached.false _ _ x

pub loop-i-preserved : goal.loop-i-preserved
loop-i-preserved t c =
    let z = c.take.ensures in
    let k = c.step_at-k.ensures in
    let o = c.loop-i.invariant in
    let on = listed t (goal.at.loop-i-preserved t c).After-step_at-k in
    let n = held_below o.0 _ on in
    let r = c.recall-below.ensures in
    let f = c.in-Finished.is in
    let x = met_finished _ _ _ _ r.2 _ f in
    let y = recalls_finished o.3 (omega arith) _ k _ z _ n _ _ _ (r.0, r.1) _ f _ x.2 in
    let e = c.recall-below.auto.run in
    (rw e o.0, x.0, x.1, y, c.recall-below.auto.memory ∙ o.4)

pub returns : goal.returns
returns t c =
    let o = c.loop-i.invariant in
    recall_end _ _ _ _ _ _ _ _ _ _ _ _ c.meet.ensures c.in-New.is _
    c.is_reached.ensures c.if-is_reached.false o.3 (omega arith) o.1 o.2
