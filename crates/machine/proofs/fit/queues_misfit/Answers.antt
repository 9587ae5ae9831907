use Rattle.std.proofs.Common.{◌≡◌, ◌∙◌, arith}
use Rattle.cases.specs.Sizes.{most_threads}
use Rattle.cases.proofs.ChoiceLaws.{told}
use Rattle.machine.specs.Fit.{sum_to, due}
use Rattle.machine.specs.View.{buffer_len}
use Rattle.machine.proofs.lists.SumLaws.{sum_counted}
use Rattle.machine.proofs.lists.AnyLaws.{any_start, any_next, any_here, any_end}
use Rattle.machine.proofs.fit.queues_misfit.Goals as goal

pub loop-q-init : goal.loop-q-init
unfolding due
loop-q-init c =
    let e = c.all_unissued.ensures in
    let f = c.total.ensures in
    let w : c.total.result ≡ sum_to most_threads (buffer_len c.args.s.now) = f.is ∙ sum_counted _ _ (omega arith) in
    (omega arith, any_start _ _)

pub returns-then-queue_misfits : goal.returns-then-queue_misfits
returns-then-queue_misfits c =
    let l = c.loop-q in
    any_here l.invariant.1 (omega arith) (told _ _ _ c.queue_misfits.ensures c.if-queue_misfits.true)

pub loop-q-preserved : goal.loop-q-preserved
loop-q-preserved c =
    let l = c.loop-q in
    let e = told _ _ _ c.queue_misfits.ensures c.if-queue_misfits.false in
    (l.invariant.0, any_next l.invariant.1 (omega arith) e)

pub returns : goal.returns
returns c = any_end c.loop-q.invariant.1 (omega arith)
