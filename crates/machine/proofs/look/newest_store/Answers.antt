use Rattle.std.proofs.Common.{sym, ◌∙◌, arith}
use borrow.Author.Tests.{eqb-true, eqb-false}
use Rattle.machine.proofs.look.LookLoopLaws.{store_start, store_next, store_here, silent_end}
use Rattle.machine.proofs.look.LookLoopLaws.{store_some, store_elsewhere, store_none}
use Rattle.machine.proofs.look.newest_store.Goals as goal

pub loop-j-init : goal.loop-j-init
loop-j-init c = store_start _ _

pub returns-then-eq : goal.returns-then-eq
returns-then-eq c =
    rw (← c.buffer-b.ensures.is)
    (store_here _ _ c.loop-j.invariant (omega arith) _
    (store_some _ c.in-Store.is (eqb-true _ _ (sym c.eq.ensures ∙ c.if-eq.true))) _)

pub loop-j-preserved-else-eq : goal.loop-j-preserved-else-eq
loop-j-preserved-else-eq c =
    store_next _ _ c.loop-j.invariant (omega arith)
    (store_elsewhere _ c.in-Store.is (eqb-false _ _ (sym c.eq.ensures ∙ c.if-eq.false)))

pub loop-j-preserved : goal.loop-j-preserved
loop-j-preserved c = store_next _ _ c.loop-j.invariant (omega arith) (store_none _ _ c.in_default.not-Store)

pub returns : goal.returns
returns c = rw (← c.buffer-b.ensures.is) (silent_end c.loop-j.invariant (omega arith) _)
