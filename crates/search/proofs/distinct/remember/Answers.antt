-- `remember` meets its contract. Assumes nothing.
use Rattle.search.proofs.ask.AskLaws.{ask_fits}
use Rattle.search.proofs.distinct.RememberLaws.{remember_refused, remember_read}
use Rattle.search.proofs.distinct.remember.Goals as goal

pub returns-then-number-ne0 : goal.returns-then-number-ne0
returns-then-number-ne0 c =
    remember_refused _ _ c.read-reading.ensures _ c.number-number.ensures _ c.offset.ensures
    c.if-number-ne0.true _ _ _

pub ask_distinct-requires : goal.ask_distinct-requires
ask_distinct-requires c =
    ask_fits _ _ c.read-reading.ensures _ c.number-number.ensures c.if-number-ne0.false

pub returns : goal.returns
returns c =
    let a = c.args in
    remember_read _ _ c.read-reading.ensures _ c.number-number.ensures c.if-number-ne0.false a.budget a.run.now
    a.memory.now _ _ _
    c.ask_distinct.ensures
