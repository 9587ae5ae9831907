-- `write` meets its contract: for each way out, the law of that way. Assumes nothing.
use Rattle.std.proofs.Common.{◌∙◌}
use Rattle.std.proofs.lemmas.Result.{err_from_is_err_and}
use Rattle.cases.proofs.writer.WriteLaws.{write_unreadable, write_short, write_copied}
use Rattle.cases.proofs.writer.write.Goals as goal

pub returns-in_err-n : goal.returns-in_err-n
returns-in_err-n c =
    let p = err_from_is_err_and c.from_residual.result c.from_residual.ensures.1 in
    let refused = c.in_err-n.ensures.unreadable in
    rw (p.1, p.2, refused.0) (write_unreadable _ _ refused.1)

pub returns-then-out-n : goal.returns-then-out-n
returns-then-out-n c =
    let file = c.in_ok-n.ensures.checked in
    write_short _ _ file.0 _ file.1 c.if-out-n.true

pub returns : goal.returns
returns c =
    let file = c.in_ok-n.ensures.checked in
    write_copied _ _ file.0 _ file.1 c.if-out-n.false _ (c.copy_from_slice.ensures.after ∙ file.2)
