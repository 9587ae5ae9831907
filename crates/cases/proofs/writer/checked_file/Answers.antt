-- `checked_file` meets its contract: the file is at the front of the bytes. Assumes nothing.
use Rattle.std.proofs.Common.{refl}
use Rattle.cases.proofs.ChoiceLaws.{told_true, told_false}
use Rattle.cases.proofs.writer.WriteLaws.{write_file_room, write_file_front, write_file_reads}
use Rattle.cases.proofs.writer.checked_file.Goals as goal

pub encode-n-requires : goal.encode-n-requires
encode-n-requires c = write_file_room _ _ c.requires

pub returns-then-reads_as-clause-checked : goal.returns-then-reads_as-clause-checked
returns-then-reads_as-clause-checked c =
    let put = c.encode-n.ensures in
    let reads = write_file_reads _ _ c.requires _ _ put.0 put.1 _ c.reads_as.ensures in
    (told_true _ _ reads c.if-reads_as.true, put.0, write_file_front _ _ c.requires _ _ put.0 put.1)

pub returns-else-reads_as-clause-unreadable : goal.returns-else-reads_as-clause-unreadable
returns-else-reads_as-clause-unreadable c =
    let put = c.encode-n.ensures in
    let reads = write_file_reads _ _ c.requires _ _ put.0 put.1 _ c.reads_as.ensures in
    (refl, told_false _ _ reads c.if-reads_as.false)
