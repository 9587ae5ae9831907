-- `decode` meets its contract. Assumes nothing.
use Rattle.std.proofs.Common.{rules}
use Rattle.cases.proofs.record.OpenLaws.{open_header}
use Rattle.cases.proofs.record.decode.Goals as goal

pub as_header-requires : goal.as_header-requires
as_header-requires c = open_header _ _ c.in-1.is (search rules)
