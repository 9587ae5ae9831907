-- The lent words that hold the keys of states (specs/Table): the code.
-- pairs, same, record: lanes that are compared
pub mod CompareLaws
-- among, head, seek; Seeking: the way along a chain
pub mod ChainLaws
-- written, copied; CopiedSoFar, Written: what the stores leave; a ruleset
pub mod CopyLaws
-- kept: a record written behind the others
pub mod KeepLaws
-- mixed, bucket; MixedSoFar: the bucket of a key
pub mod MixLaws
-- cleared: zeros in front
pub mod ClearLaws
