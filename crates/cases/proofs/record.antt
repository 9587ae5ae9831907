-- A record (specs/Record).
-- open, opens: how one opens, OpenWhole; kind; row: a byte for each location
pub mod OpenLaws
-- put: bytes put one by one, or at once; header, line_bytes, listed: the program's record, put in two parts
pub mod RecordPutLaws
