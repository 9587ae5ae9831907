-- A record more (specs/Draft, Checks), and what holds of a draft after each.
-- first, instruction, want, passed, step: a part of the case with one more, same and other
pub mod WithLaws
-- count, counted, CountedAs: the counts of instructions; Behind
pub mod CountLaws
-- header, Opening: the record of the program, and its lines; Listing: its line bytes, and zeros behind them
pub mod HeaderLaws
-- draft, seated: a record comes in turn, finds its seat: header, first, instruction, want, passed, step; rank
pub mod DraftLaws
-- RecordFits, SeatFits: record, seat, instruction, step are in range, Grown; field, outside, few_lines
pub mod RecordFitLaws
-- Sound, SoundSized, SoundFronts, SoundStands; added, Added
pub mod SoundLaws
-- registers: every register that is needed is set, with an instruction more too
pub mod RegistersLaws
-- begun, blank: the first record
pub mod BegunLaws
-- add, declared: a record of the program
pub mod AddProgramLaws
-- add: a record of any kind
pub mod AddLaws
-- sound_ranged: every number is in range; thread_low
pub mod RangedLaws
-- sound_bytes: the file is made of bytes
pub mod BytewiseLaws
