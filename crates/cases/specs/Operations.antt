-- Document 01, "Operations (fields used): 1 store word (location, word); 2 store register (location, register);
-- 3 load (location, register); 4 exchange (location, register, word: writes the word, the register takes the
-- old one); 5 flush (location); 6 flush-opt (location); 7 sfence; 8 mfence. Step codes: 0 issue (thread); 1
-- move (thread, position ..); 2 persist (location)." Document 02, P5: "Operation 9: location, register,
-- word", compare and swap. Their numbers stand here and nowhere else of the definitions; src/operations.rt has
-- the same for the code.
--   store_word, store_register, load, exchange, flush, flush_opt, sfence, mfence, compare
--                           the operations; first_operation, last_operation: there is none before, none behind it
--   issue, move, persist    the step codes; last_code: there is none behind it
-- Assumes nothing.
use Rattle.std.specs.Prelude.{ℕ}

abbrev pub store_word : ℕ
store_word = 1

abbrev pub store_register : ℕ
store_register = 2

abbrev pub load : ℕ
load = 3

abbrev pub exchange : ℕ
exchange = 4

abbrev pub flush : ℕ
flush = 5

abbrev pub flush_opt : ℕ
flush_opt = 6

abbrev pub sfence : ℕ
sfence = 7

abbrev pub mfence : ℕ
mfence = 8

abbrev pub compare : ℕ
compare = 9

abbrev pub first_operation : ℕ
first_operation = store_word

abbrev pub last_operation : ℕ
last_operation = compare

abbrev pub issue : ℕ
issue = 0

abbrev pub move : ℕ
move = 1

abbrev pub persist : ℕ
persist = 2

abbrev pub last_code : ℕ
last_code = persist
