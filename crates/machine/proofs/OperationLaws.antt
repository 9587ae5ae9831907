-- Operations are nine: what holds of each holds of all. Assumes nothing.
use Prim.Native.Nat.{ℕ, zero, suc, ◌≤◌}
use native.Mathlib.Omega.{arith}
use Rattle.cases.specs.declared.case.Location.{Location}
use Rattle.cases.specs.declared.case.Register.{Register}
use Rattle.cases.specs.declared.case.Instruction.{Instruction}
use Rattle.cases.specs.Operations.{store_word, store_register, load, exchange, flush, flush_opt, sfence, mfence}
use Rattle.cases.specs.Operations.{compare, last_operation, first_operation}

-- an operation is one of nine
pub each_operation {ℓ} : (P : ℕ → Type ℓ)
    → P store_word → P store_register → P load → P exchange → P flush → P flush_opt → P sfence → P mfence → P compare
    → (op : ℕ) → first_operation ≤ op → op ≤ last_operation → P op
each_operation P a b c d e f g i j zero h k = absurd (omega arith)
each_operation P a b c d e f g i j (suc zero) h k = a
each_operation P a b c d e f g i j (suc (suc zero)) h k = b
each_operation P a b c d e f g i j (suc (suc (suc zero))) h k = c
each_operation P a b c d e f g i j (suc (suc (suc (suc zero)))) h k = d
each_operation P a b c d e f g i j (suc (suc (suc (suc (suc zero))))) h k = e
each_operation P a b c d e f g i j (suc (suc (suc (suc (suc (suc zero)))))) h k = f
each_operation P a b c d e f g i j (suc (suc (suc (suc (suc (suc (suc zero))))))) h k = g
each_operation P a b c d e f g i j (suc (suc (suc (suc (suc (suc (suc (suc zero)))))))) h k = i
each_operation P a b c d e f g i j (suc (suc (suc (suc (suc (suc (suc (suc (suc zero))))))))) h k = j
each_operation P a b c d e f g i j (suc (suc (suc (suc (suc (suc (suc (suc (suc (suc n)))))))))) h k = absurd
    (omega arith)

-- an instruction of the operation op
abbrev pub of : ℕ → Location → Register → ℕ → Instruction
of op l r w = record { operation = op; location = l; register = r; word = w }
