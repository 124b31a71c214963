-- Bytes and faults as they stand in a line of text.
use Rattle.std.specs.Prelude.{ℕ, ◌+◌, ◌/◌, ◌%◌, nat_lt, List, [], ◌∷◌, codes, if◌then◌else◌}
use Rattle.flat_ir.specs.declared.values.FaultKind.{FaultKind}
use Rattle.flat_ir.specs.declared.values.FaultKind.TheVariants as fault

-- a hexadecimal digit, with lower-case letters
abbrev pub hex_digit : ℕ → ℕ
hex_digit n = if nat_lt n 10 then 48 + n else 87 + n

abbrev pub hex : List ℕ → List ℕ
hex [] = []
hex (b ∷ bs) = hex_digit (b / 16) ∷ hex_digit (b % 16) ∷ hex bs

-- no bytes are a dash
abbrev pub bytes_text : List ℕ → List ℕ
bytes_text [] = codes "-"
bytes_text (b ∷ bs) = hex (b ∷ bs)

abbrev pub fault_text : FaultKind → List ℕ
fault_text fault.DivideByZero = codes "divide-by-zero"
fault_text fault.DivideOverflow = codes "divide-overflow"
fault_text fault.NullAccess = codes "null-access"
fault_text fault.UseAfterFree = codes "use-after-free"
fault_text fault.OutOfBounds = codes "out-of-bounds"
fault_text fault.MixedBytes = codes "mixed-bytes"
fault_text fault.BadFree = codes "bad-free"
fault_text fault.Unreachable = codes "unreachable"
fault_text fault.Assert = codes "assert"
fault_text fault.Abort = codes "abort"
fault_text fault.NoReturn = codes "no-return"
