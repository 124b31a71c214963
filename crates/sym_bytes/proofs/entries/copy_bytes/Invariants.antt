use Rattle.std.proofs.Common.{◌≡◌, take}
use Rattle.sym_bytes.proofs.entries.copy_bytes.Given as goal

-- the bytes so far
abbrev pub invariant-loop-byte : goal.invariant-loop-byte
invariant-loop-byte g l = l.list ≡ take l.byte-index l.bytes
