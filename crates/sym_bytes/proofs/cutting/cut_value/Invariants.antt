use Rattle.std.proofs.Common.{◌≡◌}
use Rattle.flat_ir.specs.Registers.{first_of}
use Rattle.sym_bytes.specs.Cutting.{byte_of}
use Rattle.sym_bytes.proofs.cutting.cut_value.Given as goal

-- the bytes below j
abbrev pub invariant-loop-j : goal.invariant-loop-j
invariant-loop-j g l = l.list ≡ first_of l.j 0 (byte_of l.v)
