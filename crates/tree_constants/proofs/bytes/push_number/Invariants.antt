use Rattle.std.proofs.Common.{◌≡◌, ◌++◌, ◌-◌}
use Rattle.ir_programs.specs.Programs as spec
use Rattle.tree_constants.proofs.bytes.push_number.Given as goal

abbrev pub invariant-bytes : goal.invariant-bytes
invariant-bytes l = l.bytes.items ++ spec.number_bytes (l.count - l.place) l.rest ≡ l.initial.bytes.items ++ spec.number_bytes l.count l.fn.bits
