use Rattle.std.proofs.Common.{◌≡◌, ◌++◌, drop, map}
use Rattle.flat_ir.specs.declared.program.InitByte.TheVariants as init
use Rattle.tree_constants.proofs.bytes.push_text.Given as goal

abbrev pub invariant-loop-byte : goal.invariant-loop-byte
invariant-loop-byte l = l.bytes.items ++ map init.Int (drop l.byte-index l.text) ≡ l.initial.bytes.items ++ map init.Int l.text
