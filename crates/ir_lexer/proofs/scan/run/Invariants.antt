use Rattle.std.proofs.Common.{◌≡◌, ◌+◌, drop}
use Rattle.ir_lexer.specs.Scanning as spec
use Rattle.ir_lexer.specs.Classes.{in_class}
use Rattle.ir_lexer.proofs.scan.run.Given as goal

abbrev pub invariant-loop-i : goal.invariant-loop-i
invariant-loop-i l = spec.run (in_class l.class) l.bytes ≡ l.i + spec.run (in_class l.class) (drop l.i l.bytes)
