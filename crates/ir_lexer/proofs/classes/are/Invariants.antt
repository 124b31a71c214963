use Rattle.std.proofs.Common.{◌≡◌, [], drop}
use Rattle.ir_lexer.specs.Forms.{runs_to}
use Rattle.ir_lexer.specs.Classes.{in_class}
use Rattle.ir_lexer.proofs.classes.are.Given as goal

abbrev pub invariant-loop-byte : goal.invariant-loop-byte
invariant-loop-byte l = runs_to (in_class l.class) [] l.bytes ≡ runs_to (in_class l.class) [] (drop l.byte-index l.bytes)
