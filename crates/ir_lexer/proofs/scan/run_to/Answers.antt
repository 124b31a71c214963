use Rattle.std.proofs.Common.{sym, ◌∙◌}
use Rattle.ir_lexer.specs.Classes.{in_class}
use Rattle.ir_lexer.proofs.Runs.{ending_in_slice}
use Rattle.ir_lexer.proofs.scan.run_to.Goals as goal

pub returns-then-begins-clause-within : goal.returns-then-begins-clause-within
returns-then-begins-clause-within c =
    ending_in_slice (in_class c.args.class) c.args.ending.now c.args.bytes.now c.run-len.result c.run-len.ensures.value (sym c.begins.ensures ∙ c.if-begins.true)
