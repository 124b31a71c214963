use Rattle.std.proofs.Common.{sym, ◌∙◌, length, arith}
use Rattle.std.proofs.lemmas.Bool.{lt-leb}
use Rattle.ir_lexer.proofs.Runs.{too_short}
use Rattle.ir_lexer.proofs.scan.begins.Goals as goal

pub returns-else-bytes-text : goal.returns-else-bytes-text
returns-else-bytes-text c =
    lt-leb (length c.args.text.now) (length c.args.bytes.now) (omega (arith, c.if-bytes-text.false))
    ∙ sym (too_short c.args.text.now c.args.bytes.now (omega (arith, c.if-bytes-text.false)))
