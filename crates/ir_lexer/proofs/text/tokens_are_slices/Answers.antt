use Rattle.ir_lexer.proofs.Lexed.{are_slices}
use Rattle.ir_lexer.proofs.text.tokens_are_slices.Goals as goal

pub returns : goal.returns
returns c = are_slices
