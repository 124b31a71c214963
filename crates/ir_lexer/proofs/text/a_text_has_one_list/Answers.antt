use Rattle.ir_lexer.proofs.Lexed.{has_one_list}
use Rattle.ir_lexer.proofs.text.a_text_has_one_list.Goals as goal

pub returns : goal.returns
returns c = has_one_list
