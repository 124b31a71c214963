use Rattle.ir_tree.specs.Printing.{lines}
use Rattle.printed_tokens.proofs.Streams.{text_lexed}
use Rattle.printed_tokens.proofs.Trees.{lines_are}
use Rattle.printed_tokens.proofs.what_is_printed_is_lexed_again.Goals as goal

pub returns : goal.returns
returns c = λ tree. text_lexed (lines tree) (lines_are tree)
