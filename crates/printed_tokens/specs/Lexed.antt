-- What is printed is lexed as its tokens.
use Rattle.std.specs.Prelude.{List}
use Rattle.ir_lexer.specs.declared.token.Token.{Token}
use Rattle.ir_lexer.specs.Lexing.{AreTokens}
use Rattle.ir_tree.specs.declared.module.IrTree.{IrTree}
use Rattle.ir_tree.specs.Printing.{lines, printed}
use Rattle.ir_grammar.specs.Tokens.{seen}
use Rattle.printed_again.specs.Again.{Spell, token_texts}

-- the text of any tree is lexed, and its tokens have, in order, the texts that the tree was printed with
abbrev pub IsLexedAgain : Type 0
IsLexedAgain = (tree : IrTree) → (ts : List Token) × AreTokens (printed tree) ts × Spell (seen (printed tree) ts) (token_texts (lines tree))
