-- Worked examples: the tokens that a small tree is printed as, and which tokens spell them.
use Rattle.std.proofs.Common.{◌≡◌, [], ◌∷◌, None, refl}
use Rattle.std.specs.Prelude.{codes}
use Rattle.std.specs.Fmt.{digits}
use Rattle.ir_lexer.specs.declared.token.TokenKind.TheVariants as kinds
use Rattle.ir_tree.specs.declared.module.IrTree.{IrTree}
use Rattle.ir_tree.specs.declared.instructions.TerminatorForm.TheVariants as terminators
use Rattle.ir_tree.specs.Texts.{quoted}
use Rattle.ir_tree.specs.Printing.{lines}
use Rattle.ir_grammar.specs.Tokens.{number_of}
use Rattle.ir_grammar.specs.Names.{name_of}
use Rattle.ir_grammar.specs.Numbering.{numbered}
use Rattle.printed_again.specs.Again.{Spell, token_texts}

-- `define void @main() { ret void }`
returns_nothing : IrTree
returns_nothing = record {
  types = [];
  globals = [];
  declares = [];
  functions = record {
    header = record { result = None; name = record { text = codes "main"; at = 12 }; parameters = [] };
    blocks = record { label = None; phis = []; instructions = []; terminator = record { at = 22; form = terminators.Return None } } ∷ [];
  } ∷ [];
}

-- its block has the number 0
printed_tokens : token_texts (lines (numbered returns_nothing)) ≡ codes "define" ∷ codes "void" ∷ codes "@main" ∷ codes "(" ∷ codes ")" ∷ codes "{" ∷ codes "0:" ∷ codes "ret" ∷ codes "void" ∷ codes "}" ∷ []
unfolding returns_nothing digits
printed_tokens = refl

-- a label and a mark at two places
spelled : Spell (record { kind = number_of kinds.Label; text = codes "0:"; at = 7 } ∷ record { kind = number_of kinds.Punct; text = codes "}"; at = 99 } ∷ []) (codes "0:" ∷ codes "}" ∷ [])
spelled = ((refl, kinds.Label, refl, refl), ((refl, kinds.Punct, refl, refl), tt))

-- a quoted name of bytes is undone
quoted_again : name_of (quoted (codes "a\"b\\ c")) ≡ codes "a\"b\\ c"
quoted_again = refl

-- a number that is no byte would not be read again
no_byte : name_of (quoted (300 ∷ [])) ≡ codes "\\IC"
no_byte = refl
