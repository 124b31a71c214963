-- Parts of productions that are functions of their own in the code.
use Rattle.std.specs.Prelude.{ℕ, true, false, [], ◌∷◌, codes}
use Rattle.ir_tree.specs.declared.types.IrType.{IrType}
use Rattle.phrases.specs.Phrase.{Phrase, one, either}
use Rattle.ir_grammar.specs.Tokens.{square, brace, packed_brace}
use Rattle.ir_grammar.specs.Types.{array_type, struct_type, plain_of, mem_type}

-- a type in memory that may open a level and, within it, so many more
abbrev pub aggregate_or_plain : ℕ → Phrase IrType
aggregate_or_plain n =
    either (square ∷ []) (array_type (mem_type n))
    (either (brace ∷ []) (struct_type (codes "{") (codes "}") false (mem_type n))
    (either (packed_brace ∷ []) (struct_type (codes "<{") (codes "}>") true (mem_type n))
    (one plain_of)))
