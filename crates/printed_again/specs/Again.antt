-- What is printed is read again, as far as the grammar says: from the tokens of a printed text on.
use Rattle.std.specs.Prelude.{◌≡◌, ℕ, Bool, true, ◌&&◌, nat_lt, List, [], ◌∷◌, ◌++◌, Some}
use Rattle.ir_lexer.specs.declared.token.TokenKind.{TokenKind}
use Rattle.ir_lexer.specs.Forms.{kind_of}
use Rattle.ir_tree.specs.declared.module.IrTree.{IrTree}
use Rattle.ir_tree.specs.Places.{without_places}
use Rattle.ir_tree.specs.Printing.{Line, lines}
use Rattle.phrases.specs.Piece.{Piece}
use Rattle.ir_grammar.specs.Tokens.{number_of}
use Rattle.ir_grammar.specs.Numbering.{numbered}
use Rattle.ir_grammar.specs.Laws.{IsModule}

-- numbers that are bytes
abbrev pub are_bytes : List ℕ → Bool
are_bytes [] = true
are_bytes (b ∷ bs) = nat_lt b 256 && are_bytes bs

-- The texts of the tokens are made of bytes, as those of a source are. An escape in a name writes one byte (Language Reference,
-- "Identifiers"), so a number above 255 in a name couldn't be printed.
abbrev pub HaveBytes : List Piece → Type 0
HaveBytes [] = Unit {0}
HaveBytes (p ∷ ps) = (are_bytes p.text ≡ true) × HaveBytes ps

-- a token with this text, of the kind that the text has
abbrev pub IsTokenOf : List ℕ → Piece → Type 0
IsTokenOf text p = (p.text ≡ text) × (kind : TokenKind) × (kind_of text ≡ Some kind) × (p.kind ≡ number_of kind)

-- tokens with these texts, in order, at whatever places
abbrev pub Spell : List Piece → List (List ℕ) → Type 0
Spell [] [] = Unit {0}
Spell [] (s ∷ ss) = ⊥
Spell (p ∷ ps) [] = ⊥
Spell (p ∷ ps) (s ∷ ss) = IsTokenOf s p × Spell ps ss

-- the texts of the tokens of lines
abbrev pub token_texts : List Line → List (List ℕ)
token_texts [] = []
token_texts (l ∷ ls) = l.tokens ++ token_texts ls

-- Let a tree be that of a module's tokens, and its unnamed things be numbered. Tokens with the texts that this is printed as are a
-- module again, and its tree, numbered, is the same but for places.
abbrev pub IsSpelledAgain : Type 0
IsSpelledAgain =
    (tree : IrTree) (written : List Piece) → HaveBytes written → IsModule tree written → (ts : List Piece) → Spell ts (token_texts (lines (numbered tree)))
    → (again : IrTree) × IsModule again ts × (without_places (numbered again) ≡ without_places (numbered tree))
