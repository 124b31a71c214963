-- What a module's text is read as, and where a text that is no module is refused.
use Rattle.std.specs.Prelude.{◌≡◌, ℕ, Bool, ◌||◌, if◌then◌else◌, List, [], ◌∷◌, length, Option, Some, None, Result, Ok, Err}
use Rattle.ir_lexer.specs.declared.token.Token.{Token}
use Rattle.ir_lexer.specs.Lexing.{AreTokens}
use Rattle.ir_tree.specs.declared.module.IrTree.{IrTree}
use Rattle.phrases.specs.Piece.{Piece, among}
use Rattle.ir_grammar.specs.Tokens.{seen}
use Rattle.ir_grammar.specs.Laws.{IsModule, IsRefused}
use Rattle.ir_grammar.specs.Unsupported.{unsupported_tokens}
use Rattle.ir_grammar.specs.Numbering.{numbered}
use Rattle.ir_reader.specs.declared.text.SyntaxError.{SyntaxError}
use Rattle.ir_reader.specs.declared.text.SyntaxError.TheVariants as errors

-- The text is a module: its tokens spell a tree by the grammar, and in the tree that is read all that the text leaves unnamed
-- has its number.
pub record IsReadAs (bytes : List ℕ) (tree : IrTree) : Type 0 where
  pub tokens : List Token
  pub lexed : AreTokens bytes tokens
  pub spelled : IrTree
  pub is_module : IsModule spelled (seen bytes tokens)
  pub numbers : tree ≡ numbered spelled

-- the byte at which the tokens that are left begin; where none is left, the length of the text
abbrev pub place_of : List ℕ → List Piece → ℕ
place_of bytes [] = length bytes
place_of bytes (t ∷ ts) = t.at

-- the text of the first of them, if the grammar names it as unsupported there, or it is unsupported wherever it is refused
abbrev pub unsupported_text : Bool → List Piece → Option (List ℕ)
unsupported_text named [] = None
unsupported_text named (t ∷ ts) = if named || among unsupported_tokens t then Some t.text else None

-- The text is no module. At this byte the first token begins that stands in no module's tokens after those before it, or the
-- text ends too early; and this is the token's text where it is unsupported, and not only out of place.
pub record IsRefusedAt (bytes : List ℕ) (at : ℕ) (unsupported : Option (List ℕ)) : Type 0 where
  pub tokens : List Token
  pub lexed : AreTokens bytes tokens
  pub rest : List Piece
  pub named : Bool
  pub is_refused : IsRefused (seen bytes tokens) rest named
  pub place : at ≡ place_of bytes rest
  pub what : unsupported ≡ unsupported_text named rest

-- what an error says of a text
abbrev pub Says : List ℕ → SyntaxError → Type 0
Says bytes (errors.Syntax at) = IsRefusedAt bytes at None
Says bytes (errors.Unsupported at what) = IsRefusedAt bytes at (Some what)
Says bytes errors.Memory = Unit {0}

-- the tree, unless memory ran out
abbrev pub IsTree : IrTree → Result IrTree SyntaxError → Type 0
IsTree tree (Ok found) = found ≡ tree
IsTree tree (Err errors.Memory) = Unit {0}
IsTree tree (Err (errors.Syntax at)) = ⊥
IsTree tree (Err (errors.Unsupported at what)) = ⊥

-- this refusal, unless memory ran out
abbrev pub IsRefusal : ℕ → Option (List ℕ) → Result IrTree SyntaxError → Type 0
IsRefusal at unsupported (Ok found) = ⊥
IsRefusal at unsupported (Err errors.Memory) = Unit {0}
IsRefusal at unsupported (Err (errors.Syntax place)) = (place ≡ at) × (unsupported ≡ None)
IsRefusal at unsupported (Err (errors.Unsupported place what)) = (place ≡ at) × (unsupported ≡ Some what)
