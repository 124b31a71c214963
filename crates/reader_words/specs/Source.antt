-- The tokens that are left, as the grammar sees them.
use Rattle.std.specs.Prelude.{List}
use Rattle.phrases.specs.Piece.{Piece}
use Rattle.ir_grammar.specs.Tokens.{number_of, seen}
use Rattle.reader_words.specs.declared.source.Source.{Source}
use Rattle.reader_words.specs.declared.source.Lexeme.{Lexeme}

abbrev pub pieces : Source → List Piece
pieces s = seen s.bytes.now s.tokens.now

abbrev pub piece_of : Lexeme → Piece
piece_of l = record { kind = number_of l.kind; text = l.text.now; at = l.at }
