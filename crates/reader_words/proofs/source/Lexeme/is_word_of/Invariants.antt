use Rattle.std.proofs.Common.{◌≡◌, map, drop}
use Rattle.phrases.specs.Piece.{among}
use Rattle.ir_grammar.specs.Tokens.{words}
use Rattle.reader_words.specs.Source.{piece_of}
use Rattle.reader_words.proofs.source.Lexeme.is_word_of.Given as goal

abbrev pub invariant-loop-text : goal.invariant-loop-text
invariant-loop-text l = among (words (map (λ w. w.now) (drop l.text-index l.words))) (piece_of l.self) ≡ among (words (map (λ w. w.now) l.words)) (piece_of l.self)
