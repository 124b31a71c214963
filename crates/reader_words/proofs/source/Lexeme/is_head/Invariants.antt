use Rattle.std.proofs.Common.{◌≡◌, map, drop}
use Rattle.phrases.specs.Piece.{among}
use Rattle.ir_grammar.specs.Tokens.{heads}
use Rattle.reader_words.specs.Source.{piece_of}
use Rattle.reader_words.proofs.source.Lexeme.is_head.Given as goal

abbrev pub invariant-loop-row : goal.invariant-loop-row
invariant-loop-row g l = among (heads (map (λ r. (r.0.now, r.1)) (drop l.row-index l.rows))) (piece_of l.self) ≡ among (heads (map (λ r. (r.0.now, r.1)) l.rows)) (piece_of l.self)
