use Rattle.std.proofs.Common.{◌≡◌, map, drop}
use Rattle.ir_grammar.specs.Tokens.{meaning}
use Rattle.reader_words.specs.Source.{piece_of}
use Rattle.reader_words.proofs.source.Lexeme.meaning.Given as goal

abbrev pub invariant-loop-row : goal.invariant-loop-row
invariant-loop-row g l = meaning (map (λ r. (r.0.now, r.1)) (drop l.row-index l.rows)) (piece_of l.self) ≡ meaning (map (λ r. (r.0.now, r.1)) l.rows) (piece_of l.self)
