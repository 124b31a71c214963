use Rattle.std.proofs.Common.{◌≡◌, map, length}
use Rattle.phrases.specs.Phrase.{skip, skip_many}
use Rattle.ir_grammar.specs.Tokens.{words}
use Rattle.reader_words.specs.Source.{pieces}
use Rattle.reader_words.proofs.words.skip_words.Given as goal

abbrev pub invariant-words : goal.invariant-words
invariant-words l =
    (skip_many (words (map (λ w. w.now) l.words)) (skip (words (map (λ w. w.now) l.words)))).reads (pieces l.source)
    ≡ (skip_many (words (map (λ w. w.now) l.words)) (skip (words (map (λ w. w.now) l.words)))).reads (pieces l.rest)

abbrev pub decreases-words : goal.decreases-words
decreases-words l = length l.rest.tokens.now
