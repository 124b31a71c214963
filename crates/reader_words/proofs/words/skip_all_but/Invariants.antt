use Rattle.std.proofs.Common.{◌≡◌, length}
use Rattle.phrases.specs.Phrase.{skip, skip_many}
use Rattle.ir_grammar.specs.Tokens.{all_but}
use Rattle.reader_words.specs.Source.{pieces}
use Rattle.reader_words.proofs.words.skip_all_but.Given as goal

abbrev pub invariant-tokens : goal.invariant-tokens
invariant-tokens l =
    (skip_many (all_but l.text) (skip (all_but l.text))).reads (pieces l.source)
    ≡ (skip_many (all_but l.text) (skip (all_but l.text))).reads (pieces l.rest)

abbrev pub decreases-tokens : goal.decreases-tokens
decreases-tokens l = length l.rest.tokens.now
