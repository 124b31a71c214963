use Rattle.std.proofs.Common.{◌≡◌, length}
use Rattle.ir_grammar.specs.Instructions.{after}
use Rattle.reader_words.specs.Source.{pieces}
use Rattle.reader_words.proofs.ignored.after.Given as goal

abbrev pub invariant-commas : goal.invariant-commas
invariant-commas l = after.reads (pieces l.source) ≡ after.reads (pieces l.rest)

abbrev pub decreases-commas : goal.decreases-commas
decreases-commas l = length l.rest.tokens.now
