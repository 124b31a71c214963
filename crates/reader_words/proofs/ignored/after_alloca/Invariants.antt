use Rattle.std.proofs.Common.{◌≡◌, length}
use Rattle.ir_grammar.specs.Instructions.{after_alloca}
use Rattle.reader_words.specs.Source.{pieces}
use Rattle.reader_words.proofs.ignored.after_alloca.Given as goal

abbrev pub invariant-commas : goal.invariant-commas
invariant-commas l = after_alloca.reads (pieces l.source) ≡ after_alloca.reads (pieces l.rest)

abbrev pub decreases-commas : goal.decreases-commas
decreases-commas l = length l.rest.tokens.now
