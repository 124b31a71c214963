use Rattle.std.proofs.Common.{◌≡◌, ◌∷◌, [], length}
use Rattle.phrases.specs.Phrase.{many_from}
use Rattle.ir_grammar.specs.Tokens.{comma, square}
use Rattle.ir_grammar.specs.Instructions.{item_or_attached, attachments_begun, items_and_after, incoming}
use Rattle.reader_words.proofs.Gather.{gathered, with_present}
use Rattle.reader_words.specs.Source.{pieces}
use Rattle.reader_edges.proofs.phis.incomings.Given as goal

abbrev pub invariant-commas : goal.invariant-commas
invariant-commas l = gathered with_present l.found ((many_from (comma ∷ []) (item_or_attached (square ∷ []) (incoming l.kind)) attachments_begun l.begun).reads (pieces l.rest)) ≡ (items_and_after (square ∷ []) (incoming l.kind)).reads (pieces l.source)

abbrev pub decreases-commas : goal.decreases-commas
decreases-commas l = length l.rest.tokens.now
