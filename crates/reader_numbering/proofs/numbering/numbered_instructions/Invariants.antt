use Rattle.std.proofs.Common.{◌≡◌}
use Rattle.ir_grammar.specs.Numbering.{numbered_instructions}
use Rattle.reader_numbering.specs.Numbered.{behind}
use Rattle.reader_numbering.proofs.numbering.numbered_instructions.Given as goal

abbrev pub invariant-loop-instruction : goal.invariant-loop-instruction
invariant-loop-instruction l = behind l.found (numbered_instructions l.at l.counter l.instruction-iterator.rest.items) ≡ numbered_instructions l.fn.at l.fn.first l.fn.instructions
