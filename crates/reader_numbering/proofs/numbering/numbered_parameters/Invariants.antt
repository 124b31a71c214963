use Rattle.std.proofs.Common.{◌≡◌}
use Rattle.ir_grammar.specs.Numbering.{numbered_parameters}
use Rattle.reader_numbering.specs.Numbered.{behind}
use Rattle.reader_numbering.proofs.numbering.numbered_parameters.Given as goal

abbrev pub invariant-loop-parameter : goal.invariant-loop-parameter
invariant-loop-parameter l = behind l.found (numbered_parameters l.at l.counter l.parameter-iterator.rest.items) ≡ numbered_parameters l.fn.at l.fn.first l.fn.parameters
