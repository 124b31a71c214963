use Rattle.std.proofs.Common.{◌≡◌, ◌++◌, map}
use Rattle.ir_grammar.specs.Numbering.{numbered_function}
use Rattle.reader_numbering.proofs.numbering.numbered_functions.Given as goal

abbrev pub invariant-loop-function : goal.invariant-loop-function
invariant-loop-function l = l.found ++ map numbered_function l.function-iterator.rest.items ≡ map numbered_function l.fn.functions
