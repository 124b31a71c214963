use Rattle.std.proofs.Common.{◌≡◌, ◌++◌, map}
use Rattle.ir_grammar.specs.Numbering.{numbered_header}
use Rattle.reader_numbering.proofs.numbering.numbered_declares.Given as goal

abbrev pub invariant-loop-header : goal.invariant-loop-header
invariant-loop-header l = l.found ++ map numbered_header l.header-iterator.rest.items ≡ map numbered_header l.fn.declares
