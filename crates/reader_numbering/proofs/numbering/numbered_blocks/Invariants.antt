use Rattle.std.proofs.Common.{◌≡◌, ◌++◌}
use Rattle.ir_grammar.specs.Numbering.{numbered_blocks}
use Rattle.reader_numbering.proofs.numbering.numbered_blocks.Given as goal

abbrev pub invariant-loop-block : goal.invariant-loop-block
invariant-loop-block l = l.found ++ numbered_blocks l.at l.counter l.block-iterator.rest.items ≡ numbered_blocks l.fn.at l.fn.first l.fn.blocks
