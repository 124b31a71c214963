use Rattle.std.proofs.Common.{◌≡◌, drop}
use Rattle.ir_grammar.specs.Numbering.{after_phis}
use Rattle.reader_numbering.proofs.numbering.after_phis.Given as goal

abbrev pub invariant-loop-phi : goal.invariant-loop-phi
invariant-loop-phi l = after_phis l.counter (drop l.phi-index l.phis) ≡ after_phis l.fn.first l.phis
