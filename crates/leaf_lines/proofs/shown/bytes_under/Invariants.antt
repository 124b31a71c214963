use Rattle.std.proofs.Common.{◌≡◌, map, take}
use Rattle.terms.specs.Memo.{AreValues}
use Rattle.sym_bytes.specs.Under.{bits_under}
use Rattle.leaf_lines.proofs.shown.bytes_under.Given as goal

abbrev pub invariant-loop-term : goal.invariant-loop-term
invariant-loop-term g l = record { bytes : l.bytes.items ≡ map (bits_under l.input) (take l.term-index l.written); known : AreValues l.memo l.input }
