-- Gates of two bits, over a table.
use Rattle.std.specs.Prelude.{◌<◌, List, length}
use Rattle.gates.specs.Bits.{Bit, fold_and, fold_xor}
use Rattle.nodes.specs.declared.table.Node.{Node}
use Rattle.nodes.specs.Nodes.{bit_at}
use Rattle.rows.specs.Rows.{fold_or, fold_mux}
use Rattle.row_nodes.specs.declared.pairs.Gate.{Gate}
use Rattle.row_nodes.specs.declared.pairs.Gate.TheVariants.{And, Or, Xor, Choice}

-- what the gate makes of two bits; of a choice the test stands at a place
abbrev pub folded : List Node → Gate → Bit → Bit → Bit
folded nodes And = fold_and
folded nodes Or = fold_or
folded nodes Xor = fold_xor
folded nodes (Choice test) = fold_mux (bit_at nodes test)

-- the test of a choice stands in the table
abbrev pub IsWithin : List Node → Gate → Type 0
IsWithin nodes And = Unit {0}
IsWithin nodes Or = Unit {0}
IsWithin nodes Xor = Unit {0}
IsWithin nodes (Choice test) = test < length nodes
