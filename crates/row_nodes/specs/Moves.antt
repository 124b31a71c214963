-- Moves of rows by a number of places, for the shifts.
use Rattle.std.specs.Prelude.{◌<◌, ◌++◌, ℕ, List, length, take, drop, replicate}
use Rattle.gates.specs.Bits.{Bit}
use Rattle.nodes.specs.declared.table.Node.{Node}
use Rattle.nodes.specs.Nodes.{bit_at}
use Rattle.rows.specs.Rows.{fills, moved_down}
use Rattle.row_nodes.specs.declared.shifts.Move.{Move}
use Rattle.row_nodes.specs.declared.shifts.Move.TheVariants.{Up, Down}

-- the places that a row is moved to
abbrev pub places_moved : Move → ℕ → List ℕ → List ℕ
places_moved (Up fill) by ks = take (length ks) (replicate by fill ++ ks)
places_moved (Down fill) by ks = take (length ks) (drop by ks ++ replicate by fill)

-- the move of bits, which come in from the place that the move names
abbrev pub bits_moved : List Node → Move → ℕ → List Bit → List Bit
bits_moved nodes (Up fill) by xs = take (length xs) (fills by (bit_at nodes fill) ++ xs)
bits_moved nodes (Down fill) by xs = moved_down (bit_at nodes fill) by xs

-- the place that comes in stands in the table
abbrev pub FillsWithin : List Node → Move → Type 0
FillsWithin nodes (Up fill) = fill < length nodes
FillsWithin nodes (Down fill) = fill < length nodes
