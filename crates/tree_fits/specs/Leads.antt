-- The tests of the edges behind a block.
use Rattle.std.specs.Prelude.{ℕ, Bool, List, map}
use Rattle.ir_tree.specs.declared.types.Name.{Name}
use Rattle.ir_tree.specs.declared.module.FunctionDefinition.{FunctionDefinition}
use Rattle.ir_tree.specs.declared.module.IrTree.{IrTree}
use Rattle.ir_programs.specs.Flow.{Edge, edge_if, phis_of}
use Rattle.ir_programs.specs.Fits.{edge_fits}

abbrev pub edge_to : List ℕ → Name → Edge
edge_to source to = record { source = source; target = to.text }

-- whether the edge to a label fits, if it has a node
abbrev pub led_fits : IrTree → FunctionDefinition → List ℕ → Name → List Bool
led_fits t f source to = map (edge_fits t f) (edge_if (phis_of f to.text) (edge_to source to))
