-- Words in which functions of nodes are written: a register or a node by its number, a number with its bits.
use Rattle.std.specs.Prelude.{ℕ, List, [], ◌∷◌, Option}
use Rattle.flat_ir.specs.declared.names.NodeId.{NodeId}
use Rattle.flat_ir.specs.declared.names.RegId.{RegId}
use Rattle.flat_ir.specs.declared.nodes.GepPart.TheVariants as part
use Rattle.flat_ir.specs.declared.nodes.Node.{Node}
use Rattle.flat_ir.specs.declared.nodes.Node.TheVariants as node
use Rattle.flat_ir.specs.declared.nodes.Operand.{Operand}
use Rattle.flat_ir.specs.declared.nodes.Operand.TheVariants as operand
use Rattle.flat_ir.specs.declared.nodes.RegType.{RegType}
use Rattle.flat_ir.specs.declared.program.Func.{Func}

abbrev pub r : ℕ → RegId
r k = record { 0 = k }

abbrev pub at : ℕ → NodeId
at k = record { 0 = k }

abbrev pub reg : ℕ → Operand
reg k = operand.Reg (r k)

-- a number of so many bits
abbrev pub int : ℕ → ℕ → Operand
int width bits = operand.Int (record { width = width; bits = bits })

-- so many bytes behind a pointer: `getelementptr i8, ptr BASE, i64 COUNT`
abbrev pub behind : Operand → Operand → ℕ → ℕ → Node
behind base count result next = node.Gep base (part.Index 1 count ∷ []) (r result) (at next)

-- a node that sets one register and goes on: what one phi has on one edge
abbrev pub moves : ℕ → Operand → ℕ → Node
moves register value next = node.Moves (record { register = r register; value = value } ∷ []) (at next)

-- an empty name for each register
abbrev pub no_names : List RegType → List (List ℕ)
no_names [] = []
no_names (t ∷ ts) = [] ∷ no_names ts

-- a function whose registers have no names, the parameters first among them
abbrev pub func : List ℕ → ℕ → List RegType → Option RegType → List Node → Func
func name params regs result nodes = record {
  name = name;
  params = params;
  regs = regs;
  reg_names = no_names regs;
  result = result;
  nodes = nodes;
  clashes = [];
  bad_edges = [];
}
