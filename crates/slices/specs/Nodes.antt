-- What a node reads and sets, and the pointers that it reads through or whose objects it needs alive.
use Rattle.std.specs.Prelude.{Bool, true, false, List, [], ◌∷◌, Option, None, Some}
use Rattle.std.specs.List.{Contains}
use Rattle.flat_ir.specs.declared.names.FuncId.{FuncId}
use Rattle.flat_ir.specs.declared.names.NodeId.{NodeId}
use Rattle.flat_ir.specs.declared.names.RegId.{RegId}
use Rattle.flat_ir.specs.declared.nodes.Operand.{Operand}
use Rattle.flat_ir.specs.declared.nodes.Operand.TheVariants as operand
use Rattle.flat_ir.specs.declared.nodes.Node.{Node}
use Rattle.flat_ir.specs.declared.nodes.Node.TheVariants as node
use Rattle.flat_ir.specs.declared.program.ProgramData.{ProgramData}
use Rattle.flat_ir.specs.Machine.{node_at}
use Rattle.flat_ir.specs.Whole.{operands_of, results_of}

-- a node of a function reads a register; a call reads its arguments
abbrev pub Reads : ProgramData → FuncId → NodeId → RegId → Type 0
Reads p f n r = Contains (operands_of (node_at p f n)) (operand.Reg r)

-- a node of a function sets a register
abbrev pub Defines : ProgramData → FuncId → NodeId → RegId → Type 0
Defines p f n r = Contains (results_of (node_at p f n)) r

-- the pointer that a node reads through
abbrev pub read_through : Node → Option Operand
read_through (node.Load pointer result next) = Some pointer
read_through (node.Copy from there next) = Some from
read_through _ = None

-- the pointers whose objects a node needs alive: those of an access and of a free
abbrev pub used_alive : Node → List Operand
used_alive (node.Load pointer result next) = pointer ∷ []
used_alive (node.Store value pointer next) = pointer ∷ []
used_alive (node.Copy from there next) = from ∷ there ∷ []
used_alive (node.Free pointer next) = pointer ∷ []
used_alive _ = []

-- the node reads a byte of the input
abbrev pub reads_input : Node → Bool
reads_input (node.In result next) = true
reads_input _ = false

-- the node ends its frame
abbrev pub is_return : Node → Bool
is_return (node.Ret value) = true
is_return _ = false
