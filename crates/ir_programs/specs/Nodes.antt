-- The nodes of a function.
use Rattle.std.specs.Prelude.{ℕ, ◌+◌, List, [], ◌∷◌, ◌++◌, map, length, Option, Some, None}
use Rattle.std.specs.List.{flat_map}
use Rattle.flat_ir.specs.declared.names.NodeId.{NodeId}
use Rattle.flat_ir.specs.declared.names.RegId.{RegId}
use Rattle.flat_ir.specs.declared.nodes.CastOp.{CastOp}
use Rattle.flat_ir.specs.declared.nodes.CastOp.TheVariants as cast
use Rattle.flat_ir.specs.declared.nodes.MoveSet.{MoveSet}
use Rattle.flat_ir.specs.declared.nodes.Node.{Node}
use Rattle.flat_ir.specs.declared.nodes.Node.TheVariants as node
use Rattle.flat_ir.specs.declared.nodes.RegType.TheVariants as type
use Rattle.flat_ir.specs.declared.nodes.SwitchCase.{SwitchCase}
use Rattle.ir_tree.specs.declared.constants.Value.{Value}
use Rattle.ir_tree.specs.declared.instructions.CastOp as tree_casts
use Rattle.ir_tree.specs.declared.instructions.CastOp.TheVariants as casts
use Rattle.ir_tree.specs.declared.instructions.Block.{Block}
use Rattle.ir_tree.specs.declared.instructions.Case.{Case}
use Rattle.ir_tree.specs.declared.instructions.Instruction.{Instruction}
use Rattle.ir_tree.specs.declared.instructions.Operation.{Operation}
use Rattle.ir_tree.specs.declared.instructions.Operation.TheVariants as operations
use Rattle.ir_tree.specs.declared.instructions.Phi.{Phi}
use Rattle.ir_tree.specs.declared.instructions.TerminatorForm.{TerminatorForm}
use Rattle.ir_tree.specs.declared.instructions.TerminatorForm.TheVariants as terminators
use Rattle.ir_tree.specs.declared.module.FunctionDefinition.{FunctionDefinition}
use Rattle.ir_tree.specs.declared.module.IrTree.{IrTree}
use Rattle.ir_programs.specs.Parts.{written, typed, register_type}
use Rattle.ir_programs.specs.Types.{size_of}
use Rattle.ir_programs.specs.Causes.{bits_of}
use Rattle.ir_programs.specs.Registers.{register_of}
use Rattle.ir_programs.specs.Addresses.{parts_of}
use Rattle.ir_programs.specs.Operands.{operand_of, operands_of, register_in, result_of, step_of}
use Rattle.ir_programs.specs.Calls.{call_node}
use Rattle.ir_programs.specs.Flow.{at, size_of_block, node_count, start_of, phis_of, Edge, block_edges, edges_of, led_to, behind, value_from}

-- ---- instructions

abbrev pub cast_of : tree_casts.CastOp → CastOp
cast_of casts.Trunc = cast.Trunc
cast_of casts.Zext = cast.Zext
cast_of casts.Sext = cast.Sext

-- the node of an operation that sets register r, and goes on
abbrev pub operation_node : IrTree → FunctionDefinition → RegId → Option RegId → NodeId → Operation → Node
operation_node t f r result next (operations.Binary op width a b) =
    node.Bin op (operand_of t f (written (type.Int width) a)) (operand_of t f (written (type.Int width) b)) r next
operation_node t f r result next (operations.Compare pred kind a b) =
    node.Cmp pred (operand_of t f (written (register_type kind) a)) (operand_of t f (written (register_type kind) b)) r next
operation_node t f r result next (operations.Cast op from value to) = node.Cast (cast_of op) (operand_of t f (written (type.Int from) value)) r next
operation_node t f r result next (operations.Select condition a b) =
    node.Select (operand_of t f (written (type.Int 1) condition)) (operand_of t f (typed a)) (operand_of t f (typed b)) r next
operation_node t f r result next (operations.Alloca kind) = node.Alloca (size_of t.types kind) r next
operation_node t f r result next (operations.Load kind pointer) = node.Load (operand_of t f (written type.Ptr pointer)) r next
operation_node t f r result next (operations.Store kind value pointer) =
    node.Store (operand_of t f (written (register_type kind) value)) (operand_of t f (written type.Ptr pointer)) next
operation_node t f r result next (operations.GetElementPtr source pointer indices) =
    node.Gep (operand_of t f (written type.Ptr pointer)) (parts_of t.types source (map (step_of t f) indices)) r next
operation_node t f r result next (operations.Call kind callee arguments) = call_node t callee.text (operands_of t f (map typed arguments)) result next

abbrev pub instruction_node : IrTree → FunctionDefinition → NodeId → Instruction → Node
instruction_node t f next i = operation_node t f (result_of f i.result) (register_in f i.result) next i.operation

-- the nodes of instructions, the first of which is node n
abbrev pub instruction_nodes : IrTree → FunctionDefinition → ℕ → List Instruction → List Node
instruction_nodes t f n [] = []
instruction_nodes t f n (i ∷ is) = instruction_node t f (at (n + 1)) i ∷ instruction_nodes t f (n + 1) is

-- ---- terminators

-- the cases of a switch, the first edge's node having number k
abbrev pub switch_cases : FunctionDefinition → ℕ → List Case → List SwitchCase
switch_cases f k [] = []
switch_cases f k (c ∷ cs) =
    record { number = record { width = c.width; bits = bits_of c.width c.value }; to = led_to f k c.label } ∷ switch_cases f (behind f k c.label) cs

abbrev pub behind_cases : FunctionDefinition → ℕ → List Case → ℕ
behind_cases f k [] = k
behind_cases f k (c ∷ cs) = behind_cases f (behind f k c.label) cs

-- the node of a terminator, its first edge's node having number k
abbrev pub terminator_node : IrTree → FunctionDefinition → ℕ → TerminatorForm → Node
terminator_node t f k (terminators.Return (Some value)) = node.Ret (Some (operand_of t f (typed value)))
terminator_node t f k (terminators.Return None) = node.Ret None
terminator_node t f k (terminators.Jump to) = node.Jump (led_to f k to)
terminator_node t f k (terminators.Branch condition if_true if_false) =
    node.Branch (operand_of t f (written (type.Int 1) condition)) (led_to f k if_true) (led_to f (behind f k if_true) if_false)
terminator_node t f k (terminators.Switch width value default cases) =
    node.Switch (operand_of t f (written (type.Int width) value)) (switch_cases f k cases) (led_to f (behind_cases f k cases) default)
terminator_node t f k terminators.Unreachable = node.Unreachable

-- ---- edges

abbrev pub set_to : IrTree → FunctionDefinition → Phi → Option Value → List MoveSet
set_to t f p (Some value) = record { register = register_of f p.result.text; value = operand_of t f (written (register_type p.kind) value) } ∷ []
set_to t f p None = []

-- all phis of the block are set at once, but those that have no value on that edge
abbrev pub edge_sets : IrTree → FunctionDefinition → Edge → List MoveSet
edge_sets t f e = flat_map (λ p. set_to t f p (value_from e.source p.incoming)) (phis_of f e.target)

abbrev pub edge_node : IrTree → FunctionDefinition → Edge → Node
edge_node t f e = node.Moves (edge_sets t f e) (at (start_of f e.target))

-- ---- functions

-- the nodes of blocks, the first of which begins at node n, its first edge's node having number k
abbrev pub nodes_from : IrTree → FunctionDefinition → ℕ → ℕ → List Block → List Node
nodes_from t f n k [] = []
nodes_from t f n k (b ∷ bs) =
    instruction_nodes t f n b.instructions ++ terminator_node t f k b.terminator.form ∷ nodes_from t f (n + size_of_block b) (k + length (block_edges f b)) bs

abbrev pub nodes_of : IrTree → FunctionDefinition → List Node
nodes_of t f = nodes_from t f 0 (node_count f.blocks) f.blocks ++ map (edge_node t f) (edges_of f)
