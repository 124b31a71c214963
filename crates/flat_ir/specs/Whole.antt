-- A program whose names are its own.
use Rattle.std.specs.Prelude.{◌≡◌, ℕ, ◌<◌, ◌≤◌, ◌^◌, List, [], ◌∷◌, length, map, Some, All, slice_get, ◌++◌}
use Rattle.std.specs.Option.{option_to_list}
use Rattle.std.specs.List.{flat_map}
use Rattle.flat_ir.specs.declared.names.NodeId.{NodeId}
use Rattle.flat_ir.specs.declared.names.RegId.{RegId}
use Rattle.flat_ir.specs.declared.nodes.Operand.{Operand}
use Rattle.flat_ir.specs.declared.nodes.Operand.TheVariants as operand
use Rattle.flat_ir.specs.declared.nodes.RegType.{RegType}
use Rattle.flat_ir.specs.declared.nodes.RegType.TheVariants as type
use Rattle.flat_ir.specs.declared.nodes.GepPart.{GepPart}
use Rattle.flat_ir.specs.declared.nodes.GepPart.TheVariants.{Field, Index}
use Rattle.flat_ir.specs.declared.nodes.Node.{Node}
use Rattle.flat_ir.specs.declared.nodes.Node.TheVariants as node
use Rattle.flat_ir.specs.declared.program.ProgramData.{ProgramData}
use Rattle.flat_ir.specs.declared.program.Func.{Func}
use Rattle.flat_ir.specs.declared.program.GlobalVar.{GlobalVar}
use Rattle.flat_ir.specs.declared.program.InitByte.{InitByte}
use Rattle.flat_ir.specs.declared.program.InitByte.TheVariants as init

-- an operand names registers and globals that there are
abbrev pub OperandIn : ℕ → ℕ → Operand → Type 0
OperandIn globals regs (operand.Reg r) = r.0 < regs
OperandIn globals regs (operand.Int n) = Unit {0}
OperandIn globals regs operand.Null = Unit {0}
OperandIn globals regs (operand.Global g offset) = g < globals

abbrev pub operands_of_part : GepPart → List Operand
operands_of_part (Field offset) = []
operands_of_part (Index scale index) = index ∷ []

-- the operands of a node, in the order written
abbrev pub operands_of : Node → List Operand
operands_of (node.Bin op a b result next) = a ∷ b ∷ []
operands_of (node.Cmp pred a b result next) = a ∷ b ∷ []
operands_of (node.Cast op a result next) = a ∷ []
operands_of (node.Gep base parts result next) = base ∷ flat_map operands_of_part parts
operands_of (node.Select condition a b result next) = condition ∷ a ∷ b ∷ []
operands_of (node.Alloca size result next) = []
operands_of (node.Malloc size result next) = size ∷ []
operands_of (node.Free pointer next) = pointer ∷ []
operands_of (node.Load pointer result next) = pointer ∷ []
operands_of (node.Store value pointer next) = value ∷ pointer ∷ []
operands_of (node.Copy from to next) = from ∷ to ∷ []
operands_of (node.In result next) = []
operands_of (node.Put value next) = value ∷ []
operands_of (node.Call callee args result next) = args
operands_of (node.Moves sets next) = map (λ s. s.value) sets
operands_of (node.Jump next) = []
operands_of (node.Branch condition first second) = condition ∷ []
operands_of (node.Switch value cases default) = value ∷ []
operands_of (node.Ret value) = option_to_list value
operands_of (node.Exit status) = status ∷ []
operands_of node.Abort = []
operands_of (node.Assert args) = args
operands_of node.Unreachable = []

-- the registers that a node sets
abbrev pub results_of : Node → List RegId
results_of (node.Bin op a b result next) = result ∷ []
results_of (node.Cmp pred a b result next) = result ∷ []
results_of (node.Cast op a result next) = result ∷ []
results_of (node.Gep base parts result next) = result ∷ []
results_of (node.Select condition a b result next) = result ∷ []
results_of (node.Alloca size result next) = result ∷ []
results_of (node.Malloc size result next) = option_to_list result
results_of (node.Free pointer next) = []
results_of (node.Load pointer result next) = result ∷ []
results_of (node.Store value pointer next) = []
results_of (node.Copy from to next) = []
results_of (node.In result next) = result ∷ []
results_of (node.Put value next) = []
results_of (node.Call callee args result next) = option_to_list result
results_of (node.Moves sets next) = map (λ s. s.register) sets
results_of (node.Jump next) = []
results_of (node.Branch condition first second) = []
results_of (node.Switch value cases default) = []
results_of (node.Ret value) = []
results_of (node.Exit status) = []
results_of node.Abort = []
results_of (node.Assert args) = []
results_of node.Unreachable = []

-- where a node leads, in the order written
abbrev pub successors_of : Node → List NodeId
successors_of (node.Bin op a b result next) = next ∷ []
successors_of (node.Cmp pred a b result next) = next ∷ []
successors_of (node.Cast op a result next) = next ∷ []
successors_of (node.Gep base parts result next) = next ∷ []
successors_of (node.Select condition a b result next) = next ∷ []
successors_of (node.Alloca size result next) = next ∷ []
successors_of (node.Malloc size result next) = next ∷ []
successors_of (node.Free pointer next) = next ∷ []
successors_of (node.Load pointer result next) = next ∷ []
successors_of (node.Store value pointer next) = next ∷ []
successors_of (node.Copy from to next) = next ∷ []
successors_of (node.In result next) = next ∷ []
successors_of (node.Put value next) = next ∷ []
successors_of (node.Call callee args result next) = next ∷ []
successors_of (node.Moves sets next) = next ∷ []
successors_of (node.Jump next) = next ∷ []
successors_of (node.Branch condition first second) = first ∷ second ∷ []
successors_of (node.Switch value cases default) = map (λ c. c.to) cases ++ default ∷ []
successors_of (node.Ret value) = []
successors_of (node.Exit status) = []
successors_of node.Abort = []
successors_of (node.Assert args) = []
successors_of node.Unreachable = []

-- what a node names beside those
abbrev pub NamesIn : ℕ → Node → Type 0
NamesIn funcs (node.Call callee args result next) = callee.0 < funcs
NamesIn funcs (node.Alloca size result next) = size ≤ 65536
NamesIn funcs _ = Unit {0}

-- a register has 1 to 64 bits, or is a pointer
abbrev pub IsWidth : RegType → Type 0
IsWidth (type.Int width) = (1 ≤ width) × (width ≤ 64)
IsWidth type.Ptr = Unit {0}

-- a node of a program with so many globals and functions, in a function with so many registers and nodes
pub record IsNodeOf (globals funcs regs nodes : ℕ) (n : Node) : Type 0 where
  pub operands : All (OperandIn globals regs) (operands_of n)
  pub results : All (λ r. r.0 < regs) (results_of n)
  pub successors : All (λ s. s.0 < nodes) (successors_of n)
  pub names : NamesIn funcs n

-- a function of a program with so many globals and functions
pub record IsFuncOf (globals funcs : ℕ) (f : Func) : Type 0 where
  pub few_nodes : length f.nodes ≤ 2 ^ 32
  pub few_regs : length f.regs ≤ 2 ^ 32
  pub nonempty : 0 < length f.nodes
  pub named : length f.reg_names ≡ length f.regs
  pub params : f.params ≤ length f.regs
  pub widths : All IsWidth f.regs
  pub nodes : All (IsNodeOf globals funcs (length f.regs) (length f.nodes)) f.nodes
  pub clashes : All (λ n. n.0 < length f.nodes) f.clashes
  pub bad_edges : All (λ n. n.0 < length f.nodes) f.bad_edges

-- an initial byte names a global that there is, and one of a pointer's eight bytes
abbrev pub InitIn : ℕ → InitByte → Type 0
InitIn globals (init.Int b) = Unit {0}
InitIn globals (init.PtrByte g offset j) = (g < globals) × (j < 8)

-- a global of a program with so many
pub record IsGlobalOf (globals : ℕ) (g : GlobalVar) : Type 0 where
  pub small : g.size ≤ 65536
  pub fits : length g.init ≤ g.size
  pub init : All (InitIn globals) g.init

-- main is a function without parameters, of 32 bits
pub record IsMain (f : Func) : Type 0 where
  pub params : f.params ≡ 0
  pub result : f.result ≡ Some (type.Int 32)

-- each global, function, node and register that is named is the program's, and a number of 32 bits names each
pub record IsWhole (p : ProgramData) : Type 0 where
  pub few_globals : length p.globals ≤ 2 ^ 32
  pub few_funcs : length p.funcs ≤ 2 ^ 32
  pub globals : All (IsGlobalOf (length p.globals)) p.globals
  pub funcs : All (IsFuncOf (length p.globals) (length p.funcs)) p.funcs
  pub main : (f : Func) × (slice_get p.funcs p.main.0 ≡ Some f) × IsMain f
  pub defined : p.defined ≤ length p.funcs
