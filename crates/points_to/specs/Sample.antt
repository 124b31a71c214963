-- A small program: the address of an object of main's is stored in a global, loaded again, and written through.
-- @t = global ptr null; main: %0 = alloca i32; store ptr %0, ptr @t; %1 = load ptr, ptr @t; store i32 1, ptr %1; ret i32 0
use Rattle.std.specs.Prelude.{ℕ, List, [], ◌∷◌, Some}
use Rattle.flat_ir.specs.declared.names.FuncId.{FuncId}
use Rattle.flat_ir.specs.declared.names.NodeId.{NodeId}
use Rattle.flat_ir.specs.declared.names.RegId.{RegId}
use Rattle.flat_ir.specs.declared.nodes.Node.{Node}
use Rattle.flat_ir.specs.declared.nodes.Node.TheVariants as node
use Rattle.flat_ir.specs.declared.nodes.Operand.{Operand}
use Rattle.flat_ir.specs.declared.nodes.Operand.TheVariants as operand
use Rattle.flat_ir.specs.declared.nodes.RegType.TheVariants as type
use Rattle.flat_ir.specs.declared.program.Func.{Func}
use Rattle.flat_ir.specs.declared.program.GlobalVar.{GlobalVar}
use Rattle.flat_ir.specs.declared.program.ProgramData.{ProgramData}

abbrev pub func : ℕ → FuncId
func k = record { 0 = k }

abbrev pub at : ℕ → NodeId
at k = record { 0 = k }

abbrev pub reg : ℕ → RegId
reg k = record { 0 = k }

abbrev pub number : ℕ → Operand
number bits = operand.Int (record { width = 32; bits = bits })

abbrev pub the_global : Operand
the_global = operand.Global 0 0

abbrev pub sample_nodes : List Node
sample_nodes =
    node.Alloca 4 (reg 0) (at 1) ∷ node.Store (operand.Reg (reg 0)) the_global (at 2) ∷ node.Load the_global (reg 1) (at 3)
    ∷ node.Store (number 1) (operand.Reg (reg 1)) (at 4) ∷ node.Ret (Some (number 0)) ∷ []

abbrev pub sample_main : Func
sample_main = record {
  name = [];
  params = 0;
  regs = type.Ptr ∷ type.Ptr ∷ [];
  reg_names = [] ∷ [] ∷ [];
  result = Some (type.Int 32);
  nodes = sample_nodes;
  clashes = [];
  bad_edges = [];
}

abbrev pub sample_global : GlobalVar
sample_global = record { name = []; size = 8; init = [] }

abbrev pub sample : ProgramData
sample = record { globals = sample_global ∷ []; funcs = sample_main ∷ []; main = func 0; defined = 1 }
