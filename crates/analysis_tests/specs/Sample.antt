-- A small program: a loop in front of a store, and main, which calls that function and returns what it stored.
-- @g = global i32 0; f: e: br label %l; l: %i = phi i32 [ 0, %e ], [ %j, %l ]; %j = add i32 %i, 1; %t = icmp ult i32 %j, 1000; br i1 %t, label %l, label %d;
-- d: store i32 7, ptr @g; ret void; main: call void @f(); %v = load i32, ptr @g; ret i32 %v
use Rattle.std.specs.Prelude.{ℕ, List, [], ◌∷◌, None, Some}
use Rattle.bitnum.specs.declared.BinOp.TheVariants as op
use Rattle.bitnum.specs.declared.Pred.TheVariants as pred
use Rattle.flat_ir.specs.declared.names.FuncId.{FuncId}
use Rattle.flat_ir.specs.declared.names.NodeId.{NodeId}
use Rattle.flat_ir.specs.declared.names.RegId.{RegId}
use Rattle.flat_ir.specs.declared.nodes.Node.{Node}
use Rattle.flat_ir.specs.declared.nodes.Node.TheVariants as node
use Rattle.flat_ir.specs.declared.nodes.Operand.{Operand}
use Rattle.flat_ir.specs.declared.nodes.Operand.TheVariants as operand
use Rattle.flat_ir.specs.declared.nodes.RegType.TheVariants as type
use Rattle.flat_ir.specs.declared.program.Func.{Func}
use Rattle.flat_ir.specs.declared.program.GlobalVar.{GlobalVar}
use Rattle.flat_ir.specs.declared.program.ProgramData.{ProgramData}

abbrev pub func : ℕ → FuncId
func k = record { 0 = k }

abbrev pub at : ℕ → NodeId
at k = record { 0 = k }

abbrev pub reg : ℕ → RegId
reg k = record { 0 = k }

abbrev pub read : ℕ → Operand
read k = operand.Reg (reg k)

abbrev pub number : ℕ → Operand
number bits = operand.Int (record { width = 32; bits = bits })

abbrev pub the_global : Operand
the_global = operand.Global 0 0

abbrev pub func_nodes : List Node
func_nodes =
    node.Jump (at 6) ∷ node.Bin op.Add (read 0) (number 1) (reg 1) (at 2) ∷ node.Cmp pred.Ult (read 1) (number 1000) (reg 2) (at 3)
    ∷ node.Branch (read 2) (at 7) (at 4) ∷ node.Store (number 7) the_global (at 5) ∷ node.Ret None
    ∷ node.Moves (record { register = reg 0; value = number 0 } ∷ []) (at 1) ∷ node.Moves (record { register = reg 0; value = read 1 } ∷ []) (at 1) ∷ []

abbrev pub sample_func : Func
sample_func = record {
  name = [];
  params = 0;
  regs = type.Int 32 ∷ type.Int 32 ∷ type.Int 1 ∷ [];
  reg_names = [] ∷ [] ∷ [] ∷ [];
  result = None;
  nodes = func_nodes;
  clashes = [];
  bad_edges = [];
}

abbrev pub main_nodes : List Node
main_nodes = node.Call (func 0) [] None (at 1) ∷ node.Load the_global (reg 0) (at 2) ∷ node.Ret (Some (read 0)) ∷ []

abbrev pub sample_main : Func
sample_main = record {
  name = [];
  params = 0;
  regs = type.Int 32 ∷ [];
  reg_names = [] ∷ [];
  result = Some (type.Int 32);
  nodes = main_nodes;
  clashes = [];
  bad_edges = [];
}

abbrev pub sample_global : GlobalVar
sample_global = record { name = []; size = 4; init = [] }

abbrev pub sample : ProgramData
sample = record { globals = sample_global ∷ []; funcs = sample_func ∷ sample_main ∷ []; main = func 1; defined = 2 }
