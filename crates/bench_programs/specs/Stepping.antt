-- A program of functions that each add so often, each time behind a branch, and store the sum to a global; main calls them all.
use Rattle.std.specs.Prelude.{ℕ, zero, suc, ◌+◌, ◌*◌, List, [], ◌∷◌, ◌++◌, None, Some, replicate}
use Rattle.bitnum.specs.declared.BinOp.TheVariants as op
use Rattle.flat_ir.specs.declared.names.FuncId.{FuncId}
use Rattle.flat_ir.specs.declared.names.NodeId.{NodeId}
use Rattle.flat_ir.specs.declared.names.RegId.{RegId}
use Rattle.flat_ir.specs.declared.nodes.Node.{Node}
use Rattle.flat_ir.specs.declared.nodes.Node.TheVariants as node
use Rattle.flat_ir.specs.declared.nodes.Operand.{Operand}
use Rattle.flat_ir.specs.declared.nodes.Operand.TheVariants as operand
use Rattle.flat_ir.specs.declared.nodes.RegType.TheVariants as type
use Rattle.flat_ir.specs.declared.program.Func.{Func}
use Rattle.flat_ir.specs.declared.program.GlobalVar.{GlobalVar}
use Rattle.flat_ir.specs.declared.program.ProgramData.{ProgramData}

abbrev pub at : ℕ → NodeId
at k = record { 0 = k }

abbrev pub number : ℕ → ℕ → Operand
number width bits = operand.Int (record { width = width; bits = bits })

abbrev pub the_reg : RegId
the_reg = record { 0 = 0 }

abbrev pub branches : ℕ → Node
branches k = node.Branch (number 1 1) (at (2 * k + 1)) (at (2 * k + 2))

abbrev pub adds : ℕ → Node
adds k = node.Bin op.Add (operand.Reg the_reg) (number 32 1) the_reg (at (2 * k + 2))

abbrev pub steps : ℕ → List Node
steps zero = []
steps (suc k) = steps k ++ branches k ∷ [] ++ adds k ∷ []

abbrev pub stores : ℕ → Node
stores k = node.Store (operand.Reg the_reg) (operand.Global 0 0) (at (2 * k + 1))

abbrev pub stepping : ℕ → Func
stepping k = record {
  name = [];
  params = 0;
  regs = type.Int 32 ∷ [];
  reg_names = [] ∷ [];
  result = None;
  nodes = steps k ++ stores k ∷ [] ++ node.Ret None ∷ [];
  clashes = [];
  bad_edges = [];
}

abbrev pub call : ℕ → Node
call k = node.Call (record { 0 = k }) [] None (at (k + 1))

abbrev pub calls : ℕ → List Node
calls zero = []
calls (suc k) = calls k ++ call k ∷ []

abbrev pub returns : Node
returns = node.Ret (Some (number 32 0))

abbrev pub calling : ℕ → Func
calling functions = record {
  name = [];
  params = 0;
  regs = [];
  reg_names = [];
  result = Some (type.Int 32);
  nodes = calls functions ++ returns ∷ [];
  clashes = [];
  bad_edges = [];
}

abbrev pub the_global : GlobalVar
the_global = record { name = []; size = 4; init = [] }

abbrev pub program : ℕ → ℕ → ProgramData
program k functions = record {
  globals = the_global ∷ [];
  funcs = replicate functions (stepping k) ++ calling functions ∷ [];
  main = record { 0 = functions };
  defined = functions + 1;
}
