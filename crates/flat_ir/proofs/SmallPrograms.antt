-- Words for small programs.
use Rattle.std.proofs.Common.{ℕ, ◌-◌, ◌^◌, List, [], ◌∷◌, Option, Some, None}
use Rattle.flat_ir.specs.declared.names.FuncId.{FuncId}
use Rattle.flat_ir.specs.declared.names.NodeId.{NodeId}
use Rattle.flat_ir.specs.declared.names.RegId.{RegId}
use Rattle.flat_ir.specs.declared.nodes.Node.{Node}
use Rattle.flat_ir.specs.declared.nodes.Operand.{Operand}
use Rattle.flat_ir.specs.declared.nodes.Operand.TheVariants as operand
use Rattle.flat_ir.specs.declared.nodes.RegType.{RegType}
use Rattle.flat_ir.specs.declared.nodes.RegType.TheVariants as type
use Rattle.flat_ir.specs.declared.program.ProgramData.{ProgramData}
use Rattle.flat_ir.specs.declared.program.Func.{Func}
use Rattle.flat_ir.specs.declared.program.GlobalVar.{GlobalVar}
use Rattle.flat_ir.specs.declared.program.InitByte.{InitByte}
use Rattle.flat_ir.specs.History.{output}
use Rattle.flat_ir.specs.Machine.{Run, On, Over, End, state_of}
use Rattle.flat_ir.specs.Run.{run}

abbrev pub r : ℕ → RegId
r k = record { 0 = k }

abbrev pub at : ℕ → NodeId
at k = record { 0 = k }

abbrev pub fn : ℕ → FuncId
fn k = record { 0 = k }

abbrev pub reg : ℕ → Operand
reg k = operand.Reg (r k)

-- a number of so many bits
abbrev pub int : ℕ → ℕ → Operand
int width bits = operand.Int (record { width = width; bits = bits })

abbrev pub i32 : ℕ → Operand
i32 bits = int 32 bits

-- -n in so many bits
abbrev pub minus : ℕ → ℕ → Operand
minus width n = int width (2 ^ width - n)

abbrev pub func : ℕ → Option RegType → List RegType → List Node → Func
func params result regs nodes =
    record { name = []; params = params; regs = regs; reg_names = []; result = result; nodes = nodes; clashes = []; bad_edges = [] }

-- main stands first
abbrev pub program : List GlobalVar → List RegType → List Node → List Func → ProgramData
program globals regs nodes others =
    record { globals = globals; funcs = func 0 (Some (type.Int 32)) regs nodes ∷ others; main = fn 0; defined = 1 }

abbrev pub only_main : List RegType → List Node → ProgramData
only_main regs nodes = program [] regs nodes []

abbrev pub global : ℕ → List InitByte → GlobalVar
global size init = record { name = []; size = size; init = init }

-- how the run ends, if it has, within n steps
abbrev pub end_of : Run → Option End
end_of (On s) = None
end_of (Over e s) = Some e

-- what it has written by then
abbrev pub written : Run → List ℕ
written run = output (state_of run).history
