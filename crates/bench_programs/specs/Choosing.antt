-- A function that makes so many objects, and then chooses so often between the pointer before and an older one.
use Rattle.std.specs.Prelude.{ℕ, zero, suc, ◌+◌, ◌-◌, List, [], ◌∷◌, ◌++◌, Some, replicate}
use Rattle.flat_ir.specs.declared.names.RegId.{RegId}
use Rattle.flat_ir.specs.declared.nodes.Node.{Node}
use Rattle.flat_ir.specs.declared.nodes.Node.TheVariants as node
use Rattle.flat_ir.specs.declared.nodes.Operand.{Operand}
use Rattle.flat_ir.specs.declared.nodes.Operand.TheVariants as operand
use Rattle.flat_ir.specs.declared.nodes.RegType.TheVariants as type
use Rattle.flat_ir.specs.declared.program.Func.{Func}
use Rattle.flat_ir.specs.declared.program.ProgramData.{ProgramData}

abbrev pub reg : ℕ → RegId
reg k = record { 0 = k }

abbrev pub number : ℕ → Operand
number bits = operand.Int (record { width = 32; bits = bits })

-- node k makes an object
abbrev pub makes : ℕ → Node
makes k = node.Alloca 4 (reg k) (record { 0 = k + 1 })

-- node k chooses between the register before and the one that many before
abbrev pub chooses : ℕ → ℕ → Node
chooses sites k = node.Select (number 1) (operand.Reg (reg (k - 1))) (operand.Reg (reg (k - sites))) (reg k) (record { 0 = k + 1 })

abbrev pub makers : ℕ → List Node
makers zero = []
makers (suc k) = makers k ++ makes k ∷ []

abbrev pub choosers : ℕ → ℕ → List Node
choosers sites zero = []
choosers sites (suc k) = choosers sites k ++ chooses sites (sites + k) ∷ []

abbrev pub returns : Node
returns = node.Ret (Some (number 0))

abbrev pub choosing_main : ℕ → ℕ → Func
choosing_main sites choices = record {
  name = [];
  params = 0;
  regs = replicate (sites + choices) type.Ptr;
  reg_names = replicate (sites + choices) [];
  result = Some (type.Int 32);
  nodes = (makers sites ++ choosers sites choices) ++ returns ∷ [];
  clashes = [];
  bad_edges = [];
}

abbrev pub choosing : ℕ → ℕ → ProgramData
choosing sites choices = record { globals = []; funcs = choosing_main sites choices ∷ []; main = record { 0 = 0 }; defined = 1 }
