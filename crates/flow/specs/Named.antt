-- A function whose nodes name registers and nodes that there are.
use Rattle.std.specs.Prelude.{◌<◌, ◌≤◌, ◌^◌, All, length}
use Rattle.flat_ir.specs.declared.program.Func.{Func}
use Rattle.flat_ir.specs.Whole.{successors_of}
use Rattle.flow.specs.Flow.{reads}

-- each register that a node reads and each node that it leads to is the function's, and a number of 32 bits names each node
pub record IsNamed (f : Func) : Type 0 where
  pub few_nodes : length f.nodes ≤ 2 ^ 32
  pub few_regs : length f.regs ≤ 2 ^ 32
  pub nonempty : 0 < length f.nodes
  pub reads : All (λ x. All (λ r. r.0 < length f.regs) (reads x)) f.nodes
  pub successors : All (λ x. All (λ s. s.0 < length f.nodes) (successors_of x)) f.nodes
