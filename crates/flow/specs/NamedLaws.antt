-- A function of a whole program names its own nodes and registers.
use Rattle.std.proofs.Common.{◌<◌, ℕ, All, List, [], ◌∷◌, length}
use Rattle.std.specs.List.{flat_map}
use Rattle.std.proofs.lemmas.List.Elements.{All-weaker, All-append, All-cons, All-nil, All-head, All-tail}
use Rattle.flat_ir.specs.declared.names.NodeId.{NodeId}
use Rattle.flat_ir.specs.declared.names.RegId.{RegId}
use Rattle.flat_ir.specs.declared.nodes.Node.{Node}
use Rattle.flat_ir.specs.declared.nodes.Operand.{Operand}
use Rattle.flat_ir.specs.declared.nodes.Operand.TheVariants as operand
use Rattle.flat_ir.specs.declared.program.Func.{Func}
use Rattle.flat_ir.specs.Whole.{OperandIn, IsFuncOf, IsNodeOf, operands_of, successors_of}
use Rattle.flow.specs.Flow.{read_by, reads}
use Rattle.flow.specs.Named.{IsNamed}

read_within : (globals regs : ℕ) (o : Operand) → OperandIn globals regs o → All (λ r. r.0 < regs) (read_by o)
read_within globals regs (operand.Reg r) h = All-cons (λ (r : RegId). r.0 < regs) r [] h (All-nil (λ (r : RegId). r.0 < regs))
read_within globals regs (operand.Int n) h = All-nil (λ (r : RegId). r.0 < regs)
read_within globals regs operand.Null h = All-nil (λ (r : RegId). r.0 < regs)
read_within globals regs (operand.Global g offset) h = All-nil (λ (r : RegId). r.0 < regs)

reads_within : (globals regs : ℕ) (os : List Operand) → All (OperandIn globals regs) os → All (λ r. r.0 < regs) (flat_map read_by os)
reads_within globals regs [] h = All-nil (λ (r : RegId). r.0 < regs)
reads_within globals regs (o ∷ os) h =
    All-append (λ (r : RegId). r.0 < regs) (read_by o) (flat_map read_by os) (read_within globals regs o (All-head (OperandIn globals regs) o os h))
    (reads_within globals regs os (All-tail (OperandIn globals regs) o os h))

abbrev pub FuncsAreNamed : Type 0
FuncsAreNamed = (globals funcs : ℕ) (f : Func) → IsFuncOf globals funcs f → IsNamed f

pub func_is_named : FuncsAreNamed
func_is_named globals funcs f h = record {
  few_nodes = h.few_nodes;
  few_regs = h.few_regs;
  nonempty = h.nonempty;
  reads = All-weaker (IsNodeOf globals funcs (length f.regs) (length f.nodes)) (λ (x : Node). All (λ (r : RegId). r.0 < length f.regs) (reads x))
      (λ x n. reads_within globals (length f.regs) (operands_of x) n.operands) f.nodes h.nodes;
  successors = All-weaker (IsNodeOf globals funcs (length f.regs) (length f.nodes)) (λ (x : Node). All (λ (s : NodeId). s.0 < length f.nodes) (successors_of x))
      (λ x n. n.successors) f.nodes h.nodes;
}
