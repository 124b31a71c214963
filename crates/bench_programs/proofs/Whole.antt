-- Nodes and lists of sample programs that name nothing but their own.
use Rattle.std.proofs.Common.{◌≡◌, ◌<◌, ℕ, zero, suc, List, [], ◌∷◌, ◌++◌, length, replicate, refl, arith}
use Rattle.std.specs.List.{AllByRecursion as Each}
use Rattle.std.proofs.lemmas.List.Elements.{All-from_recursion}
use Rattle.flat_ir.specs.declared.names.NodeId.{NodeId}
use Rattle.flat_ir.specs.declared.names.RegId.{RegId}
use Rattle.flat_ir.specs.declared.nodes.Node.{Node}
use Rattle.flat_ir.specs.Whole.{IsNodeOf, OperandIn, NamesIn, operands_of, results_of, successors_of}

abbrev pub RegIn : ℕ → RegId → Type 0
RegIn regs r = r.0 < regs

abbrev pub NodeIn : ℕ → NodeId → Type 0
NodeIn nodes n = n.0 < nodes

pub is_node : (globals funcs regs nodes : ℕ) (x : Node) → Each (OperandIn globals regs) (operands_of x) → Each (RegIn regs) (results_of x) → Each (NodeIn nodes) (successors_of x) → NamesIn funcs x
    → IsNodeOf globals funcs regs nodes x
is_node globals funcs regs nodes x reads sets leads names = record {
  operands = All-from_recursion (OperandIn globals regs) (operands_of x) reads;
  results = All-from_recursion (RegIn regs) (results_of x) sets;
  successors = All-from_recursion (NodeIn nodes) (successors_of x) leads;
  names = names;
}

pub both_each : {A : Type 0} (P : A → Type 0) → (xs ys : List A) → Each P xs → Each P ys → Each P (xs ++ ys)
both_each P [] ys xs' ys' = ys'
both_each P (x ∷ xs) ys xs' ys' = (xs'.0, both_each P xs ys xs'.1 ys')

pub repeated : {A : Type 0} (P : A → Type 0) (k : ℕ) (a : A) → P a → Each P (replicate k a)
repeated P zero a h = tt
repeated P (suc k) a h = (h, repeated P k a h)

pub long : {A : Type 0} (k : ℕ) (a : A) → length (replicate k a) ≡ k
long zero a = refl
long (suc k) a = let h = long k a in omega (arith, h)
