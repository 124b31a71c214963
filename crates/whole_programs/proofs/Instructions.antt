-- The node of an instruction names what there is.
use Rattle.std.proofs.Common.{◌≡◌, ℕ, ◌<◌, true, not, ◌||◌, List, [], ◌∷◌, Option, Some, None, refl}
use Rattle.std.specs.Prelude.{map}
use Rattle.std.specs.Option.{is_some, option_to_list}
use Rattle.std.specs.List.{AllByRecursion}
use Rattle.std.proofs.lemmas.List.Elements.{All-from_recursion}
use Rattle.flat_ir.specs.declared.names.NodeId.{NodeId}
use Rattle.flat_ir.specs.declared.names.RegId.{RegId}
use Rattle.flat_ir.specs.declared.nodes.Node.{Node}
use Rattle.flat_ir.specs.declared.nodes.Operand.{Operand}
use Rattle.flat_ir.specs.declared.nodes.RegType.TheVariants as type
use Rattle.flat_ir.specs.Whole as flat
use Rattle.ir_tree.specs.declared.types.Name.{Name}
use Rattle.ir_tree.specs.declared.instructions.Index.{Index}
use Rattle.ir_tree.specs.declared.instructions.Instruction.{Instruction}
use Rattle.ir_tree.specs.declared.instructions.Operation.{Operation}
use Rattle.ir_tree.specs.declared.instructions.Operation.TheVariants as operations
use Rattle.ir_tree.specs.declared.module.FunctionDefinition.{FunctionDefinition}
use Rattle.ir_tree.specs.declared.module.IrTree.{IrTree}
use Rattle.prelude.specs.Primitives.{primitive_of}
use Rattle.prelude.specs.declared.primitives.Primitive.{Primitive}
use Rattle.prelude.specs.declared.primitives.Primitive.TheVariants as primitive
use Rattle.ir_programs.specs.Texts.{among}
use Rattle.ir_programs.specs.Parts.{Written, written, typed, register_type, operation_values, operation_types, callees}
use Rattle.ir_programs.specs.Locals.{register_names}
use Rattle.ir_programs.specs.Uses.{is_global}
use Rattle.ir_programs.specs.Registers.{number_of, global_of, function_of}
use Rattle.ir_programs.specs.Operands.{operand_of, operands_of, register_in, result_of, step_of}
use Rattle.ir_programs.specs.Calls.{node_or_call}
use Rattle.ir_programs.specs.Nodes.{operation_node, instruction_node}
use Rattle.ir_programs.specs.Readable.{gives_value}
use Rattle.whole_programs.proofs.Types.{IsSmall}
use Rattle.whole_programs.proofs.Operands.{IsKnown, AreKnown, operand_in, operands_in, argument_in, parts_in}

-- a node of a program with so many globals and functions, in a function with so many registers and nodes
pub record IsNode (globals funcs regs nodes : ℕ) (n : Node) : Type 0 where
  pub operands : AllByRecursion (flat.OperandIn globals regs) (flat.operands_of n)
  pub results : AllByRecursion (λ (r : RegId). r.0 < regs) (flat.results_of n)
  pub successors : AllByRecursion (λ (s : NodeId). s.0 < nodes) (flat.successors_of n)
  pub names : flat.NamesIn funcs n

pub node_of : (globals funcs regs nodes : ℕ) (n : Node) → IsNode globals funcs regs nodes n → flat.IsNodeOf globals funcs regs nodes n
node_of globals funcs regs nodes n h = record {
  operands = All-from_recursion (flat.OperandIn globals regs) (flat.operands_of n) h.operands;
  results = All-from_recursion (λ (r : RegId). r.0 < regs) (flat.results_of n) h.results;
  successors = All-from_recursion (λ (s : NodeId). s.0 < nodes) (flat.successors_of n) h.successors;
  names = h.names;
}

-- a name in front of an instruction is a register's
abbrev pub IsSet : FunctionDefinition → Option Name → Type 0
IsSet f (Some name) = among name.text (register_names f) ≡ true
IsSet f None = Unit {0}

-- a function that is called has a number, unless its call is a node of its own kind
abbrev pub IsCallable : IrTree → ℕ → Name → Type 0
IsCallable t funcs n = primitive_of n.text ≡ None → (function_of t n.text).0 < funcs

pub record IsPlaced (t : IrTree) (f : FunctionDefinition) (funcs : ℕ) (i : Instruction) : Type 0 where
  pub values : AreKnown t f (operation_values i.operation)
  pub result : IsSet f i.result
  pub named : (not (gives_value i.operation) || is_some i.result) ≡ true
  pub small : AllByRecursion (IsSmall t.types) (operation_types i.operation)
  pub callees : AllByRecursion (IsCallable t funcs) (callees i.operation)

module _ (t : IrTree) (f : FunctionDefinition) (globals funcs regs nodes : ℕ) (global_in : (name : List ℕ) → is_global t name ≡ true → global_of t name < globals)
    (number_in : (name : List ℕ) → among name (register_names f) ≡ true → number_of name (register_names f) < regs) where
  abbrev pub Is : Node → Type 0
  Is n = IsNode globals funcs regs nodes n

  result_in : (o : Option Name) → IsSet f o → is_some o ≡ true → (result_of f o).0 < regs
  result_in (Some name) h some = number_in name.text h
  result_in None h some = absurd cc

  results_in : (o : Option Name) → IsSet f o → AllByRecursion (λ (r : RegId). r.0 < regs) (option_to_list (register_in f o))
  results_in (Some name) h = (number_in name.text h, tt)
  results_in None h = tt

  operand : (w : Written) → IsKnown t f w.value → flat.OperandIn globals regs (operand_of t f w)
  operand = operand_in t f globals regs global_in number_in

  steps_in : (is : List Index) → AreKnown t f (map (λ (i : Index). written (type.Int i.width) i.value) is) → AllByRecursion (λ s. flat.OperandIn globals regs s.operand) (map (step_of t f) is)
  steps_in [] h = tt
  steps_in (i ∷ is) h = (operand (written (type.Int i.width) i.value) h.0, steps_in is h.1)

  call_in : (name : Name) (args : List Operand) (o : Option Name) (next : NodeId) → AllByRecursion (flat.OperandIn globals regs) args → IsSet f o → next.0 < nodes → IsCallable t funcs name
      → (p : Option Primitive) → primitive_of name.text ≡ p → Is (node_or_call t name.text args (register_in f o) next p)
  call_in name args o next A O N C (Some primitive.Malloc) e = record { operands = (argument_in t f globals regs global_in number_in args A, tt); results = results_in o O; successors = (N, tt); names = tt }
  call_in name args o next A O N C (Some primitive.Free) e = record { operands = (argument_in t f globals regs global_in number_in args A, tt); results = tt; successors = (N, tt); names = tt }
  call_in name args o next A O N C (Some primitive.Exit) e = record { operands = (argument_in t f globals regs global_in number_in args A, tt); results = tt; successors = tt; names = tt }
  call_in name args o next A O N C (Some primitive.Abort) e = record { operands = tt; results = tt; successors = tt; names = tt }
  call_in name args o next A O N C (Some primitive.AssertFail) e = record { operands = A; results = tt; successors = tt; names = tt }
  call_in name args o next A O N C None e = record { operands = A; results = results_in o O; successors = (N, tt); names = C e }

  operation_in : (next : NodeId) → next.0 < nodes → (r : Option Name) → IsSet f r → (o : Operation) → AreKnown t f (operation_values o) → (not (gives_value o) || is_some r) ≡ true → AllByRecursion (IsSmall t.types) (operation_types o)
      → AllByRecursion (IsCallable t funcs) (callees o) → Is (operation_node t f (result_of f r) (register_in f r) next o)
  operation_in next N r R (operations.Binary op w a b) V S T C =
      record { operands = (operand (written (type.Int w) a) V.0, (operand (written (type.Int w) b) V.1.0, tt)); results = (result_in r R S, tt); successors = (N, tt); names = tt }
  operation_in next N r R (operations.Compare pred kind a b) V S T C =
      record { operands = (operand (written (register_type kind) a) V.0, (operand (written (register_type kind) b) V.1.0, tt)); results = (result_in r R S, tt); successors = (N, tt); names = tt }
  operation_in next N r R (operations.Cast op from value to) V S T C = record { operands = (operand (written (type.Int from) value) V.0, tt); results = (result_in r R S, tt); successors = (N, tt); names = tt }
  operation_in next N r R (operations.Select c a b) V S T C =
      record { operands = (operand (written (type.Int 1) c) V.0, (operand (typed a) V.1.0, (operand (typed b) V.1.1.0, tt))); results = (result_in r R S, tt); successors = (N, tt); names = tt }
  operation_in next N r R (operations.Alloca kind) V S T C = record { operands = tt; results = (result_in r R S, tt); successors = (N, tt); names = T.0 }
  operation_in next N r R (operations.Load kind pointer) V S T C = record { operands = (operand (written type.Ptr pointer) V.0, tt); results = (result_in r R S, tt); successors = (N, tt); names = tt }
  operation_in next N r R (operations.Store kind value pointer) V S T C =
      record { operands = (operand (written (register_type kind) value) V.0, (operand (written type.Ptr pointer) V.1.0, tt)); results = tt; successors = (N, tt); names = tt }
  operation_in next N r R (operations.GetElementPtr source pointer is) V S T C =
      record { operands = (operand (written type.Ptr pointer) V.0, parts_in t f globals regs global_in number_in t.types source (map (step_of t f) is) (steps_in is V.1)); results = (result_in r R S, tt); successors = (N, tt); names = tt }
  operation_in next N r R (operations.Call kind callee arguments) V S T C =
      call_in callee (operands_of t f (map typed arguments)) r next (operands_in t f globals regs global_in number_in (map typed arguments) V) R N C.0 (primitive_of callee.text) refl

  pub instruction_in : (next : NodeId) → next.0 < nodes → (i : Instruction) → IsPlaced t f funcs i → Is (instruction_node t f next i)
  instruction_in next N i h = operation_in next N i.result h.result i.operation h.values h.named h.small h.callees
