-- Calls (Language Reference, "'call' Instruction"): the node of a call, and the types that a callee has.
use Rattle.std.specs.Prelude.{ℕ, Bool, true, false, ◌&&◌, ◌==◌, List, [], ◌∷◌, map, take, Option, Some, None, slice_get, unwrap_or}
use Rattle.std.specs.Option.{option_map}
use Rattle.std.specs.List.{filter}
use Rattle.flat_ir.specs.declared.names.NodeId.{NodeId}
use Rattle.flat_ir.specs.declared.names.RegId.{RegId}
use Rattle.flat_ir.specs.declared.nodes.Node.{Node}
use Rattle.flat_ir.specs.declared.nodes.Node.TheVariants as node
use Rattle.flat_ir.specs.declared.nodes.Operand.{Operand}
use Rattle.flat_ir.specs.declared.nodes.RegType.{RegType}
use Rattle.flat_ir.specs.declared.nodes.RegType.TheVariants as type
use Rattle.flat_ir.specs.declared.program.Func.{Func}
use Rattle.ir_tree.specs.Texts.{same}
use Rattle.ir_tree.specs.declared.module.Header.{Header}
use Rattle.ir_tree.specs.declared.module.FunctionDefinition.{FunctionDefinition}
use Rattle.ir_tree.specs.declared.module.IrTree.{IrTree}
use Rattle.prelude.specs.Prelude.{functions}
use Rattle.prelude.specs.Primitives.{primitive_of, params_of, result_of}
use Rattle.prelude.specs.declared.primitives.Primitive.{Primitive}
use Rattle.prelude.specs.declared.primitives.Primitive.TheVariants as primitive
use Rattle.ir_programs.specs.Parts.{register_type}
use Rattle.ir_programs.specs.Operands.{number}
use Rattle.ir_programs.specs.Registers.{function_of}

-- ---- nodes

-- 0 stands for an argument that is missing; such a call is refused
abbrev pub argument : ℕ → List Operand → Operand
argument k args = unwrap_or (slice_get args k) (number 64 0)

-- a call that is a node of its own kind
abbrev pub primitive_node : Primitive → List Operand → Option RegId → NodeId → Node
primitive_node primitive.Malloc args result next = node.Malloc (argument 0 args) result next
primitive_node primitive.Free args result next = node.Free (argument 0 args) next
primitive_node primitive.Exit args result next = node.Exit (argument 0 args)
primitive_node primitive.Abort args result next = node.Abort
primitive_node primitive.AssertFail args result next = node.Assert args

abbrev pub node_or_call : IrTree → List ℕ → List Operand → Option RegId → NodeId → Option Primitive → Node
node_or_call t name args result next (Some p) = primitive_node p args result next
node_or_call t name args result next None = node.Call (function_of t name) args result next

abbrev pub call_node : IrTree → List ℕ → List Operand → Option RegId → NodeId → Node
call_node t name args result next = node_or_call t name args result next (primitive_of name)

-- ---- types

-- the types of a function's parameters and of its result
pub record Signature : Type 0 where
  pub params : List RegType
  pub result : Option RegType

abbrev pub header_signature : Header → Signature
header_signature h = record { params = map (λ p. register_type p.kind) h.parameters; result = option_map register_type h.result }

abbrev pub func_signature : Func → Signature
func_signature g = record { params = take g.params g.regs; result = g.result }

abbrev pub primitive_signature : Primitive → Signature
primitive_signature p = record { params = params_of p; result = result_of p }

-- of the functions that have the name the first
abbrev pub known_signature : Option Primitive → List Func → Option Signature
known_signature (Some p) gs = Some (primitive_signature p)
known_signature None [] = None
known_signature None (g ∷ gs) = Some (func_signature g)

abbrev pub signature_among : List FunctionDefinition → Option Signature → Option Signature
signature_among [] known = known
signature_among (f ∷ fs) known = Some (header_signature f.header)

abbrev pub signature_of : IrTree → List ℕ → Option Signature
signature_of t name =
    signature_among (filter (λ f. same f.header.name.text name) t.functions) (known_signature (primitive_of name) (filter (λ g. same g.name name) functions))

abbrev pub same_type : RegType → RegType → Bool
same_type (type.Int m) (type.Int n) = m == n
same_type (type.Int m) type.Ptr = false
same_type type.Ptr (type.Int n) = false
same_type type.Ptr type.Ptr = true

abbrev pub same_types : List RegType → List RegType → Bool
same_types [] [] = true
same_types [] (u ∷ us) = false
same_types (t ∷ ts) [] = false
same_types (t ∷ ts) (u ∷ us) = same_type t u && same_types ts us

abbrev pub same_result : Option RegType → Option RegType → Bool
same_result (Some t) (Some u) = same_type t u
same_result (Some t) None = false
same_result None (Some u) = false
same_result None None = true

-- the types as they are written at a call are those of the callee
abbrev pub is_signature : List RegType → Option RegType → Option Signature → Bool
is_signature params result (Some s) = same_types params s.params && same_result result s.result
is_signature params result None = false
