-- The tokens that the parts of a tree are printed as, by their texts.
use Rattle.std.specs.Prelude.{ℕ, Bool, false, if◌then◌else◌, List, [], ◌∷◌, ◌++◌, map, Option, Some, None, codes}
use Rattle.bitnum.specs.declared.BinOp.{BinOp}
use Rattle.bitnum.specs.declared.BinOp.TheVariants as ops
use Rattle.bitnum.specs.declared.Pred.{Pred}
use Rattle.bitnum.specs.declared.Pred.TheVariants as preds
use Rattle.ir_tree.specs.declared.types.Name.{Name}
use Rattle.ir_tree.specs.declared.types.IrType.{IrType, fold-IrType}
use Rattle.ir_tree.specs.declared.types.IrType.TheOpen.{IrType-F}
use Rattle.ir_tree.specs.declared.constants.Value.{Value}
use Rattle.ir_tree.specs.declared.constants.ValueForm.{ValueForm}
use Rattle.ir_tree.specs.declared.constants.ValueForm.TheVariants as forms
use Rattle.ir_tree.specs.declared.constants.GepLevel.{GepLevel}
use Rattle.ir_tree.specs.declared.constants.ConstIndex.{ConstIndex}
use Rattle.ir_tree.specs.declared.constants.Constant.{Constant, fold-Constant}
use Rattle.ir_tree.specs.declared.constants.Constant.TheOpen.{Constant-F}
use Rattle.ir_tree.specs.declared.instructions.CastOp.{CastOp}
use Rattle.ir_tree.specs.declared.instructions.CastOp.TheVariants as casts
use Rattle.ir_tree.specs.declared.instructions.Typed.{Typed}
use Rattle.ir_tree.specs.declared.instructions.Index.{Index}
use Rattle.ir_tree.specs.declared.instructions.Operation.{Operation}
use Rattle.ir_tree.specs.declared.instructions.Operation.TheVariants as operations
use Rattle.ir_tree.specs.declared.instructions.Instruction.{Instruction}
use Rattle.ir_tree.specs.declared.instructions.Incoming.{Incoming}
use Rattle.ir_tree.specs.declared.instructions.Phi.{Phi}
use Rattle.ir_tree.specs.declared.instructions.Case.{Case}
use Rattle.ir_tree.specs.declared.instructions.TerminatorForm.{TerminatorForm}
use Rattle.ir_tree.specs.declared.instructions.TerminatorForm.TheVariants as terminators
use Rattle.ir_tree.specs.Texts.{global_text, local_text, integer_text, width_text, string_text}

-- ---- lists

-- each behind a comma
abbrev pub others : List (List (List ℕ)) → List (List ℕ)
others [] = []
others (x ∷ xs) = codes "," ∷ (x ++ others xs)

-- with commas between them
abbrev pub separated : List (List (List ℕ)) → List (List ℕ)
separated [] = []
separated (x ∷ xs) = x ++ others xs

-- ---- types

abbrev pub opening : Bool → List ℕ
opening packed = if packed then codes "<{" else codes "{"

abbrev pub closing : Bool → List ℕ
closing packed = if packed then codes "}>" else codes "}"

abbrev pub type_level : IrType-F (List (List ℕ)) → List (List ℕ)
type_level (IrType-F.Int width) = width_text width ∷ []
type_level IrType-F.Ptr = codes "ptr" ∷ []
type_level (IrType-F.Array at len element) = codes "[" ∷ integer_text (record { negative = false; magnitude = len }) ∷ codes "x" ∷ (element ++ codes "]" ∷ [])
type_level (IrType-F.Struct at fields packed) = opening packed ∷ (separated fields ++ closing packed ∷ [])
type_level (IrType-F.Named name at) = local_text name ∷ []

unfoldable pub type_tokens : IrType → List (List ℕ)
type_tokens t = fold-IrType (List (List ℕ)) type_level t

abbrev pub result_tokens : Option IrType → List (List ℕ)
result_tokens (Some t) = type_tokens t
result_tokens None = codes "void" ∷ []

-- ---- operands and constants

abbrev pub const_index_tokens : ConstIndex → List (List ℕ)
const_index_tokens i = width_text i.width ∷ integer_text i.value ∷ []

abbrev pub gep_tokens : Name → List GepLevel → List (List ℕ)
gep_tokens base [] = global_text base.text ∷ []
gep_tokens base (l ∷ ls) =
    codes "getelementptr" ∷ codes "(" ∷ (type_tokens l.source ++ codes "," ∷ codes "ptr" ∷ (gep_tokens base ls ++ (others (map const_index_tokens l.indices) ++ codes ")" ∷ [])))

abbrev pub form_tokens : ValueForm → List (List ℕ)
form_tokens (forms.Local name) = local_text name ∷ []
form_tokens (forms.Global name) = global_text name ∷ []
form_tokens (forms.Int n) = integer_text n ∷ []
form_tokens forms.True = codes "true" ∷ []
form_tokens forms.False = codes "false" ∷ []
form_tokens forms.Null = codes "null" ∷ []
form_tokens forms.Undef = codes "undef" ∷ []
form_tokens forms.Poison = codes "poison" ∷ []
form_tokens forms.ZeroInitializer = codes "zeroinitializer" ∷ []
form_tokens (forms.Gep g) = gep_tokens g.base g.levels

abbrev pub value_tokens : Value → List (List ℕ)
value_tokens v = form_tokens v.form

-- a constant with its type before it
abbrev pub constant_level : Constant-F (List (List ℕ)) → List (List ℕ)
constant_level (Constant-F.Value kind value) = type_tokens kind ++ value_tokens value
constant_level (Constant-F.Bytes kind at bytes) = type_tokens kind ++ string_text bytes ∷ []
constant_level (Constant-F.Array kind at elements) = type_tokens kind ++ codes "[" ∷ (separated elements ++ codes "]" ∷ [])
constant_level (Constant-F.Struct kind at fields packed) = type_tokens kind ++ opening packed ∷ (separated fields ++ closing packed ∷ [])

unfoldable pub constant_tokens : Constant → List (List ℕ)
constant_tokens c = fold-Constant (List (List ℕ)) constant_level c

abbrev pub typed_tokens : Typed → List (List ℕ)
typed_tokens t = type_tokens t.kind ++ value_tokens t.value

-- ---- instructions

abbrev pub binary_text : BinOp → List ℕ
binary_text ops.Add = codes "add"
binary_text ops.Sub = codes "sub"
binary_text ops.Mul = codes "mul"
binary_text ops.Udiv = codes "udiv"
binary_text ops.Sdiv = codes "sdiv"
binary_text ops.Urem = codes "urem"
binary_text ops.Srem = codes "srem"
binary_text ops.Shl = codes "shl"
binary_text ops.Lshr = codes "lshr"
binary_text ops.Ashr = codes "ashr"
binary_text ops.And = codes "and"
binary_text ops.Or = codes "or"
binary_text ops.Xor = codes "xor"

abbrev pub pred_text : Pred → List ℕ
pred_text preds.Eq = codes "eq"
pred_text preds.Ne = codes "ne"
pred_text preds.Ugt = codes "ugt"
pred_text preds.Uge = codes "uge"
pred_text preds.Ult = codes "ult"
pred_text preds.Ule = codes "ule"
pred_text preds.Sgt = codes "sgt"
pred_text preds.Sge = codes "sge"
pred_text preds.Slt = codes "slt"
pred_text preds.Sle = codes "sle"

abbrev pub cast_text : CastOp → List ℕ
cast_text casts.Trunc = codes "trunc"
cast_text casts.Zext = codes "zext"
cast_text casts.Sext = codes "sext"

abbrev pub pointer_tokens : Value → List (List ℕ)
pointer_tokens p = codes "ptr" ∷ value_tokens p

abbrev pub index_tokens : Index → List (List ℕ)
index_tokens i = width_text i.width ∷ value_tokens i.value

abbrev pub operation_tokens : Operation → List (List ℕ)
operation_tokens (operations.Binary op width a b) = binary_text op ∷ width_text width ∷ (value_tokens a ++ codes "," ∷ value_tokens b)
operation_tokens (operations.Compare pred kind a b) = codes "icmp" ∷ pred_text pred ∷ (type_tokens kind ++ (value_tokens a ++ codes "," ∷ value_tokens b))
operation_tokens (operations.Cast op from value to) = cast_text op ∷ width_text from ∷ (value_tokens value ++ codes "to" ∷ width_text to ∷ [])
operation_tokens (operations.Select condition a b) = codes "select" ∷ codes "i1" ∷ (value_tokens condition ++ codes "," ∷ (typed_tokens a ++ codes "," ∷ typed_tokens b))
operation_tokens (operations.Alloca kind) = codes "alloca" ∷ type_tokens kind
operation_tokens (operations.Load kind pointer) = codes "load" ∷ (type_tokens kind ++ codes "," ∷ pointer_tokens pointer)
operation_tokens (operations.Store kind value pointer) = codes "store" ∷ (type_tokens kind ++ (value_tokens value ++ codes "," ∷ pointer_tokens pointer))
operation_tokens (operations.GetElementPtr source pointer indices) = codes "getelementptr" ∷ (type_tokens source ++ codes "," ∷ (pointer_tokens pointer ++ others (map index_tokens indices)))
operation_tokens (operations.Call result callee arguments) =
    codes "call" ∷ (result_tokens result ++ global_text callee.text ∷ codes "(" ∷ (separated (map typed_tokens arguments) ++ codes ")" ∷ []))

abbrev pub set_tokens : Option Name → List (List ℕ)
set_tokens (Some name) = local_text name.text ∷ codes "=" ∷ []
set_tokens None = []

abbrev pub instruction_tokens : Instruction → List (List ℕ)
instruction_tokens i = set_tokens i.result ++ operation_tokens i.operation

abbrev pub incoming_tokens : Incoming → List (List ℕ)
incoming_tokens i = codes "[" ∷ (value_tokens i.value ++ codes "," ∷ local_text i.label.text ∷ codes "]" ∷ [])

abbrev pub phi_tokens : Phi → List (List ℕ)
phi_tokens p = local_text p.result.text ∷ codes "=" ∷ codes "phi" ∷ (type_tokens p.kind ++ separated (map incoming_tokens p.incoming))

-- ---- terminators

abbrev pub target_tokens : Name → List (List ℕ)
target_tokens name = codes "label" ∷ local_text name.text ∷ []

abbrev pub case_tokens : Case → List (List ℕ)
case_tokens c = width_text c.width ∷ integer_text c.value ∷ codes "," ∷ target_tokens c.label

abbrev pub joined : List (List (List ℕ)) → List (List ℕ)
joined [] = []
joined (x ∷ xs) = x ++ joined xs

abbrev pub terminator_tokens : TerminatorForm → List (List ℕ)
terminator_tokens (terminators.Return (Some t)) = codes "ret" ∷ typed_tokens t
terminator_tokens (terminators.Return None) = codes "ret" ∷ codes "void" ∷ []
terminator_tokens (terminators.Jump to) = codes "br" ∷ target_tokens to
terminator_tokens (terminators.Branch condition if_true if_false) =
    codes "br" ∷ codes "i1" ∷ (value_tokens condition ++ codes "," ∷ (target_tokens if_true ++ codes "," ∷ target_tokens if_false))
terminator_tokens (terminators.Switch width value default cases) =
    codes "switch" ∷ width_text width ∷ (value_tokens value ++ codes "," ∷ (target_tokens default ++ codes "[" ∷ (joined (map case_tokens cases) ++ codes "]" ∷ [])))
terminator_tokens terminators.Unreachable = codes "unreachable" ∷ []
