-- The program of a tree.
use Rattle.std.specs.Prelude.{ℕ, zero, suc, ◌+◌, ◌-◌, ◌/◌, ◌%◌, Bool, List, [], ◌∷◌, ◌++◌, map, length, replicate, take, codes}
use Rattle.std.specs.List.{flat_map}
use Rattle.std.specs.Option.{option_map}
use Rattle.flat_ir.specs.declared.program.Func.{Func}
use Rattle.flat_ir.specs.declared.program.GlobalVar.{GlobalVar}
use Rattle.flat_ir.specs.declared.program.InitByte.{InitByte}
use Rattle.flat_ir.specs.declared.program.InitByte.TheVariants as init
use Rattle.flat_ir.specs.declared.program.ProgramData.{ProgramData}
use Rattle.ir_tree.specs.declared.types.IrType.{IrType}
use Rattle.ir_tree.specs.declared.types.IrType.TheOpen.{IrType-F}
use Rattle.ir_tree.specs.declared.constants.ValueForm.{ValueForm}
use Rattle.ir_tree.specs.declared.constants.ValueForm.TheVariants as forms
use Rattle.ir_tree.specs.declared.constants.Constant.{Constant, fold-Constant, out-Constant}
use Rattle.ir_tree.specs.declared.constants.Constant.TheOpen.{Constant-F}
use Rattle.ir_tree.specs.declared.module.FunctionDefinition.{FunctionDefinition}
use Rattle.ir_tree.specs.declared.module.GlobalDefinition.{GlobalDefinition}
use Rattle.ir_tree.specs.declared.module.IrTree.{IrTree}
use Rattle.ir_programs.specs.Types.{size_of}
use Rattle.ir_programs.specs.Constants.{head_of}
use Rattle.ir_programs.specs.Causes.{bits_of}
use Rattle.ir_programs.specs.Parts.{register_type}
use Rattle.ir_programs.specs.Locals.{register_names, register_types}
use Rattle.ir_programs.specs.Registers.{global_of, called, function_of}
use Rattle.ir_programs.specs.Addresses.{gep_offset, field_offset}
use Rattle.ir_programs.specs.Nodes.{nodes_of}
use Rattle.ir_programs.specs.Fits.{clashes_of}
use Rattle.ir_programs.specs.Edges.{bad_edges_of}

-- ---- the bytes that a global begins with (Language Reference, "Global Variables"; "Data Layout": little-endian). Gaps, and what has no value of its own, are 0.

-- so many bytes of a number, the lowest first
abbrev pub number_bytes : ℕ → ℕ → List InitByte
number_bytes zero bits = []
number_bytes (suc n) bits = init.Int (bits % 256) ∷ number_bytes n (bits / 256)

-- the eight bytes of a pointer
abbrev pub pointer_bytes : ℕ → ℕ → List InitByte
pointer_bytes global offset = map (λ j. init.PtrByte global offset j) (0 ∷ 1 ∷ 2 ∷ 3 ∷ 4 ∷ 5 ∷ 6 ∷ 7 ∷ [])

-- with zeros behind, up to a length
abbrev pub padded : ℕ → List InitByte → List InitByte
padded n bytes = bytes ++ replicate (n - length bytes) (init.Int 0)

abbrev pub integer_bytes : IrType-F IrType → ValueForm → List InitByte
integer_bytes (IrType-F.Int width) (forms.Int n) = number_bytes (width / 8) (bits_of width n)
integer_bytes _ _ = []

abbrev pub value_bytes : IrTree → IrType-F IrType → ValueForm → List InitByte
value_bytes t level (forms.Global name) = pointer_bytes (global_of t name) 0
value_bytes t level (forms.Gep g) = pointer_bytes (global_of t g.base.text) (gep_offset t.types g)
value_bytes t level form = integer_bytes level form

-- the bytes of fields, each at its place, from field k on
abbrev pub fields_from : IrTree → List IrType → Bool → ℕ → List InitByte → List (List InitByte) → List InitByte
fields_from t fields packed k before [] = before
fields_from t fields packed k before (c ∷ cs) = fields_from t fields packed (k + 1) (padded (field_offset t.types fields packed k) before ++ c) cs

abbrev pub struct_bytes : IrTree → IrType-F IrType → List (List InitByte) → List InitByte
struct_bytes t (IrType-F.Struct at fields packed) cs = fields_from t fields packed 0 [] cs
struct_bytes t _ cs = []

abbrev pub bytes_level : IrTree → Constant-F (List InitByte) → List InitByte
bytes_level t (Constant-F.Value kind value) = padded (size_of t.types kind) (value_bytes t (head_of t.types kind) value.form)
bytes_level t (Constant-F.Bytes kind at bytes) = map init.Int bytes
bytes_level t (Constant-F.Array kind at elements) = flat_map (λ c. c) elements
bytes_level t (Constant-F.Struct kind at fields packed) = padded (size_of t.types kind) (struct_bytes t (head_of t.types kind) fields)

unfoldable pub constant_bytes : IrTree → Constant → List InitByte
constant_bytes t c = fold-Constant (List InitByte) (bytes_level t) c

abbrev pub kind_level : Constant-F Constant → IrType
kind_level (Constant-F.Value kind value) = kind
kind_level (Constant-F.Bytes kind at bytes) = kind
kind_level (Constant-F.Array kind at elements) = kind
kind_level (Constant-F.Struct kind at fields packed) = kind

-- as many bytes as its type has: a constant that fits its type has no more
abbrev pub global_var : IrTree → GlobalDefinition → GlobalVar
global_var t g = let size = size_of t.types (kind_level (out-Constant g.value)) in record { name = g.name.text; size = size; init = take size (constant_bytes t g.value) }

-- ---- functions

abbrev pub func_of : IrTree → FunctionDefinition → Func
func_of t f = record {
  name = f.header.name.text;
  params = length f.header.parameters;
  regs = register_types f;
  reg_names = register_names f;
  result = option_map register_type f.header.result;
  nodes = nodes_of t f;
  clashes = clashes_of t f;
  bad_edges = bad_edges_of f;
}

-- the functions that are defined, in the order of the text, and then those that are called without being defined
abbrev pub program_of : IrTree → ProgramData
program_of t = record {
  globals = map (global_var t) t.globals;
  funcs = map (func_of t) t.functions ++ called t;
  main = function_of t (codes "main");
  defined = length t.functions;
}
