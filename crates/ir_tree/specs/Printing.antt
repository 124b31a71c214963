-- The text of a tree: types, globals, declares and functions, each group in its order, and each line with its end.
use Rattle.std.specs.Prelude.{ℕ, Bool, true, false, List, [], ◌∷◌, ◌++◌, map, Option, Some, None, codes}
use Rattle.ir_tree.specs.declared.types.Name.{Name}
use Rattle.ir_tree.specs.declared.instructions.Block.{Block}
use Rattle.ir_tree.specs.declared.instructions.Phi.{Phi}
use Rattle.ir_tree.specs.declared.instructions.Instruction.{Instruction}
use Rattle.ir_tree.specs.declared.instructions.Terminator.{Terminator}
use Rattle.ir_tree.specs.declared.module.TypeDefinition.{TypeDefinition}
use Rattle.ir_tree.specs.declared.module.GlobalDefinition.{GlobalDefinition}
use Rattle.ir_tree.specs.declared.module.Parameter.{Parameter}
use Rattle.ir_tree.specs.declared.module.Header.{Header}
use Rattle.ir_tree.specs.declared.module.FunctionDefinition.{FunctionDefinition}
use Rattle.ir_tree.specs.declared.module.IrTree.{IrTree}
use Rattle.ir_tree.specs.Texts.{global_text, local_text, label_text, spaced}
use Rattle.ir_tree.specs.Spelling.{separated, type_tokens, result_tokens, constant_tokens, phi_tokens, instruction_tokens, terminator_tokens}

-- a line: whether it is indented, and its tokens
pub record Line : Type 0 where
  pub indented : Bool
  pub tokens : List (List ℕ)

abbrev pub plain : List (List ℕ) → Line
plain tokens = record { indented = false; tokens = tokens }

abbrev pub inner : List (List ℕ) → Line
inner tokens = record { indented = true; tokens = tokens }

-- %name = type T
abbrev pub type_line : TypeDefinition → Line
type_line d = plain (local_text d.name.text ∷ codes "=" ∷ codes "type" ∷ type_tokens d.kind)

-- @name = global T C
abbrev pub global_line : GlobalDefinition → Line
global_line d = plain (global_text d.name.text ∷ codes "=" ∷ codes "global" ∷ constant_tokens d.value)

abbrev pub name_tokens : Option Name → List (List ℕ)
name_tokens (Some name) = local_text name.text ∷ []
name_tokens None = []

abbrev pub parameter_tokens : Parameter → List (List ℕ)
parameter_tokens p = type_tokens p.kind ++ name_tokens p.name

abbrev pub header_tokens : Header → List (List ℕ)
header_tokens h = result_tokens h.result ++ global_text h.name.text ∷ codes "(" ∷ (separated (map parameter_tokens h.parameters) ++ codes ")" ∷ [])

abbrev pub declare_line : Header → Line
declare_line h = plain (codes "declare" ∷ header_tokens h)

abbrev pub label_lines : Option Name → List Line
label_lines (Some name) = plain (label_text name.text ∷ []) ∷ []
label_lines None = []

abbrev pub phi_line : Phi → Line
phi_line p = inner (phi_tokens p)

abbrev pub instruction_line : Instruction → Line
instruction_line i = inner (instruction_tokens i)

abbrev pub terminator_line : Terminator → Line
terminator_line t = inner (terminator_tokens t.form)

abbrev pub block_lines : Block → List Line
block_lines b = label_lines b.label ++ (map phi_line b.phis ++ (map instruction_line b.instructions ++ terminator_line b.terminator ∷ []))

abbrev pub blocks_lines : List Block → List Line
blocks_lines [] = []
blocks_lines (b ∷ bs) = block_lines b ++ blocks_lines bs

-- define T @f(..) {
abbrev pub define_line : Header → Line
define_line h = plain (codes "define" ∷ (header_tokens h ++ codes "{" ∷ []))

abbrev pub close_line : Line
close_line = plain (codes "}" ∷ [])

abbrev pub function_lines : FunctionDefinition → List Line
function_lines f = define_line f.header ∷ (blocks_lines f.blocks ++ close_line ∷ [])

abbrev pub functions_lines : List FunctionDefinition → List Line
functions_lines [] = []
functions_lines (f ∷ fs) = function_lines f ++ functions_lines fs

abbrev pub lines : IrTree → List Line
lines t = map type_line t.types ++ (map global_line t.globals ++ (map declare_line t.declares ++ functions_lines t.functions))

-- ---- bytes

abbrev pub indent : Bool → List ℕ
indent true = codes "  "
indent false = []

abbrev pub line_text : Line → List ℕ
line_text l = indent l.indented ++ (spaced l.tokens ++ 10 ∷ [])

abbrev pub text_of : List Line → List ℕ
text_of [] = []
text_of (l ∷ ls) = line_text l ++ text_of ls

-- the text that a tree is printed as
abbrev pub printed : IrTree → List ℕ
printed t = text_of (lines t)
