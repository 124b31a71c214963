-- Words for small trees, and what their types are.
use Rattle.std.proofs.Common.{◌≡◌, ◌∙◌, ℕ, false, List, [], Option, Some, None, sym, ap}
use Rattle.std.specs.Prelude.{min}
use Rattle.ir_tree.specs.Layout.{level, name_within, most}
use Rattle.ir_tree.specs.declared.types.Name.{Name}
use Rattle.ir_tree.specs.declared.types.IrType.{IrType, out-IrType, fold-IrType, fold-roll-IrType, out-roll-IrType}
use Rattle.ir_tree.specs.declared.types.IrType.TheOpen.{IrType-F}
use Rattle.ir_tree.specs.declared.types.IrType.TheViews.{rolls-Int, rolls-Ptr}
use Rattle.ir_tree.specs.declared.types.IrType.TheVariants as types
use Rattle.ir_tree.specs.declared.constants.Value.{Value}
use Rattle.ir_tree.specs.declared.constants.ValueForm.TheVariants as forms
use Rattle.ir_tree.specs.declared.instructions.Block.{Block}
use Rattle.ir_tree.specs.declared.instructions.Instruction.{Instruction}
use Rattle.ir_tree.specs.declared.instructions.Operation.{Operation}
use Rattle.ir_tree.specs.declared.instructions.Phi.{Phi}
use Rattle.ir_tree.specs.declared.instructions.Incoming.{Incoming}
use Rattle.ir_tree.specs.declared.instructions.TerminatorForm.{TerminatorForm}
use Rattle.ir_tree.specs.declared.module.Parameter.{Parameter}
use Rattle.ir_tree.specs.declared.module.FunctionDefinition.{FunctionDefinition}
use Rattle.ir_tree.specs.declared.module.IrTree.{IrTree}
use Rattle.ir_programs.specs.Types.{size_of, size_or_zero}

-- ---- types

pub out_int : (n : ℕ) → out-IrType (types.Int n) ≡ IrType-F.Int n
out_int n = ap out-IrType (sym (rolls-Int n)) ∙ out-roll-IrType (IrType-F.Int n)

pub out_ptr : out-IrType types.Ptr ≡ IrType-F.Ptr
out_ptr = ap out-IrType (sym rolls-Ptr) ∙ out-roll-IrType IrType-F.Ptr

fold_int : {A : Type 0} (f : IrType-F A → A) (n : ℕ) → fold-IrType A f (types.Int n) ≡ f (IrType-F.Int n)
fold_int {A} f n = ap (fold-IrType A f) (sym (rolls-Int n)) ∙ fold-roll-IrType A f (IrType-F.Int n)

pub size_of_byte : size_of [] (types.Int 8) ≡ 1
size_of_byte = ap (λ e. min most (size_or_zero e)) (fold_int (level (name_within 0 [])) 8)

-- ---- parts of trees; a name's place is 0 where nothing is refused

abbrev pub named : List ℕ → Name
named text = record { text = text; at = 0 }

abbrev pub named_at : ℕ → List ℕ → Name
named_at at text = record { text = text; at = at }

abbrev pub local : List ℕ → Value
local name = record { at = 0; form = forms.Local name }

abbrev pub count : ℕ → Value
count n = record { at = 0; form = forms.Int (record { negative = false; magnitude = n }) }

abbrev pub parameter : IrType → List ℕ → Parameter
parameter kind name = record { kind = kind; name = Some (named name) }

abbrev pub set : List ℕ → Operation → Instruction
set name operation = record { at = 0; result = Some (named name); operation = operation }

abbrev pub unset : Operation → Instruction
unset operation = record { at = 0; result = None; operation = operation }

abbrev pub from : Value → List ℕ → Incoming
from value label = record { value = value; label = named label }

abbrev pub phi : List ℕ → IrType → List Incoming → Phi
phi name kind incoming = record { result = named name; kind = kind; incoming = incoming }

abbrev pub block : List ℕ → List Phi → List Instruction → TerminatorForm → Block
block label phis instructions form = record { label = Some (named label); phis = phis; instructions = instructions; terminator = record { at = 0; form = form } }

abbrev pub function : List ℕ → Option IrType → List Parameter → List Block → FunctionDefinition
function name result parameters blocks = record { header = record { result = result; name = named name; parameters = parameters }; blocks = blocks }

abbrev pub only : List FunctionDefinition → IrTree
only functions = record { types = []; globals = []; declares = []; functions = functions }
