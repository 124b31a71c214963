-- The types within constants and functions.
use Rattle.std.proofs.Common.{◌≡◌, ◌∙◌, ℕ, Bool, List, [], ◌∷◌, ◌++◌, Some, None, map, refl, sym, ap, subst, append_assoc}
use Rattle.std.specs.List.{flat_map}
use Rattle.std.proofs.lemmas.Grind.{flat_map-append}
use Rattle.std.proofs.lemmas.List.{append-nil}
use Rattle.ir_tree.specs.declared.types.IrType.{IrType}
use Rattle.ir_tree.specs.declared.constants.Value.{Value}
use Rattle.ir_tree.specs.declared.constants.Constant.{Constant, fold-Constant, fold-roll-Constant, ind-Constant, roll-Constant, map-Constant}
use Rattle.ir_tree.specs.declared.constants.Constant.TheOpen.{Constant-F}
use Rattle.ir_tree.specs.declared.constants.Constant.TheVariants as constants
use Rattle.ir_tree.specs.declared.constants.Constant.TheViews as views
use Rattle.ir_tree.specs.declared.instructions.Operation.{Operation}
use Rattle.ir_tree.specs.declared.instructions.Operation.TheVariants as operations
use Rattle.ir_tree.specs.declared.instructions.Phi.{Phi}
use Rattle.ir_tree.specs.declared.instructions.Instruction.{Instruction}
use Rattle.ir_tree.specs.declared.instructions.TerminatorForm.{TerminatorForm}
use Rattle.ir_tree.specs.declared.instructions.TerminatorForm.TheVariants as terminators
use Rattle.ir_tree.specs.declared.instructions.Block.{Block}
use Rattle.ir_tree.specs.declared.module.FunctionDefinition.{FunctionDefinition}
use Rattle.ir_tree.specs.declared.module.GlobalDefinition.{GlobalDefinition}
use Rattle.ir_tree.specs.declared.module.IrTree.{IrTree}
use Rattle.ir_programs.specs.Parts.{Written, value_types, function_types, operation_values, phi_values, terminator_values, block_values, function_values, constant_level, constant_values, constant_types, constant_types_level, module_types, types_in}
use Rattle.tree_types.specs.Asked.{operation_within, phi_within, terminator_within, block_within, function_within, within_level, constant_within, pieces}

-- ---- constants, one level at a time

module _ {A : Type 0} (f : Constant-F A → A) where
  fold_value : (t : IrType) (v : Value) → fold-Constant A f (constants.Value t v) ≡ f (Constant-F.Value t v)
  fold_value t v = ap (fold-Constant A f) (sym (views.rolls-Value t v)) ∙ fold-roll-Constant A f (Constant-F.Value t v)

  fold_bytes : (t : IrType) (at : ℕ) (bytes : List ℕ) → fold-Constant A f (constants.Bytes t at bytes) ≡ f (Constant-F.Bytes t at bytes)
  fold_bytes t at bytes = ap (fold-Constant A f) (sym (views.rolls-Bytes t at bytes)) ∙ fold-roll-Constant A f (Constant-F.Bytes t at bytes)

  fold_array : (t : IrType) (at : ℕ) (cs : List Constant) → fold-Constant A f (constants.Array t at cs) ≡ f (Constant-F.Array t at (map (fold-Constant A f) cs))
  fold_array t at cs = ap (fold-Constant A f) (sym (views.rolls-Array t at cs)) ∙ fold-roll-Constant A f (Constant-F.Array t at cs)

  fold_struct : (t : IrType) (at : ℕ) (cs : List Constant) (p : Bool) → fold-Constant A f (constants.Struct t at cs p) ≡ f (Constant-F.Struct t at (map (fold-Constant A f) cs) p)
  fold_struct t at cs p = ap (fold-Constant A f) (sym (views.rolls-Struct t at cs p)) ∙ fold-roll-Constant A f (Constant-F.Struct t at cs p)

pub types_value : (t : IrType) (v : Value) → constant_types (constants.Value t v) ≡ t ∷ []
unfolding constant_types
types_value t v = fold_value constant_types_level t v

pub types_bytes : (t : IrType) (at : ℕ) (bytes : List ℕ) → constant_types (constants.Bytes t at bytes) ≡ t ∷ []
unfolding constant_types
types_bytes t at bytes = fold_bytes constant_types_level t at bytes

pub types_array : (t : IrType) (at : ℕ) (cs : List Constant) → constant_types (constants.Array t at cs) ≡ t ∷ flat_map (λ ts. ts) (map constant_types cs)
unfolding constant_types
types_array t at cs = fold_array constant_types_level t at cs

pub types_struct : (t : IrType) (at : ℕ) (cs : List Constant) (p : Bool) → constant_types (constants.Struct t at cs p) ≡ t ∷ flat_map (λ ts. ts) (map constant_types cs)
unfolding constant_types
types_struct t at cs p = fold_struct constant_types_level t at cs p

pub within_value : (t : IrType) (v : Value) → constant_within (constants.Value t v) ≡ value_types v
unfolding constant_within
within_value t v = fold_value within_level t v

pub within_bytes : (t : IrType) (at : ℕ) (bytes : List ℕ) → constant_within (constants.Bytes t at bytes) ≡ []
unfolding constant_within
within_bytes t at bytes = fold_bytes within_level t at bytes

pub within_array : (t : IrType) (at : ℕ) (cs : List Constant) → constant_within (constants.Array t at cs) ≡ flat_map (λ ts. ts) (map constant_within cs)
unfolding constant_within
within_array t at cs = fold_array within_level t at cs

pub within_struct : (t : IrType) (at : ℕ) (cs : List Constant) (p : Bool) → constant_within (constants.Struct t at cs p) ≡ flat_map (λ ts. ts) (map constant_within cs)
unfolding constant_within
within_struct t at cs p = fold_struct within_level t at cs p

-- ---- the types within the values of a constant

abbrev IsWithin : Type 0
IsWithin = (c : Constant) × (constant_within c ≡ flat_map value_types (constant_values c))

rolled_within : (x : Constant-F Constant) → constant_within (roll-Constant x) ≡ within_level (map-Constant Constant (List IrType) constant_within x)
unfolding constant_within
rolled_within x = fold-roll-Constant (List IrType) within_level x

rolled_values : (x : Constant-F Constant) → constant_values (roll-Constant x) ≡ constant_level (map-Constant Constant (List Value) constant_values x)
unfolding constant_values
rolled_values x = fold-roll-Constant (List Value) constant_level x

lists_within : (cs : List IsWithin) → flat_map (λ ts. ts) (map constant_within (map (λ e. e.0) cs)) ≡ flat_map value_types (flat_map (λ vs. vs) (map constant_values (map (λ e. e.0) cs)))
lists_within [] = refl
lists_within (e ∷ es) =
    ap (λ ts. ts ++ flat_map (λ ts. ts) (map constant_within (map (λ x. x.0) es))) e.1
    ∙ (ap (λ ts. flat_map value_types (constant_values e.0) ++ ts) (lists_within es)
    ∙ sym (flat_map-append value_types (constant_values e.0) (flat_map (λ vs. vs) (map constant_values (map (λ x. x.0) es)))))

level_within : (y : Constant-F IsWithin) →
    within_level (map-Constant Constant (List IrType) constant_within (map-Constant IsWithin Constant (λ e. e.0) y))
    ≡ flat_map value_types (constant_level (map-Constant Constant (List Value) constant_values (map-Constant IsWithin Constant (λ e. e.0) y)))
level_within (Constant-F.Value kind value) = sym (append-nil (value_types value))
level_within (Constant-F.Bytes kind at bytes) = refl
level_within (Constant-F.Array kind at elements) = lists_within elements
level_within (Constant-F.Struct kind at fields packed) = lists_within fields

constant_is : (c : Constant) → constant_within c ≡ flat_map value_types (constant_values c)
constant_is = ind-Constant (λ c. constant_within c ≡ flat_map value_types (constant_values c)) (λ x y is.
    rolled_within x
    ∙ (subst (λ z. within_level (map-Constant Constant (List IrType) constant_within z) ≡ flat_map value_types (constant_level (map-Constant Constant (List Value) constant_values z))) is (level_within y)
    ∙ sym (ap (flat_map value_types) (rolled_values x))))

-- ---- the types within the values of functions

abbrev written_types : List Written → List IrType
written_types ws = flat_map (λ w. value_types w.value) ws

of_map : {X : Type 0} (g : X → Written) (xs : List X) → written_types (map g xs) ≡ flat_map (λ x. value_types (g x).value) xs
of_map g [] = refl
of_map g (x ∷ xs) = ap (λ ts. value_types (g x).value ++ ts) (of_map g xs)

of_flat : {X : Type 0} (g : X → List Written) (h : X → List IrType) → ((x : X) → h x ≡ written_types (g x)) → (xs : List X) → flat_map h xs ≡ written_types (flat_map g xs)
of_flat g h e [] = refl
of_flat g h e (x ∷ xs) = ap (λ ts. ts ++ flat_map h xs) (e x) ∙ (ap (λ ts. written_types (g x) ++ ts) (of_flat g h e xs) ∙ sym (flat_map-append (λ (w : Written). value_types w.value) (g x) (flat_map g xs)))

one : (v : Value) → value_types v ≡ value_types v ++ []
one v = sym (append-nil (value_types v))

two : (v w : Value) → value_types v ++ value_types w ≡ value_types v ++ (value_types w ++ [])
two v w = ap (λ ts. value_types v ++ ts) (one w)

operation_is : (o : Operation) → operation_within o ≡ written_types (operation_values o)
operation_is (operations.Binary op width a b) = two a b
operation_is (operations.Compare pred kind a b) = two a b
operation_is (operations.Cast op from value to) = one value
operation_is (operations.Select condition a b) = ap (λ ts. value_types condition ++ ts) (two a.value b.value)
operation_is (operations.Alloca kind) = refl
operation_is (operations.Load kind pointer) = one pointer
operation_is (operations.Store kind value pointer) = two value pointer
operation_is (operations.GetElementPtr source pointer indices) = ap (λ ts. value_types pointer ++ ts) (sym (of_map _ indices))
operation_is (operations.Call result callee arguments) = sym (of_map _ arguments)

phi_is : (p : Phi) → phi_within p ≡ written_types (phi_values p)
phi_is p = sym (of_map _ p.incoming)

terminator_is : (f : TerminatorForm) → terminator_within f ≡ written_types (terminator_values f)
terminator_is (terminators.Return (Some t)) = one t.value
terminator_is (terminators.Return None) = refl
terminator_is (terminators.Jump to) = refl
terminator_is (terminators.Branch condition if_true if_false) = one condition
terminator_is (terminators.Switch width value default cases) = one value
terminator_is terminators.Unreachable = refl

block_is : (b : Block) → block_within b ≡ written_types (block_values b)
block_is b =
    let here : Written → List IrType = λ w. value_types w.value in
    let instructions = flat_map (λ (i : Instruction). operation_values i.operation) b.instructions in
    ap (λ ts. ts ++ (flat_map (λ (i : Instruction). operation_within i.operation) b.instructions ++ terminator_within b.terminator.form)) (of_flat phi_values phi_within phi_is b.phis)
    ∙ (ap (λ ts. written_types (flat_map phi_values b.phis) ++ (ts ++ terminator_within b.terminator.form)) (of_flat (λ (i : Instruction). operation_values i.operation) (λ (i : Instruction). operation_within i.operation) (λ i. operation_is i.operation) b.instructions)
    ∙ (ap (λ ts. written_types (flat_map phi_values b.phis) ++ (written_types instructions ++ ts)) (terminator_is b.terminator.form)
    ∙ (ap (λ ts. written_types (flat_map phi_values b.phis) ++ ts) (sym (flat_map-append here instructions (terminator_values b.terminator.form)))
    ∙ sym (flat_map-append here (flat_map phi_values b.phis) (instructions ++ terminator_values b.terminator.form)))))

values_are : (ws : List Written) → written_types ws ≡ flat_map value_types (map (λ w. w.value) ws)
values_are [] = refl
values_are (w ∷ ws) = ap (λ ts. value_types w.value ++ ts) (values_are ws)

function_is : (f : FunctionDefinition) → function_within f ≡ flat_map value_types (function_values f)
function_is f = of_flat block_values block_within block_is f.blocks ∙ values_are (flat_map block_values f.blocks)

-- ---- the types of a tree

of_values : {X : Type 0} (g : X → List Value) (h : X → List IrType) → ((x : X) → h x ≡ flat_map value_types (g x)) → (xs : List X) → flat_map h xs ≡ flat_map value_types (flat_map g xs)
of_values g h e [] = refl
of_values g h e (x ∷ xs) = ap (λ ts. ts ++ flat_map h xs) (e x) ∙ (ap (λ ts. flat_map value_types (g x) ++ ts) (of_values g h e xs) ∙ sym (flat_map-append value_types (g x) (flat_map g xs)))

pub pieces_are : (t : IrTree) → flat_map types_in (pieces t) ≡ module_types t
pieces_are t =
    let globals = flat_map (λ (g : GlobalDefinition). constant_values g.value) t.globals in
    let values = ap (λ ts. ts ++ flat_map function_within t.functions) (of_values (λ (g : GlobalDefinition). constant_values g.value) (λ (g : GlobalDefinition). constant_within g.value) (λ g. constant_is g.value) t.globals)
    ∙ (ap (λ ts. flat_map value_types globals ++ ts) (of_values function_values function_within function_is t.functions) ∙ sym (flat_map-append value_types globals (flat_map function_values t.functions))) in
    ap (λ ts. flat_map types_in (map (λ d. d.kind) t.types ++ (flat_map (λ g. constant_types g.value) t.globals ++ (flat_map function_types t.functions ++ ts)))) values

-- ---- what the code puts

pub value_put : (old : List IrType) (c : Constant) (t : IrType) (v : Value) → c ≡ constants.Value t v → old ++ t ∷ [] ≡ old ++ constant_types c
value_put old c t v is = ap (λ ts. old ++ ts) (sym (ap constant_types is ∙ types_value t v))

pub bytes_put : (old : List IrType) (c : Constant) (t : IrType) (at : ℕ) (bytes : List ℕ) → c ≡ constants.Bytes t at bytes → old ++ t ∷ [] ≡ old ++ constant_types c
bytes_put old c t at bytes is = ap (λ ts. old ++ ts) (sym (ap constant_types is ∙ types_bytes t at bytes))

within_all : (old mid : List IrType) (c : Constant) (t : IrType) (cs xs : List Constant) → constant_types c ≡ t ∷ flat_map (λ ts. ts) (map constant_types cs) → xs ≡ cs → mid ≡ old ++ t ∷ [] →
    mid ++ flat_map (λ ts. ts) (map constant_types xs) ≡ old ++ constant_types c
within_all old mid c t cs xs is e put =
    ap (λ ts. ts ++ flat_map (λ us. us) (map constant_types xs)) put
    ∙ (append_assoc old (t ∷ []) (flat_map (λ us. us) (map constant_types xs)) ∙ (ap (λ ds. old ++ t ∷ flat_map (λ us. us) (map constant_types ds)) e ∙ ap (λ ts. old ++ ts) (sym is)))

pub array_put : (old mid : List IrType) (c : Constant) (t : IrType) (at : ℕ) (cs xs : List Constant) → c ≡ constants.Array t at cs → xs ≡ cs → mid ≡ old ++ t ∷ [] →
    mid ++ flat_map (λ ts. ts) (map constant_types xs) ≡ old ++ constant_types c
array_put old mid c t at cs xs is e put = within_all old mid c t cs xs (ap constant_types is ∙ types_array t at cs) e put

pub struct_put : (old mid : List IrType) (c : Constant) (t : IrType) (at : ℕ) (cs xs : List Constant) (p : Bool) → c ≡ constants.Struct t at cs p → xs ≡ cs → mid ≡ old ++ t ∷ [] →
    mid ++ flat_map (λ ts. ts) (map constant_types xs) ≡ old ++ constant_types c
struct_put old mid c t at cs xs p is e put = within_all old mid c t cs xs (ap constant_types is ∙ types_struct t at cs p) e put

pub value_within_put : (old : List IrType) (c : Constant) (t : IrType) (v : Value) → c ≡ constants.Value t v → old ++ value_types v ≡ old ++ constant_within c
value_within_put old c t v is = ap (λ ts. old ++ ts) (sym (ap constant_within is ∙ within_value t v))

pub bytes_within_put : (old : List IrType) (c : Constant) (t : IrType) (at : ℕ) (bytes : List ℕ) → c ≡ constants.Bytes t at bytes → old ≡ old ++ constant_within c
bytes_within_put old c t at bytes is = sym (append-nil old) ∙ ap (λ ts. old ++ ts) (sym (ap constant_within is ∙ within_bytes t at bytes))

pub array_within_put : (old : List IrType) (c : Constant) (t : IrType) (at : ℕ) (cs xs : List Constant) → c ≡ constants.Array t at cs → xs ≡ cs → old ++ flat_map (λ ts. ts) (map constant_within xs) ≡ old ++ constant_within c
array_within_put old c t at cs xs is e = ap (λ ds. old ++ flat_map (λ ts. ts) (map constant_within ds)) e ∙ ap (λ ts. old ++ ts) (sym (ap constant_within is ∙ within_array t at cs))

pub struct_within_put : (old : List IrType) (c : Constant) (t : IrType) (at : ℕ) (cs xs : List Constant) (p : Bool) → c ≡ constants.Struct t at cs p → xs ≡ cs → old ++ flat_map (λ ts. ts) (map constant_within xs) ≡ old ++ constant_within c
struct_within_put old c t at cs xs p is e = ap (λ ds. old ++ flat_map (λ ts. ts) (map constant_within ds)) e ∙ ap (λ ts. old ++ ts) (sym (ap constant_within is ∙ within_struct t at cs p))
