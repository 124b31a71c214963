-- The globals of a program: their sizes, and the globals that their first bytes name.
use Rattle.std.proofs.Common.{◌≡◌, ℕ, zero, suc, ◌+◌, ◌-◌, ◌<◌, ◌/◌, Bool, true, List, [], ◌∷◌, ◌++◌, length, replicate, sym, ap, subst, ◌∙◌, arith}
use Rattle.std.specs.Prelude.{map}
use Rattle.std.specs.List.{AllByRecursion, flat_map}
use Rattle.std.proofs.lemmas.List.{length-take}
use Rattle.std.proofs.lemmas.List.Elements.{All-from_recursion, All-take}
use Rattle.std.proofs.Math.Nat.{min-le_left}
use Rattle.flat_ir.specs.declared.program.InitByte.{InitByte}
use Rattle.flat_ir.specs.declared.program.InitByte.TheVariants as init
use Rattle.flat_ir.specs.Whole.{InitIn, IsGlobalOf}
use Rattle.ir_tree.specs.declared.types.Name.{Name}
use Rattle.ir_tree.specs.declared.types.IrType.{IrType}
use Rattle.ir_tree.specs.declared.types.IrType.TheOpen.{IrType-F}
use Rattle.ir_tree.specs.declared.constants.Value.{Value}
use Rattle.ir_tree.specs.declared.constants.ValueForm.{ValueForm}
use Rattle.ir_tree.specs.declared.constants.ValueForm.TheVariants as forms
use Rattle.ir_tree.specs.declared.constants.Constant.{Constant, fold-Constant, fold-roll-Constant, ind-Constant, map-Constant, roll-Constant, out-Constant, roll-out-Constant}
use Rattle.ir_tree.specs.declared.constants.Constant.TheOpen.{Constant-F}
use Rattle.ir_tree.specs.declared.constants.Constant.TheViews as views
use Rattle.ir_tree.specs.declared.constants.Constant.TheVariants as constants
use Rattle.ir_tree.specs.declared.module.GlobalDefinition.{GlobalDefinition}
use Rattle.ir_tree.specs.declared.module.IrTree.{IrTree}
use Rattle.ir_programs.specs.Parts.{constant_level, constant_values, constant_types_level, constant_types}
use Rattle.ir_programs.specs.Types.{size_of}
use Rattle.ir_programs.specs.Constants.{head_of}
use Rattle.ir_programs.specs.Uses.{is_global, form_globals}
use Rattle.ir_programs.specs.Causes.{bits_of}
use Rattle.ir_programs.specs.Registers.{global_of}
use Rattle.ir_programs.specs.Addresses.{gep_offset, field_offset}
use Rattle.ir_programs.specs.Programs.{number_bytes, pointer_bytes, padded, integer_bytes, value_bytes, fields_from, struct_bytes, bytes_level, constant_bytes, kind_level, global_var}
use Rattle.whole_programs.proofs.Lists.{each_front, each_back, together, to_flat}
use Rattle.whole_programs.proofs.Types.{IsSmall}
use Rattle.whole_programs.proofs.Operands.{KnowsGlobals}

-- ---- by the variants

module _ (P : Constant → Type 0) (value_case : (kind : IrType) (v : Value) → P (constants.Value kind v)) (bytes_case : (kind : IrType) (at : ℕ) (bytes : List ℕ) → P (constants.Bytes kind at bytes)) where
  by_variant : ((kind : IrType) (at : ℕ) (cs : List Constant) → P (constants.Array kind at cs)) → ((kind : IrType) (at : ℕ) (cs : List Constant) (packed : Bool) → P (constants.Struct kind at cs packed)) → (c : Constant) → P c
  by_variant array_case struct_case c = subst P (roll-out-Constant c) (go (out-Constant c))
    where
      go : (x : Constant-F Constant) → P (roll-Constant x)
      go (Constant-F.Value kind v) = subst P (sym (views.rolls-Value kind v)) (value_case kind v)
      go (Constant-F.Bytes kind at bytes) = subst P (sym (views.rolls-Bytes kind at bytes)) (bytes_case kind at bytes)
      go (Constant-F.Array kind at cs) = subst P (sym (views.rolls-Array kind at cs)) (array_case kind at cs)
      go (Constant-F.Struct kind at cs packed) = subst P (sym (views.rolls-Struct kind at cs packed)) (struct_case kind at cs packed)

  parts_hold : (es : List ((c : Constant) × P c)) → AllByRecursion P (map (λ e. e.0) es)
  parts_hold [] = tt
  parts_hold (e ∷ es) = (e.1, parts_hold es)

  by_parts : ((kind : IrType) (at : ℕ) (cs : List Constant) → AllByRecursion P cs → P (constants.Array kind at cs)) → ((kind : IrType) (at : ℕ) (cs : List Constant) (packed : Bool) → AllByRecursion P cs → P (constants.Struct kind at cs packed))
      → (c : Constant) → P c
  by_parts array_case struct_case = ind-Constant P (λ x y is. subst (λ z. P (roll-Constant z)) is (go y))
    where
      go : (y : Constant-F ((c : Constant) × P c)) → P (roll-Constant (map-Constant ((c : Constant) × P c) Constant (λ e. e.0) y))
      go (Constant-F.Value kind v) = subst P (sym (views.rolls-Value kind v)) (value_case kind v)
      go (Constant-F.Bytes kind at bytes) = subst P (sym (views.rolls-Bytes kind at bytes)) (bytes_case kind at bytes)
      go (Constant-F.Array kind at cs) = subst P (sym (views.rolls-Array kind at (map (λ e. e.0) cs))) (array_case kind at (map (λ e. e.0) cs) (parts_hold cs))
      go (Constant-F.Struct kind at cs packed) = subst P (sym (views.rolls-Struct kind at (map (λ e. e.0) cs) packed)) (struct_case kind at (map (λ e. e.0) cs) packed (parts_hold cs))

module _ {A : Type 0} (f : Constant-F A → A) where
  fold_value : (kind : IrType) (v : Value) → fold-Constant A f (constants.Value kind v) ≡ f (Constant-F.Value kind v)
  fold_value kind v = ap (fold-Constant A f) (sym (views.rolls-Value kind v)) ∙ fold-roll-Constant A f (Constant-F.Value kind v)

  fold_bytes : (kind : IrType) (at : ℕ) (bytes : List ℕ) → fold-Constant A f (constants.Bytes kind at bytes) ≡ f (Constant-F.Bytes kind at bytes)
  fold_bytes kind at bytes = ap (fold-Constant A f) (sym (views.rolls-Bytes kind at bytes)) ∙ fold-roll-Constant A f (Constant-F.Bytes kind at bytes)

  fold_array : (kind : IrType) (at : ℕ) (cs : List Constant) → fold-Constant A f (constants.Array kind at cs) ≡ f (Constant-F.Array kind at (map (fold-Constant A f) cs))
  fold_array kind at cs = ap (fold-Constant A f) (sym (views.rolls-Array kind at cs)) ∙ fold-roll-Constant A f (Constant-F.Array kind at cs)

  fold_struct : (kind : IrType) (at : ℕ) (cs : List Constant) (packed : Bool) → fold-Constant A f (constants.Struct kind at cs packed) ≡ f (Constant-F.Struct kind at (map (fold-Constant A f) cs) packed)
  fold_struct kind at cs packed = ap (fold-Constant A f) (sym (views.rolls-Struct kind at cs packed)) ∙ fold-roll-Constant A f (Constant-F.Struct kind at cs packed)

-- ---- the type of a constant is the first in it

abbrev IsFirstOf : IrType → List IrType → Type 0
IsFirstOf t ts = (others : List IrType) × (ts ≡ t ∷ others)

abbrev HasFirst : Constant → Type 0
HasFirst c = IsFirstOf (kind_level (out-Constant c)) (fold-Constant (List IrType) constant_types_level c)

begins : (c : Constant) → HasFirst c
begins =
    by_variant HasFirst (λ kind v. subst (λ x. IsFirstOf (kind_level x) (fold-Constant (List IrType) constant_types_level (constants.Value kind v))) (sym (views.outs-Value kind v)) ([], fold_value constant_types_level kind v))
    (λ kind at bytes. subst (λ x. IsFirstOf (kind_level x) (fold-Constant (List IrType) constant_types_level (constants.Bytes kind at bytes))) (sym (views.outs-Bytes kind at bytes)) ([], fold_bytes constant_types_level kind at bytes))
    (λ kind at cs. subst (λ x. IsFirstOf (kind_level x) (fold-Constant (List IrType) constant_types_level (constants.Array kind at cs))) (sym (views.outs-Array kind at cs)) (flat_map (λ ts. ts) (map (fold-Constant (List IrType) constant_types_level) cs), fold_array constant_types_level kind at cs))
    (λ kind at cs packed. subst (λ x. IsFirstOf (kind_level x) (fold-Constant (List IrType) constant_types_level (constants.Struct kind at cs packed))) (sym (views.outs-Struct kind at cs packed))
    (flat_map (λ ts. ts) (map (fold-Constant (List IrType) constant_types_level) cs), fold_struct constant_types_level kind at cs packed))

pub first_kind : (P : IrType → Type 0) (c : Constant) → AllByRecursion P (constant_types c) → P (kind_level (out-Constant c))
unfolding constant_types
first_kind P c h = let b = begins c in (subst (AllByRecursion P) b.1 h).0

-- ---- bytes

module _ (t : IrTree) (globals : ℕ) (global_in : (name : List ℕ) → is_global t name ≡ true → global_of t name < globals) where
  abbrev AreIn : List InitByte → Type 0
  AreIn bytes = AllByRecursion (InitIn globals) bytes

  number_bytes_in : (n bits : ℕ) → AreIn (number_bytes n bits)
  number_bytes_in zero bits = tt
  number_bytes_in (suc n) bits = (tt, number_bytes_in n (bits / 256))

  pointer_in : (g offset : ℕ) → g < globals → AreIn (pointer_bytes g offset)
  pointer_in g offset h = ((h, omega arith), ((h, omega arith), ((h, omega arith), ((h, omega arith), ((h, omega arith), ((h, omega arith), ((h, omega arith), ((h, omega arith), tt))))))))

  zeros_in : (n : ℕ) → AreIn (replicate n (init.Int 0))
  zeros_in zero = tt
  zeros_in (suc n) = (tt, zeros_in n)

  padded_in : (n : ℕ) (bytes : List InitByte) → AreIn bytes → AreIn (padded n bytes)
  padded_in n bytes h = together (InitIn globals) bytes (replicate (n - length bytes) (init.Int 0)) h (zeros_in (n - length bytes))

  integer_in : (x : IrType-F IrType) (form : ValueForm) → AreIn (integer_bytes x form)
  integer_in (IrType-F.Int width) (forms.Int n) = number_bytes_in (width / 8) (bits_of width n)
  integer_in (IrType-F.Int width) (forms.Local name) = tt
  integer_in (IrType-F.Int width) (forms.Global name) = tt
  integer_in (IrType-F.Int width) forms.True = tt
  integer_in (IrType-F.Int width) forms.False = tt
  integer_in (IrType-F.Int width) forms.Null = tt
  integer_in (IrType-F.Int width) forms.Undef = tt
  integer_in (IrType-F.Int width) forms.Poison = tt
  integer_in (IrType-F.Int width) forms.ZeroInitializer = tt
  integer_in (IrType-F.Int width) (forms.Gep g) = tt
  integer_in IrType-F.Ptr form = tt
  integer_in (IrType-F.Array at len e) form = tt
  integer_in (IrType-F.Struct at fields packed) form = tt
  integer_in (IrType-F.Named name at) form = tt

  value_in : (x : IrType-F IrType) (at : ℕ) (form : ValueForm) → AllByRecursion (λ (n : Name). is_global t n.text ≡ true) (form_globals at form) → AreIn (value_bytes t x form)
  value_in x at (forms.Global name) h = pointer_in (global_of t name) 0 (global_in name h.0)
  value_in x at (forms.Gep g) h = pointer_in (global_of t g.base.text) (gep_offset t.types g) (global_in g.base.text h.0)
  value_in x at (forms.Int n) h = integer_in x (forms.Int n)
  value_in x at (forms.Local name) h = integer_in x (forms.Local name)
  value_in x at forms.True h = integer_in x forms.True
  value_in x at forms.False h = integer_in x forms.False
  value_in x at forms.Null h = integer_in x forms.Null
  value_in x at forms.Undef h = integer_in x forms.Undef
  value_in x at forms.Poison h = integer_in x forms.Poison
  value_in x at forms.ZeroInitializer h = integer_in x forms.ZeroInitializer

  fields_in : (fields : List IrType) (packed : Bool) (k : ℕ) (before : List InitByte) (cs : List (List InitByte)) → AreIn before → AllByRecursion AreIn cs → AreIn (fields_from t fields packed k before cs)
  fields_in fields packed k before [] b h = b
  fields_in fields packed k before (c ∷ cs) b h =
      fields_in fields packed (k + 1) (padded (field_offset t.types fields packed k) before ++ c) cs
      (together (InitIn globals) (padded (field_offset t.types fields packed k) before) c (padded_in (field_offset t.types fields packed k) before b) h.0) h.1

  struct_in : (x : IrType-F IrType) (cs : List (List InitByte)) → AllByRecursion AreIn cs → AreIn (struct_bytes t x cs)
  struct_in (IrType-F.Struct at fields packed) cs h = fields_in fields packed 0 [] cs tt h
  struct_in (IrType-F.Int width) cs h = tt
  struct_in IrType-F.Ptr cs h = tt
  struct_in (IrType-F.Array at len e) cs h = tt
  struct_in (IrType-F.Named name at) cs h = tt

  strings_in : (bytes : List ℕ) → AreIn (map init.Int bytes)
  strings_in [] = tt
  strings_in (b ∷ bs) = (tt, strings_in bs)

  abbrev values_of : Constant → List Value
  values_of c = fold-Constant (List Value) constant_level c

  abbrev bytes_of : Constant → List InitByte
  bytes_of c = fold-Constant (List InitByte) (bytes_level t) c

  abbrev IsFilled : Constant → Type 0
  IsFilled c = AllByRecursion (KnowsGlobals t) (values_of c) → AreIn (bytes_of c)

  parts_fill : (cs : List Constant) → AllByRecursion IsFilled cs → AllByRecursion (KnowsGlobals t) (flat_map (λ vs. vs) (map values_of cs)) → AllByRecursion AreIn (map bytes_of cs)
  parts_fill [] h k = tt
  parts_fill (c ∷ cs) h k = (h.0 (each_front (KnowsGlobals t) (values_of c) (flat_map (λ vs. vs) (map values_of cs)) k), parts_fill cs h.1 (each_back (KnowsGlobals t) (values_of c) (flat_map (λ vs. vs) (map values_of cs)) k))

  fills : (c : Constant) → IsFilled c
  fills =
      by_parts IsFilled
      (λ kind v h. subst AreIn (sym (fold_value (bytes_level t) kind v)) (padded_in (size_of t.types kind) (value_bytes t (head_of t.types kind) v.form) (value_in (head_of t.types kind) v.at v.form (subst (AllByRecursion (KnowsGlobals t)) (fold_value constant_level kind v) h).0)))
      (λ kind at bytes h. subst AreIn (sym (fold_bytes (bytes_level t) kind at bytes)) (strings_in bytes))
      (λ kind at cs C h. subst AreIn (sym (fold_array (bytes_level t) kind at cs)) (to_flat (InitIn globals) (λ (b : List InitByte). b) (map bytes_of cs) (parts_fill cs C (subst (AllByRecursion (KnowsGlobals t)) (fold_array constant_level kind at cs) h))))
      (λ kind at cs packed C h.
      subst AreIn (sym (fold_struct (bytes_level t) kind at cs packed))
      (padded_in (size_of t.types kind) (struct_bytes t (head_of t.types kind) (map bytes_of cs)) (struct_in (head_of t.types kind) (map bytes_of cs) (parts_fill cs C (subst (AllByRecursion (KnowsGlobals t)) (fold_struct constant_level kind at cs packed) h)))))

  bytes_in : (c : Constant) → AllByRecursion (KnowsGlobals t) (constant_values c) → AreIn (constant_bytes t c)
  unfolding constant_values constant_bytes
  bytes_in c h = fills c h

  pub global_whole : (g : GlobalDefinition) → AllByRecursion (IsSmall t.types) (constant_types g.value) → AllByRecursion (KnowsGlobals t) (constant_values g.value) → IsGlobalOf globals (global_var t g)
  global_whole g small known =
      let size = size_of t.types (kind_level (out-Constant g.value)) in
      let cut = length-take size (constant_bytes t g.value) in
      let le = min-le_left size (length (constant_bytes t g.value)) in
      record {
        small = first_kind (IsSmall t.types) g.value small;
        fits = omega (arith, cut, le);
        init = All-take (InitIn globals) size (constant_bytes t g.value) (All-from_recursion (InitIn globals) (constant_bytes t g.value) (bytes_in g.value known));
      }
