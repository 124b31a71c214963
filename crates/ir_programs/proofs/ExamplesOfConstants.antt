-- Worked examples: constants of globals, their bytes, and constant pointers.
use Rattle.std.proofs.Common.{◌≡◌, ◌∙◌, ℕ, Bool, true, false, List, [], ◌∷◌, sym, ap, map}
use Rattle.std.specs.Prelude.{codes}
use Rattle.std.specs.Fmt.{digits}
use Rattle.flat_ir.specs.declared.program.InitByte.TheVariants as init
use Rattle.ir_tree.specs.Layout.{level, name_within}
use Rattle.ir_tree.specs.declared.types.IrType.{IrType, out-IrType, fold-IrType, fold-roll-IrType, out-roll-IrType}
use Rattle.ir_tree.specs.declared.types.IrType.TheOpen.{IrType-F}
use Rattle.ir_tree.specs.declared.types.IrType.TheViews.{rolls-Int, rolls-Struct}
use Rattle.ir_tree.specs.declared.types.IrType.TheVariants as types
use Rattle.ir_tree.specs.declared.constants.Constant.{Constant, fold-Constant, fold-roll-Constant}
use Rattle.ir_tree.specs.declared.constants.Constant.TheOpen.{Constant-F}
use Rattle.ir_tree.specs.declared.constants.Constant.TheViews as views
use Rattle.ir_tree.specs.declared.constants.Constant.TheVariants as constants
use Rattle.ir_tree.specs.declared.constants.Integer.{Integer}
use Rattle.ir_tree.specs.declared.constants.Value.{Value}
use Rattle.ir_tree.specs.declared.constants.ValueForm.TheVariants as forms
use Rattle.ir_tree.specs.declared.constants.ConstGep.{ConstGep}
use Rattle.ir_tree.proofs.Spelled.{int_tokens}
use Rattle.ir_programs.specs.Types.{expanded, expanded_level, expanded_name}
use Rattle.ir_programs.specs.Constants.{Judged, judged_level, bad_constants, head_within}
use Rattle.ir_programs.specs.Addresses.{gep_offset}
use Rattle.ir_programs.specs.Programs.{bytes_level, constant_bytes}
use Rattle.ir_programs.proofs.SmallTrees.{out_int, named, only}

-- ---- one level at a time

out_struct : (at : ℕ) (fields : List IrType) (packed : Bool) → out-IrType (types.Struct at fields packed) ≡ IrType-F.Struct at fields packed
out_struct at fields packed = ap out-IrType (sym (rolls-Struct at fields packed)) ∙ out-roll-IrType (IrType-F.Struct at fields packed)

module _ {A : Type 0} (f : IrType-F A → A) where
  fold_int : (n : ℕ) → fold-IrType A f (types.Int n) ≡ f (IrType-F.Int n)
  fold_int n = ap (fold-IrType A f) (sym (rolls-Int n)) ∙ fold-roll-IrType A f (IrType-F.Int n)

  fold_struct : (at : ℕ) (fields : List IrType) (packed : Bool) → fold-IrType A f (types.Struct at fields packed) ≡ f (IrType-F.Struct at (map (fold-IrType A f) fields) packed)
  fold_struct at fields packed = ap (fold-IrType A f) (sym (rolls-Struct at fields packed)) ∙ fold-roll-IrType A f (IrType-F.Struct at fields packed)

module _ {A : Type 0} (f : Constant-F A → A) where
  fold_value : (kind : IrType) (value : Value) → fold-Constant A f (constants.Value kind value) ≡ f (Constant-F.Value kind value)
  fold_value kind value = ap (fold-Constant A f) (sym (views.rolls-Value kind value)) ∙ fold-roll-Constant A f (Constant-F.Value kind value)

  fold_fields : (kind : IrType) (at : ℕ) (cs : List Constant) (packed : Bool) → fold-Constant A f (constants.Struct kind at cs packed) ≡ f (Constant-F.Struct kind at (map (fold-Constant A f) cs) packed)
  fold_fields kind at cs packed = ap (fold-Constant A f) (sym (views.rolls-Struct kind at cs packed)) ∙ fold-roll-Constant A f (Constant-F.Struct kind at (cs) packed)

expanded_int : (n : ℕ) → expanded [] (types.Int n) ≡ types.Int n
unfolding expanded
expanded_int n = fold_int (expanded_level (expanded_name 0 [])) n

-- ---- a struct of a number and a byte

abbrev plus : ℕ → Integer
plus n = record { negative = false; magnitude = n }

abbrev minus : ℕ → Integer
minus n = record { negative = true; magnitude = n }

-- a number at a place
abbrev number_at : ℕ → IrType → ℕ → Constant
number_at at kind n = constants.Value kind (record { at = at; form = forms.Int (plus n) })

abbrev pair : IrType
pair = types.Struct 10 (types.Int 32 ∷ types.Int 8 ∷ []) false

abbrev pair_of : Constant → Constant → Constant
pair_of a b = constants.Struct pair 20 (a ∷ b ∷ []) false

judged : Constant → Judged
judged c = fold-Constant Judged (judged_level []) c

-- what is found in a constant is found by judging it
bad_of : (c : Constant) (bad : List ℕ) → judged c ≡ record { kind = pair; bad = bad } → bad_constants [] c ≡ bad
unfolding bad_constants judged
bad_of c bad e = ap (λ (j : Judged). j.bad) e

a_pair : judged (pair_of (number_at 25 (types.Int 32) 2) (number_at 30 (types.Int 8) 3)) ≡ record { kind = pair; bad = [] }
unfolding judged head_within digits
a_pair = simp (fold_fields (judged_level []), fold_value (judged_level []), out_struct, out_int, expanded_int, int_tokens)

a_pair_fits : bad_constants [] (pair_of (number_at 25 (types.Int 32) 2) (number_at 30 (types.Int 8) 3)) ≡ []
a_pair_fits = bad_of (pair_of (number_at 25 (types.Int 32) 2) (number_at 30 (types.Int 8) 3)) [] a_pair

great : judged (pair_of (number_at 25 (types.Int 32) 2) (number_at 30 (types.Int 8) 300)) ≡ record { kind = pair; bad = 30 ∷ [] }
unfolding judged head_within
great = simp (fold_fields (judged_level []), fold_value (judged_level []), out_struct, out_int, expanded_int)

-- a byte that is too great is told where it stands
a_great_byte : bad_constants [] (pair_of (number_at 25 (types.Int 32) 2) (number_at 30 (types.Int 8) 300)) ≡ 30 ∷ []
a_great_byte = bad_of (pair_of (number_at 25 (types.Int 32) 2) (number_at 30 (types.Int 8) 300)) (30 ∷ []) great

turned : judged (pair_of (number_at 25 (types.Int 8) 2) (number_at 30 (types.Int 32) 3)) ≡ record { kind = pair; bad = 20 ∷ [] }
unfolding judged head_within digits
turned = simp (fold_fields (judged_level []), fold_value (judged_level []), out_struct, out_int, expanded_int, int_tokens)

-- fields in another order are told where the struct begins
other_fields : bad_constants [] (pair_of (number_at 25 (types.Int 8) 2) (number_at 30 (types.Int 32) 3)) ≡ 20 ∷ []
other_fields = bad_of (pair_of (number_at 25 (types.Int 8) 2) (number_at 30 (types.Int 32) 3)) (20 ∷ []) turned

-- the number, the lowest byte first, the byte, and three bytes of a gap
its_bytes : constant_bytes (only []) (pair_of (number_at 25 (types.Int 32) 258) (number_at 30 (types.Int 8) 3))
    ≡ init.Int 2 ∷ init.Int 1 ∷ init.Int 0 ∷ init.Int 0 ∷ init.Int 3 ∷ init.Int 0 ∷ init.Int 0 ∷ init.Int 0 ∷ []
unfolding constant_bytes head_within
its_bytes =
    simp (fold_fields (bytes_level (only [])), fold_value (bytes_level (only [])), out_struct, out_int, fold_struct (level (name_within 0 [])), fold_int (level (name_within 0 [])))

-- ---- constant pointers

-- behind so many pairs, the second field
abbrev second_of : Integer → ConstGep
second_of n = record {
  levels = record { at = 0; source = pair; indices = record { width = 64; value = n; at = 0 } ∷ record { width = 32; value = plus 1; at = 0 } ∷ [] } ∷ [];
  base = named (codes "g");
}

behind_one_pair : gep_offset [] (second_of (plus 1)) ≡ 12
unfolding head_within
behind_one_pair = simp (out_struct, fold_struct (level (name_within 0 [])), fold_int (level (name_within 0 [])))

-- before the pointer: 4 bytes less, modulo 2 ^ 64
before_one_pair : gep_offset [] (second_of (minus 1)) ≡ 18446744073709551612
unfolding head_within
before_one_pair = simp (out_struct, fold_struct (level (name_within 0 [])), fold_int (level (name_within 0 [])))
