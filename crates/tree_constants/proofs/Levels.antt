-- Constants one level at a time.
use Rattle.std.proofs.Common.{◌≡◌, ◌∙◌, ◌++◌, ◌+◌, ◌<◌, ℕ, suc, Bool, true, false, List, [], ◌∷◌, length, drop, get_or, map, refl, sym, ap}
use Rattle.std.specs.Prelude.{◌&&◌}
use Rattle.std.specs.List.{flat_map, list_all}
use Rattle.std.proofs.lemmas.List.Folds.{flat_map-map, list_all-map}
use Rattle.flat_ir.specs.declared.program.InitByte.{InitByte}
use Rattle.flat_ir.specs.declared.program.InitByte.TheVariants as init
use Rattle.ir_tree.specs.declared.types.IrType.{IrType, out-IrType, out-roll-IrType}
use Rattle.ir_tree.specs.declared.types.IrType.TheOpen.{IrType-F}
use Rattle.ir_tree.specs.declared.types.IrType.TheViews as type_views
use Rattle.ir_tree.specs.declared.types.IrType.TheVariants as types
use Rattle.ir_tree.specs.declared.constants.Constant.{Constant, fold-Constant, fold-roll-Constant, fold_out-Constant, map-Constant, out-Constant, out-roll-Constant}
use Rattle.ir_tree.specs.declared.constants.Constant.TheOpen.{Constant-F}
use Rattle.ir_tree.specs.declared.constants.Constant.TheViews as views
use Rattle.ir_tree.specs.declared.constants.Constant.TheVariants as constants
use Rattle.ir_tree.specs.declared.constants.Value.{Value}
use Rattle.ir_tree.specs.declared.module.IrTree.{IrTree}
use Rattle.ir_tree.specs.declared.module.TypeDefinition.{TypeDefinition}
use Rattle.ir_programs.specs.Constants.{Judged, judged_level, are_all, are_each, bad_constants, bad_value, head_of, is_array_of, is_string_of, is_struct_of, or_within, unless_fits}
use Rattle.ir_programs.specs.Parts.{constant_level, constant_values}
use Rattle.ir_programs.specs.Programs.{bytes_level, constant_bytes, kind_level, padded, value_bytes, struct_bytes}
use Rattle.ir_programs.specs.Readable.{readable_level, is_readable_constant, is_readable_value, has_widths}
use Rattle.ir_programs.specs.Types.{is_one_type, size_of}
use Rattle.tree_constants.specs.Judging.{judged}
use Rattle.tree_constants.proofs.OneByOne.{rest_less}

-- ---- types

pub out_int : (t : IrType) (n : ℕ) → t ≡ types.Int n → out-IrType t ≡ IrType-F.Int n
out_int t n e = ap out-IrType (e ∙ sym (type_views.rolls-Int n)) ∙ out-roll-IrType (IrType-F.Int n)

pub out_ptr : (t : IrType) → t ≡ types.Ptr → out-IrType t ≡ IrType-F.Ptr
out_ptr t e = ap out-IrType (e ∙ sym type_views.rolls-Ptr) ∙ out-roll-IrType IrType-F.Ptr

pub out_array : (t : IrType) (at len : ℕ) (element : IrType) → t ≡ types.Array at len element → out-IrType t ≡ IrType-F.Array at len element
out_array t at len element e = ap out-IrType (e ∙ sym (type_views.rolls-Array at len element)) ∙ out-roll-IrType (IrType-F.Array at len element)

pub out_struct : (t : IrType) (at : ℕ) (fields : List IrType) (packed : Bool) → t ≡ types.Struct at fields packed → out-IrType t ≡ IrType-F.Struct at fields packed
out_struct t at fields packed e = ap out-IrType (e ∙ sym (type_views.rolls-Struct at fields packed)) ∙ out-roll-IrType (IrType-F.Struct at fields packed)

-- ---- constants

module _ {A : Type 0} (f : Constant-F A → A) where
  pub fold_value : (c : Constant) (kind : IrType) (value : Value) → c ≡ constants.Value kind value → fold-Constant A f c ≡ f (Constant-F.Value kind value)
  fold_value c kind value e = ap (fold-Constant A f) (e ∙ sym (views.rolls-Value kind value)) ∙ fold-roll-Constant A f (Constant-F.Value kind value)

  pub fold_bytes : (c : Constant) (kind : IrType) (at : ℕ) (bytes : List ℕ) → c ≡ constants.Bytes kind at bytes → fold-Constant A f c ≡ f (Constant-F.Bytes kind at bytes)
  fold_bytes c kind at bytes e = ap (fold-Constant A f) (e ∙ sym (views.rolls-Bytes kind at bytes)) ∙ fold-roll-Constant A f (Constant-F.Bytes kind at bytes)

  pub fold_array : (c : Constant) (kind : IrType) (at : ℕ) (cs : List Constant) → c ≡ constants.Array kind at cs → fold-Constant A f c ≡ f (Constant-F.Array kind at (map (fold-Constant A f) cs))
  fold_array c kind at cs e = ap (fold-Constant A f) (e ∙ sym (views.rolls-Array kind at cs)) ∙ fold-roll-Constant A f (Constant-F.Array kind at cs)

  pub fold_struct : (c : Constant) (kind : IrType) (at : ℕ) (cs : List Constant) (packed : Bool) → c ≡ constants.Struct kind at cs packed → fold-Constant A f c ≡ f (Constant-F.Struct kind at (map (fold-Constant A f) cs) packed)
  fold_struct c kind at cs packed e = ap (fold-Constant A f) (e ∙ sym (views.rolls-Struct kind at cs packed)) ∙ fold-roll-Constant A f (Constant-F.Struct kind at cs packed)

pub kind_value : (c : Constant) (kind : IrType) (value : Value) → c ≡ constants.Value kind value → kind ≡ kind_level (out-Constant c)
kind_value c kind value e = sym (ap kind_level (ap out-Constant (e ∙ sym (views.rolls-Value kind value)) ∙ out-roll-Constant (Constant-F.Value kind value)))

pub kind_bytes : (c : Constant) (kind : IrType) (at : ℕ) (bytes : List ℕ) → c ≡ constants.Bytes kind at bytes → kind ≡ kind_level (out-Constant c)
kind_bytes c kind at bytes e = sym (ap kind_level (ap out-Constant (e ∙ sym (views.rolls-Bytes kind at bytes)) ∙ out-roll-Constant (Constant-F.Bytes kind at bytes)))

pub kind_array : (c : Constant) (kind : IrType) (at : ℕ) (cs : List Constant) → c ≡ constants.Array kind at cs → kind ≡ kind_level (out-Constant c)
kind_array c kind at cs e = sym (ap kind_level (ap out-Constant (e ∙ sym (views.rolls-Array kind at cs)) ∙ out-roll-Constant (Constant-F.Array kind at cs)))

pub kind_struct : (c : Constant) (kind : IrType) (at : ℕ) (cs : List Constant) (packed : Bool) → c ≡ constants.Struct kind at cs packed → kind ≡ kind_level (out-Constant c)
kind_struct c kind at cs packed e = sym (ap kind_level (ap out-Constant (e ∙ sym (views.rolls-Struct kind at cs packed)) ∙ out-roll-Constant (Constant-F.Struct kind at cs packed)))

-- ---- their values

pub values_value : (c : Constant) (kind : IrType) (value : Value) → c ≡ constants.Value kind value → constant_values c ≡ value ∷ []
unfolding constant_values
values_value c kind value e = fold_value constant_level c kind value e

pub values_bytes : (c : Constant) (kind : IrType) (at : ℕ) (bytes : List ℕ) → c ≡ constants.Bytes kind at bytes → constant_values c ≡ []
unfolding constant_values
values_bytes c kind at bytes e = fold_bytes constant_level c kind at bytes e

flat : (cs : List Constant) → flat_map (λ (vs : List Value). vs) (map constant_values cs) ≡ flat_map constant_values cs
flat cs = flat_map-map (λ (vs : List Value). vs) constant_values cs

pub values_array : (c : Constant) (kind : IrType) (at : ℕ) (cs : List Constant) → c ≡ constants.Array kind at cs → constant_values c ≡ flat_map constant_values cs
unfolding constant_values flat
values_array c kind at cs e = fold_array constant_level c kind at cs e ∙ flat cs

pub values_struct : (c : Constant) (kind : IrType) (at : ℕ) (cs : List Constant) (packed : Bool) → c ≡ constants.Struct kind at cs packed → constant_values c ≡ flat_map constant_values cs
unfolding constant_values flat
values_struct c kind at cs packed e = fold_struct constant_level c kind at cs packed e ∙ flat cs

-- ---- where they don't fit

module _ (ts : List TypeDefinition) where
  pub judged_value : (c : Constant) (kind : IrType) (value : Value) → c ≡ constants.Value kind value → judged ts c ≡ judged_level ts (Constant-F.Value kind value)
  unfolding judged
  judged_value c kind value e = fold_value (judged_level ts) c kind value e

  pub judged_bytes : (c : Constant) (kind : IrType) (at : ℕ) (bytes : List ℕ) → c ≡ constants.Bytes kind at bytes → judged ts c ≡ judged_level ts (Constant-F.Bytes kind at bytes)
  unfolding judged
  judged_bytes c kind at bytes e = fold_bytes (judged_level ts) c kind at bytes e

  pub judged_array : (c : Constant) (kind : IrType) (at : ℕ) (cs : List Constant) → c ≡ constants.Array kind at cs → judged ts c ≡ judged_level ts (Constant-F.Array kind at (map (judged ts) cs))
  unfolding judged
  judged_array c kind at cs e = fold_array (judged_level ts) c kind at cs e

  pub judged_struct : (c : Constant) (kind : IrType) (at : ℕ) (cs : List Constant) (packed : Bool) → c ≡ constants.Struct kind at cs packed → judged ts c ≡ judged_level ts (Constant-F.Struct kind at (map (judged ts) cs) packed)
  unfolding judged
  judged_struct c kind at cs packed e = fold_struct (judged_level ts) c kind at cs packed e

  pub bad_is : (c : Constant) → bad_constants ts c ≡ (judged ts c).bad
  unfolding judged bad_constants
  bad_is c = refl

  all_bad : (cs : List Constant) → flat_map (λ (j : Judged). j.bad) (map (judged ts) cs) ≡ flat_map (bad_constants ts) cs
  all_bad [] = refl
  all_bad (c ∷ cs) = ap (λ (r : List ℕ). (judged ts c).bad ++ r) (all_bad cs) ∙ ap (λ (l : List ℕ). l ++ flat_map (bad_constants ts) cs) (sym (bad_is c))

  pub bad_of_value : (c : Constant) (kind : IrType) (value : Value) → c ≡ constants.Value kind value → bad_constants ts c ≡ bad_value ts (head_of ts kind) value
  bad_of_value c kind value e = bad_is c ∙ ap (λ (j : Judged). j.bad) (judged_value c kind value e)

  pub bad_of_bytes : (c : Constant) (kind : IrType) (at : ℕ) (bytes : List ℕ) → c ≡ constants.Bytes kind at bytes → bad_constants ts c ≡ unless_fits (is_string_of ts (head_of ts kind) bytes) at
  bad_of_bytes c kind at bytes e = bad_is c ∙ ap (λ (j : Judged). j.bad) (judged_bytes c kind at bytes e)

  pub bad_of_array : (c : Constant) (kind : IrType) (at : ℕ) (cs : List Constant) → c ≡ constants.Array kind at cs →
      bad_constants ts c ≡ or_within (unless_fits (is_array_of ts (head_of ts kind) (map (judged ts) cs)) at) (flat_map (bad_constants ts) cs)
  bad_of_array c kind at cs e =
      bad_is c ∙ (ap (λ (j : Judged). j.bad) (judged_array c kind at cs e) ∙ ap (or_within (unless_fits (is_array_of ts (head_of ts kind) (map (judged ts) cs)) at)) (all_bad cs))

  pub bad_of_struct : (c : Constant) (kind : IrType) (at : ℕ) (cs : List Constant) (packed : Bool) → c ≡ constants.Struct kind at cs packed →
      bad_constants ts c ≡ or_within (unless_fits (is_struct_of ts (head_of ts kind) packed (map (judged ts) cs)) at) (flat_map (bad_constants ts) cs)
  bad_of_struct c kind at cs packed e =
      bad_is c ∙ (ap (λ (j : Judged). j.bad) (judged_struct c kind at cs packed e) ∙ ap (or_within (unless_fits (is_struct_of ts (head_of ts kind) packed (map (judged ts) cs)) at)) (all_bad cs))

-- ---- their bytes

flat_bytes : (t : IrTree) (cs : List Constant) → flat_map (λ (c : List InitByte). c) (map (constant_bytes t) cs) ≡ flat_map (constant_bytes t) cs
flat_bytes t cs = flat_map-map (λ (c : List InitByte). c) (constant_bytes t) cs

module _ (t : IrTree) where
  pub bytes_value : (c : Constant) (kind : IrType) (value : Value) → c ≡ constants.Value kind value → constant_bytes t c ≡ padded (size_of t.types kind) (value_bytes t (head_of t.types kind) value.form)
  unfolding constant_bytes
  bytes_value c kind value e = fold_value (bytes_level t) c kind value e

  pub bytes_bytes : (c : Constant) (kind : IrType) (at : ℕ) (bytes : List ℕ) → c ≡ constants.Bytes kind at bytes → constant_bytes t c ≡ map init.Int bytes
  unfolding constant_bytes
  bytes_bytes c kind at bytes e = fold_bytes (bytes_level t) c kind at bytes e

  pub bytes_array : (c : Constant) (kind : IrType) (at : ℕ) (cs : List Constant) → c ≡ constants.Array kind at cs → constant_bytes t c ≡ flat_map (constant_bytes t) cs
  unfolding constant_bytes flat_bytes
  bytes_array c kind at cs e = fold_array (bytes_level t) c kind at cs e ∙ flat_bytes t cs

  pub bytes_struct : (c : Constant) (kind : IrType) (at : ℕ) (cs : List Constant) (packed : Bool) → c ≡ constants.Struct kind at cs packed →
      constant_bytes t c ≡ padded (size_of t.types kind) (struct_bytes t (head_of t.types kind) (map (constant_bytes t) cs))
  unfolding constant_bytes
  bytes_struct c kind at cs packed e = fold_struct (bytes_level t) c kind at cs packed e

-- ---- what has its widths

pub both_left : (a b : Bool) → (a && b) ≡ true → a ≡ true
both_left true b e = refl
both_left false b e = e

pub both_right : (a b : Bool) → (a && b) ≡ true → b ≡ true
both_right true b e = e
both_right false b e = absurd (no e)
  where
    no : false ≡ true → ⊥
    no q = cc

all_readable : (cs : List Constant) → list_all (λ (b : Bool). b) (map is_readable_constant cs) ≡ list_all is_readable_constant cs
all_readable cs = list_all-map (λ (b : Bool). b) is_readable_constant cs

pub readable_value : (c : Constant) (kind : IrType) (value : Value) → c ≡ constants.Value kind value → is_readable_constant c ≡ (has_widths kind && is_readable_value value)
unfolding is_readable_constant
readable_value c kind value e = fold_value readable_level c kind value e

pub readable_array : (c : Constant) (kind : IrType) (at : ℕ) (cs : List Constant) → c ≡ constants.Array kind at cs → is_readable_constant c ≡ (has_widths kind && list_all is_readable_constant cs)
unfolding is_readable_constant all_readable
readable_array c kind at cs e = fold_array readable_level c kind at cs e ∙ ap (λ (b : Bool). has_widths kind && b) (all_readable cs)

pub readable_struct : (c : Constant) (kind : IrType) (at : ℕ) (cs : List Constant) (packed : Bool) → c ≡ constants.Struct kind at cs packed → is_readable_constant c ≡ (has_widths kind && list_all is_readable_constant cs)
unfolding is_readable_constant all_readable
readable_struct c kind at cs packed e = fold_struct readable_level c kind at cs packed e ∙ ap (λ (b : Bool). has_widths kind && b) (all_readable cs)

-- one of a list of which all pass
pub passes_at : {A : Type 0} (p : A → Bool) (xs ys : List A) (x : A) → list_all p xs ≡ true → xs ≡ x ∷ ys → p x ≡ true
passes_at p xs ys x h e = both_left (p x) (list_all p ys) (sym (ap (list_all p) e) ∙ h)

pub passes_on : {A : Type 0} (p : A → Bool) (xs ys : List A) (x : A) → list_all p xs ≡ true → xs ≡ x ∷ ys → list_all p ys ≡ true
passes_on p xs ys x h e = both_right (p x) (list_all p ys) (sym (ap (list_all p) e) ∙ h)

-- one that stands at a place from which on all pass
pub passes_in : {A : Type 0} (p : A → Bool) (xs : List A) (i : ℕ) (x : A) → i < length xs → x ≡ get_or xs i x → list_all p (drop i xs) ≡ true → p x ≡ true
passes_in p xs i x lt is h = passes_at p (drop i xs) (drop (i + 1) xs) x h (rest_less xs i x lt is)

pub readable_elements : (c : Constant) (kind : IrType) (at : ℕ) (cs slice : List Constant) → slice ≡ cs → c ≡ constants.Array kind at cs → is_readable_constant c ≡ true → list_all is_readable_constant slice ≡ true
readable_elements c kind at cs slice same e h =
    ap (list_all is_readable_constant) same ∙ both_right (has_widths kind) (list_all is_readable_constant cs) (sym (readable_array c kind at cs e) ∙ h)

pub readable_fields : (c : Constant) (kind : IrType) (at : ℕ) (cs slice : List Constant) (packed : Bool) → slice ≡ cs → c ≡ constants.Struct kind at cs packed → is_readable_constant c ≡ true →
    list_all is_readable_constant slice ≡ true
readable_fields c kind at cs slice packed same e h =
    ap (list_all is_readable_constant) same ∙ both_right (has_widths kind) (list_all is_readable_constant cs) (sym (readable_struct c kind at cs packed e) ∙ h)

-- ---- types of constants

module _ (ts : List TypeDefinition) where
  level_kind : (l : Constant-F Constant) → (judged_level ts (map-Constant Constant Judged (judged ts) l)).kind ≡ kind_level l
  level_kind (Constant-F.Value kind value) = refl
  level_kind (Constant-F.Bytes kind at bytes) = refl
  level_kind (Constant-F.Array kind at elements) = refl
  level_kind (Constant-F.Struct kind at fields packed) = refl

  judged_kind : (c : Constant) → (judged ts c).kind ≡ kind_level (out-Constant c)
  unfolding judged level_kind
  judged_kind c = ap (λ (j : Judged). j.kind) (fold_out-Constant Judged (judged_level ts) c) ∙ level_kind (out-Constant c)

  module _ (cs : List Constant) (i : ℕ) (c : Constant) (k : IrType) (lt : i < length cs) (is : c ≡ get_or cs i c) (ke : k ≡ kind_level (out-Constant c)) (one whole : Bool) where
    module _ (t : IrType) (oe : one ≡ is_one_type ts t k) (we : whole ≡ are_all ts t (map (judged ts) (drop i cs))) where
      all_here : whole ≡ (one && are_all ts t (map (judged ts) (drop (i + 1) cs)))
      all_here =
          we ∙ (ap (λ (xs : List Constant). are_all ts t (map (judged ts) xs)) (rest_less cs i c lt is)
          ∙ (ap (λ (u : IrType). is_one_type ts t u && are_all ts t (map (judged ts) (drop (i + 1) cs))) (judged_kind c ∙ sym ke)
          ∙ ap (λ (b : Bool). b && are_all ts t (map (judged ts) (drop (i + 1) cs))) (sym oe)))

      pub all_on : one ≡ true → whole ≡ are_all ts t (map (judged ts) (drop (i + 1) cs))
      all_on e = all_here ∙ ap (λ (b : Bool). b && are_all ts t (map (judged ts) (drop (i + 1) cs))) e

      pub all_off : one ≡ false → false ≡ whole
      all_off e = sym (all_here ∙ ap (λ (b : Bool). b && are_all ts t (map (judged ts) (drop (i + 1) cs))) e)

    module _ (fs : List IrType) (f : IrType) (short : i < length fs) (at : f ≡ get_or fs i f) (oe : one ≡ is_one_type ts f k) (we : whole ≡ are_each ts (drop i fs) (map (judged ts) (drop i cs))) where
      each_here : whole ≡ (one && are_each ts (drop (i + 1) fs) (map (judged ts) (drop (i + 1) cs)))
      each_here =
          we ∙ (ap (λ (us : List IrType). are_each ts us (map (judged ts) (drop i cs))) (rest_less fs i f short at)
          ∙ (ap (λ (xs : List Constant). are_each ts (f ∷ drop (i + 1) fs) (map (judged ts) xs)) (rest_less cs i c lt is)
          ∙ (ap (λ (u : IrType). is_one_type ts f u && are_each ts (drop (i + 1) fs) (map (judged ts) (drop (i + 1) cs))) (judged_kind c ∙ sym ke)
          ∙ ap (λ (b : Bool). b && are_each ts (drop (i + 1) fs) (map (judged ts) (drop (i + 1) cs))) (sym oe))))

      pub each_on : one ≡ true → whole ≡ are_each ts (drop (i + 1) fs) (map (judged ts) (drop (i + 1) cs))
      each_on e = each_here ∙ ap (λ (b : Bool). b && are_each ts (drop (i + 1) fs) (map (judged ts) (drop (i + 1) cs))) e

      pub each_off : one ≡ false → false ≡ whole
      each_off e = sym (each_here ∙ ap (λ (b : Bool). b && are_each ts (drop (i + 1) fs) (map (judged ts) (drop (i + 1) cs))) e)

  false_right : (b : Bool) → (b && false) ≡ false
  false_right true = refl
  false_right false = refl

  pub uneven : (fs : List IrType) (js : List Judged) → (length fs ≡ length js → ⊥) → are_each ts fs js ≡ false
  uneven [] [] differ = absurd (differ refl)
  uneven [] (j ∷ js) differ = refl
  uneven (f ∷ fs) [] differ = refl
  uneven (f ∷ fs) (j ∷ js) differ = ap (λ (b : Bool). is_one_type ts f j.kind && b) (uneven fs js (λ e. differ (ap suc e))) ∙ false_right (is_one_type ts f j.kind)
