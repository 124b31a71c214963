-- Types, one level at a time: what is said of a type's bits and of the types in it.
use Rattle.std.proofs.Common.{◌≡◌, ℕ, ◌≤◌, ◌/◌, Bool, true, false, cond, ◌||◌, List, [], ◌∷◌, Some, None, min, refl, sym, ap, subst, ◌∙◌, arith, eqb-true}
use Rattle.std.specs.Prelude.{map, nat_le, ◌==◌}
use Rattle.std.specs.List.{AllByRecursion, flat_map}
use Rattle.std.proofs.lemmas.Bool.{leb-true, ltb-false}
use Rattle.std.proofs.Math.Nat.{min-le_right, div-le_self}
use Rattle.flat_ir.specs.declared.nodes.RegType.TheVariants as type
use Rattle.flat_ir.specs.Whole.{IsWidth as IsWide}
use Rattle.layout.specs.Layout.{int}
use Rattle.ir_tree.specs.declared.types.IrType.{IrType, fold-IrType, fold-roll-IrType, ind-IrType, map-IrType, roll-IrType, out-IrType, roll-out-IrType}
use Rattle.ir_tree.specs.declared.types.IrType.TheOpen.{IrType-F}
use Rattle.ir_tree.specs.declared.types.IrType.TheViews.{rolls-Array, rolls-Struct, rolls-Named, rolls-Int, rolls-Ptr, outs-Array, outs-Struct, outs-Named, outs-Int, outs-Ptr}
use Rattle.ir_tree.specs.declared.types.IrType.TheVariants as types
use Rattle.ir_tree.specs.declared.module.TypeDefinition.{TypeDefinition}
use Rattle.ir_tree.specs.Layout.{most, of_integer, level, name_within, extent}
use Rattle.ir_programs.specs.Parts.{Nested, nested_level, types_in, register_type, register_level}
use Rattle.ir_programs.specs.Types.{size_or_zero, size_of, place_level, is_too_large}
use Rattle.ir_programs.specs.Readable.{is_width, width_level, has_widths}
use Rattle.whole_programs.proofs.Lists.{left_true, right_true, cons_not_nil}

-- ---- by the variants

module _ (P : IrType → Type 0) (int_case : (n : ℕ) → P (types.Int n)) (ptr_case : P types.Ptr) (named_case : (name : List ℕ) (at : ℕ) → P (types.Named name at)) where
  pub by_variant : ((at len : ℕ) (e : IrType) → P (types.Array at len e)) → ((at : ℕ) (fields : List IrType) (packed : Bool) → P (types.Struct at fields packed)) → (t : IrType) → P t
  by_variant array_case struct_case t = subst P (roll-out-IrType t) (go (out-IrType t))
    where
      go : (x : IrType-F IrType) → P (roll-IrType x)
      go (IrType-F.Int n) = subst P (sym (rolls-Int n)) (int_case n)
      go IrType-F.Ptr = subst P (sym rolls-Ptr) ptr_case
      go (IrType-F.Array at len e) = subst P (sym (rolls-Array at len e)) (array_case at len e)
      go (IrType-F.Struct at fields packed) = subst P (sym (rolls-Struct at fields packed)) (struct_case at fields packed)
      go (IrType-F.Named name at) = subst P (sym (rolls-Named name at)) (named_case name at)

  parts_hold : (es : List ((t : IrType) × P t)) → AllByRecursion P (map (λ e. e.0) es)
  parts_hold [] = tt
  parts_hold (e ∷ es) = (e.1, parts_hold es)

  pub by_parts : ((at len : ℕ) (e : IrType) → P e → P (types.Array at len e)) → ((at : ℕ) (fields : List IrType) (packed : Bool) → AllByRecursion P fields → P (types.Struct at fields packed)) → (t : IrType) → P t
  by_parts array_case struct_case = ind-IrType P (λ x y is. subst (λ z. P (roll-IrType z)) is (go y))
    where
      go : (y : IrType-F ((t : IrType) × P t)) → P (roll-IrType (map-IrType ((t : IrType) × P t) IrType (λ e. e.0) y))
      go (IrType-F.Int n) = subst P (sym (rolls-Int n)) (int_case n)
      go IrType-F.Ptr = subst P (sym rolls-Ptr) ptr_case
      go (IrType-F.Array at len e) = subst P (sym (rolls-Array at len e.0)) (array_case at len e.0 e.1)
      go (IrType-F.Struct at fields packed) = subst P (sym (rolls-Struct at (map (λ e. e.0) fields) packed)) (struct_case at (map (λ e. e.0) fields) packed (parts_hold fields))
      go (IrType-F.Named name at) = subst P (sym (rolls-Named name at)) (named_case name at)

-- ---- folds

module _ {A : Type 0} (f : IrType-F A → A) where
  fold_array : (at len : ℕ) (e : IrType) → fold-IrType A f (types.Array at len e) ≡ f (IrType-F.Array at len (fold-IrType A f e))
  fold_array at len e = ap (fold-IrType A f) (sym (rolls-Array at len e)) ∙ fold-roll-IrType A f (IrType-F.Array at len e)

  fold_struct : (at : ℕ) (fields : List IrType) (packed : Bool) → fold-IrType A f (types.Struct at fields packed) ≡ f (IrType-F.Struct at (map (fold-IrType A f) fields) packed)
  fold_struct at fields packed = ap (fold-IrType A f) (sym (rolls-Struct at fields packed)) ∙ fold-roll-IrType A f (IrType-F.Struct at fields packed)

  fold_named : (name : List ℕ) (at : ℕ) → fold-IrType A f (types.Named name at) ≡ f (IrType-F.Named name at)
  fold_named name at = ap (fold-IrType A f) (sym (rolls-Named name at)) ∙ fold-roll-IrType A f (IrType-F.Named name at)

  fold_int : (n : ℕ) → fold-IrType A f (types.Int n) ≡ f (IrType-F.Int n)
  fold_int n = ap (fold-IrType A f) (sym (rolls-Int n)) ∙ fold-roll-IrType A f (IrType-F.Int n)

  fold_ptr : fold-IrType A f types.Ptr ≡ f IrType-F.Ptr
  fold_ptr = ap (fold-IrType A f) (sym rolls-Ptr) ∙ fold-roll-IrType A f IrType-F.Ptr

-- ---- a type is the first of the types in it

abbrev IsWhole : IrType → Type 0
IsWhole t = (fold-IrType Nested nested_level t).whole ≡ t

fields_whole : (fields : List IrType) → AllByRecursion IsWhole fields → map (λ (n : Nested). n.whole) (map (fold-IrType Nested nested_level) fields) ≡ fields
fields_whole [] h = refl
fields_whole (f ∷ fs) h = ap (λ x. x ∷ map (λ (n : Nested). n.whole) (map (fold-IrType Nested nested_level) fs)) h.0 ∙ ap (λ xs. f ∷ xs) (fields_whole fs h.1)

is_whole : (t : IrType) → IsWhole t
is_whole =
    by_parts IsWhole (λ n. ap (λ (x : Nested). x.whole) (fold_int nested_level n)) (ap (λ (x : Nested). x.whole) (fold_ptr nested_level)) (λ name at. ap (λ (x : Nested). x.whole) (fold_named nested_level name at))
    (λ at len e h. ap (λ (x : Nested). x.whole) (fold_array nested_level at len e) ∙ ap (types.Array at len) h)
    (λ at fields packed h. ap (λ (x : Nested). x.whole) (fold_struct nested_level at fields packed) ∙ ap (λ fs. types.Struct at fs packed) (fields_whole fields h))

abbrev HasFirst : Nested → Type 0
HasFirst n = (inner : List IrType) × (n.all ≡ n.whole ∷ inner)

level_begins : (x : IrType-F Nested) → HasFirst (nested_level x)
level_begins (IrType-F.Int n) = ([], refl)
level_begins IrType-F.Ptr = ([], refl)
level_begins (IrType-F.Array at len e) = (e.all, refl)
level_begins (IrType-F.Struct at fields packed) = (flat_map (λ (n : Nested). n.all) fields, refl)
level_begins (IrType-F.Named name at) = ([], refl)

begins : (t : IrType) → HasFirst (fold-IrType Nested nested_level t)
begins =
    by_variant (λ t. HasFirst (fold-IrType Nested nested_level t)) (λ n. subst HasFirst (sym (fold_int nested_level n)) (level_begins (IrType-F.Int n)))
    (subst HasFirst (sym (fold_ptr nested_level)) (level_begins IrType-F.Ptr)) (λ name at. subst HasFirst (sym (fold_named nested_level name at)) (level_begins (IrType-F.Named name at)))
    (λ at len e. subst HasFirst (sym (fold_array nested_level at len e)) (level_begins (IrType-F.Array at len (fold-IrType Nested nested_level e))))
    (λ at fields packed. subst HasFirst (sym (fold_struct nested_level at fields packed)) (level_begins (IrType-F.Struct at (map (fold-IrType Nested nested_level) fields) packed)))

pub itself : (P : IrType → Type 0) (t : IrType) → AllByRecursion P (types_in t) → P t
unfolding types_in
itself P t h = let b = begins t in subst P (is_whole t) (subst (AllByRecursion P) b.1 h).0

-- ---- bits

pub width_is : (n : ℕ) → is_width n ≡ true → IsWide (type.Int n)
width_is n h = (leb-true 1 n (left_true (nat_le 1 n) (nat_le n 64) h), leb-true n 64 (right_true (nat_le 1 n) (nat_le n 64) h))

abbrev IsRegister : IrType → Type 0
IsRegister t = has_widths t ≡ true → IsWide (register_type t)

pub register_is : (t : IrType) → has_widths t ≡ true → IsWide (register_type t)
unfolding has_widths
register_is =
    by_variant IsRegister (λ n h. subst (λ x. IsWide (register_level x)) (sym (outs-Int n)) (width_is n (sym (fold_int width_level n) ∙ h))) (λ h. subst (λ x. IsWide (register_level x)) (sym outs-Ptr) tt)
    (λ name at h. subst (λ x. IsWide (register_level x)) (sym (outs-Named name at)) tt) (λ at len e h. subst (λ x. IsWide (register_level x)) (sym (outs-Array at len e)) tt)
    (λ at fields packed h. subst (λ x. IsWide (register_level x)) (sym (outs-Struct at fields packed)) tt)

-- ---- sizes

abbrev pub IsSmall : List TypeDefinition → IrType → Type 0
IsSmall defined t = size_of defined t ≤ 65536

-- a type that is too large has a place
abbrev pub IsToldLarge : List TypeDefinition → IrType → Type 0
IsToldLarge defined t = is_too_large defined t ≡ true → place_level (out-IrType t) ≡ []

min_small : (a b : ℕ) → b ≤ 65536 → min a b ≤ 65536
min_small a b h = omega (arith, h, min-le_right a b)

integer_small : (n : ℕ) → size_or_zero (of_integer n) ≤ 65536
integer_small n = go (n == 8) (n == 16) (n == 32) (n == 64) refl refl refl refl
  where
    bytes : (k : ℕ) → k ≤ 64 → (n == k) ≡ true → n / 8 ≤ 65536
    bytes k le e = let same : n ≡ k = eqb-true n k e in omega (arith, le, same, div-le_self n 8)

    go : (a b c d : Bool) → (n == 8) ≡ a → (n == 16) ≡ b → (n == 32) ≡ c → (n == 64) ≡ d → size_or_zero (cond (a || b || c || d) (Some (int n)) None) ≤ 65536
    go true b c d qa qb qc qd = bytes 8 (omega arith) qa
    go false true c d qa qb qc qd = bytes 16 (omega arith) qb
    go false false true d qa qb qc qd = bytes 32 (omega arith) qc
    go false false false true qa qb qc qd = bytes 64 (omega arith) qd
    go false false false false qa qb qc qd = omega arith

placed_small : (defined : List TypeDefinition) (t : IrType) (at : ℕ) → place_level (out-IrType t) ≡ at ∷ [] → IsToldLarge defined t → IsSmall defined t
placed_small defined t at there told = go (is_too_large defined t) refl
  where
    go : (b : Bool) → is_too_large defined t ≡ b → IsSmall defined t
    go true q = absurd (cons_not_nil at [] (sym there ∙ told q))
    go false q = ltb-false 65536 (size_of defined t) q

pub small_is : (defined : List TypeDefinition) (t : IrType) → IsToldLarge defined t → IsSmall defined t
small_is defined =
    by_variant (λ t. IsToldLarge defined t → IsSmall defined t)
    (λ n told. min_small most (size_or_zero (extent defined (types.Int n))) (subst (λ e. size_or_zero e ≤ 65536) (sym (fold_int (level (name_within _ defined)) n)) (integer_small n)))
    (λ told. min_small most (size_or_zero (extent defined types.Ptr)) (subst (λ e. size_or_zero e ≤ 65536) (sym (fold_ptr (level (name_within _ defined)))) (omega arith)))
    (λ name at told. placed_small defined (types.Named name at) at (ap place_level (outs-Named name at)) told) (λ at len e told. placed_small defined (types.Array at len e) at (ap place_level (outs-Array at len e)) told)
    (λ at fields packed told. placed_small defined (types.Struct at fields packed) at (ap place_level (outs-Struct at fields packed)) told)
