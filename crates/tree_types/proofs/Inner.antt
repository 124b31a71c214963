-- The types within a type.
use Rattle.std.proofs.Common.{◌≡◌, ◌∙◌, ℕ, Bool, List, [], ◌∷◌, ◌++◌, map, refl, sym, ap, subst, append_assoc}
use Rattle.std.specs.List.{flat_map}
use Rattle.ir_tree.specs.declared.types.IrType.{IrType, fold-IrType, out-IrType, fold-roll-IrType, ind-IrType, roll-IrType, map-IrType}
use Rattle.ir_tree.specs.declared.types.IrType.TheOpen.{IrType-F}
use Rattle.ir_tree.specs.declared.types.IrType.TheViews.{rolls-Array, rolls-Struct, rolls-Named, rolls-Int, rolls-Ptr}
use Rattle.ir_tree.specs.declared.types.IrType.TheVariants as types
use Rattle.ir_programs.specs.Parts.{Nested, nested_level, types_in}
use Rattle.tree_types.proofs.Extents.{fold_int, fold_ptr, fold_array, fold_struct, fold_named}
use Rattle.tree_types.proofs.Spelled.{rolled}

abbrev folded : IrType → Nested
folded t = fold-IrType Nested nested_level t

-- ---- the whole of a type is the type

abbrev IsWhole : Type 0
IsWhole = (t : IrType) × ((folded t).whole ≡ t)

wholes : (ts : List IsWhole) → map (λ n. n.whole) (map folded (map (λ e. e.0) ts)) ≡ map (λ e. e.0) ts
wholes [] = refl
wholes (e ∷ es) = ap (λ t. t ∷ map (λ n. n.whole) (map folded (map (λ x. x.0) es))) e.1 ∙ ap (λ ts. e.0 ∷ ts) (wholes es)

level_whole : (y : IrType-F IsWhole) → (nested_level (map-IrType IrType Nested folded (map-IrType IsWhole IrType (λ e. e.0) y))).whole ≡ roll-IrType (map-IrType IsWhole IrType (λ e. e.0) y)
level_whole (IrType-F.Int width) = sym (rolls-Int width)
level_whole IrType-F.Ptr = sym rolls-Ptr
level_whole (IrType-F.Array at len e) = ap (types.Array at len) e.1 ∙ sym (rolls-Array at len e.0)
level_whole (IrType-F.Struct at fields packed) = ap (λ ts. types.Struct at ts packed) (wholes fields) ∙ sym (rolls-Struct at (map (λ e. e.0) fields) packed)
level_whole (IrType-F.Named name at) = sym (rolls-Named name at)

whole_is : (t : IrType) → (folded t).whole ≡ t
whole_is = ind-IrType (λ t. (folded t).whole ≡ t) (λ x y is.
    ap (λ n. n.whole) (fold-roll-IrType Nested nested_level x) ∙ subst (λ z. (nested_level (map-IrType IrType Nested folded z)).whole ≡ roll-IrType z) is (level_whole y))

map_whole : (ts : List IrType) → map (λ n. n.whole) (map folded ts) ≡ ts
map_whole [] = refl
map_whole (t ∷ ts) = ap (λ x. x ∷ map (λ n. n.whole) (map folded ts)) (whole_is t) ∙ ap (λ xs. t ∷ xs) (map_whole ts)

all_within : (ts : List IrType) → flat_map (λ n. n.all) (map folded ts) ≡ flat_map types_in ts
unfolding types_in
all_within [] = refl
all_within (t ∷ ts) = ap (λ xs. (folded t).all ++ xs) (all_within ts)

-- ---- one level at a time

pub in_int : (w : ℕ) → types_in (types.Int w) ≡ types.Int w ∷ []
unfolding types_in
in_int w = ap (λ n. n.all) (fold_int nested_level w)

pub in_ptr : types_in types.Ptr ≡ types.Ptr ∷ []
unfolding types_in
in_ptr = ap (λ n. n.all) (fold_ptr nested_level)

pub in_array : (at len : ℕ) (e : IrType) → types_in (types.Array at len e) ≡ types.Array at len e ∷ types_in e
unfolding types_in
in_array at len e = ap (λ n. n.all) (fold_array nested_level at len e) ∙ ap (λ t. types.Array at len t ∷ (folded e).all) (whole_is e)

whole_struct : (at : ℕ) (fs : List IrType) (p : Bool) → types_in (types.Struct at fs p) ≡ types.Struct at (map (λ n. n.whole) (map folded fs)) p ∷ flat_map (λ n. n.all) (map folded fs)
unfolding types_in
whole_struct at fs p = ap (λ n. n.all) (fold_struct nested_level at fs p)

pub in_struct : (at : ℕ) (fs : List IrType) (p : Bool) → types_in (types.Struct at fs p) ≡ types.Struct at fs p ∷ flat_map types_in fs
in_struct at fs p = whole_struct at fs p ∙ (ap (λ ts. types.Struct at ts p ∷ flat_map (λ n. n.all) (map folded fs)) (map_whole fs) ∙ ap (λ xs. types.Struct at fs p ∷ xs) (all_within fs))

pub in_named : (name : List ℕ) (at : ℕ) → types_in (types.Named name at) ≡ types.Named name at ∷ []
unfolding types_in
in_named name at = ap (λ n. n.all) (fold_named nested_level name at)

-- a type within which there are none
pub in_default : (t : IrType) → ((at len : ℕ) (e : IrType) → t ≡ types.Array at len e → ⊥) → ((at : ℕ) (fs : List IrType) (p : Bool) → t ≡ types.Struct at fs p → ⊥) → types_in t ≡ t ∷ []
in_default t no_array no_struct = go (out-IrType t) (rolled t)
  where
    go : (l : IrType-F IrType) → roll-IrType l ≡ t → types_in t ≡ t ∷ []
    go (IrType-F.Int w) r = let e = sym (rolls-Int w) ∙ r in subst (λ x. types_in x ≡ x ∷ []) e (in_int w)
    go IrType-F.Ptr r = let e = sym rolls-Ptr ∙ r in subst (λ x. types_in x ≡ x ∷ []) e in_ptr
    go (IrType-F.Array at len e) r = absurd (no_array at len e (sym r ∙ rolls-Array at len e))
    go (IrType-F.Struct at fs p) r = absurd (no_struct at fs p (sym r ∙ rolls-Struct at fs p))
    go (IrType-F.Named name at) r = let e = sym (rolls-Named name at) ∙ r in subst (λ x. types_in x ≡ x ∷ []) e (in_named name at)

-- ---- what the code puts

pub array_nested : (old mid : List IrType) (t : IrType) (at len : ℕ) (e x : IrType) → t ≡ types.Array at len e → x ≡ e → mid ≡ old ++ t ∷ [] → mid ++ types_in x ≡ old ++ types_in t
array_nested old mid t at len e x is ex put =
    ap (λ ts. ts ++ types_in x) put
    ∙ (append_assoc old (t ∷ []) (types_in x)
    ∙ (ap (λ y. old ++ t ∷ types_in y) ex ∙ ap (λ ts. old ++ ts) (sym (ap types_in is ∙ (in_array at len e ∙ ap (λ u. u ∷ types_in e) (sym is))))))

pub struct_nested : (old mid : List IrType) (t : IrType) (at : ℕ) (fs xs : List IrType) (p : Bool) → t ≡ types.Struct at fs p → xs ≡ fs → mid ≡ old ++ t ∷ [] → mid ++ flat_map types_in xs ≡ old ++ types_in t
struct_nested old mid t at fs xs p is ex put =
    ap (λ ts. ts ++ flat_map types_in xs) put
    ∙ (append_assoc old (t ∷ []) (flat_map types_in xs)
    ∙ (ap (λ ys. old ++ t ∷ flat_map types_in ys) ex ∙ ap (λ ts. old ++ ts) (sym (ap types_in is ∙ (in_struct at fs p ∙ ap (λ u. u ∷ flat_map types_in fs) (sym is))))))
