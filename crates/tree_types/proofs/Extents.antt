-- Sizes that are told up to the most follow the rules of layout, where the extents of names are told.
use Rattle.std.proofs.Common.{◌≡◌, ℕ, zero, suc, ◌+◌, ◌-◌, ◌*◌, ◌/◌, ◌≤◌, ◌<◌, Bool, true, false, cond, List, [], ◌∷◌, ◌++◌, ◌⊎◌, inl, inr, Option, Some, None, length, get_or, take, map, min, max, refl, sym, ap, subst, ◌∙◌, arith}
use Rattle.std.proofs.lemmas.Bool.{cases_lt}
use Rattle.std.proofs.lemmas.Nat.{mul-le}
use Rattle.std.proofs.lemmas.List.{take_more, map_push}
use Rattle.std.proofs.Math.Nat.{div-add-mod, mod-lt, mul_comm}
use Rattle.layout.specs.Layout.{Extent, aligned, field_align, field_place, fields_end, greatest_align}
use Rattle.ir_tree.specs.declared.layouts.Room.{Room}
use Rattle.ir_tree.specs.declared.types.IrType.{IrType, fold-IrType, fold-roll-IrType}
use Rattle.ir_tree.specs.declared.types.IrType.TheOpen.{IrType-F}
use Rattle.ir_tree.specs.declared.types.IrType.TheViews.{rolls-Array, rolls-Struct, rolls-Named, rolls-Int, rolls-Ptr}
use Rattle.ir_tree.specs.declared.types.IrType.TheVariants as types
use Rattle.ir_tree.specs.declared.module.TypeDefinition.{TypeDefinition}
use Rattle.ir_tree.specs.Layout.{most, with_one, each, of_struct, level, name_within, extent_within}
use Rattle.ir_tree.specs.Extents.{Agrees, EndsAs}

-- ---- one level at a time

module _ {A : Type 0} (f : IrType-F A → A) where
  pub fold_array : (at len : ℕ) (e : IrType) → fold-IrType A f (types.Array at len e) ≡ f (IrType-F.Array at len (fold-IrType A f e))
  fold_array at len e = ap (fold-IrType A f) (sym (rolls-Array at len e)) ∙ fold-roll-IrType A f (IrType-F.Array at len e)

  pub fold_struct : (at : ℕ) (fields : List IrType) (packed : Bool) → fold-IrType A f (types.Struct at fields packed) ≡ f (IrType-F.Struct at (map (fold-IrType A f) fields) packed)
  fold_struct at fields packed = ap (fold-IrType A f) (sym (rolls-Struct at fields packed)) ∙ fold-roll-IrType A f (IrType-F.Struct at fields packed)

  pub fold_named : (name : List ℕ) (at : ℕ) → fold-IrType A f (types.Named name at) ≡ f (IrType-F.Named name at)
  fold_named name at = ap (fold-IrType A f) (sym (rolls-Named name at)) ∙ fold-roll-IrType A f (IrType-F.Named name at)

  pub fold_int : (n : ℕ) → fold-IrType A f (types.Int n) ≡ f (IrType-F.Int n)
  fold_int n = ap (fold-IrType A f) (sym (rolls-Int n)) ∙ fold-roll-IrType A f (IrType-F.Int n)

  pub fold_ptr : fold-IrType A f types.Ptr ≡ f IrType-F.Ptr
  fold_ptr = ap (fold-IrType A f) (sym rolls-Ptr) ∙ fold-roll-IrType A f IrType-F.Ptr

-- ---- places

pub aligned_up : (x a : ℕ) → 1 ≤ a → x ≤ aligned x a
aligned_up x a h = omega (arith, h, div-add-mod (x + (a - 1)) a, mod-lt (x + (a - 1)) {m = a} (omega (arith, h)), mul_comm a ((x + (a - 1)) / a))

-- the size of a field is told up to the most
pub capped_end : (x a s place size : ℕ) → 1 ≤ a → place ≡ min most x → size ≡ min most s → min most (aligned place a + size) ≡ min most (aligned x a + s)
capped_end x a s place size h e f = go (cases_lt most x)
  where
    go : (most < x) ⊎ (x ≤ most) → min most (aligned place a + size) ≡ min most (aligned x a + s)
    go (inl lt) = omega (arith, lt, e, f, aligned_up x a h, aligned_up place a h)
    go (inr le) = let same : place ≡ x = omega (arith, le, e) in ap (λ p. min most (aligned p a + size)) same ∙ omega (arith, f)

pub capped_place : (x a place : ℕ) → 1 ≤ a → place ≡ min most x → min most (aligned place a) ≡ min most (aligned x a)
capped_place x a place h e = go (cases_lt most x)
  where
    go : (most < x) ⊎ (x ≤ most) → min most (aligned place a) ≡ min most (aligned x a)
    go (inl lt) = omega (arith, lt, e, aligned_up x a h, aligned_up place a h)
    go (inr le) = let same : place ≡ x = omega (arith, le, e) in ap (λ p. min most (aligned p a)) same

pub capped_times : (len e size : ℕ) → size ≡ min most e → min most (len * size) ≡ min most (len * e)
capped_times len e size h = go (cases_lt most e)
  where
    many : (len : ℕ) → most < e → size ≡ most → min most (len * size) ≡ min most (len * e)
    many zero lt q = omega (arith)
    many (suc n) lt q = omega (arith, lt, q, mul-le 1 most (suc n) size (omega arith) (omega (arith, q)), mul-le 1 most (suc n) e (omega arith) (omega (arith, lt)))

    go : (most < e) ⊎ (e ≤ most) → min most (len * size) ≡ min most (len * e)
    go (inl lt) = many len lt (omega (arith, lt, h))
    go (inr le) = ap (λ s. min most (len * s)) (omega (arith, le, h))

-- ---- lists of extents

pub each_push : (xs : List (Option Extent)) (es : List Extent) (e : Extent) → each xs ≡ Some es → each (xs ++ Some e ∷ []) ≡ Some (es ++ e ∷ [])
each_push xs es e h = all xs ∙ ap (pushed (Some (e ∷ []))) h
  where
    pushed : Option (List Extent) → Option (List Extent) → Option (List Extent)
    pushed (Some more) (Some es) = Some (es ++ more)
    pushed (Some more) None = None
    pushed None es = None

    one : (x : Option Extent) (o : Option (List Extent)) → with_one x (pushed (Some (e ∷ [])) o) ≡ pushed (Some (e ∷ [])) (with_one x o)
    one (Some x) (Some es) = refl
    one (Some x) None = refl
    one None o = refl

    all : (xs : List (Option Extent)) → each (xs ++ Some e ∷ []) ≡ pushed (Some (e ∷ [])) (each xs)
    all [] = refl
    all (x ∷ xs) = ap (with_one x) (all xs) ∙ one x (each xs)

-- one that has no extent
pub each_none : (xs : List (Option Extent)) (i : ℕ) → i < length xs → get_or xs i None ≡ None → each xs ≡ None
each_none [] i lt h = absurd (omega (arith, lt))
each_none (x ∷ xs) zero lt h = ap (λ o. with_one o (each xs)) h
each_none (x ∷ xs) (suc i) lt h = ap (with_one x) (each_none xs i (omega (arith, lt)) h) ∙ nothing x
  where
    nothing : (x : Option Extent) → with_one x None ≡ None
    nothing (Some e) = refl
    nothing None = refl

pub end_push : (packed : Bool) (p : ℕ) (es : List Extent) (e : Extent) → fields_end packed p (es ++ e ∷ []) ≡ aligned (fields_end packed p es) (field_align packed e) + e.size
end_push packed p [] e = refl
end_push packed p (x ∷ xs) e = end_push packed (aligned p (field_align packed x) + x.size) xs e

pub greatest_push : (packed : Bool) (es : List Extent) (e : Extent) → greatest_align packed (es ++ e ∷ []) ≡ max (greatest_align packed es) (field_align packed e)
greatest_push packed [] e = omega arith
greatest_push packed (x ∷ xs) e = ap (max (field_align packed x)) (greatest_push packed xs e) ∙ omega arith

-- ---- what the code returns

pub struct_there : (r : Option Room) (n : ℕ) (ts : List TypeDefinition) (kind : IrType) (at : ℕ) (fields slice : List IrType) (packed : Bool) → kind ≡ types.Struct at fields packed → slice ≡ fields
    → Agrees r (of_struct packed (each (map (extent_within n ts) slice))) → Agrees r (extent_within n ts kind)
struct_there r n ts kind at fields slice packed e same h =
    subst (λ k. Agrees r (extent_within n ts k)) (sym e)
    (subst (λ o. Agrees r o) (sym (fold_struct (level (name_within n ts)) at fields packed)) (subst (λ fs. Agrees r (of_struct packed (each (map (extent_within n ts) fs)))) same h))

-- what disagrees with nothing is nothing
is_none : (o : Option Extent) → Agrees None o → o ≡ None
is_none None h = refl
is_none (Some e) h = absurd h

map_at : (f : IrType → Option Extent) (ts : List IrType) (i : ℕ) (d : IrType) → i < length ts → get_or (map f ts) i None ≡ f (get_or ts i d)
map_at f [] i d lt = absurd (omega (arith, lt))
map_at f (t ∷ ts) zero d lt = refl
map_at f (t ∷ ts) (suc i) d lt = map_at f ts i d (omega (arith, lt))

length_map : (f : IrType → Option Extent) (ts : List IrType) → length (map f ts) ≡ length ts
length_map f [] = refl
length_map f (t ∷ ts) = ap suc (length_map f ts)

pub no_fields : (packed : Bool) (n : ℕ) (ts : List TypeDefinition) (fields : List IrType) (i : ℕ) (item : IrType) → i < length fields → item ≡ get_or fields i item → Agrees None (extent_within n ts item)
    → EndsAs packed None (each (map (extent_within n ts) fields))
no_fields packed n ts fields i item lt is h =
    let here : get_or (map (extent_within n ts) fields) i None ≡ None = map_at (extent_within n ts) fields i item lt ∙ ap (extent_within n ts) (sym is) ∙ is_none (extent_within n ts item) h in
    let none = each_none (map (extent_within n ts) fields) i (omega (arith, lt, length_map (extent_within n ts) fields)) here in
    subst (λ o. EndsAs packed None o) (sym none) tt

-- the fields so far have extents, and end there
abbrev pub SoFar : Bool → ℕ → List TypeDefinition → List IrType → ℕ → ℕ → ℕ → Type 0
SoFar packed n ts fields i place align =
    (es : List Extent) × (each (map (extent_within n ts) (take i fields)) ≡ Some es) × (place ≡ min most (fields_end packed 0 es)) × (align ≡ greatest_align packed es)

pub one_more_field : (packed : Bool) (n : ℕ) (ts : List TypeDefinition) (fields : List IrType) (i : ℕ) (item : IrType) (e : Room) (place align own aligned_place next widest : ℕ) → i < length fields → item ≡ get_or fields i item
    → Agrees (Some e) (extent_within n ts item) → own ≡ cond packed 1 e.align → aligned_place ≡ aligned place own → next ≡ min most (aligned_place + e.size) → widest ≡ max align own
    → SoFar packed n ts fields i place align → SoFar packed n ts fields (i + 1) next widest
one_more_field packed n ts fields i item e place align own aligned_place next widest lt is agrees own_is aligned_is next_is widest_is so_far = go (extent_within n ts item) refl agrees
  where
    go : (o : Option Extent) → extent_within n ts item ≡ o → Agrees (Some e) o → SoFar packed n ts fields (i + 1) next widest
    go None q a = absurd a
    go (Some x) q a =
        let es = so_far.0 in
        let f = extent_within n ts in
        let more : map f (take (i + 1) fields) ≡ map f (take i fields) ++ Some x ∷ [] =
        ap (map f) (take_more fields i item lt) ∙ map_push f (take i fields) (get_or fields i item) ∙ ap (λ k. map f (take i fields) ++ f k ∷ []) (sym is) ∙ ap (λ o. map f (take i fields) ++ o ∷ []) q in
        let width : own ≡ field_align packed x = own_is ∙ ap (λ (b : ℕ). cond packed 1 b) a.1 in
        let low : 1 ≤ field_align packed x = at_least packed in
        let end = capped_end (fields_end packed 0 es) (field_align packed x) x.size place e.size low so_far.2 a.0 in
        let there : next ≡ min most (aligned place (field_align packed x) + e.size) = next_is ∙ ap (λ p. min most (p + e.size)) (aligned_is ∙ ap (aligned place) width) in (
          es ++ x ∷ [],
          ap each more ∙ each_push (map f (take i fields)) es x so_far.1,
          there ∙ end ∙ ap (min most) (sym (end_push packed 0 es x)),
          widest_is ∙ ap (max align) width ∙ ap (λ g. max g (field_align packed x)) so_far.3 ∙ sym (greatest_push packed es x),
        )
      where
        at_least : (b : Bool) → 1 ≤ field_align b x
        at_least true = omega arith
        at_least false = a.2

pub own_most : (packed : Bool) (e : Room) (own : ℕ) (o : Option Extent) → Agrees (Some e) o → own ≡ cond packed 1 e.align → own ≤ 8
own_most true e own o a h = omega (arith, h)
own_most false e own None a h = absurd a
own_most false e own (Some x) a h = omega (arith, h, a.1, a.3)

-- the struct's size is a multiple of its alignment
pub whole_struct : (packed : Bool) (end : Room) (o : Option (List Extent)) (aligned_end size : ℕ) → EndsAs packed (Some end) o → aligned_end ≡ aligned end.size end.align → size ≡ min most aligned_end
    → Agrees (Some (record { size = size; align = end.align })) (of_struct packed o)
whole_struct packed end None aligned_end size e h k = absurd e
whole_struct packed end (Some es) aligned_end size e h k =
    (k ∙ ap (min most) (h ∙ ap (aligned end.size) e.1) ∙ capped_place (fields_end packed 0 es) (greatest_align packed es) end.size (omega (arith, e.1, e.2)) e.0, e.1, omega (arith, e.1, e.2), omega (arith, e.1, e.3))

-- ---- a field's place

abbrev IsThere : Option (List Extent) → List Extent → Type 0
IsThere None es = ⊥
IsThere (Some ds) es = ds ≡ es

there : (o : Option (List Extent)) (es : List Extent) → o ≡ Some es → IsThere o es
there o es h = subst (λ p. IsThere p es) (sym h) refl

-- what stands at a field, before it, and where
record FieldOf (packed : Bool) (xs : List (Option Extent)) (es : List Extent) (k : ℕ) : Type 0 where
  own : Extent
  own_is : get_or xs k None ≡ Some own
  before_is : each (take k xs) ≡ Some (take k es)
  place_is : (p : ℕ) → field_place packed p es k ≡ aligned (fields_end packed p (take k es)) (field_align packed own)

field_of : (packed : Bool) (xs : List (Option Extent)) (es : List Extent) (k : ℕ) → each xs ≡ Some es → k < length xs → FieldOf packed xs es k
field_of packed [] es k h lt = absurd (omega (arith, lt))
field_of packed (None ∷ xs) es k h lt = absurd (there None es h)
field_of packed (Some a ∷ xs) es k h lt = go (each xs) refl (there (with_one (Some a) (each xs)) es h) k lt (λ ds j q l. field_of packed xs ds j q l)
  where
    go : (o : Option (List Extent)) → each xs ≡ o → IsThere (with_one (Some a) o) es → (k : ℕ) → k < suc (length xs) → ((ds : List Extent) (j : ℕ) → each xs ≡ Some ds → j < length xs → FieldOf packed xs ds j) → FieldOf packed (Some a ∷ xs) es k
    go None q t k l again = absurd t
    go (Some ds) q t zero l again = subst (λ x. FieldOf packed (Some a ∷ xs) x 0) t (record { own = a; own_is = refl; before_is = refl; place_is = λ p. refl })
    go (Some ds) q t (suc j) l again =
        let f = again ds j q (omega (arith, l)) in
        subst (λ x. FieldOf packed (Some a ∷ xs) x (suc j)) t (record {
          own = f.own;
          own_is = f.own_is;
          before_is = ap (with_one (Some a)) f.before_is;
          place_is = λ p. f.place_is (aligned p (field_align packed a) + a.size);
        })

map_take : (f : IrType → Option Extent) (ts : List IrType) (k : ℕ) → map f (take k ts) ≡ take k (map f ts)
map_take f [] zero = refl
map_take f [] (suc k) = refl
map_take f (t ∷ ts) zero = refl
map_take f (t ∷ ts) (suc k) = ap (λ l. f t ∷ l) (map_take f ts k)

module _ (packed : Bool) (f : IrType → Option Extent) (fields : List IrType) (es : List Extent) (k : ℕ) (d : IrType) (h : each (map f fields) ≡ Some es) (lt : k < length fields) where
  here : FieldOf packed (map f fields) es k
  here = field_of packed (map f fields) es k h (omega (arith, lt, length_map f fields))

  own_there : f (get_or fields k d) ≡ Some here.own
  own_there = sym (map_at f fields k d lt) ∙ here.own_is

  before_there : each (map f (take k fields)) ≡ Some (take k es)
  before_there = ap each (map_take f fields k) ∙ here.before_is

  pub place_there : (end own : Room) (width place result : ℕ) → EndsAs packed (Some end) (each (map f (take k fields))) → Agrees (Some own) (f (get_or fields k d)) → width ≡ cond packed 1 own.align → place ≡ aligned end.size width
      → result ≡ min most place → result ≡ min most (field_place packed 0 es k)
  place_there end own width place result e a w p r =
      let e' = subst (λ o. EndsAs packed (Some end) o) before_there e in
      let a' = subst (λ o. Agrees (Some own) o) own_there a in
      let same : width ≡ field_align packed here.own = w ∙ ap (λ (n : ℕ). cond packed 1 n) a'.1 in
      r ∙ ap (min most) (p ∙ ap (aligned end.size) same) ∙ capped_place (fields_end packed 0 (take k es)) (field_align packed here.own) end.size (low packed a'.2) e'.0 ∙ ap (min most) (sym (here.place_is 0))
    where
      low : (b : Bool) → 1 ≤ here.own.align → 1 ≤ field_align b here.own
      low true q = omega arith
      low false q = q

  pub own_exists : Agrees None (f (get_or fields k d)) → ⊥
  own_exists a = subst (λ o. Agrees None o) own_there a

  pub before_exists : EndsAs packed None (each (map f (take k fields))) → ⊥
  before_exists e = subst (λ o. EndsAs packed None o) before_there e
