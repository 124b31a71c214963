-- Rooms of names.
use Rattle.std.proofs.Common.{◌≡◌, ◌∙◌, ℕ, zero, suc, ◌+◌, ◌-◌, ◌<◌, ◌≤◌, Bool, true, List, [], ◌∷◌, ◌++◌, Option, Some, None, length, get_or, take, drop, map, min, refl, sym, ap, subst, arith}
use Rattle.std.specs.Prelude.{IfSome, cond, ◌==◌}
use Rattle.std.proofs.lemmas.Bool.{eqb-true}
use Rattle.std.proofs.lemmas.List.{take_more, map_push, drop_all, take_all}
use Rattle.layout.specs.Layout.{Extent, aligned, field_place}
use Rattle.ir_tree.specs.declared.layouts.Room.{Room}
use Rattle.ir_tree.specs.declared.types.IrType.{IrType}
use Rattle.ir_tree.specs.declared.module.TypeDefinition.{TypeDefinition}
use Rattle.ir_tree.specs.Extents.{Agrees, EndsAs}
use Rattle.ir_tree.specs.Layout.{most, each, of_type, kind_of, name_within, extent_within}
use Rattle.ir_tree.specs.Texts.{same}
use Rattle.phrases.proofs.Classes.{and_left, and_right}
use Rattle.ir_programs.specs.Types.{size_or_zero}
use Rattle.ir_programs.specs.Addresses.{place_or_zero}
use Rattle.tree_types.specs.Rooms.{AllAgree, names_within, AreRoomsWithin, AreRooms, IsSmall}
use Rattle.tree_types.proofs.Extents.{before_exists, own_exists, place_there}

-- ---- texts

pub same_is : (xs ys : List ℕ) → same xs ys ≡ true → xs ≡ ys
same_is [] [] e = refl
same_is [] (y ∷ ys) e = absurd cc
same_is (x ∷ xs) [] e = absurd cc
same_is (x ∷ xs) (y ∷ ys) e = ap (λ z. z ∷ xs) (eqb-true x y (and_left (x == y) (same xs ys) e)) ∙ ap (λ zs. y ∷ zs) (same_is xs ys (and_right (x == y) (same xs ys) e))

-- ---- lists that agree

pub agree_at : (rs : List (Option Room)) (es : List (Option Extent)) (i : ℕ) → AllAgree rs es → i < length es → Agrees (get_or rs i None) (get_or es i None)
agree_at [] [] i a lt = tt
agree_at [] (e ∷ es) i a lt = absurd a
agree_at (r ∷ rs) [] i a lt = absurd a
agree_at (r ∷ rs) (e ∷ es) zero a lt = a.0
agree_at (r ∷ rs) (e ∷ es) (suc i) a lt = agree_at rs es i a.1 (omega (arith, lt))

pub agree_push : (rs : List (Option Room)) (es : List (Option Extent)) (r : Option Room) (e : Option Extent) → AllAgree rs es → Agrees r e → AllAgree (rs ++ r ∷ []) (es ++ e ∷ [])
agree_push [] [] r e a h = (h, tt)
agree_push [] (x ∷ es) r e a h = absurd a
agree_push (x ∷ rs) [] r e a h = absurd a
agree_push (x ∷ rs) (y ∷ es) r e a h = (a.0, agree_push rs es r e a.1 h)

names_at : (n : ℕ) (ts ds : List TypeDefinition) (i : ℕ) (d : TypeDefinition) → i < length ds → get_or (names_within n ts ds) i None ≡ name_within n ts (get_or ds i d).name.text
names_at n ts [] i d lt = absurd (omega (arith, lt))
names_at n ts (x ∷ ds) zero d lt = refl
names_at n ts (x ∷ ds) (suc i) d lt = names_at n ts ds i d (omega (arith, lt))

names_length : (n : ℕ) (ts ds : List TypeDefinition) → length (names_within n ts ds) ≡ length ds
names_length n ts [] = refl
names_length n ts (d ∷ ds) = ap suc (names_length n ts ds)

-- the room of a definition is that of its name
pub room_there : (n : ℕ) (ts : List TypeDefinition) (rooms : List (Option Room)) (i : ℕ) (d : TypeDefinition) (name : List ℕ) (r : Option Room) → i < length ts → d ≡ get_or ts i d → same d.name.text name ≡ true
    → r ≡ get_or rooms i None → AreRoomsWithin n ts rooms → Agrees r (name_within n ts name)
room_there n ts rooms i d name r lt is same' at a =
    let there : get_or (names_within n ts ts) i None ≡ name_within n ts name =
    names_at n ts ts i d lt ∙ (ap (λ (x : TypeDefinition). name_within n ts x.name.text) (sym is) ∙ ap (λ (s : List ℕ). name_within n ts s) (same_is d.name.text name same')) in
    subst (λ (o : Option Room). Agrees o (name_within n ts name)) (sym at)
    (subst (λ (o : Option Extent). Agrees (get_or rooms i None) o) there (agree_at rooms (names_within n ts ts) i a (omega (arith, lt, names_length n ts ts))))

-- ---- names

pub none_there : (n : ℕ) (ts : List TypeDefinition) (name : List ℕ) → kind_of ts name ≡ None → Agrees None (name_within n ts name)
unfolding name_within
none_there zero ts name e = tt
none_there (suc n) ts name e = subst (λ o. Agrees None (of_type (extent_within n ts) o)) (sym e) tt

pub named_there : (r : Option Room) (n : ℕ) (ts : List TypeDefinition) (name : List ℕ) (kind : IrType) → kind_of ts name ≡ Some kind → Agrees r (extent_within n ts kind) → Agrees r (name_within (suc n) ts name)
unfolding name_within
named_there r n ts name kind e h = subst (λ o. Agrees r (of_type (extent_within n ts) o)) (sym e) h

-- ---- rounds

-- at first no name has a room
pub no_rooms : (ts ds : List TypeDefinition) (i : ℕ) → AllAgree (map (λ (d : TypeDefinition). None) ds) (names_within 0 ts ds)
unfolding name_within
no_rooms ts [] i = tt
no_rooms ts (d ∷ ds) i = (tt, no_rooms ts ds i)

pub names_more : (n : ℕ) (ts : List TypeDefinition) (i : ℕ) (d : TypeDefinition) → i < length ts → d ≡ get_or ts i d → names_within n ts (take (i + 1) ts) ≡ names_within n ts (take i ts) ++ name_within n ts d.name.text ∷ []
names_more n ts i d lt is =
    let told : TypeDefinition → Option Extent = λ x. name_within n ts x.name.text in
    ap (map told) (take_more ts i d lt) ∙ (map_push told (take i ts) (get_or ts i d) ∙ ap (λ (x : TypeDefinition). map told (take i ts) ++ told x ∷ []) (sym is))

pub rooms_more : (n : ℕ) (ts : List TypeDefinition) (i : ℕ) (d : TypeDefinition) (rs next : List (Option Room)) (r : Option Room) → i < length ts → d ≡ get_or ts i d → next ≡ rs ++ r ∷ [] → Agrees r (name_within n ts d.name.text)
    → AllAgree rs (names_within n ts (take i ts)) → AllAgree next (names_within n ts (take (i + 1) ts))
rooms_more n ts i d rs next r lt is e h a =
    subst (λ (xs : List (Option Room)). AllAgree xs (names_within n ts (take (i + 1) ts))) (sym e)
    (subst (λ (es : List (Option Extent)). AllAgree (rs ++ r ∷ []) es) (sym (names_more n ts i d lt is)) (agree_push rs (names_within n ts (take i ts)) r (name_within n ts d.name.text) a h))

-- rooms that a round doesn't change are those of each later one
unchanged : (ts : List TypeDefinition) (rooms : List (Option Room)) → ((n : ℕ) → AreRoomsWithin n ts rooms → AreRoomsWithin (suc n) ts rooms) → (k n m : ℕ) → m ≡ k + n → AreRoomsWithin n ts rooms → AreRoomsWithin m ts rooms
unchanged ts rooms step zero n m e a = let same : n ≡ m = omega (arith, e) in subst (λ (x : ℕ). AreRoomsWithin x ts rooms) same a
unchanged ts rooms step (suc k) n m e a =
    let same : suc (k + n) ≡ m = omega (arith, e) in
    subst (λ (x : ℕ). AreRoomsWithin x ts rooms) same (step (k + n) (unchanged ts rooms step k n (k + n) refl a))

pub unchanged_last : (ts : List TypeDefinition) (rooms next : List (Option Room)) (n : ℕ) → n < length ts → next ≡ rooms → ((m : ℕ) → AreRoomsWithin m ts rooms → AreRoomsWithin (suc m) ts next) → AreRoomsWithin n ts rooms → AreRooms ts rooms
unchanged_last ts rooms next n lt e step a =
    unchanged ts rooms (λ m h. subst (λ (rs : List (Option Room)). AreRoomsWithin (suc m) ts rs) e (step m h)) (length ts - n) n (length ts) (omega (arith, lt)) a

-- ---- sizes

pub size_is : (r : Room) (o : Option Extent) → Agrees (Some r) o → r.size ≡ min most (size_or_zero o)
size_is r None a = absurd a
size_is r (Some e) a = a.0

pub no_size : (o : Option Extent) → Agrees None o → 0 ≡ min most (size_or_zero o)
no_size None a = refl
no_size (Some e) a = absurd a

pub small : (r : Room) (o : Option Extent) → Agrees (Some r) o → (1 ≤ r.align) × (r.align ≤ 8) × (r.size ≤ most)
small r None a = absurd a
small r (Some e) a = (omega (arith, a.1, a.2), omega (arith, a.1, a.3), omega (arith, a.0))

pub small_end : (packed : Bool) (r : Room) (o : Option (List Extent)) → EndsAs packed (Some r) o → (1 ≤ r.align) × (r.align ≤ 8) × (r.size ≤ most)
small_end packed r None a = absurd a
small_end packed r (Some e) a = (a.2, a.3, omega (arith, a.0))

-- ---- what the code returns

pub none_at_end : (ts : List TypeDefinition) (name : List ℕ) (i : ℕ) → length ts ≤ i → kind_of ts name ≡ kind_of (drop i ts) name → kind_of ts name ≡ None
none_at_end ts name i le e = e ∙ ap (λ (ds : List TypeDefinition). kind_of ds name) (drop_all i ts le)

pub nothing_yet : (ts : List TypeDefinition) (name : List ℕ) → Agrees None (name_within 0 ts name)
unfolding name_within
nothing_yet ts name = tt

pub small_if_any : (r : Option Room) (o : Option Extent) → Agrees r o → IfSome r (λ x. IsSmall x)
small_if_any None o a = tt
small_if_any (Some r) o a = small r o a

pub small_end_if_any : (packed : Bool) (r : Option Room) (o : Option (List Extent)) → EndsAs packed r o → IfSome r (λ x. IsSmall x)
small_end_if_any packed None o a = tt
small_end_if_any packed (Some r) o a = small_end packed r o a

module _ (packed : Bool) (f : IrType → Option Extent) (fields : List IrType) (k : ℕ) (d : IrType) (lt : k < length fields) (r : ℕ) where
  abbrev IsPlace : Option Room → Option Room → Type 0
  IsPlace end own = IfSome end (λ e. IfSome own (λ o. r ≡ min most (aligned e.size (cond packed 1 o.align))))

  pub offset_there : (whole : Room) (end own : Option Room) → EndsAs packed (Some whole) (each (map f fields)) → EndsAs packed end (each (map f (take k fields))) → Agrees own (f (get_or fields k d)) → IsPlace end own
      → r ≡ min most (place_or_zero packed k (each (map f fields)))
  offset_there whole end own w e a is = go (each (map f fields)) refl w
    where
      found : (es : List Extent) → each (map f fields) ≡ Some es → (end own : Option Room) → EndsAs packed end (each (map f (take k fields))) → Agrees own (f (get_or fields k d)) → IsPlace end own → r ≡ min most (field_place packed 0 es k)
      found es h None own e a is = absurd (before_exists packed f fields es k d h lt e)
      found es h (Some x) None e a is = absurd (own_exists packed f fields es k d h lt a)
      found es h (Some x) (Some y) e a is = place_there packed f fields es k d h lt x y (cond packed 1 y.align) (aligned x.size (cond packed 1 y.align)) r e a refl refl is

      go : (o : Option (List Extent)) → each (map f fields) ≡ o → EndsAs packed (Some whole) o → r ≡ min most (place_or_zero packed k o)
      go None h w = absurd w
      go (Some es) h w = found es h end own e a is

pub no_offset : (packed : Bool) (k : ℕ) (o : Option (List Extent)) → EndsAs packed None o → 0 ≡ min most (place_or_zero packed k o)
no_offset packed k None a = refl
no_offset packed k (Some es) a = absurd a

-- ---- rooms that are the same

pub same_more : (a b : List (Option Room)) (i : ℕ) (x y : Option Room) → i < length a → length a ≡ length b → x ≡ get_or a i x → y ≡ get_or b i y → x ≡ y → take i a ≡ take i b → take (i + 1) a ≡ take (i + 1) b
same_more a b i x y lt l ex ey e h =
    take_more a i x lt ∙ (ap (λ (z : Option Room). take i a ++ z ∷ []) (sym ex ∙ (e ∙ ey)) ∙ (ap (λ (zs : List (Option Room)). zs ++ get_or b i y ∷ []) h ∙ sym (take_more b i y (omega (arith, lt, l)))))

pub same_lists : (a b : List (Option Room)) (i : ℕ) → length a ≤ i → length a ≡ length b → take i a ≡ take i b → a ≡ b
same_lists a b i le l h = sym (take_all i a le) ∙ (h ∙ take_all i b (omega (arith, le, l)))
