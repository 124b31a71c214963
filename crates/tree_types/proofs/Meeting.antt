-- Names that are met behind others.
use Rattle.std.proofs.Common.{◌≡◌, ◌∙◌, ℕ, zero, suc, ◌+◌, ◌-◌, ◌<◌, ◌≤◌, Bool, true, false, ◌||◌, List, [], ◌∷◌, ◌++◌, Option, None, length, get_or, take, drop, map, refl, sym, ap, subst, arith, drop-cons, add-one}
use Rattle.std.specs.List.{flat_map}
use Rattle.std.proofs.lemmas.Grind.{flat_map-append}
use Rattle.std.proofs.lemmas.List.{append-nil, take_more, map_push, take_all, drop_all}
use Rattle.ir_tree.specs.Layout.{kind_of}
use Rattle.ir_tree.specs.Texts.{same}
use Rattle.ir_tree.specs.declared.types.Name.{Name}
use Rattle.ir_tree.specs.declared.types.IrType.{IrType, out-IrType, roll-IrType}
use Rattle.ir_tree.specs.declared.types.IrType.TheOpen.{IrType-F}
use Rattle.ir_tree.specs.declared.types.IrType.TheViews.{rolls-Array, rolls-Struct, rolls-Named, rolls-Int, rolls-Ptr}
use Rattle.ir_tree.specs.declared.types.IrType.TheVariants as types
use Rattle.ir_tree.specs.declared.module.TypeDefinition.{TypeDefinition}
use Rattle.ir_programs.specs.Parts.{types_in}
use Rattle.ir_programs.specs.Texts.{among, texts}
use Rattle.ir_programs.specs.Types.{name_level, type_names, names_of, is_met, holds_itself}
use Rattle.tree_types.specs.Met.{is_behind, one_met, AreMet}
use Rattle.tree_types.proofs.Named.{same_is}
use Rattle.tree_types.proofs.Spelled.{out_is}
use Rattle.tree_types.proofs.Inner.{in_int, in_ptr, in_array, in_struct, in_named}

-- ---- lists of names

among_append : (x : List ℕ) (xs ys : List (List ℕ)) → among x (xs ++ ys) ≡ (among x xs || among x ys)
among_append x [] ys = refl
among_append x (z ∷ zs) ys = go (same z x) (among_append x zs ys)
  where
    go : (b : Bool) → among x (zs ++ ys) ≡ (among x zs || among x ys) → (b || among x (zs ++ ys)) ≡ ((b || among x zs) || among x ys)
    go true e = refl
    go false e = e

four : (a b c d : Bool) → ((a || b) || (c || d)) ≡ ((a || c) || (b || d))
four true b c d = refl
four false true true d = refl
four false true false d = refl
four false false c d = refl

pub met_append : (n : ℕ) (ts : List TypeDefinition) (x : List ℕ) (xs ys : List (List ℕ)) → is_met n ts x (xs ++ ys) ≡ (is_met n ts x xs || is_met n ts x ys)
unfolding is_met
met_append zero ts x xs ys = refl
met_append (suc n) ts x xs ys =
    let f : List ℕ → List (List ℕ) = λ m. names_of (kind_of ts m) in
    ap (λ b. b || is_met n ts x (flat_map f (xs ++ ys))) (among_append x xs ys)
    ∙ (ap (λ zs. (among x xs || among x ys) || is_met n ts x zs) (flat_map-append f xs ys)
    ∙ (ap (λ b. (among x xs || among x ys) || b) (met_append n ts x (flat_map f xs) (flat_map f ys))
    ∙ four (among x xs) (among x ys) (is_met n ts x (flat_map f xs)) (is_met n ts x (flat_map f ys))))

pub met_none : (n : ℕ) (ts : List TypeDefinition) (x : List ℕ) → is_met n ts x [] ≡ false
unfolding is_met
met_none zero ts x = refl
met_none (suc n) ts x = met_none n ts x

false_or : (a : Bool) → (a || false) ≡ a
false_or true = refl
false_or false = refl

met_one : (n : ℕ) (ts : List TypeDefinition) (x name : List ℕ) → is_met (suc n) ts x (name ∷ []) ≡ one_met n ts x name
unfolding is_met
met_one n ts x name = ap (λ b. b || is_met n ts x (names_of (kind_of ts name) ++ [])) (false_or (same name x)) ∙ ap (λ zs. same name x || is_met n ts x zs) (append-nil (names_of (kind_of ts name)))

-- ---- names in a type

abbrev names_in : List IrType → List (List ℕ)
names_in us = texts (type_names us)

texts_append : (xs ys : List Name) → texts (xs ++ ys) ≡ texts xs ++ texts ys
texts_append [] ys = refl
texts_append (x ∷ xs) ys = ap (λ zs. x.text ∷ zs) (texts_append xs ys)

names_append : (us vs : List IrType) → names_in (us ++ vs) ≡ names_in us ++ names_in vs
names_append us vs = ap texts (flat_map-append (λ (t : IrType). name_level (out-IrType t)) us vs) ∙ texts_append (type_names us) (type_names vs)

abbrev head_names : IrType-F IrType → List IrType → List (List ℕ)
head_names l us = texts (name_level l ++ type_names us)

names_with : (t : IrType) (l : IrType-F IrType) (us : List IrType) → t ≡ roll-IrType l → names_in (t ∷ us) ≡ head_names l us
names_with t l us e = ap (λ x. head_names x us) (out_is t l e)

module _ (n : ℕ) (ts : List TypeDefinition) (x : List ℕ) where
  abbrev met_in : List IrType → Bool
  met_in us = is_met (suc n) ts x (names_in us)

  pub int_met : (t : IrType) (w : ℕ) → t ≡ types.Int w → false ≡ met_in (types_in t)
  int_met t w is = sym (ap (λ u. met_in (types_in u)) is ∙ (ap met_in (in_int w) ∙ (ap (is_met (suc n) ts x) (names_with (types.Int w) (IrType-F.Int w) [] (sym (rolls-Int w))) ∙ met_none (suc n) ts x)))

  pub ptr_met : (t : IrType) → t ≡ types.Ptr → false ≡ met_in (types_in t)
  ptr_met t is = sym (ap (λ u. met_in (types_in u)) is ∙ (ap met_in in_ptr ∙ (ap (is_met (suc n) ts x) (names_with types.Ptr IrType-F.Ptr [] (sym rolls-Ptr)) ∙ met_none (suc n) ts x)))

  pub array_met : (t : IrType) (at len : ℕ) (e y : IrType) (r : Bool) → t ≡ types.Array at len e → y ≡ e → r ≡ met_in (types_in y) → r ≡ met_in (types_in t)
  array_met t at len e y r is ey h =
      h ∙ (ap (λ u. met_in (types_in u)) ey
      ∙ sym (ap (λ u. met_in (types_in u)) is ∙ (ap met_in (in_array at len e) ∙ ap (is_met (suc n) ts x) (names_with (types.Array at len e) (IrType-F.Array at len e) (types_in e) (sym (rolls-Array at len e))))))

  pub struct_met : (t : IrType) (at : ℕ) (fs ys : List IrType) (p : Bool) (r : Bool) → t ≡ types.Struct at fs p → ys ≡ fs → r ≡ met_in (flat_map types_in ys) → r ≡ met_in (types_in t)
  struct_met t at fs ys p r is ey h =
      h ∙ (ap (λ us. met_in (flat_map types_in us)) ey
      ∙ sym (ap (λ u. met_in (types_in u)) is ∙ (ap met_in (in_struct at fs p) ∙ ap (is_met (suc n) ts x) (names_with (types.Struct at fs p) (IrType-F.Struct at fs p) (flat_map types_in fs) (sym (rolls-Struct at fs p))))))

  pub named_met : (t : IrType) (name slice : List ℕ) (at : ℕ) (r : Bool) → t ≡ types.Named name at → slice ≡ name → r ≡ one_met n ts x slice → r ≡ met_in (types_in t)
  named_met t name slice at r is e h =
      h ∙ (ap (one_met n ts x) e
      ∙ sym (ap (λ u. met_in (types_in u)) is
      ∙ (ap met_in (in_named name at) ∙ (ap (is_met (suc n) ts x) (names_with (types.Named name at) (IrType-F.Named name at) [] (sym (rolls-Named name at))) ∙ met_one n ts x name))))

  abbrev all_met : List IrType → Bool
  all_met ks = met_in (flat_map types_in ks)

  all_more : (k : IrType) (ks : List IrType) → all_met (k ∷ ks) ≡ (met_in (types_in k) || all_met ks)
  all_more k ks = ap (is_met (suc n) ts x) (names_append (types_in k) (flat_map types_in ks)) ∙ met_append (suc n) ts x (names_in (types_in k)) (names_in (flat_map types_in ks))

  drop_next : (ks : List IrType) (i : ℕ) (k : IrType) → i < length ks → k ≡ get_or ks i k → drop i ks ≡ k ∷ drop (i + 1) ks
  drop_next ks i k lt is = rw add-one (drop-cons ks i k lt ∙ ap (λ (m : IrType). m ∷ drop (suc i) ks) (sym is))

  pub some_met : (ks : List IrType) (i : ℕ) (k : IrType) (r : Bool) → i < length ks → k ≡ get_or ks i k → r ≡ met_in (types_in k) → r ≡ true → all_met ks ≡ all_met (drop i ks) → true ≡ all_met ks
  some_met ks i k r lt is e h before = sym (before ∙ (ap all_met (drop_next ks i k lt is) ∙ (all_more k (drop (i + 1) ks) ∙ ap (λ b. b || all_met (drop (i + 1) ks)) (sym e ∙ h))))

  pub next_met : (ks : List IrType) (i : ℕ) (k : IrType) (r : Bool) → i < length ks → k ≡ get_or ks i k → r ≡ met_in (types_in k) → r ≡ false → all_met ks ≡ all_met (drop i ks) → all_met ks ≡ all_met (drop (i + 1) ks)
  next_met ks i k r lt is e h before = before ∙ (ap all_met (drop_next ks i k lt is) ∙ (all_more k (drop (i + 1) ks) ∙ ap (λ b. b || all_met (drop (i + 1) ks)) (sym e ∙ h)))

  pub last_met : (ks : List IrType) (i : ℕ) → length ks ≤ i → all_met ks ≡ all_met (drop i ks) → false ≡ all_met ks
  last_met ks i le before = sym (before ∙ (ap all_met (drop_all i ks le) ∙ met_none (suc n) ts x))

-- ---- tables

pub behind_none : (n : ℕ) (ts : List TypeDefinition) (x name : List ℕ) → kind_of ts name ≡ None → false ≡ is_behind n ts x name
behind_none n ts x name e = sym (ap (λ (o : Option IrType). is_met n ts x (names_of o)) e ∙ met_none n ts x)

map_at : (f : TypeDefinition → Bool) (ts : List TypeDefinition) (i : ℕ) (d : TypeDefinition) → i < length ts → get_or (map f ts) i false ≡ f (get_or ts i d)
map_at f [] i d lt = absurd (omega (arith, lt))
map_at f (t ∷ ts) zero d lt = refl
map_at f (t ∷ ts) (suc i) d lt = map_at f ts i d (omega (arith, lt))

pub met_there : (n : ℕ) (ts : List TypeDefinition) (x name : List ℕ) (met : List Bool) (i : ℕ) (d : TypeDefinition) (r : Bool) → i < length ts → d ≡ get_or ts i d → same d.name.text name ≡ true → r ≡ get_or met i false → AreMet n ts x met
    → r ≡ is_behind n ts x name
met_there n ts x name met i d r lt is same' at a =
    let f : TypeDefinition → Bool = λ e. is_behind n ts x e.name.text in
    at ∙ (ap (λ (ms : List Bool). get_or ms i false) a ∙ (map_at f ts i d lt ∙ (ap f (sym is) ∙ ap (λ (s : List ℕ). is_behind n ts x s) (same_is d.name.text name same'))))

pub nothing_met : (ts : List TypeDefinition) (x name : List ℕ) → false ≡ is_behind 0 ts x name
unfolding is_met
nothing_met ts x name = refl

pub table_more : (f : TypeDefinition → Bool) (ts : List TypeDefinition) (i : ℕ) (d : TypeDefinition) (old new : List Bool) (b : Bool) → i < length ts → d ≡ get_or ts i d → new ≡ old ++ b ∷ [] → b ≡ f d → old ≡ map f (take i ts)
    → new ≡ map f (take (i + 1) ts)
table_more f ts i d old new b lt is put e h =
    put ∙ (ap (λ (c : Bool). old ++ c ∷ []) (e ∙ ap f is) ∙ (ap (λ (cs : List Bool). cs ++ f (get_or ts i d) ∷ []) h ∙ sym (ap (map f) (take_more ts i d lt) ∙ map_push f (take i ts) (get_or ts i d))))

pub table_all : (f : TypeDefinition → Bool) (ts : List TypeDefinition) (i : ℕ) (old : List Bool) → length ts ≤ i → old ≡ map f (take i ts) → old ≡ map f ts
table_all f ts i old le h = h ∙ ap (map f) (take_all i ts le)

kept : (ts : List TypeDefinition) (x : List ℕ) (met : List Bool) → ((n : ℕ) → AreMet n ts x met → AreMet (suc n) ts x met) → (k n m : ℕ) → m ≡ k + n → AreMet n ts x met → AreMet m ts x met
kept ts x met step zero n m e a = let here : n ≡ m = omega (arith, e) in subst (λ (j : ℕ). AreMet j ts x met) here a
kept ts x met step (suc k) n m e a =
    let here : suc (k + n) ≡ m = omega (arith, e) in
    subst (λ (j : ℕ). AreMet j ts x met) here (step (k + n) (kept ts x met step k n (k + n) refl a))

-- a table that a round doesn't change is that of each later one
pub kept_last : (ts : List TypeDefinition) (x : List ℕ) (met next : List Bool) (n m : ℕ) → n < m → next ≡ met → ((j : ℕ) → AreMet j ts x met → AreMet (suc j) ts x next) → AreMet n ts x met → AreMet m ts x met
kept_last ts x met next n m lt e step a = kept ts x met (λ j h. subst (λ (ms : List Bool). AreMet (suc j) ts x ms) e (step j h)) (m - n) n m (omega (arith, lt)) a

pub holds_there : (ts : List TypeDefinition) (d : TypeDefinition) (x : List ℕ) (met : List Bool) (r : Bool) → 0 < length ts → x ≡ d.name.text → AreMet (length ts - 1) ts x met
    → ((n : ℕ) → AreMet n ts x met → r ≡ is_met (suc n) ts x (texts (type_names (types_in d.kind)))) → r ≡ holds_itself ts d
holds_there ts d x met r some e a h =
    let all : suc (length ts - 1) ≡ length ts = omega (arith, some) in
    h (length ts - 1) a ∙ (ap (λ (m : ℕ). is_met m ts x (texts (type_names (types_in d.kind)))) all ∙ ap (λ (s : List ℕ). is_met (length ts) ts s (texts (type_names (types_in d.kind)))) e)
