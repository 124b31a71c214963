-- Types that are spelled alike.
use Rattle.std.proofs.Common.{◌≡◌, ◌∙◌, ℕ, zero, suc, ◌+◌, ◌-◌, ◌/◌, ◌%◌, ◌^◌, ◌<◌, ◌≤◌, Bool, true, false, cond, ◌||◌, ◌&&◌, ◌==◌, List, [], ◌∷◌, ◌++◌, Option, Some, None, map, length, get_or, take, refl, sym, ap, subst, arith}
use Rattle.std.specs.Prelude.{codes, nat_lt}
use Rattle.std.specs.Bool.{Decides}
use Rattle.std.specs.Fmt.{decimal}
use Rattle.std.proofs.Math.Nat.{div-add-mod}
use Rattle.std.proofs.lemmas.Bool.{ltb-true, ltb-false, eqb-true, eq-eqb}
use Rattle.std.proofs.lemmas.Fmt.{decimal_injective}
use Rattle.std.proofs.lemmas.List.{append_cancel_right, take_more, take_all, map_push}
use Rattle.ir_lexer.specs.Forms.{is_plain_name, is_number}
use Rattle.ir_tree.specs.declared.types.IrType.{IrType, fold-IrType, out-IrType, roll-IrType, out-roll-IrType, ind-IrType}
use Rattle.ir_tree.specs.declared.types.IrType.TheOpen.{IrType-F}
use Rattle.ir_tree.specs.declared.types.IrType.TheViews.{rolls-Array, rolls-Struct, rolls-Named, rolls-Int, rolls-Ptr}
use Rattle.ir_tree.specs.declared.types.IrType.TheVariants as types
use Rattle.ir_tree.specs.declared.module.TypeDefinition.{TypeDefinition}
use Rattle.ir_tree.specs.Extents.{steps_within, name_steps, steps_level, steps_of, sum}
use Rattle.ir_tree.specs.Layout.{kind_of}
use Rattle.ir_tree.specs.Spelling.{opening, closing, separated, type_tokens}
use Rattle.ir_tree.specs.Texts.{same, hex_digit, is_escaped, escaped, quoted, name_text, local_text, width_text}
use Rattle.ir_tree.proofs.Spelled.{int_tokens, ptr_tokens, array_tokens, struct_tokens, named_tokens}
use Rattle.ir_programs.specs.Texts.{same_all}
use Rattle.ir_programs.specs.Types.{expanded, expanded_level, expanded_name, expanded_or, is_one_type}
use Rattle.phrases.proofs.Classes.{and_left, and_right}
use Rattle.tree_types.specs.Alike.{spelled, replaced_level, replaced}
use Rattle.tree_types.proofs.Enclosed.{AllShaped, type_shaped, separated_same}
use Rattle.tree_types.proofs.Extents.{fold_int, fold_ptr, fold_array, fold_struct, fold_named}
use Rattle.tree_types.proofs.Named.{same_is}

-- ---- tests

false_true : false ≡ true → ⊥
false_true e = cc

pub no : {P : Type 0} → (P → ⊥) → Decides false P
no h = (λ e. absurd (false_true e), λ p. absurd (h p))

pub yes : {P : Type 0} → P → Decides true P
yes p = (λ e. p, λ q. refl)

-- what is false is so of another fact that would give this one
pub through_fact : {P Q : Type 0} (r : Bool) → (P → Q) → (Q → P) → Decides r P → Decides r Q
through_fact r f g d = (λ e. f (d.0 e), λ q. d.1 (g q))

-- ---- texts

pub same_self : (xs : List ℕ) → same xs xs ≡ true
same_self [] = refl
same_self (x ∷ xs) = ap (λ (t : Bool). t && same xs xs) (eq-eqb x x refl) ∙ same_self xs

digit_cases : (m n : ℕ) (s t : Bool) → nat_lt m 10 ≡ s → nat_lt n 10 ≡ t → cond s (48 + m) (55 + m) ≡ cond t (48 + n) (55 + n) → m ≡ n
digit_cases m n true true p q e = omega (arith, e)
digit_cases m n true false p q e = absurd (omega (arith, e, ltb-true m 10 p, ltb-false n 10 q))
digit_cases m n false true p q e = absurd (omega (arith, e, ltb-false m 10 p, ltb-true n 10 q))
digit_cases m n false false p q e = omega (arith, e)

digits_same : (m n : ℕ) → hex_digit m ≡ hex_digit n → m ≡ n
digits_same m n e = digit_cases m n (nat_lt m 10) (nat_lt n 10) refl refl e

byte_same : (x y : ℕ) → hex_digit (x / 16) ≡ hex_digit (y / 16) → hex_digit (x % 16) ≡ hex_digit (y % 16) → x ≡ y
byte_same x y high low = omega (arith, digits_same (x / 16) (y / 16) high, digits_same (x % 16) (y % 16) low, div-add-mod x 16, div-add-mod y 16)

head_same : (x y : ℕ) (xs ys : List ℕ) → x ∷ xs ≡ y ∷ ys → x ≡ y
head_same x y xs ys e = cc

tail_same : (x y : ℕ) (xs ys : List ℕ) → x ∷ xs ≡ y ∷ ys → xs ≡ ys
tail_same x y xs ys e = cc

nothing : (x : ℕ) (xs : List ℕ) → [] ≡ x ∷ xs → ⊥
nothing x xs e = cc

abbrev put : Bool → ℕ → List ℕ → List ℕ
put t b bs = cond t (92 ∷ hex_digit (b / 16) ∷ hex_digit (b % 16) ∷ bs) (b ∷ bs)

put_some : (t : Bool) (b : ℕ) (bs : List ℕ) → [] ≡ put t b bs → ⊥
put_some true b bs e = cc
put_some false b bs e = cc

slash_is_escaped : is_escaped 92 ≡ true
slash_is_escaped = refl

not_slash : (y : ℕ) → is_escaped y ≡ false → 92 ≡ y → ⊥
not_slash y f e = false_true (sym f ∙ (ap is_escaped (sym e) ∙ slash_is_escaped))

put_same : (s t : Bool) (x y : ℕ) (xs ys : List ℕ) → is_escaped x ≡ s → is_escaped y ≡ t → put s x xs ≡ put t y ys → (x ≡ y) × (xs ≡ ys)
put_same true true x y xs ys p q e =
    let one = tail_same 92 92 (hex_digit (x / 16) ∷ hex_digit (x % 16) ∷ xs) (hex_digit (y / 16) ∷ hex_digit (y % 16) ∷ ys) e in
    let two = tail_same (hex_digit (x / 16)) (hex_digit (y / 16)) (hex_digit (x % 16) ∷ xs) (hex_digit (y % 16) ∷ ys) one in (
      byte_same x y (head_same (hex_digit (x / 16)) (hex_digit (y / 16)) (hex_digit (x % 16) ∷ xs) (hex_digit (y % 16) ∷ ys) one) (head_same (hex_digit (x % 16)) (hex_digit (y % 16)) xs ys two),
      tail_same (hex_digit (x % 16)) (hex_digit (y % 16)) xs ys two,
    )
put_same true false x y xs ys p q e = absurd (not_slash y q (head_same 92 y (hex_digit (x / 16) ∷ hex_digit (x % 16) ∷ xs) ys e))
put_same false true x y xs ys p q e = absurd (not_slash x p (sym (head_same x 92 xs (hex_digit (y / 16) ∷ hex_digit (y % 16) ∷ ys) e)))
put_same false false x y xs ys p q e = (head_same x y xs ys e, tail_same x y xs ys e)

escaped_same : (xs ys : List ℕ) → escaped xs ≡ escaped ys → xs ≡ ys
escaped_same [] [] e = refl
escaped_same [] (y ∷ ys) e = absurd (put_some (is_escaped y) y (escaped ys) e)
escaped_same (x ∷ xs) [] e = absurd (put_some (is_escaped x) x (escaped xs) (sym e))
escaped_same (x ∷ xs) (y ∷ ys) e =
    let h = put_same (is_escaped x) (is_escaped y) x y (escaped xs) (escaped ys) refl refl e in
    ap (λ (z : ℕ). z ∷ xs) h.0 ∙ ap (λ (zs : List ℕ). y ∷ zs) (escaped_same xs ys h.1)

quoted_same : (xs ys : List ℕ) → quoted xs ≡ quoted ys → xs ≡ ys
quoted_same xs ys e = escaped_same xs ys (append_cancel_right (escaped xs) (escaped ys) (34 ∷ []) (tail_same 34 34 (escaped xs ++ 34 ∷ []) (escaped ys ++ 34 ∷ []) e))

abbrev is_bare : List ℕ → Bool
is_bare name = is_plain_name name || is_number name

-- a name that stands as it is doesn't begin with a quote
not_quoted : (xs ys : List ℕ) → is_bare xs ≡ true → xs ≡ quoted ys → ⊥
not_quoted xs ys b e = false_true (sym (ap is_bare e) ∙ b)

abbrev named_by : Bool → List ℕ → List ℕ
named_by t name = cond t name (quoted name)

named_same : (s t : Bool) (xs ys : List ℕ) → is_bare xs ≡ s → is_bare ys ≡ t → named_by s xs ≡ named_by t ys → xs ≡ ys
named_same true true xs ys p q e = e
named_same true false xs ys p q e = absurd (not_quoted xs ys p e)
named_same false true xs ys p q e = absurd (not_quoted ys xs q (sym e))
named_same false false xs ys p q e = quoted_same xs ys e

pub local_same : (xs ys : List ℕ) → local_text xs ≡ local_text ys → xs ≡ ys
local_same xs ys e = named_same (is_bare xs) (is_bare ys) xs ys refl refl (tail_same 37 37 (name_text xs) (name_text ys) e)

pub name_decides : (xs ys : List ℕ) (r : Bool) → r ≡ same xs ys → Decides r (local_text xs ≡ local_text ys)
name_decides xs ys r e = (λ t. ap local_text (same_is xs ys (sym e ∙ t)), λ h. e ∙ (ap (λ (zs : List ℕ). same xs zs) (sym (local_same xs ys h)) ∙ same_self xs))

-- ---- texts one by one

same_all_self : (xs : List (List ℕ)) → same_all xs xs ≡ true
same_all_self [] = refl
same_all_self (x ∷ xs) = ap (λ (t : Bool). t && same_all xs xs) (same_self x) ∙ same_all_self xs

same_all_is : (xs ys : List (List ℕ)) → same_all xs ys ≡ true → xs ≡ ys
same_all_is [] [] e = refl
same_all_is [] (y ∷ ys) e = absurd cc
same_all_is (x ∷ xs) [] e = absurd cc
same_all_is (x ∷ xs) (y ∷ ys) e =
    ap (λ (z : List ℕ). z ∷ xs) (same_is x y (and_left (same x y) (same_all xs ys) e)) ∙ ap (λ (zs : List (List ℕ)). y ∷ zs) (same_all_is xs ys (and_right (same x y) (same_all xs ys) e))

pub all_decided : (xs ys : List (List ℕ)) (r : Bool) → Decides r (xs ≡ ys) → r ≡ same_all xs ys
all_decided xs ys true d = sym (ap (λ (zs : List (List ℕ)). same_all xs zs) (sym (d.0 refl)) ∙ same_all_self xs)
all_decided xs ys false d = go (same_all xs ys) refl
  where
    go : (t : Bool) → same_all xs ys ≡ t → false ≡ t
    go true e = d.1 (same_all_is xs ys e)
    go false e = refl

-- ---- one level of a type

pub rolled : (t : IrType) → roll-IrType (out-IrType t) ≡ t
rolled = ind-IrType (λ t. roll-IrType (out-IrType t) ≡ t) (λ x y is. ap roll-IrType (out-roll-IrType x))

pub out_is : (t : IrType) (l : IrType-F IrType) → t ≡ roll-IrType l → out-IrType t ≡ l
out_is t l e = ap out-IrType e ∙ out-roll-IrType l

map_both : (f g : IrType → IrType) (h : IrType → List (List ℕ)) (ts : List IrType) → map h (map f ts) ≡ map (λ t. h (f t)) ts
map_both f g h [] = refl
map_both f g h (t ∷ ts) = ap (λ (xs : List (List (List ℕ))). h (f t) ∷ xs) (map_both f g h ts)

module _ (ts : List TypeDefinition) (n : ℕ) where
  abbrev level : IrType-F IrType → IrType
  level = expanded_level (expanded_name n ts)

  abbrev text_of_length : ℕ → List ℕ
  text_of_length len = decimal len

  pub spelled_int : (w : ℕ) → spelled n ts (types.Int w) ≡ width_text w ∷ []
  spelled_int w = ap type_tokens (fold_int level w) ∙ int_tokens w

  pub spelled_ptr : spelled n ts types.Ptr ≡ codes "ptr" ∷ []
  spelled_ptr = ap type_tokens (fold_ptr level) ∙ ptr_tokens

  pub spelled_array : (at len : ℕ) (e : IrType) → spelled n ts (types.Array at len e) ≡ codes "[" ∷ decimal len ∷ codes "x" ∷ (spelled n ts e ++ codes "]" ∷ [])
  spelled_array at len e = ap type_tokens (fold_array level at len e) ∙ array_tokens at len (fold-IrType IrType level e)

  pub spelled_struct : (at : ℕ) (fs : List IrType) (p : Bool) → spelled n ts (types.Struct at fs p) ≡ opening p ∷ (separated (map (spelled n ts) fs) ++ closing p ∷ [])
  spelled_struct at fs p =
      ap type_tokens (fold_struct level at fs p)
      ∙ (struct_tokens at (map (fold-IrType IrType level) fs) p
      ∙ ap (λ (xs : List (List (List ℕ))). opening p ∷ (separated xs ++ closing p ∷ [])) (map_both (fold-IrType IrType level) (λ t. t) type_tokens fs))

  spelled_named : (name : List ℕ) (at : ℕ) → spelled n ts (types.Named name at) ≡ type_tokens (expanded_name n ts name at)
  spelled_named name at = ap type_tokens (fold_named level name at)

  pub fields_shaped : (fs : List IrType) → AllShaped (map (spelled n ts) fs)
  fields_shaped [] = tt
  fields_shaped (f ∷ fs) = (type_shaped (fold-IrType IrType level f), fields_shaped fs)

  -- a name that isn't replaced
  kept_name : (name : List ℕ) (at : ℕ) → replaced_level n ts (IrType-F.Named name at) ≡ None → expanded_name n ts name at ≡ types.Named name at
  unfolding expanded_name
  kept_name name at e = go n e
    where
      go : (m : ℕ) → replaced_level m ts (IrType-F.Named name at) ≡ None → expanded_name m ts name at ≡ types.Named name at
      go zero h = refl
      go (suc m) h = ap (expanded_or (λ t. fold-IrType IrType (expanded_level (expanded_name m ts)) t) (types.Named name at)) h

  pub spelled_kept : (name : List ℕ) (at : ℕ) → replaced_level n ts (IrType-F.Named name at) ≡ None → spelled n ts (types.Named name at) ≡ local_text name ∷ []
  spelled_kept name at e = spelled_named name at ∙ (ap type_tokens (kept_name name at e) ∙ named_tokens name at)

-- a name with another place is spelled the same
pub places_apart : (ts : List TypeDefinition) (n : ℕ) (name : List ℕ) (at from : ℕ) → spelled n ts (types.Named name at) ≡ spelled n ts (types.Named name from)
unfolding expanded_name
places_apart ts n name at from = spelled_named ts n name at ∙ (go n (kind_of ts name) refl ∙ sym (spelled_named ts n name from))
  where
    kept : type_tokens (types.Named name at) ≡ type_tokens (types.Named name from)
    kept = named_tokens name at ∙ sym (named_tokens name from)

    go : (m : ℕ) (o : Option IrType) → kind_of ts name ≡ o → type_tokens (expanded_name m ts name at) ≡ type_tokens (expanded_name m ts name from)
    go zero o e = kept
    go (suc m) (Some k) e =
        let f = λ (t : IrType). fold-IrType IrType (expanded_level (expanded_name m ts)) t in
        ap (λ (o : Option IrType). type_tokens (expanded_or f (types.Named name at) o)) e ∙ sym (ap (λ (o : Option IrType). type_tokens (expanded_or f (types.Named name from) o)) e)
    go (suc m) None e =
        let f = λ (t : IrType). fold-IrType IrType (expanded_level (expanded_name m ts)) t in
        ap (λ (o : Option IrType). type_tokens (expanded_or f (types.Named name at) o)) e ∙ (kept ∙ sym (ap (λ (o : Option IrType). type_tokens (expanded_or f (types.Named name from) o)) e))

-- ---- names that are replaced

pub record Behind (ts : List TypeDefinition) (n : ℕ) (t k : IrType) : Type 0 where
  pub some : 0 < n
  pub same : spelled n ts t ≡ spelled (n - 1) ts k
  pub falls : steps_within (n - 1) ts k < steps_within n ts t

behind_name : (ts : List TypeDefinition) (m : ℕ) (name : List ℕ) (at : ℕ) (k : IrType) → kind_of ts name ≡ Some k → spelled (suc m) ts (types.Named name at) ≡ spelled m ts k
unfolding expanded_name
behind_name ts m name at k e =
    spelled_named ts (suc m) name at ∙ ap (λ (o : Option IrType). type_tokens (expanded_or (λ (t : IrType). fold-IrType IrType (expanded_level (expanded_name m ts)) t) (types.Named name at) o)) e

steps_of_name : (ts : List TypeDefinition) (m : ℕ) (name : List ℕ) (at : ℕ) (k : IrType) → kind_of ts name ≡ Some k → steps_within (suc m) ts (types.Named name at) ≡ suc (suc (steps_within m ts k))
unfolding name_steps
steps_of_name ts m name at k e = fold_named (steps_level (name_steps (suc m) ts)) name at ∙ ap (λ (o : Option IrType). suc (steps_of (steps_within m ts) o)) e

none_some : (k : IrType) → None ≡ Some k → ⊥
none_some k e = cc

behind_level : (ts : List TypeDefinition) (n : ℕ) (l : IrType-F IrType) (k : IrType) → replaced_level n ts l ≡ Some k → Behind ts n (roll-IrType l) k
behind_level ts zero (IrType-F.Int w) k e = absurd (none_some k e)
behind_level ts (suc m) (IrType-F.Int w) k e = absurd (none_some k e)
behind_level ts zero IrType-F.Ptr k e = absurd (none_some k e)
behind_level ts (suc m) IrType-F.Ptr k e = absurd (none_some k e)
behind_level ts zero (IrType-F.Array at len x) k e = absurd (none_some k e)
behind_level ts (suc m) (IrType-F.Array at len x) k e = absurd (none_some k e)
behind_level ts zero (IrType-F.Struct at fs p) k e = absurd (none_some k e)
behind_level ts (suc m) (IrType-F.Struct at fs p) k e = absurd (none_some k e)
behind_level ts zero (IrType-F.Named name at) k e = absurd (none_some k e)
behind_level ts (suc m) (IrType-F.Named name at) k e =
    let less : m ≡ suc m - 1 = omega arith in
    let r = rolls-Named name at in
    record {
      some = omega arith;
      same = ap (spelled (suc m) ts) r ∙ (behind_name ts m name at k e ∙ ap (λ (j : ℕ). spelled j ts k) less);
      falls = omega (arith, ap (steps_within (suc m) ts) r, steps_of_name ts m name at k e, ap (λ (j : ℕ). steps_within j ts k) less);
    }

pub behind : (ts : List TypeDefinition) (n : ℕ) (t k : IrType) → Some k ≡ replaced n ts t → Behind ts n t k
behind ts n t k e = subst (λ (x : IrType). Behind ts n x k) (rolled t) (behind_level ts n (out-IrType t) k (sym e))

-- ---- first bytes

abbrev first : List (List ℕ) → ℕ
first [] = 0
first ([] ∷ ts) = 0
first ((b ∷ bs) ∷ ts) = b

abbrev byte_of : IrType-F IrType → ℕ
byte_of (IrType-F.Int w) = 105
byte_of IrType-F.Ptr = 112
byte_of (IrType-F.Array at len e) = 91
byte_of (IrType-F.Struct at fs true) = 60
byte_of (IrType-F.Struct at fs false) = 123
byte_of (IrType-F.Named name at) = 37

first_level : (ts : List TypeDefinition) (n : ℕ) (l : IrType-F IrType) → replaced_level n ts l ≡ None → first (spelled n ts (roll-IrType l)) ≡ byte_of l
first_level ts n (IrType-F.Int w) e = ap (λ (t : IrType). first (spelled n ts t)) (rolls-Int w) ∙ ap first (spelled_int ts n w)
first_level ts n IrType-F.Ptr e = ap (λ (t : IrType). first (spelled n ts t)) rolls-Ptr ∙ ap first (spelled_ptr ts n)
first_level ts n (IrType-F.Array at len x) e = ap (λ (t : IrType). first (spelled n ts t)) (rolls-Array at len x) ∙ ap first (spelled_array ts n at len x)
first_level ts n (IrType-F.Struct at fs true) e = ap (λ (t : IrType). first (spelled n ts t)) (rolls-Struct at fs true) ∙ ap first (spelled_struct ts n at fs true)
first_level ts n (IrType-F.Struct at fs false) e = ap (λ (t : IrType). first (spelled n ts t)) (rolls-Struct at fs false) ∙ ap first (spelled_struct ts n at fs false)
first_level ts n (IrType-F.Named name at) e = ap (λ (t : IrType). first (spelled n ts t)) (rolls-Named name at) ∙ ap first (spelled_kept ts n name at e)

first_is : (ts : List TypeDefinition) (n : ℕ) (t : IrType) → replaced n ts t ≡ None → first (spelled n ts t) ≡ byte_of (out-IrType t)
first_is ts n t e = ap (λ (x : IrType). first (spelled n ts x)) (sym (rolled t)) ∙ first_level ts n (out-IrType t) e

-- types that are spelled alike have one first byte
byte_shared : (ts : List TypeDefinition) (n m : ℕ) (t u : IrType) → replaced n ts t ≡ None → replaced m ts u ≡ None → spelled n ts t ≡ spelled m ts u → byte_of (out-IrType t) ≡ byte_of (out-IrType u)
byte_shared ts n m t u p q e = sym (first_is ts n t p) ∙ (ap first e ∙ first_is ts m u q)

-- ---- levels that are alike

module _ (ts : List TypeDefinition) (n m : ℕ) (t u : IrType) (p : replaced n ts t ≡ None) (q : replaced m ts u ≡ None) where
  abbrev Alike : Type 0
  Alike = spelled n ts t ≡ spelled m ts u

  abbrev level_of : IrType-F IrType
  level_of = out-IrType u

  shared_with : (l : IrType-F IrType) → t ≡ roll-IrType l → Alike → byte_of l ≡ byte_of (out-IrType u)
  shared_with l is e = ap byte_of (sym (out_is t l is)) ∙ byte_shared ts n m t u p q e

  pub int_alone : (w : ℕ) → t ≡ types.Int w → ((v : ℕ) → u ≡ types.Int v → ⊥) → Alike → ⊥
  int_alone w is none e = go (out-IrType u) (rolled u) (shared_with (IrType-F.Int w) (is ∙ sym (rolls-Int w)) e)
    where
      go : (l : IrType-F IrType) → roll-IrType l ≡ u → 105 ≡ byte_of l → ⊥
      go (IrType-F.Int v) r h = none v (sym r ∙ rolls-Int v)
      go IrType-F.Ptr r h = omega (arith, h)
      go (IrType-F.Array at len x) r h = omega (arith, h)
      go (IrType-F.Struct at fs true) r h = omega (arith, h)
      go (IrType-F.Struct at fs false) r h = omega (arith, h)
      go (IrType-F.Named name at) r h = omega (arith, h)

  pub ptr_alone : t ≡ types.Ptr → (u ≡ types.Ptr → ⊥) → Alike → ⊥
  ptr_alone is none e = go (out-IrType u) (rolled u) (shared_with IrType-F.Ptr (is ∙ sym rolls-Ptr) e)
    where
      go : (l : IrType-F IrType) → roll-IrType l ≡ u → 112 ≡ byte_of l → ⊥
      go (IrType-F.Int v) r h = omega (arith, h)
      go IrType-F.Ptr r h = none (sym r ∙ rolls-Ptr)
      go (IrType-F.Array at len x) r h = omega (arith, h)
      go (IrType-F.Struct at fs true) r h = omega (arith, h)
      go (IrType-F.Struct at fs false) r h = omega (arith, h)
      go (IrType-F.Named name at) r h = omega (arith, h)

  pub array_alone : (at len : ℕ) (x : IrType) → t ≡ types.Array at len x → ((a l : ℕ) (y : IrType) → u ≡ types.Array a l y → ⊥) → Alike → ⊥
  array_alone at len x is none e = go (out-IrType u) (rolled u) (shared_with (IrType-F.Array at len x) (is ∙ sym (rolls-Array at len x)) e)
    where
      go : (l : IrType-F IrType) → roll-IrType l ≡ u → 91 ≡ byte_of l → ⊥
      go (IrType-F.Int v) r h = omega (arith, h)
      go IrType-F.Ptr r h = omega (arith, h)
      go (IrType-F.Array a l y) r h = none a l y (sym r ∙ rolls-Array a l y)
      go (IrType-F.Struct at fs true) r h = omega (arith, h)
      go (IrType-F.Struct at fs false) r h = omega (arith, h)
      go (IrType-F.Named name at) r h = omega (arith, h)

  pub struct_alone : (at : ℕ) (fs : List IrType) (packed : Bool) → t ≡ types.Struct at fs packed → ((a : ℕ) (gs : List IrType) (b : Bool) → u ≡ types.Struct a gs b → ⊥) → Alike → ⊥
  struct_alone at fs packed is none e = go (out-IrType u) (rolled u) packed (shared_with (IrType-F.Struct at fs packed) (is ∙ sym (rolls-Struct at fs packed)) e)
    where
      go : (l : IrType-F IrType) → roll-IrType l ≡ u → (b : Bool) → byte_of (IrType-F.Struct at fs b) ≡ byte_of l → ⊥
      go (IrType-F.Int v) r true h = omega (arith, h)
      go (IrType-F.Int v) r false h = omega (arith, h)
      go IrType-F.Ptr r true h = omega (arith, h)
      go IrType-F.Ptr r false h = omega (arith, h)
      go (IrType-F.Array a l y) r true h = omega (arith, h)
      go (IrType-F.Array a l y) r false h = omega (arith, h)
      go (IrType-F.Struct a gs b) r c h = none a gs b (sym r ∙ rolls-Struct a gs b)
      go (IrType-F.Named name a) r true h = omega (arith, h)
      go (IrType-F.Named name a) r false h = omega (arith, h)

  pub named_alone : (name : List ℕ) (at : ℕ) → t ≡ types.Named name at → ((x : List ℕ) (a : ℕ) → u ≡ types.Named x a → ⊥) → Alike → ⊥
  named_alone name at is none e = go (out-IrType u) (rolled u) (shared_with (IrType-F.Named name at) (is ∙ sym (rolls-Named name at)) e)
    where
      go : (l : IrType-F IrType) → roll-IrType l ≡ u → 37 ≡ byte_of l → ⊥
      go (IrType-F.Int v) r h = omega (arith, h)
      go IrType-F.Ptr r h = omega (arith, h)
      go (IrType-F.Array at len x) r h = omega (arith, h)
      go (IrType-F.Struct at fs true) r h = omega (arith, h)
      go (IrType-F.Struct at fs false) r h = omega (arith, h)
      go (IrType-F.Named x a) r h = none x a (sym r ∙ rolls-Named x a)

one_text : (x y : List ℕ) → x ∷ [] ≡ y ∷ [] → x ≡ y
one_text x y e = cc

-- ---- levels of one kind

module _ (ts : List TypeDefinition) (n m : ℕ) where
  pub ints_alike : (t u : IrType) (w v : ℕ) (r : Bool) → t ≡ types.Int w → u ≡ types.Int v → Decides r (width_text w ≡ width_text v) → Decides r (spelled n ts t ≡ spelled m ts u)
  ints_alike t u w v r is it d =
      let one = ap (spelled n ts) is ∙ spelled_int ts n w in
      let two = ap (spelled m ts) it ∙ spelled_int ts m v in
      through_fact r (λ h. one ∙ (ap (λ (x : List ℕ). x ∷ []) h ∙ sym two)) (λ h. one_text (width_text w) (width_text v) (sym one ∙ (h ∙ two))) d

  pub ptrs_alike : (t u : IrType) → t ≡ types.Ptr → u ≡ types.Ptr → spelled n ts t ≡ spelled m ts u
  ptrs_alike t u is it = (ap (spelled n ts) is ∙ spelled_ptr ts n) ∙ sym (ap (spelled m ts) it ∙ spelled_ptr ts m)

  pub names_alike : (t u : IrType) (x y : List ℕ) (at from : ℕ) (r : Bool) → t ≡ types.Named x at → u ≡ types.Named y from → replaced n ts t ≡ None → replaced m ts u ≡ None → Decides r (local_text x ≡ local_text y)
      → Decides r (spelled n ts t ≡ spelled m ts u)
  names_alike t u x y at from r is it p q d =
      let one = ap (spelled n ts) is ∙ spelled_kept ts n x at (sym (ap (replaced_level n ts) (out_is t (IrType-F.Named x at) (is ∙ sym (rolls-Named x at)))) ∙ p) in
      let two = ap (spelled m ts) it ∙ spelled_kept ts m y from (sym (ap (replaced_level m ts) (out_is u (IrType-F.Named y from) (it ∙ sym (rolls-Named y from)))) ∙ q) in
      through_fact r (λ h. one ∙ (ap (λ (z : List ℕ). z ∷ []) h ∙ sym two)) (λ h. one_text (local_text x) (local_text y) (sym one ∙ (h ∙ two))) d

  length_shared : (a b : List ℕ) (xs ys : List (List ℕ)) → codes "[" ∷ a ∷ codes "x" ∷ xs ≡ codes "[" ∷ b ∷ codes "x" ∷ ys → (a ≡ b) × (xs ≡ ys)
  length_shared a b xs ys e = (cc, cc)

  module _ (t u e f : IrType) (at len from size : ℕ) (is : t ≡ types.Array at len e) (it : u ≡ types.Array from size f) where
    abbrev elements : IrType → ℕ → List (List ℕ)
    elements x k = spelled k ts x ++ codes "]" ∷ []

    array_one : spelled n ts t ≡ codes "[" ∷ decimal len ∷ codes "x" ∷ elements e n
    array_one = ap (spelled n ts) is ∙ spelled_array ts n at len e

    array_two : spelled m ts u ≡ codes "[" ∷ decimal size ∷ codes "x" ∷ elements f m
    array_two = ap (spelled m ts) it ∙ spelled_array ts m from size f

    arrays_shared : spelled n ts t ≡ spelled m ts u → (decimal len ≡ decimal size) × (elements e n ≡ elements f m)
    arrays_shared h = length_shared (decimal len) (decimal size) (elements e n) (elements f m) (sym array_one ∙ (h ∙ array_two))

    pub arrays_apart : (decimal len ≡ decimal size → ⊥) → spelled n ts t ≡ spelled m ts u → ⊥
    arrays_apart none h = none (arrays_shared h).0

    pub arrays_alike : (x y : IrType) (r : Bool) → x ≡ e → y ≡ f → decimal len ≡ decimal size → Decides r (spelled n ts x ≡ spelled m ts y) → Decides r (spelled n ts t ≡ spelled m ts u)
    arrays_alike x y r ex ey l d =
        let one = ap (spelled n ts) ex in
        let two = ap (spelled m ts) ey in
        through_fact r
        (λ h. array_one
        ∙ (ap (λ (a : List ℕ). codes "[" ∷ a ∷ codes "x" ∷ elements e n) l
        ∙ (ap (λ (xs : List (List ℕ)). codes "[" ∷ decimal size ∷ codes "x" ∷ (xs ++ codes "]" ∷ [])) (sym one ∙ (h ∙ two)) ∙ sym array_two)))
        (λ h. one ∙ (append_cancel_right (spelled n ts e) (spelled m ts f) (codes "]" ∷ []) (arrays_shared h).1 ∙ sym two)) d

  opening_same : (a b : Bool) (xs ys : List (List ℕ)) → opening a ∷ xs ≡ opening b ∷ ys → a ≡ b
  opening_same true true xs ys e = refl
  opening_same true false xs ys e = absurd cc
  opening_same false true xs ys e = absurd cc
  opening_same false false xs ys e = refl

  behind_opening : (a : Bool) (xs ys : List (List ℕ)) → opening a ∷ xs ≡ opening a ∷ ys → xs ≡ ys
  behind_opening a xs ys e = cc

  module _ (t u : IrType) (fs gs : List IrType) (at from : ℕ) (a b : Bool) (is : t ≡ types.Struct at fs a) (it : u ≡ types.Struct from gs b) where
    struct_one : spelled n ts t ≡ opening a ∷ (separated (map (spelled n ts) fs) ++ closing a ∷ [])
    struct_one = ap (spelled n ts) is ∙ spelled_struct ts n at fs a

    struct_two : spelled m ts u ≡ opening b ∷ (separated (map (spelled m ts) gs) ++ closing b ∷ [])
    struct_two = ap (spelled m ts) it ∙ spelled_struct ts m from gs b

    pub structs_apart : (a ≡ b → ⊥) → spelled n ts t ≡ spelled m ts u → ⊥
    structs_apart none h = none (opening_same a b (separated (map (spelled n ts) fs) ++ closing a ∷ []) (separated (map (spelled m ts) gs) ++ closing b ∷ []) (sym struct_one ∙ (h ∙ struct_two)))

    pub structs_alike : (xs ys : List IrType) (r : Bool) → xs ≡ fs → ys ≡ gs → a ≡ b → Decides r (map (spelled n ts) xs ≡ map (spelled m ts) ys) → Decides r (spelled n ts t ≡ spelled m ts u)
    structs_alike xs ys r ex ey same_packed d =
        let one = ap (map (spelled n ts)) ex in
        let two = ap (map (spelled m ts)) ey in
        let other : spelled m ts u ≡ opening a ∷ (separated (map (spelled m ts) gs) ++ closing a ∷ []) =
        struct_two ∙ ap (λ (c : Bool). opening c ∷ (separated (map (spelled m ts) gs) ++ closing c ∷ [])) (sym same_packed) in
        through_fact r
        (λ h. struct_one ∙ (ap (λ (zs : List (List (List ℕ))). opening a ∷ (separated zs ++ closing a ∷ [])) (sym one ∙ (h ∙ two)) ∙ sym other))
        (λ h. one
        ∙ (separated_same (map (spelled n ts) fs) (map (spelled m ts) gs) (fields_shaped ts n fs) (fields_shaped ts m gs)
        (append_cancel_right (separated (map (spelled n ts) fs)) (separated (map (spelled m ts) gs)) (closing a ∷ [])
        (behind_opening a (separated (map (spelled n ts) fs) ++ closing a ∷ []) (separated (map (spelled m ts) gs) ++ closing a ∷ []) (sym struct_one ∙ (h ∙ other))))
        ∙ sym two)) d

-- ---- types one by one

module _ (f g : IrType → List (List ℕ)) where
  map_at : (h : IrType → List (List ℕ)) (xs : List IrType) (i : ℕ) (x : IrType) → i < length xs → get_or (map h xs) i [] ≡ h (get_or xs i x)
  map_at h [] i x lt = absurd (omega (arith, lt))
  map_at h (y ∷ ys) zero x lt = refl
  map_at h (y ∷ ys) (suc i) x lt = map_at h ys i x (omega (arith, lt))

  pub one_apart : (xs ys : List IrType) (i : ℕ) (x y : IrType) → i < length xs → length xs ≡ length ys → x ≡ get_or xs i x → y ≡ get_or ys i y → (f x ≡ g y → ⊥) → map f xs ≡ map g ys → ⊥
  one_apart xs ys i x y lt l ex ey none h =
      none (ap f ex ∙ (sym (map_at f xs i x lt) ∙ (ap (λ (zs : List (List (List ℕ))). get_or zs i []) h ∙ (map_at g ys i y (omega (arith, lt, l)) ∙ ap g (sym ey)))))

  pub one_more : (xs ys : List IrType) (i : ℕ) (x y : IrType) → i < length xs → length xs ≡ length ys → x ≡ get_or xs i x → y ≡ get_or ys i y → f x ≡ g y → map f (take i xs) ≡ map g (take i ys)
      → map f (take (i + 1) xs) ≡ map g (take (i + 1) ys)
  one_more xs ys i x y lt l ex ey e h =
      ap (map f) (take_more xs i x lt) ∙ (map_push f (take i xs) (get_or xs i x)
      ∙ (ap (λ (z : List (List ℕ)). map f (take i xs) ++ z ∷ []) (ap f (sym ex) ∙ (e ∙ ap g ey))
      ∙ (ap (λ (zs : List (List (List ℕ))). zs ++ g (get_or ys i y) ∷ []) h
      ∙ (sym (map_push g (take i ys) (get_or ys i y)) ∙ sym (ap (map g) (take_more ys i y (omega (arith, lt, l))))))))

  pub all_alike : (xs ys : List IrType) (i : ℕ) → length xs ≤ i → length xs ≡ length ys → map f (take i xs) ≡ map g (take i ys) → map f xs ≡ map g ys
  all_alike xs ys i le l h = sym (ap (map f) (take_all i xs le)) ∙ (h ∙ ap (map g) (take_all i ys (omega (arith, le, l))))

  map_length : (h : IrType → List (List ℕ)) (xs : List IrType) → length (map h xs) ≡ length xs
  map_length h [] = refl
  map_length h (x ∷ xs) = ap suc (map_length h xs)

  pub lengths_apart : (xs ys : List IrType) → (length xs ≡ length ys → ⊥) → map f xs ≡ map g ys → ⊥
  lengths_apart xs ys none h = none (sym (map_length f xs) ∙ (ap (λ (zs : List (List (List ℕ))). length zs) h ∙ map_length g ys))

-- ---- measures

pub sum_at : (f : IrType → ℕ) (xs : List IrType) (i : ℕ) (x : IrType) → i < length xs → x ≡ get_or xs i x → f x ≤ sum (map f xs)
sum_at f xs i x lt e = go (ap f e) (at xs i lt)
  where
    at : (xs : List IrType) (i : ℕ) → i < length xs → f (get_or xs i x) ≤ sum (map f xs)
    at [] i lt = absurd (omega (arith, lt))
    at (y ∷ ys) zero lt = omega arith
    at (y ∷ ys) (suc i) lt = let h = at ys i (omega (arith, lt)) in omega (arith, h)

    go : f x ≡ f (get_or xs i x) → f (get_or xs i x) ≤ sum (map f xs) → f x ≤ sum (map f xs)
    go e h = omega (arith, e, h)

-- ---- what the code returns

pub not_so : {P : Type 0} (r : Bool) → r ≡ false → Decides r P → P → ⊥
not_so r e d p = false_true (sym e ∙ d.1 p)

pub one_name : (ts : List TypeDefinition) (n m : ℕ) (t u : IrType) (x y : List ℕ) (at from : ℕ) → t ≡ types.Named x at → u ≡ types.Named y from → n ≡ m → x ≡ y → spelled n ts t ≡ spelled m ts u
one_name ts n m t u x y at from is it e h =
    ap (spelled n ts) is
    ∙ (ap (λ (z : List ℕ). spelled n ts (types.Named z at)) h ∙ (places_apart ts n y at from ∙ (ap (λ (k : ℕ). spelled k ts (types.Named y from)) e ∙ sym (ap (spelled m ts) it))))

pub one_type : (ts : List TypeDefinition) (t u : IrType) (r : Bool) → Decides r (spelled (length ts) ts t ≡ spelled (length ts) ts u) → r ≡ is_one_type ts t u
unfolding expanded
one_type ts t u r d = all_decided (spelled (length ts) ts t) (spelled (length ts) ts u) r d

pub width_decides : (a b : ℕ) → a < 2 ^ 64 → b < 2 ^ 64 → Decides (a == b) (width_text a ≡ width_text b)
width_decides a b p q = (λ t. ap width_text (eqb-true a b t), λ h. eq-eqb a b (decimal_injective a b p q (tail_same 105 105 (decimal a) (decimal b) h)))

pub length_decides : (a b : ℕ) → a < 2 ^ 64 → b < 2 ^ 64 → Decides (a == b) (decimal a ≡ decimal b)
length_decides a b p q = (λ t. ap decimal (eqb-true a b t), λ h. eq-eqb a b (decimal_injective a b p q h))

pub by_texts : (x y a b : List ℕ) (r : Bool) → x ≡ a → y ≡ b → Decides r (local_text x ≡ local_text y) → Decides r (local_text a ≡ local_text b)
by_texts x y a b r e d h = through_fact r (λ p. sym (ap local_text e) ∙ (p ∙ ap local_text d)) (λ p. ap local_text e ∙ (p ∙ sym (ap local_text d))) h
