-- Lists of tokens at the end of others, level by level.
use Rattle.std.proofs.Common.{◌≡◌, ℕ, Bool, true, false, cond, eqb, zero, suc, ◌+◌, ◌<◌, length, take, drop, get_or, arith, List, [], ◌∷◌, ◌++◌, map, refl, sym, ap, ◌∙◌, append_assoc}
use Rattle.std.specs.Prelude.{codes}
use Rattle.std.proofs.lemmas.List.{append-nil, take_more, map_push}
use Rattle.std.proofs.lemmas.Bool.{eqb-true}
use Rattle.ir_tree.specs.declared.types.IrType.{IrType}
use Rattle.ir_tree.specs.declared.types.IrType.TheVariants as types
use Rattle.ir_tree.specs.declared.types.Name.{Name}
use Rattle.ir_tree.specs.declared.constants.ConstIndex.{ConstIndex}
use Rattle.ir_tree.specs.declared.constants.GepLevel.{GepLevel}
use Rattle.ir_tree.specs.Pages.{comma_before}
use Rattle.ir_tree.specs.Spelling.{opening, closing, others, separated, type_tokens, const_index_tokens, gep_tokens}
use Rattle.ir_tree.specs.Texts.{integer_text, width_text, local_text}
use Rattle.ir_tree.proofs.Spelled.{int_tokens, ptr_tokens, array_tokens, struct_tokens, named_tokens}

abbrev pub Tokens : Type 0
Tokens = List (List ℕ)

-- ---- types

pub one_pushed : (kind plain : IrType) (token : List ℕ) (w a : Tokens) → kind ≡ plain → type_tokens plain ≡ token ∷ [] → a ≡ w ++ token ∷ [] → a ≡ w ++ type_tokens kind
one_pushed kind plain token w a is level e = e ∙ ap (λ (k : Tokens). w ++ k) (sym (ap type_tokens is ∙ level))

array_group : (w element : Tokens) (x y z u : List ℕ) → ((((w ++ x ∷ []) ++ y ∷ []) ++ z ∷ []) ++ element) ++ u ∷ [] ≡ w ++ (x ∷ y ∷ z ∷ (element ++ u ∷ []))
array_group w element x y z u = simp append_assoc

pub array_pushed : (at len : ℕ) (element kind : IrType) (w a b c d e : Tokens) → kind ≡ types.Array at len element → a ≡ w ++ codes "[" ∷ [] → b ≡ a ++ integer_text (record { negative = false; magnitude = len }) ∷ []
    → c ≡ b ++ codes "x" ∷ [] → d ≡ c ++ type_tokens element → e ≡ d ++ codes "]" ∷ [] → e ≡ w ++ type_tokens kind
array_pushed at len element kind w a b c d e is ea eb ec ed ee =
    let number = integer_text (record { negative = false; magnitude = len }) in
    let all : e ≡ ((((w ++ codes "[" ∷ []) ++ number ∷ []) ++ codes "x" ∷ []) ++ type_tokens element) ++ codes "]" ∷ [] = cc in
    all ∙ array_group w (type_tokens element) (codes "[") number (codes "x") (codes "]") ∙ ap (λ (k : Tokens). w ++ k) (sym (ap type_tokens is ∙ array_tokens at len element))

struct_group : (w fields : Tokens) (x y : List ℕ) → ((w ++ x ∷ []) ++ fields) ++ y ∷ [] ≡ w ++ (x ∷ (fields ++ y ∷ []))
struct_group w fields x y = simp append_assoc

pub struct_pushed : (at : ℕ) (fields : List IrType) (packed : Bool) (kind : IrType) (w a b c : Tokens) → kind ≡ types.Struct at fields packed → a ≡ w ++ opening packed ∷ [] → b ≡ a ++ separated (map type_tokens fields)
    → c ≡ b ++ closing packed ∷ [] → c ≡ w ++ type_tokens kind
struct_pushed at fields packed kind w a b c is ea eb ec =
    let all : c ≡ ((w ++ opening packed ∷ []) ++ separated (map type_tokens fields)) ++ closing packed ∷ [] = cc in
    all ∙ struct_group w (separated (map type_tokens fields)) (opening packed) (closing packed) ∙ ap (λ (k : Tokens). w ++ k) (sym (ap type_tokens is ∙ struct_tokens at fields packed))

-- ---- lists with commas

others_push : (xs : List Tokens) (x : Tokens) → others (xs ++ x ∷ []) ≡ others xs ++ (codes "," ∷ x)
others_push [] x = ap (λ r. codes "," ∷ r) (append-nil x)
others_push (y ∷ ys) x = ap (λ r. codes "," ∷ (y ++ r)) (others_push ys x) ∙ ap (λ r. codes "," ∷ r) (sym (append_assoc y (others ys) (codes "," ∷ x)))

abbrev is_nil : List Tokens → Bool
is_nil [] = true
is_nil (x ∷ xs) = false

separated_push : (xs : List Tokens) (x : Tokens) → separated (xs ++ x ∷ []) ≡ separated xs ++ (cond (is_nil xs) [] (codes "," ∷ []) ++ x)
separated_push [] x = append-nil x
separated_push (y ∷ ys) x = ap (λ r. y ++ r) (others_push ys x) ∙ sym (append_assoc y (others ys) (codes "," ∷ x))

above_zero : (n : ℕ) → 0 < n → eqb n 0 ≡ false
above_zero n lt = go (eqb n 0) refl
  where
    go : (b : Bool) → eqb n 0 ≡ b → b ≡ false
    go false q = refl
    go true q = absurd (omega (arith, lt, eqb-true n 0 q))

nil_at : {A : Type 0} (f : A → Tokens) (xs : List A) (i : ℕ) → i < length xs → is_nil (map f (take i xs)) ≡ eqb i 0
nil_at f [] i lt = absurd (omega (arith, lt))
nil_at f (x ∷ xs) zero lt = refl
nil_at f (x ∷ xs) (suc i) lt = sym (above_zero (suc i) (omega arith))

pub separated_more : (xs : List IrType) (i : ℕ) (x : IrType) (w p q r : Tokens) → i < length xs → x ≡ get_or xs i x → p ≡ w ++ separated (map type_tokens (take i xs)) → q ≡ p ++ comma_before i
    → r ≡ q ++ type_tokens x → r ≡ w ++ separated (map type_tokens (take (i + 1) xs))
separated_more xs i x w p q r lt is ep eq er =
    let before : Tokens = separated (map type_tokens (take i xs)) in
    let more : map type_tokens (take (i + 1) xs) ≡ map type_tokens (take i xs) ++ type_tokens x ∷ [] =
    ap (map type_tokens) (take_more xs i x lt) ∙ map_push type_tokens (take i xs) (get_or xs i x) ∙ ap (λ y. map type_tokens (take i xs) ++ type_tokens y ∷ []) (sym is) in
    let comma : comma_before i ≡ cond (is_nil (map type_tokens (take i xs))) [] (codes "," ∷ []) = ap (λ b. cond b [] (codes "," ∷ [])) (sym (nil_at type_tokens xs i lt)) in
    er ∙ ap (λ (u : Tokens). u ++ type_tokens x) (eq ∙ ap (λ (u : Tokens). u ++ comma_before i) ep) ∙ append_assoc (w ++ before) (comma_before i) (type_tokens x) ∙ append_assoc w before (comma_before i ++ type_tokens x)
    ∙ ap (λ (u : Tokens). w ++ u) (ap (λ (c : Tokens). before ++ (c ++ type_tokens x)) comma ∙ sym (separated_push (map type_tokens (take i xs)) (type_tokens x)) ∙ ap separated (sym more))

-- ---- constant expressions

gep_group : (w source inner indices : Tokens) (x y z u v : List ℕ) →
    (((((((w ++ x ∷ []) ++ y ∷ []) ++ source) ++ z ∷ []) ++ u ∷ []) ++ inner) ++ indices) ++ v ∷ [] ≡ w ++ (x ∷ y ∷ (source ++ z ∷ u ∷ (inner ++ (indices ++ v ∷ []))))
gep_group w source inner indices x y z u v = simp append_assoc

pub gep_pushed : (base : Name) (levels inner : List GepLevel) (indices : List ConstIndex) (level : GepLevel) (w a b c d e f g h : Tokens) → 0 < length levels → level ≡ get_or levels 0 level → inner ≡ drop 1 levels → indices ≡ level.indices
    → a ≡ w ++ codes "getelementptr" ∷ [] → b ≡ a ++ codes "(" ∷ [] → c ≡ b ++ type_tokens level.source → d ≡ c ++ codes "," ∷ [] → e ≡ d ++ codes "ptr" ∷ [] → f ≡ e ++ gep_tokens base inner
    → g ≡ f ++ others (map const_index_tokens indices) → h ≡ g ++ codes ")" ∷ [] → h ≡ w ++ gep_tokens base levels
gep_pushed base [] inner indices level w a b c d e f g h some is rest at ea eb ec ed ee ef eg eh = absurd (omega (arith, some))
gep_pushed base (l ∷ ls) inner indices level w a b c d e f g h some is rest at ea eb ec ed ee ef eg eh =
    let source : type_tokens level.source ≡ type_tokens l.source = ap (λ x. type_tokens x.source) is in
    let more : others (map const_index_tokens indices) ≡ others (map const_index_tokens l.indices) = ap (λ xs. others (map const_index_tokens xs)) (at ∙ ap (λ x. x.indices) is) in
    let within : gep_tokens base inner ≡ gep_tokens base ls = ap (gep_tokens base) rest in
    let all : h ≡ (((((((w ++ codes "getelementptr" ∷ []) ++ codes "(" ∷ []) ++ type_tokens l.source) ++ codes "," ∷ []) ++ codes "ptr" ∷ []) ++ gep_tokens base ls) ++ others (map const_index_tokens l.indices)) ++ codes ")" ∷ [] = cc in
    all ∙ gep_group w (type_tokens l.source) (gep_tokens base ls) (others (map const_index_tokens l.indices)) (codes "getelementptr") (codes "(") (codes ",") (codes "ptr") (codes ")")
