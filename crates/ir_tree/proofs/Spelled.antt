-- Lists of tokens at the end of a text, and the tokens of types and constants level by level.
use Rattle.std.proofs.Common.{◌≡◌, ℕ, Bool, true, false, cond, eqb, zero, suc, ◌+◌, ◌<◌, length, take, drop, get_or, arith, List, [], ◌∷◌, ◌++◌, refl, sym, ap, ◌∙◌, append_assoc}
use Rattle.std.specs.Prelude.{map, codes}
use Rattle.std.proofs.lemmas.List.{append-nil, take_more, map_push}
use Rattle.std.proofs.lemmas.Bool.{eqb-true}
use Rattle.ir_tree.specs.declared.types.IrType.{IrType}
use Rattle.ir_tree.specs.declared.types.IrType.TheVariants as types
use Rattle.ir_tree.specs.declared.types.IrType.TheOpen.{IrType-F}
use Rattle.ir_tree.specs.declared.types.Name.{Name}
use Rattle.ir_tree.specs.declared.constants.Value.{Value}
use Rattle.ir_tree.specs.declared.constants.ConstIndex.{ConstIndex}
use Rattle.ir_tree.specs.declared.constants.GepLevel.{GepLevel}
use Rattle.ir_tree.specs.declared.constants.Constant.{Constant, fold-Constant, fold-roll-Constant}
use Rattle.ir_tree.specs.declared.constants.Constant.TheVariants as constants
use Rattle.ir_tree.specs.declared.constants.Constant.TheOpen.{Constant-F}
use Rattle.ir_tree.specs.declared.constants.Constant.TheViews as views
use Rattle.ir_tree.specs.declared.instructions.Index.{Index}
use Rattle.ir_tree.specs.declared.instructions.Operation.{Operation}
use Rattle.ir_tree.specs.declared.instructions.Operation.TheVariants as operations
use Rattle.ir_tree.specs.Texts.{integer_text, string_text}
use Rattle.ir_tree.specs.Spelling.{opening, closing, others, separated, joined, type_level, type_tokens, const_index_tokens, gep_tokens, index_tokens, value_tokens, pointer_tokens, operation_tokens, constant_level, constant_tokens}
use Rattle.ir_tree.specs.Pages.{Written, with_token, after, comma_before}
use Rattle.ir_tree.proofs.Levels.{fold_int, fold_ptr, fold_array, fold_struct, fold_named}
use Rattle.ir_tree.proofs.Writing.{after_append}

-- ---- one level at a time

pub int_tokens : (n : ℕ) → type_tokens (types.Int n) ≡ type_level (IrType-F.Int n)
unfolding type_tokens
int_tokens n = fold_int type_level n

pub ptr_tokens : type_tokens types.Ptr ≡ type_level IrType-F.Ptr
unfolding type_tokens
ptr_tokens = fold_ptr type_level

pub array_tokens : (at len : ℕ) (e : IrType) → type_tokens (types.Array at len e) ≡ type_level (IrType-F.Array at len (type_tokens e))
unfolding type_tokens
array_tokens at len e = fold_array type_level at len e

pub struct_tokens : (at : ℕ) (fields : List IrType) (packed : Bool) → type_tokens (types.Struct at fields packed) ≡ type_level (IrType-F.Struct at (map type_tokens fields) packed)
unfolding type_tokens
struct_tokens at fields packed = fold_struct type_level at fields packed

pub named_tokens : (name : List ℕ) (at : ℕ) → type_tokens (types.Named name at) ≡ type_level (IrType-F.Named name at)
unfolding type_tokens
named_tokens name at = fold_named type_level name at

pub value_constant : (kind : IrType) (value : Value) → constant_tokens (constants.Value kind value) ≡ constant_level (Constant-F.Value kind value)
unfolding constant_tokens
value_constant kind value = ap (fold-Constant _ constant_level) (sym (views.rolls-Value kind value)) ∙ fold-roll-Constant _ constant_level (Constant-F.Value kind value)

pub bytes_constant : (kind : IrType) (at : ℕ) (bytes : List ℕ) → constant_tokens (constants.Bytes kind at bytes) ≡ constant_level (Constant-F.Bytes kind at bytes)
unfolding constant_tokens
bytes_constant kind at bytes = ap (fold-Constant _ constant_level) (sym (views.rolls-Bytes kind at bytes)) ∙ fold-roll-Constant _ constant_level (Constant-F.Bytes kind at bytes)

pub array_constant : (kind : IrType) (at : ℕ) (cs : List Constant) → constant_tokens (constants.Array kind at cs) ≡ constant_level (Constant-F.Array kind at (map constant_tokens cs))
unfolding constant_tokens
array_constant kind at cs = ap (fold-Constant _ constant_level) (sym (views.rolls-Array kind at cs)) ∙ fold-roll-Constant _ constant_level (Constant-F.Array kind at cs)

pub struct_constant : (kind : IrType) (at : ℕ) (cs : List Constant) (packed : Bool) → constant_tokens (constants.Struct kind at cs packed) ≡ constant_level (Constant-F.Struct kind at (map constant_tokens cs) packed)
unfolding constant_tokens
struct_constant kind at cs packed = ap (fold-Constant _ constant_level) (sym (views.rolls-Struct kind at cs packed)) ∙ fold-roll-Constant _ constant_level (Constant-F.Struct kind at cs packed)

-- ---- lists

others_push : (xs : List (List (List ℕ))) (x : List (List ℕ)) → others (xs ++ x ∷ []) ≡ others xs ++ (codes "," ∷ x)
others_push [] x = ap (λ r. codes "," ∷ r) (append-nil x)
others_push (y ∷ ys) x = ap (λ r. codes "," ∷ (y ++ r)) (others_push ys x) ∙ ap (λ r. codes "," ∷ r) (sym (append_assoc y (others ys) (codes "," ∷ x)))

joined_push : (xs : List (List (List ℕ))) (x : List (List ℕ)) → joined (xs ++ x ∷ []) ≡ joined xs ++ x
joined_push [] x = append-nil x
joined_push (y ∷ ys) x = ap (λ r. y ++ r) (joined_push ys x) ∙ sym (append_assoc y (joined ys) x)

abbrev is_nil : List (List (List ℕ)) → Bool
is_nil [] = true
is_nil (x ∷ xs) = false

separated_push : (xs : List (List (List ℕ))) (x : List (List ℕ)) → separated (xs ++ x ∷ []) ≡ separated xs ++ (cond (is_nil xs) [] (codes "," ∷ []) ++ x)
separated_push [] x = append-nil x
separated_push (y ∷ ys) x = ap (λ r. y ++ r) (others_push ys x) ∙ sym (append_assoc y (others ys) (codes "," ∷ x))

above_zero : (n : ℕ) → 0 < n → eqb n 0 ≡ false
above_zero n lt = go (eqb n 0) refl
  where
    go : (b : Bool) → eqb n 0 ≡ b → b ≡ false
    go false q = refl
    go true q = absurd (omega (arith, lt, eqb-true n 0 q))

nil_at : {A : Type 0} (f : A → List (List ℕ)) (xs : List A) (i : ℕ) → i < length xs → is_nil (map f (take i xs)) ≡ eqb i 0
nil_at f [] i lt = absurd (omega (arith, lt))
nil_at f (x ∷ xs) zero lt = refl
nil_at f (x ∷ xs) (suc i) lt = sym (above_zero (suc i) (omega arith))

module _ {A : Type 0} (f : A → List (List ℕ)) (xs : List A) (i : ℕ) (x : A) (lt : i < length xs) (is : x ≡ get_or xs i x) (w p : Written) where
  more : map f (take (i + 1) xs) ≡ map f (take i xs) ++ f x ∷ []
  more = ap (map f) (take_more xs i x lt) ∙ map_push f (take i xs) (get_or xs i x) ∙ ap (λ y. map f (take i xs) ++ f y ∷ []) (sym is)

  pub joined_more : (q : Written) → p ≡ after w (joined (map f (take i xs))) → q ≡ after p (f x) → q ≡ after w (joined (map f (take (i + 1) xs)))
  joined_more q ep eq =
      eq ∙ ap (λ r. after r (f x)) ep ∙ sym (after_append w (joined (map f (take i xs))) (f x)) ∙ ap (after w) (sym (joined_push (map f (take i xs)) (f x)) ∙ ap joined (sym more))

  pub others_more : (q r : Written) → p ≡ after w (others (map f (take i xs))) → q ≡ with_token p (codes ",") → r ≡ after q (f x) → r ≡ after w (others (map f (take (i + 1) xs)))
  others_more q r ep eq er =
      er ∙ ap (λ u. after u (f x)) (eq ∙ ap (λ u. with_token u (codes ",")) ep) ∙ sym (after_append w (others (map f (take i xs))) (codes "," ∷ f x))
      ∙ ap (after w) (sym (others_push (map f (take i xs)) (f x)) ∙ ap others (sym more))

  pub separated_more : (q r : Written) → p ≡ after w (separated (map f (take i xs))) → q ≡ after p (comma_before i) → r ≡ after q (f x) → r ≡ after w (separated (map f (take (i + 1) xs)))
  separated_more q r ep eq er =
      let comma : List (List ℕ) = cond (is_nil (map f (take i xs))) [] (codes "," ∷ []) in
      er ∙ ap (λ u. after u (f x)) (eq ∙ ap (λ b. after p (cond b [] (codes "," ∷ []))) (sym (nil_at f xs i lt)) ∙ ap (λ u. after u comma) ep)
      ∙ sym (after_append (after w (separated (map f (take i xs)))) comma (f x)) ∙ sym (after_append w (separated (map f (take i xs))) (comma ++ f x))
      ∙ ap (after w) (sym (separated_push (map f (take i xs)) (f x)) ∙ ap separated (sym more))

-- ---- one level of a type

pub array_put : (at len : ℕ) (element kind : IrType) (w a b c d e : Written) → kind ≡ types.Array at len element → a ≡ with_token w (codes "[") → b ≡ with_token a (integer_text (record { negative = false; magnitude = len }))
    → c ≡ with_token b (codes "x") → d ≡ after c (type_tokens element) → e ≡ with_token d (codes "]") → e ≡ after w (type_tokens kind)
array_put at len element kind w a b c d e is ea eb ec ed ee =
    let start = with_token (with_token (with_token w (codes "[")) (integer_text (record { negative = false; magnitude = len }))) (codes "x") in
    let closed : e ≡ with_token (after start (type_tokens element)) (codes "]") = cc in
    closed ∙ sym (after_append start (type_tokens element) (codes "]" ∷ [])) ∙ ap (after w) (sym (ap type_tokens is ∙ array_tokens at len element))

pub struct_put : (at : ℕ) (fields : List IrType) (packed : Bool) (kind : IrType) (w a b c : Written) → kind ≡ types.Struct at fields packed → a ≡ with_token w (opening packed) → b ≡ after a (separated (map type_tokens fields))
    → c ≡ with_token b (closing packed) → c ≡ after w (type_tokens kind)
struct_put at fields packed kind w a b c is ea eb ec =
    let closed : c ≡ with_token (after (with_token w (opening packed)) (separated (map type_tokens fields))) (closing packed) = cc in
    closed ∙ sym (after_append (with_token w (opening packed)) (separated (map type_tokens fields)) (closing packed ∷ [])) ∙ ap (after w) (sym (ap type_tokens is ∙ struct_tokens at fields packed))

-- ---- one level of a constant

pub value_put : (t : IrType) (value : Value) (constant : Constant) (w a b : Written) → constant ≡ constants.Value t value → a ≡ after w (type_tokens t) → b ≡ after a (value_tokens value) → b ≡ after w (constant_tokens constant)
value_put t value constant w a b is ea eb =
    let closed : b ≡ after (after w (type_tokens t)) (value_tokens value) = cc in
    closed ∙ sym (after_append w (type_tokens t) (value_tokens value)) ∙ ap (after w) (sym (ap constant_tokens is ∙ value_constant t value))

pub bytes_put : (t : IrType) (at : ℕ) (bytes : List ℕ) (constant : Constant) (w a b : Written) → constant ≡ constants.Bytes t at bytes → a ≡ after w (type_tokens t) → b ≡ with_token a (string_text bytes) → b ≡ after w (constant_tokens constant)
bytes_put t at bytes constant w a b is ea eb =
    let closed : b ≡ with_token (after w (type_tokens t)) (string_text bytes) = cc in
    closed ∙ sym (after_append w (type_tokens t) (string_text bytes ∷ [])) ∙ ap (after w) (sym (ap constant_tokens is ∙ bytes_constant t at bytes))

-- a list between two marks, behind a type
enclosed : (ts xs : List (List ℕ)) (opens closes : List ℕ) (w a b c d : Written) → a ≡ after w ts → b ≡ with_token a opens → c ≡ after b xs → d ≡ with_token c closes → d ≡ after w (ts ++ opens ∷ (xs ++ closes ∷ []))
enclosed ts xs opens closes w a b c d ea eb ec ed =
    let closed : d ≡ with_token (after (with_token (after w ts) opens) xs) closes = cc in
    closed ∙ sym (after_append (with_token (after w ts) opens) xs (closes ∷ [])) ∙ sym (after_append w ts (opens ∷ (xs ++ closes ∷ [])))

pub array_constant_put : (t : IrType) (at : ℕ) (cs : List Constant) (constant : Constant) (w a b c d : Written) → constant ≡ constants.Array t at cs → a ≡ after w (type_tokens t) → b ≡ with_token a (codes "[")
    → c ≡ after b (separated (map constant_tokens cs)) → d ≡ with_token c (codes "]") → d ≡ after w (constant_tokens constant)
array_constant_put t at cs constant w a b c d is ea eb ec ed =
    enclosed (type_tokens t) (separated (map constant_tokens cs)) (codes "[") (codes "]") w a b c d ea eb ec ed ∙ ap (after w) (sym (ap constant_tokens is ∙ array_constant t at cs))

pub struct_constant_put : (t : IrType) (at : ℕ) (cs : List Constant) (packed : Bool) (constant : Constant) (w a b c d : Written) → constant ≡ constants.Struct t at cs packed → a ≡ after w (type_tokens t) → b ≡ with_token a (opening packed)
    → c ≡ after b (separated (map constant_tokens cs)) → d ≡ with_token c (closing packed) → d ≡ after w (constant_tokens constant)
struct_constant_put t at cs packed constant w a b c d is ea eb ec ed =
    enclosed (type_tokens t) (separated (map constant_tokens cs)) (opening packed) (closing packed) w a b c d ea eb ec ed ∙ ap (after w) (sym (ap constant_tokens is ∙ struct_constant t at cs packed))

-- ---- one level of a constant expression

pub gep_put : (base : Name) (levels inner : List GepLevel) (indices : List ConstIndex) (level : GepLevel) (w a b c d e f g h : Written) → 0 < length levels → level ≡ get_or levels 0 level → inner ≡ drop 1 levels → indices ≡ level.indices
    → a ≡ with_token w (codes "getelementptr") → b ≡ with_token a (codes "(") → c ≡ after b (type_tokens level.source) → d ≡ with_token c (codes ",") → e ≡ with_token d (codes "ptr") → f ≡ after e (gep_tokens base inner)
    → g ≡ after f (others (map const_index_tokens indices)) → h ≡ with_token g (codes ")") → h ≡ after w (gep_tokens base levels)
gep_put base [] inner indices level w a b c d e f g h some is rest at ea eb ec ed ee ef eg eh = absurd (omega (arith, some))
gep_put base (l ∷ ls) inner indices level w a b c d e f g h some is rest at ea eb ec ed ee ef eg eh =
    let start = with_token (with_token w (codes "getelementptr")) (codes "(") in
    let opened : after w (gep_tokens base (l ∷ ls)) ≡ with_token (after (after (with_token (with_token (after start (type_tokens l.source)) (codes ",")) (codes "ptr")) (gep_tokens base ls)) (others (map const_index_tokens l.indices))) (codes ")") =
    simp after_append in
    let source : type_tokens level.source ≡ type_tokens l.source = ap (λ x. type_tokens x.source) is in
    let more : others (map const_index_tokens indices) ≡ others (map const_index_tokens l.indices) = ap (λ xs. others (map const_index_tokens xs)) (at ∙ ap (λ x. x.indices) is) in
    let within : gep_tokens base inner ≡ gep_tokens base ls = ap (gep_tokens base) rest in
    cc

-- ---- an address computed by an instruction

pub address_put : (source : IrType) (pointer : Value) (indices : List Index) (operation : Operation) (w a b c d e : Written) → operation ≡ operations.GetElementPtr source pointer indices → a ≡ with_token w (codes "getelementptr")
    → b ≡ after a (type_tokens source) → c ≡ with_token b (codes ",") → d ≡ after c (pointer_tokens pointer) → e ≡ after d (others (map index_tokens indices)) → e ≡ after w (operation_tokens operation)
address_put source pointer indices operation w a b c d e is ea eb ec ed ee =
    let start = with_token w (codes "getelementptr") in
    let opened : after w (operation_tokens (operations.GetElementPtr source pointer indices)) ≡ after (after (with_token (after start (type_tokens source)) (codes ",")) (pointer_tokens pointer)) (others (map index_tokens indices)) =
    after_append start (type_tokens source) (codes "," ∷ (pointer_tokens pointer ++ others (map index_tokens indices))) ∙ after_append (with_token (after start (type_tokens source)) (codes ",")) (pointer_tokens pointer) (others (map index_tokens indices)) in
    ee ∙ ap (λ u. after u (others (map index_tokens indices))) (ed ∙ ap (λ u. after u (pointer_tokens pointer)) (ec ∙ ap (λ u. with_token u (codes ",")) (eb ∙ ap (λ u. after u (type_tokens source)) ea)))
    ∙ sym opened ∙ ap (λ o. after w (operation_tokens o)) (sym is)
