-- Constants of globals are read again.
use Rattle.std.proofs.Common.{◌≡◌, ℕ, zero, suc, Bool, true, false, List, [], ◌∷◌, ◌++◌, Some, refl, sym, ap, subst, ◌∙◌}
use Rattle.std.specs.Prelude.{codes, map}
use Rattle.ir_lexer.specs.declared.token.TokenKind.TheVariants as kinds
use Rattle.ir_lexer.specs.Forms.{kind_of}
use Rattle.ir_tree.specs.declared.types.IrType.{IrType}
use Rattle.ir_tree.specs.declared.constants.Value.{Value}
use Rattle.ir_tree.specs.declared.constants.Constant.{Constant, fold-Constant, fold-roll-Constant}
use Rattle.ir_tree.specs.declared.constants.Constant.TheOpen.{Constant-F}
use Rattle.ir_tree.specs.declared.constants.Constant.TheViews.{rolls-Value, rolls-Bytes, rolls-Array, rolls-Struct}
use Rattle.ir_tree.specs.declared.constants.Constant.TheVariants as constants
use Rattle.ir_tree.specs.Texts.{string_text}
use Rattle.ir_tree.specs.Spelling.{separated, opening, closing, type_tokens, value_tokens, constant_level, constant_tokens}
use Rattle.ir_tree.specs.Places.{bare_type, bare_value, bare_constant_level, bare_constant}
use Rattle.phrases.specs.Piece.{matches}
use Rattle.phrases.specs.Phrase.{Phrase, one}
use Rattle.phrases.proofs.Combinators.{self}
use Rattle.ir_grammar.specs.Tokens.{a_cstr, mark, square}
use Rattle.ir_grammar.specs.Numbers.{fits_any}
use Rattle.ir_grammar.specs.Names.{string_bytes}
use Rattle.ir_grammar.specs.Types.{nesting}
use Rattle.ir_grammar.specs.Constants.{simple_constant, gep_constant, string_of, array_constant, struct_constant, flat_constant, constant_of, typed_constant}
use Rattle.printed_again.specs.Again.{are_bytes}
use Rattle.printed_again.proofs.Names.{string_is, string_again, string_has_bytes}
use Rattle.printed_again.proofs.Numbers.{when_some, any_bounded}
use Rattle.printed_again.proofs.Backs.{Back, bind, ends, gives, left, right, single, places}
use Rattle.printed_again.proofs.Tells.{Tells, step, over, made, or, told_as, token_tells}
use Rattle.printed_again.proofs.Lists.{moved, listed_back, listed_tell}
use Rattle.printed_again.proofs.Types.{SameType, mem_tells}
use Rattle.printed_again.proofs.Values.{SameValue, gep_operand_tells, simple_back, simple_tells}

-- ---- one level of a constant at a time

tokens_value : (t : IrType) (v : Value) → constant_tokens (constants.Value t v) ≡ type_tokens t ++ value_tokens v
unfolding constant_tokens
tokens_value t v = ap (fold-Constant (List (List ℕ)) constant_level) (sym (rolls-Value t v)) ∙ fold-roll-Constant (List (List ℕ)) constant_level (Constant-F.Value t v)

tokens_bytes : (t : IrType) (at : ℕ) (bytes : List ℕ) → constant_tokens (constants.Bytes t at bytes) ≡ type_tokens t ++ string_text bytes ∷ []
unfolding constant_tokens
tokens_bytes t at bytes = ap (fold-Constant (List (List ℕ)) constant_level) (sym (rolls-Bytes t at bytes)) ∙ fold-roll-Constant (List (List ℕ)) constant_level (Constant-F.Bytes t at bytes)

tokens_array : (t : IrType) (at : ℕ) (cs : List Constant) → constant_tokens (constants.Array t at cs) ≡ constant_level (Constant-F.Array t at (map constant_tokens cs))
unfolding constant_tokens
tokens_array t at cs = ap (fold-Constant (List (List ℕ)) constant_level) (sym (rolls-Array t at cs)) ∙ fold-roll-Constant (List (List ℕ)) constant_level (Constant-F.Array t at cs)

tokens_struct : (t : IrType) (at : ℕ) (cs : List Constant) (packed : Bool) → constant_tokens (constants.Struct t at cs packed) ≡ constant_level (Constant-F.Struct t at (map constant_tokens cs) packed)
unfolding constant_tokens
tokens_struct t at cs packed = ap (fold-Constant (List (List ℕ)) constant_level) (sym (rolls-Struct t at cs packed)) ∙ fold-roll-Constant (List (List ℕ)) constant_level (Constant-F.Struct t at cs packed)

bare_of_value : (t : IrType) (v : Value) → bare_constant (constants.Value t v) ≡ constants.Value (bare_type t) (bare_value v)
unfolding bare_constant
bare_of_value t v = ap (fold-Constant Constant bare_constant_level) (sym (rolls-Value t v)) ∙ fold-roll-Constant Constant bare_constant_level (Constant-F.Value t v)

bare_of_bytes : (t : IrType) (at : ℕ) (bytes : List ℕ) → bare_constant (constants.Bytes t at bytes) ≡ constants.Bytes (bare_type t) 0 bytes
unfolding bare_constant
bare_of_bytes t at bytes = ap (fold-Constant Constant bare_constant_level) (sym (rolls-Bytes t at bytes)) ∙ fold-roll-Constant Constant bare_constant_level (Constant-F.Bytes t at bytes)

bare_of_array : (t : IrType) (at : ℕ) (cs : List Constant) → bare_constant (constants.Array t at cs) ≡ constants.Array (bare_type t) 0 (map bare_constant cs)
unfolding bare_constant
bare_of_array t at cs = ap (fold-Constant Constant bare_constant_level) (sym (rolls-Array t at cs)) ∙ fold-roll-Constant Constant bare_constant_level (Constant-F.Array t at cs)

bare_of_struct : (t : IrType) (at : ℕ) (cs : List Constant) (packed : Bool) → bare_constant (constants.Struct t at cs packed) ≡ constants.Struct (bare_type t) 0 (map bare_constant cs) packed
unfolding bare_constant
bare_of_struct t at cs packed = ap (fold-Constant Constant bare_constant_level) (sym (rolls-Struct t at cs packed)) ∙ fold-roll-Constant Constant bare_constant_level (Constant-F.Struct t at cs packed)

-- ---- a constant behind its type

abbrev pub SameConstant : Constant → Constant → Type 0
SameConstant c d = bare_constant d ≡ bare_constant c

-- the phrase reads the constant behind a type like its own
pub record IsConstant (q : IrType → Phrase Constant) (t : IrType) (c : Constant) : Type 0 where
  pub rest : List (List ℕ)
  pub printed : constant_tokens c ≡ type_tokens t ++ rest
  pub back : (u : IrType) → SameType t u → Back (q u).derives rest (SameConstant c)

value_like : (t u : IrType) (v x : Value) → SameType t u → SameValue v x → SameConstant (constants.Value t v) (constants.Value u x)
value_like t u v x et ev = bare_of_value u x ∙ ap (λ k. constants.Value k (bare_value x)) et ∙ ap (constants.Value (bare_type t)) ev ∙ sym (bare_of_value t v)

simple_constant_tells : (t : IrType) → Tells (simple_constant t).derives (IsConstant simple_constant t)
simple_constant_tells t =
    step (simple_tells fits_any any_bounded) (λ v f.
    made (constants.Value t v) (record {
      rest = value_tokens v;
      printed = tokens_value t v;
      back = λ u e. ends (simple_back fits_any v f) (λ x ex. gives (constants.Value u x) (value_like t u v x e ex));
    }))

gep_constant_tells : (n : ℕ) (t : IrType) → Tells (gep_constant t n).derives (IsConstant (λ u. gep_constant u n) t)
gep_constant_tells n t =
    step (gep_operand_tells n) (λ v G.
    made (constants.Value t v) (record {
      rest = value_tokens v;
      printed = tokens_value t v;
      back = λ u e. ends G (λ x ex. gives (constants.Value u x) (value_like t u v x e ex));
    }))

bytes_constant : (t : IrType) (at : ℕ) (bytes : List ℕ) → are_bytes bytes ≡ true → IsConstant (λ u. one (string_of u)) t (constants.Bytes t at bytes)
bytes_constant t at bytes h = record {
  rest = string_text bytes ∷ [];
  printed = tokens_bytes t at bytes;
  back = λ u e.
      single (string_of u) (string_text bytes) kinds.CStr (string_is bytes h) (λ from. (
        constants.Bytes u from (string_bytes (string_text bytes)),
        refl,
        bare_of_bytes u from (string_bytes (string_text bytes)) ∙ ap (λ s. constants.Bytes (bare_type u) 0 s) (string_again bytes h) ∙ ap (λ k. constants.Bytes k 0 bytes) e ∙ sym (bare_of_bytes t at bytes),
      ));
}

string_tells : (t : IrType) → Tells (one (string_of t)).derives (IsConstant (λ u. one (string_of u)) t)
string_tells t =
    token_tells (string_of t) (λ p c bytes e.
    subst (IsConstant (λ u. one (string_of u)) t) (when_some (matches a_cstr p) (constants.Bytes t p.at (string_bytes p.text)) c e).1 (bytes_constant t p.at (string_bytes p.text) (string_has_bytes p.text bytes)))

module _ (inner : Phrase Constant) where
  abbrev InnerBack : Constant → Type 0
  InnerBack c = Back inner.derives (constant_tokens c) (SameConstant c)

  array_constant_tells : Tells inner.derives InnerBack → (t : IrType) → Tells (array_constant t inner).derives (IsConstant (λ u. array_constant u inner) t)
  array_constant_tells P t =
      over (λ at.
      step (listed_tell (codes "]") inner P) (λ cs h.
      made (constants.Array t at cs) (record {
        rest = codes "[" ∷ (separated (map constant_tokens cs) ++ codes "]" ∷ []);
        printed = tokens_array t at cs;
        back = λ u e.
            bind (places (square ∷ []) (codes "[") kinds.Punct refl (λ _. refl)) (λ from _.
            ends (listed_back inner constant_tokens bare_constant (codes "]") refl cs h) (λ ds eds.
            gives (constants.Array u from ds) (bare_of_array u from ds ∙ ap (λ k. constants.Array k 0 (map bare_constant ds)) e ∙ ap (constants.Array (bare_type t) 0) eds ∙ sym (bare_of_array t at cs))));
      })))

  struct_constant_tells : (open_text close_text : List ℕ) (packed : Bool) → opening packed ≡ open_text → closing packed ≡ close_text → kind_of open_text ≡ Some kinds.Punct → kind_of close_text ≡ Some kinds.Punct
      → Tells inner.derives InnerBack → (t : IrType) → Tells (struct_constant t (mark open_text) close_text packed inner).derives (IsConstant (λ u. struct_constant u (mark open_text) close_text packed inner) t)
  struct_constant_tells open_text close_text packed eo ec ko kc P t =
      over (λ at.
      step (listed_tell close_text inner P) (λ cs h.
      made (constants.Struct t at cs packed) (record {
        rest = open_text ∷ (separated (map constant_tokens cs) ++ close_text ∷ []);
        printed = tokens_struct t at cs packed ∙ ap (λ o. type_tokens t ++ o ∷ (separated (map constant_tokens cs) ++ closing packed ∷ [])) eo ∙ ap (λ c. type_tokens t ++ open_text ∷ (separated (map constant_tokens cs) ++ c ∷ [])) ec;
        back = λ u e.
            bind (places (mark open_text ∷ []) open_text kinds.Punct ko (λ _. self open_text)) (λ from _.
            ends (listed_back inner constant_tokens bare_constant close_text kc cs h) (λ ds eds.
            gives (constants.Struct u from ds packed)
            (bare_of_struct u from ds packed ∙ ap (λ k. constants.Struct k 0 (map bare_constant ds) packed) e ∙ ap (λ xs. constants.Struct (bare_type t) 0 xs packed) eds ∙ sym (bare_of_struct t at cs packed))));
      })))

-- a phrase that reads at least as much
wider : {q r : IrType → Phrase Constant} (t : IrType) → ((u : IrType) (texts : List (List ℕ)) (c : Constant) → Back (q u).derives texts (SameConstant c) → Back (r u).derives texts (SameConstant c)) → (c : Constant) → IsConstant q t c → IsConstant r t c
wider t f c C = record { rest = C.rest; printed = C.printed; back = λ u e. f u C.rest c (C.back u e) }

flat_tells : (t : IrType) → Tells (flat_constant t).derives (IsConstant flat_constant t)
flat_tells t = or (told_as (wider t (λ u texts c B. left B)) (string_tells t)) (told_as (wider t (λ u texts c B. right B)) (simple_constant_tells t))

constant_tells : (n : ℕ) (inner : Phrase Constant) → Tells inner.derives (InnerBack inner) → (t : IrType) → Tells (constant_of n inner t).derives (IsConstant (constant_of n inner) t)
constant_tells n inner P t =
    or (told_as (wider t (λ u texts c B. left B)) (gep_constant_tells n t))
    (or (told_as (wider t (λ u texts c B. right (left B))) (array_constant_tells inner P t))
    (or (told_as (wider t (λ u texts c B. right (right (left B)))) (struct_constant_tells inner (codes "{") (codes "}") false refl refl refl refl P t))
    (or (told_as (wider t (λ u texts c B. right (right (right (left B))))) (struct_constant_tells inner (codes "<{") (codes "}>") true refl refl refl refl P t))
    (told_as (wider t (λ u texts c B. right (right (right (right B))))) (flat_tells t)))))

-- a constant is read from the tokens that it is printed as, with its type before it
abbrev pub ConstantBack : ℕ → Constant → Type 0
ConstantBack n c = Back (typed_constant n).derives (constant_tokens c) (SameConstant c)

pub typed_constant_tells : (n : ℕ) → Tells (typed_constant n).derives (ConstantBack n)
unfolding typed_constant
typed_constant_tells zero = step (mem_tells nesting) (λ t T. told_as (λ c C. moved (sym C.printed) (bind T (λ u e. C.back u e))) (flat_tells t))
typed_constant_tells (suc n) = step (mem_tells nesting) (λ t T. told_as (λ c C. moved (sym C.printed) (bind T (λ u e. C.back u e))) (constant_tells n (typed_constant n) (typed_constant_tells n) t))
