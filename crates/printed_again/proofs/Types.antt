-- Names and types are read again.
use Rattle.std.proofs.Common.{◌≡◌, ℕ, zero, suc, Bool, true, false, cond, not, ◌||◌, ◌==◌, nat_le, List, [], ◌∷◌, ◌++◌, Option, Some, None, refl, sym, ap, subst, ◌∙◌, eqb-true}
use Rattle.std.specs.Prelude.{codes, map}
use Rattle.std.specs.Fmt.{digits}
use Rattle.std.specs.List.{AllByRecursion}
use Rattle.ir_lexer.specs.declared.token.TokenKind.TheVariants as kinds
use Rattle.ir_lexer.specs.Forms.{kind_of}
use Rattle.ir_tree.specs.declared.types.Name.{Name}
use Rattle.ir_tree.specs.declared.types.IrType.{IrType, fold-IrType, fold-roll-IrType}
use Rattle.ir_tree.specs.declared.types.IrType.TheOpen.{IrType-F}
use Rattle.ir_tree.specs.declared.types.IrType.TheViews.{rolls-Array, rolls-Struct, rolls-Named, rolls-Int, rolls-Ptr, outs-Int, outs-Ptr}
use Rattle.ir_tree.specs.declared.types.IrType.TheVariants as types
use Rattle.ir_tree.specs.declared.constants.Integer.{Integer}
use Rattle.ir_tree.specs.Texts.{global_text, local_text, label_text, width_text}
use Rattle.ir_tree.specs.Spelling.{separated, opening, closing, type_level, type_tokens}
use Rattle.ir_tree.specs.Places.{bare_name, bare_level, bare_type}
use Rattle.phrases.specs.Piece.{Piece, Class, matches, same_text}
use Rattle.phrases.specs.Phrase.{one}
use Rattle.phrases.proofs.Classes.{and_left, and_right, same_text-is}
use Rattle.phrases.proofs.Combinators.{self}
use Rattle.ir_grammar.specs.Tokens.{a_local, a_global, a_label, word, mark}
use Rattle.ir_grammar.specs.Numbers.{fits_length, width_of}
use Rattle.ir_grammar.specs.Names.{name_in, after_sigil, before_colon}
use Rattle.ir_grammar.specs.Types.{global_name, local_name, label_name, integer_or, type_of, value_type, scalar_of, scalar_type, plain_of, array_type, struct_type, mem_type, width_in, width_at}
use Rattle.printed_again.specs.Again.{are_bytes}
use Rattle.printed_again.proofs.Names.{name_again, global_is, local_is, label_is, label_again, sigil_bytes, colon_bytes}
use Rattle.printed_again.proofs.Numbers.{Fits, IsWidth, when_some, length_bounded, int_tells, int_back, width_of_tells, width_kind, width_again}
use Rattle.printed_again.proofs.Backs.{Back, bind, ends, gives, left, right, token, single, the_word, the_mark, places}
use Rattle.printed_again.proofs.Tells.{Tells, step, over, made, or, token_tells}
use Rattle.printed_again.proofs.Lists.{moved, listed_back, listed_tell}

-- ---- names

abbrev pub IsName : Name → Type 0
IsName n = are_bytes n.text ≡ true

abbrev pub SameName : Name → Name → Type 0
SameName n m = bare_name m ≡ bare_name n

same_name : (at : ℕ) (n : Name) (text : List ℕ) → text ≡ n.text → bare_name (record { text = text; at = at }) ≡ bare_name n
same_name at n text e = ap (λ s. record { text = s; at = 0 }) e

pub global_back : (n : Name) → IsName n → Back global_name.derives (global_text n.text ∷ []) (SameName n)
global_back n h = single (name_in a_global after_sigil) (global_text n.text) kinds.Global (global_is n.text h) (λ at. (record { text = after_sigil (global_text n.text); at = at }, refl, same_name at n _ (name_again n.text h)))

pub local_back : (n : Name) → IsName n → Back local_name.derives (local_text n.text ∷ []) (SameName n)
local_back n h = single (name_in a_local after_sigil) (local_text n.text) kinds.Local (local_is n.text h) (λ at. (record { text = after_sigil (local_text n.text); at = at }, refl, same_name at n _ (name_again n.text h)))

pub label_back : (n : Name) → IsName n → Back label_name.derives (label_text n.text ∷ []) (SameName n)
label_back n h = single (name_in a_label before_colon) (label_text n.text) kinds.Label (label_is n.text h) (λ at. (record { text = before_colon (label_text n.text); at = at }, refl, same_name at n _ (label_again n.text h)))

named_bytes : (text_of : List ℕ → List ℕ) → ((text : List ℕ) → are_bytes text ≡ true → are_bytes (text_of text) ≡ true) → (c : Class) → Tells (one (name_in c text_of)).derives IsName
named_bytes text_of keeps c =
    token_tells (name_in c text_of) (λ p n bytes e. subst IsName (when_some (matches c p) (record { text = text_of p.text; at = p.at }) n e).1 (keeps p.text bytes))

pub global_tells : Tells global_name.derives IsName
global_tells = named_bytes after_sigil sigil_bytes a_global

pub local_tells : Tells local_name.derives IsName
local_tells = named_bytes after_sigil sigil_bytes a_local

pub label_tells : Tells label_name.derives IsName
label_tells = named_bytes before_colon colon_bytes a_label

-- ---- one level of a type at a time

pub tokens_array : (at len : ℕ) (e : IrType) → type_tokens (types.Array at len e) ≡ type_level (IrType-F.Array at len (type_tokens e))
unfolding type_tokens
tokens_array at len e = ap (fold-IrType (List (List ℕ)) type_level) (sym (rolls-Array at len e)) ∙ fold-roll-IrType (List (List ℕ)) type_level (IrType-F.Array at len e)

pub tokens_struct : (at : ℕ) (fields : List IrType) (packed : Bool) → type_tokens (types.Struct at fields packed) ≡ type_level (IrType-F.Struct at (map type_tokens fields) packed)
unfolding type_tokens
tokens_struct at fields packed = ap (fold-IrType (List (List ℕ)) type_level) (sym (rolls-Struct at fields packed)) ∙ fold-roll-IrType (List (List ℕ)) type_level (IrType-F.Struct at fields packed)

pub tokens_named : (name : List ℕ) (at : ℕ) → type_tokens (types.Named name at) ≡ local_text name ∷ []
unfolding type_tokens
tokens_named name at = ap (fold-IrType (List (List ℕ)) type_level) (sym (rolls-Named name at)) ∙ fold-roll-IrType (List (List ℕ)) type_level (IrType-F.Named name at)

pub tokens_int : (n : ℕ) → type_tokens (types.Int n) ≡ width_text n ∷ []
unfolding type_tokens
tokens_int n = ap (fold-IrType (List (List ℕ)) type_level) (sym (rolls-Int n)) ∙ fold-roll-IrType (List (List ℕ)) type_level (IrType-F.Int n)

pub tokens_ptr : type_tokens types.Ptr ≡ codes "ptr" ∷ []
unfolding type_tokens
tokens_ptr = ap (fold-IrType (List (List ℕ)) type_level) (sym rolls-Ptr) ∙ fold-roll-IrType (List (List ℕ)) type_level IrType-F.Ptr

pub bare_array : (at len : ℕ) (e : IrType) → bare_type (types.Array at len e) ≡ types.Array 0 len (bare_type e)
unfolding bare_type
bare_array at len e = ap (fold-IrType IrType bare_level) (sym (rolls-Array at len e)) ∙ fold-roll-IrType IrType bare_level (IrType-F.Array at len e)

pub bare_struct : (at : ℕ) (fields : List IrType) (packed : Bool) → bare_type (types.Struct at fields packed) ≡ types.Struct 0 (map bare_type fields) packed
unfolding bare_type
bare_struct at fields packed = ap (fold-IrType IrType bare_level) (sym (rolls-Struct at fields packed)) ∙ fold-roll-IrType IrType bare_level (IrType-F.Struct at fields packed)

pub bare_named : (name : List ℕ) (at : ℕ) → bare_type (types.Named name at) ≡ types.Named name 0
unfolding bare_type
bare_named name at = ap (fold-IrType IrType bare_level) (sym (rolls-Named name at)) ∙ fold-roll-IrType IrType bare_level (IrType-F.Named name at)

-- ---- types of values

abbrev pub SameType : IrType → IrType → Type 0
SameType t x = bare_type x ≡ bare_type t

pub record IsValueType (t : IrType) : Type 0 where
  pub back : Back value_type.derives (type_tokens t) (λ x. x ≡ t)
  pub small : nat_le (width_in t) 64 ≡ true

width_in_int : (n : ℕ) → width_in (types.Int n) ≡ n
width_in_int n = ap width_at (outs-Int n)

int_value : (n : ℕ) → IsWidth n → IsValueType (types.Int n)
unfolding value_type
int_value n w = record {
  back = moved (sym (tokens_int n)) (single type_of (width_text n) kinds.Word (width_kind n) (λ at. (types.Int n, ap (integer_or (matches (word (codes "ptr")) (token kinds.Word (width_text n) at))) (width_again n w at), refl)));
  small = ap (λ k. nat_le k 64) (width_in_int n) ∙ w.most;
}

ptr_value : IsValueType types.Ptr
unfolding value_type
ptr_value = record { back = moved (sym tokens_ptr) (single type_of (codes "ptr") kinds.Word refl (λ at. (types.Ptr, refl, refl))); small = ap (λ l. nat_le (width_at l) 64) outs-Ptr }

some_type : (t u : IrType) → Some t ≡ Some u → t ≡ u
some_type t u e = cc

value_of : (p : Piece) (t : IrType) → type_of p ≡ Some t → IsValueType t
value_of p t e = go (matches (word (codes "ptr")) p) (width_of p) refl e
  where
    go : (b : Bool) (o : Option ℕ) → width_of p ≡ o → integer_or b o ≡ Some t → IsValueType t
    go b (Some n) q h = subst IsValueType (some_type (types.Int n) t h) (int_value n (width_of_tells p n q))
    go true None q h = subst IsValueType (some_type types.Ptr t h) ptr_value
    go false None q h = absurd cc

pub value_type_tells : Tells value_type.derives IsValueType
unfolding value_type
value_type_tells = token_tells type_of (λ p t bytes e. value_of p t e)

-- ---- scalars

-- a type that is one word in memory
pub record IsScalar (t : IrType) : Type 0 where
  pub text : List ℕ
  pub kind : kind_of text ≡ Some kinds.Word
  pub printed : type_tokens t ≡ text ∷ []
  pub reads : (at : ℕ) → scalar_of (token kinds.Word text at) ≡ Some t
  pub small : nat_le (width_in t) 64 ≡ true

int_scalar : (n : ℕ) → kind_of (width_text n) ≡ Some kinds.Word → ((at : ℕ) → scalar_of (token kinds.Word (width_text n) at) ≡ Some (types.Int n)) → nat_le n 64 ≡ true → IsScalar (types.Int n)
int_scalar n k r le = record { text = width_text n; kind = k; printed = tokens_int n; reads = r; small = ap (λ k. nat_le k 64) (width_in_int n) ∙ le }

ptr_scalar : IsScalar types.Ptr
ptr_scalar = record { text = codes "ptr"; kind = refl; printed = tokens_ptr; reads = λ at. refl; small = ptr_value.small }

word_type : (s : List ℕ) (p : Piece) → matches (word s) p ≡ true → type_of p ≡ type_of (token kinds.Word s p.at)
word_type s p m =
    ap (λ k. type_of (record { kind = k; text = p.text; at = p.at })) (eqb-true p.kind 0 (and_left (p.kind == 0) (same_text p.text s) m))
    ∙ ap (λ x. type_of (record { kind = 0; text = x; at = p.at })) (same_text-is p.text s (and_right (p.kind == 0) (same_text p.text s) m))

scalar_is : (p : Piece) (t : IrType) → scalar_of p ≡ Some t → IsScalar t
unfolding digits
scalar_is p t e = words (matches (word (codes "i8")) p) (matches (word (codes "i16")) p) (matches (word (codes "i32")) p) (matches (word (codes "i64")) p) (matches (word (codes "ptr")) p) refl refl refl refl refl e
  where
    known : (s : List ℕ) (u : IrType) → matches (word s) p ≡ true → type_of (token kinds.Word s p.at) ≡ Some u → IsScalar u → type_of p ≡ Some t → IsScalar t
    known s u m is h e = subst IsScalar (some_type u t (sym is ∙ sym (word_type s p m) ∙ e)) h

    words : (a b c d f : Bool) → matches (word (codes "i8")) p ≡ a → matches (word (codes "i16")) p ≡ b → matches (word (codes "i32")) p ≡ c → matches (word (codes "i64")) p ≡ d → matches (word (codes "ptr")) p ≡ f
        → cond (a || (b || (c || (d || (f || false))))) (type_of p) None ≡ Some t → IsScalar t
    words true b c d f qa qb qc qd qf e = known (codes "i8") (types.Int 8) qa refl (int_scalar 8 refl (λ at. refl) refl) e
    words false true c d f qa qb qc qd qf e = known (codes "i16") (types.Int 16) qb refl (int_scalar 16 refl (λ at. refl) refl) e
    words false false true d f qa qb qc qd qf e = known (codes "i32") (types.Int 32) qc refl (int_scalar 32 refl (λ at. refl) refl) e
    words false false false true f qa qb qc qd qf e = known (codes "i64") (types.Int 64) qd refl (int_scalar 64 refl (λ at. refl) refl) e
    words false false false false true qa qb qc qd qf e = known (codes "ptr") types.Ptr qf refl ptr_scalar e
    words false false false false false qa qb qc qd qf e = absurd cc

pub scalar_tells : Tells scalar_type.derives IsScalar
unfolding scalar_type
scalar_tells = token_tells scalar_of (λ p t bytes e. scalar_is p t e)

pub scalar_back : (t : IrType) → IsScalar t → Back scalar_type.derives (type_tokens t) (λ x. x ≡ t)
unfolding scalar_type
scalar_back t s = moved (sym s.printed) (single scalar_of s.text kinds.Word s.kind (λ at. (t, s.reads at, refl)))

-- ---- types in memory

abbrev PlainBack : IrType → Type 0
PlainBack t = Back (one plain_of).derives (type_tokens t) (SameType t)

named_back : (name : List ℕ) (at : ℕ) → are_bytes name ≡ true → PlainBack (types.Named name at)
named_back name at h =
    moved (sym (tokens_named name at))
    (single plain_of (local_text name) kinds.Local (local_is name h) (λ from. (types.Named (after_sigil (local_text name)) from, refl, bare_named (after_sigil (local_text name)) from ∙ ap (λ s. types.Named s 0) (name_again name h) ∙ sym (bare_named name at))))

plain_scalar : (t : IrType) → IsScalar t → PlainBack t
plain_scalar t s = moved (sym s.printed) (single plain_of s.text kinds.Word s.kind (λ at. (t, s.reads at, refl)))

plain_tells : Tells (one plain_of).derives PlainBack
plain_tells = token_tells plain_of (λ p t bytes e. go p t (matches a_local p) bytes e)
  where
    go : (p : Piece) (t : IrType) (b : Bool) → are_bytes p.text ≡ true → cond b (Some (types.Named (after_sigil p.text) p.at)) (scalar_of p) ≡ Some t → PlainBack t
    go p t true bytes e = subst PlainBack (some_type (types.Named (after_sigil p.text) p.at) t e) (named_back (after_sigil p.text) p.at (sigil_bytes p.text bytes))
    go p t false bytes e = plain_scalar t (scalar_is p t e)

-- a type is read from the tokens that it is printed as
abbrev pub TypeBack : ℕ → IrType → Type 0
TypeBack n t = Back (mem_type n).derives (type_tokens t) (SameType t)

array_back : (n at len : ℕ) (e : IrType) → Fits fits_length (record { negative = false; magnitude = len }) → TypeBack n e → Back (array_type (mem_type n)).derives (type_tokens (types.Array at len e)) (SameType (types.Array at len e))
array_back n at len e f h =
    moved (sym (tokens_array at len e))
    (bind (places (mark (codes "[") ∷ []) (codes "[") kinds.Punct refl (λ _. refl)) (λ from _.
    bind (int_back fits_length (record { negative = false; magnitude = len }) f) (λ l el.
    bind (the_word (codes "x") refl) (λ _ _.
    bind h (λ x ex.
    bind (the_mark (codes "]") refl) (λ _ _.
    gives (types.Array from l.magnitude x) (bare_array from l.magnitude x ∙ ap (λ k. types.Array 0 k.magnitude (bare_type x)) el ∙ ap (types.Array 0 len) ex ∙ sym (bare_array at len e))))))))

struct_back : (n at : ℕ) (fields : List IrType) (packed : Bool) (open_text close_text : List ℕ) → opening packed ≡ open_text → closing packed ≡ close_text → kind_of open_text ≡ Some kinds.Punct → kind_of close_text ≡ Some kinds.Punct
    → AllByRecursion (TypeBack n) fields → Back (struct_type open_text close_text packed (mem_type n)).derives (type_tokens (types.Struct at fields packed)) (SameType (types.Struct at fields packed))
struct_back n at fields packed open_text close_text eo ec ko kc h =
    moved (ap (λ o. o ∷ (separated (map type_tokens fields) ++ close_text ∷ [])) (sym eo) ∙ ap (λ c. opening packed ∷ (separated (map type_tokens fields) ++ c ∷ [])) (sym ec) ∙ sym (tokens_struct at fields packed))
    (bind (places (mark open_text ∷ []) open_text kinds.Punct ko (λ _. self open_text)) (λ from _.
    ends (listed_back (mem_type n) type_tokens bare_type close_text kc fields h) (λ xs es.
    gives (types.Struct from xs packed) (bare_struct from xs packed ∙ ap (λ ys. types.Struct 0 ys packed) es ∙ sym (bare_struct at fields packed)))))

length_is : (l : Integer) → Fits fits_length l → Fits fits_length (record { negative = false; magnitude = l.magnitude })
length_is l f = subst (Fits fits_length) (plain l.negative refl) f
  where
    plain : (b : Bool) → l.negative ≡ b → l ≡ record { negative = false; magnitude = l.magnitude }
    plain false q = ap (λ b. record { negative = b; magnitude = l.magnitude }) q
    plain true q = absurd (let h : not l.negative ≡ true = and_left (not l.negative) _ f.within in cc)

pub mem_tells : (n : ℕ) → Tells (mem_type n).derives (TypeBack n)
unfolding mem_type
mem_tells zero = record { told = λ t w h d. record { read = (plain_tells.told t w h d).read } }
mem_tells (suc n) =
    let P = mem_tells n in
    or (over (λ at. step (int_tells fits_length length_bounded) (λ len f. over (λ _. step P (λ e h. over (λ _. made (types.Array at len.magnitude e) (left (array_back n at len.magnitude e (length_is len f) h))))))))
    (or (over (λ at. step (listed_tell (codes "}") (mem_type n) P) (λ fields h. made (types.Struct at fields false) (right (left (struct_back n at fields false (codes "{") (codes "}") refl refl refl refl h))))))
    (or (over (λ at. step (listed_tell (codes "}>") (mem_type n) P) (λ fields h. made (types.Struct at fields true) (right (right (left (struct_back n at fields true (codes "<{") (codes "}>") refl refl refl refl h)))))))
    (record { told = λ t w h d. right (right (right (plain_tells.told t w h d))) })))
