-- Types, flags and attributes are exact. A proof mirrors its production: refl says that no token is in two classes.
use Rattle.std.proofs.Common.{◌≡◌, ℕ, zero, suc, Bool, true, false, cond, ◌||◌, List, [], ◌∷◌, ◌++◌, Option, Some, None, refl}
use Rattle.std.specs.Prelude.{codes}
use Rattle.ir_tree.specs.declared.types.IrType.{IrType}
use Rattle.ir_tree.specs.declared.types.IrType.TheVariants as types
use Rattle.phrases.specs.Piece.{Piece, Class, matches, among, all_apart}
use Rattle.phrases.specs.Phrase.{Phrase, one}
use Rattle.phrases.specs.Exact.{Exact}
use Rattle.phrases.proofs.Classes.{or_right}
use Rattle.phrases.proofs.Laws.{done_exact, one_exact}
use Rattle.phrases.proofs.Combinators.{seq, alt, skip_rep, naming, wider, skip_exact}
use Rattle.ir_grammar.specs.Tokens.{a_local, word, mark, words, all_but, integer_type, odd_integer_type, comma, square, brace, packed_brace}
use Rattle.ir_grammar.specs.Words.{flag_words, attribute_words, attribute_heads, linkage_words}
use Rattle.ir_grammar.specs.Numbers.{fits_any, fits_length, width_of}
use Rattle.ir_grammar.specs.Names.{after_sigil}
use Rattle.ir_grammar.specs.Types.{flags, alignment, long_attribute, attribute_or, attribute_starts, attributes, integer_or, type_of, value_type, scalar_words, scalar_of, scalar_type, plain_of, array_type, struct_type, mem_type}
use Rattle.ir_grammar.proofs.Single.{spelled, word_exact, mark_exact, place_mark_exact, int_exact, width_within, listed_exact}

-- ---- what is ignored

pub flags_exact : Exact flags (words flag_words) true (words flag_words) []
flags_exact = skip_rep (skip_exact (words flag_words) (spelled (codes "nsw")) refl) refl refl

pub alignment_exact : Exact alignment (word (codes "align") ∷ []) false [] []
alignment_exact = seq (word_exact (codes "align")) (λ _. seq (int_exact fits_any refl) (λ n. done_exact tt) refl refl) refl refl

pub long_attribute_exact : Exact long_attribute (words attribute_heads) false [] []
long_attribute_exact =
    seq (skip_exact (words attribute_heads) (spelled (codes "memory")) refl) (λ _.
    seq (mark_exact (codes "(")) (λ _.
    seq (skip_rep (skip_exact (all_but (codes ")")) (spelled []) refl) refl refl) (λ _.
    mark_exact (codes ")")) refl refl) refl refl) refl refl

pub attribute_exact : Exact (attribute_or []) (attribute_starts []) false [] []
attribute_exact =
    alt long_attribute_exact (alt alignment_exact (skip_exact (words attribute_words) (spelled (codes "noundef")) refl) refl refl) refl refl

pub ignored_exact : Exact (attribute_or linkage_words) (attribute_starts linkage_words) false [] []
ignored_exact =
    alt long_attribute_exact (alt alignment_exact (skip_exact (words (attribute_words ++ linkage_words)) (spelled (codes "noundef")) refl) refl refl) refl refl

pub attributes_exact : Exact attributes (attribute_starts []) true (attribute_starts []) []
attributes_exact = skip_rep attribute_exact refl refl

-- ---- types

abbrev pub type_starts : List Class
type_starts = integer_type ∷ word (codes "ptr") ∷ []

abbrev pub aggregate_starts : List Class
aggregate_starts = square ∷ brace ∷ packed_brace ∷ []

type_within : (p : Piece) (t : IrType) → type_of p ≡ Some t → among type_starts p ≡ true
type_within p t e = go (matches (word (codes "ptr")) p) (width_of p) refl e
  where
    keep : (a b : Bool) → a ≡ true → (a || (b || false)) ≡ true
    keep true b h = refl
    keep false b h = absurd cc

    go : (b : Bool) (o : Option ℕ) → width_of p ≡ o → integer_or b o ≡ Some t → (matches integer_type p || (b || false)) ≡ true
    go b (Some n) w h = keep (matches integer_type p) b (width_within p n w)
    go true None w h = or_right (matches integer_type p) true refl
    go false None w h = absurd cc

pub type_exact : Exact (one type_of) type_starts false [] []
type_exact = one_exact type_of type_starts type_within (spelled (codes "ptr")) types.Ptr refl

pub value_type_exact : Exact value_type type_starts false [] (square ∷ brace ∷ packed_brace ∷ a_local ∷ [])
unfolding value_type
value_type_exact = naming (square ∷ brace ∷ packed_brace ∷ a_local ∷ []) type_exact refl

scalar_within : (p : Piece) (t : IrType) → scalar_of p ≡ Some t → among scalar_words p ≡ true
scalar_within p t e = go (among scalar_words p) e
  where
    go : (b : Bool) → cond b (type_of p) None ≡ Some t → b ≡ true
    go true h = refl
    go false h = absurd cc

scalar_exact : Exact (one scalar_of) scalar_words false [] []
scalar_exact = one_exact scalar_of scalar_words scalar_within (spelled (codes "ptr")) types.Ptr refl

pub scalar_type_exact : Exact scalar_type scalar_words false [] (square ∷ brace ∷ packed_brace ∷ a_local ∷ odd_integer_type ∷ [])
unfolding scalar_type
scalar_type_exact = naming (square ∷ brace ∷ packed_brace ∷ a_local ∷ odd_integer_type ∷ []) scalar_exact refl

plain_exact : Exact (one plain_of) (a_local ∷ scalar_words) false [] []
plain_exact = one_exact plain_of (a_local ∷ scalar_words) (λ p t e. within p t e) (spelled (codes "ptr")) types.Ptr refl
  where
    within : (p : Piece) (t : IrType) → plain_of p ≡ Some t → among (a_local ∷ scalar_words) p ≡ true
    within p t e = go (matches a_local p) e
      where
        go : (b : Bool) → cond b (Some (types.Named (after_sigil p.text) p.at)) (scalar_of p) ≡ Some t → (b || among scalar_words p) ≡ true
        go true h = refl
        go false h = scalar_within p t h

array_exact : {p : Phrase IrType} {first bad : List Class} → Exact p first false [] bad → Exact (array_type p) (square ∷ []) false [] []
array_exact P =
    seq (place_mark_exact (codes "[")) (λ at.
    seq (int_exact fits_length refl) (λ len.
    seq (word_exact (codes "x")) (λ _.
    seq P (λ t.
    seq (mark_exact (codes "]")) (λ _. done_exact (types.Array at len.magnitude t)) refl refl) refl refl) refl refl) refl refl) refl refl

struct_exact : (opening closing : List ℕ) (packed : Bool) {p : Phrase IrType} {first bad : List Class} → Exact p first false [] bad → all_apart (mark closing ∷ []) (first ++ []) ≡ true → all_apart (mark closing ∷ []) (bad ++ []) ≡ true
    → all_apart (comma ∷ []) (mark closing ∷ []) ≡ true → Exact (struct_type opening closing packed p) (mark opening ∷ []) false [] []
struct_exact opening closing packed P parted named comma_first =
    seq (place_mark_exact opening) (λ at. seq (listed_exact closing P parted named refl comma_first refl) (λ fields. done_exact (types.Struct at fields packed)) refl refl) refl refl

-- what a type in memory may begin with, and what it names
abbrev pub mem_starts : List Class
mem_starts = square ∷ brace ∷ packed_brace ∷ a_local ∷ scalar_words

abbrev pub mem_names : List Class
mem_names = square ∷ brace ∷ packed_brace ∷ odd_integer_type ∷ []

pub mem_type_exact : (n : ℕ) → Exact (mem_type n) mem_starts false [] mem_names
unfolding mem_type
mem_type_exact zero = wider mem_starts [] mem_names (3 ∷ 4 ∷ 5 ∷ 6 ∷ 7 ∷ 8 ∷ []) [] (0 ∷ 1 ∷ 2 ∷ 3 ∷ []) (naming mem_names plain_exact refl)
mem_type_exact (suc n) =
    let P = mem_type_exact n in
    wider mem_starts [] mem_names (0 ∷ 1 ∷ 2 ∷ 3 ∷ 4 ∷ 5 ∷ 6 ∷ 7 ∷ 8 ∷ []) [] (3 ∷ [])
    (naming (odd_integer_type ∷ []) (alt (array_exact P) (alt (struct_exact (codes "{") (codes "}") false P refl refl refl) (alt (struct_exact (codes "<{") (codes "}>") true P refl refl refl) plain_exact refl refl) refl refl) refl refl) refl)
