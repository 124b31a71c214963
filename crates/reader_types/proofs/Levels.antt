-- What a level of a type and of a constant reads.
use Rattle.std.proofs.Common.{◌≡◌, ℕ, zero, suc, ◌-◌, ◌<◌, true, false, cond, ◌||◌, List, [], ◌∷◌, refl, ap, ◌∙◌, arith}
use Rattle.phrases.specs.Piece.{Piece, Class, among, starts}
use Rattle.phrases.specs.Phrase.{one, refused}
use Rattle.phrases.proofs.Classes.{among-append}
use Rattle.ir_grammar.specs.Tokens.{odd_integer_type, square, brace, packed_brace}
use Rattle.ir_grammar.specs.Types.{mem_type, plain_of}
use Rattle.reader_types.specs.Parts.{aggregate_or_plain}

-- a token is of neither list
pub of_neither : (cs ds : List Class) (p : Piece) → among cs p ≡ false → among ds p ≡ false → (among cs p || among ds p) ≡ false
of_neither cs ds p e f = ap (λ b. b || among ds p) e ∙ f

abbrev opening : List Class
opening = square ∷ brace ∷ packed_brace ∷ []

pub one_level : (levels inner : ℕ) (ts : List Piece) → inner ≡ levels - 1 → 0 < levels → starts (odd_integer_type ∷ []) ts ≡ false → (mem_type levels).reads ts ≡ (aggregate_or_plain inner).reads ts
unfolding mem_type
one_level zero inner ts e some plain = absurd (omega (arith, some))
one_level (suc n) inner ts e some plain =
    let same : n ≡ inner = omega (arith, e) in
    ap (λ b. cond b (refused true ts) ((aggregate_or_plain n).reads ts)) plain ∙ ap (λ k. (aggregate_or_plain k).reads ts) same

pub no_level : (levels : ℕ) (ts : List Piece) → levels ≡ 0 → starts (odd_integer_type ∷ []) ts ≡ false → starts opening ts ≡ false → (mem_type levels).reads ts ≡ (one plain_of).reads ts
unfolding mem_type
no_level (suc n) ts e plain closed = absurd (omega (arith, e))
no_level zero [] e plain closed = refl
no_level zero (p ∷ ps) e plain closed =
    let neither = among-append opening (odd_integer_type ∷ []) p ∙ of_neither opening (odd_integer_type ∷ []) p closed plain in
    ap (λ b. cond b (refused true (p ∷ ps)) ((one plain_of).reads (p ∷ ps))) neither
