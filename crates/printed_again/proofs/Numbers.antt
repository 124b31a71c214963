-- Numbers are read again as their values.
use Rattle.std.proofs.Common.{◌≡◌, ℕ, zero, suc, ◌+◌, ◌*◌, ◌/◌, ◌%◌, ◌^◌, ◌<◌, ◌≤◌, Bool, true, false, cond, not, ◌&&◌, ◌==◌, nat_le, nat_lt, List, [], ◌∷◌, length, get_or, Some, None, refl, sym, ap, subst, ◌∙◌, arith, rules, eqb-true, ltb-true, lt-ltb, leb-true, pow_mono}
use Rattle.std.specs.Fmt.{decimal, digits, digits_onto, digit_glyph}
use Rattle.std.proofs.lemmas.Bool.{ne_eqb}
use Rattle.std.proofs.lemmas.Str.Parse.{IsNumeralModel, numerals_by_fold}
use Rattle.std.proofs.lemmas.Fmt.{digits_value-decimal, decimal_nonempty, first_decimal}
use Rattle.ir_lexer.specs.declared.token.TokenKind.TheVariants as kinds
use Rattle.ir_lexer.specs.Forms.{is_digit, is_word_byte, is_number, runs_to, kind_of, when, or_label}
use Rattle.ir_tree.specs.declared.constants.Integer.{Integer}
use Rattle.ir_tree.specs.Texts.{integer_text, width_text}
use Rattle.phrases.specs.Piece.{Piece, matches}
use Rattle.phrases.specs.Phrase.{one}
use Rattle.ir_grammar.specs.Tokens.{an_int, integer_type, are_digits, is_plain_number}
use Rattle.ir_grammar.specs.Numbers.{digits_value, signed, written, fits_width, fits_any, fits_offset, fits_length, fits_index, int_in, number_after_i, width_of}
use Rattle.ir_grammar.specs.Types.{int, width}
use Rattle.ir_grammar.specs.Constants.{placed}
use Rattle.phrases.proofs.Classes.{and_left, and_right}
use Rattle.printed_again.proofs.Bytes.{both, all_pass, all_run, digits_pass, digit_small, digit_in_word, pass_within}
use Rattle.printed_again.proofs.Names.{digits_kind}
use Rattle.printed_again.proofs.Backs.{Back, token, single}
use Rattle.printed_again.proofs.Tells.{Tells, token_tells}

-- ---- decimals

own : IsNumeralModel (λ ds. are_digits ds ≡ true) (digits_value 0)
own = numerals_by_fold _ (search rules) digits_value (search rules)

glyph_digit : (n : ℕ) (ds : List ℕ) → are_digits ds ≡ true → are_digits (digit_glyph false (n % 10) ∷ ds) ≡ true
glyph_digit n ds h =
    let lt : n % 10 < 10 = omega arith in
    let e : digit_glyph false (n % 10) ≡ 48 + n % 10 = ap (λ b. cond b (48 + n % 10) (87 + n % 10)) (lt-ltb (n % 10) 10 lt) in
    ap (λ d. are_digits (d ∷ ds)) e ∙ both _ (are_digits ds) (both (nat_le 48 (48 + n % 10)) (nat_le (48 + n % 10) 57) (grind arith) (grind arith)) h

onto_digits : (k n : ℕ) (ds : List ℕ) → are_digits ds ≡ true → are_digits (digits_onto k 10 false n ds) ≡ true
onto_digits zero n ds h = h
onto_digits (suc k) n ds h = go (onto_digits k (n / 10) (digit_glyph false (n % 10) ∷ ds) (glyph_digit n ds h)) (n / 10 == 0)
  where
    go : are_digits (digits_onto k 10 false (n / 10) (digit_glyph false (n % 10) ∷ ds)) ≡ true → (b : Bool)
        → are_digits (cond b (digit_glyph false (n % 10) ∷ ds) (digits_onto k 10 false (n / 10) (digit_glyph false (n % 10) ∷ ds))) ≡ true
    go later true = glyph_digit n ds h
    go later false = later

-- of numbers of any size
pub decimal_digits : (n : ℕ) → are_digits (decimal n) ≡ true
unfolding digits
decimal_digits n = onto_digits 64 n [] refl

-- and never nothing
onto_some : (k n d : ℕ) (ds : List ℕ) → digits_onto k 10 false n (d ∷ ds) ≡ [] → ⊥
onto_some zero n d ds e = cc
onto_some (suc k) n d ds e = go (λ h. onto_some k (n / 10) (digit_glyph false (n % 10)) (d ∷ ds) h) (n / 10 == 0) e
  where
    go : (digits_onto k 10 false (n / 10) (digit_glyph false (n % 10) ∷ d ∷ ds) ≡ [] → ⊥) → (b : Bool)
        → cond b (digit_glyph false (n % 10) ∷ d ∷ ds) (digits_onto k 10 false (n / 10) (digit_glyph false (n % 10) ∷ d ∷ ds)) ≡ [] → ⊥
    go later true h = cc
    go later false h = later h

pub decimal_not_empty : (n : ℕ) → decimal n ≡ [] → ⊥
unfolding digits
decimal_not_empty n e = go (λ h. onto_some 63 (n / 10) (digit_glyph false (n % 10)) [] h) (n / 10 == 0) e
  where
    go : (digits_onto 63 10 false (n / 10) (digit_glyph false (n % 10) ∷ []) ≡ [] → ⊥) → (b : Bool)
        → cond b (digit_glyph false (n % 10) ∷ []) (digits_onto 63 10 false (n / 10) (digit_glyph false (n % 10) ∷ [])) ≡ [] → ⊥
    go later true h = cc
    go later false h = later h

pub decimal_value : (n : ℕ) → n < 2 ^ 64 → digits_value 0 (decimal n) ≡ n
decimal_value n lt = digits_value-decimal own n lt

pub decimal_some : (n : ℕ) → n < 2 ^ 64 → 0 < length (decimal n)
decimal_some n lt = decimal_nonempty n lt

-- ---- the kinds of numbers

kind_digits : (ds : List ℕ) → are_digits ds ≡ true → 0 < length ds → kind_of ds ≡ Some kinds.Int
kind_digits [] h some = absurd (omega (arith, some))
kind_digits (d ∷ ds) h some =
    let p = digits_pass (d ∷ ds) h in
    let e = and_left (is_digit d) (all_pass is_digit ds) p in
    digits_kind d ds (digit_small d e) e (all_run is_digit ds (and_right (is_digit d) (all_pass is_digit ds) p))

number_digits : (ds : List ℕ) → are_digits ds ≡ true → 0 < length ds → is_number ds ≡ true
number_digits [] h some = absurd (omega (arith, some))
number_digits (d ∷ ds) h some =
    let p = digits_pass (d ∷ ds) h in
    both (is_digit d) (runs_to is_digit [] ds) (and_left (is_digit d) (all_pass is_digit ds) p) (all_run is_digit ds (and_right (is_digit d) (all_pass is_digit ds) p))

minus_digits : (ds : List ℕ) → are_digits ds ≡ true → 0 < length ds → kind_of (45 ∷ ds) ≡ Some kinds.Int
minus_digits ds h some = ap (λ t. or_label (when t kinds.Int) (45 ∷ ds)) (number_digits ds h some)

-- ---- signed numbers

-- a number that is read from the text that it is printed as
pub record IsReadable (n : Integer) : Type 0 where
  pub again : written (integer_text n) ≡ n
  pub kind : kind_of (integer_text n) ≡ Some kinds.Int

written_digits : (ds : List ℕ) → are_digits ds ≡ true → written ds ≡ signed false (digits_value 0 ds)
written_digits [] h = refl
written_digits (d ∷ ds) h = go (d == 45) refl
  where
    go : (b : Bool) → (d == 45) ≡ b → cond b (signed true (digits_value 0 ds)) (signed false (digits_value 0 (d ∷ ds))) ≡ signed false (digits_value 0 (d ∷ ds))
    go false q = refl
    go true q = absurd (let e : are_digits (45 ∷ ds) ≡ true = subst (λ x. are_digits (x ∷ ds) ≡ true) (eqb-true d 45 q) h in cc)

plain_again : (v : ℕ) → v < 2 ^ 64 → written (decimal v) ≡ signed false v
plain_again v lt = written_digits (decimal v) (decimal_digits v) ∙ ap (signed false) (decimal_value v lt)

pub signed_readable : (minus : Bool) (v : ℕ) → v < 2 ^ 64 → IsReadable (signed minus v)
signed_readable false v lt = record { again = plain_again v lt; kind = kind_digits (decimal v) (decimal_digits v) (decimal_some v lt) }
signed_readable true v lt = go (not (v == 0)) refl
  where
    go : (b : Bool) → not (v == 0) ≡ b → IsReadable (record { negative = b; magnitude = v })
    go false q = record { again = plain_again v lt; kind = kind_digits (decimal v) (decimal_digits v) (decimal_some v lt) }
    go true q = record { again = ap (signed true) (decimal_value v lt) ∙ ap (λ b. record { negative = b; magnitude = v }) q; kind = minus_digits (decimal v) (decimal_digits v) (decimal_some v lt) }

written_signed : (text : List ℕ) → (minus : Bool) × (v : ℕ) × (written text ≡ signed minus v)
written_signed [] = (false, 0, refl)
written_signed (d ∷ ds) = go (d == 45)
  where
    go : (b : Bool) → (minus : Bool) × (v : ℕ) × (cond b (signed true (digits_value 0 ds)) (signed false (digits_value 0 (d ∷ ds))) ≡ signed minus v)
    go true = (true, digits_value 0 ds, refl)
    go false = (false, digits_value 0 (d ∷ ds), refl)

pub written_readable : (text : List ℕ) → (written text).magnitude < 2 ^ 64 → IsReadable (written text)
written_readable text lt = let s = written_signed text in subst IsReadable (sym s.2) (signed_readable s.0 s.1 (subst (λ n. n.magnitude < 2 ^ 64) s.2 lt))

-- ---- ranges

-- a range below 2^64
abbrev pub IsBounded : (Integer → Bool) → Type 0
IsBounded fits = (n : Integer) → fits n ≡ true → n.magnitude < 2 ^ 64

pub width_bounded : (w : ℕ) → nat_le w 64 ≡ true → IsBounded (fits_width w)
width_bounded w le n h = go n.negative h
  where
    most : 2 ^ w ≤ 2 ^ 64
    most = pow_mono (leb-true w 64 le)

    go : (b : Bool) → cond b (nat_le (2 * n.magnitude) (2 ^ w)) (nat_lt n.magnitude (2 ^ w)) ≡ true → n.magnitude < 2 ^ 64
    go true h = let half : 2 * n.magnitude ≤ 2 ^ w = leb-true (2 * n.magnitude) (2 ^ w) h in omega (arith, half, most)
    go false h = let less : n.magnitude < 2 ^ w = ltb-true n.magnitude (2 ^ w) h in omega (arith, less, most)

pub any_bounded : IsBounded fits_any
any_bounded = width_bounded 64 refl

pub offset_bounded : IsBounded fits_offset
offset_bounded n h = let less : n.magnitude < 2 ^ 63 = ltb-true n.magnitude (2 ^ 63) h in omega (arith, less)

pub length_bounded : IsBounded fits_length
length_bounded n h = offset_bounded n (and_right (not n.negative) (fits_offset n) h)

pub index_bounded : (w : ℕ) → IsBounded (fits_index w)
index_bounded w n h = offset_bounded n (and_right (fits_width w n) (fits_offset n) h)

-- ---- Ints in a range

pub record Fits (fits : Integer → Bool) (n : Integer) : Type 0 where
  pub within : fits n ≡ true
  pub readable : IsReadable n

-- what a test that passed gives
pub when_some : {A : Type 0} (b : Bool) (x y : A) → cond b (Some x) None ≡ Some y → (b ≡ true) × (x ≡ y)
when_some true x y e = (refl, cc)
when_some false x y e = absurd cc

written_fits : (fits : Integer → Bool) → IsBounded fits → (text : List ℕ) → fits (written text) ≡ true → Fits fits (written text)
written_fits fits bounded text h = record { within = h; readable = written_readable text (bounded (written text) h) }

pub int_fits : (fits : Integer → Bool) → IsBounded fits → (p : Piece) (n : Integer) → int_in fits p ≡ Some n → Fits fits n
int_fits fits bounded p n e =
    let r = when_some (matches an_int p && fits (written p.text)) (written p.text) n e in
    subst (Fits fits) r.1 (written_fits fits bounded p.text (and_right (matches an_int p) (fits (written p.text)) r.0))

pub int_tells : (fits : Integer → Bool) → IsBounded fits → Tells (int fits).derives (Fits fits)
int_tells fits bounded = token_tells (int_in fits) (λ p n bytes e. int_fits fits bounded p n e)

pub int_reads : (fits : Integer → Bool) (n : Integer) → Fits fits n → (at : ℕ) → int_in fits (token kinds.Int (integer_text n) at) ≡ Some n
int_reads fits n f at = ap (λ m. cond (fits m) (Some m) None) f.readable.again ∙ ap (λ b. cond b (Some n) None) f.within

pub int_back : (fits : Integer → Bool) (n : Integer) → Fits fits n → Back (int fits).derives (integer_text n ∷ []) (λ x. x ≡ n)
int_back fits n f = single (int_in fits) (integer_text n) kinds.Int f.readable.kind (λ at. (n, int_reads fits n f at, refl))

-- a value that is made of a number and its place
pub record IsPlaced {A : Type 0} (fits : Integer → Bool) (make : Integer → ℕ → A) (a : A) : Type 0 where
  pub number : Integer
  pub at : ℕ
  pub is : a ≡ make number at
  pub fitting : Fits fits number

pub placed_tells : {A : Type 0} (fits : Integer → Bool) (make : Integer → ℕ → A) → IsBounded fits → Tells (one (placed fits make)).derives (IsPlaced fits make)
placed_tells fits make bounded =
    token_tells (placed fits make) (λ p a bytes e.
    let r = when_some (matches an_int p && fits (written p.text)) (make (written p.text) p.at) a e in
    record { number = written p.text; at = p.at; is = sym r.1; fitting = written_fits fits bounded p.text (and_right (matches an_int p) (fits (written p.text)) r.0) })

pub placed_back : {A : Type 0} (fits : Integer → Bool) (make : Integer → ℕ → A) (n : Integer) → Fits fits n → Back (one (placed fits make)).derives (integer_text n ∷ []) (λ a. (at : ℕ) × (a ≡ make n at))
placed_back fits make n f =
    single (placed fits make) (integer_text n) kinds.Int f.readable.kind (λ at. (make n at, ap (λ m. cond (fits m) (Some (make m at)) None) f.readable.again ∙ ap (λ b. cond b (Some (make n at)) None) f.within, (at, refl)))

-- ---- widths

pub record IsWidth (n : ℕ) : Type 0 where
  pub least : nat_le 1 n ≡ true
  pub most : nat_le n 64 ≡ true

pub width_of_tells : (p : Piece) (n : ℕ) → width_of p ≡ Some n → IsWidth n
width_of_tells p n e =
    let v = number_after_i p.text in
    let r = when_some (matches integer_type p && nat_le 1 v && nat_le v 64) v n e in
    let front = and_left (matches integer_type p && nat_le 1 v) (nat_le v 64) r.0 in
    subst IsWidth r.1 (record { least = and_right (matches integer_type p) (nat_le 1 v) front; most = and_right (matches integer_type p && nat_le 1 v) (nat_le v 64) r.0 })

pub width_tells : Tells width.derives IsWidth
width_tells = token_tells width_of (λ p n bytes e. width_of_tells p n e)

width_small : (n : ℕ) → IsWidth n → n < 2 ^ 64
width_small n w = let h : n ≤ 64 = leb-true n 64 w.most in omega (arith, h)

pub width_kind : (n : ℕ) → kind_of (width_text n) ≡ Some kinds.Word
width_kind n = ap (λ t. or_label (when t kinds.Word) (105 ∷ decimal n)) (all_run is_word_byte (decimal n) (pass_within is_digit is_word_byte digit_in_word (decimal n) (digits_pass (decimal n) (decimal_digits n))))

plain_number : (ds : List ℕ) → are_digits ds ≡ true → 48 < get_or ds 0 0 → is_plain_number ds ≡ true
plain_number [] h lt = absurd (omega (arith, lt))
plain_number (d ∷ []) h lt = h
plain_number (d ∷ e ∷ es) h lt = both (not (d == 48)) (are_digits (d ∷ e ∷ es)) (ap not (ne_eqb d 48 (λ q. let less : 48 < d = lt in omega (arith, less, q)))) h

pub width_again : (n : ℕ) → IsWidth n → (at : ℕ) → width_of (token kinds.Word (width_text n) at) ≡ Some n
width_again n w at =
    let plain = plain_number (decimal n) (decimal_digits n) (first_decimal n (leb-true 1 n w.least) (width_small n w)) in
    ap (λ b. cond (b && nat_le 1 (digits_value 0 (decimal n)) && nat_le (digits_value 0 (decimal n)) 64) (Some (digits_value 0 (decimal n))) None) plain
    ∙ ap (λ v. cond (nat_le 1 v && nat_le v 64) (Some v) None) (decimal_value n (width_small n w)) ∙ ap (λ b. cond b (Some n) None) (both (nat_le 1 n) (nat_le n 64) w.least w.most)

pub width_back : (n : ℕ) → IsWidth n → Back width.derives (width_text n ∷ []) (λ x. x ≡ n)
width_back n w = single width_of (width_text n) kinds.Word (width_kind n) (λ at. (n, width_again n w at, refl))
