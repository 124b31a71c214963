-- The bits of a term are its value.
use Rattle.std.proofs.Common.{◌≡◌, ℕ, Bool, true, false, ◌+◌, ◌-◌, ◌*◌, ◌/◌, ◌%◌, ◌^◌, ◌<◌, cond, ltb, eqb, get_or, List, [], ◌∷◌, length, drop, refl, sym, ap, ap₂, ◌∙◌, subst, ⊎_elim, arith, length-append, length-drop}
use Rattle.std.proofs.lemmas.List.{length-take-le}
use Rattle.std.proofs.lemmas.Nat.{shr-shr}
use Rattle.std.proofs.Math.Nat.{mul_comm}
use Rattle.std.proofs.lemmas.Bool.{cases_Bool}
use Rattle.bitnum.specs.Number.{Number, IsNumber}
use Rattle.terms.specs.declared.term.Unary.{Unary}
use Rattle.terms.specs.declared.term.Unary.TheVariants.{Not, Zext, Sext, Trunc, Byte}
use Rattle.terms.specs.declared.term.Binary.{Binary}
use Rattle.terms.specs.declared.term.Binary.TheVariants.{Bin, Eq, Ult, Slt, Join}
use Rattle.terms.specs.Tree.{Tree, constant, input, one, two, choice, IsTree, FitsOne, FitsTwo, width_of, width_of_one, width_of_two}
use Rattle.terms.specs.Value.{value_of, one_of, two_of, truth, is_yes}
use Rattle.terms.proofs.Numbers.{value_is, width-value_of, fits_one, fits_two}
use Rattle.gates.specs.Bits as bit
use Rattle.gates.specs.Bits.{Bit, value}
use Rattle.rows.specs.Numbers.{digit, read}
use Rattle.rows.specs.Rows.{fills, fold_mux, top, chosen, equal, less, signed_less}
use Rattle.rows.proofs.BitValues.{length-each, read-chosen}
use Rattle.rows.proofs.SumLemmas.{length-fills, length-inverted, read-inverted}
use Rattle.rows.proofs.CompareLemmas.{value-equal, value-less}
use Rattle.rows.proofs.MoveLemmas.{read-constant_bits, length-constant_bits, read-widened, read-take, read-byte_at, read-append}
use Rattle.rows.proofs.SignLemmas.{read-sign_widened, value-signed_less}
use Rattle.term_bits.specs.TermBits.{bits_of, bits_of_one, bits_of_two, input_of, input_bits}
use Rattle.term_bits.proofs.Operations.{read-operation, length-operation}

any : ℕ → Bool
any k = false

-- the number of bits

length-one : (op : Unary) (xs : List Bit) → FitsOne op (length xs) → length (bits_of_one op xs) ≡ width_of_one op
length-one Not xs h = length-inverted any xs ∙ h
length-one (Zext w) xs h = omega (arith, length-append xs (fills (w - length xs) (bit.constant false)), length-fills any (w - length xs) (bit.constant false), h.1)
length-one (Sext w) xs h = omega (arith, length-append xs (fills (w - length xs) (top xs)), length-fills any (w - length xs) (top xs), h.1)
length-one (Trunc w) xs h = length-take-le w xs (omega (arith, h.1))
length-one (Byte j) xs h = length-take-le 8 (drop (8 * j) xs) (omega (arith, length-drop (8 * j) xs, h.1))

length-two : (op : Binary) (xs ys : List Bit) → FitsTwo op (length xs) (length ys) → length (bits_of_two op xs ys) ≡ width_of_two op (length xs) (length ys)
length-two (Bin op) xs ys h = length-operation op xs ys h
length-two Eq xs ys h = refl
length-two Ult xs ys h = refl
length-two Slt xs ys h = refl
length-two Join xs ys h = length-append xs ys

pub length-bits : (t : Tree) → IsTree t → length (bits_of t) ≡ width_of t
unfolding bits_of
length-bits (constant n) h = length-constant_bits any n.width n.bits
length-bits (input k) h = refl
length-bits (one op a) h = length-one op (bits_of a) (subst (FitsOne op) (sym (length-bits a h.0)) h.1)
length-bits (two op a b) h =
    let left = length-bits a h.0 in
    let right = length-bits b h.1 in
    let fits : FitsTwo op (length (bits_of a)) (length (bits_of b)) = rw (left, right) h.2 in
    length-two op (bits_of a) (bits_of b) fits ∙ ap₂ (width_of_two op) left right
length-bits (choice c a b) h =
    let same : length (bits_of a) ≡ length (bits_of b) = length-bits a h.1 ∙ h.4 ∙ sym (length-bits b h.2) in
    length-each (fold_mux (top (bits_of c))) (bits_of a) (bits_of b) same ∙ length-bits a h.1

-- input bits

digit_eqb : (n : ℕ) → digit (eqb (n % 2) 1) ≡ n % 2
digit_eqb n = ⊎_elim (λ t. rw t (let one : n % 2 ≡ 1 = odd t in sym one)) (λ t. rw t (let none : n % 2 ≡ 0 = even t in sym none)) (cases_Bool (eqb (n % 2) 1))
  where
    odd : eqb (n % 2) 1 ≡ true → n % 2 ≡ 1
    odd t = grind arith

    even : eqb (n % 2) 1 ≡ false → n % 2 ≡ 0
    even t = grind arith

byte_sum : (x : ℕ) → x % 2 + 2 * (x / 2 % 2 + 2 * (x / 4 % 2 + 2 * (x / 8 % 2 + 2 * (x / 16 % 2 + 2 * (x / 32 % 2 + 2 * (x / 64 % 2 + 2 * (x / 128 % 2 + 2 * 0))))))) ≡ x % 256
byte_sum x =
    let a : x / 2 / 2 ≡ x / 4 = shr-shr x 1 1 in
    let b : x / 4 / 2 ≡ x / 8 = shr-shr x 2 1 in
    let c : x / 8 / 2 ≡ x / 16 = shr-shr x 3 1 in
    let d : x / 16 / 2 ≡ x / 32 = shr-shr x 4 1 in
    let e : x / 32 / 2 ≡ x / 64 = shr-shr x 5 1 in
    let f : x / 64 / 2 ≡ x / 128 = shr-shr x 6 1 in
    let g : x / 128 / 2 ≡ x / 256 = shr-shr x 7 1 in
    omega arith

input_at : (bytes : List ℕ) (k m : ℕ) → m < 8 → input_of bytes (8 * k + m) ≡ eqb (get_or bytes k 0 / 2 ^ (7 - m) % 2) 1
input_at bytes k m h =
    let byte : (8 * k + m) / 8 ≡ k = omega arith in
    let place : (8 * k + m) % 8 ≡ m = omega arith in
    rw (byte, place) refl

-- one bit

pub one_bit : (i : ℕ → Bool) (xs : List Bit) → length xs ≡ 1 → value i (top xs) ≡ eqb (read i xs) 1
unfolding read top
one_bit i [] h = absurd (omega arith)
one_bit i (x ∷ []) h = bit_is (value i x)
  where
    bit_is : (b : Bool) → b ≡ eqb (digit b + 2 * 0) 1
    bit_is true = refl
    bit_is false = refl
one_bit i (x ∷ y ∷ xs) h = absurd (omega arith)

module _ (i : ℕ → Bool) where
  read-truth : (x : Bit) (test : Bool) → value i x ≡ test → read i (x ∷ []) ≡ (truth test).bits
  unfolding read
  read-truth x test h = ap (λ b. digit b + 2 * 0) h ∙ truth_is test
    where
      truth_is : (test : Bool) → digit test + 2 * 0 ≡ (truth test).bits
      truth_is true = refl
      truth_is false = refl

  read-one : (op : Unary) (xs : List Bit) (n : Number) → IsNumber n → length xs ≡ n.width → read i xs ≡ n.bits → FitsOne op n.width → read i (bits_of_one op xs) ≡ (one_of op n).bits
  read-one Not xs n is places e h =
      let inv = read-inverted i xs in
      let two : 2 ^ length xs ≡ 2 = ap (λ w. 2 ^ w) (places ∙ h) in
      omega arith
  read-one (Zext w) xs n is places e h = read-widened i w xs ∙ e
  read-one (Sext w) xs n is places e h =
      read-sign_widened i w xs (omega (arith, is.width_is.least)) (omega (arith, h.1)) ∙ rw (places, e) refl
  read-one (Trunc w) xs n is places e h = read-take i w xs (omega (arith, h.1)) ∙ ap (λ m. m % 2 ^ w) e
  read-one (Byte j) xs n is places e h = read-byte_at i j xs (omega (arith, h.1)) ∙ ap (λ m. m / 2 ^ (8 * j) % 2 ^ 8) e

  read-two : (op : Binary) (xs ys : List Bit) (m n : Number) → IsNumber m → IsNumber n → length xs ≡ m.width → length ys ≡ n.width → read i xs ≡ m.bits → read i ys ≡ n.bits → FitsTwo op m.width n.width → read i (bits_of_two op xs ys) ≡ (two_of op m n).bits
  read-two (Bin op) xs ys m n is is' v w d e h =
      read-operation i op xs ys (v ∙ h ∙ sym w) (omega (arith, is.width_is.least)) ∙ rw (v, d, e) refl
  read-two Eq xs ys m n is is' v w d e h =
      read-truth (equal xs ys) (eqb m.bits n.bits) (value-equal i xs ys (v ∙ h ∙ sym w) ∙ ap₂ eqb d e)
  read-two Ult xs ys m n is is' v w d e h =
      read-truth (less xs ys) (ltb m.bits n.bits) (value-less i xs ys (v ∙ h ∙ sym w) ∙ ap₂ ltb d e)
  read-two Slt xs ys m n is is' v w d e h =
      read-truth (signed_less xs ys) _ (value-signed_less i xs ys (v ∙ h ∙ sym w) (omega (arith, is.width_is.least)) ∙ rw (v, w, d, e) refl)
  read-two Join xs ys m n is is' v w d e h =
      read-append i xs ys ∙ rw (v, d, e) (omega (arith, mul_comm (2 ^ m.width) n.bits))

  read-choice : (x : Bit) (xs ys : List Bit) (c m n : Number) → length xs ≡ length ys → value i x ≡ is_yes c → read i xs ≡ m.bits → read i ys ≡ n.bits → read i (chosen x xs ys) ≡ (cond (is_yes c) m n).bits
  read-choice x xs ys c m n same e d f =
      read-chosen i x xs ys same ∙ rw (e, d, f) (pushed (is_yes c))
    where
      pushed : (b : Bool) → cond b m.bits n.bits ≡ (cond b m n).bits
      pushed true = refl
      pushed false = refl

read-input : (bytes : List ℕ) (k : ℕ) → read (input_of bytes) (input_bits k) ≡ get_or bytes k 0 % 2 ^ 8
unfolding read value
read-input bytes k =
    let x = get_or bytes k 0 in
    let last : 8 * k ≡ 8 * k + 0 = omega arith in
    rw (input_at bytes k 7 (omega arith), input_at bytes k 6 (omega arith), input_at bytes k 5 (omega arith), input_at bytes k 4 (omega arith), input_at bytes k 3 (omega arith), input_at bytes k 2 (omega arith), input_at bytes k 1 (omega arith), ap (input_of bytes) last ∙ input_at bytes k 0 (omega arith), digit_eqb (x / 1), digit_eqb (x / 2), digit_eqb (x / 4), digit_eqb (x / 8), digit_eqb (x / 16), digit_eqb (x / 32), digit_eqb (x / 64), digit_eqb (x / 128)) (let whole : x / 1 ≡ x = omega arith in rw whole (byte_sum x))

pub read-bits : (t : Tree) (bytes : List ℕ) → IsTree t → read (input_of bytes) (bits_of t) ≡ (value_of t bytes).bits
unfolding bits_of
read-bits (constant n) bytes h = read-constant_bits (input_of bytes) n.width n.bits h.fits
read-bits (input k) bytes h = read-input bytes k
read-bits (one op a) bytes h =
    read-one (input_of bytes) op (bits_of a) (value_of a bytes) (value_is a bytes h.0) (length-bits a h.0 ∙ sym (width-value_of a bytes h.0)) (read-bits a bytes h.0) (fits_one op a bytes h)
read-bits (two op a b) bytes h =
    read-two (input_of bytes) op (bits_of a) (bits_of b) (value_of a bytes) (value_of b bytes) (value_is a bytes h.0) (value_is b bytes h.1) (length-bits a h.0 ∙ sym (width-value_of a bytes h.0)) (length-bits b h.1 ∙ sym (width-value_of b bytes h.1)) (read-bits a bytes h.0) (read-bits b bytes h.1) (fits_two op a b bytes h)
read-bits (choice c a b) bytes h =
    let same : length (bits_of a) ≡ length (bits_of b) = length-bits a h.1 ∙ h.4 ∙ sym (length-bits b h.2) in
    let test : value (input_of bytes) (top (bits_of c)) ≡ is_yes (value_of c bytes) = one_bit (input_of bytes) (bits_of c) (length-bits c h.0 ∙ h.3) ∙ ap (λ n. eqb n 1) (read-bits c bytes h.0) in
    read-choice (input_of bytes) (top (bits_of c)) (bits_of a) (bits_of b) (value_of c bytes) (value_of a bytes) (value_of b bytes) same test (read-bits a bytes h.1) (read-bits b bytes h.2)
