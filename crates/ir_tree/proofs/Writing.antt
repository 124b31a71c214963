-- Tokens at the end of a text.
use Rattle.std.proofs.Common.{◌≡◌, ℕ, zero, suc, Bool, true, false, cond, eqb, ◌+◌, ◌^◌, ◌≤◌, ◌<◌, ◌&&◌, ◌⊎◌, inl, inr, length, take, get_or, List, [], ◌∷◌, ◌++◌, refl, sym, ap, ◌∙◌, arith, append_assoc}
use Rattle.std.proofs.lemmas.List.{take_more}
use Rattle.std.specs.Prelude.{◌||◌, ◌==◌, ◌/◌, ◌%◌, if◌then◌else◌, codes}
use Rattle.std.specs.Fmt.{digit_glyph, digits_onto, digits, decimal}
use Rattle.std.proofs.lemmas.Fmt.{decimal_step}
use Rattle.std.proofs.lemmas.Bool.{eqb-true, and_parts}
use Rattle.ir_lexer.specs.Forms.{is_digit, runs_to, is_number}
use Rattle.ir_tree.specs.Texts.{same, no_space_behind, no_space_before, hex_digit, is_escaped, escaped}
use Rattle.ir_tree.specs.Pages.{Written, gap_before, with_token, after, opened, extended}

pub put_token : (w p q : Written) (t : List ℕ) (close : Bool) → close ≡ (w.glued || no_space_before t) → p ≡ extended w (if close then [] else codes " ")
    → q ≡ extended (record { text = p.text; glued = no_space_behind t }) t → q ≡ with_token w t
unfolding with_token
put_token w p q t close ec ep eq =
    eq ∙ ap (λ x. record { text = x ++ t; glued = no_space_behind t }) (ap (λ r. r.text) ep ∙ ap (λ b. w.text ++ (if b then [] else codes " ")) ec)
    ∙ ap (λ x. record { text = x; glued = no_space_behind t }) (append_assoc w.text (gap_before w.glued t) t)

-- a token that is no mark
pub put_opened : (w p q : Written) (t : List ℕ) → p ≡ opened w → q ≡ extended p t → no_space_before t ≡ false → no_space_behind t ≡ false → q ≡ with_token w t
unfolding with_token
put_opened w p q t ep eq before behind =
    eq ∙ ap (λ r. extended r t) ep ∙ ap (λ x. record { text = x; glued = false }) (append_assoc w.text (if w.glued then [] else codes " ") t ∙ ap (λ c. w.text ++ ((if c then [] else codes " ") ++ t)) (close w.glued (no_space_before t) before))
    ∙ ap (λ b. record { text = w.text ++ (gap_before w.glued t ++ t); glued = b }) (sym behind)
  where
    close : (g c : Bool) → c ≡ false → g ≡ (g || c)
    close true c e = refl
    close false c e = sym e

-- by its first byte and the others
pub put_parts : (w p q : Written) (first : ℕ) (rest : List ℕ) → p ≡ extended (opened w) (first ∷ []) → q ≡ extended p rest → no_space_before (first ∷ rest) ≡ false → no_space_behind (first ∷ rest) ≡ false
    → q ≡ with_token w (first ∷ rest)
put_parts w p q first rest ep eq before behind =
    put_opened w (opened w) q (first ∷ rest) refl (eq ∙ ap (λ r. extended r rest) ep ∙ ap (λ x. record { text = x; glued = false }) (append_assoc (opened w).text (first ∷ []) rest)) before behind

pub escaped_append : (xs ys : List ℕ) → escaped (xs ++ ys) ≡ escaped xs ++ escaped ys
escaped_append [] ys = refl
escaped_append (x ∷ xs) ys = by_test (is_escaped x) (escaped xs) (escaped (xs ++ ys)) (escaped_append xs ys)
  where
    by_test : (b : Bool) (front all : List ℕ) → all ≡ front ++ escaped ys
        → (if b then 92 ∷ hex_digit (x / 16) ∷ hex_digit (x % 16) ∷ all else x ∷ all) ≡ (if b then 92 ∷ hex_digit (x / 16) ∷ hex_digit (x % 16) ∷ front else x ∷ front) ++ escaped ys
    by_test true front all e = ap (λ r. 92 ∷ hex_digit (x / 16) ∷ hex_digit (x % 16) ∷ r) e
    by_test false front all e = ap (λ r. x ∷ r) e

pub after_append : (w : Written) (xs ys : List (List ℕ)) → after w (xs ++ ys) ≡ after (after w xs) ys
after_append w [] ys = refl
after_append w (x ∷ xs) ys = after_append (with_token w x) xs ys

-- one more byte of a quoted text
pub escaped_more : (text before after : List ℕ) (bytes : List ℕ) (i : ℕ) → i < length bytes → before ≡ text ++ escaped (take i bytes) → after ≡ before ++ escaped (get_or bytes i 0 ∷ []) → after ≡ text ++ escaped (take (i + 1) bytes)
escaped_more text before after bytes i lt e d =
    d ∙ ap (λ (x : List ℕ). x ++ escaped (get_or bytes i 0 ∷ [])) e ∙ append_assoc text (escaped (take i bytes)) (escaped (get_or bytes i 0 ∷ []))
    ∙ ap (λ (x : List ℕ). text ++ x) (sym (escaped_append (take i bytes) (get_or bytes i 0 ∷ [])) ∙ ap escaped (sym (take_more bytes i 0 lt)))

-- ---- numbers

-- two bytes of which one is in a class and the other isn't
pub apart : (f : ℕ → Bool) (b c : ℕ) → f b ≡ true → f c ≡ false → eqb b c ≡ false
apart f b c is isnt = go (eqb b c) refl
  where
    go : (x : Bool) → eqb b c ≡ x → x ≡ false
    go false e = refl
    go true e = absurd (let h = ap f (eqb-true b c e) in cc)

-- decimal digits are a number
glyph_is_digit : (n : ℕ) → n < 10 → is_digit (digit_glyph false n) ≡ true
glyph_is_digit n lt = grind arith

digits_are_number : (k n : ℕ) (acc : List ℕ) → runs_to is_digit [] acc ≡ true → (is_number acc ≡ true) ⊎ (0 < k) → is_number (digits_onto k 10 false n acc) ≡ true
digits_are_number zero n acc all (inl some) = some
digits_are_number zero n acc all (inr some) = absurd (omega (arith, some))
digits_are_number (suc k) n acc all some =
    let b = digit_glyph false (n % 10) in
    let h : is_digit b ≡ true = glyph_is_digit (n % 10) (omega arith) in
    let longer : is_number (b ∷ acc) ≡ true = ap (λ y. y && runs_to is_digit [] acc) h ∙ all in
    go (n / 10 == 0) b longer (digits_are_number k (n / 10) (b ∷ acc) (ap (λ y. cond y (runs_to is_digit [] acc) false) h ∙ all) (inl longer))
  where
    go : (x : Bool) (b : ℕ) → is_number (b ∷ acc) ≡ true → is_number (digits_onto k 10 false (n / 10) (b ∷ acc)) ≡ true → is_number (cond x (b ∷ acc) (digits_onto k 10 false (n / 10) (b ∷ acc))) ≡ true
    go true b here more = here
    go false b here more = more

pub decimal_is_number : (n : ℕ) → is_number (decimal n) ≡ true
unfolding digits
decimal_is_number n = digits_are_number 64 n [] refl (inr (omega arith))

-- a number is no mark
pub number_no_mark : (t : List ℕ) → is_number t ≡ true → (no_space_before t ≡ false) × (no_space_behind t ≡ false)
number_no_mark [] h = absurd cc
number_no_mark (b ∷ bs) h =
    let d = (and_parts (is_digit b) (runs_to is_digit [] bs) h).0 in
    go (eqb b 40) (eqb b 44) (eqb b 41) (eqb b 93) (eqb b 91) (same bs []) (apart is_digit b 40 d refl) (apart is_digit b 44 d refl) (apart is_digit b 41 d refl) (apart is_digit b 93 d refl) (apart is_digit b 91 d refl)
  where
    go : (p q r s u z : Bool) → p ≡ false → q ≡ false → r ≡ false → s ≡ false → u ≡ false → ((p && z || q && z || r && z || s && z) ≡ false) × ((p && z || u && z) ≡ false)
    go true q r s u z e1 e2 e3 e4 e5 = absurd cc
    go false true r s u z e1 e2 e3 e4 e5 = absurd cc
    go false false true s u z e1 e2 e3 e4 e5 = absurd cc
    go false false false true u z e1 e2 e3 e4 e5 = absurd cc
    go false false false false true z e1 e2 e3 e4 e5 = absurd cc
    go false false false false false z e1 e2 e3 e4 e5 = (refl, refl)

pub last_digit : (w p q : Written) (n : ℕ) → 10 ≤ n → n < 2 ^ 64 → p ≡ extended w (decimal (n / 10)) → q ≡ extended p ((48 + n % 10) ∷ []) → q ≡ extended w (decimal n)
last_digit w p q n low high ep eq =
    eq ∙ ap (λ r. extended r ((48 + n % 10) ∷ [])) ep ∙ ap (λ x. record { text = x; glued = w.glued }) (append_assoc w.text (decimal (n / 10)) ((48 + n % 10) ∷ []) ∙ ap (λ r. w.text ++ r) (sym (decimal_step n low high)))
