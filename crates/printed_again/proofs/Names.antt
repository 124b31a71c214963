-- Names and strings are printed so that they are read again, whatever bytes they have.
use Rattle.std.proofs.Common.{◌≡◌, ℕ, ◌+◌, ◌*◌, ◌/◌, ◌%◌, ◌<◌, Bool, true, false, cond, not, ◌||◌, ◌&&◌, ◌==◌, nat_lt, List, [], ◌∷◌, ◌++◌, Option, Some, None, refl, sym, ap, subst, ◌∙◌, arith, append_assoc, eqb-true, ltb-true, lt-ltb, div-add-mod'}
use Rattle.std.specs.Prelude.{codes}
use Rattle.ir_lexer.specs.declared.token.TokenKind.{TokenKind}
use Rattle.ir_lexer.specs.declared.token.TokenKind.TheVariants as kinds
use Rattle.ir_lexer.specs.Forms.{same, runs_to, is_digit, is_word_start, is_word_byte, is_name_start, is_name_byte, is_unquoted, is_plain_name, is_number, is_closed, is_name, is_label, is_quoted, is_mark, when, first_of, or_label, kind_of}
use Rattle.ir_tree.specs.Texts.{hex_digit, escaped, quoted, name_text, global_text, local_text, label_text, string_text}
use Rattle.ir_grammar.specs.Names.{is_hex, hex_value, unescaped, without_last, name_of, after_sigil, before_colon, string_bytes}
use Rattle.printed_again.specs.Again.{are_bytes}
use Rattle.phrases.proofs.Classes.{and_left, and_right}
use Rattle.printed_again.proofs.Bytes.{both, and_false, below, apart_bytes, within_bytes, all_pass, runs_through, colon_stops, colon_closes}

-- ---- escapes are undone

hex_is : (n : ℕ) → n < 16 → (is_hex (hex_digit n) && hex_value (hex_digit n) == n && not (hex_digit n == 92) && not (hex_digit n == 34)) ≡ true
hex_is n lt = below 16 (λ n. is_hex (hex_digit n) && hex_value (hex_digit n) == n && not (hex_digit n == 92) && not (hex_digit n == 34)) refl n lt

pub plain_undone : (b : ℕ) (rest : List ℕ) → (b == 92) ≡ false → unescaped (b ∷ rest) ≡ b ∷ unescaped rest
plain_undone b [] e = refl
plain_undone b (c ∷ []) e = ap (λ t. cond (t && c == 92) (92 ∷ []) (b ∷ unescaped (c ∷ []))) e
plain_undone b (c ∷ d ∷ rest) e =
    ap (λ t. cond (t && c == 92) (92 ∷ unescaped (d ∷ rest)) (cond (t && is_hex c && is_hex d) ((16 * hex_value c + hex_value d) ∷ unescaped rest) (b ∷ unescaped (c ∷ d ∷ rest)))) e

pub hex_undone : (c d : ℕ) (rest : List ℕ) → (c == 92) ≡ false → is_hex c ≡ true → is_hex d ≡ true → unescaped (92 ∷ c ∷ d ∷ rest) ≡ (16 * hex_value c + hex_value d) ∷ unescaped rest
hex_undone c d rest e h k =
    ap (λ t. cond t (92 ∷ unescaped (d ∷ rest)) (cond (is_hex c && is_hex d) ((16 * hex_value c + hex_value d) ∷ unescaped rest) (92 ∷ unescaped (c ∷ d ∷ rest)))) e
    ∙ ap (λ t. cond t ((16 * hex_value c + hex_value d) ∷ unescaped rest) (92 ∷ unescaped (c ∷ d ∷ rest))) (both (is_hex c) (is_hex d) h k)

-- the four facts of a hexadecimal digit
pub record IsHexDigit (n : ℕ) : Type 0 where
  pub hex : is_hex (hex_digit n) ≡ true
  pub value : hex_value (hex_digit n) ≡ n
  pub no_escape : (hex_digit n == 92) ≡ false
  pub no_quote : (hex_digit n == 34) ≡ false

pub hex_facts : (n : ℕ) → n < 16 → IsHexDigit n
hex_facts n lt = go (is_hex (hex_digit n)) (hex_value (hex_digit n) == n) (hex_digit n == 92) (hex_digit n == 34) refl refl refl refl (hex_is n lt)
  where
    go : (a b c d : Bool) → is_hex (hex_digit n) ≡ a → (hex_value (hex_digit n) == n) ≡ b → (hex_digit n == 92) ≡ c → (hex_digit n == 34) ≡ d → (a && b && not c && not d) ≡ true → IsHexDigit n
    go true true false false qa qb qc qd e = record { hex = qa; value = eqb-true (hex_value (hex_digit n)) n qb; no_escape = qc; no_quote = qd }
    go true true true d qa qb qc qd e = absurd cc
    go true true false true qa qb qc qd e = absurd cc
    go true false c d qa qb qc qd e = absurd cc
    go false b c d qa qb qc qd e = absurd cc

high : (b : ℕ) → nat_lt b 256 ≡ true → b / 16 < 16
high b lt = let h : b < 256 = ltb-true b 256 lt in let e : b / 16 * 16 + b % 16 ≡ b = div-add-mod' b 16 in omega (arith, h, e)

low : (b : ℕ) → b % 16 < 16
low b = omega arith

pub undone : (bs : List ℕ) → are_bytes bs ≡ true → unescaped (escaped bs) ≡ bs
undone [] h = refl
undone (b ∷ bs) h = go (undone bs (and_right (nat_lt b 256) (are_bytes bs) h)) (nat_lt b 32 || nat_lt 126 b || b == 34 || b == 92) refl
  where
    small : nat_lt b 256 ≡ true
    small = and_left (nat_lt b 256) (are_bytes bs) h

    whole : 16 * hex_value (hex_digit (b / 16)) + hex_value (hex_digit (b % 16)) ≡ b
    whole = ap (λ n. 16 * n + hex_value (hex_digit (b % 16))) (hex_facts (b / 16) (high b small)).value ∙ ap (λ n. 16 * (b / 16) + n) (hex_facts (b % 16) (low b)).value ∙ (let e : b / 16 * 16 + b % 16 ≡ b = div-add-mod' b 16 in omega (arith, e))

    last : (x y z w : Bool) → (x || y || z || w) ≡ false → w ≡ false
    last false false false w e = e
    last false false true w e = absurd cc
    last false true z w e = absurd cc
    last true y z w e = absurd cc

    go : unescaped (escaped bs) ≡ bs → (t : Bool) → (nat_lt b 32 || nat_lt 126 b || b == 34 || b == 92) ≡ t → unescaped (cond t (92 ∷ hex_digit (b / 16) ∷ hex_digit (b % 16) ∷ escaped bs) (b ∷ escaped bs)) ≡ b ∷ bs
    go rest true q =
        hex_undone (hex_digit (b / 16)) (hex_digit (b % 16)) (escaped bs) (hex_facts (b / 16) (high b small)).no_escape (hex_facts (b / 16) (high b small)).hex (hex_facts (b % 16) (low b)).hex
        ∙ ap (λ n. n ∷ unescaped (escaped bs)) whole ∙ ap (λ xs. b ∷ xs) rest
    go rest false q = plain_undone b (escaped bs) (last (nat_lt b 32) (nat_lt 126 b) (b == 34) (b == 92) q) ∙ ap (λ xs. b ∷ xs) rest

pub no_quotes : (bs : List ℕ) → are_bytes bs ≡ true → all_pass is_unquoted (escaped bs) ≡ true
no_quotes [] h = refl
no_quotes (b ∷ bs) h = go (no_quotes bs (and_right (nat_lt b 256) (are_bytes bs) h)) (nat_lt b 32 || nat_lt 126 b || b == 34 || b == 92) refl
  where
    small : nat_lt b 256 ≡ true
    small = and_left (nat_lt b 256) (are_bytes bs) h

    third : (x y z w : Bool) → (x || y || z || w) ≡ false → z ≡ false
    third false false false w e = refl
    third false false true w e = absurd cc
    third false true z w e = absurd cc
    third true y z w e = absurd cc

    go : all_pass is_unquoted (escaped bs) ≡ true → (t : Bool) → (nat_lt b 32 || nat_lt 126 b || b == 34 || b == 92) ≡ t → all_pass is_unquoted (cond t (92 ∷ hex_digit (b / 16) ∷ hex_digit (b % 16) ∷ escaped bs) (b ∷ escaped bs)) ≡ true
    go rest true q =
        both (not (hex_digit (b / 16) == 34)) _ (ap not (hex_facts (b / 16) (high b small)).no_quote) (both (not (hex_digit (b % 16) == 34)) _ (ap not (hex_facts (b % 16) (low b)).no_quote) rest)
    go rest false q = both (not (b == 34)) _ (ap not (third (nat_lt b 32) (nat_lt 126 b) (b == 34) (b == 92) q)) rest

pub last_off : (xs : List ℕ) (x : ℕ) → without_last (xs ++ x ∷ []) ≡ xs
last_off [] x = refl
last_off (a ∷ []) x = refl
last_off (a ∷ b ∷ xs) x = ap (λ ys. a ∷ ys) (last_off (b ∷ xs) x)

pub quotes_undone : (s : List ℕ) → are_bytes s ≡ true → name_of (quoted s) ≡ s
quotes_undone s h = ap unescaped (last_off (escaped s) 34) ∙ undone s h

pub closed_again : (s : List ℕ) → are_bytes s ≡ true → is_closed (escaped s ++ 34 ∷ []) ≡ true
closed_again s h = runs_through is_unquoted (codes "\"") (escaped s) (34 ∷ []) (no_quotes s h)

-- ---- names without quotes

-- a name that begins like one, or a number
pub data Plain (b : ℕ) (bs : List ℕ) : Type 0 where
  a_name : is_name_start b ≡ true → runs_to is_name_byte [] bs ≡ true → Plain b bs
  a_number : is_digit b ≡ true → runs_to is_digit [] bs ≡ true → Plain b bs

which : (b : ℕ) (bs : List ℕ) → (is_name_start b && runs_to is_name_byte [] bs || is_digit b && runs_to is_digit [] bs) ≡ true → Plain b bs
which b bs e = go (is_name_start b) (runs_to is_name_byte [] bs) (is_digit b) (runs_to is_digit [] bs) refl refl refl refl e
  where
    go : (x y z w : Bool) → is_name_start b ≡ x → runs_to is_name_byte [] bs ≡ y → is_digit b ≡ z → runs_to is_digit [] bs ≡ w → (x && y || z && w) ≡ true → Plain b bs
    go true true z w qx qy qz qw e = a_name qx qy
    go true false true true qx qy qz qw e = a_number qz qw
    go true false true false qx qy qz qw e = absurd cc
    go true false false w qx qy qz qw e = absurd cc
    go false y true true qx qy qz qw e = a_number qz qw
    go false y true false qx qy qz qw e = absurd cc
    go false y false w qx qy qz qw e = absurd cc

abbrev starts_plain : ℕ → Bool
starts_plain b = is_name_start b || is_digit b

starts_of : (b : ℕ) (bs : List ℕ) → Plain b bs → starts_plain b ≡ true
starts_of b bs (a_name e h) = ap (λ x. x || is_digit b) e
starts_of b bs (a_number e h) = go (is_name_start b) (is_digit b) e
  where
    go : (x y : Bool) → y ≡ true → (x || y) ≡ true
    go true y e = refl
    go false y e = e

plain_undo : (b : ℕ) (bs : List ℕ) → nat_lt b 256 ≡ true → Plain b bs → name_of (b ∷ bs) ≡ b ∷ bs
plain_undo b bs lt p = ap (λ t. cond t (unescaped (without_last bs)) (b ∷ bs)) (apart_bytes starts_plain (λ b. b == 34) refl b lt (starts_of b bs p))

plain_is_name : (b : ℕ) (bs : List ℕ) → nat_lt b 256 ≡ true → Plain b bs → is_name (b ∷ bs) ≡ true
plain_is_name b bs lt p =
    ap (λ t. cond t (is_closed bs) (cond (is_digit b) (runs_to is_digit [] bs) (is_name_start b && runs_to is_name_byte [] bs))) (apart_bytes starts_plain (λ b. b == 34) refl b lt (starts_of b bs p)) ∙ go p
  where
    go : Plain b bs → cond (is_digit b) (runs_to is_digit [] bs) (is_name_start b && runs_to is_name_byte [] bs) ≡ true
    go (a_name e h) = ap (λ t. cond t (runs_to is_digit [] bs) (is_name_start b && runs_to is_name_byte [] bs)) (apart_bytes is_name_start is_digit refl b lt e) ∙ both (is_name_start b) (runs_to is_name_byte [] bs) e h
    go (a_number e h) = ap (λ t. cond t (runs_to is_digit [] bs) (is_name_start b && runs_to is_name_byte [] bs)) e ∙ h

-- ---- a name as it is printed: plain, or quoted

pub name_cases : (P : List ℕ → Type 0) (s : List ℕ) → are_bytes s ≡ true → ((b : ℕ) (bs : List ℕ) → s ≡ b ∷ bs → nat_lt b 256 ≡ true → Plain b bs → P (b ∷ bs)) → P (quoted s) → P (name_text s)
name_cases P [] h plain other = other
name_cases P (b ∷ bs) h plain other = go (is_plain_name (b ∷ bs) || is_number (b ∷ bs)) refl
  where
    go : (t : Bool) → (is_plain_name (b ∷ bs) || is_number (b ∷ bs)) ≡ t → P (cond t (b ∷ bs) (quoted (b ∷ bs)))
    go true q = plain b bs refl (and_left (nat_lt b 256) (are_bytes bs) h) (which b bs q)
    go false q = other

pub name_again : (s : List ℕ) → are_bytes s ≡ true → name_of (name_text s) ≡ s
name_again s h = name_cases (λ t. name_of t ≡ s) s h (λ b bs e lt p. plain_undo b bs lt p ∙ sym e) (quotes_undone s h)

pub name_is : (s : List ℕ) → are_bytes s ≡ true → is_name (name_text s) ≡ true
name_is s h = name_cases (λ t. is_name t ≡ true) s h (λ b bs e lt p. plain_is_name b bs lt p) (closed_again s h)

pub global_is : (s : List ℕ) → are_bytes s ≡ true → kind_of (global_text s) ≡ Some kinds.Global
global_is s h = ap (λ t. cond t (Some kinds.Global) None) (name_is s h)

pub local_is : (s : List ℕ) → are_bytes s ≡ true → kind_of (local_text s) ≡ Some kinds.Local
local_is s h = ap (λ t. cond t (Some kinds.Local) None) (name_is s h)

pub string_is : (s : List ℕ) → are_bytes s ≡ true → kind_of (string_text s) ≡ Some kinds.CStr
string_is s h = ap (λ t. or_label (first_of (when t kinds.CStr) (when (runs_to is_word_byte [] (quoted s)) kinds.Word)) (string_text s)) (closed_again s h)

pub string_again : (s : List ℕ) → are_bytes s ≡ true → string_bytes (string_text s) ≡ s
string_again s h = quotes_undone s h

-- ---- labels

pub label_again : (s : List ℕ) → are_bytes s ≡ true → before_colon (label_text s) ≡ s
label_again s h = ap name_of (last_off (name_text s) 58) ∙ name_again s h

-- which kind a text has, by what its first byte is
chosen : Bool → Bool → Bool → Bool → Bool → Bool → Bool → Bool → Bool → ℕ → List ℕ → Option TokenKind
chosen at percent hash bang quote wordy digit minus start b bs =
    cond at (when (is_name bs) kinds.Global)
    (cond percent (when (is_name bs) kinds.Local)
    (cond hash (first_of (when (is_number bs) kinds.AttrGroup) (when (is_plain_name bs) kinds.Punct))
    (cond bang (first_of (when (is_number bs) kinds.Meta) (first_of (when (is_plain_name bs) kinds.Meta) (when (same [] bs) kinds.Meta)))
    (cond quote (or_label (when (is_closed bs) kinds.Str) (b ∷ bs))
    (cond wordy (or_label (first_of (when (b == 99 && is_quoted bs) kinds.CStr) (when (runs_to is_word_byte [] bs) kinds.Word)) (b ∷ bs))
    (cond digit (or_label (when (runs_to is_digit [] bs) kinds.Int) (b ∷ bs))
    (cond minus (or_label (when (is_number bs) kinds.Int) (b ∷ bs))
    (cond start (or_label (when (b == 46 && same (codes "..") bs) kinds.Punct) (b ∷ bs)) (when (is_mark b bs) kinds.Punct)))))))))

kind_is_chosen : (b : ℕ) (bs : List ℕ) → kind_of (b ∷ bs) ≡ chosen (b == 64) (b == 37) (b == 35) (b == 33) (b == 34) (is_word_start b) (is_digit b) (b == 45) (is_name_start b) b bs
unfolding chosen
kind_is_chosen b bs = refl

-- a text that begins like a name
chosen_plain : (wordy digit minus start : Bool) (b : ℕ) (bs : List ℕ) → nat_lt b 256 ≡ true → starts_plain b ≡ true → is_word_start b ≡ wordy → is_digit b ≡ digit → (b == 45) ≡ minus → is_name_start b ≡ start → kind_of (b ∷ bs) ≡ chosen false false false false false wordy digit minus start b bs
chosen_plain wordy digit minus start b bs lt h qw qd qm qs =
    let e64 = apart_bytes starts_plain (λ b. b == 64) refl b lt h in
    let e37 = apart_bytes starts_plain (λ b. b == 37) refl b lt h in
    let e35 = apart_bytes starts_plain (λ b. b == 35) refl b lt h in
    let e33 = apart_bytes starts_plain (λ b. b == 33) refl b lt h in
    let e34 = apart_bytes starts_plain (λ b. b == 34) refl b lt h in
    let k = kind_is_chosen b bs in
    cc

-- no text of another kind has a colon at its end
no_string : (bs : List ℕ) → runs_to is_name_byte [] bs ≡ true → is_quoted (bs ++ 58 ∷ []) ≡ false
no_string [] h = refl
no_string (x ∷ xs) h = go (x == 34) refl
  where
    go : (t : Bool) → (x == 34) ≡ t → (t && is_closed (xs ++ 58 ∷ [])) ≡ false
    go false q = refl
    go true q = absurd (let e : runs_to is_name_byte [] (34 ∷ xs) ≡ true = subst (λ y. runs_to is_name_byte [] (y ∷ xs) ≡ true) (eqb-true x 34 q) h in cc)

no_number : (bs : List ℕ) → is_number (bs ++ 58 ∷ []) ≡ false
no_number [] = refl
no_number (x ∷ xs) = and_false (is_digit x) (runs_to is_digit [] (xs ++ 58 ∷ [])) (colon_stops is_digit refl xs)

no_dots : (bs : List ℕ) → same (codes "..") (bs ++ 58 ∷ []) ≡ false
no_dots [] = refl
no_dots (x ∷ []) = and_false (46 == x) (46 == 58 && same [] []) refl
no_dots (x ∷ y ∷ []) = and_false (46 == x) _ (and_false (46 == y) (same [] (58 ∷ [])) refl)
no_dots (x ∷ y ∷ z ∷ zs) = and_false (46 == x) _ (and_false (46 == y) (same [] (z ∷ (zs ++ 58 ∷ []))) refl)

labelled : (kind : Option TokenKind) (text : List ℕ) → kind ≡ None → is_label text ≡ true → or_label kind text ≡ Some kinds.Label
labelled kind text e h = ap (λ k. first_of k (when (is_label text) kinds.Label)) e ∙ ap (λ t. cond t (Some kinds.Label) None) h

plain_label : (b : ℕ) (bs : List ℕ) → nat_lt b 256 ≡ true → Plain b bs → is_label (b ∷ (bs ++ 58 ∷ [])) ≡ true
plain_label b bs lt p =
    ap (λ t. cond t (runs_to is_unquoted (codes "\":") (bs ++ 58 ∷ [])) (cond (is_digit b) (runs_to is_digit (codes ":") (bs ++ 58 ∷ [])) (is_name_start b && runs_to is_name_byte (codes ":") (bs ++ 58 ∷ []))))
    (apart_bytes starts_plain (λ b. b == 34) refl b lt (starts_of b bs p)) ∙ go p
  where
    go : Plain b bs → cond (is_digit b) (runs_to is_digit (codes ":") (bs ++ 58 ∷ [])) (is_name_start b && runs_to is_name_byte (codes ":") (bs ++ 58 ∷ [])) ≡ true
    go (a_name e h) =
        ap (λ t. cond t (runs_to is_digit (codes ":") (bs ++ 58 ∷ [])) (is_name_start b && runs_to is_name_byte (codes ":") (bs ++ 58 ∷ []))) (apart_bytes is_name_start is_digit refl b lt e)
        ∙ both (is_name_start b) _ e (colon_closes is_name_byte refl bs h)
    go (a_number e h) = ap (λ t. cond t (runs_to is_digit (codes ":") (bs ++ 58 ∷ [])) (is_name_start b && runs_to is_name_byte (codes ":") (bs ++ 58 ∷ []))) e ∙ colon_closes is_digit refl bs h

no_word : (b : ℕ) (bs : List ℕ) → runs_to is_name_byte [] bs ≡ true → first_of (when (b == 99 && is_quoted (bs ++ 58 ∷ [])) kinds.CStr) (when (runs_to is_word_byte [] (bs ++ 58 ∷ [])) kinds.Word) ≡ None
no_word b bs h =
    ap (λ t. first_of (when t kinds.CStr) (when (runs_to is_word_byte [] (bs ++ 58 ∷ [])) kinds.Word)) (and_false (b == 99) (is_quoted (bs ++ 58 ∷ [])) (no_string bs h))
    ∙ ap (λ t. cond t (Some kinds.Word) None) (colon_stops is_word_byte refl bs)

label_of_plain : (b : ℕ) (bs : List ℕ) → nat_lt b 256 ≡ true → Plain b bs → kind_of (b ∷ (bs ++ 58 ∷ [])) ≡ Some kinds.Label
unfolding chosen
label_of_plain b bs lt p = go p
  where
    text : List ℕ
    text = bs ++ 58 ∷ []

    is_it : is_label (b ∷ (bs ++ 58 ∷ [])) ≡ true
    is_it = plain_label b bs lt p

    starts : starts_plain b ≡ true
    starts = starts_of b bs p

    named : is_name_start b ≡ true → runs_to is_name_byte [] bs ≡ true → (wordy minus : Bool) → is_word_start b ≡ wordy → (b == 45) ≡ minus → kind_of (b ∷ (bs ++ 58 ∷ [])) ≡ Some kinds.Label
    named e h true minus qw qm = chosen_plain true false minus true b (bs ++ 58 ∷ []) lt starts qw (apart_bytes is_name_start is_digit refl b lt e) qm e ∙ labelled _ (b ∷ (bs ++ 58 ∷ [])) (no_word b bs h) is_it
    named e h false true qw qm =
        chosen_plain false false true true b (bs ++ 58 ∷ []) lt starts qw (apart_bytes is_name_start is_digit refl b lt e) qm e
        ∙ labelled _ (b ∷ (bs ++ 58 ∷ [])) (ap (λ t. cond t (Some kinds.Int) None) (no_number bs)) is_it
    named e h false false qw qm =
        chosen_plain false false false true b (bs ++ 58 ∷ []) lt starts qw (apart_bytes is_name_start is_digit refl b lt e) qm e
        ∙ labelled _ (b ∷ (bs ++ 58 ∷ [])) (ap (λ t. cond t (Some kinds.Punct) None) (and_false (b == 46) _ (no_dots bs))) is_it

    go : Plain b bs → kind_of (b ∷ (bs ++ 58 ∷ [])) ≡ Some kinds.Label
    go (a_name e h) = named e h (is_word_start b) (b == 45) refl refl
    go (a_number e h) =
        chosen_plain false true (b == 45) (is_name_start b) b (bs ++ 58 ∷ []) lt starts (apart_bytes is_digit is_word_start refl b lt e) e refl refl
        ∙ labelled _ (b ∷ (bs ++ 58 ∷ [])) (ap (λ t. cond t (Some kinds.Int) None) (colon_stops is_digit refl bs)) is_it

label_of_quoted : (s : List ℕ) → are_bytes s ≡ true → kind_of (quoted s ++ 58 ∷ []) ≡ Some kinds.Label
label_of_quoted s h =
    ap (λ t. kind_of (34 ∷ t)) (append_assoc (escaped s) (34 ∷ []) (58 ∷ []))
    ∙ labelled (when (is_closed (escaped s ++ 34 ∷ 58 ∷ [])) kinds.Str) (34 ∷ (escaped s ++ 34 ∷ 58 ∷ []))
    (ap (λ t. cond t (Some kinds.Str) None) (runs_through is_unquoted (codes "\"") (escaped s) (34 ∷ 58 ∷ []) (no_quotes s h)))
    (runs_through is_unquoted (codes "\":") (escaped s) (34 ∷ 58 ∷ []) (no_quotes s h))

pub label_is : (s : List ℕ) → are_bytes s ≡ true → kind_of (label_text s) ≡ Some kinds.Label
label_is s h = name_cases (λ t. kind_of (t ++ 58 ∷ []) ≡ Some kinds.Label) s h (λ b bs e lt p. label_of_plain b bs lt p) (label_of_quoted s h)

-- ---- numbers

pub digits_kind : (d : ℕ) (ds : List ℕ) → nat_lt d 256 ≡ true → is_digit d ≡ true → runs_to is_digit [] ds ≡ true → kind_of (d ∷ ds) ≡ Some kinds.Int
unfolding chosen
digits_kind d ds lt e h =
    chosen_plain false true (d == 45) (is_name_start d) d ds lt (within_bytes is_digit starts_plain refl d lt e) (apart_bytes is_digit is_word_start refl d lt e) e refl refl
    ∙ ap (λ t. or_label (when t kinds.Int) (d ∷ ds)) h

-- ---- what is undone has bytes

hex_small : (b : ℕ) → nat_lt b 256 ≡ true → is_hex b ≡ true → hex_value b < 16
hex_small b lt h = ltb-true (hex_value b) 16 (within_bytes is_hex (λ b. nat_lt (hex_value b) 16) refl b lt h)

pair_small : (b c : ℕ) → nat_lt b 256 ≡ true → nat_lt c 256 ≡ true → (x y z : Bool) → is_hex b ≡ y → is_hex c ≡ z → (x && y && z) ≡ true → nat_lt (16 * hex_value b + hex_value c) 256 ≡ true
pair_small b c hb hc true true true qb qc e = let u = hex_small b hb qb in let v = hex_small c hc qc in lt-ltb (16 * hex_value b + hex_value c) 256 (omega (arith, u, v))
pair_small b c hb hc true true false qb qc e = absurd cc
pair_small b c hb hc true false z qb qc e = absurd cc
pair_small b c hb hc false y z qb qc e = absurd cc

undone_bytes : (bs : List ℕ) → are_bytes bs ≡ true → are_bytes (unescaped bs) ≡ true
undone_bytes [] h = refl
undone_bytes (a ∷ []) h = h
undone_bytes (a ∷ b ∷ []) h = go (a == 92 && b == 92)
  where
    go : (t : Bool) → are_bytes (cond t (92 ∷ []) (a ∷ b ∷ [])) ≡ true
    go true = refl
    go false = h
undone_bytes (a ∷ b ∷ c ∷ rest) h =
    let ha = and_left (nat_lt a 256) _ h in
    let hs = and_right (nat_lt a 256) _ h in
    let hb = and_left (nat_lt b 256) _ hs in
    let hr = and_right (nat_lt b 256) _ hs in
    let hc = and_left (nat_lt c 256) _ hr in
    go ha hb hc (undone_bytes (c ∷ rest) hr) (undone_bytes rest (and_right (nat_lt c 256) _ hr)) (undone_bytes (b ∷ c ∷ rest) hs) (a == 92 && b == 92) (a == 92 && is_hex b && is_hex c) refl
  where
    go : nat_lt a 256 ≡ true → nat_lt b 256 ≡ true → nat_lt c 256 ≡ true → are_bytes (unescaped (c ∷ rest)) ≡ true → are_bytes (unescaped rest) ≡ true → are_bytes (unescaped (b ∷ c ∷ rest)) ≡ true
        → (t u : Bool) → (a == 92 && is_hex b && is_hex c) ≡ u → are_bytes (cond t (92 ∷ unescaped (c ∷ rest)) (cond u ((16 * hex_value b + hex_value c) ∷ unescaped rest) (a ∷ unescaped (b ∷ c ∷ rest)))) ≡ true
    go ha hb hc one two three true u q = one
    go ha hb hc one two three false true q = both _ _ (pair_small b c hb hc (a == 92) (is_hex b) (is_hex c) refl refl q) two
    go ha hb hc one two three false false q = both (nat_lt a 256) _ ha three

front_bytes : (bs : List ℕ) → are_bytes bs ≡ true → are_bytes (without_last bs) ≡ true
front_bytes [] h = refl
front_bytes (a ∷ []) h = refl
front_bytes (a ∷ b ∷ bs) h = both (nat_lt a 256) _ (and_left (nat_lt a 256) _ h) (front_bytes (b ∷ bs) (and_right (nat_lt a 256) _ h))

pub name_bytes : (bs : List ℕ) → are_bytes bs ≡ true → are_bytes (name_of bs) ≡ true
name_bytes [] h = refl
name_bytes (b ∷ bs) h = go (b == 34)
  where
    go : (t : Bool) → are_bytes (cond t (unescaped (without_last bs)) (b ∷ bs)) ≡ true
    go true = undone_bytes (without_last bs) (front_bytes bs (and_right (nat_lt b 256) (are_bytes bs) h))
    go false = h

pub sigil_bytes : (bs : List ℕ) → are_bytes bs ≡ true → are_bytes (after_sigil bs) ≡ true
sigil_bytes [] h = refl
sigil_bytes (b ∷ bs) h = name_bytes bs (and_right (nat_lt b 256) (are_bytes bs) h)

pub string_has_bytes : (bs : List ℕ) → are_bytes bs ≡ true → are_bytes (string_bytes bs) ≡ true
string_has_bytes [] h = refl
string_has_bytes (b ∷ bs) h = name_bytes bs (and_right (nat_lt b 256) (are_bytes bs) h)

pub colon_bytes : (bs : List ℕ) → are_bytes bs ≡ true → are_bytes (before_colon bs) ≡ true
colon_bytes bs h = name_bytes (without_last bs) (front_bytes bs h)
