-- What scanning finds is the longest token in front.
use Rattle.std.proofs.Common.{◌≡◌, ℕ, zero, suc, ◌+◌, ◌≤◌, ◌<◌, Bool, true, false, cond, ◌&&◌, ◌||◌, List, [], ◌∷◌, length, take, drop, get_or, Option, Some, None, eqb, leb, refl, sym, ap, subst, ◌∙◌, arith}
use Rattle.std.specs.Prelude.{codes, MatchOption}
use Rattle.std.proofs.lemmas.Bool.{eqb-true, ne_eqb, leb-true, lt-leb, and_parts}
use Rattle.ir_lexer.specs.declared.token.TokenKind.{TokenKind}
use Rattle.ir_lexer.specs.declared.token.TokenKind.TheVariants as kinds
use Rattle.ir_lexer.specs.Forms.{is_digit, is_letter, is_word_start, is_word_byte, is_name_start, is_name_byte, is_unquoted, same, runs_to, is_plain_name, is_number, is_closed, is_name, is_label, is_quoted, is_mark_byte, is_mark, when, first_of, or_label, kind_of}
use Rattle.ir_lexer.specs.Lexing.{NoneFrom, IsTokenAt}
use Rattle.ir_lexer.specs.Scanning.{run, begins, run_to, one_more, plain_behind, plain_name, number_behind, number, quoted_behind, quoted, name_behind, name, label_behind, of_kind, or_else, after_hash, after_bang, word_or_string, marks, found_whole, with_first, found}
use Rattle.ir_lexer.proofs.Runs.{run_wider, same_is}
use Rattle.ir_lexer.proofs.Best.{Longest, Best, IsShorter, run_longest, ending_longest, cons_longest, kind_best, none_best, second_best, first_best}

-- ---- what stands in front

nil_longest : (f : List ℕ → Bool) → f [] ≡ false → Longest f [] None
nil_longest f nil zero le = nil
nil_longest f nil (suc m) le = nil

-- a test that may fail at the first byte
and_longest : (b : Bool) (f : List ℕ → Bool) (bs : List ℕ) (n : ℕ) → Longest f bs (Some n) → Longest (λ t. b && f t) bs (cond b (Some n) None)
and_longest true f bs n l = l
and_longest false f bs n l = λ m le. refl

plain_longest : (bs : List ℕ) → Longest is_plain_name bs (plain_name bs)
plain_longest [] = nil_longest is_plain_name refl
plain_longest (b ∷ bs) = cons_longest is_plain_name b bs (plain_behind b bs) refl (and_longest (is_name_start b) (runs_to is_name_byte []) bs (run is_name_byte bs) (run_longest is_name_byte bs))

number_longest : (bs : List ℕ) → Longest is_number bs (number bs)
number_longest [] = nil_longest is_number refl
number_longest (b ∷ bs) = cons_longest is_number b bs (number_behind b bs) refl (and_longest (is_digit b) (runs_to is_digit []) bs (run is_digit bs) (run_longest is_digit bs))

closed_longest : (bs : List ℕ) → Longest is_closed bs (run_to is_unquoted (codes "\"") bs)
closed_longest bs = ending_longest is_unquoted 34 [] refl bs

quoted_longest : (bs : List ℕ) → Longest is_quoted bs (quoted bs)
quoted_longest [] = nil_longest is_quoted refl
quoted_longest (b ∷ bs) = cons_longest is_quoted b bs (quoted_behind b bs) refl (go (eqb b 34))
  where
    go : (x : Bool) → Longest (λ t. x && is_closed t) bs (cond x (run_to is_unquoted (codes "\"") bs) None)
    go true = closed_longest bs
    go false = λ m le. refl

name_longest : (bs : List ℕ) → Longest is_name bs (name bs)
name_longest [] = nil_longest is_name refl
name_longest (b ∷ bs) = cons_longest is_name b bs (name_behind b bs) refl (go (eqb b 34) (is_digit b))
  where
    go : (x y : Bool) → Longest (λ t. cond x (is_closed t) (cond y (runs_to is_digit [] t) (is_name_start b && runs_to is_name_byte [] t))) bs (cond x (run_to is_unquoted (codes "\"") bs) (cond y (Some (run is_digit bs)) (plain_behind b bs)))
    go true y = closed_longest bs
    go false true = run_longest is_digit bs
    go false false = and_longest (is_name_start b) (runs_to is_name_byte []) bs (run is_name_byte bs) (run_longest is_name_byte bs)

label_longest : (b : ℕ) (bs : List ℕ) → Longest (λ t. is_label (b ∷ t)) bs (label_behind b bs)
label_longest b bs = go (eqb b 34) (is_digit b) (is_name_start b)
  where
    go : (x y z : Bool) → Longest (λ t. cond x (runs_to is_unquoted (codes "\":") t) (cond y (runs_to is_digit (codes ":") t) (z && runs_to is_name_byte (codes ":") t))) bs
        (cond x (run_to is_unquoted (codes "\":") bs) (cond y (run_to is_digit (codes ":") bs) (cond z (run_to is_name_byte (codes ":") bs) None)))
    go true y z = ending_longest is_unquoted 34 (codes ":") refl bs
    go false true z = ending_longest is_digit 58 [] refl bs
    go false false true = ending_longest is_name_byte 58 [] refl bs
    go false false false = λ m le. refl

-- ---- bytes

-- no digit begins a name
pub digit_no_start : (b : ℕ) → is_digit b ≡ true → is_name_start b ≡ false
digit_no_start b e =
    let p = and_parts (leb 48 b) (leb b 57) e in
    let low = leb-true 48 b p.0 in
    let high = leb-true b 57 p.1 in
    go (leb 97 b) (leb b 122) (leb 65 b) (leb b 90) (eqb b 45) (eqb b 36) (eqb b 46) (eqb b 95) (lt-leb 97 b (omega (arith, high))) (lt-leb 65 b (omega (arith, high))) (ne_eqb b 45 (λ h. omega (arith, h, low))) (ne_eqb b 36 (λ h. omega (arith, h, low)))
    (ne_eqb b 46 (λ h. omega (arith, h, low))) (ne_eqb b 95 (λ h. omega (arith, h, high)))
  where
    go : (a c d f g h i j : Bool) → a ≡ false → d ≡ false → g ≡ false → h ≡ false → i ≡ false → j ≡ false → ((a && c || d && f) || g || h || i || j) ≡ false
    go true c d f g h i j p q r s t u = absurd cc
    go false c true f g h i j p q r s t u = absurd cc
    go false c false f true h i j p q r s t u = absurd cc
    go false c false f false true i j p q r s t u = absurd cc
    go false c false f false false true j p q r s t u = absurd cc
    go false c false f false false false true p q r s t u = absurd cc
    go false c false f false false false false p q r s t u = refl

pub word_is_name : (b : ℕ) → is_word_start b ≡ true → is_name_start b ≡ true
word_is_name b e = go (is_letter b) (eqb b 45) (eqb b 36) (eqb b 46) (eqb b 95) e
  where
    go : (a c d f g : Bool) → (a || g) ≡ true → (a || c || d || f || g) ≡ true
    go true c d f g h = refl
    go false true d f g h = refl
    go false false true f g h = refl
    go false false false true g h = refl
    go false false false false g h = h

pub word_byte_is_name : (b : ℕ) → is_word_byte b ≡ true → is_name_byte b ≡ true
word_byte_is_name b e = go (is_letter b) (eqb b 45) (eqb b 36) (eqb b 46) (eqb b 95) (is_digit b) e
  where
    go : (a c d f g i : Bool) → ((a || g) || i || f) ≡ true → ((a || c || d || f || g) || i) ≡ true
    go true c d f g i h = refl
    go false true d f g i h = refl
    go false false true f g i h = refl
    go false false false true g i h = refl
    go false false false false true i h = refl
    go false false false false false true h = refl
    go false false false false false false h = h

pub digit_is_name : (b : ℕ) → is_digit b ≡ true → is_name_byte b ≡ true
digit_is_name b e = go (is_name_start b) (is_digit b) e
  where
    go : (a c : Bool) → c ≡ true → (a || c) ≡ true
    go true c h = refl
    go false c h = h

pub word_no_digit : (b : ℕ) → is_word_start b ≡ true → is_digit b ≡ false
word_no_digit b e = go (is_digit b) (digit_no_start b) (word_is_name b e)
  where
    go : (x : Bool) → (x ≡ true → is_name_start b ≡ false) → is_name_start b ≡ true → x ≡ false
    go true f h = absurd (let g = f refl in cc)
    go false f h = refl

-- ---- each first byte

abbrev IsBest : ℕ → Type 0
IsBest b = (bs : List ℕ) → Best (λ t. kind_of (b ∷ t)) bs (found_whole b bs)

at_global : IsBest 64
at_global bs = kind_best is_name kinds.Global bs (name bs) (name_longest bs)

at_local : IsBest 37
at_local bs = kind_best is_name kinds.Local bs (name bs) (name_longest bs)

-- a number and a name begin with different bytes
number_or_name : (k l : TokenKind) (bs : List ℕ) → IsShorter (of_kind k (plain_name bs)) (of_kind l (number bs))
number_or_name k l [] = tt
number_or_name k l (c ∷ cs) = go (is_digit c) (is_name_start c) (digit_no_start c)
  where
    go : (x y : Bool) → (x ≡ true → y ≡ false) → IsShorter (of_kind k (one_more (cond y (Some (run is_name_byte cs)) None))) (of_kind l (one_more (cond x (Some (run is_digit cs)) None)))
    go true true f = absurd (let e = f refl in cc)
    go true false f = tt
    go false true f = tt
    go false false f = tt

at_hash : IsBest 35
at_hash bs =
    first_best (λ t. when (is_number t) kinds.AttrGroup) (λ t. when (is_plain_name t) kinds.Punct) bs (of_kind kinds.AttrGroup (number bs)) (of_kind kinds.Punct (plain_name bs))
    (kind_best is_number kinds.AttrGroup bs (number bs) (number_longest bs)) (kind_best is_plain_name kinds.Punct bs (plain_name bs) (plain_longest bs)) (number_or_name kinds.Punct kinds.AttrGroup bs)

nothing_longest : (bs : List ℕ) → Longest (same []) bs (Some 0)
nothing_longest bs = (omega arith, none bs, λ m lt le. some bs m lt le)
  where
    none : (bs : List ℕ) → same [] (take 0 bs) ≡ true
    none [] = refl
    none (b ∷ bs) = refl

    some : (bs : List ℕ) (m : ℕ) → 1 ≤ m → m ≤ length bs → same [] (take m bs) ≡ false
    some [] m lt le = absurd (omega (arith, lt, le))
    some (b ∷ bs) zero lt le = absurd (omega (arith, lt))
    some (b ∷ bs) (suc m) lt le = refl

at_bang : IsBest 33
at_bang bs =
    first_best (λ t. when (is_number t) kinds.Meta) (λ t. first_of (when (is_plain_name t) kinds.Meta) (when (same [] t) kinds.Meta)) bs (of_kind kinds.Meta (number bs)) (or_else (of_kind kinds.Meta (plain_name bs)) (Some (kinds.Meta, 0)))
    (kind_best is_number kinds.Meta bs (number bs) (number_longest bs))
    (first_best (λ t. when (is_plain_name t) kinds.Meta) (λ t. when (same [] t) kinds.Meta) bs (of_kind kinds.Meta (plain_name bs)) (Some (kinds.Meta, 0)) (kind_best is_plain_name kinds.Meta bs (plain_name bs) (plain_longest bs))
    (kind_best (same []) kinds.Meta bs (Some 0) (nothing_longest bs)) (inner bs))
    (outer bs)
  where
    inner : (bs : List ℕ) → IsShorter (Some (kinds.Meta, 0)) (of_kind kinds.Meta (plain_name bs))
    inner [] = tt
    inner (c ∷ cs) = go (is_name_start c)
      where
        go : (y : Bool) → IsShorter (Some (kinds.Meta, 0)) (of_kind kinds.Meta (one_more (cond y (Some (run is_name_byte cs)) None)))
        go true = omega arith
        go false = tt

    outer : (bs : List ℕ) → IsShorter (or_else (of_kind kinds.Meta (plain_name bs)) (Some (kinds.Meta, 0))) (of_kind kinds.Meta (number bs))
    outer [] = tt
    outer (c ∷ cs) = go (is_digit c) (is_name_start c) (digit_no_start c)
      where
        go : (x y : Bool) → (x ≡ true → y ≡ false) → IsShorter (or_else (of_kind kinds.Meta (one_more (cond y (Some (run is_name_byte cs)) None))) (Some (kinds.Meta, 0))) (of_kind kinds.Meta (one_more (cond x (Some (run is_digit cs)) None)))
        go true true f = absurd (let e = f refl in cc)
        go true false f = omega arith
        go false true f = tt
        go false false f = tt

-- ---- what begins like a label

-- the label is the longer one
with_label : (b : ℕ) (g : List ℕ → Option TokenKind) (bs : List ℕ) (o : Option (TokenKind × ℕ)) → Best g bs o → IsShorter o (of_kind kinds.Label (label_behind b bs))
    → Best (λ t. or_label (g t) (b ∷ t)) bs (or_else (of_kind kinds.Label (label_behind b bs)) o)
with_label b g bs o G s = second_best g (λ t. when (is_label (b ∷ t)) kinds.Label) bs o (of_kind kinds.Label (label_behind b bs)) G (kind_best (λ t. is_label (b ∷ t)) kinds.Label bs (label_behind b bs) (label_longest b bs)) s

-- an ending that is longer
longer_end : (k l : TokenKind) (r m n : ℕ) → m < n → (x y : Bool) → IsShorter (of_kind k (cond x (Some (r + m)) None)) (of_kind l (cond y (Some (r + n)) None))
longer_end k l r m n lt true true = omega (arith, lt)
longer_end k l r m n lt true false = tt
longer_end k l r m n lt false y = tt

at_quote : IsBest 34
at_quote bs =
    with_label 34 (λ t. when (is_closed t) kinds.Str) bs (of_kind kinds.Str (run_to is_unquoted (codes "\"") bs)) (kind_best is_closed kinds.Str bs (run_to is_unquoted (codes "\"") bs) (closed_longest bs))
    (longer_end kinds.Str kinds.Label (run is_unquoted bs) 1 2 (omega arith) (begins (codes "\"") (drop (run is_unquoted bs) bs)) (begins (codes "\":") (drop (run is_unquoted bs) bs)))

-- a run that is no longer than the one before the colon
before_colon : (k l : TokenKind) (n : ℕ) (f : ℕ → Bool) (bs : List ℕ) → n ≤ run f bs → IsShorter (Some (k, n)) (of_kind l (run_to f (codes ":") bs))
before_colon k l n f bs le = go (begins (codes ":") (drop (run f bs) bs))
  where
    go : (x : Bool) → IsShorter (Some (k, n)) (of_kind l (cond x (Some (run f bs + 1)) None))
    go true = omega (arith, le)
    go false = tt

at_minus : IsBest 45
at_minus bs = with_label 45 (λ t. when (is_number t) kinds.Int) bs (of_kind kinds.Int (number bs)) (kind_best is_number kinds.Int bs (number bs) (number_longest bs)) (shorter bs)
  where
    shorter : (bs : List ℕ) → IsShorter (of_kind kinds.Int (number bs)) (of_kind kinds.Label (run_to is_name_byte (codes ":") bs))
    shorter [] = tt
    shorter (c ∷ cs) = go (is_digit c) refl
      where
        go : (x : Bool) → is_digit c ≡ x → IsShorter (of_kind kinds.Int (one_more (cond x (Some (run is_digit cs)) None))) (of_kind kinds.Label (run_to is_name_byte (codes ":") (c ∷ cs)))
        go true e =
            let wide = run_wider is_digit is_name_byte digit_is_name (c ∷ cs) in
            let first : run is_digit (c ∷ cs) ≡ suc (run is_digit cs) = ap (λ x. cond x (suc (run is_digit cs)) 0) e in
            before_colon kinds.Int kinds.Label (run is_digit cs + 1) is_name_byte (c ∷ cs) (omega (arith, wide, first))
        go false e = tt

-- a text alone
text_longest : (c : ℕ) (more bs : List ℕ) → Longest (same (c ∷ more)) bs (cond (begins (c ∷ more) bs) (Some (length (c ∷ more))) None)
text_longest c more bs = moved (cond (begins (c ∷ more) bs) (Some (length (c ∷ more))) None) (subst (λ o. Longest (runs_to (λ _. false) (c ∷ more)) bs o) (alone bs) (ending_longest (λ _. false) c more refl bs))
  where
    alone : (bs : List ℕ) → run_to (λ _. false) (c ∷ more) bs ≡ cond (begins (c ∷ more) bs) (Some (length (c ∷ more))) None
    alone [] = refl
    alone (b ∷ bs) = ap (λ n. cond (begins (c ∷ more) (b ∷ bs)) (Some n) None) (omega arith)

    same_run : (t : List ℕ) → runs_to (λ _. false) (c ∷ more) t ≡ same (c ∷ more) t
    same_run [] = refl
    same_run (b ∷ t) = refl

    moved : (o : Option ℕ) → Longest (runs_to (λ _. false) (c ∷ more)) bs o → Longest (same (c ∷ more)) bs o
    moved None l = λ m le. sym (same_run (take m bs)) ∙ l m le
    moved (Some n) l = (l.0, sym (same_run (take n bs)) ∙ l.1, λ m lt le. sym (same_run (take m bs)) ∙ l.2 m lt le)

at_dot : IsBest 46
at_dot bs = with_label 46 (λ t. when (same (codes "..") t) kinds.Punct) bs (cond (begins (codes "..") bs) (Some (kinds.Punct, 2)) None) (best (begins (codes "..") bs) (text_longest 46 (codes ".") bs)) (shorter bs)
  where
    best : (x : Bool) → Longest (same (codes "..")) bs (cond x (Some 2) None) → Best (λ t. when (same (codes "..") t) kinds.Punct) bs (cond x (Some (kinds.Punct, 2)) None)
    best true l = kind_best (same (codes "..")) kinds.Punct bs (Some 2) l
    best false l = kind_best (same (codes "..")) kinds.Punct bs None l

    two : (bs : List ℕ) → begins (codes "..") bs ≡ true → 2 ≤ run is_name_byte bs
    two [] e = absurd cc
    two (x ∷ []) e = absurd (omega (arith, ap length (same_is (codes "..") (x ∷ []) e)))
    two (x ∷ y ∷ rest) e = go (same_is (codes "..") (x ∷ y ∷ take 0 rest) e)
      where
        go : 46 ∷ 46 ∷ [] ≡ x ∷ y ∷ take 0 rest → 2 ≤ run is_name_byte (x ∷ y ∷ rest)
        go h =
            let a : 46 ≡ x = cc in
            let b : 46 ≡ y = cc in
            subst (λ (u : ℕ). 2 ≤ run is_name_byte (u ∷ y ∷ rest)) a (subst (λ (u : ℕ). 2 ≤ run is_name_byte (46 ∷ u ∷ rest)) b (omega arith))

    shorter : (bs : List ℕ) → IsShorter (cond (begins (codes "..") bs) (Some (kinds.Punct, 2)) None) (of_kind kinds.Label (run_to is_name_byte (codes ":") bs))
    shorter bs = go (begins (codes "..") bs) refl
      where
        go : (x : Bool) → begins (codes "..") bs ≡ x → IsShorter (cond x (Some (kinds.Punct, 2)) None) (of_kind kinds.Label (run_to is_name_byte (codes ":") bs))
        go true e = before_colon kinds.Punct kinds.Label 2 is_name_byte bs (two bs e)
        go false e = tt

-- ---- words, numbers and other first bytes

-- the label of a byte that begins a name, and of a digit
pub label_of_name : (b : ℕ) (bs : List ℕ) → eqb b 34 ≡ false → is_digit b ≡ false → is_name_start b ≡ true → label_behind b bs ≡ run_to is_name_byte (codes ":") bs
label_of_name b bs q d n = go (eqb b 34) (is_digit b) (is_name_start b) q d n
  where
    go : (x y z : Bool) → x ≡ false → y ≡ false → z ≡ true → cond x (run_to is_unquoted (codes "\":") bs) (cond y (run_to is_digit (codes ":") bs) (cond z (run_to is_name_byte (codes ":") bs) None)) ≡ run_to is_name_byte (codes ":") bs
    go true y z q d n = absurd cc
    go false true z q d n = absurd cc
    go false false false q d n = absurd cc
    go false false true q d n = refl

pub label_of_digit : (b : ℕ) (bs : List ℕ) → eqb b 34 ≡ false → is_digit b ≡ true → label_behind b bs ≡ run_to is_digit (codes ":") bs
label_of_digit b bs q d = go (eqb b 34) (is_digit b) q d
  where
    go : (x y : Bool) → x ≡ false → y ≡ true → cond x (run_to is_unquoted (codes "\":") bs) (cond y (run_to is_digit (codes ":") bs) (cond (is_name_start b) (run_to is_name_byte (codes ":") bs) None)) ≡ run_to is_digit (codes ":") bs
    go true y q d = absurd cc
    go false false q d = absurd cc
    go false true q d = refl

no_label : (b : ℕ) (bs : List ℕ) → eqb b 34 ≡ false → is_digit b ≡ false → is_name_start b ≡ false → label_behind b bs ≡ None
no_label b bs q d n = go (eqb b 34) (is_digit b) (is_name_start b) q d n
  where
    go : (x y z : Bool) → x ≡ false → y ≡ false → z ≡ false → cond x (run_to is_unquoted (codes "\":") bs) (cond y (run_to is_digit (codes ":") bs) (cond z (run_to is_name_byte (codes ":") bs) None)) ≡ None
    go true y z q d n = absurd cc
    go false true z q d n = absurd cc
    go false false true q d n = absurd cc
    go false false false q d n = refl

word_best : (b : ℕ) (bs : List ℕ) → Best (λ t. first_of (when (eqb b 99 && is_quoted t) kinds.CStr) (when (runs_to is_word_byte [] t) kinds.Word)) bs (word_or_string b bs)
word_best b bs =
    first_best (λ t. when (eqb b 99 && is_quoted t) kinds.CStr) (λ t. when (runs_to is_word_byte [] t) kinds.Word) bs (cond (eqb b 99) (of_kind kinds.CStr (quoted bs)) None) (Some (kinds.Word, run is_word_byte bs))
    (string (eqb b 99)) (kind_best (runs_to is_word_byte []) kinds.Word bs (Some (run is_word_byte bs)) (run_longest is_word_byte bs)) (shorter (eqb b 99) bs)
  where
    string : (x : Bool) → Best (λ t. when (x && is_quoted t) kinds.CStr) bs (cond x (of_kind kinds.CStr (quoted bs)) None)
    string true = kind_best is_quoted kinds.CStr bs (quoted bs) (quoted_longest bs)
    string false = none_best bs

    shorter : (x : Bool) (bs : List ℕ) → IsShorter (Some (kinds.Word, run is_word_byte bs)) (cond x (of_kind kinds.CStr (quoted bs)) None)
    shorter false bs = tt
    shorter true [] = tt
    shorter true (c ∷ cs) = go (eqb c 34) refl
      where
        some : (o : Option ℕ) → run is_word_byte (c ∷ cs) ≡ 0 → IsShorter (Some (kinds.Word, run is_word_byte (c ∷ cs))) (of_kind kinds.CStr (one_more o))
        some (Some n) e = omega (arith, e)
        some None e = tt

        go : (y : Bool) → eqb c 34 ≡ y → IsShorter (Some (kinds.Word, run is_word_byte (c ∷ cs))) (of_kind kinds.CStr (one_more (cond y (run_to is_unquoted (codes "\"") cs) None)))
        go true e = some (run_to is_unquoted (codes "\"") cs) (subst (λ u. run is_word_byte (u ∷ cs) ≡ 0) (sym (eqb-true c 34 e)) refl)
        go false e = tt

-- a word is shorter than a label, and no label begins as a string behind c does
word_shorter : (b : ℕ) (bs : List ℕ) → IsShorter (word_or_string b bs) (of_kind kinds.Label (run_to is_name_byte (codes ":") bs))
word_shorter b bs = go (eqb b 99) bs
  where
    plain : (bs : List ℕ) → IsShorter (Some (kinds.Word, run is_word_byte bs)) (of_kind kinds.Label (run_to is_name_byte (codes ":") bs))
    plain bs = before_colon kinds.Word kinds.Label (run is_word_byte bs) is_name_byte bs (run_wider is_word_byte is_name_byte word_byte_is_name bs)

    go : (x : Bool) (bs : List ℕ) → IsShorter (or_else (cond x (of_kind kinds.CStr (quoted bs)) None) (Some (kinds.Word, run is_word_byte bs))) (of_kind kinds.Label (run_to is_name_byte (codes ":") bs))
    go false bs = plain bs
    go true [] = plain []
    go true (c ∷ cs) = inner (eqb c 34) refl
      where
        some : (o : Option ℕ) → IsShorter (or_else (of_kind kinds.CStr (one_more o)) (Some (kinds.Word, run is_word_byte (34 ∷ cs)))) None
        some (Some n) = tt
        some None = tt

        inner : (y : Bool) → eqb c 34 ≡ y → IsShorter (or_else (of_kind kinds.CStr (one_more (cond y (run_to is_unquoted (codes "\"") cs) None))) (Some (kinds.Word, run is_word_byte (c ∷ cs)))) (of_kind kinds.Label (run_to is_name_byte (codes ":") (c ∷ cs)))
        inner true e =
            subst (λ u. IsShorter (or_else (of_kind kinds.CStr (one_more (run_to is_unquoted (codes "\"") cs))) (Some (kinds.Word, run is_word_byte (u ∷ cs)))) (of_kind kinds.Label (run_to is_name_byte (codes ":") (u ∷ cs)))) (sym (eqb-true c 34 e))
            (some (run_to is_unquoted (codes "\"") cs))
        inner false e = plain (c ∷ cs)

marks_best : (b : ℕ) (bs : List ℕ) → Best (λ t. when (is_mark b t) kinds.Punct) bs (marks b bs)
marks_best b [] = go (eqb b 60) (eqb b 125) (is_mark_byte b) refl
  where
    only : (m : ℕ) → is_mark b (take m []) ≡ is_mark_byte b
    only zero = refl
    only (suc m) = refl

    go : (x y z : Bool) → is_mark_byte b ≡ z → Best (λ t. when (is_mark b t) kinds.Punct) [] (cond (x && begins (codes "{") [] || y && begins (codes ">") []) (Some (kinds.Punct, 1)) (cond z (Some (kinds.Punct, 0)) None))
    go true true true e = (omega arith, ap (λ k. when k kinds.Punct) e, λ m lt le. absurd (omega (arith, lt, le)))
    go true false true e = (omega arith, ap (λ k. when k kinds.Punct) e, λ m lt le. absurd (omega (arith, lt, le)))
    go false true true e = (omega arith, ap (λ k. when k kinds.Punct) e, λ m lt le. absurd (omega (arith, lt, le)))
    go false false true e = (omega arith, ap (λ k. when k kinds.Punct) e, λ m lt le. absurd (omega (arith, lt, le)))
    go true true false e = λ m le. ap (λ k. when k kinds.Punct) (only m ∙ e)
    go true false false e = λ m le. ap (λ k. when k kinds.Punct) (only m ∙ e)
    go false true false e = λ m le. ap (λ k. when k kinds.Punct) (only m ∙ e)
    go false false false e = λ m le. ap (λ k. when k kinds.Punct) (only m ∙ e)
marks_best b (c ∷ cs) = go (is_mark b (c ∷ [])) (is_mark_byte b) refl refl
  where
    longer : (cs : List ℕ) (m : ℕ) → suc (suc m) ≤ suc (length cs) → is_mark b (c ∷ take (suc m) cs) ≡ false
    longer [] m le = absurd (omega (arith, le))
    longer (d ∷ ds) m le = refl

    go : (x z : Bool) → is_mark b (c ∷ []) ≡ x → is_mark_byte b ≡ z → Best (λ t. when (is_mark b t) kinds.Punct) (c ∷ cs) (cond x (Some (kinds.Punct, 1)) (cond z (Some (kinds.Punct, 0)) None))
    go true z p q = (omega arith, ap (λ k. when k kinds.Punct) p, later)
      where
        later : (m : ℕ) → 2 ≤ m → m ≤ suc (length cs) → when (is_mark b (take m (c ∷ cs))) kinds.Punct ≡ None
        later zero lt le = absurd (omega (arith, lt))
        later (suc zero) lt le = absurd (omega (arith, lt))
        later (suc (suc m)) lt le = ap (λ k. when k kinds.Punct) (longer cs m le)
    go false true p q = (omega arith, ap (λ k. when k kinds.Punct) q, later)
      where
        later : (m : ℕ) → 1 ≤ m → m ≤ suc (length cs) → when (is_mark b (take m (c ∷ cs))) kinds.Punct ≡ None
        later zero lt le = absurd (omega (arith, lt))
        later (suc zero) lt le = ap (λ k. when k kinds.Punct) p
        later (suc (suc m)) lt le = ap (λ k. when k kinds.Punct) (longer cs m le)
    go false false p q = none
      where
        none : (m : ℕ) → m ≤ suc (length cs) → when (is_mark b (take m (c ∷ cs))) kinds.Punct ≡ None
        none zero le = ap (λ k. when k kinds.Punct) q
        none (suc zero) le = ap (λ k. when k kinds.Punct) p
        none (suc (suc m)) le = ap (λ k. when k kinds.Punct) (longer cs m le)

-- ---- any first byte

-- the kind of a text and what is found, by tests of the first byte
abbrev kind_by : Bool → Bool → Bool → Bool → ℕ → List ℕ → Option TokenKind
kind_by w d n dot b t =
    cond w (or_label (first_of (when (eqb b 99 && is_quoted t) kinds.CStr) (when (runs_to is_word_byte [] t) kinds.Word)) (b ∷ t))
    (cond d (or_label (when (runs_to is_digit [] t) kinds.Int) (b ∷ t))
    (cond n (or_label (when (dot && same (codes "..") t) kinds.Punct) (b ∷ t)) (when (is_mark b t) kinds.Punct)))

abbrev found_by : Bool → Bool → Bool → Bool → ℕ → List ℕ → Option (TokenKind × ℕ)
found_by w d n dot b bs =
    or_else (of_kind kinds.Label (label_behind b bs))
    (cond w (word_or_string b bs) (cond d (Some (kinds.Int, run is_digit bs)) (cond n (cond (dot && begins (codes "..") bs) (Some (kinds.Punct, 2)) None) (marks b bs))))

others : (b : ℕ) (bs : List ℕ) → eqb b 34 ≡ false → (w d n : Bool) → is_word_start b ≡ w → is_digit b ≡ d → is_name_start b ≡ n → Best (λ t. kind_by w d n false b t) bs (found_by w d n false b bs)
others b bs quote true d n ew ed en =
    with_label b (λ t. first_of (when (eqb b 99 && is_quoted t) kinds.CStr) (when (runs_to is_word_byte [] t) kinds.Word)) bs (word_or_string b bs) (word_best b bs)
    (subst (λ o. IsShorter (word_or_string b bs) (of_kind kinds.Label o)) (sym (label_of_name b bs quote (word_no_digit b ew) (word_is_name b ew))) (word_shorter b bs))
others b bs quote false true n ew ed en =
    with_label b (λ t. when (runs_to is_digit [] t) kinds.Int) bs (Some (kinds.Int, run is_digit bs)) (kind_best (runs_to is_digit []) kinds.Int bs (Some (run is_digit bs)) (run_longest is_digit bs))
    (subst (λ o. IsShorter (Some (kinds.Int, run is_digit bs)) (of_kind kinds.Label o)) (sym (label_of_digit b bs quote ed)) (before_colon kinds.Int kinds.Label (run is_digit bs) is_digit bs (omega arith)))
others b bs quote false false true ew ed en = with_label b (λ t. None) bs None (none_best bs) tt
others b bs quote false false false ew ed en =
    subst (λ o. Best (λ t. when (is_mark b t) kinds.Punct) bs (or_else (of_kind kinds.Label o) (marks b bs))) (sym (no_label b bs quote ed en)) (marks_best b bs)

-- what is left when a byte is none of those that have rows of their own
abbrev kind_from : Bool → Bool → Bool → Bool → Bool → Bool → Bool → ℕ → List ℕ → Option TokenKind
kind_from g l h e q m dot b t =
    cond g (when (is_name t) kinds.Global)
    (cond l (when (is_name t) kinds.Local)
    (cond h (first_of (when (is_number t) kinds.AttrGroup) (when (is_plain_name t) kinds.Punct))
    (cond e (first_of (when (is_number t) kinds.Meta) (first_of (when (is_plain_name t) kinds.Meta) (when (same [] t) kinds.Meta)))
    (cond q (or_label (when (is_closed t) kinds.Str) (b ∷ t))
    (cond (is_word_start b) (or_label (first_of (when (eqb b 99 && is_quoted t) kinds.CStr) (when (runs_to is_word_byte [] t) kinds.Word)) (b ∷ t))
    (cond (is_digit b) (or_label (when (runs_to is_digit [] t) kinds.Int) (b ∷ t))
    (cond m (or_label (when (is_number t) kinds.Int) (b ∷ t))
    (cond (is_name_start b) (or_label (when (dot && same (codes "..") t) kinds.Punct) (b ∷ t)) (when (is_mark b t) kinds.Punct)))))))))

abbrev found_from : Bool → Bool → Bool → Bool → Bool → Bool → Bool → ℕ → List ℕ → Option (TokenKind × ℕ)
found_from g l h e q m dot b bs =
    or_else (of_kind kinds.Label (label_behind b bs))
    (cond g (of_kind kinds.Global (name bs))
    (cond l (of_kind kinds.Local (name bs))
    (cond h (after_hash bs)
    (cond e (after_bang bs)
    (cond q (of_kind kinds.Str (run_to is_unquoted (codes "\"") bs))
    (cond (is_word_start b) (word_or_string b bs)
    (cond (is_digit b) (Some (kinds.Int, run is_digit bs))
    (cond m (of_kind kinds.Int (number bs))
    (cond (is_name_start b) (cond (dot && begins (codes "..") bs) (Some (kinds.Punct, 2)) None) (marks b bs))))))))))

rest_best : (b : ℕ) (bs : List ℕ) → eqb b 34 ≡ false → (g l h e q m dot : Bool) → g ≡ false → l ≡ false → h ≡ false → e ≡ false → q ≡ false → m ≡ false → dot ≡ false
    → Best (λ t. kind_from g l h e q m dot b t) bs (found_from g l h e q m dot b bs)
rest_best b bs quote true l h e q m dot a1 a2 a3 a4 a5 a6 a7 = absurd cc
rest_best b bs quote false true h e q m dot a1 a2 a3 a4 a5 a6 a7 = absurd cc
rest_best b bs quote false false true e q m dot a1 a2 a3 a4 a5 a6 a7 = absurd cc
rest_best b bs quote false false false true q m dot a1 a2 a3 a4 a5 a6 a7 = absurd cc
rest_best b bs quote false false false false true m dot a1 a2 a3 a4 a5 a6 a7 = absurd cc
rest_best b bs quote false false false false false true dot a1 a2 a3 a4 a5 a6 a7 = absurd cc
rest_best b bs quote false false false false false false true a1 a2 a3 a4 a5 a6 a7 = absurd cc
rest_best b bs quote false false false false false false false a1 a2 a3 a4 a5 a6 a7 = others b bs quote (is_word_start b) (is_digit b) (is_name_start b) refl refl refl

pub whole_best : (b : ℕ) → IsBest b
whole_best b =
    test 64 at_global (λ e1. test 37 at_local (λ e2. test 35 at_hash (λ e3. test 33 at_bang (λ e4. test 34 at_quote (λ e5. test 45 at_minus (λ e6. test 46 at_dot (λ e7.
    λ bs. rest_best b bs e5 (eqb b 64) (eqb b 37) (eqb b 35) (eqb b 33) (eqb b 34) (eqb b 45) (eqb b 46) e1 e2 e3 e4 e5 e6 e7)))))))
  where
    test : (c : ℕ) → IsBest c → (eqb b c ≡ false → IsBest b) → IsBest b
    test c here there = go (eqb b c) refl
      where
        go : (x : Bool) → eqb b c ≡ x → IsBest b
        go true e = subst (λ n. IsBest n) (sym (eqb-true b c e)) here
        go false e = there e

-- ---- the token in front

pub found_is : (bytes : List ℕ) → 0 < length bytes → MatchOption (found bytes) (NoneFrom bytes 1) (λ x. IsTokenAt bytes x.0 x.1)
found_is [] some = absurd (omega (arith, some))
found_is (b ∷ bs) some = go (found_whole b bs) (whole_best b bs)
  where
    go : (o : Option (TokenKind × ℕ)) → Best (λ t. kind_of (b ∷ t)) bs o → MatchOption (with_first o) (NoneFrom (b ∷ bs) 1) (λ x. IsTokenAt (b ∷ bs) x.0 x.1)
    go None best = none
      where
        none : NoneFrom (b ∷ bs) 1
        none zero lt le = absurd (omega (arith, lt))
        none (suc m) lt le = best m (omega (arith, le))
    go (Some x) best = record {
      some = omega arith;
      within = omega (arith, best.0);
      form = let e : suc x.1 ≡ x.1 + 1 = omega arith in subst (λ k. kind_of (take k (b ∷ bs)) ≡ Some x.0) e best.1;
      longest = later;
    }
      where
        later : NoneFrom (b ∷ bs) (suc (x.1 + 1))
        later zero lt le = absurd (omega (arith, lt))
        later (suc m) lt le = best.2 m (omega (arith, lt)) (omega (arith, le))

-- ---- the same, for the first byte and the slice behind it

pub found_there : (bytes tail : List ℕ) (kind : TokenKind) (n : ℕ) → 0 < length bytes → tail ≡ drop 1 bytes → Some (kind, n) ≡ found_whole (get_or bytes 0 0) tail → IsTokenAt bytes kind (n + 1)
found_there [] tail kind n some e h = absurd (omega (arith, some))
found_there (b ∷ bs) tail kind n some e h =
    let same : found (b ∷ bs) ≡ Some (kind, n + 1) = ap with_first (ap (found_whole b) (sym (e ∙ drop-zero bs)) ∙ sym h) in
    subst (λ o. MatchOption o (NoneFrom (b ∷ bs) 1) (λ x. IsTokenAt (b ∷ bs) x.0 x.1)) same (found_is (b ∷ bs) some)
  where
    drop-zero : (xs : List ℕ) → drop 1 (b ∷ xs) ≡ xs
    drop-zero [] = refl
    drop-zero (x ∷ xs) = refl

pub none_there : (bytes tail : List ℕ) → 0 < length bytes → tail ≡ drop 1 bytes → None ≡ found_whole (get_or bytes 0 0) tail → NoneFrom bytes 1
none_there [] tail some e h = absurd (omega (arith, some))
none_there (b ∷ bs) tail some e h =
    let same : found (b ∷ bs) ≡ None = ap with_first (ap (found_whole b) (sym (e ∙ drop-zero bs)) ∙ sym h) in
    subst (λ o. MatchOption o (NoneFrom (b ∷ bs) 1) (λ x. IsTokenAt (b ∷ bs) x.0 x.1)) same (found_is (b ∷ bs) some)
  where
    drop-zero : (xs : List ℕ) → drop 1 (b ∷ xs) ≡ xs
    drop-zero [] = refl
    drop-zero (x ∷ xs) = refl
