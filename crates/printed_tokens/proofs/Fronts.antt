-- The tokens that a tree is printed with stay the longest in front of whatever is printed behind them.
use Rattle.std.proofs.Common.{◌≡◌, ℕ, suc, ◌+◌, ◌/◌, ◌%◌, Bool, true, false, cond, ◌&&◌, ◌||◌, List, [], ◌∷◌, ◌++◌, length, take, drop, Option, Some, None, eqb, ltb, refl, sym, ap, subst, ◌∙◌, arith, append_assoc, length-append}
use Rattle.std.specs.Prelude.{◌==◌, codes, not}
use Rattle.std.specs.Fmt.{decimal}
use Rattle.std.proofs.lemmas.Bool.{eqb-true, and_parts}
use Rattle.ir_lexer.specs.declared.token.TokenKind.{TokenKind}
use Rattle.ir_lexer.specs.declared.token.TokenKind.TheVariants as kinds
use Rattle.ir_lexer.specs.Forms.{is_digit, is_word_start, is_word_byte, is_name_start, is_name_byte, is_unquoted, same, runs_to, is_plain_name, is_number}
use Rattle.ir_lexer.specs.Lexing.{is_blank}
use Rattle.ir_lexer.specs.Scanning.{run, begins, run_to, one_more, plain_behind, number, quoted, name, label_behind, of_kind, or_else, after_hash, after_bang, word_or_string, dots, marks, found_behind, with_first, found}
use Rattle.ir_lexer.proofs.Found.{label_of_name, label_of_digit, digit_no_start, word_is_name, word_byte_is_name, digit_is_name, word_no_digit}
use Rattle.ir_tree.specs.declared.constants.Integer.{Integer}
use Rattle.ir_tree.specs.Texts as texts
use Rattle.ir_tree.proofs.Writing.{apart, decimal_is_number}
use Rattle.ir_tree.specs.Texts.{no_space_behind, hex_digit, is_escaped, escaped, name_text, global_text, local_text, label_text, integer_text, width_text, string_text}

-- ---- bytes

-- a byte at which no blank and no comment begins
pub record Starts (b : ℕ) : Type 0 where
  pub blank : is_blank b ≡ false
  pub comment : eqb b 59 ≡ false
  pub bang : eqb b 33 ≡ false

starts_of : (f : ℕ → Bool) → f 32 ≡ false → f 9 ≡ false → f 13 ≡ false → f 10 ≡ false → f 59 ≡ false → f 33 ≡ false → (b : ℕ) → f b ≡ true → Starts b
starts_of f s t r l c m b h = record {
  blank = none (eqb b 32) (eqb b 9) (eqb b 13) (eqb b 10) (apart f b 32 h s) (apart f b 9 h t) (apart f b 13 h r) (apart f b 10 h l);
  comment = apart f b 59 h c;
  bang = apart f b 33 h m;
}
  where
    none : (x y z u : Bool) → x ≡ false → y ≡ false → z ≡ false → u ≡ false → (x || y || z || u) ≡ false
    none true y z u p q r s = absurd cc
    none false true z u p q r s = absurd cc
    none false false true u p q r s = absurd cc
    none false false false u p q r s = s

-- the first byte of a text
abbrev pub StartsText : List ℕ → Type 0
StartsText [] = ⊥
StartsText (b ∷ bs) = Starts b

-- ---- what is printed behind a token

abbrev pub is_end : ℕ → Bool
is_end b = b == 32 || b == 10 || b == 44 || b == 41 || b == 93 || b == 40

abbrev pub is_ended : List ℕ → Bool
is_ended [] = false
is_ended (b ∷ bs) = is_end b

by_end : (P : ℕ → Type 0) → P 32 → P 10 → P 44 → P 41 → P 93 → P 40 → (b : ℕ) → is_end b ≡ true → P b
by_end P p1 p2 p3 p4 p5 p6 b h = go (eqb b 32) (eqb b 10) (eqb b 44) (eqb b 41) (eqb b 93) (eqb b 40) refl refl refl refl refl refl h
  where
    go : (u v w x y z : Bool) → eqb b 32 ≡ u → eqb b 10 ≡ v → eqb b 44 ≡ w → eqb b 41 ≡ x → eqb b 93 ≡ y → eqb b 40 ≡ z → (u || v || w || x || y || z) ≡ true → P b
    go true v w x y z e1 e2 e3 e4 e5 e6 h = subst P (sym (eqb-true b 32 e1)) p1
    go false true w x y z e1 e2 e3 e4 e5 e6 h = subst P (sym (eqb-true b 10 e2)) p2
    go false false true x y z e1 e2 e3 e4 e5 e6 h = subst P (sym (eqb-true b 44 e3)) p3
    go false false false true y z e1 e2 e3 e4 e5 e6 h = subst P (sym (eqb-true b 41 e4)) p4
    go false false false false true z e1 e2 e3 e4 e5 e6 h = subst P (sym (eqb-true b 93 e5)) p5
    go false false false false false true e1 e2 e3 e4 e5 e6 h = subst P (sym (eqb-true b 40 e6)) p6
    go false false false false false false e1 e2 e3 e4 e5 e6 h = absurd cc

-- bytes that no token reaches into
pub record Stops (next : List ℕ) : Type 0 where
  pub word : run is_word_byte next ≡ 0
  pub name : run is_name_byte next ≡ 0
  pub digit : run is_digit next ≡ 0
  pub colon : begins (codes ":") next ≡ false
  pub string : quoted next ≡ None
  pub brace : begins (codes ">") next ≡ false

stops : (next : List ℕ) → is_ended next ≡ true → Stops next
stops [] h = absurd cc
stops (b ∷ bs) h = by_end (λ c. Stops (c ∷ bs)) plain plain2 plain3 plain4 plain5 plain6 b h
  where
    plain : Stops (32 ∷ bs)
    plain = record { word = refl; name = refl; digit = refl; colon = refl; string = refl; brace = refl }

    plain2 : Stops (10 ∷ bs)
    plain2 = record { word = refl; name = refl; digit = refl; colon = refl; string = refl; brace = refl }

    plain3 : Stops (44 ∷ bs)
    plain3 = record { word = refl; name = refl; digit = refl; colon = refl; string = refl; brace = refl }

    plain4 : Stops (41 ∷ bs)
    plain4 = record { word = refl; name = refl; digit = refl; colon = refl; string = refl; brace = refl }

    plain5 : Stops (93 ∷ bs)
    plain5 = record { word = refl; name = refl; digit = refl; colon = refl; string = refl; brace = refl }

    plain6 : Stops (40 ∷ bs)
    plain6 = record { word = refl; name = refl; digit = refl; colon = refl; string = refl; brace = refl }

-- a token that stays the longest in front of what is printed behind it
pub record Stays (t : List ℕ) : Type 0 where
  pub kind : TokenKind
  pub starts : StartsText t
  pub front : (next : List ℕ) → (no_space_behind t || is_ended next) ≡ true → found (t ++ next) ≡ Some (kind, length t)

-- one that no mark is
stays : (t : List ℕ) (kind : TokenKind) → StartsText t → no_space_behind t ≡ false → ((next : List ℕ) → Stops next → found (t ++ next) ≡ Some (kind, length t)) → Stays t
stays t kind s n f = record { kind = kind; starts = s; front = λ next h. f next (stops next (after (no_space_behind t) (is_ended next) n h)) }
  where
    after : (x y : Bool) → x ≡ false → (x || y) ≡ true → y ≡ true
    after true y n h = absurd cc
    after false y n h = h

-- no text of this first byte is a mark behind which no space stands
no_mark : (b : ℕ) (bs : List ℕ) → eqb b 40 ≡ false → eqb b 91 ≡ false → no_space_behind (b ∷ bs) ≡ false
no_mark b bs p q = go (eqb b 40) (eqb b 91) p q
  where
    go : (x y : Bool) → x ≡ false → y ≡ false → (x && texts.same bs [] || y && texts.same bs []) ≡ false
    go true y p q = absurd cc
    go false true p q = absurd cc
    go false false p q = refl

-- ---- runs

run_over : (f : ℕ → Bool) (bs next : List ℕ) → runs_to f [] bs ≡ true → run f next ≡ 0 → run f (bs ++ next) ≡ length bs
run_over f [] next all none = none
run_over f (b ∷ bs) next all none = go (f b) all (run_over f bs next)
  where
    go : (x : Bool) → cond x (runs_to f [] bs) false ≡ true → (runs_to f [] bs ≡ true → run f next ≡ 0 → run f (bs ++ next) ≡ length bs) → cond x (suc (run f (bs ++ next))) 0 ≡ suc (length bs)
    go true all more = ap suc (more all none)
    go false all more = absurd cc

drop_front : (bs next : List ℕ) → drop (length bs) (bs ++ next) ≡ next
drop_front [] [] = refl
drop_front [] (c ∷ cs) = refl
drop_front (b ∷ bs) next = drop_front bs next

run_to_none : (f : ℕ → Bool) (ending bs next : List ℕ) → runs_to f [] bs ≡ true → run f next ≡ 0 → begins ending next ≡ false → run_to f ending (bs ++ next) ≡ None
run_to_none f ending bs next all none ends =
    ap (λ n. cond (begins ending (drop n (bs ++ next))) (Some (n + length ending)) None) (run_over f bs next all none) ∙ ap (λ r. cond (begins ending r) (Some (length bs + length ending)) None) (drop_front bs next)
    ∙ ap (λ x. cond x (Some (length bs + length ending)) None) ends

begins_front : (e next : List ℕ) → begins e (e ++ next) ≡ true
begins_front [] [] = refl
begins_front [] (c ∷ cs) = refl
begins_front (x ∷ xs) next = ap (λ y. y && same xs (take (length xs) (xs ++ next))) (self x) ∙ begins_front xs next
  where
    self : (n : ℕ) → eqb n n ≡ true
    self n = grind arith

run_to_some : (f : ℕ → Bool) (ending bs next : List ℕ) → runs_to f [] bs ≡ true → run f (ending ++ next) ≡ 0 → run_to f ending (bs ++ (ending ++ next)) ≡ Some (length bs + length ending)
run_to_some f ending bs next all none =
    ap (λ n. cond (begins ending (drop n (bs ++ (ending ++ next)))) (Some (n + length ending)) None) (run_over f bs (ending ++ next) all none)
    ∙ ap (λ r. cond (begins ending r) (Some (length bs + length ending)) None) (drop_front bs (ending ++ next)) ∙ ap (λ x. cond x (Some (length bs + length ending)) None) (begins_front ending next)

runs_wider : (f g : ℕ → Bool) → ((b : ℕ) → f b ≡ true → g b ≡ true) → (bs : List ℕ) → runs_to f [] bs ≡ true → runs_to g [] bs ≡ true
runs_wider f g wide [] all = refl
runs_wider f g wide (b ∷ bs) all = go (f b) (g b) (wide b) all (runs_wider f g wide bs)
  where
    go : (x y : Bool) → (x ≡ true → y ≡ true) → cond x (runs_to f [] bs) false ≡ true → (runs_to f [] bs ≡ true → runs_to g [] bs ≡ true) → cond y (runs_to g [] bs) false ≡ true
    go false y w all more = absurd cc
    go true false w all more = absurd (let e = w refl in cc)
    go true true w all more = more all

-- ---- words

-- the row of a table of tests at which all tests before fail
abbrev Found : Type 0
Found = Option (TokenKind × ℕ)

sixth : (a b c d e f : Bool) (p q r s t u v : Found) → a ≡ false → b ≡ false → c ≡ false → d ≡ false → e ≡ false → f ≡ true → cond a p (cond b q (cond c r (cond d s (cond e t (cond f u v))))) ≡ u
sixth true b c d e f p q r s t u v h1 h2 h3 h4 h5 h6 = absurd cc
sixth false true c d e f p q r s t u v h1 h2 h3 h4 h5 h6 = absurd cc
sixth false false true d e f p q r s t u v h1 h2 h3 h4 h5 h6 = absurd cc
sixth false false false true e f p q r s t u v h1 h2 h3 h4 h5 h6 = absurd cc
sixth false false false false true f p q r s t u v h1 h2 h3 h4 h5 h6 = absurd cc
sixth false false false false false false p q r s t u v h1 h2 h3 h4 h5 h6 = absurd cc
sixth false false false false false true p q r s t u v h1 h2 h3 h4 h5 h6 = refl

seventh : (a b c d e f g : Bool) (p q r s t u v w : Found) → a ≡ false → b ≡ false → c ≡ false → d ≡ false → e ≡ false → f ≡ false → g ≡ true → cond a p (cond b q (cond c r (cond d s (cond e t (cond f u (cond g v w)))))) ≡ v
seventh a b c d e true g p q r s t u v w h1 h2 h3 h4 h5 h6 h7 = absurd cc
seventh true b c d e false g p q r s t u v w h1 h2 h3 h4 h5 h6 h7 = absurd cc
seventh false true c d e false g p q r s t u v w h1 h2 h3 h4 h5 h6 h7 = absurd cc
seventh false false true d e false g p q r s t u v w h1 h2 h3 h4 h5 h6 h7 = absurd cc
seventh false false false true e false g p q r s t u v w h1 h2 h3 h4 h5 h6 h7 = absurd cc
seventh false false false false true false g p q r s t u v w h1 h2 h3 h4 h5 h6 h7 = absurd cc
seventh false false false false false false false p q r s t u v w h1 h2 h3 h4 h5 h6 h7 = absurd cc
seventh false false false false false false true p q r s t u v w h1 h2 h3 h4 h5 h6 h7 = refl

word_behind : (b : ℕ) (x : List ℕ) → is_word_start b ≡ true → found_behind b x ≡ word_or_string b x
word_behind b x h =
    sixth (eqb b 64) (eqb b 37) (eqb b 35) (eqb b 33) (eqb b 34) (is_word_start b) (of_kind kinds.Global (name x)) (of_kind kinds.Local (name x)) (after_hash x) (after_bang x) (of_kind kinds.Str (run_to is_unquoted (codes "\"") x)) (word_or_string b x)
    (cond (is_digit b) (Some (kinds.Int, run is_digit x)) (cond (eqb b 45) (of_kind kinds.Int (number x)) (cond (is_name_start b) (dots b x) (marks b x))))
    (apart is_word_start b 64 h refl) (apart is_word_start b 37 h refl) (apart is_word_start b 35 h refl) (apart is_word_start b 33 h refl) (apart is_word_start b 34 h refl) h

digit_no_word : (b : ℕ) → is_digit b ≡ true → is_word_start b ≡ false
digit_no_word b h = go (is_word_start b) (word_no_digit b) h
  where
    go : (x : Bool) → (x ≡ true → is_digit b ≡ false) → is_digit b ≡ true → x ≡ false
    go false f h = refl
    go true f h = absurd (let e = f refl in cc)

digit_behind : (b : ℕ) (x : List ℕ) → is_digit b ≡ true → found_behind b x ≡ Some (kinds.Int, run is_digit x)
digit_behind b x h =
    seventh (eqb b 64) (eqb b 37) (eqb b 35) (eqb b 33) (eqb b 34) (is_word_start b) (is_digit b) (of_kind kinds.Global (name x)) (of_kind kinds.Local (name x)) (after_hash x) (after_bang x) (of_kind kinds.Str (run_to is_unquoted (codes "\"") x))
    (word_or_string b x) (Some (kinds.Int, run is_digit x)) (cond (eqb b 45) (of_kind kinds.Int (number x)) (cond (is_name_start b) (dots b x) (marks b x)))
    (apart is_digit b 64 h refl) (apart is_digit b 37 h refl) (apart is_digit b 35 h refl) (apart is_digit b 33 h refl) (apart is_digit b 34 h refl) (digit_no_word b h) h

-- no quote stands at once behind the first byte of a word
no_string : (bs next : List ℕ) → runs_to is_word_byte [] bs ≡ true → quoted next ≡ None → quoted (bs ++ next) ≡ None
no_string [] next all none = none
no_string (b ∷ bs) next all none = go (is_word_byte b) refl all
  where
    go : (x : Bool) → is_word_byte b ≡ x → cond x (runs_to is_word_byte [] bs) false ≡ true → quoted (b ∷ (bs ++ next)) ≡ None
    go false e all = absurd cc
    go true e all = ap (λ y. one_more (cond y (run_to is_unquoted (codes "\"") (bs ++ next)) None)) (apart is_word_byte b 34 e refl)

word_front : (b : ℕ) (bs next : List ℕ) → is_word_start b ≡ true → runs_to is_word_byte [] bs ≡ true → Stops next → found (b ∷ (bs ++ next)) ≡ Some (kinds.Word, suc (length bs))
word_front b bs next h all s =
    let x = bs ++ next in
    let label : label_behind b x ≡ None =
    label_of_name b x (apart is_word_start b 34 h refl) (word_no_digit b h) (word_is_name b h) ∙ run_to_none is_name_byte (codes ":") bs next (runs_wider is_word_byte is_name_byte word_byte_is_name bs all) s.name s.colon in
    let string : word_or_string b x ≡ Some (kinds.Word, run is_word_byte x) = no_c (eqb b 99) x (no_string bs next all s.string) in
    ap with_first (ap (λ o. or_else (of_kind kinds.Label o) (found_behind b x)) label ∙ word_behind b x h ∙ string) ∙ ap (λ n. Some (kinds.Word, n)) (omega (arith, run_over is_word_byte bs next all s.word))
  where
    no_c : (c : Bool) (x : List ℕ) → quoted x ≡ None → or_else (cond c (of_kind kinds.CStr (quoted x)) None) (Some (kinds.Word, run is_word_byte x)) ≡ Some (kinds.Word, run is_word_byte x)
    no_c true x none = ap (λ o. or_else (of_kind kinds.CStr o) (Some (kinds.Word, run is_word_byte x))) none
    no_c false x none = refl

abbrev pub is_word : List ℕ → Bool
is_word [] = false
is_word (b ∷ bs) = is_word_start b && runs_to is_word_byte [] bs

pub word_stays : (t : List ℕ) → is_word t ≡ true → Stays t
word_stays [] h = absurd cc
word_stays (b ∷ bs) h =
    let p = and_parts (is_word_start b) (runs_to is_word_byte [] bs) h in
    stays (b ∷ bs) kinds.Word (starts_of is_word_start refl refl refl refl refl refl b p.0) (no_mark b bs (apart is_word_start b 40 p.0 refl) (apart is_word_start b 91 p.0 refl)) (λ next s. word_front b bs next p.0 p.1 s)

-- ---- numbers

number_front : (b : ℕ) (bs next : List ℕ) → is_digit b ≡ true → runs_to is_digit [] bs ≡ true → Stops next → found (b ∷ (bs ++ next)) ≡ Some (kinds.Int, suc (length bs))
number_front b bs next h all s =
    let x = bs ++ next in
    let label : label_behind b x ≡ None = label_of_digit b x (apart is_digit b 34 h refl) h ∙ run_to_none is_digit (codes ":") bs next all s.digit s.colon in
    ap with_first (ap (λ o. or_else (of_kind kinds.Label o) (found_behind b x)) label ∙ digit_behind b x h) ∙ ap (λ n. Some (kinds.Int, n)) (omega (arith, run_over is_digit bs next all s.digit))

number_stays : (t : List ℕ) → is_number t ≡ true → Stays t
number_stays [] h = absurd cc
number_stays (b ∷ bs) h =
    let p = and_parts (is_digit b) (runs_to is_digit [] bs) h in
    stays (b ∷ bs) kinds.Int (starts_of is_digit refl refl refl refl refl refl b p.0) (no_mark b bs (apart is_digit b 40 p.0 refl) (apart is_digit b 91 p.0 refl)) (λ next s. number_front b bs next p.0 p.1 s)

minus_front : (t next : List ℕ) → is_number t ≡ true → Stops next → found (45 ∷ (t ++ next)) ≡ Some (kinds.Int, suc (length t))
minus_front [] next h s = absurd cc
minus_front (b ∷ bs) next h s =
    let p = and_parts (is_digit b) (runs_to is_digit [] bs) h in
    let x = b ∷ (bs ++ next) in
    let all : runs_to is_digit [] (b ∷ bs) ≡ true = ap (λ y. cond y (runs_to is_digit [] bs) false) p.0 ∙ p.1 in
    let label : run_to is_name_byte (codes ":") x ≡ None = run_to_none is_name_byte (codes ":") (b ∷ bs) next (runs_wider is_digit is_name_byte digit_is_name (b ∷ bs) all) s.name s.colon in
    let len : number x ≡ Some (run is_digit (bs ++ next) + 1) = ap (λ y. one_more (cond y (Some (run is_digit (bs ++ next))) None)) p.0 in
    ap with_first (ap (λ o. or_else (of_kind kinds.Label o) (of_kind kinds.Int (number x))) label ∙ ap (of_kind kinds.Int) len) ∙ ap (λ n. Some (kinds.Int, n)) (omega (arith, run_over is_digit bs next p.1 s.digit))

minus_stays : (t : List ℕ) → is_number t ≡ true → Stays (45 ∷ t)
minus_stays t h = stays (45 ∷ t) kinds.Int (record { blank = refl; comment = refl; bang = refl }) refl (λ next s. minus_front t next h s)

-- the digits of a number
decimal_digits : (n : ℕ) → runs_to is_digit [] (decimal n) ≡ true
decimal_digits n = go (decimal n) (decimal_is_number n)
  where
    go : (t : List ℕ) → is_number t ≡ true → runs_to is_digit [] t ≡ true
    go [] h = refl
    go (b ∷ bs) h = let p = and_parts (is_digit b) (runs_to is_digit [] bs) h in ap (λ y. cond y (runs_to is_digit [] bs) false) p.0 ∙ p.1

pub integer_stays : (n : Integer) → Stays (integer_text n)
integer_stays n = go n.negative
  where
    go : (x : Bool) → Stays (cond x (45 ∷ decimal n.magnitude) (decimal n.magnitude))
    go true = minus_stays (decimal n.magnitude) (decimal_is_number n.magnitude)
    go false = number_stays (decimal n.magnitude) (decimal_is_number n.magnitude)

pub width_stays : (n : ℕ) → Stays (width_text n)
width_stays n = word_stays (105 ∷ decimal n) (runs_wider is_digit is_word_byte digit_is_word (decimal n) (decimal_digits n))
  where
    digit_is_word : (b : ℕ) → is_digit b ≡ true → is_word_byte b ≡ true
    digit_is_word b h = go (is_word_start b) (is_digit b) (b == 46) h
      where
        go : (x y z : Bool) → y ≡ true → (x || y || z) ≡ true
        go true y z h = refl
        go false true z h = refl
        go false false z h = absurd cc

-- ---- quoted texts

quoted_bytes : (bs : List ℕ) → runs_to is_unquoted [] (escaped bs) ≡ true
quoted_bytes [] = refl
quoted_bytes (b ∷ bs) = go (is_escaped b) refl (quoted_bytes bs)
  where
    hex_unquoted : (n : ℕ) → is_unquoted (hex_digit n) ≡ true
    hex_unquoted n = by_ten (ltb n 10)
      where
        by_ten : (x : Bool) → not (eqb (cond x (48 + n) (55 + n)) 34) ≡ true
        by_ten true = grind arith
        by_ten false = grind arith

    last : (x y z w : Bool) → (x || y || z || w) ≡ false → not z ≡ true
    last x y false w e = refl
    last x y true w e = absurd (high x y e)
      where
        high : (x y : Bool) → (x || y || true || w) ≡ false → ⊥
        high true y e = cc
        high false true e = cc
        high false false e = cc

    go : (x : Bool) → is_escaped b ≡ x → runs_to is_unquoted [] (escaped bs) ≡ true → runs_to is_unquoted [] (cond x (92 ∷ hex_digit (b / 16) ∷ hex_digit (b % 16) ∷ escaped bs) (b ∷ escaped bs)) ≡ true
    go true e all =
        ap (λ y. cond y (cond (is_unquoted (hex_digit (b % 16))) (runs_to is_unquoted [] (escaped bs)) false) false) (hex_unquoted (b / 16)) ∙ ap (λ y. cond y (runs_to is_unquoted [] (escaped bs)) false) (hex_unquoted (b % 16)) ∙ all
    go false e all = ap (λ y. cond y (runs_to is_unquoted [] (escaped bs)) false) (last (ltb b 32) (ltb 126 b) (eqb b 34) (eqb b 92) e) ∙ all

-- the bytes behind the first quote
closed_front : (bs next : List ℕ) → run_to is_unquoted (codes "\"") ((escaped bs ++ 34 ∷ []) ++ next) ≡ Some (length (escaped bs) + 1)
closed_front bs next = ap (run_to is_unquoted (codes "\"")) (append_assoc (escaped bs) (34 ∷ []) next) ∙ run_to_some is_unquoted (codes "\"") (escaped bs) next (quoted_bytes bs) refl

quoted_length : (bs : List ℕ) → length (texts.quoted bs) ≡ length (escaped bs) + 2
quoted_length bs = omega (arith, length-append (escaped bs) (34 ∷ []))

pub string_stays : (bs : List ℕ) → Stays (string_text bs)
string_stays bs = stays (string_text bs) kinds.CStr (record { blank = refl; comment = refl; bang = refl }) refl (λ next s.
    ap (λ o. with_first (or_else (of_kind kinds.CStr (one_more o)) (Some (kinds.Word, 0)))) (closed_front bs next) ∙ ap (λ n. Some (kinds.CStr, n)) (omega (arith, quoted_length bs)))

-- ---- names

name_no_digit : (b : ℕ) → is_name_start b ≡ true → is_digit b ≡ false
name_no_digit b h = go (is_digit b) (digit_no_start b) h
  where
    go : (x : Bool) → (x ≡ true → is_name_start b ≡ false) → is_name_start b ≡ true → x ≡ false
    go false f h = refl
    go true f h = absurd (let e = f refl in cc)

-- what a name is printed as
data Printed (s : List ℕ) : List ℕ → Type 0 where
  plain : is_plain_name s ≡ true → Printed s s
  numbered : is_number s ≡ true → Printed s s
  in_quotes : Printed s (texts.quoted s)

printed_name : (s : List ℕ) → Printed s (name_text s)
printed_name s = go (is_plain_name s) (is_number s) refl refl
  where
    go : (x y : Bool) → is_plain_name s ≡ x → is_number s ≡ y → Printed s (cond (x || y) s (texts.quoted s))
    go true y p q = plain p
    go false true p q = numbered q
    go false false p q = in_quotes

name_front : (s t next : List ℕ) → Printed s t → Stops next → name (t ++ next) ≡ Some (length t)
name_front s t next (in_quotes) s' = ap one_more (closed_front s next) ∙ ap Some (omega (arith, quoted_length s))
name_front [] t next (plain h) s' = absurd cc
name_front (b ∷ bs) t next (plain h) s' =
    let p = and_parts (is_name_start b) (runs_to is_name_byte [] bs) h in
    let x = bs ++ next in
    ap (λ y. one_more (cond y (run_to is_unquoted (codes "\"") x) (cond (is_digit b) (Some (run is_digit x)) (plain_behind b x)))) (apart is_name_start b 34 p.0 refl)
    ∙ ap (λ y. one_more (cond y (Some (run is_digit x)) (plain_behind b x))) (name_no_digit b p.0) ∙ ap (λ y. one_more (cond y (Some (run is_name_byte x)) None)) p.0 ∙ ap Some (omega (arith, run_over is_name_byte bs next p.1 s'.name))
name_front [] t next (numbered h) s' = absurd cc
name_front (b ∷ bs) t next (numbered h) s' =
    let p = and_parts (is_digit b) (runs_to is_digit [] bs) h in
    let x = bs ++ next in
    ap (λ y. one_more (cond y (run_to is_unquoted (codes "\"") x) (cond (is_digit b) (Some (run is_digit x)) (plain_behind b x)))) (apart is_digit b 34 p.0 refl)
    ∙ ap (λ y. one_more (cond y (Some (run is_digit x)) (plain_behind b x))) p.0 ∙ ap Some (omega (arith, run_over is_digit bs next p.1 s'.digit))

pub global_stays : (s : List ℕ) → Stays (global_text s)
global_stays s = stays (global_text s) kinds.Global (record { blank = refl; comment = refl; bang = refl }) refl (λ next n.
    ap (λ o. with_first (of_kind kinds.Global o)) (name_front s (name_text s) next (printed_name s) n) ∙ ap (λ n. Some (kinds.Global, n)) (omega arith))

pub local_stays : (s : List ℕ) → Stays (local_text s)
local_stays s = stays (local_text s) kinds.Local (record { blank = refl; comment = refl; bang = refl }) refl (λ next n.
    ap (λ o. with_first (of_kind kinds.Local o)) (name_front s (name_text s) next (printed_name s) n) ∙ ap (λ n. Some (kinds.Local, n)) (omega arith))

-- a label, whatever follows it
label_front : (s t next : List ℕ) → Printed s t → (found ((t ++ 58 ∷ []) ++ next) ≡ Some (kinds.Label, length (t ++ 58 ∷ []))) × StartsText (t ++ 58 ∷ []) × (no_space_behind (t ++ 58 ∷ []) ≡ false)
label_front s t next (in_quotes) = (
  ap (λ x. with_first (or_else (of_kind kinds.Label (run_to is_unquoted (codes "\":") x)) (found_behind 34 x))) (append_assoc (escaped s ++ 34 ∷ []) (58 ∷ []) next ∙ append_assoc (escaped s) (34 ∷ []) (58 ∷ next))
      ∙ ap (λ o. with_first (or_else (of_kind kinds.Label o) (found_behind 34 (escaped s ++ 34 ∷ 58 ∷ next)))) (run_to_some is_unquoted (codes "\":") (escaped s) next (quoted_bytes s) refl)
      ∙ ap (λ n. Some (kinds.Label, n)) (omega (arith, length-append (texts.quoted s) (58 ∷ []), quoted_length s)),
  record { blank = refl; comment = refl; bang = refl },
  refl,
)
label_front [] t next (plain h) = absurd cc
label_front (b ∷ bs) t next (plain h) =
    let p = and_parts (is_name_start b) (runs_to is_name_byte [] bs) h in (
      ap (λ x. with_first (or_else (of_kind kinds.Label (label_behind b x)) (found_behind b x))) (append_assoc bs (58 ∷ []) next)
          ∙ ap (λ o. with_first (or_else (of_kind kinds.Label o) (found_behind b (bs ++ 58 ∷ next))))
          (label_of_name b (bs ++ 58 ∷ next) (apart is_name_start b 34 p.0 refl) (name_no_digit b p.0) p.0 ∙ run_to_some is_name_byte (codes ":") bs next p.1 refl)
          ∙ ap (λ n. Some (kinds.Label, n)) (omega (arith, length-append bs (58 ∷ []))),
      starts_of is_name_start refl refl refl refl refl refl b p.0,
      no_mark b (bs ++ 58 ∷ []) (apart is_name_start b 40 p.0 refl) (apart is_name_start b 91 p.0 refl),
    )
label_front [] t next (numbered h) = absurd cc
label_front (b ∷ bs) t next (numbered h) =
    let p = and_parts (is_digit b) (runs_to is_digit [] bs) h in (
      ap (λ x. with_first (or_else (of_kind kinds.Label (label_behind b x)) (found_behind b x))) (append_assoc bs (58 ∷ []) next)
          ∙ ap (λ o. with_first (or_else (of_kind kinds.Label o) (found_behind b (bs ++ 58 ∷ next)))) (label_of_digit b (bs ++ 58 ∷ next) (apart is_digit b 34 p.0 refl) p.0 ∙ run_to_some is_digit (codes ":") bs next p.1 refl)
          ∙ ap (λ n. Some (kinds.Label, n)) (omega (arith, length-append bs (58 ∷ []))),
      starts_of is_digit refl refl refl refl refl refl b p.0,
      no_mark b (bs ++ 58 ∷ []) (apart is_digit b 40 p.0 refl) (apart is_digit b 91 p.0 refl),
    )

pub label_stays : (s : List ℕ) → Stays (label_text s)
label_stays s = record {
  kind = kinds.Label;
  starts = (label_front s (name_text s) [] (printed_name s)).1;
  front = λ next h. (label_front s (name_text s) next (printed_name s)).0;
}

-- ---- marks

-- a mark that is longest whatever follows it
pub mark_stays : (t : List ℕ) → StartsText t → ((next : List ℕ) → found (t ++ next) ≡ Some (kinds.Punct, length t)) → Stays t
mark_stays t s f = record { kind = kinds.Punct; starts = s; front = λ next h. f next }

pub brace_end_stays : Stays (codes "}")
brace_end_stays = stays (codes "}") kinds.Punct (record { blank = refl; comment = refl; bang = refl }) refl (λ next s. ap (λ x. with_first (cond x (Some (kinds.Punct, 1)) (Some (kinds.Punct, 0)))) s.brace)

pub packed_stays : Stays (codes "<{")
packed_stays = mark_stays (codes "<{") (record { blank = refl; comment = refl; bang = refl }) front
  where
    front : (next : List ℕ) → found (codes "<{" ++ next) ≡ Some (kinds.Punct, 2)
    front [] = refl
    front (b ∷ bs) = refl

pub packed_end_stays : Stays (codes "}>")
packed_end_stays = mark_stays (codes "}>") (record { blank = refl; comment = refl; bang = refl }) front
  where
    front : (next : List ℕ) → found (codes "}>" ++ next) ≡ Some (kinds.Punct, 2)
    front [] = refl
    front (b ∷ bs) = refl
