-- How the code finds the longest token in front, by scanning from the first byte. That it is the longest is proved.
use Rattle.std.specs.Prelude.{ℕ, suc, ◌+◌, Bool, ◌&&◌, ◌||◌, ◌==◌, if◌then◌else◌, List, [], ◌∷◌, length, take, drop, Option, Some, None, codes}
use Rattle.ir_lexer.specs.declared.token.TokenKind.{TokenKind}
use Rattle.ir_lexer.specs.declared.token.TokenKind.TheVariants as kinds
use Rattle.ir_lexer.specs.Forms.{is_digit, is_word_start, is_word_byte, is_name_start, is_name_byte, is_unquoted, is_mark_byte, same}

-- how many bytes of a class stand in front
abbrev pub run : (ℕ → Bool) → List ℕ → ℕ
run f [] = 0
run f (b ∷ bs) = if f b then suc (run f bs) else 0

-- the text stands in front
abbrev pub begins : List ℕ → List ℕ → Bool
begins text bs = same text (take (length text) bs)

-- how many bytes of the class stand in front with the ending behind them
abbrev pub run_to : (ℕ → Bool) → List ℕ → List ℕ → Option ℕ
run_to f ending bs = if begins ending (drop (run f bs) bs) then Some (run f bs + length ending) else None

-- one more byte in front
abbrev pub one_more : Option ℕ → Option ℕ
one_more (Some n) = Some (n + 1)
one_more None = None

-- ---- lengths of what stands in front: behind the first byte, and with it

abbrev pub plain_behind : ℕ → List ℕ → Option ℕ
plain_behind b bs = if is_name_start b then Some (run is_name_byte bs) else None

abbrev pub plain_name : List ℕ → Option ℕ
plain_name [] = None
plain_name (b ∷ bs) = one_more (plain_behind b bs)

abbrev pub number_behind : ℕ → List ℕ → Option ℕ
number_behind b bs = if is_digit b then Some (run is_digit bs) else None

abbrev pub number : List ℕ → Option ℕ
number [] = None
number (b ∷ bs) = one_more (number_behind b bs)

abbrev pub quoted_behind : ℕ → List ℕ → Option ℕ
quoted_behind b bs = if b == 34 then run_to is_unquoted (codes "\"") bs else None

abbrev pub quoted : List ℕ → Option ℕ
quoted [] = None
quoted (b ∷ bs) = one_more (quoted_behind b bs)

abbrev pub name_behind : ℕ → List ℕ → Option ℕ
name_behind b bs = if b == 34 then run_to is_unquoted (codes "\"") bs else (if is_digit b then Some (run is_digit bs) else plain_behind b bs)

abbrev pub name : List ℕ → Option ℕ
name [] = None
name (b ∷ bs) = one_more (name_behind b bs)

-- a label that begins with this byte
abbrev pub label_behind : ℕ → List ℕ → Option ℕ
label_behind b bs =
    if b == 34 then run_to is_unquoted (codes "\":") bs
    else (if is_digit b then run_to is_digit (codes ":") bs
    else (if is_name_start b then run_to is_name_byte (codes ":") bs else None))

-- ---- the longest token in front

-- a kind for a length
abbrev pub of_kind : TokenKind → Option ℕ → Option (TokenKind × ℕ)
of_kind kind (Some n) = Some (kind, n)
of_kind kind None = None

abbrev pub or_else : Option (TokenKind × ℕ) → Option (TokenKind × ℕ) → Option (TokenKind × ℕ)
or_else (Some x) other = Some x
or_else None other = other

-- behind `#`
abbrev pub after_hash : List ℕ → Option (TokenKind × ℕ)
after_hash bs = or_else (of_kind kinds.AttrGroup (number bs)) (of_kind kinds.Punct (plain_name bs))

-- behind `!`
abbrev pub after_bang : List ℕ → Option (TokenKind × ℕ)
after_bang bs = or_else (of_kind kinds.Meta (number bs)) (or_else (of_kind kinds.Meta (plain_name bs)) (Some (kinds.Meta, 0)))

-- a token that begins with this byte and isn't a label
abbrev pub word_or_string : ℕ → List ℕ → Option (TokenKind × ℕ)
word_or_string b bs = or_else (if b == 99 then of_kind kinds.CStr (quoted bs) else None) (Some (kinds.Word, run is_word_byte bs))

abbrev pub dots : ℕ → List ℕ → Option (TokenKind × ℕ)
dots b bs = if b == 46 && begins (codes "..") bs then Some (kinds.Punct, 2) else None

abbrev pub marks : ℕ → List ℕ → Option (TokenKind × ℕ)
marks b bs =
    if b == 60 && begins (codes "{") bs || b == 125 && begins (codes ">") bs then Some (kinds.Punct, 1)
    else (if is_mark_byte b then Some (kinds.Punct, 0) else None)

-- the token that begins with this byte, and how many bytes follow in it
abbrev pub found_behind : ℕ → List ℕ → Option (TokenKind × ℕ)
found_behind b bs =
    if b == 64 then of_kind kinds.Global (name bs)
    else (if b == 37 then of_kind kinds.Local (name bs)
    else (if b == 35 then after_hash bs
    else (if b == 33 then after_bang bs
    else (if b == 34 then of_kind kinds.Str (run_to is_unquoted (codes "\"") bs)
    else (if is_word_start b then word_or_string b bs
    else (if is_digit b then Some (kinds.Int, run is_digit bs)
    else (if b == 45 then of_kind kinds.Int (number bs)
    else (if is_name_start b then dots b bs
    else marks b bs))))))))

-- a label, which is longer than what stands there else; or that
abbrev pub found_whole : ℕ → List ℕ → Option (TokenKind × ℕ)
found_whole b bs = or_else (of_kind kinds.Label (label_behind b bs)) (found_behind b bs)

-- with the first byte
abbrev pub with_first : Option (TokenKind × ℕ) → Option (TokenKind × ℕ)
with_first (Some x) = Some (x.0, x.1 + 1)
with_first None = None

abbrev pub found : List ℕ → Option (TokenKind × ℕ)
found [] = None
found (b ∷ bs) = with_first (found_whole b bs)
