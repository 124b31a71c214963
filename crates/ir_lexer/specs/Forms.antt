-- The form of each kind of token, by its text (Language Reference, "Lexical Structure" and "Identifiers").
use Rattle.std.specs.Prelude.{ℕ, Bool, true, false, not, ◌||◌, ◌&&◌, ◌==◌, nat_le, if◌then◌else◌, List, [], ◌∷◌, Option, Some, None, codes}
use Rattle.ir_lexer.specs.declared.token.TokenKind.{TokenKind}
use Rattle.ir_lexer.specs.declared.token.TokenKind.TheVariants as kinds

-- ---- bytes

abbrev pub is_digit : ℕ → Bool
is_digit b = nat_le 48 b && nat_le b 57

abbrev pub is_letter : ℕ → Bool
is_letter b = nat_le 97 b && nat_le b 122 || nat_le 65 b && nat_le b 90

-- [a-zA-Z_] and [a-zA-Z0-9_.]
abbrev pub is_word_start : ℕ → Bool
is_word_start b = is_letter b || b == 95

abbrev pub is_word_byte : ℕ → Bool
is_word_byte b = is_word_start b || is_digit b || b == 46

-- [-a-zA-Z$._] and [-a-zA-Z$._0-9]
abbrev pub is_name_start : ℕ → Bool
is_name_start b = is_letter b || b == 45 || b == 36 || b == 46 || b == 95

abbrev pub is_name_byte : ℕ → Bool
is_name_byte b = is_name_start b || is_digit b

abbrev pub is_unquoted : ℕ → Bool
is_unquoted b = not (b == 34)

-- ---- texts

abbrev pub same : List ℕ → List ℕ → Bool
same [] [] = true
same [] (y ∷ ys) = false
same (x ∷ xs) [] = false
same (x ∷ xs) (y ∷ ys) = x == y && same xs ys

-- as many bytes of a class as there are, and then exactly an ending
abbrev pub runs_to : (ℕ → Bool) → List ℕ → List ℕ → Bool
runs_to f ending [] = same ending []
runs_to f ending (b ∷ bs) = if f b then runs_to f ending bs else same ending (b ∷ bs)

-- a name without quotes, and a number
abbrev pub is_plain_name : List ℕ → Bool
is_plain_name [] = false
is_plain_name (b ∷ bs) = is_name_start b && runs_to is_name_byte [] bs

abbrev pub is_number : List ℕ → Bool
is_number [] = false
is_number (b ∷ bs) = is_digit b && runs_to is_digit [] bs

-- what follows the first quote of `".."`: no quote but the last byte
abbrev pub is_closed : List ℕ → Bool
is_closed bs = runs_to is_unquoted (codes "\"") bs

-- a quoted name, a number, or a name without quotes
abbrev pub is_name : List ℕ → Bool
is_name [] = false
is_name (b ∷ bs) = if b == 34 then is_closed bs else (if is_digit b then runs_to is_digit [] bs else is_name_start b && runs_to is_name_byte [] bs)

-- a name with a colon at once behind it
abbrev pub is_label : List ℕ → Bool
is_label [] = false
is_label (b ∷ bs) =
    if b == 34 then runs_to is_unquoted (codes "\":") bs
    else (if is_digit b then runs_to is_digit (codes ":") bs else is_name_start b && runs_to is_name_byte (codes ":") bs)

-- `".."` behind a `c`
abbrev pub is_quoted : List ℕ → Bool
is_quoted [] = false
is_quoted (b ∷ bs) = b == 34 && is_closed bs

abbrev pub is_mark_byte : ℕ → Bool
is_mark_byte b = b == 61 || b == 44 || b == 40 || b == 41 || b == 91 || b == 93 || b == 123 || b == 125 || b == 60 || b == 62 || b == 42 || b == 124

-- = , ( ) [ ] { } < > * | and <{ }>
abbrev pub is_mark : ℕ → List ℕ → Bool
is_mark b [] = is_mark_byte b
is_mark b (c ∷ []) = b == 60 && same (codes "{") (c ∷ []) || b == 125 && same (codes ">") (c ∷ [])
is_mark b (c ∷ d ∷ ds) = false

-- ---- kinds

abbrev pub when : Bool → TokenKind → Option TokenKind
when b kind = if b then Some kind else None

-- one kind, or else another
abbrev pub first_of : Option TokenKind → Option TokenKind → Option TokenKind
first_of (Some kind) other = Some kind
first_of None other = other

-- what a text that begins like a name is; if it is none of that, it may be a label
abbrev pub or_label : Option TokenKind → List ℕ → Option TokenKind
or_label kind text = first_of kind (when (is_label text) kinds.Label)

-- the kind of a text, by its first byte
abbrev pub kind_of : List ℕ → Option TokenKind
kind_of [] = None
kind_of (b ∷ bs) =
    -- @ and % with a name
    if b == 64 then when (is_name bs) kinds.Global
    else (if b == 37 then when (is_name bs) kinds.Local
    -- # with digits, or with a name
    else (if b == 35 then first_of (when (is_number bs) kinds.AttrGroup) (when (is_plain_name bs) kinds.Punct)
    -- ! with digits, with a name, or alone
    else (if b == 33 then first_of (when (is_number bs) kinds.Meta) (first_of (when (is_plain_name bs) kinds.Meta) (when (same [] bs) kinds.Meta))
    -- a string
    else (if b == 34 then or_label (when (is_closed bs) kinds.Str) (b ∷ bs)
    -- a string with a c before it, or a word
    else (if is_word_start b then or_label (first_of (when (b == 99 && is_quoted bs) kinds.CStr) (when (runs_to is_word_byte [] bs) kinds.Word)) (b ∷ bs)
    -- a number, with a minus if wanted
    else (if is_digit b then or_label (when (runs_to is_digit [] bs) kinds.Int) (b ∷ bs)
    else (if b == 45 then or_label (when (is_number bs) kinds.Int) (b ∷ bs)
    -- ...
    else (if is_name_start b then or_label (when (b == 46 && same (codes "..") bs) kinds.Punct) (b ∷ bs)
    else when (is_mark b bs) kinds.Punct))))))))
