-- Names, numbers and strings as they are printed.
use Rattle.std.specs.Prelude.{ℕ, ◌+◌, ◌/◌, ◌%◌, Bool, true, false, ◌||◌, ◌&&◌, ◌==◌, nat_lt, if◌then◌else◌, List, [], ◌∷◌, ◌++◌, codes}
use Rattle.std.specs.Fmt.{decimal}
use Rattle.ir_lexer.specs.Forms.{is_plain_name, is_number}
use Rattle.ir_tree.specs.declared.constants.Integer.{Integer}

abbrev pub same : List ℕ → List ℕ → Bool
same [] [] = true
same [] (y ∷ ys) = false
same (x ∷ xs) [] = false
same (x ∷ xs) (y ∷ ys) = x == y && same xs ys

-- a hexadecimal digit, with upper-case letters
abbrev pub hex_digit : ℕ → ℕ
hex_digit n = if nat_lt n 10 then 48 + n else 55 + n

-- `"`, `\` and bytes outside 32 to 126 are `\hh`
abbrev pub is_escaped : ℕ → Bool
is_escaped b = nat_lt b 32 || nat_lt 126 b || b == 34 || b == 92

abbrev pub escaped : List ℕ → List ℕ
escaped [] = []
escaped (b ∷ bs) =
    if is_escaped b then 92 ∷ hex_digit (b / 16) ∷ hex_digit (b % 16) ∷ escaped bs else b ∷ escaped bs

abbrev pub quoted : List ℕ → List ℕ
quoted bs = 34 ∷ (escaped bs ++ 34 ∷ [])

-- a name that has the form without quotes, or is a number, stands as it is
abbrev pub name_text : List ℕ → List ℕ
name_text name = if is_plain_name name || is_number name then name else quoted name

abbrev pub global_text : List ℕ → List ℕ
global_text name = 64 ∷ name_text name

abbrev pub local_text : List ℕ → List ℕ
local_text name = 37 ∷ name_text name

abbrev pub label_text : List ℕ → List ℕ
label_text name = name_text name ++ 58 ∷ []

abbrev pub integer_text : Integer → List ℕ
integer_text n = if n.negative then 45 ∷ decimal n.magnitude else decimal n.magnitude

abbrev pub width_text : ℕ → List ℕ
width_text n = 105 ∷ decimal n

-- c".."
abbrev pub string_text : List ℕ → List ℕ
string_text bs = 99 ∷ quoted bs

-- ---- tokens on a line

-- no space stands behind `(` and `[`, and none before `(`, `,`, `)` and `]`
abbrev pub no_space_behind : List ℕ → Bool
no_space_behind t = same t (codes "(") || same t (codes "[")

abbrev pub no_space_before : List ℕ → Bool
no_space_before t = same t (codes "(") || same t (codes ",") || same t (codes ")") || same t (codes "]")

abbrev pub gap : List ℕ → List ℕ → List ℕ
gap t u = if no_space_behind t || no_space_before u then [] else codes " "

-- the texts of the tokens, with one space between them elsewhere
abbrev pub spaced : List (List ℕ) → List ℕ
spaced [] = []
spaced (t ∷ []) = t
spaced (t ∷ u ∷ us) = t ++ (gap t u ++ spaced (u ∷ us))
