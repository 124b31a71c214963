-- What the text of a name or a string stands for.
use Rattle.std.specs.Prelude.{ℕ, ◌+◌, ◌-◌, ◌*◌, Bool, ◌||◌, ◌&&◌, ◌==◌, nat_le, if◌then◌else◌, List, [], ◌∷◌, Option, Some, None}
use Rattle.ir_tree.specs.declared.types.Name.{Name}
use Rattle.phrases.specs.Piece.{Piece, Class, matches}

-- ---- escapes: `\hh` is the byte of two hexadecimal digits, `\\` is one backslash, and another `\` stands for itself

abbrev pub is_hex : ℕ → Bool
is_hex b = nat_le 48 b && nat_le b 57 || nat_le 65 b && nat_le b 70 || nat_le 97 b && nat_le b 102

abbrev pub hex_value : ℕ → ℕ
hex_value b = if nat_le b 57 then b - 48 else (if nat_le b 70 then b - 55 else b - 87)

abbrev pub unescaped : List ℕ → List ℕ
unescaped [] = []
unescaped (a ∷ []) = a ∷ []
unescaped (a ∷ b ∷ []) = if a == 92 && b == 92 then 92 ∷ [] else a ∷ unescaped (b ∷ [])
unescaped (a ∷ b ∷ c ∷ rest) =
    if a == 92 && b == 92 then 92 ∷ unescaped (c ∷ rest)
    else (if a == 92 && is_hex b && is_hex c then (16 * hex_value b + hex_value c) ∷ unescaped rest
    else a ∷ unescaped (b ∷ c ∷ rest))

-- ---- names

abbrev pub without_last : List ℕ → List ℕ
without_last [] = []
without_last (b ∷ []) = []
without_last (b ∷ c ∷ rest) = b ∷ without_last (c ∷ rest)

-- with its quotes undone
abbrev pub name_of : List ℕ → List ℕ
name_of [] = []
name_of (b ∷ rest) = if b == 34 then unescaped (without_last rest) else b ∷ rest

-- `@name` and `%name`
abbrev pub after_sigil : List ℕ → List ℕ
after_sigil [] = []
after_sigil (b ∷ rest) = name_of rest

-- `name:`
abbrev pub before_colon : List ℕ → List ℕ
before_colon text = name_of (without_last text)

-- the bytes of `c".."`
abbrev pub string_bytes : List ℕ → List ℕ
string_bytes [] = []
string_bytes (c ∷ rest) = name_of rest

-- the name that a token of the class is
abbrev pub name_in : Class → (List ℕ → List ℕ) → Piece → Option Name
name_in c text_of p = if matches c p then Some (record { text = text_of p.text; at = p.at }) else None
