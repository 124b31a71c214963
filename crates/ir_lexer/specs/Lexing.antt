-- A text in tokens: each the longest that stands there, with blanks and comments between them, and a Bad one where none stands.
use Rattle.std.specs.Prelude.{◌≡◌, ℕ, suc, ◌+◌, ◌-◌, ◌<◌, ◌≤◌, Bool, true, false, ◌&&◌, ◌||◌, ◌==◌, if◌then◌else◌, List, [], ◌∷◌, length, take, drop, Some, None, ◌⊎◌}
use Rattle.ir_lexer.specs.declared.token.TokenKind.{TokenKind}
use Rattle.ir_lexer.specs.declared.token.TokenKind.TheVariants as kinds
use Rattle.ir_lexer.specs.declared.token.Token.{Token}
use Rattle.ir_lexer.specs.Forms.{kind_of}

-- space, tab, carriage return and line feed
abbrev pub is_blank : ℕ → Bool
is_blank b = b == 32 || b == 9 || b == 13 || b == 10

-- whether nothing but spaces and tabs stands on the line, after one more blank
abbrev pub fresh_after : Bool → ℕ → Bool
fresh_after fresh b = b == 10 || fresh && (b == 32 || b == 9)

-- a comment begins with `;`, and so does a line with `!` as its first byte but spaces and tabs: it is skipped whole
abbrev pub begins_comment : Bool → ℕ → Bool
begins_comment fresh b = b == 59 || fresh && b == 33

-- what is left of the bytes after blanks and comments; a comment goes to the end of its line
abbrev pub past : Bool → Bool → List ℕ → List ℕ
past in_comment fresh [] = []
past true fresh (b ∷ bs) = if b == 10 then past false true bs else past true fresh bs
past false fresh (b ∷ bs) =
    if is_blank b then past false (fresh_after fresh b) bs
    else (if begins_comment fresh b then past true fresh bs
    else b ∷ bs)

-- no token of this length or a greater one stands in front
abbrev pub NoneFrom : List ℕ → ℕ → Type 0
NoneFrom bytes least = (n : ℕ) → least ≤ n → n ≤ length bytes → kind_of (take n bytes) ≡ None

-- the longest token in front
pub record IsTokenAt (bytes : List ℕ) (kind : TokenKind) (len : ℕ) : Type 0 where
  pub some : 0 < len
  pub within : len ≤ length bytes
  pub form : kind_of (take len bytes) ≡ Some kind
  pub longest : NoneFrom bytes (suc len)

-- the token of so many bytes where these bytes are left of a source of so many
abbrev pub token_at : ℕ → List ℕ → TokenKind → ℕ → Token
token_at total rest kind len = record { kind = kind; start = total - length rest; end = total - length rest + len }

-- the rest of a source, at which no blank stands, parts into these tokens; a Bad one is the last and goes to the end
abbrev pub PartsInto : ℕ → List ℕ → List Token → Type 0
PartsInto total rest [] = rest ≡ []
PartsInto total rest (t ∷ ts) =
    ((kind : TokenKind) × (len : ℕ) × IsTokenAt rest kind len × (t ≡ token_at total rest kind len) × PartsInto total (past false false (drop len rest)) ts)
    ⊎ ((0 < length rest) × NoneFrom rest 1 × (t ≡ token_at total rest kinds.Bad (length rest)) × (ts ≡ []))

-- the tokens of a text
abbrev pub AreTokens : List ℕ → List Token → Type 0
AreTokens bytes ts = PartsInto (length bytes) (past false true bytes) ts

-- ---- what follows from it

-- a text has one list of tokens
abbrev pub HasOneList : Type 0
HasOneList = (bytes : List ℕ) (ts us : List Token) → AreTokens bytes ts → AreTokens bytes us → ts ≡ us

-- tokens lie behind one another, each with a byte at least, and end before a place
abbrev pub AreBehind : ℕ → List Token → ℕ → Type 0
AreBehind at [] end = at ≤ end
AreBehind at (t ∷ ts) end = (at ≤ t.start) × (t.start < t.end) × AreBehind t.end ts end

-- each token is a slice of the source, and they stand in order
abbrev pub AreSlices : Type 0
AreSlices = (bytes : List ℕ) (ts : List Token) → AreTokens bytes ts → AreBehind 0 ts (length bytes)
