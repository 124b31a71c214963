-- A text that grows at its end by tokens: what is written so far, and how the next token stands behind it.
use Rattle.std.specs.Prelude.{ℕ, Bool, true, false, ◌||◌, ◌==◌, if◌then◌else◌, List, [], ◌∷◌, ◌++◌, codes}
use Rattle.ir_tree.specs.Texts.{no_space_behind, no_space_before}
use Rattle.ir_tree.specs.Printing.{indent}

-- what is written, and whether the next token stands at once behind it
pub record Written : Type 0 where
  pub text : List ℕ
  pub glued : Bool

-- at a line's beginning the first token stands at once behind the indent
abbrev pub begun : Written → Bool → Written
begun w indented = record { text = w.text ++ indent indented; glued = true }

-- one space before a token, but for one that stands at once behind what is written
abbrev pub gap_before : Bool → List ℕ → List ℕ
gap_before glued t = if glued || no_space_before t then [] else codes " "

unfoldable pub with_token : Written → List ℕ → Written
with_token w t = record { text = w.text ++ (gap_before w.glued t ++ t); glued = no_space_behind t }

-- with tokens behind one another
abbrev pub after : Written → List (List ℕ) → Written
after w [] = w
after w (t ∷ ts) = after (with_token w t) ts

-- a comma before each item of a list but the first
abbrev pub comma_before : ℕ → List (List ℕ)
comma_before index = if index == 0 then [] else codes "," ∷ []

-- ---- bytes of one token

-- a token begins that is none of the marks without a space
abbrev pub opened : Written → Written
opened w = record { text = w.text ++ (if w.glued then [] else codes " "); glued = false }

abbrev pub extended : Written → List ℕ → Written
extended w bs = record { text = w.text ++ bs; glued = w.glued }
