-- Words on names and places.
use Rattle.std.specs.Prelude.{ℕ, ◌+◌, Bool, true, false, ◌||◌, ◌&&◌, if◌then◌else◌, List, [], ◌∷◌, map, Option, Some, None}
use Rattle.std.specs.List.{filter}
use Rattle.ir_tree.specs.Texts.{same}
use Rattle.ir_tree.specs.declared.types.Name.{Name}

-- the text is one of those
abbrev pub among : List ℕ → List (List ℕ) → Bool
among text [] = false
among text (x ∷ xs) = same x text || among text xs

-- the texts are one for one the same
abbrev pub same_all : List (List ℕ) → List (List ℕ) → Bool
same_all [] [] = true
same_all [] (y ∷ ys) = false
same_all (x ∷ xs) [] = false
same_all (x ∷ xs) (y ∷ ys) = same x y && same_all xs ys

-- where the text stands first among those, the first of which has this number
abbrev pub number_among : ℕ → List ℕ → List (List ℕ) → Option ℕ
number_among k text [] = None
number_among k text (x ∷ xs) = if same x text then Some k else number_among (k + 1) text xs

abbrev pub text_of : Name → List ℕ
text_of name = name.text

abbrev pub texts : List Name → List (List ℕ)
texts names = map text_of names

-- the places of the names that pass a test
abbrev pub places_where : (Name → Bool) → List Name → List ℕ
places_where test names = map (λ n. n.at) (filter test names)

-- what is there, or a default
abbrev pub name_or_none : Option Name → Name
name_or_none (Some name) = name
name_or_none None = record { text = []; at = 0 }
