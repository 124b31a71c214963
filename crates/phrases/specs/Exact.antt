-- What makes a phrase exact: its reader reads what it derives, stops only where it must, and where it refuses, the tokens before
-- begin something that the phrase derives.
use Rattle.std.specs.Prelude.{◌≡◌, Bool, true, false, List, [], ◌∷◌, ◌++◌}
use Rattle.phrases.specs.Piece.{Piece, Class, among, starts}
use Rattle.phrases.specs.Phrase.{got, refused, Phrase}

-- both begin with the same token, or both are empty
abbrev pub SameHead : List Piece → List Piece → Type 0
SameHead [] [] = Unit {0}
SameHead [] (q ∷ qs) = ⊥
SameHead (p ∷ ps) [] = ⊥
SameHead (p ∷ ps) (q ∷ qs) = p ≡ q

-- the tokens begin something that is derived
abbrev pub Viable : {A : Type 0} → (A → List Piece → Type 0) → List Piece → Type 0
Viable {A = A} derives before = (after : List Piece) × (a : A) × derives a (before ++ after)

-- a was read from the front, and would be whatever follows the next token
pub record Reads {A : Type 0} (p : Phrase A) (ts : List Piece) (a : A) (rest : List Piece) : Type 0 where
  pub front : List Piece
  pub parts : ts ≡ front ++ rest
  pub derived : p.derives a front
  pub stays : (other : List Piece) → SameHead rest other → p.reads (front ++ other) ≡ got a other

-- if it is named, the first token of the rest is
abbrev pub Named : (List Piece → Piece → Type 0) → List Piece → List Piece → Bool → Type 0
Named names front rest false = Unit {0}
Named names front [] true = ⊥
Named names front (t ∷ after) true = names front t

-- the first token of rest is refused, and would be whatever followed it
pub record Stops {A : Type 0} (p : Phrase A) (ts : List Piece) (named : Bool) (rest : List Piece) : Type 0 where
  pub front : List Piece
  pub parts : ts ≡ front ++ rest
  pub viable : Viable p.derives front
  pub names : Named p.names front rest named
  pub stays : (other : List Piece) → SameHead rest other → p.reads (front ++ other) ≡ refused named other

-- first: the tokens that it may begin with; empty: whether it may be empty; more: the tokens that may go on with it;
-- bad: the tokens that it names where it begins
pub record Exact {A : Type 0} (p : Phrase A) (first : List Class) (empty : Bool) (more bad : List Class) : Type 0 where
  pub reading : (ts : List Piece) (a : A) (rest : List Piece) → p.reads ts ≡ got a rest → Reads p ts a rest
  pub stopping : (ts : List Piece) (n : Bool) (rest : List Piece) → p.reads ts ≡ refused n rest → Stops p ts n rest
  pub whole : (a : A) (w rest : List Piece) → p.derives a w → starts more rest ≡ false → p.reads (w ++ rest) ≡ got a rest
  pub begins : (a : A) (t : Piece) (w : List Piece) → p.derives a (t ∷ w) → among first t ≡ true
  pub empties : (a : A) → p.derives a [] → empty ≡ true
  pub some : Viable p.derives []
  pub naming : (before : List Piece) (t : Piece) (after : List Piece) → p.names before t → p.reads (before ++ t ∷ after) ≡ refused true (t ∷ after)
  pub name_begins : (u : Piece) (before : List Piece) (t : Piece) → p.names (u ∷ before) t → among first u ≡ true
  pub name_first : (t : Piece) → p.names [] t → among bad t ≡ true
