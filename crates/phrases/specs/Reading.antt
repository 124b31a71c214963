-- What a whole text is read as, and the place where it is refused.
use Rattle.std.specs.Prelude.{◌≡◌, Bool, true, false, List, [], ◌∷◌, ◌++◌}
use Rattle.phrases.specs.Piece.{Piece}
use Rattle.phrases.specs.Phrase.{Phrase, Outcome, got, refused, and_then}

-- the tokens stand at the beginning of a list that the phrase derives
abbrev pub IsViable : {A : Type 0} → Phrase A → List Piece → Type 0
IsViable {A = A} p before = (after : List Piece) × (a : A) × p.derives a (before ++ after)

-- nothing that the phrase derives goes on like this: the next token stands in no derivable list after those before it,
-- or at the end those before it are no derivable list
abbrev pub Ends : {A : Type 0} → Phrase A → List Piece → List Piece → Type 0
Ends {A = A} p before [] = (a : A) → p.derives a before → ⊥
Ends p before (t ∷ after) = IsViable p (before ++ t ∷ []) → ⊥

-- the next token is named as unsupported
abbrev pub IsNamed : {A : Type 0} → Phrase A → List Piece → List Piece → Type 0
IsNamed p before [] = ⊥
IsNamed p before (t ∷ after) = p.names before t

-- the rest begins with the first token that is refused, and it is named or not
pub record IsRefusedAt {A : Type 0} (p : Phrase A) (ts rest : List Piece) (named : Bool) : Type 0 where
  pub before : List Piece
  pub parts : ts ≡ before ++ rest
  pub viable : IsViable p before
  pub ends : Ends p before rest
  pub only_named : named ≡ true → IsNamed p before rest
  pub each_named : IsNamed p before rest → named ≡ true

-- all of the tokens
abbrev pub to_the_end : {A : Type 0} → Outcome A → Outcome A
to_the_end (got a []) = got a []
to_the_end (got a (t ∷ ts)) = refused false (t ∷ ts)
to_the_end (refused named rest) = refused named rest

-- what was read before, and what is still read
abbrev pub with_front : {A : Type 0} → List A → Outcome (List A) → Outcome (List A)
with_front front read = and_then read (λ xs rest. got (front ++ xs) rest)
