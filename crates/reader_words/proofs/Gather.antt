-- A loop that gathers what a repetition reads, beside the repetition.
use Rattle.std.proofs.Common.{◌≡◌, Bool, true, false, ◌||◌, Option, Some, None, List, [], ◌∷◌, ◌++◌, refl, sym, ap, ◌∙◌, append_assoc}
use Rattle.std.proofs.lemmas.List.{append-nil}
use Rattle.phrases.specs.Piece.{Piece, Class, matches, among, starts}
use Rattle.phrases.specs.Phrase.{Phrase, Outcome, got, refused, and_then, many_from}
use Rattle.phrases.specs.Exact.{Exact}
use Rattle.phrases.proofs.Classes.{among-append}
use Rattle.phrases.proofs.Loops.{one_more, no_more, fault_in}
use Rattle.ir_grammar.specs.Instructions.{present}

-- what was gathered, and what is still read
abbrev pub gathered : {A X : Type 0} → (X → List A → X) → X → Outcome (List A) → Outcome X
gathered add x read = and_then read (λ xs rest. got (add x xs) rest)

module _ {S A X : Type 0} (first more : List Class) (item : S → Phrase A) (next : S → A → S) (P : (u : S) → Exact (item u) first false more [])
    (add : X → List A → X) (none : (x : X) → add x [] ≡ x) (later : (x : X) (a : A) (xs : List A) → add (add x (a ∷ [])) xs ≡ add x (a ∷ xs)) where
  abbrev all : S → Phrase (List A)
  all u = many_from first item next u

  pub turn : (u : S) (x y : X) (ts rest : List Piece) (a : A) (total : Outcome X) → starts first ts ≡ true → (item u).reads ts ≡ got a rest → y ≡ add x (a ∷ [])
      → gathered add x ((all u).reads ts) ≡ total → gathered add y ((all (next u a)).reads rest) ≡ total
  turn u x y ts rest a total c e pushed so_far =
      ap (λ z. gathered add z ((all (next u a)).reads rest)) pushed ∙ regroup ((all (next u a)).reads rest) ∙ ap (gathered add x) (sym (one_more first more item next P u ts a rest c e)) ∙ so_far
    where
      regroup : (o : Outcome (List A)) → gathered add (add x (a ∷ [])) o ≡ gathered add x (and_then o (λ xs last. got (a ∷ xs) last))
      regroup (got xs last) = ap (λ z. got z last) (later x a xs)
      regroup (refused n last) = refl

  pub leave : (u : S) (x : X) (ts : List Piece) (total : Outcome X) → starts first ts ≡ false → gathered add x ((all u).reads ts) ≡ total → total ≡ got x ts
  leave u x ts total c so_far = sym so_far ∙ ap (gathered add x) (no_more first more item next P u ts c) ∙ ap (λ z. got z ts) (none x)

  pub stop : (u : S) (x : X) (ts : List Piece) (n : Bool) (rest : List Piece) (total : Outcome X) → starts first ts ≡ true → (item u).reads ts ≡ refused n rest
      → gathered add x ((all u).reads ts) ≡ total → total ≡ refused n rest
  stop u x ts n rest total c e so_far = sym so_far ∙ ap (gathered add x) (fault_in first more item next P u ts n rest c e)

-- ---- what is gathered

-- a list, behind another
abbrev pub with_list : {A : Type 0} → List A → List A → List A
with_list found xs = found ++ xs

pub list_later : {A : Type 0} (found : List A) (a : A) (xs : List A) → (found ++ a ∷ []) ++ xs ≡ found ++ a ∷ xs
list_later found a xs = append_assoc found (a ∷ []) xs

-- those that are present, behind a list
abbrev pub with_present : {A : Type 0} → List A → List (Option A) → List A
with_present found xs = found ++ present xs

pub present_later : {A : Type 0} (found : List A) (a : Option A) (xs : List (Option A)) → (found ++ present (a ∷ [])) ++ present xs ≡ found ++ present (a ∷ xs)
present_later found (Some a) xs = append_assoc found (a ∷ []) (present xs)
present_later found None xs = ap (λ f. f ++ present xs) (append-nil found)

-- ---- what may come next

-- a class of its own
pub alone : (c : Class) (p : Piece) → matches c p ≡ among (c ∷ []) p
alone c p = or_none (matches c p)
  where
    or_none : (b : Bool) → b ≡ (b || false)
    or_none true = refl
    or_none false = refl

-- the token is in none of the first classes
pub past_these : (cs ds : List Class) (p : Piece) (found : Bool) → found ≡ among cs p → found ≡ false → among ds p ≡ among (cs ++ ds) p
past_these cs ds p found e f = ap (λ b. b || among ds p) (sym f ∙ e) ∙ sym (among-append cs ds p)

-- it is in one of them
pub in_these : (cs ds : List Class) (p : Piece) (found : Bool) → found ≡ among cs p → found ≡ true → true ≡ among (cs ++ ds) p
in_these cs ds p found e f = ap (λ b. b || among ds p) (sym f ∙ e) ∙ sym (among-append cs ds p)

-- none of the first classes comes next
pub past : (cs ds : List Class) (ts : List Piece) (found : Bool) → found ≡ starts cs ts → found ≡ false → starts ds ts ≡ starts (cs ++ ds) ts
past cs ds [] found e f = refl
past cs ds (p ∷ ps) found e f = past_these cs ds p found e f
