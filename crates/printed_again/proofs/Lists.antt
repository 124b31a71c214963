-- Lists with commas between their items.
use Rattle.std.proofs.Common.{◌≡◌, ℕ, List, [], ◌∷◌, ◌++◌, Some, refl, sym, ap, subst, ◌∙◌, append_assoc}
use Rattle.std.specs.Prelude.{codes, map}
use Rattle.std.specs.List.{AllByRecursion}
use Rattle.ir_lexer.specs.declared.token.TokenKind.TheVariants as kinds
use Rattle.ir_lexer.specs.Forms.{kind_of}
use Rattle.ir_tree.specs.Spelling.{others, separated}
use Rattle.phrases.specs.Piece.{Piece}
use Rattle.phrases.specs.Phrase.{Phrase, ◌>>◌}
use Rattle.ir_grammar.specs.Types.{skip_mark, behind_commas, listed}
use Rattle.printed_again.proofs.Backs.{Back, bind, gives, alike, left, right, the_mark, none, more}
use Rattle.printed_again.proofs.Tells.{Tells, step, over, made, or, each}

pub moved : {A : Type 0} {derives : A → List Piece → Type 0} {xs ys : List (List ℕ)} {Like : A → Type 0} → xs ≡ ys → Back derives xs Like → Back derives ys Like
moved {derives = derives} {Like = Like} e P = subst (λ zs. Back derives zs Like) e P

-- both the first and the others are like
pub cons_like : {A B : Type 0} (bare : A → B) (x y : A) (xs ys : List A) → bare y ≡ bare x → map bare ys ≡ map bare xs → map bare (y ∷ ys) ≡ map bare (x ∷ xs)
cons_like bare x y xs ys e es = ap (λ z. z ∷ map bare ys) e ∙ ap (λ zs. bare x ∷ zs) es

module _ {A B : Type 0} (item : Phrase A) (tokens : A → List (List ℕ)) (bare : A → B) where
  -- an item is read from the tokens that it is printed as
  abbrev pub ItemBack : A → Type 0
  ItemBack x = Back item.derives (tokens x) (λ y. bare y ≡ bare x)

  pub commas_back : (xs : List A) → AllByRecursion ItemBack xs → Back (behind_commas item).derives (others (map tokens xs)) (λ ys. map bare ys ≡ map bare xs)
  commas_back [] h = alike (λ ys e. ap (map bare) e) (none (skip_mark (codes ",") >> item))
  commas_back (x ∷ xs) h = more (skip_mark (codes ",") >> item) (bind (the_mark (codes ",") refl) (λ _ _. h.0)) (commas_back xs h.1) (λ y ys e es. cons_like bare x y xs ys e es)

  pub listed_back : (closing : List ℕ) → kind_of closing ≡ Some kinds.Punct → (xs : List A) → AllByRecursion ItemBack xs → Back (listed closing item).derives (separated (map tokens xs) ++ closing ∷ []) (λ ys. map bare ys ≡ map bare xs)
  listed_back closing k [] h = left (bind (the_mark closing k) (λ _ _. gives [] refl))
  listed_back closing k (x ∷ xs) h =
      right (moved (sym (append_assoc (tokens x) (others (map tokens xs)) (closing ∷ [])))
      (bind h.0 (λ y e. bind (commas_back xs h.1) (λ ys es. bind (the_mark closing k) (λ _ _. gives (y ∷ ys) (cons_like bare x y xs ys e es))))))

pub commas_tell : {A : Type 0} (item : Phrase A) {Fact : A → Type 0} → Tells item.derives Fact → Tells (behind_commas item).derives (AllByRecursion Fact)
commas_tell item P = each (skip_mark (codes ",") >> item) (over (λ _. P))

pub listed_tell : {A : Type 0} (closing : List ℕ) (item : Phrase A) {Fact : A → Type 0} → Tells item.derives Fact → Tells (listed closing item).derives (AllByRecursion Fact)
listed_tell closing item P = or (over (λ _. made [] tt)) (step P (λ x h. step (commas_tell item P) (λ xs hs. over (λ _. made (x ∷ xs) (h, hs)))))
