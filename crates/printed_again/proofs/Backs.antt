-- Phrases that read tokens of given texts, whatever their places: one lemma a combinator.
use Rattle.std.proofs.Common.{◌≡◌, ℕ, true, cond, List, [], ◌∷◌, ◌++◌, ◌⊎◌, Option, Some, None, inl, inr, refl, sym, ap, ◌∙◌, append-nil}
use Rattle.ir_lexer.specs.declared.token.TokenKind.{TokenKind}
use Rattle.ir_lexer.specs.declared.token.TokenKind.TheVariants as kinds
use Rattle.ir_lexer.specs.Forms.{kind_of}
use Rattle.phrases.specs.Piece.{Piece, Class, among}
use Rattle.phrases.specs.Phrase.{Phrase, one, skip, place, chain, from_derive, many, skip_many}
use Rattle.phrases.proofs.Combinators.{self}
use Rattle.ir_grammar.specs.Tokens.{number_of, word, mark}
use Rattle.ir_grammar.specs.Types.{skip_word, skip_mark, place_of}
use Rattle.printed_again.specs.Again.{IsTokenOf, Spell}

-- tokens of these texts are derived, as some value that is like what was printed
pub record Back {A : Type 0} (derives : A → List Piece → Type 0) (texts : List (List ℕ)) (Like : A → Type 0) : Type 0 where
  pub read : (ts : List Piece) → Spell ts texts → (a : A) × derives a ts × Like a

-- ---- texts in two parts

pub split : (xs ys : List (List ℕ)) (ts : List Piece) → Spell ts (xs ++ ys) → (front : List Piece) × (back : List Piece) × (ts ≡ front ++ back) × Spell front xs × Spell back ys
split [] ys ts s = ([], ts, refl, tt, s)
split (x ∷ xs) ys [] s = absurd s
split (x ∷ xs) ys (t ∷ ts) s = let r = split xs ys ts s.1 in (t ∷ r.0, r.1, ap (λ us. t ∷ us) r.2, (s.0, r.3), r.4)

-- ---- one after the other

pub bind : {A B : Type 0} {first : A → List Piece → Type 0} {next : A → B → List Piece → Type 0} {xs ys : List (List ℕ)} {Like : A → Type 0} {Good : B → Type 0}
    → Back first xs Like → ((a : A) → Like a → Back (next a) ys Good) → Back (chain first next) (xs ++ ys) Good
bind {xs = xs} {ys = ys} P Q = record {
  read = λ ts s.
      let r = split xs ys ts s in
      let a = P.read r.0 r.3 in
      let b = (Q a.0 a.2).read r.1 r.4 in
      (b.0, (a.0, r.0, r.1, r.2, a.1, b.1), b.2);
}

-- and nothing after it
pub ends : {A B : Type 0} {first : A → List Piece → Type 0} {next : A → B → List Piece → Type 0} {xs : List (List ℕ)} {Like : A → Type 0} {Good : B → Type 0}
    → Back first xs Like → ((a : A) → Like a → Back (next a) [] Good) → Back (chain first next) xs Good
ends P Q = record {
  read = λ ts s.
      let a = P.read ts s in
      let b = (Q a.0 a.2).read [] tt in
      (b.0, (a.0, ts, [], sym (append-nil ts), a.1, b.1), b.2);
}

abbrev pub is_done : {A : Type 0} → A → A → List Piece → Type 0
is_done a b w = (w ≡ []) × (a ≡ b)

pub gives : {A : Type 0} {Good : A → Type 0} (a : A) → Good a → Back (is_done a) [] Good
gives {A = A} {Good = Good} a g = record { read = λ ts s. go ts s }
  where
    go : (ts : List Piece) → Spell ts [] → (b : A) × is_done a b ts × Good b
    go [] s = (a, (refl, refl), g)
    go (t ∷ ts) s = absurd s

-- ---- a value that is like it in another way

pub alike : {A : Type 0} {derives : A → List Piece → Type 0} {xs : List (List ℕ)} {Like Good : A → Type 0} → ((a : A) → Like a → Good a) → Back derives xs Like → Back derives xs Good
alike f P = record { read = λ ts s. let a = P.read ts s in (a.0, a.1, f a.0 a.2) }

pub left : {A : Type 0} {d e : A → List Piece → Type 0} {xs : List (List ℕ)} {Like : A → Type 0} → Back d xs Like → Back (λ a w. d a w ⊎ e a w) xs Like
left P = record { read = λ ts s. let a = P.read ts s in (a.0, inl a.1, a.2) }

pub right : {A : Type 0} {d e : A → List Piece → Type 0} {xs : List (List ℕ)} {Like : A → Type 0} → Back e xs Like → Back (λ a w. d a w ⊎ e a w) xs Like
right Q = record { read = λ ts s. let a = Q.read ts s in (a.0, inr a.1, a.2) }

-- ---- single tokens

abbrev pub token : TokenKind → List ℕ → ℕ → Piece
token k s at = record { kind = number_of k; text = s; at = at }

some_is : {A : Type 0} {a b : A} → Some a ≡ Some b → a ≡ b
some_is e = cc

token_is : (s : List ℕ) (k : TokenKind) (p : Piece) → kind_of s ≡ Some k → IsTokenOf s p → p ≡ token k s p.at
token_is s k p e t =
    let same : t.1 ≡ k = some_is (sym t.2 ∙ e) in
    ap (λ x. record { kind = x; text = p.text; at = p.at }) (t.3 ∙ ap number_of same) ∙ ap (λ x. record { kind = number_of k; text = x; at = p.at }) t.0

pub single : {A : Type 0} {Like : A → Type 0} (value : Piece → Option A) (s : List ℕ) (k : TokenKind) → kind_of s ≡ Some k → ((at : ℕ) → (a : A) × (value (token k s at) ≡ Some a) × Like a) → Back (one value).derives (s ∷ []) Like
single {A = A} {Like = Like} value s k e f = record { read = λ ts h. go ts h }
  where
    go : (ts : List Piece) → Spell ts (s ∷ []) → (a : A) × (one value).derives a ts × Like a
    go [] h = absurd h
    go (t ∷ u ∷ us) h = absurd h.1
    go (t ∷ []) h = let r = f t.at in (r.0, (t, refl, ap value (token_is s k t e h.0) ∙ r.1), r.2)

abbrev pub Any : {A : Type 0} → A → Type 0
Any a = Unit {0}

-- a token of one of the classes
pub skips : (cs : List Class) (s : List ℕ) (k : TokenKind) → kind_of s ≡ Some k → ((at : ℕ) → among cs (token k s at) ≡ true) → Back (skip cs).derives (s ∷ []) Any
skips cs s k e h = single (λ p. cond (among cs p) (Some tt) None) s k e (λ at. (tt, ap (λ b. cond b (Some tt) None) (h at), tt))

pub the_word : (s : List ℕ) → kind_of s ≡ Some kinds.Word → Back (skip_word s).derives (s ∷ []) Any
the_word s e = skips (word s ∷ []) s kinds.Word e (λ at. self s)

pub the_mark : (s : List ℕ) → kind_of s ≡ Some kinds.Punct → Back (skip_mark s).derives (s ∷ []) Any
the_mark s e = skips (mark s ∷ []) s kinds.Punct e (λ at. self s)

pub places : (cs : List Class) (s : List ℕ) (k : TokenKind) → kind_of s ≡ Some k → ((at : ℕ) → among cs (token k s at) ≡ true) → Back (place cs).derives (s ∷ []) Any
places cs s k e h = single (λ p. cond (among cs p) (Some p.at) None) s k e (λ at. (at, ap (λ b. cond b (Some at) None) (h at), tt))

pub the_place : (s : List ℕ) → kind_of s ≡ Some kinds.Word → Back (place_of s).derives (s ∷ []) Any
the_place s e = places (word s ∷ []) s kinds.Word e (λ at. self s)

-- ---- any number

pub none_from : {S A : Type 0} (item : S → Phrase A) (next : S → A → S) (u : S) → Back (from_derive item next u) [] (λ xs. xs ≡ [])
none_from {A = A} item next u = record { read = λ ts s. go ts s }
  where
    go : (ts : List Piece) → Spell ts [] → (xs : List A) × from_derive item next u xs ts × (xs ≡ [])
    go [] s = ([], refl, refl)
    go (t ∷ ts) s = absurd s

pub more_from : {S A : Type 0} (item : S → Phrase A) (next : S → A → S) (u : S) {xs ys : List (List ℕ)} {Like : A → Type 0} {Good All : List A → Type 0}
    → Back (item u).derives xs Like → ((a : A) → Like a → Back (from_derive item next (next u a)) ys Good) → ((a : A) (vs : List A) → Like a → Good vs → All (a ∷ vs)) → Back (from_derive item next u) (xs ++ ys) All
more_from item next u {xs} {ys} P Q f = record {
  read = λ ts s.
      let r = split xs ys ts s in
      let a = P.read r.0 r.3 in
      let b = (Q a.0 a.2).read r.1 r.4 in
      (a.0 ∷ b.0, (r.0, r.1, r.2, a.1, b.1), f a.0 b.0 a.2 b.2);
}

-- any number of the same
abbrev pub all_of : {A : Type 0} → Phrase A → List A → List Piece → Type 0
all_of p = (many [] p).derives

pub none : {A : Type 0} (p : Phrase A) → Back (all_of p) [] (λ xs. xs ≡ [])
none p = none_from (λ (_ : Unit {0}). p) (λ _ _. tt) tt

pub more : {A : Type 0} (p : Phrase A) {xs ys : List (List ℕ)} {Like : A → Type 0} {Good All : List A → Type 0}
    → Back p.derives xs Like → Back (all_of p) ys Good → ((a : A) (vs : List A) → Like a → Good vs → All (a ∷ vs)) → Back (all_of p) (xs ++ ys) All
more p P Q f = more_from (λ (_ : Unit {0}). p) (λ _ _. tt) tt P (λ a h. Q) f

-- what is ignored is printed as nothing
pub nothing : {A : Type 0} (p : Phrase A) → Back (skip_many [] p).derives [] Any
nothing p = bind (none p) (λ xs e. gives tt tt)
