-- Classes that are apart have no token in common.
use Rattle.std.proofs.Common.{◌≡◌, ℕ, Bool, true, false, not, ◌||◌, ◌&&◌, eqb, List, [], ◌∷◌, ◌++◌, refl, sym, ap, ◌∙◌}
use Rattle.std.proofs.lemmas.Bool.{eqb-true}
use Rattle.phrases.specs.Piece.{Piece, Class, Texts, the, such, every, same_text, has_text, matches, among, starts, texts_apart, apart, apart_from, all_apart}

pub and_left : (a b : Bool) → (a && b) ≡ true → a ≡ true
and_left true b e = refl
and_left false b e = e

pub and_right : (a b : Bool) → (a && b) ≡ true → b ≡ true
and_right true b e = e
and_right false b e = absurd cc

pub same_text-is : (s t : List ℕ) → same_text s t ≡ true → s ≡ t
same_text-is [] [] e = refl
same_text-is [] (y ∷ ys) e = absurd cc
same_text-is (x ∷ xs) [] e = absurd cc
same_text-is (x ∷ xs) (y ∷ ys) e =
    let h = eqb-true x y (and_left (eqb x y) (same_text xs ys) e) in
    let t = same_text-is xs ys (and_right (eqb x y) (same_text xs ys) e) in
    cc

not_true : (b : Bool) → not b ≡ true → b ≡ false
not_true true e = absurd cc
not_true false e = refl

-- what has a text lacks the one that it hasn't
lacks : (f : List ℕ → Bool) (u t : List ℕ) → not (f u) ≡ true → f t ≡ true → same_text t u ≡ false
lacks f u t e h = go (same_text t u) refl
  where
    go : (b : Bool) → same_text t u ≡ b → b ≡ false
    go false q = refl
    go true q = let p = same_text-is t u q in let n : f u ≡ true = rw (← p) h in absurd (let m = not_true (f u) e in cc)

texts_apart-sound : (c d : Texts) (t : List ℕ) → texts_apart c d ≡ true → has_text c t ≡ true → has_text d t ≡ false
texts_apart-sound (the s) d t e h = let p = same_text-is t s h in rw p (not_true (has_text d s) e)
texts_apart-sound (such f) (the u) t e h = lacks f u t e h
texts_apart-sound (such f) (such g) t e h = absurd cc
texts_apart-sound (such f) every t e h = absurd cc
texts_apart-sound every (the u) t e h = absurd cc
texts_apart-sound every (such g) t e h = absurd cc
texts_apart-sound every every t e h = absurd cc

-- a token's kind is not two
kinds_apart : (k m a b : ℕ) → eqb k a ≡ true → eqb a b ≡ false → eqb k b ≡ false
kinds_apart k m a b e f = let p = eqb-true k a e in rw p f

pub apart-sound : (c d : Class) (p : Piece) → apart c d ≡ true → matches c p ≡ true → matches d p ≡ false
apart-sound c d p e h = go (eqb c.kind d.kind) refl
  where
    kind_is : p.kind ≡ c.kind
    kind_is = eqb-true (p.kind) (c.kind) (and_left (eqb p.kind c.kind) (has_text c.texts p.text) h)

    text_is : has_text c.texts p.text ≡ true
    text_is = and_right (eqb p.kind c.kind) (has_text c.texts p.text) h

    either_false : (a b : Bool) → a ≡ false → (a && b) ≡ false
    either_false true b f = absurd cc
    either_false false b f = refl

    and_false : (a b : Bool) → b ≡ false → (a && b) ≡ false
    and_false true b f = f
    and_false false b f = refl

    go : (b : Bool) → eqb c.kind d.kind ≡ b → matches d p ≡ false
    go false q = either_false (eqb p.kind d.kind) (has_text d.texts p.text) (ap (λ n. eqb n d.kind) kind_is ∙ q)
    go true q = and_false (eqb p.kind d.kind) (has_text d.texts p.text) (texts_apart-sound c.texts d.texts p.text (ap (λ b. not b || texts_apart c.texts d.texts) (sym q) ∙ e) text_is)

apart_from-sound : (c : Class) (ds : List Class) (p : Piece) → apart_from c ds ≡ true → matches c p ≡ true → among ds p ≡ false
apart_from-sound c [] p e h = refl
apart_from-sound c (d ∷ ds) p e h =
    let a = apart-sound c d p (and_left (apart c d) (apart_from c ds) e) h in
    let b = apart_from-sound c ds p (and_right (apart c d) (apart_from c ds) e) h in
    ap (λ x. x || among ds p) a ∙ b

pub all_apart-sound : (cs ds : List Class) (p : Piece) → all_apart cs ds ≡ true → among cs p ≡ true → among ds p ≡ false
all_apart-sound [] ds p e h = absurd cc
all_apart-sound (c ∷ cs) ds p e h = go (all_apart-sound cs ds p (and_right (apart_from c ds) (all_apart cs ds) e)) (matches c p) refl
  where
    go : (among cs p ≡ true → among ds p ≡ false) → (b : Bool) → matches c p ≡ b → among ds p ≡ false
    go others true q = apart_from-sound c ds p (and_left (apart_from c ds) (all_apart cs ds) e) q
    go others false q = others (ap (λ x. x || among cs p) (sym q) ∙ h)

-- ---- lists of classes

pub among-append : (cs ds : List Class) (p : Piece) → among (cs ++ ds) p ≡ (among cs p || among ds p)
among-append [] ds p = refl
among-append (c ∷ cs) ds p = ap (λ x. matches c p || x) (among-append cs ds p) ∙ or_assoc (matches c p) (among cs p) (among ds p)
  where
    or_assoc : (a b c : Bool) → (a || (b || c)) ≡ ((a || b) || c)
    or_assoc true b c = refl
    or_assoc false b c = refl

or_false : (a b : Bool) → (a || b) ≡ false → (a ≡ false) × (b ≡ false)
or_false true b e = absurd cc
or_false false b e = (refl, e)

pub or_left : (a b : Bool) → a ≡ true → (a || b) ≡ true
or_left true b e = refl
or_left false b e = absurd cc

pub or_right : (a b : Bool) → b ≡ true → (a || b) ≡ true
or_right true b e = refl
or_right false b e = e

-- what none of both starts, neither starts
pub starts-append : (cs ds : List Class) (ts : List Piece) → starts (cs ++ ds) ts ≡ false → (starts cs ts ≡ false) × (starts ds ts ≡ false)
starts-append cs ds [] e = (refl, refl)
starts-append cs ds (p ∷ ps) e = or_false (among cs p) (among ds p) (sym (among-append cs ds p) ∙ e)

-- ---- one class at a time

pub starts_nil : (ts : List Piece) → starts [] ts ≡ false
starts_nil [] = refl
starts_nil (t ∷ ts) = refl

pub starts_cons : (c : Class) (cs : List Class) (ts : List Piece) → starts (c ∷ cs) ts ≡ (starts (c ∷ []) ts || starts cs ts)
starts_cons c cs [] = refl
starts_cons c cs (t ∷ ts) = go (matches c t) (among cs t)
  where
    go : (a b : Bool) → (a || b) ≡ ((a || false) || b)
    go true b = refl
    go false b = refl
