-- The laws of single tokens and of one phrase after the other.
use Rattle.std.proofs.Common.{◌≡◌, Bool, true, false, ◌||◌, ◌&&◌, List, [], ◌∷◌, ◌++◌, Option, Some, None, inl, inr, refl, sym, ap, subst, ◌∙◌, append_assoc}
use Rattle.phrases.specs.Piece.{Piece, Class, among, starts, all_apart}
use Rattle.phrases.specs.Phrase.{Outcome, got, refused, Phrase, and_then, taken, one_reads, one, done, ◌>>=◌}
use Rattle.phrases.specs.Exact.{SameHead, Reads, Named, Stops, Exact}
use Rattle.phrases.proofs.Classes.{all_apart-sound, among-append, starts-append, or_left, or_right}

-- ---- on heads

pub same_head : (front xs ys : List Piece) → SameHead xs ys → SameHead (front ++ xs) (front ++ ys)
same_head [] xs ys h = h
same_head (f ∷ front) xs ys h = refl

pub same_starts : (cs : List Class) (xs ys : List Piece) → SameHead xs ys → starts cs xs ≡ starts cs ys
same_starts cs [] [] h = refl
same_starts cs [] (y ∷ ys) h = absurd h
same_starts cs (x ∷ xs) [] h = absurd h
same_starts cs (x ∷ xs) (y ∷ ys) h = ap (among cs) h

pub itself : (xs : List Piece) → SameHead xs xs
itself [] = tt
itself (x ∷ xs) = refl

-- ---- on outcomes

abbrev OutcomeIs : {A : Type 0} → Outcome A → Outcome A → Type 0
OutcomeIs (got a r) (got b s) = (a ≡ b) × (r ≡ s)
OutcomeIs (got a r) (refused m s) = ⊥
OutcomeIs (refused n r) (got b s) = ⊥
OutcomeIs (refused n r) (refused m s) = (n ≡ m) × (r ≡ s)

outcome_self : {A : Type 0} (o : Outcome A) → OutcomeIs o o
outcome_self (got a r) = (refl, refl)
outcome_self (refused n r) = (refl, refl)

outcome_is : {A : Type 0} (o u : Outcome A) → o ≡ u → OutcomeIs o u
outcome_is o u e = subst (λ v. OutcomeIs o v) e (outcome_self o)

pub got_is : {A : Type 0} (a b : A) (r s : List Piece) → got a r ≡ got b s → (a ≡ b) × (r ≡ s)
got_is a b r s e = outcome_is (got a r) (got b s) e

pub refused_is : (A : Type 0) (n m : Bool) (r s : List Piece) → (let o : Outcome A = refused n r in let u : Outcome A = refused m s in o ≡ u) → (n ≡ m) × (r ≡ s)
refused_is A n m r s e = outcome_is (refused n r) (refused m s) e

pub never : {A : Type 0} (a : A) (r : List Piece) (m : Bool) (s : List Piece) → got a r ≡ refused m s → ⊥
never a r m s e = outcome_is (got a r) (refused m s) e

pub never_got : {A : Type 0} (a : A) (r : List Piece) (m : Bool) (s : List Piece) → refused m s ≡ got a r → ⊥
never_got a r m s e = outcome_is (refused m s) (got a r) e

-- ---- on lists

abbrev IsNil : List Piece → Type 0
IsNil [] = Unit {0}
IsNil (p ∷ ps) = ⊥

pub nil_cons : (t : Piece) (w : List Piece) → [] ≡ t ∷ w → ⊥
nil_cons t w e = subst (λ xs. IsNil xs) e tt

pub cons_head : (t u : Piece) (v w : List Piece) → t ∷ v ≡ u ∷ w → t ≡ u
cons_head t u v w e = cc

pub cons_tail : (t u : Piece) (v w : List Piece) → t ∷ v ≡ u ∷ w → v ≡ w
cons_tail t u v w e = cc

pub cannot : {P : Type 0} → false ≡ true → P
cannot e = absurd cc

-- ---- done

pub done_exact : {A : Type 0} (a : A) → Exact (done a) [] true [] []
done_exact a = record {
  reading = λ ts b rest e. let h = got_is a b ts rest e in record { front = []; parts = h.1; derived = (refl, h.0); stays = λ other s. ap (λ x. got x other) h.0 };
  stopping = λ ts n rest e. absurd (never a ts n rest e);
  whole = λ b w rest d s. ap (λ x. got a (x ++ rest)) d.0 ∙ ap (λ x. got x rest) d.1;
  begins = λ b t w d. absurd (nil_cons t w (sym d.0));
  empties = λ b d. refl;
  some = ([], a, (refl, refl));
  naming = λ before t after m. absurd m;
  name_begins = λ u before t m. absurd m;
  name_first = λ t m. absurd m;
}

-- ---- one token

module _ {A : Type 0} (value : Piece → Option A) where
  one_reading : (ts : List Piece) (a : A) (rest : List Piece) → one_reads value ts ≡ got a rest → Reads (one value) ts a rest
  one_reading [] a rest e = absurd (never_got a rest false [] e)
  one_reading (p ∷ ps) a rest e = go (value p) refl e
    where
      go : (o : Option A) → value p ≡ o → taken o p ps ≡ got a rest → Reads (one value) (p ∷ ps) a rest
      go (Some b) q e = let h = got_is b a ps rest e in record { front = p ∷ []; parts = ap (λ x. p ∷ x) h.1; derived = (p, refl, q ∙ ap Some h.0); stays = λ other s. ap (λ o. taken o p other) q ∙ ap (λ x. got x other) h.0 }
      go None q e = absurd (never_got a rest false (p ∷ ps) e)

  one_stays : (xs other : List Piece) → one_reads value xs ≡ refused false xs → SameHead xs other → one_reads value other ≡ refused false other
  one_stays [] [] e s = refl
  one_stays [] (q ∷ qs) e s = absurd s
  one_stays (p ∷ ps) [] e s = absurd s
  one_stays (p ∷ ps) (q ∷ qs) e s = go (value p) refl e
    where
      go : (o : Option A) → value p ≡ o → taken o p ps ≡ refused false (p ∷ ps) → taken (value q) q qs ≡ refused false (q ∷ qs)
      go (Some b) v e = absurd (never b ps false (p ∷ ps) e)
      go None v e = ap (λ o. taken o q qs) (ap value (sym s) ∙ v)

  one_refused : (ts : List Piece) (n : Bool) (rest : List Piece) → one_reads value ts ≡ refused n rest → (false ≡ n) × (ts ≡ rest)
  one_refused [] n rest e = refused_is A false n [] rest e
  one_refused (p ∷ ps) n rest e = go (value p) e
    where
      go : (o : Option A) → taken o p ps ≡ refused n rest → (false ≡ n) × (p ∷ ps ≡ rest)
      go (Some b) e = absurd (never b ps n rest e)
      go None e = refused_is A false n (p ∷ ps) rest e

pub one_exact : {A : Type 0} (value : Piece → Option A) (first : List Class) → ((p : Piece) (a : A) → value p ≡ Some a → among first p ≡ true)
    → (p : Piece) (a : A) → value p ≡ Some a → Exact (one value) first false [] []
one_exact {A = A} value first within sample sample_value is_one = record {
  reading = λ ts a rest e. one_reading value ts a rest e;
  stopping = λ ts n rest e. stopped ts n rest (one_refused value ts n rest e) e;
  whole = λ a w rest d s. ap (λ x. one_reads value (x ++ rest)) d.1 ∙ ap (λ o. taken o d.0 rest) d.2;
  begins = λ a t w d. ap (among first) (cons_head t d.0 w [] d.1) ∙ within d.0 a d.2;
  empties = λ a d. absurd (nil_cons d.0 [] d.1);
  some = (sample ∷ [], sample_value, (sample, refl, is_one));
  naming = λ before t after m. absurd m;
  name_begins = λ u before t m. absurd m;
  name_first = λ t m. absurd m;
}
  where
    unnamed : (n : Bool) (rest : List Piece) → false ≡ n → Named (λ before t. ⊥) [] rest n
    unnamed n rest e = subst (λ m. Named (λ before t. ⊥) [] rest m) e tt

    stopped : (ts : List Piece) (n : Bool) (rest : List Piece) → (false ≡ n) × (ts ≡ rest) → one_reads value ts ≡ refused n rest → Stops (one value) ts n rest
    stopped ts n rest h e = record {
      front = [];
      parts = h.1;
      viable = (sample ∷ [], sample_value, (sample, refl, is_one));
      names = unnamed n rest h.0;
      stays = λ other s. one_stays value rest other (ap (one_reads value) (sym h.1) ∙ e ∙ ap (λ m. refused m rest) (sym h.0)) s ∙ ap (λ m. refused m other) h.0;
    }

-- ---- one after the other

module _ {A B : Type 0} (p : Phrase A) (f : A → Phrase B) where
  then_reading : (first : List Class) (empty : Bool) (more bad second : List Class) (ends : Bool) (on worse : List Class) → Exact p first empty more bad → ((a : A) → Exact (f a) second ends on worse)
      → (ts : List Piece) (b : B) (rest : List Piece) → (p >>= f).reads ts ≡ got b rest → Reads (p >>= f) ts b rest
  then_reading first empty more bad second ends on worse P Q ts b rest e = go (p.reads ts) refl e
    where
      go : (o : Outcome A) → p.reads ts ≡ o → and_then o (λ a rest. (f a).reads rest) ≡ got b rest → Reads (p >>= f) ts b rest
      go (got a mid) q e =
          let r = P.reading ts a mid q in
          let s = (Q a).reading mid b rest e in
          record {
            front = r.front ++ s.front;
            parts = r.parts ∙ ap (λ x. r.front ++ x) s.parts ∙ sym (append_assoc r.front s.front rest);
            derived = (a, r.front, s.front, refl, r.derived, s.derived);
            stays = λ other h. ap (λ x. and_then (p.reads x) (λ a rest. (f a).reads rest)) (append_assoc r.front s.front other)
                ∙ ap (λ o. and_then o (λ a rest. (f a).reads rest)) (r.stays (s.front ++ other) (subst (λ m. SameHead m (s.front ++ other)) (sym s.parts) (same_head s.front rest other h)))
                ∙ s.stays other h;
          }
      go (refused n r) q e = absurd (never_got b rest n r e)

  first_names : (front rest : List Piece) (n : Bool) → Named p.names front rest n → Named (p >>= f).names front rest n
  first_names front rest false m = tt
  first_names front [] true m = absurd m
  first_names front (t ∷ rest) true m = inl m

  second_names : (a : A) (front back rest : List Piece) (n : Bool) → p.derives a front → Named (f a).names back rest n → Named (p >>= f).names (front ++ back) rest n
  second_names a front back rest false d m = tt
  second_names a front back [] true d m = absurd m
  second_names a front back (t ∷ rest) true d m = inr (a, front, back, refl, d, m)

  then_stopping : (first : List Class) (empty : Bool) (more bad second : List Class) (ends : Bool) (on worse : List Class) → Exact p first empty more bad → ((a : A) → Exact (f a) second ends on worse)
      → (ts : List Piece) (n : Bool) (rest : List Piece) → (p >>= f).reads ts ≡ refused n rest → Stops (p >>= f) ts n rest
  then_stopping first empty more bad second ends on worse P Q ts n rest e = go (p.reads ts) refl e
    where
      go : (o : Outcome A) → p.reads ts ≡ o → and_then o (λ a rest. (f a).reads rest) ≡ refused n rest → Stops (p >>= f) ts n rest
      go (got a mid) q e =
          let r = P.reading ts a mid q in
          let s = (Q a).stopping mid n rest e in
          record {
            front = r.front ++ s.front;
            parts = r.parts ∙ ap (λ x. r.front ++ x) s.parts ∙ sym (append_assoc r.front s.front rest);
            viable = (s.viable.0, s.viable.1, (a, r.front, s.front ++ s.viable.0, append_assoc r.front s.front s.viable.0, r.derived, s.viable.2));
            names = second_names a r.front s.front rest n r.derived s.names;
            stays = λ other h. ap (λ x. and_then (p.reads x) (λ a rest. (f a).reads rest)) (append_assoc r.front s.front other)
                ∙ ap (λ o. and_then o (λ a rest. (f a).reads rest)) (r.stays (s.front ++ other) (subst (λ m. SameHead m (s.front ++ other)) (sym s.parts) (same_head s.front rest other h)))
                ∙ s.stays other h;
          }
      go (refused m r) q e =
          let s = P.stopping ts m r q in
          let same = refused_is B m n r rest e in
          let v = s.viable in
          let w = (Q v.1).some in
          let here : Stops (p >>= f) ts m r = record {
            front = s.front;
            parts = s.parts;
            viable = (v.0 ++ w.0, w.1, (v.1, s.front ++ v.0, w.0, sym (append_assoc s.front v.0 w.0), v.2, w.2));
            names = first_names s.front r m s.names;
            stays = λ other h. ap (λ o. and_then o (λ a rest. (f a).reads rest)) (s.stays other h);
          } in
          subst (λ k. Stops (p >>= f) ts k rest) same.0 (subst (λ l. Stops (p >>= f) ts m l) same.1 here)

-- what the second may begin with doesn't go on with the first
pub follows : (more second : List Class) (t : Piece) → all_apart more second ≡ true → among second t ≡ true → among more t ≡ false
follows more second t e h = go (among more t) refl
  where
    go : (b : Bool) → among more t ≡ b → b ≡ false
    go false q = refl
    go true q = absurd (let h' = all_apart-sound more second t e q in cc)

abbrev pub when : Bool → List Class → List Class
when true cs = cs
when false cs = []

pub then_exact : {A B : Type 0} (p : Phrase A) (f : A → Phrase B) (first : List Class) (empty : Bool) (more bad second : List Class) (ends : Bool) (on worse : List Class)
    → Exact p first empty more bad → ((a : A) → Exact (f a) second ends on worse) → all_apart more second ≡ true → all_apart more worse ≡ true
    → Exact (p >>= f) (first ++ when empty second) (empty && ends) (on ++ when ends more) (bad ++ when empty worse)
then_exact {A = A} {B = B} p f first empty more bad second ends on worse P Q parted named = record {
  reading = then_reading p f first empty more bad second ends on worse P Q;
  stopping = then_stopping p f first empty more bad second ends on worse P Q;
  whole = λ b w rest d s.
      let apart = starts-append on (when ends more) rest s in
      ap (λ x. and_then (p.reads x) (λ a rest. (f a).reads rest)) (ap (λ x. x ++ rest) d.3 ∙ append_assoc d.1 d.2 rest)
      ∙ ap (λ o. and_then o (λ a rest. (f a).reads rest)) (P.whole d.0 d.1 (d.2 ++ rest) d.4 (free d.0 b d.2 rest d.5 apart.1))
      ∙ (Q d.0).whole b d.2 rest d.5 apart.0;
  begins = λ b t w d. among-append first (when empty second) t ∙ starting d.0 t w d.1 d.2 d.3 d.4 (λ u x e. (Q d.0).begins b u x (subst (λ y. (f d.0).derives b y) e d.5));
  empties = λ b d. ending d.0 b d.1 d.2 d.3 d.4 d.5;
  some = let v = P.some in let w = (Q v.1).some in (v.0 ++ w.0, w.1, (v.1, v.0, w.0, refl, v.2, w.2));
  naming = naming;
  name_begins = name_begins;
  name_first = name_first;
}
  where
    free : (a : A) (b : B) (back rest : List Piece) → (f a).derives b back → starts (when ends more) rest ≡ false → starts more (back ++ rest) ≡ false
    free a b [] rest d s = ap (λ x. starts (when x more) rest) (sym ((Q a).empties b d)) ∙ s
    free a b (t ∷ back) rest d s = follows more second t parted ((Q a).begins b t back d)

    starting : (a : A) (t : Piece) (w front back : List Piece) → t ∷ w ≡ front ++ back → p.derives a front → ((u : Piece) (x : List Piece) → back ≡ u ∷ x → among second u ≡ true) → (among first t || among (when empty second) t) ≡ true
    starting a t w [] back e d g = or_right (among first t) (among (when empty second) t) (ap (λ x. among (when x second) t) (P.empties a d) ∙ g t w (sym e))
    starting a t w (x ∷ front) back e d g = or_left (among first t) (among (when empty second) t) (ap (among first) (cons_head t x w (front ++ back) e) ∙ P.begins a x front d)

    ending : (a : A) (b : B) (front back : List Piece) → [] ≡ front ++ back → p.derives a front → (f a).derives b back → (empty && ends) ≡ true
    ending a b [] back e d g = ap (λ x. x && ends) (P.empties a d) ∙ (Q a).empties b (subst (λ x. (f a).derives b x) (sym e) g)
    ending a b (x ∷ front) back e d g = absurd (nil_cons x (front ++ back) e)

    free_name : (a : A) (back : List Piece) (t : Piece) (after : List Piece) → (f a).names back t → starts more (back ++ t ∷ after) ≡ false
    free_name a [] t after m = follows more worse t named ((Q a).name_first t m)
    free_name a (u ∷ back) t after m = follows more second u parted ((Q a).name_begins u back t m)

    naming : (before : List Piece) (t : Piece) (after : List Piece) → (p >>= f).names before t → and_then (p.reads (before ++ t ∷ after)) (λ a rest. (f a).reads rest) ≡ refused true (t ∷ after)
    naming before t after (inl m) = ap (λ o. and_then o (λ a rest. (f a).reads rest)) (P.naming before t after m)
    naming before t after (inr d) =
        ap (λ x. and_then (p.reads x) (λ a rest. (f a).reads rest)) (ap (λ x. x ++ t ∷ after) d.3 ∙ append_assoc d.1 d.2 (t ∷ after))
        ∙ ap (λ o. and_then o (λ a rest. (f a).reads rest)) (P.whole d.0 d.1 (d.2 ++ t ∷ after) d.4 (free_name d.0 d.2 t after d.5))
        ∙ (Q d.0).naming d.2 t after d.5

    name_begins : (u : Piece) (before : List Piece) (t : Piece) → (p >>= f).names (u ∷ before) t → among (first ++ when empty second) u ≡ true
    name_begins u before t (inl m) = among-append first (when empty second) u ∙ or_left (among first u) (among (when empty second) u) (P.name_begins u before t m)
    name_begins u before t (inr d) = among-append first (when empty second) u ∙ starting d.0 u before d.1 d.2 d.3 d.4 (λ v x e. (Q d.0).name_begins v x t (subst (λ y. (f d.0).names y t) e d.5))

    first_name : (a : A) (t : Piece) (front back : List Piece) → [] ≡ front ++ back → p.derives a front → (f a).names back t → among (when empty worse) t ≡ true
    first_name a t [] back e d g = ap (λ x. among (when x worse) t) (P.empties a d) ∙ (Q a).name_first t (subst (λ y. (f a).names y t) (sym e) g)
    first_name a t (x ∷ front) back e d g = absurd (nil_cons x (front ++ back) e)

    name_first : (t : Piece) → (p >>= f).names [] t → among (bad ++ when empty worse) t ≡ true
    name_first t (inl m) = among-append bad (when empty worse) t ∙ or_left (among bad t) (among (when empty worse) t) (P.name_first t m)
    name_first t (inr d) = among-append bad (when empty worse) t ∙ or_right (among bad t) (among (when empty worse) t) (first_name d.0 t d.1 d.2 d.3 d.4 d.5)
