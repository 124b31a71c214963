-- Choices and named tokens are exact where their parts are.
use Rattle.std.proofs.Common.{◌≡◌, Bool, true, false, cond, List, [], ◌∷◌, ◌++◌, ◌⊎◌, inl, inr, refl, sym, ap, subst, ◌∙◌}
use Rattle.phrases.specs.Piece.{Piece, Class, among, starts, all_apart}
use Rattle.phrases.specs.Phrase.{Outcome, got, refused, Phrase, either, but}
use Rattle.phrases.specs.Exact.{SameHead, Reads, Stops, Named, Exact}
use Rattle.phrases.proofs.Classes.{among-append, starts-append, or_left, or_right}
use Rattle.phrases.proofs.Laws.{same_head, same_starts, refused_is, never_got, nil_cons, cannot, follows, when}

-- ---- either

-- the tokens after the front leave the choice as it was
same_choice : (first : List Class) (ts front rest other : List Piece) (b : Bool) → ts ≡ front ++ rest → SameHead rest other → starts first ts ≡ b → starts first (front ++ other) ≡ b
same_choice first ts front rest other b parts h e = sym (same_starts first (front ++ rest) (front ++ other) (same_head front rest other h)) ∙ ap (starts first) (sym parts) ∙ e

module _ {A : Type 0} (first : List Class) (p q : Phrase A) where
  left_names : (front rest : List Piece) (n : Bool) → Named p.names front rest n → Named (either first p q).names front rest n
  left_names front rest false m = tt
  left_names front [] true m = absurd m
  left_names front (t ∷ rest) true m = inl m

  right_names : (front rest : List Piece) (n : Bool) → Named q.names front rest n → Named (either first p q).names front rest n
  right_names front rest false m = tt
  right_names front [] true m = absurd m
  right_names front (t ∷ rest) true m = inr m

  either_reading : (second : List Class) (empty : Bool) (more on bad worse : List Class) → Exact p first false more bad → Exact q second empty on worse
      → (ts : List Piece) (a : A) (rest : List Piece) → (either first p q).reads ts ≡ got a rest → Reads (either first p q) ts a rest
  either_reading second empty more on bad worse P Q ts a rest e = go (starts first ts) refl e
    where
      go : (b : Bool) → starts first ts ≡ b → cond b (p.reads ts) (q.reads ts) ≡ got a rest → Reads (either first p q) ts a rest
      go true c e =
          let r = P.reading ts a rest e in
          record { front = r.front; parts = r.parts; derived = inl r.derived; stays = λ other h. ap (λ b. cond b (p.reads (r.front ++ other)) (q.reads (r.front ++ other))) (same_choice first ts r.front rest other true r.parts h c) ∙ r.stays other h }
      go false c e =
          let r = Q.reading ts a rest e in
          record { front = r.front; parts = r.parts; derived = inr r.derived; stays = λ other h. ap (λ b. cond b (p.reads (r.front ++ other)) (q.reads (r.front ++ other))) (same_choice first ts r.front rest other false r.parts h c) ∙ r.stays other h }

  either_stopping : (second : List Class) (empty : Bool) (more on bad worse : List Class) → Exact p first false more bad → Exact q second empty on worse
      → (ts : List Piece) (n : Bool) (rest : List Piece) → (either first p q).reads ts ≡ refused n rest → Stops (either first p q) ts n rest
  either_stopping second empty more on bad worse P Q ts n rest e = go (starts first ts) refl e
    where
      go : (b : Bool) → starts first ts ≡ b → cond b (p.reads ts) (q.reads ts) ≡ refused n rest → Stops (either first p q) ts n rest
      go true c e =
          let r = P.stopping ts n rest e in
          record { front = r.front; parts = r.parts; viable = (r.viable.0, r.viable.1, inl r.viable.2); names = left_names r.front rest n r.names; stays = λ other h. ap (λ b. cond b (p.reads (r.front ++ other)) (q.reads (r.front ++ other))) (same_choice first ts r.front rest other true r.parts h c) ∙ r.stays other h }
      go false c e =
          let r = Q.stopping ts n rest e in
          record { front = r.front; parts = r.parts; viable = (r.viable.0, r.viable.1, inr r.viable.2); names = right_names r.front rest n r.names; stays = λ other h. ap (λ b. cond b (p.reads (r.front ++ other)) (q.reads (r.front ++ other))) (same_choice first ts r.front rest other false r.parts h c) ∙ r.stays other h }

-- the first names nothing where it begins, for there the second is read
pub either_exact : {A : Type 0} (first : List Class) (p q : Phrase A) (second : List Class) (empty : Bool) (more on worse : List Class) → Exact p first false more [] → Exact q second empty on worse
    → all_apart first second ≡ true → all_apart first worse ≡ true → Exact (either first p q) (first ++ second) empty (more ++ (on ++ when empty first)) worse
either_exact {A = A} first p q second empty more on worse P Q parted named = record {
  reading = either_reading first p q second empty more on [] worse P Q;
  stopping = either_stopping first p q second empty more on [] worse P Q;
  whole = whole;
  begins = begins;
  empties = empties;
  some = let v = P.some in (v.0, v.1, inl v.2);
  naming = naming;
  name_begins = name_begins;
  name_first = name_first;
}
  where
    ended : (rest : List Piece) → starts (more ++ (on ++ when empty first)) rest ≡ false → (starts more rest ≡ false) × (starts on rest ≡ false) × (starts (when empty first) rest ≡ false)
    ended rest s = let a = starts-append more (on ++ when empty first) rest s in let b = starts-append on (when empty first) rest a.1 in (a.0, b.0, b.1)

    at : List Piece → Bool → Outcome A
    at ts b = cond b (p.reads ts) (q.reads ts)

    left : (a : A) (w rest : List Piece) → p.derives a w → starts more rest ≡ false → cond (starts first (w ++ rest)) (p.reads (w ++ rest)) (q.reads (w ++ rest)) ≡ got a rest
    left a [] rest d s = cannot (P.empties a d)
    left a (t ∷ w) rest d s = ap (λ b. cond b (p.reads (t ∷ (w ++ rest))) (q.reads (t ∷ (w ++ rest)))) (P.begins a t w d) ∙ P.whole a (t ∷ w) rest d s

    right : (a : A) (w rest : List Piece) → q.derives a w → starts on rest ≡ false → starts (when empty first) rest ≡ false → cond (starts first (w ++ rest)) (p.reads (w ++ rest)) (q.reads (w ++ rest)) ≡ got a rest
    right a [] rest d s n = ap (λ b. cond b (p.reads rest) (q.reads rest)) (ap (λ x. starts (when x first) rest) (sym (Q.empties a d)) ∙ n) ∙ Q.whole a [] rest d s
    right a (t ∷ w) rest d s n = ap (λ b. cond b (p.reads (t ∷ (w ++ rest))) (q.reads (t ∷ (w ++ rest)))) (follows first second t parted (Q.begins a t w d)) ∙ Q.whole a (t ∷ w) rest d s

    whole : (a : A) (w rest : List Piece) → (p.derives a w ⊎ q.derives a w) → starts (more ++ (on ++ when empty first)) rest ≡ false → cond (starts first (w ++ rest)) (p.reads (w ++ rest)) (q.reads (w ++ rest)) ≡ got a rest
    whole a w rest (inl d) s = left a w rest d (ended rest s).0
    whole a w rest (inr d) s = right a w rest d (ended rest s).1 (ended rest s).2

    begins : (a : A) (t : Piece) (w : List Piece) → (p.derives a (t ∷ w) ⊎ q.derives a (t ∷ w)) → among (first ++ second) t ≡ true
    begins a t w (inl d) = among-append first second t ∙ or_left (among first t) (among second t) (P.begins a t w d)
    begins a t w (inr d) = among-append first second t ∙ or_right (among first t) (among second t) (Q.begins a t w d)

    empties : (a : A) → (p.derives a [] ⊎ q.derives a []) → empty ≡ true
    empties a (inl d) = cannot (P.empties a d)
    empties a (inr d) = Q.empties a d

    left_naming : (before : List Piece) (t : Piece) (after : List Piece) → p.names before t → cond (starts first (before ++ t ∷ after)) (p.reads (before ++ t ∷ after)) (q.reads (before ++ t ∷ after)) ≡ refused true (t ∷ after)
    left_naming [] t after m = cannot (P.name_first t m)
    left_naming (u ∷ before) t after m = ap (λ b. cond b (p.reads (u ∷ (before ++ t ∷ after))) (q.reads (u ∷ (before ++ t ∷ after)))) (P.name_begins u before t m) ∙ P.naming (u ∷ before) t after m

    right_naming : (before : List Piece) (t : Piece) (after : List Piece) → q.names before t → cond (starts first (before ++ t ∷ after)) (p.reads (before ++ t ∷ after)) (q.reads (before ++ t ∷ after)) ≡ refused true (t ∷ after)
    right_naming [] t after m = ap (λ b. cond b (p.reads (t ∷ after)) (q.reads (t ∷ after))) (follows first worse t named (Q.name_first t m)) ∙ Q.naming [] t after m
    right_naming (u ∷ before) t after m = ap (λ b. cond b (p.reads (u ∷ (before ++ t ∷ after))) (q.reads (u ∷ (before ++ t ∷ after)))) (follows first second u parted (Q.name_begins u before t m)) ∙ Q.naming (u ∷ before) t after m

    naming : (before : List Piece) (t : Piece) (after : List Piece) → (either first p q).names before t → cond (starts first (before ++ t ∷ after)) (p.reads (before ++ t ∷ after)) (q.reads (before ++ t ∷ after)) ≡ refused true (t ∷ after)
    naming before t after (inl m) = left_naming before t after m
    naming before t after (inr m) = right_naming before t after m

    name_begins : (u : Piece) (before : List Piece) (t : Piece) → (either first p q).names (u ∷ before) t → among (first ++ second) u ≡ true
    name_begins u before t (inl m) = among-append first second u ∙ or_left (among first u) (among second u) (P.name_begins u before t m)
    name_begins u before t (inr m) = among-append first second u ∙ or_right (among first u) (among second u) (Q.name_begins u before t m)

    name_first : (t : Piece) → (either first p q).names [] t → among worse t ≡ true
    name_first t (inl m) = cannot (P.name_first t m)
    name_first t (inr m) = Q.name_first t m

-- ---- named tokens

module _ {A : Type 0} (first more cs : List Class) (p : Phrase A) (P : Exact p first false more []) where
  but_reads : (ts : List Piece) → starts cs ts ≡ false → (but cs p).reads ts ≡ p.reads ts
  but_reads ts c = ap (λ b. cond b (refused true ts) (p.reads ts)) c

  but_names : (front rest : List Piece) (n : Bool) → Named p.names front rest n → Named (but cs p).names front rest n
  but_names front rest false m = tt
  but_names front [] true m = absurd m
  but_names front (t ∷ rest) true m = inr m

  but_refuses : (ts : List Piece) → starts cs ts ≡ true → Stops (but cs p) ts true ts
  but_refuses ts c = record { front = []; parts = refl; viable = P.some; names = named ts c; stays = λ other h. ap (λ b. cond b (refused true other) (p.reads other)) (sym (same_starts cs ts other h) ∙ c) }
    where
      named : (xs : List Piece) → starts cs xs ≡ true → Named (but cs p).names [] xs true
      named [] c = cannot c
      named (t ∷ xs) c = inl (refl, c)

pub but_exact : {A : Type 0} (first more cs : List Class) (p : Phrase A) → Exact p first false more [] → all_apart cs first ≡ true → Exact (but cs p) first false more cs
but_exact {A = A} first more cs p P parted = record {
  reading = λ ts a rest e. reading ts a rest (starts cs ts) refl e;
  stopping = λ ts n rest e. stopping ts n rest (starts cs ts) refl e;
  whole = λ a w rest d s. whole a w rest d s;
  begins = P.begins;
  empties = P.empties;
  some = P.some;
  naming = naming;
  name_begins = name_begins;
  name_first = name_first;
}
  where
    reading : (ts : List Piece) (a : A) (rest : List Piece) (b : Bool) → starts cs ts ≡ b → cond b (refused true ts) (p.reads ts) ≡ got a rest → Reads (but cs p) ts a rest
    reading ts a rest true c e = absurd (never_got a rest true ts e)
    reading ts a rest false c e =
        let r = P.reading ts a rest e in
        record { front = r.front; parts = r.parts; derived = r.derived; stays = λ other h. but_reads first more cs p P (r.front ++ other) (same_choice cs ts r.front rest other false r.parts h c) ∙ r.stays other h }

    stopping : (ts : List Piece) (n : Bool) (rest : List Piece) (b : Bool) → starts cs ts ≡ b → cond b (refused true ts) (p.reads ts) ≡ refused n rest → Stops (but cs p) ts n rest
    stopping ts n rest true c e =
        let same = refused_is A true n ts rest e in
        subst (λ k. Stops (but cs p) ts k rest) same.0 (subst (λ l. Stops (but cs p) ts true l) same.1 (but_refuses first more cs p P ts c))
    stopping ts n rest false c e =
        let r = P.stopping ts n rest e in
        record { front = r.front; parts = r.parts; viable = r.viable; names = but_names first more cs p P r.front rest n r.names; stays = λ other h. but_reads first more cs p P (r.front ++ other) (same_choice cs ts r.front rest other false r.parts h c) ∙ r.stays other h }

    free : (u : Piece) → among first u ≡ true → among cs u ≡ false
    free u e = follows cs first u parted e

    whole : (a : A) (w rest : List Piece) → p.derives a w → starts more rest ≡ false → (but cs p).reads (w ++ rest) ≡ got a rest
    whole a [] rest d s = cannot (P.empties a d)
    whole a (t ∷ w) rest d s = but_reads first more cs p P (t ∷ (w ++ rest)) (free t (P.begins a t w d)) ∙ P.whole a (t ∷ w) rest d s

    later : (before : List Piece) (t : Piece) (after : List Piece) → p.names before t → (but cs p).reads (before ++ t ∷ after) ≡ refused true (t ∷ after)
    later [] t after m = cannot (P.name_first t m)
    later (u ∷ before) t after m = but_reads first more cs p P (u ∷ (before ++ t ∷ after)) (free u (P.name_begins u before t m)) ∙ P.naming (u ∷ before) t after m

    naming : (before : List Piece) (t : Piece) (after : List Piece) → (but cs p).names before t → (but cs p).reads (before ++ t ∷ after) ≡ refused true (t ∷ after)
    naming before t after (inl m) = ap (λ x. (but cs p).reads (x ++ t ∷ after)) m.0 ∙ ap (λ b. cond b (refused true (t ∷ after)) (p.reads (t ∷ after))) m.1
    naming before t after (inr m) = later before t after m

    name_begins : (u : Piece) (before : List Piece) (t : Piece) → (but cs p).names (u ∷ before) t → among first u ≡ true
    name_begins u before t (inl m) = absurd (nil_cons u before (sym m.0))
    name_begins u before t (inr m) = P.name_begins u before t m

    name_first : (t : Piece) → (but cs p).names [] t → among cs t ≡ true
    name_first t (inl m) = m.1
    name_first t (inr m) = cannot (P.name_first t m)
