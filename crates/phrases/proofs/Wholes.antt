-- Reading to the end gives exactly what is derived, and else the first token that is refused.
use Rattle.std.proofs.Common.{◌≡◌, Bool, true, false, List, [], ◌∷◌, ◌++◌, refl, sym, ap, subst, ◌∙◌, append_assoc}
use Rattle.std.proofs.lemmas.List.{append-nil}
use Rattle.phrases.specs.Piece.{Piece, Class}
use Rattle.phrases.specs.Phrase.{Phrase, Outcome, got, refused}
use Rattle.phrases.specs.Reading.{IsViable, Ends, IsNamed, IsRefusedAt, to_the_end}
use Rattle.phrases.specs.Exact.{Exact, SameHead, Named}
use Rattle.phrases.proofs.Laws.{got_is, refused_is, never, never_got, itself}

module _ {A : Type 0} (p : Phrase A) (first : List Class) (empty : Bool) (more bad : List Class) (P : Exact p first empty more bad) where
  -- what is read to the end is derived
  pub is_derived : (ts : List Piece) (a : A) (rest : List Piece) → to_the_end (p.reads ts) ≡ got a rest → p.derives a ts
  is_derived ts a rest e = go (p.reads ts) refl e
    where
      go : (o : Outcome A) → p.reads ts ≡ o → to_the_end o ≡ got a rest → p.derives a ts
      go (got b []) q e =
          let r = P.reading ts b [] q in
          let whole : r.front ≡ ts = sym (append-nil r.front) ∙ sym r.parts in
          subst (λ x. p.derives x ts) (got_is b a [] rest e).0 (subst (λ w. p.derives b w) whole r.derived)
      go (got b (t ∷ after)) q e = absurd (never_got a rest false (t ∷ after) e)
      go (refused n r) q e = absurd (never_got a rest n r e)

  -- what is derived is read
  pub is_read : (ts : List Piece) (a : A) → p.derives a ts → p.reads ts ≡ got a []
  is_read ts a d = ap p.reads (sym (append-nil ts)) ∙ P.whole a ts [] d refl

  pub is_whole : (ts : List Piece) (a : A) → p.derives a ts → to_the_end (p.reads ts) ≡ got a []
  is_whole ts a d = ap to_the_end (is_read ts a d)

  -- reading that refuses, whatever follows the next token, refuses that token
  ends_there : (before rest : List Piece) (n : Bool) → ((other : List Piece) → SameHead rest other → p.reads (before ++ other) ≡ refused n other) → Ends p before rest
  ends_there before [] n stays = λ a d. never a [] n [] (sym (is_read before a d) ∙ ap p.reads (sym (append-nil before)) ∙ stays [] tt)
  ends_there before (t ∷ after) n stays = λ v.
      never v.1 [] n (t ∷ v.0) (sym (is_read ((before ++ t ∷ []) ++ v.0) v.1 v.2) ∙ ap p.reads (append_assoc before (t ∷ []) v.0) ∙ stays (t ∷ v.0) refl)

  ends_after : (a : A) (before : List Piece) (t : Piece) → ((other : List Piece) → SameHead (t ∷ []) other → p.reads (before ++ other) ≡ got a other) → IsViable p (before ++ t ∷ []) → ⊥
  ends_after a before t stays v =
      let e : got v.1 [] ≡ got a (t ∷ v.0) = sym (is_read ((before ++ t ∷ []) ++ v.0) v.1 v.2) ∙ ap p.reads (append_assoc before (t ∷ []) v.0) ∙ stays (t ∷ v.0) refl in
      some_nil t v.0 (got_is v.1 a [] (t ∷ v.0) e).1
    where
      some_nil : (t : Piece) (w : List Piece) → [] ≡ t ∷ w → ⊥
      some_nil t w e = subst (λ xs. SameHead [] xs) e tt

  named_is : (before rest : List Piece) (n : Bool) → Named p.names before rest n → n ≡ true → IsNamed p before rest
  named_is before rest false m e = absurd cc
  named_is before [] true m e = m
  named_is before (t ∷ after) true m e = m

  is_named : (before rest : List Piece) (n : Bool) → p.reads (before ++ rest) ≡ refused n rest → IsNamed p before rest → n ≡ true
  is_named before [] n e m = absurd m
  is_named before (t ∷ after) n e m = (refused_is A n true (t ∷ after) (t ∷ after) (sym e ∙ P.naming before t after m)).0

  not_named : (a : A) (before : List Piece) (t : Piece) (after : List Piece) → p.reads (before ++ t ∷ after) ≡ got a (t ∷ after) → p.names before t → ⊥
  not_named a before t after e m = never a (t ∷ after) true (t ∷ after) (sym e ∙ P.naming before t after m)

  pub is_refused : (ts : List Piece) (n : Bool) (rest : List Piece) → to_the_end (p.reads ts) ≡ refused n rest → IsRefusedAt p ts rest n
  is_refused ts n rest e = go (p.reads ts) refl e
    where
      go : (o : Outcome A) → p.reads ts ≡ o → to_the_end o ≡ refused n rest → IsRefusedAt p ts rest n
      go (got a []) q e = absurd (never a [] n rest e)
      go (got a (t ∷ after)) q e =
          let r = P.reading ts a (t ∷ after) q in
          let same = refused_is A false n (t ∷ after) rest e in
          let here : IsRefusedAt p ts (t ∷ after) false = record {
            before = r.front;
            parts = r.parts;
            viable = ([], a, subst (λ w. p.derives a w) (sym (append-nil r.front)) r.derived);
            ends = ends_after a r.front t (λ other s. r.stays other (heads other s));
            only_named = λ f. absurd cc;
            each_named = λ m. absurd (not_named a r.front t after (r.stays (t ∷ after) refl) m);
          } in
          subst (λ k. IsRefusedAt p ts rest k) same.0 (subst (λ l. IsRefusedAt p ts l false) same.1 here)
        where
          heads : (other : List Piece) → SameHead (t ∷ []) other → SameHead (t ∷ after) other
          heads [] s = s
          heads (u ∷ us) s = s
      go (refused m r) q e =
          let s = P.stopping ts m r q in
          let same = refused_is A m n r rest e in
          let here : IsRefusedAt p ts r m = record {
            before = s.front;
            parts = s.parts;
            viable = s.viable;
            ends = ends_there s.front r m s.stays;
            only_named = named_is s.front r m s.names;
            each_named = is_named s.front r m (s.stays r (itself r));
          } in
          subst (λ k. IsRefusedAt p ts rest k) same.0 (subst (λ l. IsRefusedAt p ts l m) same.1 here)
