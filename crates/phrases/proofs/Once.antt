-- A list of tokens is refused at one place, and not where it is derived.
use Rattle.std.proofs.Common.{◌≡◌, Bool, true, false, List, [], ◌∷◌, ◌++◌, ◌⊎◌, inl, inr, refl, sym, ap, subst, ◌∙◌, append_assoc}
use Rattle.std.proofs.lemmas.List.{append-nil}
use Rattle.phrases.specs.Piece.{Piece}
use Rattle.phrases.specs.Phrase.{Phrase}
use Rattle.phrases.specs.Reading.{IsViable, Ends, IsNamed, IsRefusedAt}
use Rattle.phrases.proofs.Laws.{cons_head, cons_tail}

-- how two ways to part a list compare: the second front is the first and some more
record Longer (front rest other : List Piece) : Type 0 where
  head : Piece
  more : List Piece
  tail : List Piece
  rest_is : rest ≡ head ∷ tail
  other_is : other ≡ front ++ head ∷ more

parted : (a b c d : List Piece) → a ++ b ≡ c ++ d → ((a ≡ c) × (b ≡ d)) ⊎ (Longer a b c ⊎ Longer c d a)
parted [] b [] d e = inl (refl, e)
parted [] b (x ∷ c) d e = inr (inl (record { head = x; more = c; tail = c ++ d; rest_is = e; other_is = refl }))
parted (x ∷ a) b [] d e = inr (inr (record { head = x; more = a; tail = a ++ b; rest_is = sym e; other_is = refl }))
parted (x ∷ a) b (y ∷ c) d e = go (cons_head x y (a ++ b) (c ++ d) e) (parted a b c d (cons_tail x y (a ++ b) (c ++ d) e))
  where
    go : x ≡ y → ((a ≡ c) × (b ≡ d)) ⊎ (Longer a b c ⊎ Longer c d a) → ((x ∷ a ≡ y ∷ c) × (b ≡ d)) ⊎ (Longer (x ∷ a) b (y ∷ c) ⊎ Longer (y ∷ c) d (x ∷ a))
    go h (inl s) = inl (ap (λ z. z ∷ a) h ∙ ap (λ l. y ∷ l) s.0, s.1)
    go h (inr (inl l)) = inr (inl (record { head = l.head; more = l.more; tail = l.tail; rest_is = l.rest_is; other_is = ap (λ z. z ∷ c) (sym h) ∙ ap (λ z. x ∷ z) l.other_is }))
    go h (inr (inr l)) = inr (inr (record { head = l.head; more = l.more; tail = l.tail; rest_is = l.rest_is; other_is = ap (λ z. z ∷ a) h ∙ ap (λ z. y ∷ z) l.other_is }))

module _ {A : Type 0} (p : Phrase A) where
  -- what goes on viably past a front does not end there
  goes_on : (front rest other : List Piece) → Longer front rest other → Ends p front rest → IsViable p other → ⊥
  goes_on front rest other l ends v = ended (subst (λ r. Ends p front r) l.rest_is ends)
    where
      ended : (IsViable p (front ++ l.head ∷ []) → ⊥) → ⊥
      ended e = e (l.more ++ v.0, v.1, subst (λ w. p.derives v.1 w) same v.2)
        where
          same : other ++ v.0 ≡ (front ++ l.head ∷ []) ++ (l.more ++ v.0)
          same = ap (λ o. o ++ v.0) l.other_is ∙ append_assoc front (l.head ∷ l.more) v.0 ∙ sym (append_assoc front (l.head ∷ []) (l.more ++ v.0))

  pub refused_once : (ts rest last : List Piece) (n m : Bool) → IsRefusedAt p ts rest n → IsRefusedAt p ts last m → (rest ≡ last) × (n ≡ m)
  refused_once ts rest last n m r s = go (parted r.before rest s.before last (sym r.parts ∙ s.parts))
    where
      both : (a b : Bool) → (a ≡ true → b ≡ true) → (b ≡ true → a ≡ true) → a ≡ b
      both true b f g = sym (f refl)
      both false true f g = g refl
      both false false f g = refl

      there : r.before ≡ s.before → rest ≡ last → IsNamed p r.before rest → IsNamed p s.before last
      there e h named = subst (λ l. IsNamed p s.before l) h (subst (λ b. IsNamed p b rest) e named)

      back : r.before ≡ s.before → rest ≡ last → IsNamed p s.before last → IsNamed p r.before rest
      back e h named = subst (λ l. IsNamed p r.before l) (sym h) (subst (λ b. IsNamed p b last) (sym e) named)

      go : ((r.before ≡ s.before) × (rest ≡ last)) ⊎ (Longer r.before rest s.before ⊎ Longer s.before last r.before) → (rest ≡ last) × (n ≡ m)
      go (inl e) = (e.1, both n m (λ h. s.each_named (there e.0 e.1 (r.only_named h))) (λ h. r.each_named (back e.0 e.1 (s.only_named h))))
      go (inr (inl l)) = absurd (goes_on r.before rest s.before l r.ends s.viable)
      go (inr (inr l)) = absurd (goes_on s.before last r.before l s.ends r.viable)

  pub not_both : (ts rest : List Piece) (n : Bool) (a : A) → p.derives a ts → IsRefusedAt p ts rest n → ⊥
  not_both ts [] n a d r = r.ends a (subst (λ w. p.derives a w) (r.parts ∙ append-nil r.before) d)
  not_both ts (t ∷ rest) n a d r = r.ends (rest, a, subst (λ w. p.derives a w) (r.parts ∙ sym (append_assoc r.before (t ∷ []) rest)) d)
