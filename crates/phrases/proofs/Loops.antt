-- A loop of the code beside a repetition.
use Rattle.std.proofs.Common.{◌≡◌, ℕ, suc, ◌≤◌, Bool, true, false, List, [], ◌∷◌, ◌++◌, length, refl, sym, ap, ◌∙◌, append_assoc, arith, length-append}
use Rattle.std.proofs.lemmas.List.{append-nil}
use Rattle.phrases.specs.Piece.{Piece, Class, starts}
use Rattle.phrases.specs.Phrase.{Phrase, Outcome, got, refused, and_then, from_reads, many_from, many, skip_many}
use Rattle.phrases.specs.Exact.{Exact}
use Rattle.phrases.specs.Reading.{with_front}
use Rattle.phrases.proofs.Laws.{itself}
use Rattle.phrases.proofs.Repeats.{reading, stopping, turn, fault, stop, takes}

module _ {S A : Type 0} (first more : List Class) (item : S → Phrase A) (next : S → A → S) (P : (u : S) → Exact (item u) first false more []) where
  abbrev all : S → Phrase (List A)
  all u = many_from first item next u

  -- more turns than tokens make no difference
  more_turns : (n : ℕ) (u : S) (ts : List Piece) → length ts ≤ n → from_reads first item next n u ts ≡ (all u).reads ts
  more_turns n u ts le = go ((all u).reads ts) refl
    where
      go : (o : Outcome (List A)) → (all u).reads ts ≡ o → from_reads first item next n u ts ≡ (all u).reads ts
      go (got xs rest) q =
          let r = reading first more item next P (length ts) u ts xs rest (omega arith) q in
          ap (from_reads first item next n u) r.parts ∙ r.stays rest n (itself rest) (omega (arith, le, ap length r.parts)) ∙ sym q
      go (refused b rest) q =
          let r = stopping first more item next P (length ts) u ts b rest (omega arith) q in
          ap (from_reads first item next n u) r.parts ∙ r.stays rest n (itself rest) (omega (arith, le, ap length r.parts)) ∙ sym q

  pub one_more : (u : S) (ts : List Piece) (a : A) (rest : List Piece) → starts first ts ≡ true → (item u).reads ts ≡ got a rest → (all u).reads ts ≡ and_then ((all (next u a)).reads rest) (λ xs last. got (a ∷ xs) last)
  one_more u [] a rest c e = absurd cc
  one_more u (t ∷ ts) a rest c e =
      let r = (P u).reading (t ∷ ts) a rest e in
      let le : length rest ≤ length ts = omega (arith, ap length r.parts, length-append r.front rest, takes first more item next P u a r.front r.derived) in
      turn first more item next P (length ts) u (t ∷ ts) a rest c e ∙ ap (λ o. and_then o (λ xs last. got (a ∷ xs) last)) (more_turns (length ts) (next u a) rest le)

  pub no_more : (u : S) (ts : List Piece) → starts first ts ≡ false → (all u).reads ts ≡ got [] ts
  no_more u ts c = stop first more item next P (length ts) u ts c

  pub fault_in : (u : S) (ts : List Piece) (n : Bool) (rest : List Piece) → starts first ts ≡ true → (item u).reads ts ≡ refused n rest → (all u).reads ts ≡ refused n rest
  fault_in u [] n rest c e = absurd cc
  fault_in u (t ∷ ts) n rest c e = fault first more item next P (length ts) u (t ∷ ts) n rest c e

  -- ---- a loop that keeps what it read

  pub turns : (u : S) (found : List A) (ts rest : List Piece) (a : A) (total : Outcome (List A)) → starts first ts ≡ true → (item u).reads ts ≡ got a rest
      → with_front found ((all u).reads ts) ≡ total → with_front (found ++ a ∷ []) ((all (next u a)).reads rest) ≡ total
  turns u found ts rest a total c e so_far = regroup ((all (next u a)).reads rest) ∙ ap (with_front found) (sym (one_more u ts a rest c e)) ∙ so_far
    where
      regroup : (o : Outcome (List A)) → with_front (found ++ a ∷ []) o ≡ with_front found (and_then o (λ xs last. got (a ∷ xs) last))
      regroup (got xs last) = ap (λ ys. got ys last) (append_assoc found (a ∷ []) xs)
      regroup (refused n last) = refl

  pub breaks : (u : S) (found : List A) (ts : List Piece) (n : Bool) (rest : List Piece) (total : Outcome (List A)) → starts first ts ≡ true → (item u).reads ts ≡ refused n rest
      → with_front found ((all u).reads ts) ≡ total → total ≡ refused n rest
  breaks u found ts n rest total c e so_far = sym so_far ∙ ap (with_front found) (fault_in u ts n rest c e)

  pub leaves : (u : S) (found : List A) (ts : List Piece) (total : Outcome (List A)) → starts first ts ≡ false → with_front found ((all u).reads ts) ≡ total → total ≡ got found ts
  leaves u found ts total c so_far = sym so_far ∙ ap (with_front found) (no_more u ts c) ∙ ap (λ ys. got ys ts) (append-nil found)

  -- a turn takes a token
  pub shrinks : (u : S) (ts : List Piece) (a : A) (rest : List Piece) → (item u).reads ts ≡ got a rest → suc (length rest) ≤ length ts
  shrinks u ts a rest e =
      let r = (P u).reading ts a rest e in
      omega (arith, ap length r.parts, length-append r.front rest, takes first more item next P u a r.front r.derived)

-- ---- values that don't matter

module _ {A : Type 0} (first more : List Class) (p : Phrase A) (P : Exact p first false more []) where
  abbrev forget : Outcome (List A) → Outcome (Unit {0})
  forget o = and_then o (λ _ rest. got tt rest)

  forgotten : (a : A) (o : Outcome (List A)) → forget (and_then o (λ xs last. got (a ∷ xs) last)) ≡ forget o
  forgotten a (got xs last) = refl
  forgotten a (refused n rest) = refl

  pub skip_more : (ts : List Piece) (a : A) (rest : List Piece) → starts first ts ≡ true → p.reads ts ≡ got a rest → (skip_many first p).reads ts ≡ (skip_many first p).reads rest
  skip_more ts a rest c e = ap forget (one_more first more (λ (_ : Unit {0}). p) (λ _ _. tt) (λ _. P) tt ts a rest c e) ∙ forgotten a ((many first p).reads rest)

  pub skip_none : (ts : List Piece) → starts first ts ≡ false → (skip_many first p).reads ts ≡ got tt ts
  skip_none ts c = ap forget (no_more first more (λ (_ : Unit {0}). p) (λ _ _. tt) (λ _. P) tt ts c)

  pub skip_fault : (ts : List Piece) (n : Bool) (rest : List Piece) → starts first ts ≡ true → p.reads ts ≡ refused n rest → (skip_many first p).reads ts ≡ refused n rest
  skip_fault ts n rest c e = ap forget (fault_in first more (λ (_ : Unit {0}). p) (λ _ _. tt) (λ _. P) tt ts n rest c e)
