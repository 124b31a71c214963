-- A repetition is exact where its items are, at each state.
use Rattle.std.proofs.Common.{◌≡◌, ℕ, zero, suc, ◌≤◌, Bool, true, false, cond, List, [], ◌∷◌, ◌++◌, length, refl, sym, ap, subst, ◌∙◌, append_assoc, arith, length-append}
use Rattle.std.proofs.lemmas.List.{append-nil}
use Rattle.phrases.specs.Piece.{Piece, Class, among, starts, all_apart}
use Rattle.phrases.specs.Phrase.{Outcome, got, refused, Phrase, and_then, from_derive, led, from_name, from_reads, many_from}
use Rattle.phrases.specs.Exact.{SameHead, Viable, Reads, Stops, Named, Exact}
use Rattle.phrases.proofs.Classes.{starts-append}
use Rattle.phrases.proofs.Laws.{same_head, same_starts, got_is, refused_is, never, never_got, nil_cons, cons_head, cannot, follows}

module _ {S A : Type 0} (first more : List Class) (item : S → Phrase A) (next : S → A → S) (P : (u : S) → Exact (item u) first false more []) where
  abbrev pub run : ℕ → S → List Piece → Outcome (List A)
  run n u ts = from_reads first item next n u ts

  abbrev kept : A → Outcome (List A) → Outcome (List A)
  kept a o = and_then o (λ xs last. got (a ∷ xs) last)

  abbrev turned : ℕ → S → Outcome A → Outcome (List A)
  turned n u o = and_then o (λ x rest. and_then (from_reads first item next n (next u x) rest) (λ xs last. got (x ∷ xs) last))

  pub stop : (n : ℕ) (u : S) (ts : List Piece) → starts first ts ≡ false → run n u ts ≡ got [] ts
  stop zero u ts e = refl
  stop (suc n) u ts e = ap (λ b. cond b (turned n u ((item u).reads ts)) (got [] ts)) e

  pub turn : (n : ℕ) (u : S) (ts : List Piece) (a : A) (rest : List Piece) → starts first ts ≡ true → (item u).reads ts ≡ got a rest → run (suc n) u ts ≡ kept a (run n (next u a) rest)
  turn n u ts a rest c e = ap (λ b. cond b (turned n u ((item u).reads ts)) (got [] ts)) c ∙ ap (turned n u) e

  pub fault : (n : ℕ) (u : S) (ts : List Piece) (m : Bool) (rest : List Piece) → starts first ts ≡ true → (item u).reads ts ≡ refused m rest → run (suc n) u ts ≡ refused m rest
  fault n u ts m rest c e = ap (λ b. cond b (turned n u ((item u).reads ts)) (got [] ts)) c ∙ ap (turned n u) e

  pub takes : (u : S) (a : A) (w : List Piece) → (item u).derives a w → 1 ≤ length w
  takes u a [] d = cannot ((P u).empties a d)
  takes u a (t ∷ w) d = omega arith

  pub record FromReads (u : S) (ts : List Piece) (xs : List A) (rest : List Piece) : Type 0 where
    pub front : List Piece
    pub parts : ts ≡ front ++ rest
    pub derived : from_derive item next u xs front
    pub stays : (other : List Piece) (m : ℕ) → SameHead rest other → length (front ++ other) ≤ m → run m u (front ++ other) ≡ got xs other

  pub record FromStops (u : S) (ts : List Piece) (b : Bool) (rest : List Piece) : Type 0 where
    pub front : List Piece
    pub parts : ts ≡ front ++ rest
    pub viable : Viable (from_derive item next u) front
    pub names : Named (from_name item next u) front rest b
    pub stays : (other : List Piece) (m : ℕ) → SameHead rest other → length (front ++ other) ≤ m → run m u (front ++ other) ≡ refused b other

  begun : (u : S) (ts mid : List Piece) (a : A) (r : Reads (item u) ts a mid) (other : List Piece) → starts first ts ≡ true → SameHead mid other → starts first (r.front ++ other) ≡ true
  begun u ts mid a r other c h = sym (same_starts first (r.front ++ mid) (r.front ++ other) (same_head r.front mid other h)) ∙ ap (starts first) (sym r.parts) ∙ c

  -- one turn, and then what the rest gives
  turn_stays : (u : S) (ts mid rest : List Piece) (a : A) (back : List Piece) (o : List Piece → Outcome (List A)) → starts first ts ≡ true → (r : Reads (item u) ts a mid) → mid ≡ back ++ rest
      → ((other : List Piece) (m : ℕ) → SameHead rest other → length (back ++ other) ≤ m → run m (next u a) (back ++ other) ≡ o other)
      → (other : List Piece) (m : ℕ) → SameHead rest other → length ((r.front ++ back) ++ other) ≤ m → run m u ((r.front ++ back) ++ other) ≡ kept a (o other)
  turn_stays u ts mid rest a back o c r parts again other zero h le = absurd (omega (arith, length-append r.front back, length-append (r.front ++ back) other, takes u a r.front r.derived))
  turn_stays u ts mid rest a back o c r parts again other (suc m) h le =
      let mids : SameHead mid (back ++ other) = subst (λ x. SameHead x (back ++ other)) (sym parts) (same_head back rest other h) in
      let left : length (back ++ other) ≤ m = omega (arith, le, length-append r.front back, length-append (r.front ++ back) other, length-append back other, takes u a r.front r.derived) in
      ap (run (suc m) u) (append_assoc r.front back other)
      ∙ turn m u (r.front ++ (back ++ other)) a (back ++ other) (begun u ts mid a r (back ++ other) c mids) (r.stays (back ++ other) mids)
      ∙ ap (kept a) (again other m h left)

  turn_reads : (u : S) (ts mid rest : List Piece) (a : A) (xs : List A) → starts first ts ≡ true → Reads (item u) ts a mid → FromReads (next u a) mid xs rest → FromReads u ts (a ∷ xs) rest
  turn_reads u ts mid rest a xs c r s = record {
    front = r.front ++ s.front;
    parts = r.parts ∙ ap (λ x. r.front ++ x) s.parts ∙ sym (append_assoc r.front s.front rest);
    derived = (r.front, s.front, refl, r.derived, s.derived);
    stays = turn_stays u ts mid rest a s.front (λ other. got xs other) c r s.parts s.stays;
  }

  turn_names : (u : S) (a : A) (front back rest : List Piece) (b : Bool) → (item u).derives a front → Named (from_name item next (next u a)) back rest b → Named (from_name item next u) (front ++ back) rest b
  turn_names u a front back rest false d m = tt
  turn_names u a front back [] true d m = absurd m
  turn_names u a front back (t ∷ rest) true d m = (a ∷ m.0, front ++ m.1, m.2, ap (λ x. front ++ x) m.3 ∙ sym (append_assoc front m.1 m.2), (front, m.1, refl, d, m.4), m.5)

  first_names : (u : S) (front rest : List Piece) (b : Bool) → Named (item u).names front rest b → Named (from_name item next u) front rest b
  first_names u front rest false m = tt
  first_names u front [] true m = absurd m
  first_names u front (t ∷ rest) true m = ([], [], front, refl, refl, m)

  turn_stops : (u : S) (ts mid : List Piece) (b : Bool) (rest : List Piece) (a : A) → starts first ts ≡ true → Reads (item u) ts a mid → FromStops (next u a) mid b rest → FromStops u ts b rest
  turn_stops u ts mid b rest a c r s = record {
    front = r.front ++ s.front;
    parts = r.parts ∙ ap (λ x. r.front ++ x) s.parts ∙ sym (append_assoc r.front s.front rest);
    viable = (s.viable.0, a ∷ s.viable.1, (r.front, s.front ++ s.viable.0, append_assoc r.front s.front s.viable.0, r.derived, s.viable.2));
    names = turn_names u a r.front s.front rest b r.derived s.names;
    stays = turn_stays u ts mid rest a s.front (λ other. refused b other) c r s.parts s.stays;
  }

  first_stops : (u : S) (ts : List Piece) (b : Bool) (rest : List Piece) → starts first ts ≡ true → Stops (item u) ts b rest → FromStops u ts b rest
  first_stops u ts b rest c s = record {
    front = s.front;
    parts = s.parts;
    viable = (s.viable.0, s.viable.1 ∷ [], (s.front ++ s.viable.0, [], sym (append-nil (s.front ++ s.viable.0)), s.viable.2, refl));
    names = first_names u s.front rest b s.names;
    stays = λ other m h le. go other m h le;
  }
    where
      started : (other : List Piece) → SameHead rest other → starts first (s.front ++ other) ≡ true
      started other h = sym (same_starts first (s.front ++ rest) (s.front ++ other) (same_head s.front rest other h)) ∙ ap (starts first) (sym s.parts) ∙ c

      some_left : (xs : List Piece) → starts first xs ≡ true → 1 ≤ length xs
      some_left [] e = cannot e
      some_left (x ∷ xs) e = omega arith

      go : (other : List Piece) (m : ℕ) → SameHead rest other → length (s.front ++ other) ≤ m → run m u (s.front ++ other) ≡ refused b other
      go other zero h le = absurd (omega (arith, some_left (s.front ++ other) (started other h)))
      go other (suc m) h le = fault m u (s.front ++ other) b other (started other h) (s.stays other h)

  none_reads : (u : S) (ts : List Piece) → starts first ts ≡ false → FromReads u ts [] ts
  none_reads u ts c = record { front = []; parts = refl; derived = refl; stays = λ other m h le. stop m u other (sym (same_starts first ts other h) ∙ c) }

  none_is : (u : S) (ts : List Piece) (xs : List A) (rest : List Piece) → starts first ts ≡ false → got [] ts ≡ got xs rest → FromReads u ts xs rest
  none_is u ts xs rest c e = let h = got_is [] xs ts rest e in subst (λ (ys : List A × List Piece). FromReads u ts ys.0 ys.1) (ap (λ y. (y, ts)) h.0 ∙ ap (λ r. (xs, r)) h.1) (none_reads u ts c)

  pub reading : (n : ℕ) (u : S) (ts : List Piece) (xs : List A) (rest : List Piece) → length ts ≤ n → run n u ts ≡ got xs rest → FromReads u ts xs rest
  reading zero u [] xs rest le e = none_is u [] xs rest refl e
  reading zero u (t ∷ ts) xs rest le e = absurd (omega arith)
  reading (suc n) u ts xs rest le e = go (λ v mid ys last lt o. reading n v mid ys last lt o) (starts first ts) refl e
    where
      go : ((v : S) (mid : List Piece) (ys : List A) (last : List Piece) → length mid ≤ n → run n v mid ≡ got ys last → FromReads v mid ys last) → (b : Bool) → starts first ts ≡ b
          → cond b (turned n u ((item u).reads ts)) (got [] ts) ≡ got xs rest → FromReads u ts xs rest
      go again false c e = none_is u ts xs rest c e
      go again true c e = inner ((item u).reads ts) refl e
        where
          last_turn : (a : A) (mid : List Piece) → Reads (item u) ts a mid → length mid ≤ n → (o : Outcome (List A)) → run n (next u a) mid ≡ o → kept a o ≡ got xs rest → FromReads u ts xs rest
          last_turn a mid r lt (got ys last) q e = let h = got_is (a ∷ ys) xs last rest e in subst (λ (zs : List A × List Piece). FromReads u ts zs.0 zs.1) (ap (λ z. (z, last)) h.0 ∙ ap (λ l. (xs, l)) h.1) (turn_reads u ts mid last a ys c r (again (next u a) mid ys last lt q))
          last_turn a mid r lt (refused k s) q e = absurd (never_got xs rest k s e)

          inner : (o : Outcome A) → (item u).reads ts ≡ o → turned n u o ≡ got xs rest → FromReads u ts xs rest
          inner (got a mid) q e =
              let r = (P u).reading ts a mid q in
              let lt : length mid ≤ n = omega (arith, le, ap length r.parts, length-append r.front mid, takes u a r.front r.derived) in
              last_turn a mid r lt (run n (next u a) mid) refl e
          inner (refused k s) q e = absurd (never_got xs rest k s e)

  pub stopping : (n : ℕ) (u : S) (ts : List Piece) (b : Bool) (rest : List Piece) → length ts ≤ n → run n u ts ≡ refused b rest → FromStops u ts b rest
  stopping zero u ts b rest le e = absurd (never [] ts b rest e)
  stopping (suc n) u ts b rest le e = go (λ v mid last lt o. stopping n v mid b last lt o) (starts first ts) refl e
    where
      go : ((v : S) (mid last : List Piece) → length mid ≤ n → run n v mid ≡ refused b last → FromStops v mid b last) → (k : Bool) → starts first ts ≡ k
          → cond k (turned n u ((item u).reads ts)) (got [] ts) ≡ refused b rest → FromStops u ts b rest
      go again false c e = absurd (never [] ts b rest e)
      go again true c e = inner ((item u).reads ts) refl e
        where
          last_turn : (a : A) (mid : List Piece) → Reads (item u) ts a mid → length mid ≤ n → (o : Outcome (List A)) → run n (next u a) mid ≡ o → kept a o ≡ refused b rest → FromStops u ts b rest
          last_turn a mid r lt (got ys last) q e = absurd (never (a ∷ ys) last b rest e)
          last_turn a mid r lt (refused k s) q e = let h = refused_is (List A) k b s rest e in turn_stops u ts mid b rest a c r (again (next u a) mid rest lt (q ∙ ap (λ l. refused k l) h.1 ∙ ap (λ l. refused l rest) h.0))

          inner : (o : Outcome A) → (item u).reads ts ≡ o → turned n u o ≡ refused b rest → FromStops u ts b rest
          inner (got a mid) q e =
              let r = (P u).reading ts a mid q in
              let lt : length mid ≤ n = omega (arith, le, ap length r.parts, length-append r.front mid, takes u a r.front r.derived) in
              last_turn a mid r lt (run n (next u a) mid) refl e
          inner (refused k s) q e = let h = refused_is (List A) k b s rest e in first_stops u ts b rest c ((P u).stopping ts b rest (q ∙ ap (λ l. refused k l) h.1 ∙ ap (λ l. refused l rest) h.0))

  from_begins : (u : S) (xs : List A) (t : Piece) (w : List Piece) → from_derive item next u xs (t ∷ w) → among first t ≡ true
  from_begins u [] t w d = absurd (nil_cons t w (sym d))
  from_begins u (x ∷ xs) t w d = go d.0 d.1 d.2 d.3
    where
      go : (front back : List Piece) → t ∷ w ≡ front ++ back → (item u).derives x front → among first t ≡ true
      go [] back e g = cannot ((P u).empties x g)
      go (v ∷ front) back e g = ap (among first) (cons_head t v w (front ++ back) e) ∙ (P u).begins x v front g

  -- items, and then whatever the rest gives
  items_then : all_apart more first ≡ true → (n : ℕ) (u : S) (xs : List A) (w rest : List Piece) (o : List A → Outcome (List A)) → from_derive item next u xs w → starts more rest ≡ false
      → ((x : A) (ys : List A) → kept x (o ys) ≡ o (x ∷ ys)) → ((m : ℕ) → length rest ≤ m → run m (led next u xs) rest ≡ o []) → length (w ++ rest) ≤ n → run n u (w ++ rest) ≡ o xs
  items_then parted n u [] w rest o d s push ending le = ap (λ x. run n u (x ++ rest)) d ∙ ending n (omega (arith, le, length-append w rest))
  items_then parted n u (x ∷ xs) w rest o d s push ending le = go n d.0 d.1 d.2 d.3 d.4 le (λ m lt. items_then parted m (next u x) xs d.1 rest o d.4 s push ending lt)
    where
      free : (back : List Piece) → from_derive item next (next u x) xs back → starts more (back ++ rest) ≡ false
      free [] d = s
      free (t ∷ back) d = follows more first t parted (from_begins (next u x) xs t back d)

      started : (front back : List Piece) → (item u).derives x front → starts first (front ++ back) ≡ true
      started [] back g = cannot ((P u).empties x g)
      started (t ∷ front) back g = (P u).begins x t front g

      go : (n : ℕ) (front back : List Piece) → w ≡ front ++ back → (item u).derives x front → from_derive item next (next u x) xs back → length (w ++ rest) ≤ n
          → ((m : ℕ) → length (back ++ rest) ≤ m → run m (next u x) (back ++ rest) ≡ o xs) → run n u (w ++ rest) ≡ o (x ∷ xs)
      go zero front back e g ds le again = absurd (omega (arith, le, ap length e, length-append w rest, length-append front back, takes u x front g))
      go (suc m) front back e g ds le again =
          let lt : length (back ++ rest) ≤ m = omega (arith, le, ap length e, length-append w rest, length-append front back, length-append back rest, takes u x front g) in
          ap (run (suc m) u) (ap (λ y. y ++ rest) e ∙ append_assoc front back rest)
          ∙ turn m u (front ++ (back ++ rest)) x (back ++ rest) (started front (back ++ rest) g) ((P u).whole x front (back ++ rest) g (free back ds))
          ∙ ap (kept x) (again m lt) ∙ push x xs

  whole : all_apart more first ≡ true → (n : ℕ) (u : S) (xs : List A) (w rest : List Piece) → from_derive item next u xs w → starts (more ++ first) rest ≡ false → length (w ++ rest) ≤ n → run n u (w ++ rest) ≡ got xs rest
  whole parted n u xs w rest d s le =
      let ends = starts-append more first rest s in
      items_then parted n u xs w rest (λ ys. got ys rest) d ends.0 (λ x ys. refl) (λ m lt. stop m (led next u xs) rest ends.1) le

  from_naming : all_apart more first ≡ true → (n : ℕ) (u : S) (xs : List A) (front back : List Piece) (t : Piece) (after : List Piece) → from_derive item next u xs front → (item (led next u xs)).names back t
      → length (front ++ (back ++ t ∷ after)) ≤ n → run n u (front ++ (back ++ t ∷ after)) ≡ refused true (t ∷ after)
  from_naming parted n u xs front back t after d m le = items_then parted n u xs front (back ++ t ∷ after) (λ ys. refused true (t ∷ after)) d (free back m) (λ x ys. refl) (λ k lt. here k back m lt) le
    where
      free : (back : List Piece) → (item (led next u xs)).names back t → starts more (back ++ t ∷ after) ≡ false
      free [] m = cannot ((P (led next u xs)).name_first t m)
      free (v ∷ back) m = follows more first v parted ((P (led next u xs)).name_begins v back t m)

      here : (n : ℕ) (back : List Piece) → (item (led next u xs)).names back t → length (back ++ t ∷ after) ≤ n → run n (led next u xs) (back ++ t ∷ after) ≡ refused true (t ∷ after)
      here n [] m le = cannot ((P (led next u xs)).name_first t m)
      here zero (v ∷ back) m le = absurd (omega (arith, le))
      here (suc n) (v ∷ back) m le = fault n (led next u xs) (v ∷ (back ++ t ∷ after)) true (t ∷ after) ((P (led next u xs)).name_begins v back t m) ((P (led next u xs)).naming (v ∷ back) t after m)

  from_name_begins : (u : S) (v : Piece) (before : List Piece) (t : Piece) → from_name item next u (v ∷ before) t → among first v ≡ true
  from_name_begins u v before t m = go m.0 m.1 m.2 m.3 m.4 m.5
    where
      go : (xs : List A) (front back : List Piece) → v ∷ before ≡ front ++ back → from_derive item next u xs front → (item (led next u xs)).names back t → among first v ≡ true
      go xs [] back e d m = (P (led next u xs)).name_begins v before t (subst (λ y. (item (led next u xs)).names y t) (sym e) m)
      go xs (x ∷ front) back e d m = ap (among first) (cons_head v x before (front ++ back) e) ∙ from_begins u xs x front d

  from_name_first : (u : S) (t : Piece) → from_name item next u [] t → among [] t ≡ true
  from_name_first u t m = go m.0 m.1 m.2 m.3 m.5
    where
      go : (xs : List A) (front back : List Piece) → [] ≡ front ++ back → (item (led next u xs)).names back t → among [] t ≡ true
      go xs [] back e m = (P (led next u xs)).name_first t (subst (λ y. (item (led next u xs)).names y t) (sym e) m)
      go xs (x ∷ front) back e m = absurd (nil_cons x (front ++ back) e)

  pub from_exact : all_apart more first ≡ true → (u : S) → Exact (many_from first item next u) first true (more ++ first) []
  from_exact parted u = record {
    reading = λ ts xs rest e. let r = reading (length ts) u ts xs rest (omega arith) e in record { front = r.front; parts = r.parts; derived = r.derived; stays = λ other h. r.stays other (length (r.front ++ other)) h (omega arith) };
    stopping = λ ts n rest e. let r = stopping (length ts) u ts n rest (omega arith) e in record { front = r.front; parts = r.parts; viable = r.viable; names = r.names; stays = λ other h. r.stays other (length (r.front ++ other)) h (omega arith) };
    whole = λ xs w rest d s. whole parted (length (w ++ rest)) u xs w rest d s (omega arith);
    begins = λ xs t w d. from_begins u xs t w d;
    empties = λ xs d. refl;
    some = ([], [], refl);
    naming = λ before t after m.
        let e : before ++ t ∷ after ≡ m.1 ++ (m.2 ++ t ∷ after) = ap (λ x. x ++ t ∷ after) m.3 ∙ append_assoc m.1 m.2 (t ∷ after) in
        ap (λ x. run (length x) u x) e ∙ from_naming parted (length (m.1 ++ (m.2 ++ t ∷ after))) u m.0 m.1 m.2 t after m.4 m.5 (omega arith);
    name_begins = from_name_begins u;
    name_first = from_name_first u;
  }
