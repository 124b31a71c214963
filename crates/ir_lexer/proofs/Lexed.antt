-- A text parts into one list of tokens, and the loop of the code finds it.
use Rattle.std.proofs.Common.{◌≡◌, ℕ, suc, ◌+◌, ◌-◌, ◌≤◌, ◌<◌, Bool, true, false, cond, List, [], ◌∷◌, ◌++◌, length, take, drop, get_or, Option, Some, None, ◌⊎◌, inl, inr, eqb, refl, sym, ap, subst, ◌∙◌, arith, append_assoc, length-drop}
use Rattle.std.proofs.lemmas.Bool.{cases_order}
use Rattle.std.proofs.lemmas.List.{drop-drop, append-nil}
use Rattle.std.proofs.Math.Seq.{drop-cons}
use Rattle.std.proofs.Math.ListN.{drop_of_length-le}
use Rattle.ir_lexer.specs.declared.token.TokenKind.{TokenKind}
use Rattle.ir_lexer.specs.declared.token.TokenKind.TheVariants as kinds
use Rattle.ir_lexer.specs.declared.token.Token.{Token}
use Rattle.ir_lexer.specs.Forms.{kind_of}
use Rattle.ir_lexer.specs.Lexing.{is_blank, fresh_after, begins_comment, past, NoneFrom, IsTokenAt, token_at, PartsInto, HasOneList, AreBehind, AreSlices}

-- ---- blanks and comments

pub split_at : (bytes : List ℕ) (at : ℕ) → at < length bytes → drop at bytes ≡ get_or bytes at 0 ∷ drop (at + 1) bytes
split_at bytes at lt = let e : suc at ≡ at + 1 = omega arith in drop-cons bytes at 0 lt ∙ ap (λ k. get_or bytes at 0 ∷ drop k bytes) e

pub past_nil : (c f : Bool) → past c f [] ≡ []
past_nil true f = refl
past_nil false f = refl

pub past_end : (c f : Bool) (bytes : List ℕ) (at : ℕ) → length bytes ≤ at → past c f (drop at bytes) ≡ []
past_end c f bytes at le = ap (past c f) (drop_of_length-le bytes le) ∙ past_nil c f

module _ (bytes : List ℕ) (at : ℕ) (lt : at < length bytes) where
  abbrev byte : ℕ
  byte = get_or bytes at 0

  abbrev left_over : List ℕ
  left_over = drop (at + 1) bytes

  pub in_comment : (f : Bool) → eqb byte 10 ≡ false → past true f (drop at bytes) ≡ past true f left_over
  in_comment f e = ap (past true f) (split_at bytes at lt) ∙ ap (λ x. cond x (past false true left_over) (past true f left_over)) e

  pub comment_ends : (f : Bool) → eqb byte 10 ≡ true → past true f (drop at bytes) ≡ past false true left_over
  comment_ends f e = ap (past true f) (split_at bytes at lt) ∙ ap (λ x. cond x (past false true left_over) (past true f left_over)) e

  pub at_blank : (f : Bool) → is_blank byte ≡ true → past false f (drop at bytes) ≡ past false (fresh_after f byte) left_over
  at_blank f e =
      ap (past false f) (split_at bytes at lt)
      ∙ ap (λ x. cond x (past false (fresh_after f byte) left_over) (cond (begins_comment f byte) (past true f left_over) (byte ∷ left_over))) e

  pub comment_begins : (f : Bool) → is_blank byte ≡ false → begins_comment f byte ≡ true → past false f (drop at bytes) ≡ past true f left_over
  comment_begins f e c =
      ap (past false f) (split_at bytes at lt)
      ∙ ap (λ x. cond x (past false (fresh_after f byte) left_over) (cond (begins_comment f byte) (past true f left_over) (byte ∷ left_over))) e
      ∙ ap (λ x. cond x (past true f left_over) (byte ∷ left_over)) c

  pub at_token : (f : Bool) → is_blank byte ≡ false → begins_comment f byte ≡ false → past false f (drop at bytes) ≡ drop at bytes
  at_token f e c =
      ap (past false f) (split_at bytes at lt)
      ∙ ap (λ x. cond x (past false (fresh_after f byte) left_over) (cond (begins_comment f byte) (past true f left_over) (byte ∷ left_over))) e
      ∙ ap (λ x. cond x (past true f left_over) (byte ∷ left_over)) c
      ∙ sym (split_at bytes at lt)

pub past_shrinks : (c f : Bool) (bs : List ℕ) → length (past c f bs) ≤ length bs
past_shrinks true f [] = omega arith
past_shrinks false f [] = omega arith
past_shrinks true f (b ∷ bs) = go (past_shrinks false true bs) (past_shrinks true f bs) (eqb b 10)
  where
    go : length (past false true bs) ≤ length bs → length (past true f bs) ≤ length bs → (x : Bool) → length (cond x (past false true bs) (past true f bs)) ≤ suc (length bs)
    go h k true = omega (arith, h)
    go h k false = omega (arith, k)
past_shrinks false f (b ∷ bs) = go (past_shrinks false (fresh_after f b) bs) (past_shrinks true f bs) (is_blank b) (begins_comment f b)
  where
    go : length (past false (fresh_after f b) bs) ≤ length bs → length (past true f bs) ≤ length bs → (x y : Bool) → length (cond x (past false (fresh_after f b) bs) (cond y (past true f bs) (b ∷ bs))) ≤ suc (length bs)
    go h k true y = omega (arith, h)
    go h k false true = omega (arith, k)
    go h k false false = omega arith

-- ---- one list

abbrev SomeIs : Option TokenKind → TokenKind → Type 0
SomeIs (Some k) l = k ≡ l
SomeIs None l = ⊥

some_is : (k l : TokenKind) → Some k ≡ Some l → k ≡ l
some_is k l e = subst (λ o. SomeIs o l) (sym e) refl

none_some : (k : TokenKind) → None ≡ Some k → ⊥
none_some k e = subst (λ o. SomeIs o k) (sym e) refl

-- the longest token is one
one_token : (rest : List ℕ) (k l : TokenKind) (m n : ℕ) → IsTokenAt rest k m → IsTokenAt rest l n → (k ≡ l) × (m ≡ n)
one_token rest k l m n a b = go (cases_order m n)
  where
    go : (m ≡ n) ⊎ ((m < n) ⊎ (n < m)) → (k ≡ l) × (m ≡ n)
    go (inl e) = (some_is k l (sym a.form ∙ ap (λ i. kind_of (take i rest)) e ∙ b.form), e)
    go (inr (inl lt)) = absurd (none_some l (sym (a.longest n (omega (arith, lt)) b.within) ∙ b.form))
    go (inr (inr lt)) = absurd (none_some k (sym (b.longest m (omega (arith, lt)) a.within) ∙ a.form))

not_none : (rest : List ℕ) (k : TokenKind) (n : ℕ) → IsTokenAt rest k n → NoneFrom rest 1 → ⊥
not_none rest k n a none = none_some k (sym (none n (omega (arith, a.some)) a.within) ∙ a.form)

nothing_there : (total : ℕ) (rest : List ℕ) (t : Token) (ts : List Token) → rest ≡ [] → PartsInto total rest (t ∷ ts) → ⊥
nothing_there total rest t ts e (inl p) = omega (arith, p.2.some, p.2.within, ap length e)
nothing_there total rest t ts e (inr p) = omega (arith, p.0, ap length e)

parts_once : (total : ℕ) (rest : List ℕ) (ts us : List Token) → PartsInto total rest ts → PartsInto total rest us → ts ≡ us
parts_once total rest [] [] p q = refl
parts_once total rest [] (u ∷ us) p q = absurd (nothing_there total rest u us p q)
parts_once total rest (t ∷ ts) [] p q = absurd (nothing_there total rest t ts q p)
parts_once total rest (t ∷ ts) (u ∷ us) p q = go (λ left a b. parts_once total left ts us a b) p q
  where
    go : ((left : List ℕ) → PartsInto total left ts → PartsInto total left us → ts ≡ us) → PartsInto total rest (t ∷ ts) → PartsInto total rest (u ∷ us) → t ∷ ts ≡ u ∷ us
    go later (inl a) (inl b) =
        let same = one_token rest a.0 b.0 a.1 b.1 a.2 b.2 in
        let token : t ≡ u = a.3 ∙ ap (λ k. token_at total rest k a.1) same.0 ∙ ap (token_at total rest b.0) same.1 ∙ sym b.3 in
        let others = later (past false false (drop b.1 rest)) (subst (λ n. PartsInto total (past false false (drop n rest)) ts) same.1 a.4) b.4 in
        ap (λ x. x ∷ ts) token ∙ ap (λ x. u ∷ x) others
    go later (inl a) (inr b) = absurd (not_none rest a.0 a.1 a.2 b.1)
    go later (inr a) (inl b) = absurd (not_none rest b.0 b.1 b.2 a.1)
    go later (inr a) (inr b) = ap (λ x. x ∷ ts) (a.2 ∙ sym b.2) ∙ ap (λ x. u ∷ x) (a.3 ∙ sym b.3)

pub has_one_list : HasOneList
has_one_list bytes ts us p q = parts_once (length bytes) (past false true bytes) ts us p q

-- ---- slices in order

behind : (total at : ℕ) (rest : List ℕ) (ts : List Token) → length rest ≤ total → at ≤ total - length rest → PartsInto total rest ts → AreBehind at ts total
behind total at rest [] within le p = omega (arith, within, le)
behind total at rest (t ∷ ts) within le p = go (λ b left w l q. behind total b left ts w l q) p
  where
    go : ((b : ℕ) (left : List ℕ) → length left ≤ total → b ≤ total - length left → PartsInto total left ts → AreBehind b ts total) → PartsInto total rest (t ∷ ts) → AreBehind at (t ∷ ts) total
    go later (inl a) =
        let shrunk = past_shrinks false false (drop a.1 rest) in
        let left = length-drop a.1 rest in
        let starts : t.start ≡ total - length rest = ap (λ x. x.start) a.3 in
        let ends : t.end ≡ total - length rest + a.1 = ap (λ x. x.end) a.3 in (
          omega (arith, le, starts),
          omega (arith, starts, ends, a.2.some),
          later t.end (past false false (drop a.1 rest)) (omega (arith, within, shrunk, left)) (omega (arith, within, shrunk, left, ends, a.2.within)) a.4,
        )
    go later (inr a) =
        let starts : t.start ≡ total - length rest = ap (λ x. x.start) a.2 in
        let ends : t.end ≡ total - length rest + length rest = ap (λ x. x.end) a.2 in
        (omega (arith, le, starts), omega (arith, starts, ends, a.0), subst (λ l. AreBehind t.end l total) (sym a.3) (omega (arith, ends, within)))

pub are_slices : AreSlices
are_slices bytes ts p = behind (length bytes) 0 (past false true bytes) ts (past_shrinks false true bytes) (omega arith) p

-- ---- the loop of the code

module _ (bytes : List ℕ) (out : List Token) (at : ℕ) (so_far : (ts : List Token) → PartsInto (length bytes) (drop at bytes) ts → PartsInto (length bytes) (past false true bytes) (out ++ ts)) where
  pub with_token : (more : List Token) (kind : TokenKind) (len next : ℕ) → at < length bytes → IsTokenAt (drop at bytes) kind len → more ≡ out ++ record { kind = kind; start = at; end = at + len } ∷ []
      → drop next bytes ≡ past false false (drop (at + len) bytes) → (ts : List Token) → PartsInto (length bytes) (drop next bytes) ts → PartsInto (length bytes) (past false true bytes) (more ++ ts)
  with_token more kind len next lt token pushed skipped ts p =
      let t : Token = record { kind = kind; start = at; end = at + len } in
      let place : at ≡ length bytes - length (drop at bytes) = omega (arith, lt, length-drop at bytes) in
      let is : t ≡ token_at (length bytes) (drop at bytes) kind len = ap (λ (n : ℕ). let x : Token = record { kind = kind; start = n; end = n + len } in x) place in
      let left : PartsInto (length bytes) (past false false (drop len (drop at bytes))) ts = subst (λ r. PartsInto (length bytes) r ts) (skipped ∙ ap (past false false) (sym (drop-drop len at bytes))) p in
      subst (λ l. PartsInto (length bytes) (past false true bytes) l) (sym (ap (λ x. x ++ ts) pushed ∙ append_assoc out (t ∷ []) ts)) (so_far (t ∷ ts) (inl (kind, len, token, is, left)))

  pub with_bad : (more : List Token) → at < length bytes → NoneFrom (drop at bytes) 1 → more ≡ out ++ record { kind = kinds.Bad; start = at; end = length bytes } ∷ [] → PartsInto (length bytes) (past false true bytes) more
  with_bad more lt none pushed =
      let t : Token = record { kind = kinds.Bad; start = at; end = length bytes } in
      let size = length-drop at bytes in
      let place : at ≡ length bytes - length (drop at bytes) = omega (arith, lt, size) in
      let end : length bytes ≡ length bytes - length (drop at bytes) + length (drop at bytes) = omega (arith, lt, size) in
      let is : t ≡ token_at (length bytes) (drop at bytes) kinds.Bad (length (drop at bytes)) =
      ap (λ (n : ℕ). let x : Token = record { kind = kinds.Bad; start = n; end = length bytes } in x) place ∙ ap (λ (n : ℕ). let x : Token = record { kind = kinds.Bad; start = length bytes - length (drop at bytes); end = n } in x) end in
      subst (λ l. PartsInto (length bytes) (past false true bytes) l) (sym pushed) (so_far (t ∷ []) (inr (omega (arith, lt, size), none, is, refl)))

  pub at_the_end : length bytes ≤ at → PartsInto (length bytes) (past false true bytes) out
  at_the_end le = subst (λ l. PartsInto (length bytes) (past false true bytes) l) (append-nil out) (so_far [] (drop_of_length-le bytes le))
