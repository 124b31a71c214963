-- A text of lines parts into the tokens that the lines were printed with.
use Rattle.std.proofs.Common.{◌≡◌, ℕ, ◌+◌, ◌-◌, Bool, true, false, cond, ◌||◌, inl, List, [], ◌∷◌, ◌++◌, length, take, drop, Some, eqb, leb, refl, sym, ap, subst, ◌∙◌, arith, append_assoc, length-append}
use Rattle.std.specs.Prelude.{◌==◌, ◌&&◌, codes, slice_range, MatchOption}
use Rattle.std.proofs.lemmas.Bool.{le-leb}
use Rattle.ir_lexer.specs.declared.token.TokenKind.{TokenKind}
use Rattle.ir_lexer.specs.declared.token.Token.{Token}
use Rattle.ir_lexer.specs.Forms.{kind_of}
use Rattle.ir_lexer.specs.Lexing.{begins_comment, past, NoneFrom, IsTokenAt, token_at, PartsInto, AreTokens}
use Rattle.ir_lexer.specs.Scanning.{found}
use Rattle.ir_lexer.proofs.Found.{found_is}
use Rattle.ir_grammar.specs.Tokens.{bytes_of, seen}
use Rattle.ir_tree.specs.Texts.{no_space_behind, no_space_before, same, spaced}
use Rattle.ir_tree.specs.Printing.{Line, indent, text_of}
use Rattle.ir_tree.specs.Pages.{gap_before}
use Rattle.ir_tree.proofs.Lines.{behind, spaced_is}
use Rattle.printed_again.specs.Again.{Spell, token_texts}
use Rattle.printed_tokens.proofs.Fronts.{StartsText, Stays, is_ended}

-- what is left of a text behind a front has tokens with these texts
abbrev pub Lexes : List ℕ → List ℕ → List (List ℕ) → Type 0
Lexes front rest texts = (ts : List Token) × PartsInto (length (front ++ rest)) rest ts × Spell (seen (front ++ rest) ts) texts

-- ---- one token

take_front : (t next : List ℕ) → take (length t) (t ++ next) ≡ t
take_front [] [] = refl
take_front [] (c ∷ cs) = refl
take_front (b ∷ bs) next = ap (λ r. b ∷ r) (take_front bs next)

drop_front : (t next : List ℕ) → drop (length t) (t ++ next) ≡ next
drop_front [] [] = refl
drop_front [] (c ∷ cs) = refl
drop_front (b ∷ bs) next = drop_front bs next

token_there : (t next : List ℕ) (kind : TokenKind) → StartsText t → found (t ++ next) ≡ Some (kind, length t) → IsTokenAt (t ++ next) kind (length t)
token_there [] next kind s e = absurd s
token_there (b ∷ bs) next kind s e = subst (λ o. MatchOption o (NoneFrom (b ∷ (bs ++ next)) 1) (λ x. IsTokenAt (b ∷ (bs ++ next)) x.0 x.1)) e (found_is (b ∷ (bs ++ next)) (omega arith))

-- a slice in the middle of a text
middle : (front t next : List ℕ) → slice_range (front ++ (t ++ next)) (length front) (length front + length t) ≡ t
middle front t next =
    let len : length front + length t - length front ≡ length t = omega arith in
    ap (λ n. take n (drop (length front) (front ++ (t ++ next)))) len ∙ ap (take (length t)) (drop_front front (t ++ next)) ∙ take_front t next

bytes_there : (front t next : List ℕ) (kind : TokenKind) → bytes_of (front ++ (t ++ next)) (token_at (length (front ++ (t ++ next))) (t ++ next) kind (length t)) ≡ t
bytes_there front t next kind =
    let total = length (front ++ (t ++ next)) in
    let start : total - length (t ++ next) ≡ length front = omega (arith, length-append front (t ++ next)) in
    let low : leb (length front) (length front + length t) ≡ true = le-leb _ _ (omega arith) in
    let high : leb (length front + length t) total ≡ true = le-leb _ _ (omega (arith, length-append front (t ++ next), length-append t next)) in
    ap (λ n. cond (leb n (n + length t) && leb (n + length t) total) (slice_range (front ++ (t ++ next)) n (n + length t)) []) start
    ∙ ap (λ b. cond (b && leb (length front + length t) total) (slice_range (front ++ (t ++ next)) (length front) (length front + length t)) []) low
    ∙ ap (λ b. cond b (slice_range (front ++ (t ++ next)) (length front) (length front + length t)) []) high ∙ middle front t next

-- a token, and blanks behind it
step : (front t gap rest : List ℕ) (texts : List (List ℕ)) → Stays t → (no_space_behind t || is_ended (gap ++ rest)) ≡ true → past false false (gap ++ rest) ≡ rest → Lexes (front ++ (t ++ gap)) rest texts
    → Lexes front (t ++ (gap ++ rest)) (t ∷ texts)
step front t gap rest texts stays follows blanks more =
    let bytes = front ++ (t ++ (gap ++ rest)) in
    let whole : (front ++ (t ++ gap)) ++ rest ≡ bytes = append_assoc front (t ++ gap) rest ∙ ap (λ r. front ++ r) (append_assoc t gap rest) in
    let token = token_at (length bytes) (t ++ (gap ++ rest)) stays.kind (length t) in
    let there = token_there t (gap ++ rest) stays.kind stays.starts (stays.front (gap ++ rest) follows) in
    let left : past false false (drop (length t) (t ++ (gap ++ rest))) ≡ rest = ap (past false false) (drop_front t (gap ++ rest)) ∙ blanks in (
      token ∷ more.0,
      inl (
        stays.kind,
        length t,
        there,
        refl,
        subst (λ r. PartsInto (length bytes) r more.0) (sym left) (subst (λ b. PartsInto (length b) rest more.0) whole more.1),
      ),
      (
        (bytes_there front t (gap ++ rest) stays.kind, stays.kind, sym (ap kind_of (take_front t (gap ++ rest))) ∙ there.form, refl),
        subst (λ b. Spell (seen b more.0) texts) whole more.2,
      ),
    )

-- ---- blanks

-- behind blanks a text that begins a token stays
past_token : (fresh : Bool) (t x : List ℕ) → StartsText t → past false fresh (t ++ x) ≡ t ++ x
past_token fresh [] x s = absurd s
past_token fresh (b ∷ bs) x s =
    ap (λ y. cond y (past false (b == 10 || fresh && (b == 32 || b == 9)) (bs ++ x)) (cond (begins_comment fresh b) (past true fresh (bs ++ x)) (b ∷ (bs ++ x)))) s.blank ∙ ap (λ y. cond y (past true fresh (bs ++ x)) (b ∷ (bs ++ x))) (no_comment fresh)
  where
    no_comment : (fresh : Bool) → begins_comment fresh b ≡ false
    no_comment true = ap (λ y. y || eqb b 33) s.comment ∙ s.bang
    no_comment false = ap (λ y. y || false) s.comment

-- ---- the tokens of a line

module _ (P : List ℕ → Type 0) where
  abbrev pub Each : List (List ℕ) → Type 0
  Each [] = Unit {0}
  Each (t ∷ ts) = P t × Each ts

-- a mark before which no space stands is an end of what stands before
close_ends : (u x : List ℕ) → no_space_before u ≡ true → is_ended (u ++ x) ≡ true
close_ends [] x h = absurd cc
close_ends (b ∷ bs) x h = go (eqb b 40) (eqb b 44) (eqb b 41) (eqb b 93) (same bs []) (eqb b 32) (eqb b 10) h
  where
    go : (p q r s z u v : Bool) → (p && z || q && z || r && z || s && z) ≡ true → (u || v || q || r || s || p) ≡ true
    go p q r s z true v h = refl
    go p q r s z false true h = refl
    go p true r s z false false h = refl
    go p false true s z false false h = refl
    go p false false true z false false h = refl
    go true false false false z false false h = refl
    go false false false false z false false h = h

gap_follows : (t u x : List ℕ) → (no_space_behind t || is_ended (gap_before (no_space_behind t) u ++ (u ++ x))) ≡ true
gap_follows t u x = go (no_space_behind t) (no_space_before u) (close_ends u x)
  where
    go : (g c : Bool) → (c ≡ true → is_ended (u ++ x) ≡ true) → (g || is_ended (cond (g || c) [] (codes " ") ++ (u ++ x))) ≡ true
    go true c h = refl
    go false true h = h refl
    go false false h = refl

gap_past : (g : Bool) (u x : List ℕ) → StartsText u → past false false (gap_before g u ++ (u ++ x)) ≡ u ++ x
gap_past g u x s = go (g || no_space_before u)
  where
    go : (c : Bool) → past false false (cond c [] (codes " ") ++ (u ++ x)) ≡ u ++ x
    go true = past_token false u x s
    go false = past_token false u x s

-- the tokens behind one another, with a line's end behind them
tokens_lexed : (front t : List ℕ) (ts : List (List ℕ)) (lead rest : List ℕ) (texts : List (List ℕ)) → Each Stays (t ∷ ts) → past false false (10 ∷ lead ++ rest) ≡ rest → ((before : List ℕ) → Lexes before rest texts)
    → Lexes front (t ++ (behind (no_space_behind t) ts ++ (10 ∷ lead ++ rest))) (t ∷ (ts ++ texts))
tokens_lexed front t [] lead rest texts each blanks more = step front t (10 ∷ lead) rest texts each.0 (last (no_space_behind t)) blanks (more (front ++ (t ++ 10 ∷ lead)))
  where
    last : (b : Bool) → (b || true) ≡ true
    last true = refl
    last false = refl
tokens_lexed front t (u ∷ us) lead rest texts each blanks more =
    let tail = 10 ∷ lead ++ rest in
    let gap = gap_before (no_space_behind t) u in
    let after = behind (no_space_behind u) us in
    let next = u ++ (after ++ tail) in
    let flat : gap ++ next ≡ (gap ++ (u ++ after)) ++ tail = ap (λ r. gap ++ r) (sym (append_assoc u after tail)) ∙ sym (append_assoc gap (u ++ after) tail) in
    subst (λ r. Lexes front (t ++ r) (t ∷ (u ∷ (us ++ texts)))) flat
    (step front t gap next (u ∷ (us ++ texts)) each.0 (gap_follows t u (after ++ tail)) (gap_past (no_space_behind t) u (after ++ tail) each.1.0.starts)
    (tokens_lexed (front ++ (t ++ gap)) u us lead rest texts each.1 blanks more))

-- ---- lines

abbrev pub IsLine : Line → Type 0
IsLine l = (t : List ℕ) × (ts : List (List ℕ)) × (l.tokens ≡ t ∷ ts) × Each Stays (t ∷ ts)

abbrev pub AreLines : List Line → Type 0
AreLines [] = Unit {0}
AreLines (l ∷ ls) = IsLine l × AreLines ls

-- the text of lines is the first one's indent and the rest
abbrev lead_of : List Line → List ℕ
lead_of [] = []
lead_of (l ∷ ls) = indent l.indented

abbrev body_of : List Line → List ℕ
body_of [] = []
body_of (l ∷ ls) = spaced l.tokens ++ (10 ∷ text_of ls)

text_is : (ls : List Line) → text_of ls ≡ lead_of ls ++ body_of ls
text_is [] = refl
text_is (l ∷ ls) = append_assoc (indent l.indented) (spaced l.tokens ++ 10 ∷ []) (text_of ls) ∙ ap (λ r. indent l.indented ++ r) (append_assoc (spaced l.tokens) (10 ∷ []) (text_of ls))

-- on a fresh line the indent is past, and then a token begins
lead_past : (ls : List Line) → AreLines ls → past false true (lead_of ls ++ body_of ls) ≡ body_of ls
lead_past [] are = refl
lead_past (l ∷ ls) are =
    let t = are.0.0 in
    let ts = are.0.1 in
    let x = behind (no_space_behind t) ts ++ (10 ∷ text_of ls) in
    let flat : body_of (l ∷ ls) ≡ t ++ x = ap (λ r. spaced r ++ (10 ∷ text_of ls)) are.0.2 ∙ ap (λ r. r ++ (10 ∷ text_of ls)) (spaced_is t ts) ∙ append_assoc t (behind (no_space_behind t) ts) (10 ∷ text_of ls) in
    ap (λ r. past false true (indent l.indented ++ r)) flat ∙ go l.indented t x are.0.3.0.starts ∙ sym flat
  where
    go : (b : Bool) (t x : List ℕ) → StartsText t → past false true (indent b ++ (t ++ x)) ≡ t ++ x
    go true t x s = past_token true t x s
    go false t x s = past_token true t x s

lines_lexed : (ls : List Line) → AreLines ls → (front : List ℕ) → Lexes front (body_of ls) (token_texts ls)
lines_lexed [] are front = ([], refl, tt)
lines_lexed (l ∷ ls) are front =
    let t = are.0.0 in
    let ts = are.0.1 in
    let tail = 10 ∷ (lead_of ls ++ body_of ls) in
    let flat : t ++ (behind (no_space_behind t) ts ++ tail) ≡ body_of (l ∷ ls) =
    sym (append_assoc t (behind (no_space_behind t) ts) tail) ∙ ap (λ r. r ++ tail) (sym (spaced_is t ts)) ∙ ap (λ r. spaced r ++ tail) (sym are.0.2) ∙ ap (λ r. spaced l.tokens ++ 10 ∷ r) (sym (text_is ls)) in
    subst (λ r. Lexes front r (token_texts (l ∷ ls))) flat
    (subst (λ r. Lexes front (t ++ (behind (no_space_behind t) ts ++ tail)) (r ++ token_texts ls)) (sym are.0.2)
    (tokens_lexed front t ts (lead_of ls) (body_of ls) (token_texts ls) are.0.3 (lead_past ls are.1) (lines_lexed ls are.1)))

pub text_lexed : (ls : List Line) → AreLines ls → (ts : List Token) × AreTokens (text_of ls) ts × Spell (seen (text_of ls) ts) (token_texts ls)
text_lexed ls are =
    let lexed = lines_lexed ls are (lead_of ls) in
    subst (λ b. (ts : List Token) × AreTokens b ts × Spell (seen b ts) (token_texts ls)) (sym (text_is ls))
    (lexed.0, subst (λ r. PartsInto (length (lead_of ls ++ body_of ls)) r lexed.0) (sym (lead_past ls are)) lexed.1, lexed.2)
