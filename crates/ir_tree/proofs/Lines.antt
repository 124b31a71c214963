-- Lines at the end of a text.
use Rattle.std.proofs.Common.{◌≡◌, ℕ, Bool, true, ◌+◌, ◌<◌, length, take, get_or, List, [], ◌∷◌, ◌++◌, refl, sym, ap, ◌∙◌, append_assoc}
use Rattle.std.specs.Prelude.{map}
use Rattle.std.proofs.lemmas.List.{append-nil, take_more, map_push}
use Rattle.ir_tree.specs.declared.instructions.Block.{Block}
use Rattle.ir_tree.specs.declared.module.FunctionDefinition.{FunctionDefinition}
use Rattle.ir_tree.specs.Texts.{no_space_behind, gap, spaced}
use Rattle.ir_tree.specs.Printing.{Line, indent, line_text, text_of, block_lines, blocks_lines, function_lines, functions_lines}
use Rattle.ir_tree.specs.Pages.{Written, begun, gap_before, with_token, after}

-- the tokens behind a token, or behind a place where none stands at once
abbrev pub behind : Bool → List (List ℕ) → List ℕ
behind glued [] = []
behind glued (t ∷ ts) = gap_before glued t ++ (t ++ behind (no_space_behind t) ts)

pub spaced_is : (t : List ℕ) (ts : List (List ℕ)) → spaced (t ∷ ts) ≡ t ++ behind (no_space_behind t) ts
spaced_is t [] = sym (append-nil t)
spaced_is t (u ∷ us) = ap (λ r. t ++ (gap t u ++ r)) (spaced_is u us)

text_after : (w : Written) (ts : List (List ℕ)) → (after w ts).text ≡ w.text ++ behind w.glued ts
unfolding with_token
text_after w [] = sym (append-nil w.text)
text_after w (t ∷ ts) =
    text_after (with_token w t) ts ∙ append_assoc w.text (gap_before w.glued t ++ t) (behind (no_space_behind t) ts) ∙ ap (λ r. w.text ++ r) (append_assoc (gap_before w.glued t) t (behind (no_space_behind t) ts))

first_behind : (ts : List (List ℕ)) → behind true ts ≡ spaced ts
first_behind [] = refl
first_behind (t ∷ ts) = sym (spaced_is t ts)

-- a line: its beginning, its tokens and its end
pub line_put : (l : Line) (w a b c : Written) → a ≡ begun w l.indented → b ≡ after a l.tokens → c.text ≡ b.text ++ 10 ∷ [] → c.text ≡ w.text ++ line_text l
line_put l w a b c ea eb ec =
    ec ∙ ap (λ r. r ++ 10 ∷ []) (ap (λ (u : Written). u.text) (eb ∙ ap (λ u. after u l.tokens) ea) ∙ text_after (begun w l.indented) l.tokens ∙ ap (λ r. (w.text ++ indent l.indented) ++ r) (first_behind l.tokens))
    ∙ append_assoc (w.text ++ indent l.indented) (spaced l.tokens) (10 ∷ []) ∙ append_assoc w.text (indent l.indented) (spaced l.tokens ++ 10 ∷ [])

-- ---- lines behind one another

pub text_append : (xs ys : List Line) → text_of (xs ++ ys) ≡ text_of xs ++ text_of ys
text_append [] ys = refl
text_append (x ∷ xs) ys = ap (λ r. line_text x ++ r) (text_append xs ys) ∙ sym (append_assoc (line_text x) (text_of xs) (text_of ys))

pub text_more : (xs ys : List Line) (w p q : List ℕ) → p ≡ w ++ text_of xs → q ≡ p ++ text_of ys → q ≡ w ++ text_of (xs ++ ys)
text_more xs ys w p q ep eq = eq ∙ ap (λ r. r ++ text_of ys) ep ∙ append_assoc w (text_of xs) (text_of ys) ∙ ap (λ r. w ++ r) (sym (text_append xs ys))

pub one_line : (l : Line) (p q : List ℕ) → q ≡ p ++ line_text l → q ≡ p ++ text_of (l ∷ [])
one_line l p q e = e ∙ ap (λ r. p ++ r) (sym (append-nil (line_text l)))

blocks_push : (bs : List Block) (b : Block) → blocks_lines (bs ++ b ∷ []) ≡ blocks_lines bs ++ block_lines b
blocks_push [] b = append-nil (block_lines b)
blocks_push (c ∷ cs) b = ap (λ r. block_lines c ++ r) (blocks_push cs b) ∙ sym (append_assoc (block_lines c) (blocks_lines cs) (block_lines b))

functions_push : (fs : List FunctionDefinition) (f : FunctionDefinition) → functions_lines (fs ++ f ∷ []) ≡ functions_lines fs ++ function_lines f
functions_push [] f = append-nil (function_lines f)
functions_push (g ∷ gs) f = ap (λ r. function_lines g ++ r) (functions_push gs f) ∙ sym (append_assoc (function_lines g) (functions_lines gs) (function_lines f))

pub lines_more : {A : Type 0} (f : A → Line) (xs : List A) (i : ℕ) (x : A) → i < length xs → x ≡ get_or xs i x → (w p q : List ℕ) → p ≡ w ++ text_of (map f (take i xs)) → q ≡ p ++ line_text (f x) → q ≡ w ++ text_of (map f (take (i + 1) xs))
lines_more f xs i x lt is w p q ep eq =
    text_more (map f (take i xs)) (f x ∷ []) w p q ep (one_line (f x) p q eq)
    ∙ ap (λ r. w ++ text_of r) (ap (λ y. map f (take i xs) ++ f y ∷ []) is ∙ sym (map_push f (take i xs) (get_or xs i x)) ∙ ap (map f) (sym (take_more xs i x lt)))

pub blocks_more : (bs : List Block) (i : ℕ) (b : Block) → i < length bs → b ≡ get_or bs i b → (w p q : List ℕ) → p ≡ w ++ text_of (blocks_lines (take i bs)) → q ≡ p ++ text_of (block_lines b) → q ≡ w ++ text_of (blocks_lines (take (i + 1) bs))
blocks_more bs i b lt is w p q ep eq =
    text_more (blocks_lines (take i bs)) (block_lines b) w p q ep eq
    ∙ ap (λ r. w ++ text_of r) (sym (blocks_push (take i bs) b) ∙ ap (λ c. blocks_lines (take i bs ++ c ∷ [])) is ∙ ap blocks_lines (sym (take_more bs i b lt)))

pub functions_more : (fs : List FunctionDefinition) (i : ℕ) (f : FunctionDefinition) → i < length fs → f ≡ get_or fs i f → (w p q : List ℕ) → p ≡ w ++ text_of (functions_lines (take i fs)) → q ≡ p ++ text_of (function_lines f)
    → q ≡ w ++ text_of (functions_lines (take (i + 1) fs))
functions_more fs i f lt is w p q ep eq =
    text_more (functions_lines (take i fs)) (function_lines f) w p q ep eq
    ∙ ap (λ r. w ++ text_of r) (sym (functions_push (take i fs) f) ∙ ap (λ g. functions_lines (take i fs ++ g ∷ [])) is ∙ ap functions_lines (sym (take_more fs i f lt)))

pub four_texts : (xs ys zs us : List Line) (w a b c d : List ℕ) → a ≡ w ++ text_of xs → b ≡ a ++ text_of ys → c ≡ b ++ text_of zs → d ≡ c ++ text_of us → d ≡ w ++ text_of (xs ++ (ys ++ (zs ++ us)))
four_texts xs ys zs us w a b c d ea eb ec ed =
    text_more xs (ys ++ (zs ++ us)) w a d ea (text_more ys (zs ++ us) a b d eb (text_more zs us b c d ec ed))

pub function_text : (first last : Line) (xs : List Line) (w a b c : List ℕ) → a ≡ w ++ line_text first → b ≡ a ++ text_of xs → c ≡ b ++ line_text last → c ≡ w ++ text_of (first ∷ (xs ++ last ∷ []))
function_text first last xs w a b c ea eb ec = text_more (first ∷ []) (xs ++ last ∷ []) w a c (one_line first w a ea) (text_more xs (last ∷ []) a b c eb (one_line last b c ec))
