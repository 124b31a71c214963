-- The tokens of a type end with it: each type is one token or stands between brackets, so a list of types is told from its tokens.
use Rattle.std.proofs.Common.{◌≡◌, ◌∙◌, ℕ, zero, suc, Bool, true, false, ◌||◌, ◌==◌, List, [], ◌∷◌, ◌++◌, map, refl, sym, ap, subst, append_assoc}
use Rattle.std.specs.Prelude.{codes}
use Rattle.std.proofs.lemmas.List.{append_cancel_right}
use Rattle.ir_tree.specs.Spelling.{opening, closing, others, separated, type_level, type_tokens}
use Rattle.ir_tree.specs.Texts.{integer_text, width_text, local_text}
use Rattle.ir_tree.specs.declared.types.IrType.{IrType, fold-roll-IrType, ind-IrType, roll-IrType, map-IrType}
use Rattle.ir_tree.specs.declared.types.IrType.TheOpen.{IrType-F}

abbrev Tokens : Type 0
Tokens = List (List ℕ)

-- ---- brackets

-- a square bracket has a length and a word behind it
pub data Mark : Type 0 where
  square : Mark
  brace : Mark
  close : Mark
  plain : Mark

abbrev byte_mark : ℕ → Mark
byte_mark b = elim (b == 91) [ true ↦ square | false ↦ elim (b == 123 || b == 60) [ true ↦ brace | false ↦ elim (b == 93 || b == 125) [ true ↦ close | false ↦ plain ] ] ]

abbrev mark : List ℕ → Mark
mark [] = plain
mark (b ∷ bs) = byte_mark b

-- what is behind the tokens that end so many open brackets, where some tokens are passed over first
abbrev through : Tokens → ℕ → ℕ → Tokens
through [] k d = []
through (t ∷ ts) (suc k) d = through ts k d
through (t ∷ ts) zero zero = elim (mark t) [ square ↦ through ts 2 1 | brace ↦ through ts 0 1 | close ↦ ts | plain ↦ through ts 0 0 ]
through (t ∷ ts) zero (suc d) = elim (mark t) [ square ↦ through ts 2 (suc (suc d)) | brace ↦ through ts 0 (suc (suc d)) | close ↦ through ts 0 d | plain ↦ through ts 0 (suc d) ]

-- what is behind one type
abbrev behind : Tokens → Tokens
behind [] = []
behind (t ∷ ts) = elim (mark t) [ square ↦ through ts 2 0 | brace ↦ through ts 0 0 | close ↦ ts | plain ↦ ts ]

-- ---- tokens that close what they open

abbrev Passed : Tokens → Type 0
Passed ts = (d : ℕ) (xs : Tokens) → through (ts ++ xs) 0 d ≡ through xs 0 d

plain_passed : (t : List ℕ) (d : ℕ) (xs : Tokens) → mark t ≡ plain → through (t ∷ xs) 0 d ≡ through xs 0 d
plain_passed t zero xs e = ap (λ (m : Mark). elim m [ square ↦ through xs 2 1 | brace ↦ through xs 0 1 | close ↦ xs | plain ↦ through xs 0 0 ]) e
plain_passed t (suc d) xs e = ap (λ (m : Mark). elim m [ square ↦ through xs 2 (suc (suc d)) | brace ↦ through xs 0 (suc (suc d)) | close ↦ through xs 0 d | plain ↦ through xs 0 (suc d) ]) e

brace_passed : (t : List ℕ) (d : ℕ) (xs : Tokens) → mark t ≡ brace → through (t ∷ xs) 0 d ≡ through xs 0 (suc d)
brace_passed t zero xs e = ap (λ (m : Mark). elim m [ square ↦ through xs 2 1 | brace ↦ through xs 0 1 | close ↦ xs | plain ↦ through xs 0 0 ]) e
brace_passed t (suc d) xs e = ap (λ (m : Mark). elim m [ square ↦ through xs 2 (suc (suc d)) | brace ↦ through xs 0 (suc (suc d)) | close ↦ through xs 0 d | plain ↦ through xs 0 (suc d) ]) e

square_passed : (t a b : List ℕ) (d : ℕ) (xs : Tokens) → mark t ≡ square → through (t ∷ a ∷ b ∷ xs) 0 d ≡ through xs 0 (suc d)
square_passed t a b zero xs e = ap (λ (m : Mark). elim m [ square ↦ through xs 0 1 | brace ↦ through (a ∷ b ∷ xs) 0 1 | close ↦ a ∷ b ∷ xs | plain ↦ through (a ∷ b ∷ xs) 0 0 ]) e
square_passed t a b (suc d) xs e =
    ap (λ (m : Mark). elim m [ square ↦ through xs 0 (suc (suc d)) | brace ↦ through (a ∷ b ∷ xs) 0 (suc (suc d)) | close ↦ through (a ∷ b ∷ xs) 0 d | plain ↦ through (a ∷ b ∷ xs) 0 (suc d) ]) e

close_passed : (t : List ℕ) (d : ℕ) (xs : Tokens) → mark t ≡ close → through (t ∷ xs) 0 (suc d) ≡ through xs 0 d
close_passed t d xs e = ap (λ (m : Mark). elim m [ square ↦ through xs 2 (suc (suc d)) | brace ↦ through xs 0 (suc (suc d)) | close ↦ through xs 0 d | plain ↦ through xs 0 (suc d) ]) e

close_last : (t : List ℕ) (xs : Tokens) → mark t ≡ close → through (t ∷ xs) 0 0 ≡ xs
close_last t xs e = ap (λ (m : Mark). elim m [ square ↦ through xs 2 1 | brace ↦ through xs 0 1 | close ↦ xs | plain ↦ through xs 0 0 ]) e

none_passed : Passed []
none_passed d xs = refl

both_passed : (ts us : Tokens) → Passed ts → Passed us → Passed (ts ++ us)
both_passed ts us p q d xs = ap (λ (zs : Tokens). through zs 0 d) (append_assoc ts us xs) ∙ (p d (us ++ xs) ∙ q d xs)

-- one token, or tokens between brackets
pub data Shaped : Tokens → Type 0 where
  single : (t : List ℕ) → mark t ≡ plain → Shaped (t ∷ [])
  braced : (o c : List ℕ) (inner : Tokens) → mark o ≡ brace → mark c ≡ close → Passed inner → Shaped (o ∷ (inner ++ c ∷ []))
  squared : (o a b c : List ℕ) (inner : Tokens) → mark o ≡ square → mark c ≡ close → Passed inner → Shaped (o ∷ a ∷ b ∷ (inner ++ c ∷ []))

ended : (inner : Tokens) (c : List ℕ) (d : ℕ) (xs : Tokens) → mark c ≡ close → Passed inner → through ((inner ++ c ∷ []) ++ xs) 0 (suc d) ≡ through xs 0 d
ended inner c d xs e p = ap (λ (zs : Tokens). through zs 0 (suc d)) (append_assoc inner (c ∷ []) xs) ∙ (p (suc d) (c ∷ xs) ∙ close_passed c d xs e)

ended_last : (inner : Tokens) (c : List ℕ) (xs : Tokens) → mark c ≡ close → Passed inner → through ((inner ++ c ∷ []) ++ xs) 0 0 ≡ xs
ended_last inner c xs e p = ap (λ (zs : Tokens). through zs 0 0) (append_assoc inner (c ∷ []) xs) ∙ (p 0 (c ∷ xs) ∙ close_last c xs e)

shaped_passed : (ts : Tokens) → Shaped ts → Passed ts
shaped_passed _ (single t e) = λ d xs. plain_passed t d xs e
shaped_passed _ (braced o c inner e f p) = λ d xs. brace_passed o d ((inner ++ c ∷ []) ++ xs) e ∙ ended inner c d xs f p
shaped_passed _ (squared o a b c inner e f p) = λ d xs. square_passed o a b d ((inner ++ c ∷ []) ++ xs) e ∙ ended inner c d xs f p

shaped_behind : (ts : Tokens) → Shaped ts → (xs : Tokens) → behind (ts ++ xs) ≡ xs
shaped_behind _ (single t e) = λ xs. ap (λ (m : Mark). elim m [ square ↦ through xs 2 0 | brace ↦ through xs 0 0 | close ↦ xs | plain ↦ xs ]) e
shaped_behind _ (braced o c inner e f p) = λ xs.
    let zs = (inner ++ c ∷ []) ++ xs in
    ap (λ (m : Mark). elim m [ square ↦ through zs 2 0 | brace ↦ through zs 0 0 | close ↦ zs | plain ↦ zs ]) e ∙ ended_last inner c xs f p
shaped_behind _ (squared o a b c inner e f p) = λ xs.
    let zs = (inner ++ c ∷ []) ++ xs in
    ap (λ (m : Mark). elim m [ square ↦ through zs 0 0 | brace ↦ through (a ∷ b ∷ zs) 0 0 | close ↦ a ∷ b ∷ zs | plain ↦ a ∷ b ∷ zs ]) e ∙ ended_last inner c xs f p

shaped_some : (ts xs : Tokens) → Shaped ts → ts ++ xs ≡ [] → ⊥
shaped_some _ xs (single t e) = λ h. cc
shaped_some _ xs (braced o c inner e f p) = λ h. cc
shaped_some _ xs (squared o a b c inner e f p) = λ h. cc

-- ---- lists

abbrev pub AllShaped : List Tokens → Type 0
AllShaped [] = Unit {0}
AllShaped (x ∷ xs) = Shaped x × AllShaped xs

comma_plain : mark (codes ",") ≡ plain
comma_plain = refl

others_passed : (xs : List Tokens) → AllShaped xs → Passed (others xs)
others_passed [] h = none_passed
others_passed (x ∷ xs) h = λ d ys. plain_passed (codes ",") d ((x ++ others xs) ++ ys) comma_plain ∙ both_passed x (others xs) (shaped_passed x h.0) (others_passed xs h.1) d ys

separated_passed : (xs : List Tokens) → AllShaped xs → Passed (separated xs)
separated_passed [] h = none_passed
separated_passed (x ∷ xs) h = both_passed x (others xs) (shaped_passed x h.0) (others_passed xs h.1)

-- the same front, and the same behind it
front_same : (x y xs ys : Tokens) → Shaped x → Shaped y → x ++ xs ≡ y ++ ys → (x ≡ y) × (xs ≡ ys)
front_same x y xs ys p q e =
    let rest : xs ≡ ys = sym (shaped_behind x p xs) ∙ (ap behind e ∙ shaped_behind y q ys) in
    (append_cancel_right x y ys (ap (λ (zs : Tokens). x ++ zs) (sym rest) ∙ e), rest)

no_comma : (x : Tokens) → codes "," ∷ x ≡ [] → ⊥
no_comma x e = cc

behind_comma : (x y : Tokens) → codes "," ∷ x ≡ codes "," ∷ y → x ≡ y
behind_comma x y e = cc

others_same : (xs ys : List Tokens) → AllShaped xs → AllShaped ys → others xs ≡ others ys → xs ≡ ys
others_same [] [] p q e = refl
others_same [] (y ∷ ys) p q e = absurd (no_comma (y ++ others ys) (sym e))
others_same (x ∷ xs) [] p q e = absurd (no_comma (x ++ others xs) e)
others_same (x ∷ xs) (y ∷ ys) p q e =
    let h = front_same x y (others xs) (others ys) p.0 q.0 (behind_comma (x ++ others xs) (y ++ others ys) e) in
    ap (λ (z : Tokens). z ∷ xs) h.0 ∙ ap (λ (zs : List Tokens). y ∷ zs) (others_same xs ys p.1 q.1 h.1)

pub separated_same : (xs ys : List Tokens) → AllShaped xs → AllShaped ys → separated xs ≡ separated ys → xs ≡ ys
separated_same [] [] p q e = refl
separated_same [] (y ∷ ys) p q e = absurd (shaped_some y (others ys) q.0 (sym e))
separated_same (x ∷ xs) [] p q e = absurd (shaped_some x (others xs) p.0 e)
separated_same (x ∷ xs) (y ∷ ys) p q e =
    let h = front_same x y (others xs) (others ys) p.0 q.0 e in
    ap (λ (z : Tokens). z ∷ xs) h.0 ∙ ap (λ (zs : List Tokens). y ∷ zs) (others_same xs ys p.1 q.1 h.1)

-- ---- types

abbrev TypeShaped : Type 0
TypeShaped = (t : IrType) × Shaped (type_tokens t)

types_within : (ts : List TypeShaped) → AllShaped (map type_tokens (map (λ e. e.0) ts))
types_within [] = tt
types_within (e ∷ es) = (e.1, types_within es)

struct_shaped : (packed : Bool) (inner : Tokens) → Passed inner → Shaped (opening packed ∷ (inner ++ closing packed ∷ []))
struct_shaped true inner p = braced (codes "<{") (codes "}>") inner refl refl p
struct_shaped false inner p = braced (codes "{") (codes "}") inner refl refl p

level_shaped : (y : IrType-F TypeShaped) → Shaped (type_level (map-IrType IrType Tokens type_tokens (map-IrType TypeShaped IrType (λ e. e.0) y)))
level_shaped (IrType-F.Int width) = single (width_text width) refl
level_shaped IrType-F.Ptr = single (codes "ptr") refl
level_shaped (IrType-F.Array at len element) =
    squared (codes "[") (integer_text (record { negative = false; magnitude = len })) (codes "x") (codes "]") (type_tokens element.0) refl refl (shaped_passed (type_tokens element.0) element.1)
level_shaped (IrType-F.Struct at fields packed) =
    let inner = map type_tokens (map (λ e. e.0) fields) in struct_shaped packed (separated inner) (separated_passed inner (types_within fields))
level_shaped (IrType-F.Named name at) = single (local_text name) refl

rolled : (x : IrType-F IrType) → type_tokens (roll-IrType x) ≡ type_level (map-IrType IrType Tokens type_tokens x)
unfolding type_tokens
rolled x = fold-roll-IrType Tokens type_level x

pub type_shaped : (t : IrType) → Shaped (type_tokens t)
type_shaped = ind-IrType (λ t. Shaped (type_tokens t)) (λ x y is.
    subst Shaped (sym (rolled x)) (subst (λ z. Shaped (type_level (map-IrType IrType Tokens type_tokens z))) is (level_shaped y)))
