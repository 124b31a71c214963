-- The terms of bytes, one after the other.
use Rattle.std.proofs.Common.{◌≡◌, ℕ, ◌+◌, ◌<◌, List, [], ◌∷◌, ◌++◌, Option, Some, None, drop, length, get_or, refl, sym, ap, ◌∙◌, append_assoc, suc, arith}
use Rattle.std.proofs.Math.Seq.{drop-cons}
use Rattle.terms.specs.Tree.{Tree, width_of}
use Rattle.terms.specs.Joining.{AreBytes}
use Rattle.sym_bytes.specs.Byte as byte
use Rattle.sym_bytes.specs.Byte.{SymByte}
use Rattle.sym_bytes.specs.Joining.{put_before, ints_of}
use Rattle.sym_bytes.proofs.Lists.{in_front}

front_more : {A : Type 0} (made : List A) (t : A) (o : Option (List A)) → in_front (made ++ t ∷ []) o ≡ in_front made (put_before (Some t) o)
front_more made t None = refl
front_more made t (Some more) = ap Some (append_assoc made (t ∷ []) more)

-- what is left begins with the element at its place
pub item_first : {A : Type 0} (xs : List A) (i : ℕ) (x : A) → i < length xs → x ≡ get_or xs i x → drop i xs ≡ x ∷ drop (i + 1) xs
item_first xs i x within is = drop-cons xs i x within ∙ (λ j. sym is j ∷ drop (step j) xs)
  where
    step : suc i ≡ i + 1
    step = omega arith

pub next_int : (made list : List Tree) (bs : List SymByte) (i : ℕ) (b : SymByte) (t : Tree) (all : Option (List Tree))
    → drop i bs ≡ b ∷ drop (i + 1) bs → byte.Int t ≡ b → list ≡ made ++ t ∷ []
    → in_front made (ints_of (drop i bs)) ≡ all → in_front list (ints_of (drop (i + 1) bs)) ≡ all
next_int made list bs i b t all left is pushed before =
    ap (λ l. in_front l (ints_of (drop (i + 1) bs))) pushed
    ∙ front_more made t (ints_of (drop (i + 1) bs))
    ∙ ap (λ c. in_front made (ints_of (c ∷ drop (i + 1) bs))) is
    ∙ ap (λ l. in_front made (ints_of l)) (sym left)
    ∙ before

pub bytes_more : (ts : List Tree) (t : Tree) → AreBytes ts → width_of t ≡ 8 → AreBytes (ts ++ t ∷ [])
bytes_more [] t h w = (w, tt)
bytes_more (u ∷ ts) t h w = (h.0, bytes_more ts t h.1 w)

pub length_more : {A : Type 0} (xs : List A) (x : A) → length (xs ++ x ∷ []) ≡ length xs + 1
length_more [] x = refl
length_more (y ∷ xs) x = ap suc (length_more xs x) ∙ omega arith
