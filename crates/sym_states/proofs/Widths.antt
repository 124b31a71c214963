-- Terms over the first n bytes of input, of a width.
use Rattle.std.proofs.Common.{ℕ, List, [], ◌∷◌, ◌++◌, ◌<◌, ◌^◌, refl, sym, ◌∙◌, lit≤}
use Rattle.bitnum.specs.declared.BinOp.{BinOp}
use Rattle.bitnum.specs.declared.BinOp.TheVariants as op
use Rattle.terms.specs.declared.term.Unary.TheVariants.{Not}
use Rattle.terms.specs.declared.term.Binary.TheVariants.{Bin, Eq, Ult}
use Rattle.terms.specs.Folding.{folded_two, folded_choice}
use Rattle.terms.specs.Tree.{Tree}
use Rattle.terms.proofs.Folds.{width-folded_one, width-folded_two, width-folded_choice}
use Rattle.terms.proofs.Kept.{tree-folded_one, tree-folded_two, tree-folded_choice, reads-folded_one, reads-folded_two, reads-folded_choice}
use Rattle.term_store.specs.Condition.{negation}
use Rattle.sym_bytes.specs.Building.{number, wide, equal, behind}
use Rattle.leaves.specs.Fitting.{IsTermOf, AreTermsOf}

pub calculated-fits : (n w : ℕ) (o : BinOp) (a b : Tree) → IsTermOf n w a → IsTermOf n w b → IsTermOf n w (folded_two (Bin o) a b)
calculated-fits n w o a b h k =
    let alike = h.has_width ∙ sym k.has_width in
    record {
      term = record { tree = tree-folded_two (Bin o) a b (h.term.tree, k.term.tree, alike); reads = reads-folded_two n (Bin o) a b h.term.reads k.term.reads };
      has_width = width-folded_two (Bin o) a b (h.term.tree, k.term.tree, alike) ∙ h.has_width;
    }

pub equal-fits : (n w : ℕ) (a b : Tree) → IsTermOf n w a → IsTermOf n w b → IsTermOf n 1 (equal a b)
equal-fits n w a b h k =
    let alike = h.has_width ∙ sym k.has_width in
    record {
      term = record { tree = tree-folded_two Eq a b (h.term.tree, k.term.tree, alike); reads = reads-folded_two n Eq a b h.term.reads k.term.reads };
      has_width = width-folded_two Eq a b (h.term.tree, k.term.tree, alike);
    }

pub below-fits : (n w : ℕ) (a b : Tree) → IsTermOf n w a → IsTermOf n w b → IsTermOf n 1 (folded_two Ult a b)
below-fits n w a b h k =
    let alike = h.has_width ∙ sym k.has_width in
    record {
      term = record { tree = tree-folded_two Ult a b (h.term.tree, k.term.tree, alike); reads = reads-folded_two n Ult a b h.term.reads k.term.reads };
      has_width = width-folded_two Ult a b (h.term.tree, k.term.tree, alike);
    }

pub negation-fits : (n : ℕ) (t : Tree) → IsTermOf n 1 t → IsTermOf n 1 (negation t)
negation-fits n t h = record {
  term = record { tree = tree-folded_one Not t (h.term.tree, h.has_width); reads = reads-folded_one n Not t h.term.reads };
  has_width = width-folded_one Not t (h.term.tree, h.has_width);
}

pub choice-fits : (n w : ℕ) (c a b : Tree) → IsTermOf n 1 c → IsTermOf n w a → IsTermOf n w b → IsTermOf n w (folded_choice c a b)
choice-fits n w c a b g h k =
    let alike = h.has_width ∙ sym k.has_width in
    record {
      term = record { tree = tree-folded_choice c a b (g.term.tree, h.term.tree, k.term.tree, g.has_width, alike); reads = reads-folded_choice n c a b g.term.reads h.term.reads k.term.reads };
      has_width = width-folded_choice c a b alike ∙ h.has_width;
    }

pub wide-fits : (n k : ℕ) → k < 2 ^ 64 → IsTermOf n 64 (wide k)
wide-fits n k h = record { term = record { tree = record { width_is = record { least = lit≤ tt; most = lit≤ tt }; fits = h }; reads = tt }; has_width = refl }

pub byte-fits : (n k : ℕ) → k < 256 → IsTermOf n 8 (number 8 k)
byte-fits n k h = record { term = record { tree = record { width_is = record { least = lit≤ tt; most = lit≤ tt }; fits = h }; reads = tt }; has_width = refl }

pub behind-fits : (n : ℕ) (offset : Tree) (j : ℕ) → IsTermOf n 64 offset → j < 2 ^ 64 → IsTermOf n 64 (behind offset j)
behind-fits n offset j h below = calculated-fits n 64 op.Add offset (wide j) h (wide-fits n j below)

pub terms-append : (n w : ℕ) (ts us : List Tree) → AreTermsOf n w ts → AreTermsOf n w us → AreTermsOf n w (ts ++ us)
terms-append n w [] us h k = k
terms-append n w (t ∷ ts) us h k = (h.0, terms-append n w ts us h.1 k)
