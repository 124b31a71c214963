-- The verdicts that the code decides are right.
use Rattle.std.proofs.Common.{◌≡◌, ℕ, ◌≤◌, List, [], ◌∷◌, length, refl, ap, All}
use Rattle.std.specs.List.{AllByRecursion as Each}
use Rattle.std.proofs.lemmas.List.Elements.{All-from_recursion}
use Rattle.decider.specs.Decided.{decided}
use Rattle.decider.specs.declared.Verdict as decider
use Rattle.decider.specs.declared.Verdict.TheVariants as decision
use Rattle.decider.proofs.DecidedLemmas.{sat_meets, sat_size, sat_bytes, sat_is_least, unsat_none}
use Rattle.term_bits.specs.Conditions.{IsConjunct}
use Rattle.terms.specs.Tree.{Tree}
use Rattle.terms.specs.Value.{ReadsBelow}
use Rattle.leaves.specs.Fitting.{AreTermsOf}
use Rattle.sym_states.specs.Verdicts.{Sat, Unsat, Spent}
use Rattle.state_sides.specs.Views.{verdict_of, verdict_by}
use Rattle.right_leaves.specs.Right.{AreRightVerdicts}

conjuncts : (n : ℕ) (c : List Tree) → AreTermsOf n 1 c → Each IsConjunct c
conjuncts n [] h = tt
conjuncts n (t ∷ c) h = (record { tree = h.0.term.tree; one_bit = h.0.has_width }, conjuncts n c h.1)

conjuncts-all : (n : ℕ) (c : List Tree) → AreTermsOf n 1 c → All IsConjunct c
conjuncts-all n c h = All-from_recursion IsConjunct c (conjuncts n c h)

reads : (n : ℕ) (c : List Tree) → AreTermsOf n 1 c → Each (ReadsBelow n) c
reads n [] h = tt
reads n (t ∷ c) h = (h.0.term.reads, reads n c h.1)

reads-all : (n : ℕ) (c : List Tree) → AreTermsOf n 1 c → All (ReadsBelow n) c
reads-all n c h = All-from_recursion (ReadsBelow n) c (reads n c h)

sat-is : (d : decider.Verdict) (input : List ℕ) → verdict_of d ≡ Sat input → d ≡ decision.Sat input
sat-is (decision.Sat given) input e = ap (λ v. decision.Sat (elim v [ Sat bytes ↦ bytes | Unsat ↦ given | Spent ↦ given ])) e
sat-is decision.Unsat input e = cc
sat-is decision.Spent input e = cc

unsat-is : (d : decider.Verdict) → verdict_of d ≡ Unsat → d ≡ decision.Unsat
unsat-is (decision.Sat given) e = cc
unsat-is decision.Unsat e = refl
unsat-is decision.Spent e = cc

pub decided-size : (budget : ℕ) (condition : List Tree) (n : ℕ) (input : List ℕ) → n ≤ 64 → verdict_by budget condition n ≡ Sat input → length input ≡ n
decided-size budget condition n input most e = sat_size condition n budget input most (sat-is (decided condition n budget) input e)

pub decided-right : (budget n : ℕ) → n ≤ 64 → AreRightVerdicts (verdict_by budget) n
decided-right budget n most = record {
  sat = λ c input terms e.
      let is = sat-is (decided c n budget) input e in
      record {
        fits = (sat_size c n budget input most is, sat_bytes c n budget input is);
        met = sat_meets c n budget input (conjuncts-all n c terms) (reads-all n c terms) is;
        least = λ other fits meets. sat_is_least c n budget input other (conjuncts-all n c terms) most is fits.0 fits.1 meets;
      };
  unsat = λ c input terms e. unsat_none c n budget input (conjuncts-all n c terms) (unsat-is (decided c n budget) e);
}
