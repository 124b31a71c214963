use Rattle.std.proofs.Common.{◌≡◌, ℕ, List}
use Rattle.std.specs.Prelude.{cond}
use Rattle.terms.specs.Tree.{width_of, IsTree}
use Rattle.terms.specs.Folding.{folded_choice}
use Rattle.terms.specs.Value.{is_yes, value_of, ReadsBelow}
use Rattle.terms.proofs.Folds.{value-folded_choice, width-folded_choice, made_has}
use Rattle.terms.proofs.Kept.{tree-folded_choice, reads-folded_choice}
use Rattle.terms.proofs.build.ite.Goals as goal

pub returns-clause-width : goal.returns-clause-width
returns-clause-width g c =
    made_has _ (folded_choice c.args.c.now c.args.a.now c.args.b.now) (λ t. width_of t ≡ width_of c.args.a.now)
    (width-folded_choice c.args.c.now c.args.a.now c.args.b.now c.requires.arms) c.fold_choice.ensures.folded

pub returns-clause-tree : goal.returns-clause-tree
returns-clause-tree g c =
    made_has _ (folded_choice c.args.c.now c.args.a.now c.args.b.now) IsTree
    (tree-folded_choice c.args.c.now c.args.a.now c.args.b.now c.fold_choice.ensures.operands) c.fold_choice.ensures.folded

pub returns-clause-reads : goal.returns-clause-reads
returns-clause-reads g c count o p q =
    made_has _ (folded_choice c.args.c.now c.args.a.now c.args.b.now) (ReadsBelow count)
    (reads-folded_choice count c.args.c.now c.args.a.now c.args.b.now o p q) c.fold_choice.ensures.folded

pub returns-clause-value : goal.returns-clause-value
returns-clause-value g c =
    made_has _ (folded_choice c.args.c.now c.args.a.now c.args.b.now)
    (λ t. (input : List ℕ) → value_of t input ≡ cond (is_yes (value_of c.args.c.now input)) (value_of c.args.a.now input) (value_of c.args.b.now input))
    (value-folded_choice c.args.c.now c.args.a.now c.args.b.now) c.fold_choice.ensures.folded
