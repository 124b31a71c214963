use Rattle.std.proofs.Common.{◌≡◌, ℕ, List}
use Rattle.terms.specs.Tree.{width_of, width_of_two, IsTree}
use Rattle.terms.specs.Folding.{folded_two}
use Rattle.terms.specs.Value.{two_of, value_of, ReadsBelow}
use Rattle.terms.proofs.Folds.{value-folded_two, width-folded_two, made_has}
use Rattle.terms.proofs.Kept.{tree-folded_two, reads-folded_two}
use Rattle.terms.proofs.build.two.Goals as goal

pub returns-clause-width : goal.returns-clause-width
returns-clause-width g c =
    made_has _ (folded_two c.args.op c.args.a.now c.args.b.now) (λ t. width_of t ≡ width_of_two c.args.op (width_of c.args.a.now) (width_of c.args.b.now))
    (width-folded_two c.args.op c.args.a.now c.args.b.now c.fold_two.ensures.operands) c.fold_two.ensures.folded

pub returns-clause-tree : goal.returns-clause-tree
returns-clause-tree g c =
    made_has _ (folded_two c.args.op c.args.a.now c.args.b.now) IsTree
    (tree-folded_two c.args.op c.args.a.now c.args.b.now c.fold_two.ensures.operands) c.fold_two.ensures.folded

pub returns-clause-reads : goal.returns-clause-reads
returns-clause-reads g c count p q =
    made_has _ (folded_two c.args.op c.args.a.now c.args.b.now) (ReadsBelow count)
    (reads-folded_two count c.args.op c.args.a.now c.args.b.now p q) c.fold_two.ensures.folded

pub returns-clause-value : goal.returns-clause-value
returns-clause-value g c =
    made_has _ (folded_two c.args.op c.args.a.now c.args.b.now)
    (λ t. (input : List ℕ) → value_of t input ≡ two_of c.args.op (value_of c.args.a.now input) (value_of c.args.b.now input))
    (λ bytes. value-folded_two c.args.op c.args.a.now c.args.b.now bytes c.fold_two.ensures.operands) c.fold_two.ensures.folded
