use Rattle.std.proofs.Common.{◌≡◌, ℕ, List}
use Rattle.terms.specs.Tree.{width_of, width_of_one, IsTree}
use Rattle.terms.specs.Folding.{folded_one}
use Rattle.terms.specs.Value.{one_of, value_of, ReadsBelow}
use Rattle.terms.proofs.Folds.{value-folded_one, width-folded_one, made_has}
use Rattle.terms.proofs.Kept.{tree-folded_one, reads-folded_one}
use Rattle.terms.proofs.build.one.Goals as goal

pub returns-clause-width : goal.returns-clause-width
returns-clause-width g c =
    made_has _ (folded_one c.args.op c.args.a.now) (λ t. width_of t ≡ width_of_one c.args.op)
    (width-folded_one c.args.op c.args.a.now c.fold_one.ensures.operands) c.fold_one.ensures.folded

pub returns-clause-tree : goal.returns-clause-tree
returns-clause-tree g c =
    made_has _ (folded_one c.args.op c.args.a.now) IsTree (tree-folded_one c.args.op c.args.a.now c.fold_one.ensures.operands) c.fold_one.ensures.folded

pub returns-clause-reads : goal.returns-clause-reads
returns-clause-reads g c count p =
    made_has _ (folded_one c.args.op c.args.a.now) (ReadsBelow count) (reads-folded_one count c.args.op c.args.a.now p) c.fold_one.ensures.folded

pub returns-clause-value : goal.returns-clause-value
returns-clause-value g c =
    made_has _ (folded_one c.args.op c.args.a.now) (λ t. (input : List ℕ) → value_of t input ≡ one_of c.args.op (value_of c.args.a.now input))
    (λ bytes. value-folded_one c.args.op c.args.a.now bytes c.fold_one.ensures.operands) c.fold_one.ensures.folded
