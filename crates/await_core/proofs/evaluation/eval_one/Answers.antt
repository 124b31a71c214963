use Rattle.await_core.proofs.Evaluations.{Evaluates-unique, node_evaluable}
use Rattle.await_core.proofs.evaluation.eval_one.Goals as goal

pub returns-clause-exists : goal.returns-clause-exists
returns-clause-exists g c =
    let laws = (g.met.T.Tree g.world.𝓛 g.world.𝓜 g.world.𝓡 ((λ s x. x), (λ x. x), (λ x. x), λ x. x)).laws c.args.tree.now in
    let e = node_evaluable (g.T.Tree.meaning c.args.tree.now) laws c.args.root.now c.requires in
    (e.leaves, (e.tasks, e.evaluates))

pub returns-clause-unique : goal.returns-clause-unique
returns-clause-unique g c one other a b = (Evaluates-unique (g.T.Tree.meaning c.args.tree.now) a.1 b.1).0

pub returns-in_err-answer-clause-exists : goal.returns-in_err-answer-clause-exists
returns-in_err-answer-clause-exists g c =
    let laws = (g.met.T.Tree g.world.𝓛 g.world.𝓜 g.world.𝓡 ((λ s x. x), (λ x. x), (λ x. x), λ x. x)).laws c.args.tree.now in
    let e = node_evaluable (g.T.Tree.meaning c.args.tree.now) laws c.args.root.now c.requires in
    (e.leaves, (e.tasks, e.evaluates))

pub returns-in_err-answer-clause-unique : goal.returns-in_err-answer-clause-unique
returns-in_err-answer-clause-unique g c one other a b = (Evaluates-unique (g.T.Tree.meaning c.args.tree.now) a.1 b.1).0

pub returns-in_err-all-clause-exists : goal.returns-in_err-all-clause-exists
returns-in_err-all-clause-exists g c =
    let laws = (g.met.T.Tree g.world.𝓛 g.world.𝓜 g.world.𝓡 ((λ s x. x), (λ x. x), (λ x. x), λ x. x)).laws c.args.tree.now in
    let e = node_evaluable (g.T.Tree.meaning c.args.tree.now) laws c.args.root.now c.requires in
    (e.leaves, (e.tasks, e.evaluates))

pub returns-in_err-all-clause-unique : goal.returns-in_err-all-clause-unique
returns-in_err-all-clause-unique g c one other a b = (Evaluates-unique (g.T.Tree.meaning c.args.tree.now) a.1 b.1).0
