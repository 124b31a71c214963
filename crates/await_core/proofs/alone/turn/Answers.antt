use Rattle.std.proofs.Common.{◌≡◌}
use Rattle.await_core.specs.Standing.{answer_for}
use Rattle.await_core.proofs.OnOwning.{work_own, answered, answer_nodes}
use Rattle.await_core.proofs.alone.turn.Goals as goal

pub perform-requires-after_bounds : goal.perform-requires-after_bounds
perform-requires-after_bounds g c κs within =
    let m = g.T.Tree.meaning c.args.tree.now in
    let laws = (g.met.T.Tree g.world.𝓛 g.world.𝓜 g.world.𝓡 ((λ s x. x), (λ x. x), (λ x. x), λ x. x)).laws c.args.tree.now in
    rw c.get.ensures (work_own m laws c.requires.0 c.args.board.now.records _ c.in-Task.ticket c.in-Task.work c.requires.1 c.requires.2.records.tasks c.in-Task.ensures.answer.3)

pub returns-in_err-made : goal.returns-in_err-made
returns-in_err-made g c root stands = c.take.ensures.stands (g.T.Tree.meaning c.args.tree.now).answers root stands

pub returns-in_err-post : goal.returns-in_err-post
returns-in_err-post g c root stands =
    let answers = (g.T.Tree.meaning c.args.tree.now).answers in
    let made : answer_for answers c.in-Task.work ≡ c.in_ok-made.made = rw c.get.ensures at c.in_ok-made.ensures in
    c.post.ensures.stands answers root (c.take.ensures.stands answers root stands)
    (answered answers c.args.board.now c.take.new.self c.in-Task.ticket c.in-Task.work c.in_ok-made.made c.in-Task.ensures.answer.4 c.in-Task.ensures.answer.3 made)

pub returns-in_ok-post : goal.returns-in_ok-post
returns-in_ok-post g c root stands =
    let answers = (g.T.Tree.meaning c.args.tree.now).answers in
    let made : answer_for answers c.in-Task.work ≡ c.in_ok-made.made = rw c.get.ensures at c.in_ok-made.ensures in
    c.post.ensures.stands answers root (c.take.ensures.stands answers root stands)
    (answered answers c.args.board.now c.take.new.self c.in-Task.ticket c.in-Task.work c.in_ok-made.made c.in-Task.ensures.answer.4 c.in-Task.ensures.answer.3 made)

pub post-requires : goal.post-requires
post-requires g c =
    let m = g.T.Tree.meaning c.args.tree.now in
    let laws = (g.met.T.Tree g.world.𝓛 g.world.𝓜 g.world.𝓡 ((λ s x. x), (λ x. x), (λ x. x), λ x. x)).laws c.args.tree.now in
    let own = work_own m laws c.requires.0 c.args.board.now.records _ c.in-Task.ticket c.in-Task.work c.requires.1 c.requires.2.records.tasks c.in-Task.ensures.answer.3 in
    let made : answer_for m.answers c.in-Task.work ≡ c.in_ok-made.made = rw c.get.ensures at c.in_ok-made.ensures in
    rw (← made) (answer_nodes m laws c.in-Task.work own)
