use Rattle.std.proofs.Common.{◌∷◌, map, subst, sym}
use Rattle.state_sides.specs.Views.{child_seen}
use Rattle.sym_machine.specs.Explored.{setting_of}
use Rattle.sym_machine.specs.Turns.{waiting_seen, IsReady}
use Rattle.sym_machine.proofs.Stepping.{Did, did-stop}
use Rattle.sym_machine.proofs.exploring.Exploration.task.Goals as goal

pub returns-in-Stop : goal.returns-in-Stop
returns-in-Stop g c =
    subst (λ child. Did (setting_of c.args.self.now.machine.scope.program.now c.args.self.now.options) c.keep.result (child_seen child ∷ waiting_seen c.args.waiting.now.items) (waiting_seen c.args.waiting.now.items) c.args.leaves.now.items c.keep.new.leaves.items) (sym c.in-Stop.is)
    (did-stop (setting_of c.args.self.now.machine.scope.program.now c.args.self.now.options) c.in-Stop.leaf (waiting_seen c.args.waiting.now.items) c.args.leaves.now.items c.keep.new.leaves.items c.keep.result
    (subst (λ child. IsReady c.args.self.now.options.input (child_seen child)) c.in-Stop.is c.requires.ready) c.keep.ensures c.requires.others)
