use Rattle.std.proofs.Common.{[], ◌∷◌, ap, ◌∙◌}
use Rattle.sym_states.specs.Exploring.{first_state}
use Rattle.sym_states.specs.States.{Go}
use Rattle.state_sides.specs.Views.{state_seen, child_seen}
use Rattle.sym_machine.specs.Explored.{setting_of}
use Rattle.sym_machine.specs.Turns.{waiting_seen}
use Rattle.sym_machine.proofs.Stepping.{starts, goes-round, child-ready, comes-to-end}
use Rattle.sym_machine.proofs.exploring.Exploration.leaves.Goals as goal

pub tasks-init : goal.tasks-init
tasks-init g c =
    starts (setting_of c.args.self.now.machine.scope.program.now c.args.self.now.options) (state_seen c.in_ok-first.field-0) (waiting_seen c.wait.new.waiting.items) c.new-leaves.result.items c.requires.set_up.few c.requires.globals
    c.in_ok-first.ensures (c.in_ok-wait.ensures ∙ ap (λ old. Go (state_seen c.in_ok-first.field-0) ∷ waiting_seen old) c.new-waiting.ensures.items) c.new-leaves.ensures.items

pub returns-in-None-clause-leaves : goal.returns-in-None-clause-leaves
returns-in-None-clause-leaves g c = comes-to-end (setting_of c.args.self.now.machine.scope.program.now c.args.self.now.options) (waiting_seen c.tasks.waiting.items) c.tasks.leaves.items c.tasks.invariant c.in-None.ensures

pub tasks-preserved : goal.tasks-preserved
tasks-preserved g c =
    goes-round (setting_of c.args.self.now.machine.scope.program.now c.args.self.now.options) (Go (first_state (setting_of c.args.self.now.machine.scope.program.now c.args.self.now.options)) ∷ []) (waiting_seen c.tasks.waiting.items) (child_seen c.in-Some.child) (waiting_seen c.next.new.waiting.items) (waiting_seen c.task.new.waiting.items) c.tasks.leaves.items c.task.new.leaves.items
    c.tasks.invariant c.in-Some.ensures c.in_ok-task-in-Some.ensures

pub task-requires-clause-ready : goal.task-requires-clause-ready
task-requires-clause-ready g c κs within =
    (child-ready (setting_of c.args.self.now.machine.scope.program.now c.args.self.now.options) (Go (first_state (setting_of c.args.self.now.machine.scope.program.now c.args.self.now.options)) ∷ []) (waiting_seen c.tasks.waiting.items) (child_seen c.in-Some.child) (waiting_seen c.next.new.waiting.items) c.tasks.leaves.items c.tasks.invariant c.in-Some.ensures).0

pub task-requires-clause-others : goal.task-requires-clause-others
task-requires-clause-others g c κs within =
    (child-ready (setting_of c.args.self.now.machine.scope.program.now c.args.self.now.options) (Go (first_state (setting_of c.args.self.now.machine.scope.program.now c.args.self.now.options)) ∷ []) (waiting_seen c.tasks.waiting.items) (child_seen c.in-Some.child) (waiting_seen c.next.new.waiting.items) c.tasks.leaves.items c.tasks.invariant c.in-Some.ensures).1
