use Rattle.std.proofs.Common.{[], ◌∷◌}
use Rattle.sym_states.specs.Exploring.{first_state}
use Rattle.sym_states.specs.States.{Go}
use Rattle.sym_machine.specs.Explored.{setting_of}
use Rattle.sym_machine.specs.Turns.{waiting_seen, Turned}
use Rattle.sym_machine.proofs.exploring.Exploration.leaves.Given as goal

abbrev pub invariant-tasks : goal.invariant-tasks
invariant-tasks g l = Turned (setting_of l.self.machine.scope.program.now l.self.options) (Go (first_state (setting_of l.self.machine.scope.program.now l.self.options)) ∷ []) (waiting_seen l.waiting.items) l.leaves.items
