use Rattle.std.proofs.Common.{map, ap, sym, ◌∙◌, arith}
use Rattle.sym_states.specs.States.{Goes, Forks, Needs, Ends}
use Rattle.state_sides.specs.Views.{state_seen, child_seen, needed_seen, step_seen, context_of}
use Rattle.sym_machine.specs.Explored.{setting_of}
use Rattle.sym_machine.specs.Turns.{waiting_seen}
use Rattle.sym_machine.proofs.Stepping.{is-fitting, own-fits, stepped, did-goes, did-ends, did-forks}
use Rattle.sym_machine.proofs.exploring.Exploration.turn.Goals as goal

pub unreachable-requires : goal.unreachable-requires
unreachable-requires g c =
    (stepped c.args.self.now.machine.scope c.args.self.now.options (state_seen c.args.state) (Needs (state_seen c.in-Needs.field-0) (map needed_seen c.in-Needs.field-1.items)) c.requires.set_up c.requires.ready
    (sym (ap step_seen c.in-Needs.is) ∙ c.in_ok-step.ensures.attempt)).no_calls

pub returns-in-Goes : goal.returns-in-Goes
returns-in-Goes g c =
    did-goes (setting_of c.args.self.now.machine.scope.program.now c.args.self.now.options) (state_seen c.args.state) (state_seen c.in-Goes.next) (waiting_seen c.args.waiting.now.items) (waiting_seen c.wait.new.waiting.items) c.args.leaves.now.items c.wait.result
    (stepped c.args.self.now.machine.scope c.args.self.now.options (state_seen c.args.state) (Goes (state_seen c.in-Goes.next)) c.requires.set_up c.requires.ready (sym (ap step_seen c.in-Goes.is) ∙ c.in_ok-step.ensures.attempt))
    c.wait.ensures c.requires.others

pub returns-in-Ends : goal.returns-in-Ends
returns-in-Ends g c =
    did-ends (setting_of c.args.self.now.machine.scope.program.now c.args.self.now.options) (state_seen c.args.state) c.in-Ends.leaf (waiting_seen c.args.waiting.now.items) c.args.leaves.now.items c.keep.new.leaves.items c.keep.result
    (stepped c.args.self.now.machine.scope c.args.self.now.options (state_seen c.args.state) (Ends c.in-Ends.leaf) c.requires.set_up c.requires.ready (sym (ap step_seen c.in-Ends.is) ∙ c.in_ok-step.ensures.attempt))
    c.keep.ensures c.requires.others

pub returns-in-Forks : goal.returns-in-Forks
returns-in-Forks g c =
    did-forks (setting_of c.args.self.now.machine.scope.program.now c.args.self.now.options) (state_seen c.args.state) (map child_seen c.in-Forks.children.items) (waiting_seen c.args.waiting.now.items) (waiting_seen c.put_back.new.waiting.items) c.args.leaves.now.items c.put_back.result
    (stepped c.args.self.now.machine.scope c.args.self.now.options (state_seen c.args.state) (Forks (map child_seen c.in-Forks.children.items)) c.requires.set_up c.requires.ready (sym (ap step_seen c.in-Forks.is) ∙ c.in_ok-step.ensures.attempt))
    c.put_back.ensures c.requires.others

pub advance-requires-clause-budget : goal.advance-requires-clause-budget
advance-requires-clause-budget g c κs within = omega (arith, c.requires.set_up.some, c.requires.set_up.budget)

pub advance-requires-clause-fitting : goal.advance-requires-clause-fitting
advance-requires-clause-fitting g c κs within = is-fitting c.args.self.now.machine.scope c.args.self.now.options c.requires.set_up

pub advance-requires-clause-fits : goal.advance-requires-clause-fits
advance-requires-clause-fits g c κs within = own-fits c.args.self.now.options.input (state_seen c.args.state) c.requires.ready
