-- How the code's states, steps and contexts show themselves: the same, with no table of terms.
use Rattle.std.specs.Prelude.{◌≡◌, ℕ, List, [], ◌∷◌, map, Option, Some, None}
use Rattle.terms.specs.Tree.{Tree}
use Rattle.decider.specs.Decided.{decided}
use Rattle.decider.specs.declared.Verdict as decider
use Rattle.decider.specs.declared.Verdict.TheVariants as decision
use Rattle.flat_ir.specs.declared.names.FuncId.{FuncId}
use Rattle.flat_ir.specs.declared.nodes.RegType.{RegType}
use Rattle.flat_ir.specs.declared.program.ProgramData.{ProgramData}
use Rattle.flat_ir.specs.Machine.{func_at}
use Rattle.sym_states.specs.Attempts.{result_type}
use Rattle.sym_states.specs.Verdicts.{Verdict, Sat, Unsat, Spent}
use Rattle.sym_states.specs.States as states
use Rattle.state_sides.specs.declared.states.Child.{Child}
use Rattle.state_sides.specs.declared.states.Child.TheVariants.{Go, Stop}
use Rattle.state_sides.specs.declared.states.Flow.{Flow}
use Rattle.state_sides.specs.declared.states.Flow.TheVariants.{On, Over}
use Rattle.state_sides.specs.declared.states.Needed.{Needed}
use Rattle.state_sides.specs.declared.states.Scope.{Scope}
use Rattle.state_sides.specs.declared.states.State.{State}
use Rattle.state_sides.specs.declared.states.Step.{Step}
use Rattle.state_sides.specs.declared.states.Step.TheVariants.{Goes, Forks, Needs, Ends}

abbrev pub result_in : ProgramData → FuncId → Option RegType
result_in p f = result_type (func_at p f)

abbrev pub verdict_of : decider.Verdict → Verdict
verdict_of (decision.Sat input) = Sat input
verdict_of decision.Unsat = Unsat
verdict_of decision.Spent = Spent

-- the verdict on a condition over inputs of so many bytes, by a budget of conflicts
abbrev pub verdict_by : ℕ → List Tree → ℕ → Verdict
verdict_by budget condition inputs = verdict_of (decided condition inputs budget)

abbrev pub needed_seen : Needed → states.Needed
needed_seen n = record { call = n.call; at = n.at }

module _ {H K : Type 0} where
  abbrev pub state_seen : State H K → states.State
  state_seen s = record {
    frame = s.frame;
    callers = s.callers;
    memory = s.memory;
    snapshots = s.snapshots;
    condition = s.condition;
    kept = s.kept;
    path = s.path;
    left = s.left;
    shares = s.shares;
    target = s.target;
  }

  abbrev pub child_seen : Child H K → states.Child
  child_seen (Go s) = states.Go (state_seen s)
  child_seen (Stop l) = states.Stop l

  abbrev pub step_seen : Step H K → states.Step
  step_seen (Goes s) = states.Goes (state_seen s)
  step_seen (Forks children) = states.Forks (map child_seen children.items)
  step_seen (Needs s calls) = states.Needs (state_seen s) (map needed_seen calls.items)
  step_seen (Ends l) = states.Ends l

  -- what goes on is seen in its own way
  abbrev pub flow_seen : {A B : Type 0} → (A → B) → Flow H K A → states.Flow B
  flow_seen seen (On x) = states.On (seen x)
  flow_seen seen (Over step) = states.Over (step_seen step)

abbrev pub context_of : Scope → states.Context
context_of c = record {
  program = c.program.now;
  skips = c.skips.now;
  mods = c.mods.now;
  residual = c.residual.now;
  verdict = verdict_by c.budget;
}
