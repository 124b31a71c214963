use Rattle.std.proofs.Common.{◌≡◌, ◌-◌, length}
use Rattle.sym_states.specs.Attempts.{read_all, before}
use Rattle.sym_states.specs.States.{then_flow}
use Rattle.state_laws.specs.Kept.{StateFitsAt}
use Rattle.state_sides.specs.Views.{state_seen, context_of}
use Rattle.memory_steps.proofs.reading.read_all.Given as goal

-- what is left to be read leads to the whole
abbrev pub invariant-bytes : goal.invariant-bytes
invariant-bytes g l = record {
  leads : then_flow (read_all (context_of l.machine.scope) l.object l.offset (l.count - l.j) l.j (state_seen l.state)) (before l.bytes) ≡ read_all (context_of l.machine.scope) l.object l.offset l.count 0 (state_seen l.fn.state);
  fits : StateFitsAt (length l.fn.state.kept) (state_seen l.state);
}
