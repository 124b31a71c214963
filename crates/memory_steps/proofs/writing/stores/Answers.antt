use Rattle.std.proofs.Common.{◌≤◌, length, subst, sym}
use Rattle.state_laws.proofs.Values.{stored_bytes-fits}
use Rattle.memory_steps.proofs.writing.stores.Goals as goal

pub writes-requires-clause-few : goal.writes-requires-clause-few
writes-requires-clause-few g c κs within = subst (λ bytes. length bytes ≤ 8) (sym c.in_ok-bytes.ensures) (stored_bytes-fits (length c.args.state.kept) c.args.value.now c.requires.value).few
