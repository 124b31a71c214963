use Rattle.std.proofs.Common.{sym, subst}
use Rattle.state_laws.specs.Kept.{IsShortType}
use Rattle.state_laws.proofs.Programs.{type_at-short}
use Rattle.sym_machine.proofs.remembering.loads_here.Goals as goal

pub loads_at-requires-clause-short : goal.loads_at-requires-clause-short
loads_at-requires-clause-short g c κs within = subst IsShortType (sym c.type_at-of.ensures) (type_at-short c.args.machine.now.scope.program.now c.func.result c.args.register c.requires.program.regs)
