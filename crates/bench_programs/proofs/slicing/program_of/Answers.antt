use Rattle.std.proofs.Common.{sym, subst}
use Rattle.flat_ir.specs.Whole.{IsWhole}
use Rattle.bench_programs.proofs.SteppingWhole.{program_is_whole}
use Rattle.bench_programs.proofs.slicing.program_of.Goals as goal

pub new-requires : goal.new-requires
new-requires c = subst IsWhole (sym c.in_ok-parts_of.ensures) (program_is_whole c.args.steps c.args.functions c.requires.steps c.requires.functions)
