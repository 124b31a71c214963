use Rattle.std.proofs.Common.{sym, subst}
use Rattle.flat_ir.specs.Whole.{IsWhole}
use Rattle.bench_programs.proofs.ChoosingWhole.{choosing_is_whole}
use Rattle.bench_programs.proofs.pointers.program_of.Goals as goal

pub new-requires : goal.new-requires
new-requires c = subst IsWhole (sym c.in_ok-parts_of.ensures) (choosing_is_whole c.args.sites c.args.choices c.requires.some c.requires.few c.requires.choices)
