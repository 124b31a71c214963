use Rattle.std.proofs.Common.{◌≡◌, arith, length}
use Rattle.mod_ref.proofs.OwnChanges.{are_own}
use Rattle.mod_ref.proofs.owned.own.Goals as goal

pub returns-clause-own : goal.returns-clause-own
returns-clause-own c =
    let size : c.len-f-end.result ≡ length c.args.program.now.funcs = c.len-f-end.ensures in
    are_own c.args.program.now c.args.location c.each.own.items c.each.f c.each.invariant.0 c.each.invariant.1 (omega (arith, c.each-test.false, size))
