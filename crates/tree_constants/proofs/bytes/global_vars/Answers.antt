use Rattle.std.proofs.Common.{◌+◌, drop, map}
use Rattle.ir_programs.specs.Programs.{global_var}
use Rattle.ir_programs.specs.Readable.{is_readable_constant}
use Rattle.tree_constants.proofs.Filling.{one_more_made}
use Rattle.tree_constants.proofs.Levels.{passes_on}
use Rattle.tree_constants.proofs.OneByOne.{rest_less}
use Rattle.tree_constants.proofs.bytes.global_vars.Goals as goal

pub loop-global-preserved : goal.loop-global-preserved
loop-global-preserved c =
    let gs = c.as_slice-globals.result.now in
    let i = c.loop-global.global-index in
    record {
      readable = passes_on (λ g. is_readable_constant g.value) (drop i gs) (drop (i + 1) gs) c.global-item.result c.loop-global.invariant.readable (rest_less gs i c.global-item.result c.loop-global-test.true c.global-item.is);
      made = one_more_made (global_var c.args.tree.now) gs i c.global-item.result c.loop-global.vars c.push.new.self (map (global_var c.args.tree.now) gs) c.in_ok-global_var.field-0
          c.loop-global-test.true c.global-item.is c.in_ok-push.ensures.ok c.in_ok-global_var.ensures c.loop-global.invariant.made;
    }
