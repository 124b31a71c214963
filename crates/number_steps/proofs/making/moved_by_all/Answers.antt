use Rattle.std.proofs.Common.{arith}
use Rattle.sym_states.specs.Terms.{moved_by_all}
use Rattle.state_sides.specs.Views.{state_seen}
use Rattle.number_steps.proofs.Fitted.{moved-next}
use Rattle.number_steps.proofs.making.moved_by_all.Goals as goal

pub moved_by-requires : goal.moved_by-requires
moved_by-requires g c = c.moves.invariant.0

pub moves-preserved : goal.moves-preserved
moves-preserved g c =
    let s = state_seen c.args.state.now in (
      c.in_ok-moved-2.ensures.width,
      moved-next s c.args.parts.now c.moves.part-index c.part-item.result c.moves.moved c.in_ok-moved-2.moved (moved_by_all s c.args.offset.now c.args.parts.now)
          (omega arith) c.part-item.is c.in_ok-moved-2.ensures.value c.moves.invariant.1,
    )
