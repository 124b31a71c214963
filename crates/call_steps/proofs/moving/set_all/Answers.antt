use Rattle.std.proofs.Common.{◌∙◌, ap, List}
use Rattle.flat_ir.specs.declared.names.RegId.{RegId}
use Rattle.sym_bytes.specs.Value.{SymValue}
use Rattle.sym_states.specs.States.{Frame, in_frame}
use Rattle.state_sides.specs.Views.{state_seen}
use Rattle.call_steps.specs.Moves.{all_set}
use Rattle.call_steps.proofs.Moved.{all_set-read}
use Rattle.call_steps.proofs.moving.set_all.Goals as goal

pub returns : goal.returns
returns g c =
    let s = state_seen c.args.state in
    ap (λ (f : Frame). in_frame f s)
    (c.set_each.ensures ∙ (ap (λ (pairs : List (RegId × SymValue)). all_set pairs c.args.state.frame) c.in_ok-pairs.ensures ∙ all_set-read s c.args.sets.now c.args.state.frame))
