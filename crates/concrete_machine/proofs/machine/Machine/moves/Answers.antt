use Rattle.std.proofs.Common.{◌∙◌, refl, ap}
use Rattle.flat_ir.specs.Machine.{at_node}
use Rattle.concrete_machine.specs.Control.{all_set}
use Rattle.concrete_machine.specs.Frames.{frame_of}
use Rattle.concrete_machine.proofs.Controlled.{moved}
use Rattle.concrete_machine.proofs.Leading.{stands_turned}
use Rattle.concrete_machine.proofs.machine.Machine.moves.Goals as goal

pub returns : goal.returns
returns c p input h events remembers =
    let f = frame_of c.args.self.now.frame in
    let set = c.set_all.ensures ∙ (ap (λ pairs. all_set pairs f) c.in_ok-pairs.ensures ∙ moved f c.args.sets.now f) in
    stands_turned p input c.args.self.now _ _ h events remembers (record { frame = ap (at_node c.args.next) set; callers = refl; store = refl; position = refl; output = refl })
