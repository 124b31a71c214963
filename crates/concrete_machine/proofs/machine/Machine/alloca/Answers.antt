use Rattle.std.proofs.Common.{◌∙◌, ap}
use Rattle.flat_ir.specs.Machine.{at_node, set}
use Rattle.flat_ir.specs.Steps.{new_here}
use Rattle.concrete_machine.specs.Frames.{frame_of, state_at}
use Rattle.concrete_machine.proofs.Leading.{stands_moved}
use Rattle.concrete_machine.proofs.Written.{remembers_made}
use Rattle.concrete_machine.proofs.machine.Machine.alloca.Goals as goal

pub returns : goal.returns
returns c p input h events remembers =
    let m = c.args.self.now in
    let mid = c.make.new.self in
    let makes = c.in_ok-made.ensures in
    stands_moved p input m mid c.give.new.self _ _ events (remembers_made p input m mid c.args.size c.in_ok-made.made h remembers makes) makes.callers (record {
      frame = c.give.ensures.frame ∙ (ap (λ v. at_node c.args.next (set c.args.register v (frame_of mid.frame))) makes.address
          ∙ ap (λ f. at_node c.args.next (set c.args.register (new_here (state_at m h events)) (frame_of f))) makes.frame);
      callers = c.give.ensures.callers;
      store = c.give.ensures.store;
      position = c.give.ensures.position;
      output = c.give.ensures.output;
    })
