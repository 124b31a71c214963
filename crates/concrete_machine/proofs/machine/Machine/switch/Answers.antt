use Rattle.std.proofs.Common.{◌∙◌, ap}
use Rattle.flat_ir.specs.Machine.{at_node}
use Rattle.concrete_machine.specs.Control.{target_of}
use Rattle.concrete_machine.specs.Frames.{frame_of}
use Rattle.concrete_machine.proofs.Controlled.{target_is}
use Rattle.concrete_machine.proofs.Leading.{stands_turned}
use Rattle.concrete_machine.proofs.machine.Machine.switch.Goals as goal

pub returns : goal.returns
returns c p input h events remembers =
    let m = c.args.self.now in
    let bits = c.bits-number.ensures.bits ∙ ap (λ n. n.bits) c.number_of.ensures in
    let next = c.target-next.ensures ∙ (ap (λ v. target_of v c.args.cases.now c.args.default) bits ∙ target_is _ 0 c.args.cases.now c.args.default) in
    stands_turned p input m c.go_to.new.self _ h _ remembers (record {
      frame = c.go_to.ensures.frame ∙ ap (λ n. at_node n (frame_of m.frame)) next;
      callers = c.go_to.ensures.callers;
      store = c.go_to.ensures.store;
      position = c.go_to.ensures.position;
      output = c.go_to.ensures.output;
    })
