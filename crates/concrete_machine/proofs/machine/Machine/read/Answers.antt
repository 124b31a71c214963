use Rattle.std.proofs.Common.{◌∙◌, ap}
use Rattle.flat_ir.specs.Machine.{at_node, set}
use Rattle.flat_ir.specs.Registers.{int}
use Rattle.flat_ir.specs.Steps.{unsigned_byte, next_byte}
use Rattle.flat_ir.specs.History.{position}
use Rattle.flat_ir.specs.declared.values.ConcreteValue.TheVariants.{Int}
use Rattle.concrete_machine.specs.Frames.{frame_of}
use Rattle.concrete_machine.proofs.Controlled.{remembers_read, get_until}
use Rattle.concrete_machine.proofs.Leading.{stands_moved}
use Rattle.concrete_machine.proofs.machine.Machine.read.Goals as goal

pub returns : goal.returns
returns c p h events remembers =
    let m = c.args.self.now in
    let input = c.args.input.now in
    let reads = c.next_byte-byte.ensures.moves in
    let byte = c.next_byte-byte.ensures.byte ∙ ap unsigned_byte (get_until input (position h) m.position remembers.position) in
    let value = ap (λ n. Int n) c.new.ensures ∙ ap (int 32) byte in
    stands_moved p input m c.next_byte-byte.new.self c.give.new.self _ _ events (remembers_read p input m c.next_byte-byte.new.self h remembers reads) reads.callers (record {
      frame = c.give.ensures.frame ∙ (ap (λ v. at_node c.args.next (set c.args.register v (frame_of c.next_byte-byte.new.self.frame))) value
          ∙ ap (λ f. at_node c.args.next (set c.args.register (next_byte input h) (frame_of f))) reads.frame);
      callers = c.give.ensures.callers;
      store = c.give.ensures.store;
      position = c.give.ensures.position;
      output = c.give.ensures.output;
    })
