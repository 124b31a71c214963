use Rattle.std.proofs.Common.{◌∙◌, ap, subst}
use Rattle.std.specs.Prelude.{ℕ, nat_lt, if◌then◌else◌}
use Rattle.std.proofs.lemmas.Bool.{le-ltb}
use Rattle.flat_ir.specs.declared.values.ConcreteValue.TheVariants.{Ptr}
use Rattle.flat_ir.specs.Machine.{at_node, set_if}
use Rattle.flat_ir.specs.Registers.{null}
use Rattle.flat_ir.specs.Steps.{gives_if, new_here, allocated}
use Rattle.concrete_machine.specs.Frames.{frame_of, state_at}
use Rattle.concrete_machine.specs.Standing.{Leads}
use Rattle.concrete_machine.specs.declared.machine.Led.TheVariants.{On}
use Rattle.concrete_machine.proofs.Leading.{stands_moved}
use Rattle.concrete_machine.proofs.Written.{remembers_made}
use Rattle.concrete_machine.proofs.machine.Machine.malloc.Goals as goal

pub returns : goal.returns
returns c p input h events remembers =
    let m = c.args.self.now in
    let mid = c.make.new.self in
    let makes = c.in_ok-made.ensures in
    let s = state_at m h events in
    let bytes = c.bits-bytes.ensures.bits ∙ ap (λ n. n.bits) c.number_of.ensures in
    let L : ℕ → Type 0 = λ n. Leads p input c.give_if-2.new.self On (if nat_lt 65536 n then gives_if c.args.register (Ptr null) c.args.next s else gives_if c.args.register (new_here s) c.args.next (allocated n s)) in
    subst L bytes (rw (le-ltb 65536 c.bits-bytes.result c.if-bytes-gt65536.false)
    (stands_moved p input m mid c.give_if-2.new.self _ _ events (remembers_made p input m mid c.bits-bytes.result c.in_ok-made.made h remembers makes) makes.callers (record {
      frame = c.give_if-2.ensures.frame ∙ (ap (λ v. at_node c.args.next (set_if c.args.register v (frame_of mid.frame))) makes.address
          ∙ ap (λ f. at_node c.args.next (set_if c.args.register (new_here s) (frame_of f))) makes.frame);
      callers = c.give_if-2.ensures.callers;
      store = c.give_if-2.ensures.store;
      position = c.give_if-2.ensures.position;
      output = c.give_if-2.ensures.output;
    })))
