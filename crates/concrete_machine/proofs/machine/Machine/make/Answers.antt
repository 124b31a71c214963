use Rattle.std.proofs.Common.{Some, ◌∷◌, refl, ap, subst, ◌∙◌}
use Rattle.flat_ir.specs.declared.names.ObjectName.{ObjectName}
use Rattle.flat_ir.specs.declared.values.ConcreteValue.TheVariants.{Ptr}
use Rattle.flat_ir.specs.History.{Alloc}
use Rattle.concrete_memory.specs.Standing.{StandsFor}
use Rattle.concrete_machine.proofs.machine.Machine.make.Goals as goal

pub returns : goal.returns
returns c = record {
  frame = refl;
  callers = refl;
  position = refl;
  output = refl;
  address = ap (λ (x : ObjectName). Ptr (record { base = Some x; offset = 0 })) (c.in_ok-copy.ensures ∙ c.in_ok-name.ensures);
  memory = λ p h stands. subst (λ (x : ObjectName). StandsFor p c.alloc.new.self (Alloc x c.args.size ∷ h)) c.in_ok-name.ensures (c.in_ok-alloc.ensures.ok p h stands);
}
