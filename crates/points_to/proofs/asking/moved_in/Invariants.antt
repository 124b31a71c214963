use Rattle.std.proofs.Common.{◌≡◌, map, take}
use Rattle.flat_ir.specs.declared.nodes.MoveSet.{MoveSet}
use Rattle.points_to.specs.declared.holders.Holder.TheVariants.{Register}
use Rattle.points_to.specs.declared.holders.Inclusion.TheVariants.{Copies}
use Rattle.points_to.specs.Asked.{holder_in}
use Rattle.points_to.proofs.asking.moved_in.Given as goal

abbrev pub invariant-loop-set : goal.invariant-loop-set
invariant-loop-set l = l.list.items ≡ map (λ (s : MoveSet). Copies (holder_in l.func s.value) (Register l.func s.register)) (take l.set-index l.sets)
