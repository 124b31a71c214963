use Rattle.std.proofs.Common.{refl, arith}
use Rattle.state_sides.proofs.Asking.{alone-several}
use Rattle.state_sides.specs.Views.{state_seen}
use Rattle.state_sides.proofs.sides.alone.Goals as goal

pub returns-then-len-ne1 : goal.returns-then-len-ne1
returns-then-len-ne1 g c = (refl, alone-several c.args.offsprings.items (state_seen c.args.state) (λ e. omega arith))
