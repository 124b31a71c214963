use Rattle.std.proofs.Common.{◌%◌, ◌∙◌, ap}
use Rattle.concrete_machine.proofs.Controlled.{remembers_put}
use Rattle.concrete_machine.proofs.Leading.{stands_turned}
use Rattle.concrete_machine.proofs.machine.Machine.put.Goals as goal

pub returns : goal.returns
returns c p input h events remembers =
    let m = c.args.self.now in
    let byte = ap (λ n. n % 256) c.bits.ensures.bits ∙ ap (λ n. n.bits % 256) c.number_of.ensures in
    stands_turned p input _ c.go_to.new.self _ _ events (remembers_put p input m h c.push.new.self _ _ remembers c.in_ok-push.ensures.ok byte) c.go_to.ensures
