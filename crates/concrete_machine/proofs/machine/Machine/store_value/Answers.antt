use Rattle.concrete_machine.proofs.Written.{store_leads}
use Rattle.concrete_machine.proofs.machine.Machine.store_value.Goals as goal

pub returns : goal.returns
returns c p input h events remembers =
    store_leads p input c.args.self.now c.go_to.new.self c.store.new.self c.args.next c.in_ok-at.at _ c.in_ok-stored.stored _ h events c.in_ok-at.ensures c.in_ok-stored.ensures remembers
    (c.in-Ok.ensures.ok p h remembers.memory) c.go_to.ensures
