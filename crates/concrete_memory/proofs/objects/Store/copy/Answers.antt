use Rattle.concrete_memory.proofs.Stored.{copies_from}
use Rattle.concrete_memory.proofs.objects.Store.copy.Goals as goal

pub returns-clause-ok : goal.returns-clause-ok
returns-clause-ok c p h stands =
    copies_from p c.args.self.now c.put_bytes.new.self c.args.from.now c.args.to.now c.in-Some.name c.in_ok-byte.byte c.in_default.field-0.now h
    (c.in_ok-byte.ensures.ok p h stands) (c.in_default.ensures.ok p h stands) c.in-Some.is (rw c.in-Some.is at c.in_default.ensures.places) stands
    (rw c.in-Ok.ensures.items at c.put_bytes.ensures)
