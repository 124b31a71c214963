use Rattle.concrete_memory.proofs.Stored.{stores_from}
use Rattle.concrete_memory.proofs.objects.Store.store.Goals as goal

pub returns-clause-ok : goal.returns-clause-ok
returns-clause-ok c p h stands =
    stores_from p c.args.self.now c.put_bytes.new.self c.args.at.now c.in-Some.name c.args.value.now c.in-Ok.bytes.items c.in_default-bytes_at.field-0.now h c.size_of_value-n.result
    c.size_of_value-n.ensures.size (c.in_default-bytes_at.ensures.ok p h stands) c.in-Some.is (rw c.in-Some.is at c.in_default-bytes_at.ensures.places) c.in-Ok.ensures
    stands c.put_bytes.ensures
