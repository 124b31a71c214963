use Rattle.std.proofs.Common.{◌≡◌, Some, sym, ◌∙◌}
use Rattle.concrete_memory.specs.declared.objects.Life.TheVariants.{Live, Ended}
use Rattle.concrete_memory.specs.Standing.{life_of}
use Rattle.concrete_memory.proofs.Reached.{live_at, ended_at, none_at}
use Rattle.concrete_memory.proofs.FreeFaults.{missing_free_faults, ended_free_faults, live_free_faults}
use Rattle.concrete_memory.proofs.objects.Store.fault_of_free.Goals as goal

pub returns-in-None-clause-fault : goal.returns-in-None-clause-fault
returns-in-None-clause-fault c h stands =
    rw c.missing_free.ensures (sym (missing_free_faults c.args.program.now h c.args.name.now c.args.offset
    (none_at c.args.program.now h c.args.self.now c.args.name.now stands (sym c.in-None.ensures.value))))

pub returns-in-Some-Ended-clause-fault : goal.returns-in-Some-Ended-clause-fault
returns-in-Some-Ended-clause-fault c h stands =
    let life : life_of c.args.self.now c.args.name.now ≡ Some Ended = cc (c.in-Some-Ended.ensures.value, c.in-Some-Ended.field-0-is) in
    sym (ended_free_faults c.args.program.now h c.args.name.now c.args.offset (ended_at c.args.program.now h c.args.self.now c.args.name.now stands life))

pub returns-in-Some-Live-clause-fault : goal.returns-in-Some-Live-clause-fault
returns-in-Some-Live-clause-fault c h stands =
    let life : life_of c.args.self.now c.args.name.now ≡ Some (Live c.in-Some-Live.field-0-0) = cc (c.in-Some-Live.ensures.value, c.in-Some-Live.field-0-is) in
    c.fault_of_live.ensures.fault ∙ sym (live_free_faults c.args.program.now h c.args.name.now c.args.offset
    (live_at c.args.program.now h c.args.self.now c.args.name.now c.in-Some-Live.field-0-0 stands life).alive)
