use Rattle.std.proofs.Common.{◌≡◌, Some, None, ap, sym, ◌∙◌}
use Rattle.concrete_memory.specs.declared.objects.Life.TheVariants.{Live, Ended}
use Rattle.concrete_memory.specs.Standing.{life_of}
use Rattle.concrete_memory.proofs.Reached.{reaches_live, ended_faults, missing_faults, live_at, ended_at, none_at, if_ok_on, has_places}
use Rattle.concrete_memory.proofs.objects.Store.bytes_at.Goals as goal

pub returns-in-Some-Live-clause-ok : goal.returns-in-Some-Live-clause-ok
returns-in-Some-Live-clause-ok c =
    let life : life_of c.args.self.now c.in-Some.name ≡ Some (Live c.as_slice.result.now) = cc (c.in-Some-Live.ensures.value, c.in-Some-Live.field-0-is, c.in-Some-Live.bytes-is, c.as_slice.ensures) in
    if_ok_on c.part_of.result _ _ (λ part reached p h stands. reaches_live p h c.in-Some.name c.args.at.now c.args.n c.as_slice.result.now part.now
    c.in-Some.is (live_at p h c.args.self.now c.in-Some.name c.as_slice.result.now stands life) reached.2 reached.0 reached.1) c.part_of.ensures.ok

pub returns-in-Some-Ended-clause-err : goal.returns-in-Some-Ended-clause-err
returns-in-Some-Ended-clause-err c p h stands =
    let life : life_of c.args.self.now c.in-Some.name ≡ Some Ended = cc (c.in-Some-Ended.ensures.value, c.in-Some-Ended.field-0-is) in
    ended_faults p h c.in-Some.name c.args.at.now c.args.n c.in-Some.is (ended_at p h c.args.self.now c.in-Some.name stands life)

pub returns-in-None-clause-err : goal.returns-in-None-clause-err
returns-in-None-clause-err c p h stands =
    let life : life_of c.args.self.now c.in-Some.name ≡ None = sym c.in-None.ensures.value in
    missing_faults p h c.in-Some.name c.args.at.now c.args.n c.in-Some.is c.requires (none_at p h c.args.self.now c.in-Some.name stands life)
    ∙ ap (λ k. Some k) (sym c.missing.ensures)

pub returns-in-Some-Live-clause-places : goal.returns-in-Some-Live-clause-places
returns-in-Some-Live-clause-places c =
    let life : life_of c.args.self.now c.in-Some.name ≡ Some (Live c.as_slice.result.now) = cc (c.in-Some-Live.ensures.value, c.in-Some-Live.field-0-is, c.in-Some-Live.bytes-is, c.as_slice.ensures) in
    if_ok_on c.part_of.result _ _ (λ part reached. has_places c.args.self.now c.args.at.now c.in-Some.name c.args.n c.as_slice.result.now c.in-Some.is life reached.0 reached.2) c.part_of.ensures.ok
