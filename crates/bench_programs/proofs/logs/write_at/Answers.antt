use Rattle.std.proofs.Common.{◌≤◌, length, refl, sym, subst, lit≤}
use Rattle.bench_programs.proofs.logs.write_at.Goals as goal

pub same-offset : goal.same-offset
same-offset g c = refl

pub write-requires-clause-wide : goal.write-requires-clause-wide
write-requires-clause-wide g c = c.requires

pub write-requires-clause-most : goal.write-requires-clause-most
write-requires-clause-most g c = subst (λ l. length l ≤ 8) (sym c.in_ok-bytes.ensures) (lit≤ tt)
