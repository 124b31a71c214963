use Rattle.std.proofs.Common.{subst, sym, All, length}
use Rattle.term_bits.specs.Conditions.{IsConjunct}
use Rattle.state_sides.proofs.Asking.{conjuncts-all, reads-of}
use Rattle.state_sides.proofs.states.Machine.candidate.Goals as goal

pub decide-requires-clause-conjuncts : goal.decide-requires-clause-conjuncts
decide-requires-clause-conjuncts g c = subst (All IsConjunct) (sym c.as_slice-2.ensures) (conjuncts-all (length c.args.kept.now) c.args.condition c.requires.truths)

pub decide-requires-clause-reads : goal.decide-requires-clause-reads
decide-requires-clause-reads g c = reads-of (length c.args.kept.now) c.len-inputs.result c.args.condition c.as_slice-2.result.now c.len-inputs.ensures c.as_slice-2.ensures c.requires.truths
