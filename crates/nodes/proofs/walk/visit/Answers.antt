use Rattle.std.proofs.Common.{length, sym, ◌∙◌, subst, arith}
use Rattle.gates.specs.Clauses.{gates_of, met_after}
use Rattle.nodes.specs.Nodes.{bit_at}
use Rattle.nodes.specs.Names.{bits_at}
use Rattle.nodes.proofs.WalkLemmas.{StandsAt, done_met, stands_first, stands_below, stands_above, stands_last, path_low, path_undone, leads, measure_falls, empty_of}
use Rattle.nodes.proofs.walk.visit.Goals as goal

pub returns-then-done-first-clause-met : goal.returns-then-done-first-clause-met
returns-then-done-first-clause-met c =
    done_met c.args.table.now c.args.done.now c.args.names.now.items c.args.first c.requires.naming c.requires.within c.if-done-first.true

pub loop-operand-init : goal.loop-operand-init
loop-operand-init c =
    subst (λ ws. StandsAt c.args.table.now c.args.done.now c.args.names.now.items ws c.args.first (met_after (bits_at c.args.table.now c.args.names.now.items) (gates_of (bit_at c.args.table.now c.args.first)))) (sym c.new-waiting.ensures.items) (stands_first c.args.table.now c.args.done.now c.args.names.now.items c.args.first c.requires.naming c.requires.within c.if-done-first.false)

pub undone-requires-clause-within : goal.undone-requires-clause-within
undone-requires-clause-within c = path_low _ c.loop-operand.done c.loop-operand.waiting.items c.loop-operand.k c.loop-operand.invariant.path

pub loop-operand-preserved-in-Some : goal.loop-operand-preserved-in-Some
loop-operand-preserved-in-Some c =
    stands_below c.args.table.now c.loop-operand.done c.loop-operand.names.items c.loop-operand.waiting.items c.push.new.self.items c.loop-operand.k c.in-Some.operand _ c.requires.table c.loop-operand.invariant c.in-Some.ensures c.in_ok-push-in-Some.ensures.items

pub loop-operand-smaller-in-Some : goal.loop-operand-smaller-in-Some
loop-operand-smaller-in-Some c =
    let part = leads c.args.table.now c.loop-operand.done c.loop-operand.names.items c.requires.table c.loop-operand.invariant.naming c.loop-operand.k (path_low _ c.loop-operand.done c.loop-operand.waiting.items c.loop-operand.k c.loop-operand.invariant.path) c.in-Some.operand c.in-Some.ensures in
    omega (arith, part.below)

pub finish-requires-clause-within : goal.finish-requires-clause-within
finish-requires-clause-within c = path_low _ c.loop-operand.done c.loop-operand.waiting.items c.loop-operand.k c.loop-operand.invariant.path

pub finish-requires-clause-undone : goal.finish-requires-clause-undone
finish-requires-clause-undone c =
    path_undone _ c.loop-operand.done c.loop-operand.waiting.items c.loop-operand.k c.loop-operand.invariant.path

pub loop-operand-preserved : goal.loop-operand-preserved
loop-operand-preserved c =
    stands_above c.args.table.now c.loop-operand.done c.finish.new.done c.loop-operand.names.items c.finish.new.names.items c.loop-operand.waiting.items c.pop.new.self.items c.loop-operand.k c.in-Some-pop.above _ c.loop-operand.invariant c.in-Some-pop.ensures.items c.in_ok-finish-in-None.ensures.done c.in_ok-finish-in-None.ensures.naming c.in_ok-finish-in-None.ensures.met

pub loop-operand-smaller : goal.loop-operand-smaller
loop-operand-smaller c =
    let at = c.loop-operand.invariant in
    let low = path_low _ c.loop-operand.done c.loop-operand.waiting.items c.loop-operand.k at.path in
    let above = stands_above c.args.table.now c.loop-operand.done c.finish.new.done c.loop-operand.names.items c.finish.new.names.items c.loop-operand.waiting.items c.pop.new.self.items c.loop-operand.k c.in-Some-pop.above _ at c.in-Some-pop.ensures.items c.in_ok-finish-in-None.ensures.done c.in_ok-finish-in-None.ensures.naming c.in_ok-finish-in-None.ensures.met in
    measure_falls c.loop-operand.done c.finish.new.done c.loop-operand.k c.in-Some-pop.above (length c.args.table.now) (omega (arith, low, at.naming.sized)) (path_undone _ c.loop-operand.done c.loop-operand.waiting.items c.loop-operand.k at.path) c.in_ok-finish-in-None.ensures.done (path_low _ c.finish.new.done c.pop.new.self.items c.in-Some-pop.above above.path)

pub returns-in-None-pop-clause-met : goal.returns-in-None-pop-clause-met
returns-in-None-pop-clause-met c =
    stands_last c.args.table.now c.loop-operand.done c.loop-operand.names.items c.finish.new.names.items c.loop-operand.waiting.items c.loop-operand.k _ c.loop-operand.invariant (empty_of c.loop-operand.waiting.items (sym c.loop-operand.waiting.ok.0 ∙ c.in-None-pop.ensures.cases.0)) c.in_ok-finish-in-None.ensures.met
