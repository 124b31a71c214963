use Rattle.std.proofs.Common.{arith, subst}
use Rattle.std.proofs.lemmas.Option.{MatchOption-at_some, MatchOption-at_none}
use Rattle.flat_ir.specs.declared.program.Func.{Func}
use Rattle.flow.specs.Paths.{NoneAt, FirstAt, node_of}
use Rattle.flow.proofs.Bridges.{first_of_all, none_at_all, none_so_far}
use Rattle.flow.proofs.finding.find.Goals as goal

pub returns-in-Some : goal.returns-in-Some
returns-in-Some c =
    let n = c.loop-node.node in
    let f = c.in_ok-lists.lists.func.now in
    let there : FirstAt f (node_of n) c.in-Some.register =
    MatchOption-at_some (NoneAt f (node_of n)) (FirstAt f (node_of n)) c.in-Some.register c.in-Some.is c.in_ok-register.ensures in
    first_of_all c.args.func.now n c.in-Some.register c.loop-node.invariant
    (subst (λ (g : Func). FirstAt g (node_of n) c.in-Some.register) c.in_ok-lists.ensures there)

pub loop-node-preserved : goal.loop-node-preserved
loop-node-preserved c =
    let n = c.loop-node.node in
    let f = c.in_ok-lists.lists.func.now in
    let none : NoneAt f (node_of n) =
    MatchOption-at_none (NoneAt f (node_of n)) (FirstAt f (node_of n)) c.in-None.is c.in_ok-register.ensures in
    none_so_far c.args.func.now n c.loop-node.invariant (subst (λ (g : Func). NoneAt g (node_of n)) c.in_ok-lists.ensures none)

pub returns : goal.returns
returns c = none_at_all c.args.func.now (λ m s lower. c.loop-node.invariant m s (omega arith))
