use Rattle.std.proofs.Common.{◌≡◌, List, false, true, refl, sym, subst}
use Rattle.std.specs.List.{Contains}
use Rattle.flat_ir.specs.declared.names.NodeId.{NodeId}
use Rattle.flow.specs.Paths.{node_of}
use Rattle.checks.specs.Errors.{clash, undefined, edge}
use Rattle.checks.proofs.Firsts.{none_below}
use Rattle.checks.proofs.checking.fails_at.Goals as goal

pub returns-then-clashes : goal.returns-then-clashes
returns-then-clashes c = clash (c.if-clashes.ensures.0 refl)

pub returns-in-Some : goal.returns-in-Some
returns-in-Some c =
    let f = c.args.func.now in
    undefined c.in-Some.register (λ wrong. let h : false ≡ true = c.if-clashes.ensures.1 wrong in cc)
    (c.in-Some.ensures f c.requires.tells (none_below c.args.funcs.now f c.args.node c.requires.below))

pub returns-then-is_among : goal.returns-then-is_among
returns-then-is_among c =
    let f = c.args.func.now in
    edge (λ wrong. let h : false ≡ true = c.if-clashes.ensures.1 wrong in cc)
    (c.in-None.ensures f c.requires.tells (none_below c.args.funcs.now f c.args.node c.requires.below))
    (subst (λ (ns : List NodeId). Contains ns (node_of c.args.node)) c.as_slice.ensures (c.if-is_among.ensures.0 refl))

pub returns : goal.returns
returns c =
    let f = c.args.func.now in
    record {
      clash = λ wrong. let h : false ≡ true = c.if-clashes.ensures.1 wrong in cc;
      undefined = c.in-None.ensures f c.requires.tells (none_below c.args.funcs.now f c.args.node c.requires.below);
      edge = λ among. let h : false ≡ true = c.if-is_among.ensures.1 (subst (λ (ns : List NodeId). Contains ns (node_of c.args.node)) (sym c.as_slice.ensures) among) in cc;
    }
