use Rattle.std.proofs.Common.{◌≡◌, ℕ, ◌+◌, suc, ◌∷◌, IsSome, sym, ◌∙◌, ap, subst, arith}
use Rattle.flat_ir.specs.declared.names.ObjectName.{ObjectName}
use Rattle.flat_ir.specs.History.{History, Free}
use Rattle.flat_ir.specs.MadeNames.{object_of}
use Rattle.flat_ir.specs.Steps.{frees_of_node}
use Rattle.concrete_memory.specs.Standing.{StandsFor, life_of}
use Rattle.concrete_machine.specs.Ending.{after_all}
use Rattle.concrete_machine.specs.Frames.{frame_of}
use Rattle.concrete_machine.proofs.Ended.{kept_is_there, frees_of_node_end, frees_more}
use Rattle.concrete_machine.proofs.returns.end_all_of.Goals as goal

pub end-requires-clause-there : goal.end-requires-clause-there
end-requires-clause-there c =
    let f = frame_of c.args.frame.now in
    let r = c.requires in
    let k = c.loop-before.before in
    subst (λ (x : ObjectName). IsSome (life_of c.loop-before.store x)) (sym c.in_ok-name.ensures)
    (kept_is_there r.program c.loop-before.store (frees_of_node f c.args.node k 1) r.history f.name (record { func = f.func; node = c.args.node; count = k + 1 })
    (frees_of_node_end f c.args.node k 1) (c.loop-before.invariant r.program r.history r.stands) (r.made (k + 1) (omega arith) (omega arith)))

pub loop-before-preserved : goal.loop-before-preserved
loop-before-preserved c p h stands =
    let f = frame_of c.args.frame.now in
    let n = c.args.node in
    let k = c.loop-before.before in
    let more : suc k ≡ k + 1 = omega arith in
    let turned : k + 1 ≡ 1 + k = omega arith in
    let old : History = after_all (frees_of_node f n k 1) h in
    subst (λ (m : ℕ). StandsFor p c.end.new.self (after_all (frees_of_node f n m 1) h)) more
    (subst (λ (g : History). StandsFor p c.end.new.self g) (sym (frees_more f n k 1 h))
    (subst (λ (x : ObjectName). StandsFor p c.end.new.self (Free x ∷ old)) (c.in_ok-name.ensures ∙ ap (object_of f n) turned)
    (c.end.ensures p old (c.loop-before.invariant p h stands))))

pub returns : goal.returns
returns c p h stands =
    let all : c.loop-before.before ≡ c.args.count = omega arith in
    subst (λ (m : ℕ). StandsFor p c.loop-before.store (after_all (frees_of_node (frame_of c.args.frame.now) c.args.node m 1) h)) all (c.loop-before.invariant p h stands)
