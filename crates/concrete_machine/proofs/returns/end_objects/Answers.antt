use Rattle.std.proofs.Common.{◌≡◌, ℕ, ◌+◌, ◌<◌, true, List, [], ◌∷◌, ◌++◌, length, take, sym, ◌∙◌, ap, subst, arith}
use Rattle.std.proofs.lemmas.List.{take_more}
use Rattle.flat_ir.specs.declared.nodes.Node.{Node}
use Rattle.flat_ir.specs.declared.nodes.Node.TheVariants as node
use Rattle.flat_ir.specs.History.{History}
use Rattle.flat_ir.specs.MadeNames.{is_alloca, count_at}
use Rattle.flat_ir.specs.Steps.{frees_at, frees_from}
use Rattle.concrete_memory.specs.Standing.{StandsFor}
use Rattle.concrete_machine.specs.Ending.{after_all}
use Rattle.concrete_machine.specs.Frames.{frame_of}
use Rattle.concrete_machine.proofs.Ended.{made_after, frees_end, frees_next, read_is, length_front, take_whole}
use Rattle.concrete_machine.proofs.returns.end_objects.Goals as goal

pub end_at-requires : goal.end_at-requires
end_at-requires c alloca =
    let f = frame_of c.args.frame.now in
    let r = c.requires.keeps in
    let i = c.loop-place.place in
    let front = take i c.args.nodes.now in
    let here = read_is c.args.nodes.now i c.index-nodes-place.result node.Unreachable (omega arith) c.index-nodes-place.is in
    record {
      program = r.program;
      history = after_all (frees_from f 0 front) r.history;
      stands = c.loop-place.invariant r.program r.history r.stands;
      made = λ k least most. made_after f.name (record { func = f.func; node = record { 0 = i }; count = k }) (frees_from f 0 front) r.history (frees_end f 0 front)
          ∙ r.made (record { 0 = i }) k (subst (λ (n : Node). is_alloca n ≡ true) here alloca) least most;
    }

pub loop-place-preserved : goal.loop-place-preserved
loop-place-preserved c p h stands =
    let f = frame_of c.args.frame.now in
    let nodes = c.args.nodes.now in
    let i = c.loop-place.place in
    let n = c.index-nodes-place.result in
    let within : i < length nodes = omega arith in
    let longer : take (i + 1) nodes ≡ take i nodes ++ n ∷ [] = take_more nodes i n within ∙ ap (λ (m : Node). take i nodes ++ m ∷ []) (sym c.index-nodes-place.is) in
    let old : History = after_all (frees_from f 0 (take i nodes)) h in
    let size = length_front nodes i within in
    subst (λ (ns : List Node). StandsFor p c.end_at.new.store (after_all (frees_from f 0 ns) h)) (sym longer)
    (subst (λ (g : History). StandsFor p c.end_at.new.store g) (sym (frees_next f 0 (take i nodes) n h))
    (subst (λ (m : ℕ). StandsFor p c.end_at.new.store (after_all (frees_at f (record { 0 = m }) (count_at f (record { 0 = m })) n) old)) (sym size)
    (c.in_ok-end_at.ensures p old (c.loop-place.invariant p h stands))))

pub returns : goal.returns
returns c p h stands =
    subst (λ (ns : List Node). StandsFor p c.loop-place.store (after_all (frees_from (frame_of c.args.frame.now) 0 ns) h)) (take_whole c.args.nodes.now c.loop-place.place (omega arith))
    (c.loop-place.invariant p h stands)
