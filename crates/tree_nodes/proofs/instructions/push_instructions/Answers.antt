use Rattle.std.proofs.Common.{◌≡◌, ◌+◌, ◌<◌, ◌∷◌, List, IsTrue, drop, length, subst, arith}
use Rattle.std.specs.List.{list_all}
use Rattle.phrases.proofs.Classes.{and_right}
use Rattle.ir_tree.specs.declared.instructions.Instruction.{Instruction}
use Rattle.ir_programs.specs.Readable.{is_readable_instruction}
use Rattle.tree_nodes.proofs.EdgeNodes.{instruction_more, item_next}
use Rattle.tree_nodes.proofs.instructions.push_instructions.Goals as goal

pub loop-instruction-preserved : goal.loop-instruction-preserved
loop-instruction-preserved c =
    let s = c.args.scope.now in
    let l = c.loop-instruction in
    let xs = c.args.instructions.now in
    let i = c.instruction-item.result in
    let rest = drop (l.instruction-index + 1) xs in
    let within : l.instruction-index < length xs = omega arith in
    let next : drop l.instruction-index xs ≡ i ∷ rest = item_next xs l.instruction-index i within c.instruction-item.is in
    record {
      made = instruction_more s.whole.now.tree.now s.function.now l.number c.in_ok-number.number i (drop l.instruction-index xs) rest l.nodes.items c.push.new.self.items _ c.in_ok-node.node
          c.in_ok-number.ensures next c.in_ok-node.ensures c.in_ok-push.ensures.items l.invariant.made;
      readable = and_right (is_readable_instruction i) (list_all is_readable_instruction rest) (subst (λ (ys : List Instruction). IsTrue (list_all is_readable_instruction ys)) next l.invariant.readable);
    }
