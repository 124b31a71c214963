use Rattle.std.proofs.Common.{◌≡◌, ◌∙◌, ◌<◌, ◌≤◌, ℕ, List, not, length, get_or, ap, sym, subst}
use Rattle.ir_tree.specs.declared.instructions.Block.{Block}
use Rattle.ir_programs.specs.Parts.{targets}
use Rattle.ir_programs.specs.Texts.{among, texts}
use Rattle.tree_fits.proofs.Leading.{right_of_none, right_of_first}
use Rattle.tree_fits.proofs.edges.leads_right.Goals as goal

pub returns-in-empty : goal.returns-in-empty
returns-in-empty c =
    sym (right_of_none c.args.function.now.blocks (texts (targets c.args.block.now.terminator.form)) (subst (λ (bs : List Block). length bs < 1) c.as_slice.ensures c.in-empty.len_below))

pub returns-in-len1-up : goal.returns-in-len1-up
returns-in-len1-up c =
    let to = texts (targets c.args.block.now.terminator.form) in
    let first = c.first-item.result in
    ap not (c.leads_to.ensures ∙ ap (λ (l : List ℕ). among l to) c.label_of.ensures)
    ∙ sym (right_of_first c.args.function.now.blocks first to (subst (λ (bs : List Block). 1 ≤ length bs) c.as_slice.ensures c.in-len1-up.len_at_least)
    (subst (λ (bs : List Block). first ≡ get_or bs 0 first) c.as_slice.ensures c.first-item.is))
