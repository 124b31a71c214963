-- A block with its numbers, and the counter after it.
use Rattle.std.specs.Prelude.{ℕ, List, ◌++◌}
use Rattle.ir_tree.specs.declared.instructions.Block.{Block}
use Rattle.ir_grammar.specs.Numbering.{numbered_name, after_phis, numbered_instructions, with_names}

abbrev pub numbered_block : ℕ → ℕ → Block → Block × ℕ
numbered_block at n b =
    let name = numbered_name at n b.label in
    let is = numbered_instructions at (after_phis name.1 b.phis) b.instructions in
    (with_names b name.0 is.0, is.1)

-- a list behind another, beside a counter
abbrev pub behind : {A : Type 0} → List A → List A × ℕ → List A × ℕ
behind front x = (front ++ x.0, x.1)
