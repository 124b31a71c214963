use Rattle.std.proofs.Common.{◌≡◌, drop, ◌++◌}
use Rattle.std.specs.List.{All}
use Rattle.terms.specs.Tree.{width_of}
use Rattle.sym_states.specs.Terms.{case_sides}
use Rattle.node_values.proofs.turns.case_sides.Given as goal

-- the sides so far stand in front of what is left
abbrev pub invariant-cases : goal.invariant-cases
invariant-cases g l = record {
  made : l.sides ++ case_sides l.value (drop l.case-index l.cases) ≡ case_sides l.value l.cases;
  widths : All (λ s. width_of s ≡ 1) l.sides;
}
