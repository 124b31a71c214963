use Rattle.std.proofs.Common.{◌≡◌, drop}
use Rattle.terms.specs.Tree.{width_of}
use Rattle.sym_states.specs.Terms.{and_none, none_of}
use Rattle.node_values.proofs.turns.none_of.Given as goal

-- what is left leads to the whole
abbrev pub invariant-sides : goal.invariant-sides
invariant-sides g l = record {
  made : and_none l.none (drop l.side-index l.sides) ≡ none_of l.sides;
  width : width_of l.none ≡ 1;
}
