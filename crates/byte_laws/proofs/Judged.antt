-- What a join says of the value that bytes make.
use Rattle.std.proofs.Common.{◌≡◌, ℕ, List, Option, Some, None}
use Rattle.std.specs.Prelude.{cond}
use Rattle.terms.specs.Value.{is_met_by}
use Rattle.flat_ir.specs.declared.values.ConcreteValue.{ConcreteValue}
use Rattle.sym_bytes.specs.Answers.{Join, Value, Needs, Test, Mixed}
use Rattle.sym_bytes.specs.Under.{Results, value_under}

-- the value that the bytes make is the one that the join says
abbrev pub JoinIs : List ℕ → Results → Option ConcreteValue → Join → Type 0
JoinIs input results made (Value v) = made ≡ Some (value_under input results v)
JoinIs input results made (Needs calls) = Unit {0}
JoinIs input results made (Test test v) = made ≡ cond (is_met_by input test) (Some (value_under input results v)) None
JoinIs input results made Mixed = made ≡ None
