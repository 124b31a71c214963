-- The derived test of nodes is exact.
use Rattle.std.proofs.Common.{◌≡◌, ℕ, true, ap, rules}
use Rattle.std.proofs.lemmas.Bool.{eqb-true, false≢true}
use Rattle.nodes.specs.declared.table.Node.{Node}
use Rattle.nodes.specs.declared.table.Node.TheVariants.{Input, Not, And}
use Rattle.nodes.specs.contracts.table.NodePartialEq.TheImpl as derived

a1 : (a b : ℕ) → derived.eq-value.it (Input a) (Input b) ≡ true → Input a ≡ Input b
a1 a b e = ap Input (eqb-true a b e)

a2 : (a b : ℕ) → derived.eq-value.it (Input a) (Not b) ≡ true → Input a ≡ Not b
a2 a b e = absurd (false≢true e)

a3 : (a b c d : ℕ) → derived.eq-value.it (And a b) (And c d) ≡ true → And a b ≡ And c d
a3 a b c d e = search rules

pub exact : (g h : Node) → derived.eq-value.it g h ≡ true → g ≡ h
exact g h e = search rules

pub itself : (g : Node) → derived.eq-value.it g g ≡ true
itself g = search rules
