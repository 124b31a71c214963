use Rattle.std.proofs.Common.{ap, ap₂, ◌∙◌}
use Rattle.nodes.specs.Nodes.{bit_at}
use Rattle.rows.specs.Rows.{fold_mux}
use Rattle.gates.specs.Bits.{fold_xor}
use Rattle.nodes.proofs.GrowthLemmas.{grown_on, stays, still_within}
use Rattle.nodes.proofs.FoldLemmas.{made_bit}
use Rattle.row_nodes.proofs.bits.still_less.Goals as goal

pub mux-requires-clause-left : goal.mux-requires-clause-left
mux-requires-clause-left c =
    still_within c.args.table.now c.xor.new.self c.xor.ensures.grows c.args.b c.requires.right

pub mux-requires-clause-right : goal.mux-requires-clause-right
mux-requires-clause-right c =
    still_within c.args.table.now c.xor.new.self c.xor.ensures.grows c.args.less c.requires.below

pub returns-clause-bit : goal.returns-clause-bit
returns-clause-bit c =
    let old = c.args.table.now in
    let one = c.xor.new.self in
    let b = c.args.b in
    let less = c.args.less in
    let rest = ap₂ (λ x y. fold_mux (fold_xor (bit_at old c.args.a) (bit_at old b)) x y) (stays old one c.xor.ensures.grows b c.requires.right) (stays old one c.xor.ensures.grows less c.requires.below) in
    made_bit c.mux.result (λ k. bit_at c.mux.new.table k) _ _ c.mux.ensures.bit (ap (λ d. fold_mux d (bit_at one b) (bit_at one less)) c.in_ok-differ.ensures.bit ∙ rest)

pub returns-clause-grows : goal.returns-clause-grows
returns-clause-grows c =
    grown_on c.mux.result c.args.table.now c.xor.new.self c.mux.new.table c.xor.ensures.grows c.mux.ensures.grows
