use Rattle.std.proofs.Common.{sym, arith}
use Rattle.gates.specs.Clauses.{literal_of}
use Rattle.nodes.specs.Nodes.{bit_at}
use Rattle.nodes.specs.Names.{bits_at}
use Rattle.gate_clauses.proofs.NumberLemmas.{literal_inside, inside_below, literal_end}
use Rattle.gate_clauses.proofs.numbers.literal_at.Goals as goal

pub loop-inner-preserved : goal.loop-inner-preserved
loop-inner-preserved c =
    let nodes = c.args.table.now in
    let table = c.len-len.ensures.table in
    let at = c.loop-inner.at in
    let a = c.in-Not.inner in
    let within = c.loop-inner.invariant.within in
    let low = inside_below nodes table at a within (sym c.in-Not.ensures.node) in record {
      within = omega (arith, low, within);
      same = λ names. literal_inside nodes names table at a c.loop-inner.positive (literal_of (bits_at nodes names) (bit_at nodes c.args.k)) within (sym c.in-Not.ensures.node) (c.loop-inner.invariant.same names);
    }

pub returns : goal.returns
returns c = λ names right.
    let nodes = c.args.table.now in
    literal_end nodes names c.args.numbers.now c.loop-inner.at c.node.result c.loop-inner.positive (literal_of (bits_at nodes names) (bit_at nodes c.args.k)) c.len-len.ensures.table right c.loop-inner.invariant.within c.node.ensures.node c.in_default.not-Not (c.loop-inner.invariant.same names)
