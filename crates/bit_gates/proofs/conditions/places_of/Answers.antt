use Rattle.std.proofs.Common.{◌+◌, ◌++◌, [], ◌∷◌, take, take_all, ap, sym, ◌∙◌, subst}
use Rattle.std.proofs.lemmas.List.{take_more}
use Rattle.nodes.specs.Names.{bits_at, AreWithin}
use Rattle.nodes.proofs.GrowthLemmas.{bits_at-none, within_none}
use Rattle.term_bits.specs.Conditions.{condition_bits}
use Rattle.bit_gates.proofs.TermRows.{row_like, rows_none, conjunct_more, conjuncts_within}
use Rattle.bit_gates.proofs.conditions.places_of.Goals as goal

pub loop-t-init : goal.loop-t-init
loop-t-init g c =
    let old = c.args.table.now in
    record {
      known = rows_none old c.new-memo.result c.new-memo.ensures;
      within = subst (AreWithin old) (sym c.new-places.ensures.items) (within_none old);
      bits = ap (bits_at old) c.new-places.ensures.items ∙ bits_at-none old;
    }

pub loop-t-preserved : goal.loop-t-preserved
loop-t-preserved g c =
    let now = c.loop-t.table in
    let next = c.row_of.new.table in
    let t = c.t-item.result in
    let i = c.loop-t.t-index in
    let condition = c.args.condition.now in
    let places = c.loop-t.places.items in
    let longer = c.extend_from_slice.new.self.items in
    let more = c.deref.result.now in
    let row = row_like next c.in_ok-row.row.items more t c.deref.ensures.value c.in_ok-row.ensures.row in
    let is = c.in_ok-extend_from_slice.ensures.items in
    let of = take_more condition i t c.loop-t-test.true ∙ ap (λ x. take i condition ++ x ∷ []) (sym c.t-item.is) in
    record {
      known = c.in_ok-row.ensures.known;
      within = conjuncts_within now next places more longer t c.in_ok-row.ensures.grows c.loop-t.invariant.within row is;
      bits = conjunct_more now next places more longer (take i condition) (take (i + 1) condition) t c.in_ok-row.ensures.grows c.loop-t.invariant.within c.loop-t.invariant.bits row is of;
    }

pub returns-clause-bits : goal.returns-clause-bits
returns-clause-bits g c =
    c.loop-t.invariant.bits ∙ ap condition_bits (take_all c.loop-t.t-index c.args.condition.now c.loop-t-test.false)
