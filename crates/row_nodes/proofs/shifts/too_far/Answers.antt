use Rattle.std.proofs.Common.{sym, ap, ap₂, ◌∙◌, length, subst}
use Rattle.gates.specs.Bits.{fold_not}
use Rattle.nodes.specs.Nodes.{bit_at}
use Rattle.nodes.specs.Names.{bits_at, AreWithin}
use Rattle.nodes.proofs.GrowthLemmas.{all_stay, made, length-bits_at, all_within, grown_all, grows_on}
use Rattle.rows.specs.Rows.{less, constant_bits}
use Rattle.row_nodes.proofs.shifts.too_far.Goals as goal

pub returns-clause-bit : goal.returns-clause-bit
returns-clause-bit c =
    let old = c.args.table.now in
    let one = c.constant.new.table in
    let ys = c.args.ys.now in
    let left = all_stay old one c.in_ok-width.ensures.grows ys c.requires in
    let right = ap (bits_at one) c.deref.ensures.value ∙ c.in_ok-width.ensures.bits ∙ ap (λ n. constant_bits n n) (sym (length-bits_at old ys)) in
    made c.not.result (λ k. bit_at c.not.new.self k) _ _ c.not.ensures.bit (ap fold_not (c.in_ok-near.ensures.bit ∙ ap₂ less left right))

pub less-requires-clause-places : goal.less-requires-clause-places
less-requires-clause-places c =
    sym (ap length c.deref.ensures.value ∙ c.in_ok-width.ensures.sized)

pub less-requires-clause-left : goal.less-requires-clause-left
less-requires-clause-left c =
    all_within c.args.table.now c.constant.new.table c.in_ok-width.ensures.grows c.args.ys.now c.requires

pub less-requires-clause-right : goal.less-requires-clause-right
less-requires-clause-right c =
    subst (AreWithin c.constant.new.table) (sym c.deref.ensures.value) c.in_ok-width.ensures.within

pub returns-clause-grows : goal.returns-clause-grows
returns-clause-grows c =
    let old = c.args.table.now in
    let one = c.constant.new.table in
    let two = c.less.new.table in
    let last = c.not.new.self in
    grown_all c.not.result old last (grows_on old two last (grows_on old one two c.in_ok-width.ensures.grows c.in_ok-near.ensures.grows) c.not.ensures.grows)
