use Rattle.std.proofs.Common.{ap, ap₂, ◌∙◌, length, subst, sym}
use Rattle.nodes.specs.Nodes.{bit_at}
use Rattle.nodes.specs.Names.{bits_at, AreWithin}
use Rattle.nodes.proofs.GrowthLemmas.{all_stay, lent, made, all_within, grown_on, grows_on, lent_within}
use Rattle.rows.specs.Rows.{top_turned, less}
use Rattle.row_nodes.proofs.compare.signed_less.Goals as goal

pub returns-clause-bit : goal.returns-clause-bit
returns-clause-bit c =
    let old = c.args.table.now in
    let one = c.top_turned.new.table in
    let two = c.top_turned-2.new.table in
    let x = c.in_ok-left in
    let y = c.in_ok-right in
    let left = lent one two x.left.items c.deref.result.now c.deref.ensures.value y.ensures.grows x.ensures.within ∙ x.ensures.bits in
    let right = ap (bits_at two) c.deref-2.ensures.value ∙ y.ensures.bits ∙ ap top_turned (all_stay old one x.ensures.grows c.args.ys.now c.requires.right) in
    made c.less.result (λ k. bit_at c.less.new.table k) _ _ c.less.ensures.bit (ap₂ less left right)

pub top_turned-requires-2 : goal.top_turned-requires-2
top_turned-requires-2 c =
    all_within c.args.table.now c.top_turned.new.table c.in_ok-left.ensures.grows c.args.ys.now c.requires.right

pub less-requires-clause-places : goal.less-requires-clause-places
less-requires-clause-places c =
    ap length c.deref.ensures.value ∙ c.in_ok-left.ensures.sized ∙ c.requires.places ∙ sym (ap length c.deref-2.ensures.value ∙ c.in_ok-right.ensures.sized)

pub less-requires-clause-left : goal.less-requires-clause-left
less-requires-clause-left c =
    lent_within c.top_turned.new.table c.top_turned-2.new.table c.in_ok-left.left.items c.deref.result.now c.deref.ensures.value c.in_ok-right.ensures.grows c.in_ok-left.ensures.within

pub less-requires-clause-right : goal.less-requires-clause-right
less-requires-clause-right c =
    subst (AreWithin c.top_turned-2.new.table) (sym c.deref-2.ensures.value) c.in_ok-right.ensures.within

pub returns-clause-grows : goal.returns-clause-grows
returns-clause-grows c =
    let old = c.args.table.now in
    let one = c.top_turned.new.table in
    let two = c.top_turned-2.new.table in
    grown_on c.less.result old two c.less.new.table (grows_on old one two c.in_ok-left.ensures.grows c.in_ok-right.ensures.grows) c.less.ensures.grows
