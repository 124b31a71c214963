use Rattle.std.proofs.Common.{◌<◌, ◌≤◌, ◌-◌, length, IfSome, sym, ap, ap₂, ◌∙◌, subst, arith}
use Rattle.rows.specs.Rows.{constant_bits}
use Rattle.nodes.specs.Nodes.{bit_at}
use Rattle.nodes.specs.Names.{bits_at}
use Rattle.nodes.proofs.GrowthLemmas.{grows_on, lent}
use Rattle.rows.specs.Rows.{top}
use Rattle.terms.specs.Tree.{one, two, choice, IsTree, FitsOne}
use Rattle.terms.specs.Nodes.{tree_of}
use Rattle.bit_gates.specs.Rows.{IsRow}
use Rattle.bit_gates.proofs.TermRows.{row_width, row_some, row_most, row_stays, row_like, rows_stay, one_row, two_row, choice_row, held, made_row, grown_known, bits_of-constant, bits_of-input}
use Rattle.bit_gates.proofs.walk.+row_of.Goals as goal

pub returns-in-Some-clause-row : goal.returns-in-Some-clause-row
returns-in-Some-clause-row g t c =
    subst (λ o. IfSome o (λ row. IsRow c.args.table.now row.items c.args.t.now)) c.in-Some.is (c.in_ok-row.ensures c.args.table.now c.requires)

-- one part

pub unary-requires-clause-fits : goal.unary-requires-clause-fits
unary-requires-clause-fits g t c =
    let whole : IsTree (one c.in-One.op c.in-One.a) = subst (λ n. IsTree (tree_of n)) c.in-One.is c.node.ensures.parts in
    let x = c.in_ok-xs-in-One in
    subst (FitsOne c.in-One.op) (sym (ap length c.deref.ensures.value ∙ row_width c.row_of.new.table x.xs.items c.in-One.a whole.0 x.ensures.row)) whole.1

pub unary-requires-clause-some : goal.unary-requires-clause-some
unary-requires-clause-some g t c =
    let whole : IsTree (one c.in-One.op c.in-One.a) = subst (λ n. IsTree (tree_of n)) c.in-One.is c.node.ensures.parts in
    let x = c.in_ok-xs-in-One in
    subst (λ ks. 1 ≤ length ks) (sym c.deref.ensures.value) (row_some c.row_of.new.table x.xs.items c.in-One.a whole.0 x.ensures.row)

pub noted-requires-clause-row : goal.noted-requires-clause-row
noted-requires-clause-row g t c =
    let one_now = c.row_of.new.table in
    let row = c.in_ok-row-in-One in
    one_row c.unary.new.table row.row.items c.args.t.now c.in-One.op c.in-One.a (bits_at one_now c.deref.result.now) row.ensures.within row.ensures.bits (ap (bits_at one_now) c.deref.ensures.value ∙ c.in_ok-xs-in-One.ensures.row.bits) (sym (ap tree_of c.in-One.is) ∙ c.node.ensures.shape)

pub noted-requires-clause-known : goal.noted-requires-clause-known
noted-requires-clause-known g t c =
    rows_stay c.row_of.new.table c.unary.new.table c.row_of.new.memo c.in_ok-row-in-One.ensures.grows c.in_ok-xs-in-One.ensures.known

-- two parts

pub binary-requires-clause-fits : goal.binary-requires-clause-fits
binary-requires-clause-fits g t c =
    let whole : IsTree (two c.in-Two.op c.in-Two.a c.in-Two.b) = subst (λ n. IsTree (tree_of n)) c.in-Two.is c.node.ensures.parts in
    let x = c.in_ok-xs-in-Two in
    let y = c.in_ok-ys-in-Two in
    let left = ap length c.deref-in-Two.ensures.value ∙ row_width c.row_of-in-Two.new.table x.xs.items c.in-Two.a whole.0 x.ensures.row in
    let right = ap length c.deref-in-Two-2.ensures.value ∙ row_width c.row_of-in-Two-2.new.table y.ys.items c.in-Two.b whole.1 y.ensures.row in
    rw (left, right) whole.2

pub binary-requires-clause-some : goal.binary-requires-clause-some
binary-requires-clause-some g t c =
    let whole : IsTree (two c.in-Two.op c.in-Two.a c.in-Two.b) = subst (λ n. IsTree (tree_of n)) c.in-Two.is c.node.ensures.parts in
    let x = c.in_ok-xs-in-Two in
    subst (λ ks. 1 ≤ length ks) (sym c.deref-in-Two.ensures.value) (row_some c.row_of-in-Two.new.table x.xs.items c.in-Two.a whole.0 x.ensures.row)

pub binary-requires-clause-width : goal.binary-requires-clause-width
binary-requires-clause-width g t c =
    let whole : IsTree (two c.in-Two.op c.in-Two.a c.in-Two.b) = subst (λ n. IsTree (tree_of n)) c.in-Two.is c.node.ensures.parts in
    let x = c.in_ok-xs-in-Two in
    subst (λ ks. length ks ≤ 64) (sym c.deref-in-Two.ensures.value) (row_most c.row_of-in-Two.new.table x.xs.items c.in-Two.a whole.0 x.ensures.row)

pub noted-requires-in-Two-clause-row : goal.noted-requires-in-Two-clause-row
noted-requires-in-Two-clause-row g t c =
    let one_now = c.row_of-in-Two.new.table in
    let two_now = c.row_of-in-Two-2.new.table in
    let x = c.in_ok-xs-in-Two in
    let y = c.in_ok-ys-in-Two in
    let row = c.in_ok-row-in-Two in
    let left = lent one_now two_now x.xs.items c.deref-in-Two.result.now c.deref-in-Two.ensures.value y.ensures.grows x.ensures.row.within ∙ x.ensures.row.bits in
    let right = ap (bits_at two_now) c.deref-in-Two-2.ensures.value ∙ y.ensures.row.bits in
    two_row c.binary.new.table row.row.items c.args.t.now c.in-Two.op c.in-Two.a c.in-Two.b (bits_at two_now c.deref-in-Two.result.now) (bits_at two_now c.deref-in-Two-2.result.now) row.ensures.within row.ensures.bits left right (sym (ap tree_of c.in-Two.is) ∙ c.node.ensures.shape)

pub noted-requires-in-Two-clause-known : goal.noted-requires-in-Two-clause-known
noted-requires-in-Two-clause-known g t c =
    rows_stay c.row_of-in-Two-2.new.table c.binary.new.table c.row_of-in-Two-2.new.memo c.in_ok-row-in-Two.ensures.grows c.in_ok-ys-in-Two.ensures.known

pub returns-in_ok-row-in-Two-clause-grows : goal.returns-in_ok-row-in-Two-clause-grows
returns-in_ok-row-in-Two-clause-grows g t c =
    let old = c.args.table.now in
    let one_now = c.row_of-in-Two.new.table in
    let two_now = c.row_of-in-Two-2.new.table in
    held c.noted-in-Two.result _ (grows_on old two_now c.binary.new.table (grows_on old one_now two_now c.in_ok-xs-in-Two.ensures.grows c.in_ok-ys-in-Two.ensures.grows) c.in_ok-row-in-Two.ensures.grows)

-- three parts

pub top-requires : goal.top-requires
top-requires g t c =
    let whole : IsTree (choice c.in-Choice.test c.in-Choice.a c.in-Choice.b) = subst (λ n. IsTree (tree_of n)) c.in-Choice.is c.node.ensures.parts in
    let k = c.in_ok-tests-in-Choice in
    subst (λ ks. 1 ≤ length ks) (sym c.deref-in-Choice.ensures.value) (row_some c.row_of-in-Choice.new.table k.tests.items c.in-Choice.test whole.0 k.ensures.row)

pub each-requires-clause-gate : goal.each-requires-clause-gate
each-requires-clause-gate g t c =
    let whole : IsTree (choice c.in-Choice.test c.in-Choice.a c.in-Choice.b) = subst (λ n. IsTree (tree_of n)) c.in-Choice.is c.node.ensures.parts in
    let one_now = c.row_of-in-Choice.new.table in
    let two_now = c.row_of-in-Choice-2.new.table in
    let three_now = c.row_of-in-Choice-3.new.table in
    let k = c.in_ok-tests-in-Choice in
    let later = grows_on one_now two_now three_now c.in_ok-xs-in-Choice.ensures.grows c.in_ok-ys-in-Choice.ensures.grows in
    let here = row_like three_now k.tests.items c.deref-in-Choice.result.now c.in-Choice.test c.deref-in-Choice.ensures.value (row_stays one_now three_now k.tests.items c.in-Choice.test later k.ensures.row) in
    subst (λ n. n < length three_now) (sym c.top.ensures.place) (here.within (length c.deref-in-Choice.result.now - 1) (let some = row_some three_now c.deref-in-Choice.result.now c.in-Choice.test whole.0 here in omega arith))

pub each-requires-clause-places : goal.each-requires-clause-places
each-requires-clause-places g t c =
    let whole : IsTree (choice c.in-Choice.test c.in-Choice.a c.in-Choice.b) = subst (λ n. IsTree (tree_of n)) c.in-Choice.is c.node.ensures.parts in
    let x = c.in_ok-xs-in-Choice in
    let y = c.in_ok-ys-in-Choice in
    let left = ap length c.deref-in-Choice-2.ensures.value ∙ row_width c.row_of-in-Choice-2.new.table x.xs.items c.in-Choice.a whole.1 x.ensures.row in
    let right = ap length c.deref-in-Choice-3.ensures.value ∙ row_width c.row_of-in-Choice-3.new.table y.ys.items c.in-Choice.b whole.2 y.ensures.row in
    left ∙ whole.4 ∙ sym right

pub each-requires-clause-left : goal.each-requires-clause-left
each-requires-clause-left g t c =
    let x = c.in_ok-xs-in-Choice in
    (row_like c.row_of-in-Choice-3.new.table x.xs.items c.deref-in-Choice-2.result.now c.in-Choice.a c.deref-in-Choice-2.ensures.value (row_stays c.row_of-in-Choice-2.new.table c.row_of-in-Choice-3.new.table x.xs.items c.in-Choice.a c.in_ok-ys-in-Choice.ensures.grows x.ensures.row)).within

pub noted-requires-in-Choice-clause-row : goal.noted-requires-in-Choice-clause-row
noted-requires-in-Choice-clause-row g t c =
    let one_now = c.row_of-in-Choice.new.table in
    let two_now = c.row_of-in-Choice-2.new.table in
    let three_now = c.row_of-in-Choice-3.new.table in
    let k = c.in_ok-tests-in-Choice in
    let x = c.in_ok-xs-in-Choice in
    let y = c.in_ok-ys-in-Choice in
    let row = c.in_ok-row-in-Choice in
    let later = grows_on one_now two_now three_now x.ensures.grows y.ensures.grows in
    let test = c.top.ensures.bit three_now ∙ ap top (lent one_now three_now k.tests.items c.deref-in-Choice.result.now c.deref-in-Choice.ensures.value later k.ensures.row.within ∙ k.ensures.row.bits) in
    let left = lent two_now three_now x.xs.items c.deref-in-Choice-2.result.now c.deref-in-Choice-2.ensures.value y.ensures.grows x.ensures.row.within ∙ x.ensures.row.bits in
    let right = ap (bits_at three_now) c.deref-in-Choice-3.ensures.value ∙ y.ensures.row.bits in
    choice_row c.each.new.table row.row.items c.args.t.now c.in-Choice.test c.in-Choice.a c.in-Choice.b (bit_at three_now c.top.result) (bits_at three_now c.deref-in-Choice-2.result.now) (bits_at three_now c.deref-in-Choice-3.result.now) row.ensures.within row.ensures.bits test left right (sym (ap tree_of c.in-Choice.is) ∙ c.node.ensures.shape)

pub noted-requires-in-Choice-clause-known : goal.noted-requires-in-Choice-clause-known
noted-requires-in-Choice-clause-known g t c =
    rows_stay c.row_of-in-Choice-3.new.table c.each.new.table c.row_of-in-Choice-3.new.memo c.in_ok-row-in-Choice.ensures.grows c.in_ok-ys-in-Choice.ensures.known

pub returns-in_ok-row-in-Choice-clause-grows : goal.returns-in_ok-row-in-Choice-clause-grows
returns-in_ok-row-in-Choice-clause-grows g t c =
    let old = c.args.table.now in
    let one_now = c.row_of-in-Choice.new.table in
    let two_now = c.row_of-in-Choice-2.new.table in
    let three_now = c.row_of-in-Choice-3.new.table in
    let first = grows_on old one_now two_now c.in_ok-tests-in-Choice.ensures.grows c.in_ok-xs-in-Choice.ensures.grows in
    held c.noted-in-Choice.result _ (grows_on old three_now c.each.new.table (grows_on old two_now three_now first c.in_ok-ys-in-Choice.ensures.grows) c.in_ok-row-in-Choice.ensures.grows)

-- no part

pub returns-in-Constant-clause-row : goal.returns-in-Constant-clause-row
returns-in-Constant-clause-row g t c =
    made_row c.constant.result c.constant.new.table c.args.t.now _ c.constant.ensures.within c.constant.ensures.bits (ap₂ constant_bits (c.from.ensures ∙ c.width.ensures.width) c.bits.ensures.bits ∙ bits_of-constant c.in-Constant.n c.args.t.now (sym (ap tree_of c.in-Constant.is) ∙ c.node.ensures.shape))

pub returns-in-Constant-clause-known : goal.returns-in-Constant-clause-known
returns-in-Constant-clause-known g t c = grown_known c.constant.result c.args.table.now c.constant.new.table c.args.memo.now c.constant.ensures.grows c.requires

pub returns-in-Input-clause-row : goal.returns-in-Input-clause-row
returns-in-Input-clause-row g t c =
    made_row c.input.result c.input.new.table c.args.t.now _ c.input.ensures.within c.input.ensures.bits (bits_of-input c.in-Input.k c.args.t.now (sym (ap tree_of c.in-Input.is) ∙ c.node.ensures.shape))

pub returns-in-Input-clause-known : goal.returns-in-Input-clause-known
returns-in-Input-clause-known g t c = grown_known c.input.result c.args.table.now c.input.new.table c.args.memo.now c.input.ensures.grows c.requires
