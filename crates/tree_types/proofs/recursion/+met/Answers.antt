use Rattle.std.proofs.Common.{arith}
use Rattle.tree_types.proofs.Meeting.{int_met, ptr_met, array_met, struct_met, named_met, some_met, next_met, last_met}
use Rattle.tree_types.proofs.recursion.+met.Goals as goal

pub is_met_in-returns-in-Array : goal.is_met_in-returns-in-Array
is_met_in-returns-in-Array t c = λ n a.
    array_met n c.args.types.now c.args.target.now c.args.kind.now c.in-Array.at c.in-Array.len c.in-Array.element c.get.result.now c.is_met_in.result c.in-Array.is c.get.ensures (c.is_met_in.ensures n a)

pub is_met_in-returns-in-Struct : goal.is_met_in-returns-in-Struct
is_met_in-returns-in-Struct t c = λ n a.
    struct_met n c.args.types.now c.args.target.now c.args.kind.now c.in-Struct.at c.in-Struct.fields c.as_slice.result.now c.in-Struct.packed c.is_met_in_some.result c.in-Struct.is c.as_slice.ensures (c.is_met_in_some.ensures n a)

pub is_met_in-returns-in-Named : goal.is_met_in-returns-in-Named
is_met_in-returns-in-Named t c = λ n a.
    named_met n c.args.types.now c.args.target.now c.args.kind.now c.in-Named.name c.as_slice-in-Named.result.now c.in-Named.at c.is_name_met.result c.in-Named.is c.as_slice-in-Named.ensures (c.is_name_met.ensures n a)

pub is_met_in_some-returns-then-is_met_in : goal.is_met_in_some-returns-then-is_met_in
is_met_in_some-returns-then-is_met_in t c = λ n a.
    some_met n c.args.types.now c.args.target.now c.args.kinds.now c.each.kind-index c.kind-item.result c.is_met_in.result c.each-test.true c.kind-item.is (c.is_met_in.ensures n a) c.if-is_met_in.true (c.each.invariant n a)

pub is_met_in_some-each-preserved : goal.is_met_in_some-each-preserved
is_met_in_some-each-preserved t c = λ n a.
    next_met n c.args.types.now c.args.target.now c.args.kinds.now c.each.kind-index c.kind-item.result c.is_met_in.result c.each-test.true c.kind-item.is (c.is_met_in.ensures n a) c.if-is_met_in.false (c.each.invariant n a)

pub is_met_in_some-returns : goal.is_met_in_some-returns
is_met_in_some-returns t c = λ n a. last_met n c.args.types.now c.args.target.now c.args.kinds.now c.each.kind-index (omega (arith, c.each-test.false)) (c.each.invariant n a)

pub is_met_in-returns-in-Int : goal.is_met_in-returns-in-Int
is_met_in-returns-in-Int t c = λ n a. int_met n c.args.types.now c.args.target.now c.args.kind.now c.in-Int.field-0 c.in-Int.is

pub is_met_in-returns-in-Ptr : goal.is_met_in-returns-in-Ptr
is_met_in-returns-in-Ptr t c = λ n a. ptr_met n c.args.types.now c.args.target.now c.args.kind.now c.in-Ptr.is
