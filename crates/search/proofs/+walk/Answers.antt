use Rattle.std.proofs.Common.{rules, true, false, length, sym, ◌∙◌, refl}
use Rattle.cnf.specs.Cnf.{lists_of}
use Rattle.search.specs.Tree.{decided, tree}
use Rattle.cnf.specs.declared.Lit.{Lit}
use Rattle.search.specs.declared.Walked.TheVariants.{Left}
use Rattle.search.specs.Walks.{IsWalkOf}
use Rattle.search.proofs.TreeLemmas.{tree-conflicting}
use Rattle.search.proofs.WalkLemmas.{walk_of_same, ends_low, positive_when_left}
use Rattle.search.proofs.NodeLemmas.{closure_none, closure_some, side_may, enter_may, same_tree, skip_may, node_skip, node_decided, node_model, under, closed_by, walk_result_same, at_left, under_may, under_length}
use Rattle.search.proofs.+walk.Goals as goal

pub descend-returns-in_default : goal.descend-returns-in_default
descend-returns-in_default t c =
    let F = lists_of c.args.clauses.now in
    let D = c.args.decisions.now in
    let conflict = closure_none F D c.args.assigned.now _ c.requires.reached c.in_ok-closed.ensures c.in_default.is in
    walk_result_same _ _ c.args.budget _ _ c.leaf.result (tree-conflicting F (length c.args.assigned.now) c.args.order.now D conflict) c.leaf.ensures

pub descend-branch-alloc-requires : goal.descend-branch-alloc-requires
descend-branch-alloc-requires t c =
    let F = lists_of c.args.clauses.now in
    let D = c.args.decisions.now in
    let b = c.deref.result.now in
    let closes = closure_some F c.args.assigned.now b _ c.in-Some.closed c.in_ok-closed.ensures c.in-Some.is c.deref.ensures.value in
    (search rules, (c.requires.budget, enter_may F D c.args.assigned.now b c.requires.reached closes c.args.order.now c.requires.variables c.requires.order))

pub descend-returns : goal.descend-returns
descend-returns t c =
    let F = lists_of c.args.clauses.now in
    let D = c.args.decisions.now in
    let b = c.deref.result.now in
    let closes = closure_some F c.args.assigned.now b _ c.in-Some.closed c.in_ok-closed.ensures c.in-Some.is c.deref.ensures.value in
    walk_result_same _ _ c.args.budget _ _ c.branch-alloc.result (same_tree F D c.args.assigned.now b c.requires.reached closes c.args.order.now D) c.branch-alloc.ensures

pub branch-returns-in_default : goal.branch-returns-in_default
branch-returns-in_default t c =
    let F = lists_of c.args.clauses.now in
    let D = c.args.decisions.now in
    let b = c.args.closed.now in
    node_model F D b b c.requires.reached c.requires.closed c.args.order.now c.in_ok-values.field-0 c.args.budget (lists_of c.args.log.now.items) c.in_default.len_below c.requires.budget c.in_ok-values.ensures

pub branch-branch-alloc-requires : goal.branch-branch-alloc-requires
branch-branch-alloc-requires t c =
    let F = lists_of c.args.clauses.now in
    let D = c.args.decisions.now in
    let b = c.args.closed.now in
    (search rules, (c.requires.budget, skip_may F D b b c.requires.reached c.requires.closed c.args.order.now c.requires.variables c.requires.order))

pub branch-returns-then-is_some : goal.branch-returns-then-is_some
branch-returns-then-is_some t c =
    let F = lists_of c.args.clauses.now in
    let D = c.args.decisions.now in
    let b = c.args.closed.now in
    let has = sym c.if-is_some.ensures in
    walk_result_same _ _ c.args.budget _ _ c.branch-alloc.result (node_skip F D b b c.requires.reached c.requires.closed c.args.order.now c.in-len1-up.len_at_least has) c.branch-alloc.ensures

pub branch-side-requires : goal.branch-side-requires
branch-side-requires t c =
    let F = lists_of c.args.clauses.now in
    let D = c.args.decisions.now in
    let b = c.args.closed.now in
    let free = sym c.if-is_some.ensures in
    (search rules, (c.requires.budget, side_may F D b b c.requires.reached c.requires.closed c.args.order.now c.in-len1-up.len_at_least c.requires.variables c.requires.order free))

pub branch-side-requires-in-Left : goal.branch-side-requires-in-Left
branch-side-requires-in-Left t c =
    let F = lists_of c.args.clauses.now in
    let D = c.args.decisions.now in
    let b = c.args.closed.now in
    let free = sym c.if-is_some.ensures in
    (search rules, (positive_when_left _ c.args.budget c.in-Left.budget _ _ c.in_ok-other.other c.in-Left.is c.in_ok-other.ensures, side_may F D b b c.requires.reached c.requires.closed c.args.order.now c.in-len1-up.len_at_least c.requires.variables c.requires.order free))

pub branch-returns-in_ok-upper-in-Left : goal.branch-returns-in_ok-upper-in-Left
branch-returns-in_ok-upper-in-Left t c =
    let F = lists_of c.args.clauses.now in
    let D = c.args.decisions.now in
    let b = c.args.closed.now in
    let order = c.args.order.now in
    let some = c.in-len1-up.len_at_least in
    let free = sym c.if-is_some.ensures in
    let low = under F D b b c.requires.reached c.requires.closed order false in
    let high = under F D b b c.requires.reached c.requires.closed order true in
    let before = lists_of c.args.log.now.items in
    let between = lists_of c.side.new.log.items in
    let after = lists_of c.side-in-Left.new.log.items in
    let first : IsWalkOf low c.args.budget before between (Left c.in-Left.budget) = at_left low low c.args.budget c.in-Left.budget before between c.in_ok-other.other refl c.in-Left.is c.in_ok-other.ensures in
    let second : IsWalkOf high c.in-Left.budget between after c.in_ok-upper-in-Left.upper = c.in_ok-upper-in-Left.ensures in
    closed_by (tree F (length b) order D) D low high c.args.budget c.in-Left.budget before between after (lists_of c.close_node.new.log.items) c.in_ok-upper-in-Left.upper c.close_node.result (node_decided F D b b c.requires.reached c.requires.closed order some free) first second c.close_node.ensures.same c.close_node.ensures.logged

pub branch-returns-in_default-2 : goal.branch-returns-in_default-2
branch-returns-in_default-2 t c =
    let F = lists_of c.args.clauses.now in
    let D = c.args.decisions.now in
    let b = c.args.closed.now in
    let order = c.args.order.now in
    let some = c.in-len1-up.len_at_least in
    let free = sym c.if-is_some.ensures in
    let low = under F D b b c.requires.reached c.requires.closed order false in
    let high = under F D b b c.requires.reached c.requires.closed order true in
    let before = lists_of c.args.log.now.items in
    let between = lists_of c.side.new.log.items in
    walk_of_same (tree F (length b) order D) (decided D low high) c.args.budget before between c.in_ok-other.other (node_decided F D b b c.requires.reached c.requires.closed order some free) (ends_low D low high c.args.budget before between c.in_ok-other.other c.in_ok-other.ensures c.in_default-2.not-Left)

pub side-descend-requires : goal.side-descend-requires
side-descend-requires t c =
    let F = lists_of c.args.clauses.now in
    let l : Lit = c.args.lit in
    (search rules, (c.requires.budget, under_may F c.args.decisions.now c.deref-2.result.now c.args.closed.now c.deref.result.now l c.args.order.now c.requires.variables c.requires.order c.requires.variable c.requires.unassigned c.requires.reached (c.deref.ensures.value ∙ c.in_ok-next.ensures) (c.deref-2.ensures.value ∙ c.in_ok-decided.ensures)))

pub side-returns : goal.side-returns
side-returns t c =
    let F = lists_of c.args.clauses.now in
    let l : Lit = c.args.lit in
    walk_result_same _ _ c.args.budget _ _ c.descend.result (under_length F c.args.closed.now c.deref.result.now l c.args.order.now c.args.decisions.now c.deref-2.result.now (c.deref.ensures.value ∙ c.in_ok-next.ensures) (c.deref-2.ensures.value ∙ c.in_ok-decided.ensures)) c.descend.ensures
