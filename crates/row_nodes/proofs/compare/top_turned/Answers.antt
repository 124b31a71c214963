use Rattle.std.proofs.Common.{length, sym, ap, ap₂, subst, ◌∙◌}
use Rattle.nodes.specs.Nodes.{Grows}
use Rattle.nodes.specs.Names.{bits_at, AreWithin}
use Rattle.nodes.proofs.GrowthLemmas.{grows_none, within_none}
use Rattle.nodes.proofs.WalkLemmas.{empty_of}
use Rattle.row_nodes.proofs.RowLemmas.{last_within, turned_top, turned_none, turned_sized, turned_within}
use Rattle.row_nodes.proofs.compare.top_turned.Goals as goal
use Rattle.row_nodes.proofs.compare.top_turned.Goals.{in-Some+in_ok-not+in_ok-push, in_default}

pub returns-clause-bits : goal.returns-clause-bits
returns-clause-bits c =
    let old = c.args.table.now in
    let xs = c.args.xs.now in
    let row = c.in_ok-row.row in
    let front = c.pop.new.self in
    elim c.match-pop.branch [
      | in-Some+in_ok-not+in_ok-push w ↦ ap₂ (λ t r. bits_at t r.items) w.table-is w.row-is ∙ turned_top old w.not.new.self xs front.items w.push.new.self.items w.in-Some.top w.in_ok-not.field-0 w.not.ensures.grows c.requires (sym c.in_ok-row.ensures.items ∙ w.in-Some.ensures.items) w.in_ok-push.ensures.items w.in_ok-not.ensures.bit
      | in_default w ↦ ap₂ (λ t r. bits_at t r.items) w.table-is w.row-is ∙ turned_none old xs front.items (sym c.in_ok-row.ensures.items ∙ empty_of row.items (sym row.ok.0 ∙ w.in_default.ensures.cases.0)) (empty_of front.items (sym front.ok.0 ∙ w.in_default.ensures.cases.1))
    ]

pub not-requires : goal.not-requires
not-requires c =
    last_within c.args.table.now c.pop.new.self.items c.in-Some.top (subst (AreWithin c.args.table.now) (sym c.in_ok-row.ensures.items ∙ c.in-Some.ensures.items) c.requires)

pub returns-clause-within : goal.returns-clause-within
returns-clause-within c =
    let old = c.args.table.now in
    let xs = c.args.xs.now in
    let row = c.in_ok-row.row in
    let front = c.pop.new.self in
    elim c.match-pop.branch [
      | in-Some+in_ok-not+in_ok-push w ↦ subst (λ t. AreWithin t c.match-pop.row.items) (sym w.table-is) (subst (AreWithin w.not.new.self) (ap (λ r. r.items) (sym w.row-is)) (turned_within old w.not.new.self xs front.items w.push.new.self.items w.in-Some.top w.in_ok-not.field-0 w.not.ensures.grows c.requires (sym c.in_ok-row.ensures.items ∙ w.in-Some.ensures.items) w.in_ok-push.ensures.items w.in_ok-not.ensures.within))
      | in_default w ↦ subst (λ t. AreWithin t c.match-pop.row.items) (sym w.table-is) (subst (AreWithin old) (ap (λ r. r.items) (sym w.row-is)) (subst (AreWithin old) (sym (empty_of front.items (sym front.ok.0 ∙ w.in_default.ensures.cases.1))) (within_none old)))
    ]

pub returns-clause-sized : goal.returns-clause-sized
returns-clause-sized c =
    let old = c.args.table.now in
    let xs = c.args.xs.now in
    let row = c.in_ok-row.row in
    let front = c.pop.new.self in
    elim c.match-pop.branch [
      | in-Some+in_ok-not+in_ok-push w ↦ ap (λ r. length r.items) w.row-is ∙ turned_sized xs front.items w.push.new.self.items w.in-Some.top w.in_ok-not.field-0 (sym c.in_ok-row.ensures.items ∙ w.in-Some.ensures.items) w.in_ok-push.ensures.items
      | in_default w ↦ ap (λ r. length r.items) w.row-is ∙ ap length (empty_of front.items (sym front.ok.0 ∙ w.in_default.ensures.cases.1)) ∙ sym (ap length (sym c.in_ok-row.ensures.items ∙ empty_of row.items (sym row.ok.0 ∙ w.in_default.ensures.cases.0)))
    ]

pub returns-clause-grows : goal.returns-clause-grows
returns-clause-grows c =
    elim c.match-pop.branch [
      | in-Some+in_ok-not+in_ok-push w ↦ subst (Grows c.args.table.now) (sym w.table-is) w.not.ensures.grows
      | in_default w ↦ subst (Grows c.args.table.now) (sym w.table-is) (grows_none c.args.table.now)
    ]
