use Rattle.std.proofs.Common.{subst, ◌∙◌, Option, Some, None}
use Rattle.layout.specs.Layout.{Extent}
use Rattle.ir_tree.specs.Layout as spec
use Rattle.ir_tree.specs.Extents.{Agrees}
use Rattle.tree_types.proofs.Extents.{capped_times}
use Rattle.tree_types.proofs.rooms.array_of.Goals as goal

pub returns-in-Some : goal.returns-in-Some
returns-in-Some c e agrees = go e (subst (λ o. Agrees o e) c.in-Some.is agrees)
  where
    go : (e : Option Extent) → Agrees (Some c.in-Some.e) e → Agrees (Some (record { size = c.times.result; align = c.in-Some.e.align })) (spec.of_array c.args.len e)
    go (Some x) a = (c.times.ensures ∙ capped_times c.args.len x.size c.in-Some.e.size a.0, a.1, a.2, a.3)
    go None a = absurd a
