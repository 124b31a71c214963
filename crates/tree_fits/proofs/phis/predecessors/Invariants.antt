use Rattle.std.proofs.Common.{◌≡◌, ◌++◌, drop, map}
use Rattle.std.specs.List.{list_all, filter}
use Rattle.ir_programs.specs.Texts.{among, texts}
use Rattle.ir_programs.specs.Parts as parts
use Rattle.ir_programs.specs.Locals.{label_of}
use Rattle.ir_programs.specs.Edges as spec
use Rattle.tree_fits.proofs.phis.predecessors.Given as goal

abbrev pub invariant-each : goal.invariant-each
invariant-each l = l.labels ++ map label_of (filter (λ b. among l.name (texts (parts.targets b.terminator.form))) (drop l.block-index l.blocks)) ≡ spec.predecessors l.fn.function l.name
