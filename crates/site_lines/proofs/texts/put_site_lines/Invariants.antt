use Rattle.std.proofs.Common.{◌≡◌, ◌++◌, take}
use Rattle.std.specs.List.{flat_map}
use Rattle.points_to.specs.Sets.{of_cells}
use Rattle.site_lines.specs.Sites as spec
use Rattle.site_lines.proofs.texts.put_site_lines.Given as goal

abbrev pub invariant-loop-site : goal.invariant-loop-site
invariant-loop-site l = l.text.items ≡ l.fn.text.items ++ flat_map (spec.site_line l.program (of_cells l.sets)) (take l.site-index l.sites)
