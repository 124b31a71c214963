use Rattle.std.proofs.Common.{◌≡◌, ◌++◌, take}
use Rattle.std.specs.List.{flat_map}
use Rattle.site_lines.specs.Sites as spec
use Rattle.site_lines.proofs.texts.put_sites.Given as goal

abbrev pub invariant-loop-site : goal.invariant-loop-site
invariant-loop-site l = l.text.items ≡ l.fn.text.items ++ flat_map (spec.spaced_site l.program) (take l.site-index l.sites)
