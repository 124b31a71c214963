use Rattle.std.proofs.Common.{◌≡◌, take}
use Rattle.std.specs.List.{flat_map}
use Rattle.slicer.specs.Links as spec
use Rattle.mod_ref.specs.Changes.{is_malloc_site}
use Rattle.slicer.proofs.linking.malloc_sites.Given as goal

abbrev pub invariant-loop-site : goal.invariant-loop-site
invariant-loop-site l = l.made.items ≡ flat_map (λ s. spec.kept_if (is_malloc_site l.program s) s) (take l.site-index l.sites)
