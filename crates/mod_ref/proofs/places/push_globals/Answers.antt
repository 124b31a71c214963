use Rattle.std.proofs.Common.{◌≡◌, ◌+◌, ◌<◌, drop, arith, length}
use Rattle.flat_ir.specs.declared.names.Site.TheVariants as site
use Rattle.mod_ref.specs.Sites as spec
use Rattle.mod_ref.proofs.Choosing.{globals_next, moved_on}
use Rattle.mod_ref.proofs.places.push_globals.Goals as goal

pub loop-g-preserved : goal.loop-g-preserved
loop-g-preserved c =
    let gs = c.args.program.now.globals in
    let size : c.len-g-end.result ≡ length gs = c.len-g-end.ensures in
    let here : c.loop-g.g < length gs = omega (arith, c.loop-g-test.true, size) in
    moved_on c.push.new.self.items c.loop-g.sites.items (site.Global c.loop-g.g) (spec.sites_by_globals c.loop-g.g (drop c.loop-g.g gs))
    (spec.sites_by_globals (c.loop-g.g + 1) (drop (c.loop-g.g + 1) gs)) _ c.in_ok-push.ensures.items (globals_next c.loop-g.g c.loop-g.g gs here) c.loop-g.invariant
