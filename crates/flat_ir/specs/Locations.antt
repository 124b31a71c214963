-- Where things lie that calls change: all bytes of a site's objects, the lives of these objects, the input, the output, the
-- result. An object's site is what made it: a global, or a node.
use Rattle.std.specs.Prelude.{Bool, true, false, ◌==◌, ◌&&◌}
use Rattle.flat_ir.specs.declared.names.Location.{Location}
use Rattle.flat_ir.specs.declared.names.Location.TheVariants as location
use Rattle.flat_ir.specs.declared.names.ObjectName.{ObjectName}
use Rattle.flat_ir.specs.declared.names.Site.{Site}
use Rattle.flat_ir.specs.declared.names.Site.TheVariants as site
use Rattle.flat_ir.specs.History.{Change, Write, Alloc, Free, Get, Put, site_of}

-- the two are one site
abbrev pub same_site : Site → Site → Bool
same_site (site.Global g) (site.Global h) = g == h
same_site (site.Node f n) (site.Node g m) = (f.0 == g.0) && (n.0 == m.0)
same_site (site.Global g) (site.Node f n) = false
same_site (site.Node f n) (site.Global g) = false

-- the two are one location
abbrev pub same_location : Location → Location → Bool
same_location (location.Cells s) (location.Cells t) = same_site s t
same_location (location.Life s) (location.Life t) = same_site s t
same_location location.Input location.Input = true
same_location location.Output location.Output = true
same_location location.Result location.Result = true
same_location _ _ = false

-- where an object's bytes lie
abbrev pub cells_of : ObjectName → Location
cells_of x = location.Cells (site_of x)

-- where it is said whether an object lives
abbrev pub life_of : ObjectName → Location
life_of x = location.Life (site_of x)

-- the location in which a change lies
abbrev pub location_of : Change → Location
location_of (Write x k b) = cells_of x
location_of (Alloc x size) = life_of x
location_of (Free x) = life_of x
location_of Get = location.Input
location_of (Put b) = location.Output

-- the change lies in the location
abbrev pub lies_in : Location → Change → Bool
lies_in at change = same_location at (location_of change)
