use Rattle.std.proofs.Common.{◌≡◌, ◌++◌, drop}
use Rattle.site_lines.specs.Sites as spec
use Rattle.site_lines.proofs.texts.put_mod_lines.Given as goal

abbrev pub invariant-loop-f : goal.invariant-loop-f
invariant-loop-f l = l.text.items ++ spec.mod_lines l.program l.f (drop l.f l.lists) ≡ l.fn.text.items ++ spec.mod_lines l.program 0 l.lists
