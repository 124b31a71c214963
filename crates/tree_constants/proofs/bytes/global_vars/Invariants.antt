use Rattle.std.proofs.Common.{◌≡◌, ◌++◌, drop, map}
use Rattle.std.specs.Prelude.{IsTrue}
use Rattle.std.specs.List.{list_all}
use Rattle.ir_programs.specs.Programs as spec
use Rattle.ir_programs.specs.Readable.{is_readable_constant}
use Rattle.tree_constants.proofs.bytes.global_vars.Given as goal

abbrev pub invariant-loop-global : goal.invariant-loop-global
invariant-loop-global l = record {
  readable : IsTrue (list_all (λ g. is_readable_constant g.value) (drop l.global-index l.globals));
  made : l.vars ++ map (spec.global_var l.tree) (drop l.global-index l.globals) ≡ map (spec.global_var l.tree) l.globals;
}
