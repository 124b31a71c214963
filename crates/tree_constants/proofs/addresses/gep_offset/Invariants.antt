use Rattle.std.proofs.Common.{◌≡◌, ◌+◌, ◌%◌, ◌^◌, drop}
use Rattle.std.specs.Prelude.{IsTrue}
use Rattle.std.specs.List.{list_all}
use Rattle.ir_programs.specs.Addresses as spec
use Rattle.ir_programs.specs.Readable.{is_readable_level}
use Rattle.tree_constants.proofs.addresses.gep_offset.Given as goal

abbrev pub invariant-loop-level : goal.invariant-loop-level
invariant-loop-level l = record {
  readable : IsTrue (list_all is_readable_level (drop l.level-index l.levels));
  same : (l.offset + spec.levels_offset l.types (drop l.level-index l.levels)) % 2 ^ 64 ≡ spec.levels_offset l.types l.levels % 2 ^ 64;
}
