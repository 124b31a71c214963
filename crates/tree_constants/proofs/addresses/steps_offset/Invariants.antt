use Rattle.std.proofs.Common.{◌≡◌, ◌+◌, ◌%◌, ◌^◌, drop}
use Rattle.std.specs.Prelude.{IsTrue}
use Rattle.std.specs.List.{list_all}
use Rattle.ir_programs.specs.Addresses as spec
use Rattle.ir_programs.specs.Readable.{is_width}
use Rattle.tree_constants.proofs.addresses.steps_offset.Given as goal

abbrev pub invariant-steps : goal.invariant-steps
invariant-steps l = record {
  readable : IsTrue (list_all (λ i. is_width i.width) (drop l.index-index l.indices));
  same : (l.offset + spec.steps_offset l.types l.part (drop l.index-index l.indices)) % 2 ^ 64 ≡ spec.steps_offset l.types l.kind l.indices % 2 ^ 64;
}
