use Rattle.std.proofs.Common.{◌≡◌, ◌++◌, drop}
use Rattle.std.specs.Prelude.{IsTrue}
use Rattle.std.specs.List.{flat_map, list_all}
use Rattle.ir_programs.specs.Programs as spec
use Rattle.ir_programs.specs.Readable.{is_readable_constant}
use Rattle.tree_constants.proofs.Filling.{SoFar}
use Rattle.tree_constants.proofs.bytes.+constants.Given as goal

abbrev pub invariant-push_all-loop-constant : goal.invariant-push_all-loop-constant
invariant-push_all-loop-constant l = record {
  readable : IsTrue (list_all is_readable_constant (drop l.constant-index l.constants));
  made : l.bytes.items ++ flat_map (spec.constant_bytes l.tree) (drop l.constant-index l.constants) ≡ l.initial.bytes.items ++ flat_map (spec.constant_bytes l.tree) l.constants;
}

abbrev pub invariant-push_fields-loop-place : goal.invariant-push_fields-loop-place
invariant-push_fields-loop-place l = record {
  readable : IsTrue (list_all is_readable_constant (drop l.place l.constants));
  made : SoFar l.tree l.shape.fields.now l.shape.packed l.constants l.initial.bytes.items l.place l.bytes.items;
}
