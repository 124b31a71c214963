use Rattle.std.proofs.Common.{◌≡◌, ◌+◌, ◌≤◌, length}
use Rattle.concrete_memory.specs.Standing.{overwritten}
use Rattle.concrete_memory.proofs.objects.overwrite.Given as goal

abbrev pub invariant-loop-byte : goal.invariant-loop-byte
invariant-loop-byte l = record {
  left : overwritten l.place l.byte-iterator.rest.items l.bytes ≡ overwritten l.fn.from l.fn.written.items l.initial.bytes;
  within : l.place + length l.byte-iterator.rest.items ≤ length l.bytes;
  end : length l.bytes ≡ l.end;
}
