use Rattle.std.proofs.Common.{◌≡◌, ◌+◌, ◌∙◌, ap, subst, sym, length}
use Rattle.terms.specs.Joining.{AreBytes}
use Rattle.sym_bytes.specs.Byte as byte
use Rattle.sym_bytes.specs.Fitting.{IsByte}
use Rattle.sym_bytes.specs.Joining.{ints_of}
use Rattle.sym_bytes.specs.Shown.{byte_of_kind}
use Rattle.sym_bytes.proofs.Ints.{item_first, next_int, bytes_more, length_more}
use Rattle.sym_bytes.proofs.joining.ints_of.Goals as goal

pub loop-byte-preserved : goal.loop-byte-preserved
loop-byte-preserved g c =
    let t = c.in_ok-copy.field-0 in
    let is : byte.Int t ≡ c.byte-item.result = ap byte.Int c.in_ok-copy.ensures ∙ sym (ap byte_of_kind c.in-Int.is) ∙ c.kind.ensures.kind in (
      next_int c.loop-byte.list c.push.new.self c.args.bytes.now c.loop-byte.byte-index c.byte-item.result t (ints_of c.args.bytes.now)
          (item_first c.args.bytes.now c.loop-byte.byte-index c.byte-item.result c.loop-byte-test.true c.byte-item.is) is c.in_ok-push.ensures.ok c.loop-byte.invariant.0,
      (
        subst AreBytes (sym c.in_ok-push.ensures.ok) (bytes_more c.loop-byte.list t c.loop-byte.invariant.1.0 (subst IsByte (sym is) c.kind.ensures.fits).1),
        ap length c.in_ok-push.ensures.ok ∙ length_more c.loop-byte.list t ∙ ap (λ n. n + 1) c.loop-byte.invariant.1.1,
      ),
    )
