use Rattle.std.proofs.Common.{◌≡◌, ◌<◌, ◌-◌, ◌++◌, [], ◌∷◌, length, drop, get_or, arith, sym, ap, ap₂, ◌∙◌, subst}
use Rattle.std.proofs.lemmas.List.{length-replicate}
use Rattle.nodes.specs.Names.{bits_at, AreWithin}
use Rattle.nodes.proofs.WalkLemmas.{bits_at-push}
use Rattle.nodes.proofs.GrowthLemmas.{stays, all_stay, all_within, grows_none, grows_on, bits_at-none, bits_at-cons, length-bits_at, within_none, within_cons, within_replicate}
use Rattle.rows.specs.Rows.{fills, division}
use Rattle.row_nodes.specs.Divisions.{trial}
use Rattle.row_nodes.proofs.RowLemmas.{bits_at-replicate}
use Rattle.row_nodes.proofs.MoveLemmas.{division-none, division_next}
use Rattle.row_nodes.proofs.divisions.divided.Goals as goal

pub loop-i-init : goal.loop-i-init
loop-i-init c =
    let old = c.args.table.now in
    let one = c.constant.new.self in
    let xs = c.args.xs.now in
    let ys = c.args.ys.now in
    let zero = c.in_ok-zero in
    let none = c.new-quotient.ensures.items in
    let zeros = c.in_ok-remainder.ensures in
    let start = division-none old xs (bits_at old ys) (length xs) (omega arith) in
    record {
      start = grows_none one;
      grows = c.constant.ensures.grows;
      low = omega arith;
      quotient_within = subst (AreWithin one) (sym none) (within_none one);
      quotient_sized = omega (arith, ap length none);
      remainder_within = subst (AreWithin one) (sym zeros) (within_replicate one (length ys) zero.zero zero.ensures.within);
      remainder_sized = ap length zeros ∙ length-replicate (length ys) zero.zero;
      quotient = ap (bits_at one) none ∙ bits_at-none one ∙ sym (ap (λ d. d.quotient) start);
      remainder = ap (bits_at one) zeros ∙ bits_at-replicate one (length ys) zero.zero ∙ ap₂ fills (sym (length-bits_at old ys)) zero.ensures.bit ∙ sym (ap (λ d. d.remainder) start);
    }

pub loop-i-preserved : goal.loop-i-preserved
loop-i-preserved c =
    let old = c.args.table.now in
    let one = c.constant.new.self in
    let now = c.loop-i.table in
    let next = c.tried.new.table in
    let xs = c.args.xs.now in
    let ys = c.args.ys.now in
    let i = c.loop-i.i in
    let some : 0 < i = c.loop-i-test.true in
    let at = c.loop-i.invariant in
    let zero = c.in_ok-zero.zero in
    let place = get_or xs (i - 1) 0 in
    let so_far = division (bits_at old (drop i xs)) (bits_at old ys) in
    let done = c.in_ok-trial in
    let sized = sym (ap length at.remainder) ∙ length-bits_at now c.loop-i.remainder.items ∙ at.remainder_sized ∙ sym (length-bits_at old ys) in
    let step = division_next old xs (bits_at old ys) i some at.low sized in
    let rest = ap (bits_at now) (c.deref-in-loop-i.ensures.value ∙ c.in_ok-rest.ensures ∙ ap (λ ks. place ∷ ks) c.deref.ensures.value) ∙ bits_at-cons now place c.loop-i.remainder.items ∙ ap₂ (λ b bs. b ∷ bs) (stays old now at.grows place (c.requires.left (i - 1) (omega (arith, some, at.low)))) at.remainder in
    let divisor = ap (bits_at now) (c.deref-in-loop-i-2.ensures.value ∙ c.in_ok-divisor.ensures) ∙ bits_at-push now ys zero ∙ ap₂ (λ bs b. bs ++ b ∷ []) (all_stay old now at.grows ys c.requires.right) (stays one now at.start zero c.in_ok-zero.ensures.within ∙ c.in_ok-zero.ensures.bit) in
    let made = ap₂ trial rest divisor in
    let quotient = c.in_ok-quotient.ensures ∙ ap (λ ks. done.trial.fits ∷ ks) c.deref-in-loop-i-3.ensures.value in
    record {
      start = grows_on one now next at.start done.ensures.grows;
      grows = grows_on old now next at.grows done.ensures.grows;
      low = omega (arith, at.low);
      quotient_within = subst (AreWithin next) (sym quotient) (within_cons next done.trial.fits c.loop-i.quotient.items done.ensures.fits_within (all_within now next done.ensures.grows c.loop-i.quotient.items at.quotient_within));
      quotient_sized = omega (arith, ap length quotient, at.quotient_sized, some);
      remainder_within = done.ensures.within;
      remainder_sized = omega (arith, done.ensures.sized, ap length (c.deref-in-loop-i.ensures.value ∙ c.in_ok-rest.ensures ∙ ap (λ ks. place ∷ ks) c.deref.ensures.value), at.remainder_sized);
      quotient = ap (bits_at next) quotient ∙ bits_at-cons next done.trial.fits c.loop-i.quotient.items ∙ ap₂ (λ b bs. b ∷ bs) (done.ensures.fits ∙ ap (λ t. t.fits) made) (all_stay now next done.ensures.grows c.loop-i.quotient.items at.quotient_within ∙ at.quotient) ∙ sym (ap (λ d. d.quotient) step);
      remainder = done.ensures.remainder ∙ ap (λ t. t.remainder) made ∙ sym (ap (λ d. d.remainder) step);
    }

pub returns-clause-quotient : goal.returns-clause-quotient
returns-clause-quotient c =
    let none : c.loop-i.i ≡ 0 = omega (arith, c.loop-i-test.false) in
    c.loop-i.invariant.quotient ∙ ap (λ n. (division (bits_at c.args.table.now (drop n c.args.xs.now)) (bits_at c.args.table.now c.args.ys.now)).quotient) none

pub returns-clause-remainder : goal.returns-clause-remainder
returns-clause-remainder c =
    let none : c.loop-i.i ≡ 0 = omega (arith, c.loop-i-test.false) in
    c.loop-i.invariant.remainder ∙ ap (λ n. (division (bits_at c.args.table.now (drop n c.args.xs.now)) (bits_at c.args.table.now c.args.ys.now)).remainder) none
