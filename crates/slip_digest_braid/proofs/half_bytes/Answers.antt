-- `slip_digest_braid::half_bytes` meets its contract. The loop's invariant: the first k half bytes are multiplied in,
-- up to the way back from level l.
use Prim.Native.Nat.{◌<◌}
use native.Mathlib.Omega.{arith}
use Rattle.base.specs.Digits.{halves}
use Rattle.base.proofs.DigitLaws.{length_halves, halves_below}
use Rattle.slip_digest_braid.proofs.ShortBraid.{none_reached, more_reached, all_reached}
use Rattle.slip_digest_braid.proofs.half_bytes.Goals as goal

pub loop-k-init : goal.loop-k-init
loop-k-init c =
    let a = c.args in (
      omega arith,
      none_reached a.bits a.constants.now a.powers.now (halves a.digest.now) a.columns.now
          a.labels.now c.requires.0,
    )

pub loop-k-preserved : goal.loop-k-preserved
loop-k-preserved c =
    let l = c.loop-k in
    let digest = c.args.digest.now in
    let h : c.half-h.result < 16 =
    rw c.half-h.ensures (halves_below digest (λ i. omega (arith, c.type_inv.digest i)) _) in
    let e = c.half_byte-l.ensures in (
      e.1,
      more_reached c.half-h.result c.half_byte-l.result (omega (arith, length_halves digest)) c.half-h.ensures h
          l.invariant.0 e.0 e.1 l.invariant.1 e.2,
    )

pub returns : goal.returns
returns c =
    let l = c.loop-k in
    let digest = c.args.digest.now in
    all_reached digest l.k l.l (omega (arith, length_halves digest)) l.invariant.0 l.invariant.1 c.walk.ensures

pub half_byte-l-requires : goal.half_byte-l-requires
half_byte-l-requires c =
    let l = c.loop-k in
    let h : c.half-h.result < 16 =
    rw c.half-h.ensures (halves_below c.args.digest.now (λ i. omega (arith, c.type_inv.digest i)) _) in
    (l.invariant.1.holds, c.requires.1, l.invariant.0, h)
