-- `slip_digest::encode_into` meets its contract. The loop's invariant: the first n codes are the braid of the first k
-- half bytes.
use Prim.Native.Nat.{ℕ, ◌<◌}
use mathlib.Core.Path.{refl, sym, ap, ◌∙◌}
use mathlib.Core.List.{List, ◌++◌}
use native.Mathlib.Omega.{arith}
use lib.ListN.{length, take}
use lib.Seq.{take_all}
use Rattle.base.specs.Digits.{halves}
use Rattle.base.proofs.DigitLaws.{length_halves, halves_below}
use Rattle.slip_digest.specs.Digest.{half_byte_braid, braid_of, encoded}
use Rattle.slip_digest.proofs.Encoded.{braid_of_more}
use Rattle.slip_digest.proofs.encode_into.Goals as goal

pub loop-k-init : goal.loop-k-init
unfolding braid_of
loop-k-init c = (omega arith, refl, refl)

pub append-n-requires : goal.append-n-requires
append-n-requires c =
    let h : c.half.result < 16 =
    rw c.half.ensures (halves_below c.args.digest.now (λ i. omega (arith, c.type_inv.digest i)) _) in
    (h, omega arith)

pub loop-k-preserved : goal.loop-k-preserved
loop-k-preserved c =
    let l = c.loop-k in
    let digest = c.args.digest.now in
    let e = c.append-n.ensures in
    let k : l.k < length (halves digest) = omega (arith, length_halves digest) in (
      omega arith,
      c.append-n.auto.codes ∙ l.invariant.1,
      e.2 ∙ ap (λ (w : List ℕ). w ++ half_byte_braid c.half.result) l.invariant.2
          ∙ ap (λ (h : ℕ). braid_of (take l.k (halves digest)) ++ half_byte_braid h) c.half.ensures
          ∙ sym (braid_of_more (halves digest) l.k k),
    )

pub returns : goal.returns
unfolding encoded
returns c =
    let l = c.loop-k in
    let digest = c.args.digest.now in
    (omega arith, l.invariant.2 ∙ ap braid_of (take_all l.k (halves digest) (omega (arith, length_halves digest))))
