-- `text::number::places` meets its contract: the logarithm to base 10, and 1.
use Prim.Native.Nat.{◌+◌, ◌-◌, ◌*◌, ◌^◌}
use mathlib.Core.Path.{◌≡◌}
use native.Mathlib.Nat.{pow-succ'}
use native.Mathlib.Numerals.{add-one}
use native.Mathlib.Omega.{arith}
use Rattle.text.proofs.DecimalLaws.{below_power, places_are}
use Rattle.text.proofs.number.places.Goals as goal

pub returns : goal.returns
returns c =
    let k = c.ilog10.result in
    let next : 10 ^ (k + 1) ≡ 10 * 10 ^ k = rw add-one (pow-succ' 10 k) in
    let back : k + 1 - 1 ≡ k = omega arith in
    places_are c.args.n (k + 1) (omega arith) (rw next (omega arith)) (λ b. rw back (omega (arith, below_power k)))
