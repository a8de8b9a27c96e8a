-- `word::read::half` meets its contract: it returns the high half of the byte at an even place, the low half at an odd
-- place, and 0 past the end.
use Prim.Native.Nat.{◌≤◌}
use mathlib.Core.Path.{sym}
use native.Mathlib.Omega.{arith}
use lib.ListN.{length, get_or-eq_default}
use Rattle.base.specs.Digits.{halves}
use Rattle.base.proofs.DigitLaws.{length_halves, half_even, half_odd}
use Rattle.word.proofs.read.half.Goals as goal

pub returns-then-bytes-at : goal.returns-then-bytes-at
returns-then-bytes-at c =
    let a = c.args in
    let l : length (halves a.bytes.now) ≤ a.k = omega (arith, length_halves a.bytes.now) in
    sym (get_or-eq_default (halves a.bytes.now) 0 l)

pub returns-then-k-eq0 : goal.returns-then-k-eq0
returns-then-k-eq0 c =
    let a = c.args in
    sym (half_even a.bytes.now a.k (omega arith))

pub returns : goal.returns
returns c =
    let a = c.args in
    sym (half_odd a.bytes.now a.k (omega arith))
