-- `base::digits::spell` meets its contract. The loop's invariant: the last digits of the number stand from place i on,
-- and v is the rest of the number.
use Prim.Native.Nat.{ℕ, ◌+◌, ◌/◌, ◌^◌}
use mathlib.Core.Path.{◌≡◌}
use lib.ListN.{length, drop}
use Rattle.base.specs.Digits.{digits}
use Rattle.base.proofs.digits.spell.Given as goal

abbrev pub invariant-loop-i : goal.invariant-loop-i
invariant-loop-i l =
    (n : ℕ) × (n + l.i ≡ length l.initial.dst) × (length l.dst ≡ length l.initial.dst)
    × (drop l.i l.dst ≡ digits l.base n l.number)
    × (l.v ≡ l.number / l.base ^ n)
