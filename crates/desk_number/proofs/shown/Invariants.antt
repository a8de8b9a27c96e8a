-- `desk_number::shown` meets its contract. The loop's invariant: v is the number that the digits so far show, and is
-- below 256 to the power of how many they are.
use Prim.Native.Nat.{◌<◌, ◌^◌}
use mathlib.Core.Path.{◌≡◌}
use lib.ListN.{take}
use Rattle.desk_number.specs.Numbers.{shown_number}
use Rattle.desk_number.proofs.shown.Given as goal

abbrev pub invariant-loop-b : goal.invariant-loop-b
invariant-loop-b l = (l.v ≡ shown_number (take l.b-index l.text)) × (l.v < 256 ^ l.b-index)
