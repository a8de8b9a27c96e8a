-- `examples::input::decimal` is safe: the number has at most four digits.
use Prim.Native.Nat.{◌<◌}
use Rattle.examples.proofs.input.decimal.Given as goal

abbrev pub invariant-loop-c : goal.invariant-loop-c
invariant-loop-c l = l.value < 10000
