-- `word_replacement::put_inverses` meets its contract. The loop's invariant: the inverses of the last i entries are
-- written.
use Prim.Native.Nat.{◌+◌, ◌-◌}
use mathlib.Core.Path.{◌≡◌}
use mathlib.Core.List.{◌++◌}
use lib.ListN.{length, take, drop}
use Rattle.base.specs.Digits.{part}
use Rattle.word_dialect.specs.Dialect.{inverted}
use Rattle.word_replacement.proofs.put_inverses.Given as goal

abbrev pub invariant-loop-i : goal.invariant-loop-i
invariant-loop-i l =
    (length l.codes ≡ length l.initial.codes)
    × (take (l.at + l.i) l.codes ≡ take l.at l.initial.codes ++ inverted (drop (l.n - l.i) (part l.from l.n l.rows)))
