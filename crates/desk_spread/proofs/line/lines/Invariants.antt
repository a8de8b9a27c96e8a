-- `desk_spread::line::lines` meets its contract. The loop's invariant: the lines of the first k lists are written, of
-- at most 19 bytes each.
use Prim.Native.Nat.{◌*◌, ◌≤◌}
use mathlib.Core.Path.{◌≡◌}
use lib.ListN.{length, take}
use Rattle.text.specs.Texts.{TellsIn}
use Rattle.word_spread.specs.Spread.{all_lists}
use Rattle.desk_text.specs.Room.{text_size}
use Rattle.desk_spread.specs.SpreadLines.{list_lines}
use Rattle.desk_spread.proofs.line.lines.Given as goal

abbrev pub invariant-loop-k : goal.invariant-loop-k
invariant-loop-k l =
    (l.at ≤ 19 * l.k) × (length l.text ≡ text_size)
    × TellsIn text_size (list_lines (take l.k all_lists) (take l.k l.numbers)) l.at l.text
