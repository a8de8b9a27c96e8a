-- `desk_crossings::line::lines` meets its contract. The loop's invariant: the lines of the first k pairs are written,
-- of at most 11 bytes each.
use Prim.Native.Nat.{◌*◌, ◌≤◌}
use mathlib.Core.Path.{◌≡◌}
use lib.ListN.{length, take}
use Rattle.text.specs.Texts.{TellsIn}
use Rattle.word_crossing.specs.Crossings.{all_pairs}
use Rattle.desk_text.specs.Room.{text_size}
use Rattle.desk_crossings.specs.Lines.{lines_of}
use Rattle.desk_crossings.proofs.line.lines.Given as goal

abbrev pub invariant-loop-k : goal.invariant-loop-k
invariant-loop-k l =
    (l.at ≤ 11 * l.k) × (length l.text ≡ text_size)
    × TellsIn text_size (lines_of (take l.k all_pairs) (take l.k l.numbers)) l.at l.text
