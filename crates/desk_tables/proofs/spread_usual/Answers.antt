-- `desk_tables::spread_usual` is safe: what is written lies within its text.
use Rattle.io.proofs.Counting.{prefix_len_of_le}
use Rattle.text.proofs.TextLaws.{told_within}
use Rattle.desk_tables.proofs.spread_usual.Goals as goal

pub tell_text-requires : goal.tell_text-requires
tell_text-requires g c = prefix_len_of_le _ _ (told_within c.usual_text.ensures)
