-- `desk::judge_copy` is safe: the line lies within its text.
use Rattle.io.proofs.Counting.{prefix_len_of_le}
use Rattle.text.proofs.TextLaws.{told_within}
use Rattle.desk.proofs.judge_copy.Goals as goal

pub tell-requires : goal.tell-requires
tell-requires g c = prefix_len_of_le _ _ (told_within c.copy_line.ensures.tells)
