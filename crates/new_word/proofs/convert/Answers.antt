-- `new_word::convert` is safe: the bytes to write lie within their file.
use Rattle.io.proofs.Counting.{prefix_len_of_le}
use Rattle.desk_words.proofs.MakingLaws.{bytes_within}
use Rattle.new_word.proofs.convert.Goals as goal

pub end-requires : goal.end-requires
end-requires g c = prefix_len_of_le _ _ (bytes_within c.convert-made.ensures.converts)
