-- `new_word::steps` is safe: the bytes to write lie within their file.
use Rattle.io.proofs.Counting.{prefix_len_of_le}
use Rattle.desk_words.proofs.MakingLaws.{bytes_within}
use Rattle.new_word.proofs.steps.Goals as goal

pub end_handles-requires : goal.end_handles-requires
end_handles-requires g c = prefix_len_of_le _ _ (bytes_within c.take_handles-taken.ensures.takes_out.makes)
