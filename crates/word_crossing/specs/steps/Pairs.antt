-- One of the 28 pairs of labels, by its number.
use Rattle.std.specs.Prelude.{ℕ, get_or}
use Rattle.word_crossing.specs.Crossings.{Two, all_pairs}

-- pair k of all, counted from 0; past the last pair, zeros
abbrev pub pair_at : ℕ → Two
pair_at k = get_or all_pairs k (record { smaller = 0; larger = 0 })
