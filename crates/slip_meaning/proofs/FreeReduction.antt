-- Free reduction keeps a word's meaning: everything that demand 3 says of rewriting holds of the freely reduced word.
use Prim.Native.Nat.{ℕ}
use mathlib.Core.Path.{◌≡◌, refl, sym}
use mathlib.Core.List.{List}
use lib.ListN.{length, take}
use Rattle.word.specs.Words.{codes, word_answer, word_file}
use Rattle.word.specs.Reduction.{reduced}
use Rattle.word.proofs.ReadLaws.{accepted_word}
use Rattle.word.proofs.RoundTrip.{wrote_file}
use Rattle.word_reduction.specs.Reducer.{WroteReduced}
use Rattle.word_reduction.proofs.ReducerLaws.{reduced_few}
use Rattle.word_reduction.proofs.ReducedWord.{word_accepted}
use Rattle.braid_same.proofs.Cancelling.{reduced_same}
use Rattle.slip_meaning.specs.Meaning.{SameMeaning}
use Rattle.slip_meaning.proofs.SameBraids.{written_means}

-- the file of an accepted word's reduced codes
pub reduced_means : (word : List ℕ) → word_answer word ≡ 0 → SameMeaning word (word_file (reduced (codes word)))
reduced_means word a =
    written_means word (reduced (codes word)) a (reduced_same (codes word) (accepted_word word a).lettered)
    (reduced_few word a)

-- From bytes to bytes: if free reduction answers 0, the file in the output's first bytes, as many as it reports, has
-- the meaning of the word.
pub reduction_keeps_meaning : (word before : List ℕ) {after : List ℕ} {bytes : ℕ}
    → WroteReduced word before after 0 bytes
    → SameMeaning word (take bytes after)
reduction_keeps_meaning word before w =
    rw (wrote_file w (sym w.answer_is)) (reduced_means word (word_accepted (length before) word before w refl))
