-- How much of a file is enough to read: of a word 5,003 bytes, of a stored form 5,007, of a move list 12,291, of a slip
-- what is enough to judge it. What is written for these bytes is what is written for the whole files, however long they
-- are.
use Prim.Native.Nat.{ℕ, ◌<◌}
use native.Mathlib.Omega.{arith}
use mathlib.Core.Path.{refl, ◌∙◌}
use mathlib.Core.List.{[]}
use lib.ListN.{take}
use Rattle.text.proofs.EnoughLaws.{granted_alike, enough_granted}
use Rattle.word.specs.Words.{codes, word_answer, word_file}
use Rattle.word.proofs.LongWords.{enough_of_word, whole_word}
use Rattle.word_stored.specs.Stored.{stored_file, stored_codes, stored_answer}
use Rattle.word_stored.proofs.LongStored.{enough_of_stored, whole_stored}
use Rattle.move_kinds.specs.Rewriting.{rewritten}
use Rattle.move_kinds.proofs.LongLists.{enough_of_both, whole_both}
use Rattle.desk_slip.specs.Slips.{EnoughOfFiles}
use Rattle.desk_words.specs.Making.{to_write, short_file, rewrite_answer, EnoughToShorten, EnoughToRewrite}
use Rattle.desk_words.specs.Making.{EnoughToReduce, EnoughToStore, EnoughToRestore}
use Rattle.desk_words.proofs.Shortening.{opened_word}

pub enough_to_reduce : (n : ℕ) → 5002 < n → EnoughToReduce n
unfolding to_write
enough_to_reduce n h =
    let answers = enough_of_word n h in
    (answers, enough_granted word_answer short_file (λ word. []) n answers (whole_word n h) (λ word. refl))

pub enough_to_store : (n : ℕ) → 5002 < n → EnoughToStore n
unfolding to_write
enough_to_store n h =
    let answers = enough_of_word n h in (
      answers,
      enough_granted word_answer (λ word. stored_file (codes word)) (λ word. []) n answers (whole_word n h)
          (λ word. refl),
    )

pub enough_to_restore : (n : ℕ) → 5006 < n → EnoughToRestore n
unfolding to_write
enough_to_restore n h =
    let answers = enough_of_stored n h in (
      answers,
      enough_granted stored_answer (λ file. word_file (stored_codes file)) (λ file. []) n answers (whole_stored n h)
          (λ file. refl),
    )

pub enough_to_shorten : (k d w : ℕ) → EnoughOfFiles k d w → 5002 < w → EnoughToShorten k d w
enough_to_shorten k d w enough h = (
  enough,
  λ key digest word z. whole_word w h word
      (opened_word (take k key) (take d digest) (take w word) (enough key digest word ∙ z)),
)

pub enough_to_rewrite : (w m : ℕ) → 5002 < w → 12290 < m → EnoughToRewrite w m
unfolding to_write rewrite_answer
enough_to_rewrite w m hw hm =
    let answers = enough_of_both 5006 (omega arith) w m hw hm in (
      answers,
      λ word moves. granted_alike (word_file (rewritten (take w word) (take m moves)))
          (word_file (rewritten word moves))
          [] [] (answers word moves)
          (λ z. let s = whole_both 5006 (omega arith) w m hw hm word moves z in
          λ i. word_file (rewritten (s.0 i) (s.1 i))) refl,
    )
