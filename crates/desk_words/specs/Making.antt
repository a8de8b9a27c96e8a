-- The verbs of the desk that make a new file: what they answer, what they write, and how large a buffer has to be.
use Rattle.std.specs.Prelude.{ℕ, ◌≡◌, Bool, true, cond, List, [], length, take, replicate}
use Rattle.base.specs.Questions.{first_no, granted}
use Rattle.base.specs.Lists.{overlaid}
use Rattle.text.specs.Enough.{Enough, EnoughOfTwo, EnoughOfThree}
use Rattle.word.specs.Words.{codes, word_answer, word_file}
use Rattle.word.specs.Reduction.{reduced, Irreducible}
use Rattle.word.specs.declared.Written.{Written}
use Rattle.word_stored.specs.Stored.{max_stored, stored_file, stored_codes, stored_answer}
use Rattle.slip_verdict.specs.Verdict.{verdict}
use Rattle.move_kinds.specs.Rewriting.{rewritten, rewriter_questions}
use Rattle.slip_meaning.specs.Meaning.{SameMeaning}
use Rattle.word_shortener.specs.Shortener.{Saves}
use Rattle.desk_words.specs.declared.Made.{Made}

-- the bytes to write: the new file where every file could be read and the answer is 0, and otherwise none
unfoldable pub to_write : Bool → ℕ → List ℕ → List ℕ
to_write read answer new = cond read (granted answer new []) []

-- what stands in place of an answer if a file could not be read; no answer of the papers has this number
abbrev pub no_answer : ℕ
no_answer = 255

-- What a verb gives: whether every file could be read; its answer, or `no_answer` if a file could not be read; the
-- bytes
-- to write, and zeros after them.
pub record MakesNew (read : Bool) (answer : ℕ) (new : List ℕ) (made : Made) : Type 0 where
  pub read_is : made.read ≡ read
  pub answer_is : made.answer ≡ cond read answer no_answer
  pub bytes_are : made.bytes ≡ length (to_write read answer new)
  pub file_is : made.file ≡ overlaid (to_write read answer new) (replicate max_stored 0)

-- What a verb makes by a writer, whose calls are given: a call at a file of zeros gave the answer and the number of
-- bytes, and left the file that is made.
pub record MadeBy (calls : List ℕ → Written → List ℕ → Type 0) (made : Made) : Type 0 where
  pub read_is : made.read ≡ true
  pub wrote : calls (replicate max_stored 0) (record { answer = made.answer; bytes = made.bytes }) made.file

-- the file of the freely reduced word
abbrev pub short_file : List ℕ → List ℕ
short_file word = word_file (reduced (codes word))

-- Shortening a slip gives the verdict's answer and the file of a new word. This word is not longer and opens the slip
-- too.
pub record Shortens (effort : ℕ) (read : Bool) (key digest word : List ℕ) (made : Made) : Type 0 where
  -- The letters of the new word. With effort over 0 the contract leaves free which word it is. The next five lines hold
  -- of it.
  pub new : List ℕ
  pub makes : MakesNew read (verdict key digest word) (word_file new) made
  pub saves : made.answer ≡ 0 → Saves effort (codes word) new
  pub irreducible : Irreducible new
  pub keeps : made.answer ≡ 0 → SameMeaning word (take made.bytes made.file)
  pub opens : made.answer ≡ 0 → verdict key digest (take made.bytes made.file) ≡ 0

-- the rewriter's answer, where its output has room
unfoldable pub rewrite_answer : List ℕ → List ℕ → ℕ
rewrite_answer word moves = first_no (rewriter_questions max_stored word moves)

-- rewriting a word: the rewriter's answer, and the file of the new word, which means what the old one means
pub record Rewrites (read : Bool) (word moves : List ℕ) (made : Made) : Type 0 where
  pub makes : MakesNew read (rewrite_answer word moves) (word_file (rewritten word moves)) made
  pub keeps : made.answer ≡ 0 → SameMeaning word (take made.bytes made.file)

-- reducing a word freely: the word's answer, and the file of the reduced word
abbrev pub Reduces : Bool → List ℕ → Made → Type 0
Reduces read word made = MakesNew read (word_answer word) (short_file word) made

-- storing a word: the word's answer, and its stored form
abbrev pub Stores : Bool → List ℕ → Made → Type 0
Stores read word made = MakesNew read (word_answer word) (stored_file (codes word)) made

-- restoring a word: the stored form's answer, and the word's file
abbrev pub Restores : Bool → List ℕ → Made → Type 0
Restores read file made = MakesNew read (stored_answer file) (word_file (stored_codes file)) made

-- How many bytes are enough to read: of a slip, to shorten it; of a word and a move list, to rewrite the word; of a
-- word, to reduce or store it; of a stored form, to restore it. The answer and the bytes written are those for the
-- whole files, however long they are. If a slip opens, the bytes read are its whole word.
abbrev pub EnoughToShorten : ℕ → ℕ → ℕ → Type 0
EnoughToShorten k d w =
    EnoughOfThree k d w verdict
    × ((key digest word : List ℕ) → verdict key digest word ≡ 0 → take w word ≡ word)

abbrev pub EnoughToRewrite : ℕ → ℕ → Type 0
EnoughToRewrite w m =
    EnoughOfTwo w m rewrite_answer
    × EnoughOfTwo w m (λ word moves. to_write true (rewrite_answer word moves) (word_file (rewritten word moves)))

abbrev pub EnoughToReduce : ℕ → Type 0
EnoughToReduce w = Enough w word_answer × Enough w (λ word. to_write true (word_answer word) (short_file word))

abbrev pub EnoughToStore : ℕ → Type 0
EnoughToStore w =
    Enough w word_answer × Enough w (λ word. to_write true (word_answer word) (stored_file (codes word)))

abbrev pub EnoughToRestore : ℕ → Type 0
EnoughToRestore n =
    Enough n stored_answer × Enough n (λ file. to_write true (stored_answer file) (word_file (stored_codes file)))
