-- Word files there and back. The file of any list of at most 10,000 letters is accepted and reads back as the list. An
-- accepted file is the file of its letters. The output's first bytes, as many as a writer of words reports, are the
-- word's file. Two laws say what the operations return, from bytes to bytes: a word that the writer from codes wrote
-- reads back, and a file that the word reader read is written back as its own bytes.
use Prim.Native.Nat.{ℕ, ◌≤◌, ◌<◌}
use mathlib.Core.Path.{◌≡◌, refl, sym, ap, ap₂, ◌∙◌}
use mathlib.Core.Bool.{Bool, true}
use mathlib.Core.List.{List, [], ◌++◌}
use native.Mathlib.Omega.{arith}
use borrow.Author.Tests.{le-leb, leb-true, eq-eqb, eqb-true}
use lib.Dec.{eqb, ltb, lit<}
use lib.ListN.{length, take, drop, get_or, length-drop, take-append-drop}
use lib.Seq.{length-take-le, take_at, ext_get_or}
use Rattle.base.specs.Questions.{Question, first_no}
use Rattle.base.specs.Lists.{every, Bytes, overlaid}
use Rattle.base.specs.Digits.{value, digits, halves}
use Rattle.base.specs.Packing.{Below, row_bytes, packed_row, row_filler}
use Rattle.base.proofs.QuestionLaws.{passed_answers, answers_passed, granted_zero, granted_either}
use Rattle.base.proofs.ListLaws.{take_overlaid, drop_overlaid}
use Rattle.base.proofs.DigitLaws.{length_digits, value_digits_below, digits_value, take_below, drop_below}
use Rattle.base.proofs.DigitLaws.{below_all, append_below, digits_below}
use Rattle.base.proofs.RowLaws.{length_packed_row, packed_below, unpacked_packed, filler_packed, packed_unpacked}
use Rattle.base.proofs.RowLaws.{halves_row, halves_filler}
use Rattle.word.specs.Letters.{is_letter}
use Rattle.word.specs.Words.{stated, needed, codes, filler, word_questions, word_answer, letters, packed, word_file}
use Rattle.word.specs.Words.{writer_questions, Wrote, Read, LetterAt}
use Rattle.word.proofs.WordLaws.{letters_below, packed_row_lem, length_word_file, word_file_rest}
use Rattle.word.proofs.WriteLaws.{writable}
use Rattle.word.proofs.ReadLaws.{accepted_word, letters_accepted}

-- ---- from letters to a file and back

module _ (cs : List ℕ) (few : length cs ≤ 10000) where
  stated_word_file : stated (word_file cs) ≡ length cs
  unfolding word_file
  stated_word_file =
      ap (value 256) (take_at (digits 256 2 (length cs)) (packed cs) 2 (length_digits 256 2 (length cs)))
      ∙ value_digits_below 256 2 (length cs) (lit< tt) (omega arith)

  -- Letters are numbers of 4 bits, so the file packs them as a row of such numbers. The file consists of bytes.
  module _ (e : every is_letter cs ≡ true) where
    below : Below 16 cs
    below k = omega (arith, letters_below cs e k)

    row : drop 2 (word_file cs) ≡ packed_row 4 cs
    row = word_file_rest cs ∙ packed_row_lem cs below

    pub codes_word_file : codes (word_file cs) ≡ cs
    unfolding codes
    codes_word_file =
        ap₂ (λ (n : ℕ) (l : List ℕ). take n (halves l)) stated_word_file row
        ∙ halves_row (length cs) (packed_row 4 cs) (packed_below 4 cs) (length_packed_row 4 cs)
        ∙ unpacked_packed 4 cs below

    pub word_file_bytes : Bytes (word_file cs)
    unfolding word_file
    word_file_bytes =
        below_all 256 (word_file cs)
        (λ k h. append_below (digits 256 2 (length cs)) (packed cs) (digits_below 256 2 (length cs) (lit< tt))
        (λ j. rw (packed_row_lem cs below) (packed_below 4 cs j)) k)

    filler_word_file : every (λ h. eqb h 0) (filler (word_file cs)) ≡ true
    unfolding filler
    filler_word_file =
        ap₂ (λ (n : ℕ) (l : List ℕ). every (λ h. eqb h 0) (drop n (halves l))) stated_word_file row
        ∙ halves_filler (length cs) (packed_row 4 cs) (packed_below 4 cs) (length_packed_row 4 cs)
        ∙ eq-eqb (row_filler 4 (length cs) (packed_row 4 cs)) 0 (filler_packed 4 cs below)

  -- the file of at most 10,000 letters is accepted
  pub word_file_accepted : every is_letter cs ≡ true → word_answer (word_file cs) ≡ 0
  unfolding word_answer
  word_file_accepted e =
      let l = length_word_file cs in
      let s = stated_word_file in
      passed_answers (word_questions (word_file cs)) (
        le-leb 2 (length (word_file cs)) (omega arith),
        (
          le-leb (stated (word_file cs)) 10000 (omega arith),
          (
            eq-eqb (length (word_file cs)) (needed (stated (word_file cs))) (l ∙ ap needed (sym s)),
            (ap (every is_letter) (codes_word_file e) ∙ e, (filler_word_file e, tt)),
          ),
        ),
      )

  -- the file of at most 10,000 letters reads back as the letters
  pub letters_word_file : every is_letter cs ≡ true → letters (word_file cs) ≡ cs
  letters_word_file e = letters_accepted (word_file cs) (word_file_accepted e) ∙ codes_word_file e

-- ---- from a file to letters and back

module _ (file : List ℕ) where
  -- the letters of any file, even of a refused one, are letters, at most 10,000 of them
  letters_are : every is_letter (letters file) ≡ true
  unfolding letters every
  letters_are =
      granted_either (λ (l : List ℕ). every is_letter l ≡ true) (word_answer file) (codes file) []
      (λ e. (accepted_word file e).lettered) refl

  letters_few : length (letters file) ≤ 10000
  unfolding letters
  letters_few =
      granted_either (λ (l : List ℕ). length l ≤ 10000) (word_answer file) (codes file) []
      (λ e. omega (arith, (accepted_word file e).count, (accepted_word file e).few)) (omega arith)

  -- an accepted file of bytes is the file of its letters
  pub word_file_letters : ((k : ℕ) → get_or file k 0 < 256) → word_answer file ≡ 0 → word_file (letters file) ≡ file
  unfolding word_file codes filler
  word_file_letters h e =
      ap word_file (letters_accepted file e)
      ∙ ap₂ (λ (xs ys : List ℕ). xs ++ ys) (ap (digits 256 2) (accepted_word file e).count ∙ head) rest
      ∙ take-append-drop 2 file
    where
      head : digits 256 2 (stated file) ≡ take 2 file
      head =
          ap (λ (n : ℕ). digits 256 n (stated file)) (sym (length-take-le 2 file (accepted_word file e).long))
          ∙ digits_value 256 (take 2 file) (take_below 2 file h)

      rest : packed (codes file) ≡ drop 2 file
      rest =
          let n = stated file in
          let bytes = drop_below 2 file h in
          let l : length (drop 2 file)
          ≡ row_bytes 4 n = omega (arith, (accepted_word file e).size, length-drop 2 file) in
          let z =
          eqb-true (row_filler 4 n (drop 2 file)) 0
          (sym (halves_filler n (drop 2 file) bytes l) ∙ (accepted_word file e).filled) in
          packed_row_lem (codes file) (λ k. omega (arith, letters_below (codes file) (accepted_word file e).lettered k))
          ∙ ap (packed_row 4) (halves_row n (drop 2 file) bytes l)
          ∙ packed_unpacked 4 n (drop 2 file) bytes l z

-- ---- what a writer of words leaves in the output

module _ {questions : List Question} {file before after : List ℕ} {answer bytes : ℕ}
    (w : Wrote questions file before after answer bytes) where
  -- on answer 0 the writer reports the number of the file's bytes
  pub wrote_bytes : first_no questions ≡ 0 → bytes ≡ length file
  wrote_bytes e = w.bytes_is ∙ granted_zero (length file) 0 e

  wrote_output : first_no questions ≡ 0 → after ≡ overlaid file before
  wrote_output e = w.output_is ∙ granted_zero (overlaid file before) before e

  -- on answer 0 the output's first bytes, as many as the writer reports, are the file
  pub wrote_file : first_no questions ≡ 0 → take bytes after ≡ file
  wrote_file e = ap₂ (λ (n : ℕ) (l : List ℕ). take n l) (wrote_bytes e) (wrote_output e) ∙ take_overlaid file before

  -- on answer 0 the bytes after the file are unchanged
  pub wrote_rest : first_no questions ≡ 0 → drop bytes after ≡ drop bytes before
  wrote_rest e =
      ap₂ (λ (n : ℕ) (l : List ℕ). drop n l) (wrote_bytes e) (wrote_output e)
      ∙ drop_overlaid file before
      ∙ ap (λ (n : ℕ). drop n before) (sym (wrote_bytes e))

-- a word that a writer wrote reads back
pub written_letters : {questions : List Question} {before after : List ℕ} {answer bytes : ℕ} (cs : List ℕ)
    → length cs ≤ 10000
    → every is_letter cs ≡ true → Wrote questions (word_file cs) before after answer bytes → first_no questions ≡ 0
    → (word_answer (take bytes after) ≡ 0) × (letters (take bytes after) ≡ cs)
written_letters cs few e w a = (
  ap word_answer (wrote_file w a) ∙ word_file_accepted cs few e,
  ap letters (wrote_file w a) ∙ letters_word_file cs few e,
)

-- ---- what the operations return

-- If the writer from codes answers 0, the word reader accepts the output's first bytes, as many as the writer reports.
-- The reader returns the number of the codes, and the letter at each place is the code at that place
pub written_reads_back : (cs : List ℕ) {before after : List ℕ} {answer bytes answer' count : ℕ}
    → Wrote (writer_questions (length before) cs) (word_file cs) before after answer bytes → answer ≡ 0
    → Read (take bytes after) answer' count
    → (answer' ≡ 0) × (count ≡ length cs)
    × ((place code : ℕ) (left : Bool) → LetterAt (take bytes after) place left code
    → (left ≡ ltb place (length cs)) × (code ≡ get_or cs place 0))
written_reads_back cs {before} w z r =
    let asked : first_no (writer_questions (length before) cs) ≡ 0 = sym w.answer_is ∙ z in
    let p = answers_passed (writer_questions (length before) cs) tt asked in
    let back = written_letters cs (leb-true (length cs) 10000 p.1.0) p.1.1.0 w asked in (
      r.answer_is ∙ back.0,
      r.count_is ∙ ap length back.1,
      λ place code left t. (
        t.left_is ∙ ap (λ (l : List ℕ). ltb place (length l)) back.1,
        t.code_is ∙ ap (λ (l : List ℕ). get_or l place 0) back.1,
      ),
    )

-- If the word reader accepts a file of bytes, the writer from codes accepts the letters at its places with any output
-- of at least 5,002 bytes. It reports the file's length and leaves the file's own bytes in the output's first bytes,
-- and the bytes after them unchanged
pub read_writes_back : (file : List ℕ) → ((k : ℕ) → get_or file k 0 < 256) → {answer count answer' bytes : ℕ}
    → Read file answer count → answer ≡ 0
    → (cs : List ℕ) → length cs ≡ count → ((place : ℕ) → place < count → LetterAt file place true (get_or cs place 0))
    → {before after : List ℕ} → 5002 ≤ length before
    → Wrote (writer_questions (length before) cs) (word_file cs) before after answer' bytes
    → (answer' ≡ 0) × (bytes ≡ length file) × (take bytes after ≡ file) × (drop bytes after ≡ drop bytes before)
read_writes_back file small {bytes = bytes} r z cs l at {before} {after} room w =
    let e : word_answer file ≡ 0 = sym r.answer_is ∙ z in
    let equal : cs ≡ letters file =
    ext_get_or 0 cs (letters file) (l ∙ r.count_is) (λ k h. (at k (omega arith)).code_is) in
    let few : length cs ≤ 10000 = omega (arith, letters_few file, ap length equal) in
    let asked : first_no (writer_questions (length before) cs) ≡ 0 =
    writable (length before) cs room few (ap (every is_letter) equal ∙ letters_are file) in
    let own : word_file cs ≡ file = ap word_file equal ∙ word_file_letters file small e in
    (w.answer_is ∙ asked, wrote_bytes w asked ∙ ap length own, wrote_file w asked ∙ own, wrote_rest w asked)
