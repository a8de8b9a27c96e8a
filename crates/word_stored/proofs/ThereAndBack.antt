-- Stored forms there and back, from bytes to bytes. Every accepted word that is stored and restored comes back as its
-- own bytes. Every accepted stored form that is restored and stored comes back as its own bytes. A stored form is
-- accepted exactly if storing some accepted word gives it.
use Prim.Native.Nat.{ℕ, ◌≤◌}
use mathlib.Core.Path.{◌≡◌, refl, sym, ap, ◌∙◌, subst}
use mathlib.Core.List.{List}
use native.Mathlib.Omega.{arith}
use borrow.Author.Tests.{le-leb}
use lib.ListN.{length, take, replicate, length-replicate}
use Rattle.base.specs.Questions.{first_no}
use Rattle.base.specs.Lists.{overlaid}
use Rattle.base.specs.Digits.{digits}
use Rattle.base.specs.Packing.{Below}
use Rattle.base.proofs.QuestionLaws.{passes}
use Rattle.base.proofs.ListLaws.{take_overlaid}
use Rattle.base.proofs.DigitLaws.{append_below, digits_below}
use Rattle.base.proofs.RowLaws.{packed_below}
use Rattle.word.specs.Words.{codes, word_answer, packed, word_file, word_questions}
use Rattle.word.proofs.LetterLaws.{Lettered}
use Rattle.word.proofs.WordLaws.{letters_below, packed_row_lem}
use Rattle.word.proofs.ReadLaws.{accepted_word, letters_accepted}
use Rattle.word.proofs.WriteLaws.{wrote_done}
use Rattle.word.proofs.RoundTrip.{codes_word_file, word_file_accepted, word_file_letters, wrote_bytes, wrote_file}
use Rattle.word_stored.specs.Stored.{stored_file, stored_codes, stored_questions, stored_answer, store_questions}
use Rattle.word_stored.specs.Stored.{restore_questions, WroteStored, WroteRestored, StoringGives}
use Rattle.word_stored.proofs.StoredLaws.{codes_stored, stored_accepted, stored_codes_lem, codes_few, codes_lettered}

-- ---- the answers

-- with room for every stored form, storing answers what the word's questions answer
store_answers : (room : ℕ) (word : List ℕ) → 5006 ≤ room → first_no (store_questions room word) ≡ word_answer word
unfolding word_answer
store_answers room word h = passes 15 (word_questions word) (le-leb 5006 room h)

-- with room for every word, restoring answers what the stored form's questions answer
pub restore_answers : (room : ℕ) (file : List ℕ) → 5002 ≤ room
    → first_no (restore_questions room file) ≡ stored_answer file
unfolding stored_answer
restore_answers room file h = passes 15 (stored_questions file) (le-leb 5002 room h)

-- ---- the stored form of an accepted word, and the word of an accepted stored form

module _ (word : List ℕ) (z : word_answer word ≡ 0) where
  few : length (codes word) ≤ 10000
  few = omega (arith, (accepted_word word z).few, (accepted_word word z).count)

  lettered : Lettered (codes word)
  lettered = (accepted_word word z).lettered

  word_stored : stored_answer (stored_file (codes word)) ≡ 0
  word_stored = stored_accepted (codes word) few lettered

  word_restored : Below 256 word → word_file (stored_codes (stored_file (codes word))) ≡ word
  word_restored bytes =
      ap word_file (codes_stored (codes word) few lettered ∙ sym (letters_accepted word z))
      ∙ word_file_letters word bytes z

module _ (file : List ℕ) (bytes : Below 256 file) (z : stored_answer file ≡ 0) where
  file_restored : word_answer (word_file (stored_codes file)) ≡ 0
  file_restored = word_file_accepted (stored_codes file) (codes_few file bytes z) (codes_lettered file bytes z)

  file_stored : stored_file (codes (word_file (stored_codes file))) ≡ file
  file_stored =
      ap stored_file (codes_word_file (stored_codes file) (codes_few file bytes z) (codes_lettered file bytes z))
      ∙ stored_codes_lem file bytes z

-- ---- the operations

-- An accepted word is stored, and what storing leaves in its output's first bytes, as many as it reports, is restored.
-- Both answer 0, and restoring leaves the word's own bytes
pub stored_and_restored : (word : List ℕ) → Below 256 word → word_answer word ≡ 0
    → {before after before' after' : List ℕ} {answer bytes answer' bytes' : ℕ}
    → 5006 ≤ length before → WroteStored word before after answer bytes
    → 5002 ≤ length before' → WroteRestored (take bytes after) before' after' answer' bytes'
    → (answer ≡ 0) × (answer' ≡ 0) × (bytes' ≡ length word) × (take bytes' after' ≡ word)
stored_and_restored word small z {before} {after} {before'} {bytes = bytes} room w room' r =
    let asked : first_no (store_questions (length before) word) ≡ 0 = store_answers (length before) word room ∙ z in
    let file : take bytes after ≡ stored_file (codes word) = wrote_file w asked in
    let asked' : first_no (restore_questions (length before') (take bytes after)) ≡ 0 =
    restore_answers (length before') (take bytes after) room' ∙ ap stored_answer file ∙ word_stored word z in
    let own : word_file (stored_codes (take bytes after)) ≡ word =
    ap (λ (l : List ℕ). word_file (stored_codes l)) file ∙ word_restored word z small in
    (w.answer_is ∙ asked, r.answer_is ∙ asked', wrote_bytes r asked' ∙ ap length own, wrote_file r asked' ∙ own)

-- An accepted stored form is restored, and what restoring leaves in its output's first bytes, as many as it reports, is
-- stored. Both answer 0, and storing leaves the stored form's own bytes
pub restored_and_stored : (file : List ℕ) → Below 256 file → stored_answer file ≡ 0
    → {before after before' after' : List ℕ} {answer bytes answer' bytes' : ℕ}
    → 5002 ≤ length before → WroteRestored file before after answer bytes
    → 5006 ≤ length before' → WroteStored (take bytes after) before' after' answer' bytes'
    → (answer ≡ 0) × (answer' ≡ 0) × (bytes' ≡ length file) × (take bytes' after' ≡ file)
restored_and_stored file small z {before} {after} {before'} {bytes = bytes} room r room' w =
    let asked : first_no (restore_questions (length before) file) ≡ 0 = restore_answers (length before) file room ∙ z in
    let word : take bytes after ≡ word_file (stored_codes file) = wrote_file r asked in
    let asked' : first_no (store_questions (length before') (take bytes after)) ≡ 0 =
    store_answers (length before') (take bytes after) room' ∙ ap word_answer word ∙ file_restored file small z in
    let own : stored_file (codes (take bytes after)) ≡ file =
    ap (λ (l : List ℕ). stored_file (codes l)) word ∙ file_stored file small z in
    (r.answer_is ∙ asked, w.answer_is ∙ asked', wrote_bytes w asked' ∙ ap length own, wrote_file w asked' ∙ own)

-- ---- which files are stored forms

-- what storing an accepted word gives is accepted
pub given_accepted : (file : List ℕ) → StoringGives file → stored_answer file ≡ 0
given_accepted file g =
    ap stored_answer (sym g.gives ∙ wrote_file g.stores (sym g.stores.answer_is))
    ∙ word_stored g.word g.accepted

-- the file of letters consists of bytes
file_bytes_lem : (cs : List ℕ) → Lettered cs → Below 256 (word_file cs)
unfolding word_file
file_bytes_lem cs e =
    append_below (digits 256 2 (length cs)) (packed cs) (digits_below 256 2 (length cs) (omega arith))
    (subst (Below 256) (sym (packed_row_lem cs (λ k. omega (arith, letters_below cs e k)))) (packed_below 4 cs))

-- an accepted file of bytes is what storing the word that it holds gives
pub accepted_given : (file : List ℕ) → Below 256 file → stored_answer file ≡ 0 → StoringGives file
accepted_given file small z =
    let word = word_file (stored_codes file) in
    let out : List ℕ = replicate 5006 0 in
    let new = stored_file (codes word) in
    let room : 5006 ≤ length out = omega (arith, length-replicate {A = ℕ} 5006 0) in
    record {
      word = word;
      bytes_are = file_bytes_lem (stored_codes file) (codes_lettered file small z);
      accepted = file_restored file small z;
      before = out;
      after = overlaid new out;
      bytes = length new;
      stores =
          wrote_done _ new out (store_answers (length out) word room ∙ file_restored file small z) refl refl;
      gives = take_overlaid new out ∙ file_stored file small z;
    }
