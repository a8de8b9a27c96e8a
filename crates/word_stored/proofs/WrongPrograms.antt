-- The contracts shut out wrong programs, each by an input on which it differs. Storing the seven letters of document
-- 01's slip: a program that packs the low bit first, writes the generators before the signs, or gives a positive letter
-- the bit 1. Storing any word: a program that accepts an output of 5,002 bytes. Restoring: a program that accepts the
-- number 7 or filler that is not zero, that does not compare the sizes with the letters or with the length, that asks
-- for the sizes before 10, or for the rows before the sizes.
use Prim.Native.Nat.{ℕ, ◌≤◌}
use mathlib.Core.Path.{◌≡◌, refl, sym, ◌∙◌}
use mathlib.Core.Bool.{false}
use mathlib.Core.List.{List, [], ◌∷◌}
use native.Mathlib.Omega.{arith}
use borrow.Author.Tests.{lt-leb}
use lib.ListN.{length, take}
use Rattle.base.specs.Questions.{first_no}
use Rattle.base.specs.Lists.{every, equal}
use Rattle.base.specs.Digits.{value, digits, halves}
use Rattle.base.specs.Packing.{packed_row, unpacked_row, row_filler}
use Rattle.base.proofs.QuestionLaws.{fails}
use Rattle.base.proofs.ListLaws.{true_false, equal_of}
use Rattle.word.specs.Words.{codes, word_questions}
use Rattle.word.proofs.RoundTrip.{wrote_file}
use Rattle.word_stored.specs.Stored.{stored_file, stored_generators, stored_answer, WroteStored}
use Rattle.word_stored.specs.Stored.{WroteRestored}
use Rattle.word_stored.proofs.ThereAndBack.{restore_answers}

-- ---- storing b1 b2⁻¹ b3 b4 b5⁻¹ b6 b7⁻¹

-- 00 07 09 23 C5 E0, and its stored form 00 07 00 01 00 03 4A 05 39 70
abbrev seven : List ℕ
seven = 0 ∷ 7 ∷ 9 ∷ 35 ∷ 197 ∷ 224 ∷ []

-- the three sizes, and then these bytes
abbrev seven_with : List ℕ → List ℕ
seven_with rows = 0 ∷ 7 ∷ 0 ∷ 1 ∷ 0 ∷ 3 ∷ rows

abbrev stored : List ℕ
stored = seven_with (74 ∷ 5 ∷ 57 ∷ 112 ∷ [])

seven_stored : stored_file (codes seven) ≡ stored
unfolding stored_file codes packed_row value digits halves
seven_stored = refl

-- storing leaves no other bytes
module _ {before after : List ℕ} {bytes : ℕ} (w : WroteStored seven before after 0 bytes) where
  leaves : take bytes after ≡ stored
  leaves = wrote_file w (sym w.answer_is) ∙ seven_stored

  others : (wrong : List ℕ) → equal wrong stored ≡ false → take bytes after ≡ wrong → ⊥
  others wrong d e = true_false (equal wrong stored) (equal_of (sym e ∙ leaves)) d

  -- the signs 0100101 from the low bit on are 52, and the generators 88 C6 1A
  pub low_bit_first : take bytes after ≡ seven_with (82 ∷ 136 ∷ 198 ∷ 26 ∷ []) → ⊥
  unfolding equal
  low_bit_first = others _ refl

  pub generators_first : take bytes after ≡ seven_with (5 ∷ 57 ∷ 112 ∷ 74 ∷ []) → ⊥
  unfolding equal
  generators_first = others _ refl

  -- with 1 for a positive letter the signs are 1011010 and a zero bit
  pub one_for_positive : take bytes after ≡ seven_with (180 ∷ 5 ∷ 57 ∷ 112 ∷ []) → ⊥
  unfolding equal
  one_for_positive = others _ refl

-- an output of 5,002 bytes is too small for storing, whatever the word
pub room_of_words : (word : List ℕ) {before after : List ℕ} {answer bytes : ℕ} → length before ≡ 5002
    → WroteStored word before after answer bytes → answer ≡ 15
room_of_words word {before} l w =
    w.answer_is ∙ fails 15 (word_questions word) (lt-leb 5006 (length before) (omega arith))

-- ---- restoring

-- with room, restoring gives the answer of the stored form's questions
module _ (file : List ℕ) {before after : List ℕ} {answer bytes : ℕ} (room : 5002 ≤ length before)
    (w : WroteRestored file before after answer bytes) where
  answers : {n : ℕ} → stored_answer file ≡ n → answer ≡ n
  answers e = w.answer_is ∙ restore_answers (length before) file room ∙ e

-- the number of letters, the two sizes, and then these bytes
abbrev one : ℕ → ℕ → List ℕ → List ℕ
one s g rows = 0 ∷ 1 ∷ 0 ∷ s ∷ 0 ∷ g ∷ rows

module _ {before after : List ℕ} {answer bytes : ℕ} (room : 5002 ≤ length before) where
  -- one letter, whose generator is the number 7
  pub seven_taken : WroteRestored (one 1 1 (0 ∷ 224 ∷ [])) before after answer bytes → answer ≡ 29
  unfolding stored_answer stored_generators first_no every value digits unpacked_row row_filler
  seven_taken w = answers _ room w refl

  pub sign_filler : WroteRestored (one 1 1 (1 ∷ 0 ∷ [])) before after answer bytes → answer ≡ 29
  unfolding stored_answer stored_generators first_no every value digits unpacked_row row_filler
  sign_filler w = answers _ room w refl

  pub generator_filler : WroteRestored (one 1 1 (0 ∷ 16 ∷ [])) before after answer bytes → answer ≡ 29
  unfolding stored_answer stored_generators first_no every value digits unpacked_row row_filler
  generator_filler w = answers _ room w refl

  -- one letter with two bytes of signs, or of generators, and the length that these sizes need
  pub signs_by_letters : WroteRestored (one 2 1 (0 ∷ 0 ∷ 0 ∷ [])) before after answer bytes → answer ≡ 28
  unfolding stored_answer stored_generators first_no every value digits unpacked_row row_filler
  signs_by_letters w = answers _ room w refl

  pub generators_by_letters : WroteRestored (one 1 2 (0 ∷ 0 ∷ 0 ∷ [])) before after answer bytes → answer ≡ 28
  unfolding stored_answer stored_generators first_no every value digits unpacked_row row_filler
  generators_by_letters w = answers _ room w refl

  -- the sizes that one letter needs, and a byte more
  pub sizes_by_length : WroteRestored (one 1 1 (0 ∷ 0 ∷ 0 ∷ [])) before after answer bytes → answer ≡ 28
  unfolding stored_answer stored_generators first_no every value digits unpacked_row row_filler
  sizes_by_length w = answers _ room w refl

  -- 10,001 letters, and sizes that agree neither with them nor with the length
  pub ten_before_sizes : WroteRestored (39 ∷ 17 ∷ 0 ∷ 1 ∷ 0 ∷ 1 ∷ []) before after answer bytes → answer ≡ 10
  unfolding stored_answer stored_generators first_no every value digits unpacked_row row_filler
  ten_before_sizes w = answers _ room w refl

  -- one letter whose rows are all ones, and a byte more
  pub sizes_before_rows : WroteRestored (one 1 1 (255 ∷ 255 ∷ 255 ∷ [])) before after answer bytes → answer ≡ 28
  unfolding stored_answer stored_generators first_no every value digits unpacked_row row_filler
  sizes_before_rows w = answers _ room w refl
