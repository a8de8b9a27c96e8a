-- Conversions there and back, from bytes to bytes. A word is converted, and what the conversion leaves in its output's
-- first bytes, as many as it reports, is converted back. If neither conversion is refused, free reduction of the result
-- leaves the same bytes as free reduction of the word. This holds for Artin words turned to Y and back, and for Y words
-- turned to Artin and back.
use Prim.Native.Nat.{ℕ, ◌≤◌}
use mathlib.Core.Path.{◌≡◌, sym, ap, ◌∙◌}
use mathlib.Core.Bool.{Bool, true, not}
use mathlib.Core.List.{List}
use borrow.Author.Tests.{le-leb}
use lib.ListN.{length, take}
use Rattle.base.specs.Questions.{first_no}
use Rattle.base.proofs.QuestionLaws.{passes}
use Rattle.word.specs.Words.{codes, word_answer, word_file, word_questions}
use Rattle.word.specs.Reduction.{reduced}
use Rattle.word.proofs.LetterLaws.{Lettered}
use Rattle.word.proofs.ReadLaws.{accepted_word}
use Rattle.word.proofs.RoundTrip.{codes_word_file, word_file_accepted, wrote_bytes, wrote_file}
use Rattle.word_reduction.specs.Reducer.{reducer_questions, WroteReduced}
use Rattle.word_dialect.specs.Dialect.{are_parts, converted, dialect_questions, WroteConverted}
use Rattle.word_dialect.proofs.ConversionLaws.{converted_lettered, there_and_back}
use Rattle.word_dialect.proofs.ConvertLaws.{accepted}

-- ---- what a conversion writes

module _ (way : Bool) (word parts : List ℕ) {before after : List ℕ} {bytes : ℕ}
    (w : WroteConverted way word parts before after 0 bytes) where
  none_failed : first_no (dialect_questions way (length before) word parts) ≡ 0
  none_failed = sym w.answer_is

  word_accepted : word_answer word ≡ 0
  word_accepted = (accepted way (length before) word parts none_failed).0

  parts_accepted : are_parts parts ≡ true
  parts_accepted = (accepted way (length before) word parts none_failed).1

  word_lettered : Lettered (codes word)
  word_lettered = (accepted_word word word_accepted).lettered

  few : length (converted way parts (codes word)) ≤ 10000
  few = (accepted way (length before) word parts none_failed).2

  lettered : Lettered (converted way parts (codes word))
  lettered = converted_lettered way parts parts_accepted (codes word) word_lettered

  file : take bytes after ≡ word_file (converted way parts (codes word))
  file = wrote_file w none_failed

  -- the output's first bytes, as many as are reported, are an accepted word
  pub output_accepted : word_answer (take bytes after) ≡ 0
  output_accepted = ap word_answer file ∙ word_file_accepted (converted way parts (codes word)) few lettered

  -- its letters are the converted word
  pub output_codes : codes (take bytes after) ≡ converted way parts (codes word)
  output_codes = ap codes file ∙ codes_word_file (converted way parts (codes word)) few lettered

-- ---- free reduction of accepted words

module _ (word : List ℕ) {before after : List ℕ} {answer bytes : ℕ} (z : word_answer word ≡ 0)
    (room : 5002 ≤ length before) (w : WroteReduced word before after answer bytes) where
  reduction_answers : first_no (reducer_questions (length before) word) ≡ 0
  unfolding word_answer
  reduction_answers = passes 15 (word_questions word) (le-leb 5002 (length before) room) ∙ z

  reduction_leaves : (answer ≡ 0) × (bytes ≡ length (word_file (reduced (codes word))))
      × (take bytes after ≡ word_file (reduced (codes word)))
  reduction_leaves =
      (w.answer_is ∙ reduction_answers, wrote_bytes w reduction_answers, wrote_file w reduction_answers)

-- ---- the theorem

-- `there` and `back` are the outputs of the two conversions, `round` and `own` those of free reduction of what came
-- back and of the word
module _ (way : Bool) (word parts : List ℕ) {before there before' back : List ℕ} {bytes bytes' : ℕ}
    (w : WroteConverted way word parts before there 0 bytes)
    (v : WroteConverted (not way) (take bytes there) parts before' back 0 bytes') where
  -- the letters that came back have the same freely reduced word
  same_reduced : reduced (codes (take bytes' back)) ≡ reduced (codes word)
  same_reduced =
      ap reduced
      (output_codes (not way) (take bytes there) parts v
      ∙ ap (converted (not way) parts) (output_codes way word parts w))
      ∙ there_and_back parts (parts_accepted way word parts w) way (codes word) (word_lettered way word parts w)

  pub round_trip : {before₁ round before₂ own : List ℕ} {answer₁ bytes₁ answer₂ bytes₂ : ℕ}
      → 5002 ≤ length before₁ → WroteReduced (take bytes' back) before₁ round answer₁ bytes₁
      → 5002 ≤ length before₂ → WroteReduced word before₂ own answer₂ bytes₂
      → (answer₁ ≡ 0) × (answer₂ ≡ 0) × (bytes₁ ≡ bytes₂) × (take bytes₁ round ≡ take bytes₂ own)
  round_trip room₁ r₁ room₂ r₂ =
      let a = reduction_leaves (take bytes' back) (output_accepted (not way) (take bytes there) parts v) room₁ r₁ in
      let b = reduction_leaves word (word_accepted way word parts w) room₂ r₂ in (
        a.0,
        b.0,
        a.1 ∙ ap (λ (l : List ℕ). length (word_file l)) same_reduced ∙ sym b.1,
        a.2 ∙ ap word_file same_reduced ∙ sym b.2,
      )
