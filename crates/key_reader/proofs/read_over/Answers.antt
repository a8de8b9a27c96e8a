-- `key_reader::read_over` meets its contract: first the questions that use only the bits of an element, then 26 about
-- the matrices. The result is the key, or zeros on a refusal.
use Prim.Native.Nat.{ℕ, ◌≤◌}
use mathlib.Core.Path.{◌≡◌, sym, ap, ◌∙◌}
use mathlib.Core.Bool.{Bool, true, false}
use mathlib.Core.List.{List, [], ◌∷◌, ◌++◌}
use native.Mathlib.Omega.{arith}
use lib.ListN.{length, take, drop}
use Rattle.base.specs.Questions.{Question, ◌else◌, first_no}
use Rattle.base.proofs.QuestionLaws.{all_passed, refused_there, passes, fails}
use Rattle.field.specs.Fields.{bits, key_bytes}
use Rattle.field.specs.declared.Field.{Field}
use Rattle.key.specs.declared.Key.{Key}
use Rattle.key.specs.Keys.{key_field, entries, first_bytes, second_bytes, whole_matrix, both_invertible}
use Rattle.key.specs.steps.Places.{file_bytes}
use Rattle.key.specs.Keys.{part_questions, key_questions_over, key_answer, key_parts, key_of}
use Rattle.key.proofs.Widths.{told_wide, told_narrow, told_bytes, either_length, length_passes}
use Rattle.key.proofs.KeyFacts.{reads_refused, reads_accepted}
use Rattle.key_reader.proofs.read_over.Goals as goal

-- the last question
abbrev last : Field → ℕ → List ℕ → List Question
last f b file =
    (both_invertible f (whole_matrix (entries b (first_bytes b file))) (whole_matrix (entries b (second_bytes b file)))
    else 26) ∷ []

-- a file of a field's length, and the number b of bits of an element
module _ (f : Field) (b : ℕ) (file : List ℕ) (named : f ≡ key_field file) (long : length file ≡ key_bytes f)
    (told : b ≡ bits f) where
  sized : (5 ≤ b) × (b ≤ 8) × (length file ≡ file_bytes b)
  sized = (told_wide f told, told_narrow f told, told_bytes f told long)

  -- ---- questions 2 and 3, 4 and 5, 6 and 7

  abbrev numbers : List Question
  numbers = take 2 (part_questions b file)

  abbrev values : List Question
  values = take 2 (drop 2 (part_questions b file))

  abbrev list : List Question
  list = drop 4 (part_questions b file)

  abbrev after_5 : List Question
  after_5 = list ++ last f b file

  abbrev after_3 : List Question
  after_3 = values ++ after_5

  asked : key_answer file ≡ first_no (numbers ++ after_3)
  unfolding key_answer
  asked =
      ap (λ (g : Field). first_no (key_questions_over g file)) (sym named)
      ∙ passes 1 (part_questions (bits f) file ++ last f (bits f) file)
      (ap (λ (n : ℕ). either_length n) long ∙ length_passes f)
      ∙ ap (λ (n : ℕ). first_no (part_questions n file ++ last f n file)) (sym told)

  numbers_refused : {n : ℕ} → n ≡ first_no numbers → (n ≡ 0 → ⊥) → key_answer file ≡ n
  numbers_refused e n0 = asked ∙ refused_there numbers after_3 tt (λ z. n0 (e ∙ z)) ∙ sym e

  module _ (numbers_0 : first_no numbers ≡ 0) where
    past_3 : key_answer file ≡ first_no after_3
    past_3 = asked ∙ all_passed numbers after_3 tt numbers_0

    values_refused : {n : ℕ} → n ≡ first_no values → (n ≡ 0 → ⊥) → key_answer file ≡ n
    values_refused e n0 = past_3 ∙ refused_there values after_5 tt (λ z. n0 (e ∙ z)) ∙ sym e

    module _ (values_0 : first_no values ≡ 0) where
      past_5 : key_answer file ≡ first_no after_5
      past_5 = past_3 ∙ all_passed values after_5 tt values_0

      list_refused : {n : ℕ} → n ≡ first_no list → (n ≡ 0 → ⊥) → key_answer file ≡ n
      list_refused e n0 = past_5 ∙ refused_there list (last f b file) tt (λ z. n0 (e ∙ z)) ∙ sym e

      -- ---- the matrices

      module _ (list_0 : first_no list ≡ 0) (key : Key) (key_is : key ≡ key_parts f b file) {found : Bool}
          (tested : found ≡ both_invertible f key.pair.matrix key.second) where
        matrices : both_invertible f (whole_matrix (entries b (first_bytes b file)))
            (whole_matrix (entries b (second_bytes b file))) ≡ found
        matrices = sym (tested ∙ ap (λ (k : Key). both_invertible f k.pair.matrix k.second) key_is)

        past_7 : key_answer file ≡ first_no (last f b file)
        past_7 = past_5 ∙ all_passed list (last f b file) tt list_0

        matrices_refused : found ≡ false → key_answer file ≡ 26
        matrices_refused e = past_7 ∙ fails 26 [] (matrices ∙ e)

        none_refused : found ≡ true → key_answer file ≡ 0
        unfolding first_no
        none_refused e = past_7 ∙ passes 26 [] (matrices ∙ e)

        key_held : key ≡ key_of file
        unfolding key_of
        key_held =
            key_is ∙ ap (λ (n : ℕ). key_parts f n file) told
            ∙ ap (λ (g : Field). key_parts g (bits g) file) named

-- ---- the needs

pub numbers_answer-numbers-requires : goal.numbers_answer-numbers-requires
numbers_answer-numbers-requires c =
    let a = c.args in
    let s = sized a.f _ a.file.now c.requires.0 c.requires.1 c.bits_of-bits.ensures in (s.1, s.2)

pub returns-then-numbers-ne0 : goal.returns-then-numbers-ne0
returns-then-numbers-ne0 c =
    let a = c.args in
    let no = c.if-numbers-ne0.true in
    reads_refused a.file.now _
    (numbers_refused a.f c.bits_of-bits.result a.file.now c.requires.0 c.requires.1 c.bits_of-bits.ensures
    c.numbers_answer-numbers.ensures no)
    no c.refused.ensures

pub t_values-t_values-requires : goal.t_values-t_values-requires
t_values-t_values-requires c =
    let a = c.args in
    sized a.f _ a.file.now c.requires.0 c.requires.1 c.bits_of-bits.ensures

pub returns-then-values-ne0 : goal.returns-then-values-ne0
returns-then-values-ne0 c =
    let a = c.args in
    let no = c.if-values-ne0.true in
    reads_refused a.file.now _
    (values_refused a.f c.bits_of-bits.result a.file.now c.requires.0 c.requires.1 c.bits_of-bits.ensures
    (sym c.numbers_answer-numbers.ensures ∙ c.if-numbers-ne0.false)
    (rw c.t_values-t_values.ensures at c.t_values_answer-values.ensures) no)
    no c.refused-then-values-ne0.ensures

pub labels-labels-requires : goal.labels-labels-requires
labels-labels-requires c =
    let a = c.args in
    sized a.f _ a.file.now c.requires.0 c.requires.1 c.bits_of-bits.ensures

pub list_answer-answer-requires : goal.list_answer-answer-requires
list_answer-answer-requires c =
    let a = c.args in
    let s = sized a.f _ a.file.now c.requires.0 c.requires.1 c.bits_of-bits.ensures in
    (s.1, s.2, c.labels-labels.ensures)

pub returns-then-answer-ne0 : goal.returns-then-answer-ne0
returns-then-answer-ne0 c =
    let a = c.args in
    let no = c.if-answer-ne0.true in
    reads_refused a.file.now _
    (list_refused a.f c.bits_of-bits.result a.file.now c.requires.0 c.requires.1 c.bits_of-bits.ensures
    (sym c.numbers_answer-numbers.ensures ∙ c.if-numbers-ne0.false)
    (sym (rw c.t_values-t_values.ensures at c.t_values_answer-values.ensures) ∙ c.if-values-ne0.false)
    c.list_answer-answer.ensures no)
    no c.refused-then-answer-ne0.ensures

pub key_of-key-requires : goal.key_of-key-requires
key_of-key-requires c =
    let a = c.args in
    let s = sized a.f _ a.file.now c.requires.0 c.requires.1 c.bits_of-bits.ensures in
    (s.0, s.1, s.2, c.t_values-t_values.ensures, c.labels-labels.ensures)

pub returns-then-not-both_invertible : goal.returns-then-not-both_invertible
returns-then-not-both_invertible c =
    let a = c.args in
    reads_refused a.file.now 26
    (matrices_refused a.f c.bits_of-bits.result a.file.now c.requires.0 c.requires.1 c.bits_of-bits.ensures
    (sym c.numbers_answer-numbers.ensures ∙ c.if-numbers-ne0.false)
    (sym (rw c.t_values-t_values.ensures at c.t_values_answer-values.ensures) ∙ c.if-values-ne0.false)
    (sym c.list_answer-answer.ensures ∙ c.if-answer-ne0.false)
    c.key_of-key.result c.key_of-key.ensures c.both_invertible.ensures c.if-not-both_invertible.true)
    (λ z. omega arith) c.refused-then-not-both_invertible.ensures

pub returns : goal.returns
returns c =
    let a = c.args in
    let numbers_0 = sym c.numbers_answer-numbers.ensures ∙ c.if-numbers-ne0.false in
    let values_0 = sym (rw c.t_values-t_values.ensures at c.t_values_answer-values.ensures) ∙ c.if-values-ne0.false in
    let list_0 = sym c.list_answer-answer.ensures ∙ c.if-answer-ne0.false in
    reads_accepted a.file.now
    (none_refused a.f c.bits_of-bits.result a.file.now c.requires.0 c.requires.1 c.bits_of-bits.ensures
    numbers_0 values_0 list_0
    c.key_of-key.result c.key_of-key.ensures c.both_invertible.ensures c.if-not-both_invertible.false)
    c.if-answer-ne0.false
    (key_held a.f c.bits_of-bits.result a.file.now c.requires.0 c.requires.1 c.bits_of-bits.ensures
    numbers_0 values_0 list_0 c.key_of-key.result c.key_of-key.ensures c.both_invertible.ensures)
