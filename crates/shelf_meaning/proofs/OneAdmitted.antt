-- A rewritten word has another number of letters, so each word's admission is asked by itself. On a shelf with 20,000
-- letters charged to publisher 1, b1 b1⁻¹ gets 36, and the empty word, which is its freely reduced form, is admitted
-- and gets the verdict, 14. So 36 stands before the verdict: both words have the verdict 14. On a shelf with nothing
-- charged b1 b1⁻¹ gets 14, and its two letters are charged.
use Prim.Native.Nat.{ℕ, ◌+◌}
use mathlib.Core.Path.{◌≡◌, refl, sym, ap, ◌∙◌}
use mathlib.Core.Bool.{Bool, true}
use mathlib.Core.List.{List, [], ◌∷◌}
use lib.ListN.{length}
use Rattle.base.specs.Questions.{first_no, granted}
use Rattle.base.specs.Lists.{every}
use Rattle.base.specs.Digits.{value, digits, halves}
use Rattle.field.specs.Fields.{digest_bytes}
use Rattle.word.specs.Words.{codes, filler, word_answer, letters, packed, word_file}
use Rattle.word.specs.Reduction.{in_front, reduced}
use Rattle.key.specs.Keys.{key_field}
use Rattle.slip_verdict.specs.Verdict.{verdict}
use Rattle.slip_verdict.proofs.WrongVerdicts.{plain_key, key_accepted, zero_digest, empty_word, empty_word_14}
use Rattle.slip_meaning.specs.Meaning.{SameMeaning}
use Rattle.slip_meaning.proofs.FreeReduction.{reduced_means}
use Rattle.shelf.specs.Charges.{charged, admits, admitted, charging}
use Rattle.shelf.specs.Calls.{judge, answer_to, is_verdict, Serves}
use Rattle.shelf.proofs.ChargeLaws.{charged_charging}
use Rattle.shelf.proofs.ChipLaws.{on_chip}
use Rattle.shelf.proofs.CallLaws.{acted}
use Rattle.shelf_fair.proofs.WrongCharges.{Stands, answer_on}

-- b1 b1⁻¹
abbrev there_and_back : List ℕ
there_and_back = 0x00 ∷ 0x02 ∷ 0x08 ∷ []

accepted : word_answer there_and_back ≡ 0
unfolding first_no every value codes filler halves word_answer
accepted = refl

two_letters : length (letters there_and_back) ≡ 2
unfolding first_no granted every value halves codes filler word_answer letters
two_letters = refl

no_letters : length (letters empty_word) ≡ 0
unfolding first_no granted every value halves codes filler word_answer letters
no_letters = refl

-- the empty word is its freely reduced form, so both words have the same meaning
same_meaning : SameMeaning there_and_back empty_word
unfolding value halves codes reduced in_front word_file packed digits
same_meaning = reduced_means there_and_back accepted

digest_goes : length zero_digest ≡ digest_bytes (key_field plain_key)
unfolding key_field
digest_goes = refl

there_and_back_14 : verdict plain_key zero_digest there_and_back ≡ 14
there_and_back_14 = sym (same_meaning.verdicts plain_key zero_digest key_accepted digest_goes) ∙ empty_word_14

-- one is admitted and the other is not
pub one_admitted : {shelf : List ℕ} → Stands 20000 0 shelf
    → SameMeaning there_and_back empty_word × (answer_to 1 (judge 0 zero_digest there_and_back) shelf ≡ 36)
    × (answer_to 1 (judge 0 zero_digest empty_word) shelf ≡ 14)
one_admitted s = (
  same_meaning,
  answer_on s zero_digest there_and_back 2 two_letters ∙ ap (on_chip (admits 2 20000 0)) there_and_back_14,
  answer_on s zero_digest empty_word 0 no_letters ∙ ap (on_chip (admits 0 20000 0)) empty_word_14,
)

-- letters are charged on 14
pub charged_on_14 : {shelf left : List ℕ} {answer : ℕ} → Stands 0 0 shelf
    → Serves 1 (judge 0 zero_digest there_and_back) shelf left answer → (answer ≡ 14) × (charged 1 left ≡ 2)
charged_on_14 {shelf} s c =
    let e = answer_on s zero_digest there_and_back 2 two_letters ∙ ap (on_chip (admits 2 0 0)) there_and_back_14 in
    let ok : admitted 1 2 shelf ≡ true = λ i. admits 2 (s.charge_1 i) (s.charge_2 i) in (
      c.answer_is ∙ e,
      ap (charged 1)
          (c.shelf_is ∙ acted 1 (judge 0 zero_digest there_and_back) shelf (ap is_verdict e)
          ∙ ap (λ (k : ℕ). charging 1 k shelf) two_letters)
          ∙ charged_charging 1 2 shelf refl s.room ok
          ∙ ap (λ (k : ℕ). k + 2) s.charge_1,
    )
