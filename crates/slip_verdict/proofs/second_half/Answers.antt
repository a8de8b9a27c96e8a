-- `slip_verdict::second_half` meets its contract: each refusal is that of its question. If half and word are accepted,
-- the matrix that the word reaches decides.
use Prim.Native.Nat.{ℕ, ◌^◌}
use mathlib.Core.Path.{◌≡◌, sym, ap, ◌∙◌}
use mathlib.Core.List.{List, ◌∷◌}
use Rattle.base.specs.Questions.{Question, ◌else◌, first_no}
use Rattle.base.proofs.QuestionLaws.{passes, fails, all_passed, refused_there}
use Rattle.word.specs.Words.{word_answer}
use Rattle.pair.specs.PairQuestions.{pair_questions}
use Rattle.key.specs.Keys.{both_invertible}
use Rattle.slip_verdict.specs.declared.Half.{Half}
use Rattle.slip_verdict.specs.Halves.{copy_questions, second_half_questions}
use Rattle.slip_verdict.proofs.CopyLaws.{word_number, past_word}
use Rattle.slip_verdict.proofs.second_half.Goals as goal

-- 17, 4, 6, and what is asked after them
abbrev first : Half → List Question
first half = pair_questions half.field half.t_values half.pair half.target

abbrev rest : Half → List ℕ → List Question
rest half word = (both_invertible half.field half.pair.matrix half.target else 26) ∷ copy_questions half word

pub pair_answer-refusal-requires : goal.pair_answer-refusal-requires
pair_answer-refusal-requires c =
    ap (λ (b : ℕ). 2 ^ b) (sym c.bits_of-bits.ensures)

pub returns-then-refusal-ne0 : goal.returns-then-refusal-ne0
returns-then-refusal-ne0 c =
    let half = c.args.half in
    let word = c.args.word.now in
    let e = c.pair_answer-refusal.ensures in
    e ∙ sym (refused_there (first half) (rest half word) tt (λ z. c.if-refusal-ne0.true (e ∙ z)))

pub returns-then-not-both_invertible : goal.returns-then-not-both_invertible
returns-then-not-both_invertible c =
    let half = c.args.half in
    let word = c.args.word.now in
    let past_6 : first_no (second_half_questions half word) ≡ first_no (rest half word) =
    all_passed (first half) (rest half word) tt (sym c.pair_answer-refusal.ensures ∙ c.if-refusal-ne0.false) in
    sym (past_6
    ∙ fails 26 (copy_questions half word) (sym c.both_invertible.ensures ∙ c.if-not-both_invertible.true))

pub returns-then-read-ne0 : goal.returns-then-read-ne0
returns-then-read-ne0 c =
    let half = c.args.half in
    let word = c.args.word.now in
    let past_6 : first_no (second_half_questions half word) ≡ first_no (rest half word) =
    all_passed (first half) (rest half word) tt (sym c.pair_answer-refusal.ensures ∙ c.if-refusal-ne0.false) in
    let past_26 : first_no (second_half_questions half word) ≡ first_no (copy_questions half word) =
    past_6 ∙ passes 26 (copy_questions half word)
    (sym c.both_invertible.ensures ∙ c.if-not-both_invertible.false) in
    let e = c.read_word-read.ensures.answer_is in
    e ∙ sym (past_26 ∙ word_number half word (λ z. c.if-read-ne0.true (e ∙ z)))

pub returns : goal.returns
returns c =
    let half = c.args.half in
    let word = c.args.word.now in
    let past_6 : first_no (second_half_questions half word) ≡ first_no (rest half word) =
    all_passed (first half) (rest half word) tt (sym c.pair_answer-refusal.ensures ∙ c.if-refusal-ne0.false) in
    let past_26 : first_no (second_half_questions half word) ≡ first_no (copy_questions half word) =
    past_6 ∙ passes 26 (copy_questions half word)
    (sym c.both_invertible.ensures ∙ c.if-not-both_invertible.false) in
    let word_passed : word_answer word ≡ 0 =
    sym c.read_word-read.ensures.answer_is ∙ c.if-read-ne0.false in
    c.copy_answer.ensures ∙ sym (past_26 ∙ past_word half word word_passed)

pub copy_answer-requires : goal.copy_answer-requires
copy_answer-requires c =
    let word = c.args.word.now in
    let word_passed : word_answer word ≡ 0 =
    sym c.read_word-read.ensures.answer_is ∙ c.if-read-ne0.false in
    word_passed
