-- `word_restore::restore` meets its contract: it asks the questions in order. If the sizes agree and the filler is
-- zero, the writer of words writes the codes. It refuses them exactly if one of them is no letter.
use Prim.Native.Nat.{ℕ, ◌≤◌}
use mathlib.Core.Path.{◌≡◌, refl, sym, ap, ◌∙◌, subst}
use mathlib.Core.Bool.{Bool, true, false, cond, ◌&&◌}
use mathlib.Core.List.{List}
use native.Mathlib.Omega.{arith}
use borrow.Author.Tests.{le-leb, lt-leb, eqb-false}
use lib.ListN.{length, take}
use lib.Seq.{length-take-le}
use Rattle.base.specs.Questions.{first_no}
use Rattle.base.specs.Lists.{every, overlaid}
use Rattle.base.proofs.QuestionLaws.{passes, fails, answers_passed, granted_refused, refused_there}
use Rattle.base.proofs.ListLaws.{and_false, not_true_false}
use Rattle.word.specs.Letters.{is_letter}
use Rattle.word.specs.Words.{word_file, writer_questions, Wrote}
use Rattle.word.proofs.WriteLaws.{wrote_refused, wrote_same, writable}
use Rattle.word_stored.specs.Stored.{stored_codes, size_questions, row_questions, stored_questions, stored_answer}
use Rattle.word_stored.specs.Stored.{letters_stated, restore_questions}
use Rattle.word_stored.proofs.StoredLaws.{length_codes}
use Rattle.word_restore.proofs.RestoreLaws.{long, sized, is_filled, stored_answers}
use Rattle.word_restore.proofs.restore.Goals as goal

-- if the output has room, the answer is that of the stored form's questions
module _ (room : ℕ) (file : List ℕ) (wide : 5002 ≤ room) where
  past_1 : first_no (restore_questions room file) ≡ stored_answer file
  unfolding stored_answer
  past_1 = passes 15 (stored_questions file) (le-leb 5002 room wide)

  -- if the sizes agree, the answer is that of the letters and of the filler
  module _ (agree : first_no (size_questions file) ≡ 0) {n : ℕ} (number : n ≡ letters_stated file) where
    answer : {filled : Bool} → filled ≡ is_filled file agree n
        → first_no (restore_questions room file) ≡ cond (every is_letter (stored_codes file) && filled) 0 29
    answer f =
        past_1 ∙ stored_answers file agree n number
        ∙ ap (λ (b : Bool). cond (every is_letter (stored_codes file) && b) 0 29) (sym f)

    -- if the filler is zero, and the writer of words is handed the codes of the file, it decides
    module _ {codes : List ℕ} (codes_are : codes ≡ stored_codes file) (filled : true ≡ is_filled file agree n) where
      few : length codes ≤ 10000
      few = omega (arith, ap length codes_are, length_codes file, sized file agree n number)

      decided : first_no (restore_questions room file) ≡ cond (every is_letter codes && true) 0 29
      decided = answer filled ∙ ap (λ (l : List ℕ). cond (every is_letter l && true) 0 29) (sym codes_are)

      refused_letters : (first_no (writer_questions room codes) ≡ 0 → ⊥)
          → first_no (restore_questions room file) ≡ 29
      refused_letters h =
          let none : every is_letter codes ≡ false =
          not_true_false (every is_letter codes) (λ e. h (writable room codes wide few e)) in
          decided ∙ ap (λ (b : Bool). cond (b && true) 0 29) none

      accepted_letters : first_no (writer_questions room codes) ≡ 0 → first_no (restore_questions room file) ≡ 0
      accepted_letters z =
          let p = answers_passed (writer_questions room codes) tt z in
          decided ∙ ap (λ (b : Bool). cond (b && true) 0 29) p.1.1.0

pub returns-then-out-lt-MAX_BYTES : goal.returns-then-out-lt-MAX_BYTES
returns-then-out-lt-MAX_BYTES c =
    let out = c.args.out.now in
    wrote_refused _ _ out 15 c.refused.ensures
    (fails 15 (stored_questions c.args.stored.now) (lt-leb 5002 (length out) c.if-out-lt-MAX_BYTES.true))
    (eqb-false 15 0 refl)

pub returns-then-answer-ne0 : goal.returns-then-answer-ne0
unfolding stored_answer
returns-then-answer-ne0 c =
    let file = c.args.stored.now in
    let out = c.args.out.now in
    wrote_refused _ _ out c.sizes_answer-answer.result c.refused-then-answer-ne0.ensures
    (past_1 (length out) file c.if-out-lt-MAX_BYTES.false
    ∙ refused_there (size_questions file) (row_questions file) tt
    (λ z. c.if-answer-ne0.true (c.sizes_answer-answer.ensures ∙ z))
    ∙ sym c.sizes_answer-answer.ensures)
    c.if-answer-ne0.true

pub two_bytes-n-requires : goal.two_bytes-n-requires
two_bytes-n-requires c =
    omega (arith, long c.args.stored.now (sym c.sizes_answer-answer.ensures ∙ c.if-answer-ne0.false))

pub is_filled-requires : goal.is_filled-requires
is_filled-requires c =
    sized c.args.stored.now (sym c.sizes_answer-answer.ensures ∙ c.if-answer-ne0.false) _ c.two_bytes-n.ensures.0

pub returns-then-not-is_filled : goal.returns-then-not-is_filled
returns-then-not-is_filled c =
    let file = c.args.stored.now in
    let out = c.args.out.now in
    let agree = sym c.sizes_answer-answer.ensures ∙ c.if-answer-ne0.false in
    let filled = sym c.if-not-is_filled.true ∙ c.is_filled.ensures in
    wrote_refused _ _ out 29 c.refused-then-not-is_filled.ensures
    (answer (length out) file c.if-out-lt-MAX_BYTES.false agree c.two_bytes-n.ensures.0 filled
    ∙ ap (λ (b : Bool). cond b 0 29) (and_false (every is_letter (stored_codes file))))
    (eqb-false 29 0 refl)

pub unpack-requires : goal.unpack-requires
unpack-requires c =
    let agree = sym c.sizes_answer-answer.ensures ∙ c.if-answer-ne0.false in
    (sized c.args.stored.now agree _ c.two_bytes-n.ensures.0, refl)

pub slice_bounds-codes-end : goal.slice_bounds-codes-end
slice_bounds-codes-end c =
    let agree = sym c.sizes_answer-answer.ensures ∙ c.if-answer-ne0.false in
    omega (arith, sized c.args.stored.now agree _ c.two_bytes-n.ensures.0, c.unpack.auto.codes)

pub slice_bounds-write_word-end : goal.slice_bounds-write_word-end
slice_bounds-write_word-end c =
    let agree = sym c.sizes_answer-answer.ensures ∙ c.if-answer-ne0.false in
    sym (length-take-le c.two_bytes-n.result c.unpack.new.codes
    (omega (arith, sized c.args.stored.now agree _ c.two_bytes-n.ensures.0, c.unpack.auto.codes)))

pub returns-then-w-ne0 : goal.returns-then-w-ne0
returns-then-w-ne0 c =
    let file = c.args.stored.now in
    let out = c.args.out.now in
    let codes = take c.two_bytes-n.result c.unpack.new.codes in
    let agree = sym c.sizes_answer-answer.ensures ∙ c.if-answer-ne0.false in
    let filled = sym c.if-not-is_filled.false ∙ c.is_filled.ensures in
    let refused = λ (z : first_no (writer_questions (length out) codes) ≡ 0).
    c.if-w-ne0.true (c.write_word-w.ensures.answer_is ∙ z) in
    let same : out ≡ c.write_word-w.new.out =
    sym (c.write_word-w.ensures.output_is ∙ granted_refused (overlaid (word_file codes) out) out refused) in
    let w = c.refused-then-w-ne0 in
    subst (λ (after : List ℕ). Wrote (restore_questions (length out) file) (word_file (stored_codes file)) out after
    w.result.answer w.result.bytes) same
    (wrote_refused _ _ out 29 w.ensures
    (refused_letters (length out) file c.if-out-lt-MAX_BYTES.false agree c.two_bytes-n.ensures.0 c.unpack.ensures filled
    refused)
    (eqb-false 29 0 refl))

pub returns : goal.returns
returns c =
    let agree = sym c.sizes_answer-answer.ensures ∙ c.if-answer-ne0.false in
    let filled = sym c.if-not-is_filled.false ∙ c.is_filled.ensures in
    let accepted = sym c.write_word-w.ensures.answer_is ∙ c.if-w-ne0.false in
    wrote_same
    (accepted
    ∙ sym (accepted_letters (length c.args.out.now) c.args.stored.now c.if-out-lt-MAX_BYTES.false agree
    c.two_bytes-n.ensures.0 c.unpack.ensures filled accepted))
    (ap word_file c.unpack.ensures) c.write_word-w.ensures
