-- `word_dialect::convert` meets its contract: it asks the questions in order, and the writer of a converted word asks
-- the last one.
use Prim.Native.Nat.{ℕ}
use mathlib.Core.Path.{◌≡◌, sym, ap, ◌∙◌}
use mathlib.Core.List.{List, ◌++◌}
use mathlib.Core.Bool.{true}
use native.Mathlib.Omega.{arith}
use borrow.Author.Tests.{lt-leb}
use lib.ListN.{length, take}
use lib.Seq.{length-take-le}
use Rattle.base.specs.Questions.{first_no}
use Rattle.base.specs.Lists.{every}
use Rattle.base.proofs.QuestionLaws.{fails, refused_there}
use Rattle.word.specs.Letters.{is_letter}
use Rattle.word.specs.Words.{codes, word_file, word_questions, word_answer}
use Rattle.word.proofs.ReadLaws.{accepted_word, count_few}
use Rattle.word.proofs.UnpackedWord.{bytes_fit, unpacked}
use Rattle.word.proofs.WriteLaws.{wrote_refused, wrote_same}
use Rattle.word_dialect.specs.Dialect.{are_parts, converted, long_question}
use Rattle.word_dialect.proofs.ConvertLaws.{after_word, past_room, past_word, past_parts}
use Rattle.word_dialect.proofs.convert.Goals as goal

pub returns-then-out-lt-MAX_BYTES : goal.returns-then-out-lt-MAX_BYTES
returns-then-out-lt-MAX_BYTES c =
    wrote_refused _ _ c.args.out.now 15 c.refused.ensures
    (fails 15 (word_questions c.args.word.now
    ++ after_word c.args.way (length c.args.out.now) c.args.word.now c.args.parts.now)
    (lt-leb 5002 (length c.args.out.now) c.if-out-lt-MAX_BYTES.true))
    (omega arith)

pub returns-then-w-ne0 : goal.returns-then-w-ne0
unfolding word_answer
returns-then-w-ne0 c =
    let e = c.read_word-w.ensures.answer_is in
    wrote_refused _ _ c.args.out.now _ c.refused-then-w-ne0.ensures
    (past_room c.args.way (length c.args.out.now) c.args.word.now c.args.parts.now c.if-out-lt-MAX_BYTES.false
    ∙ refused_there (word_questions c.args.word.now)
    (after_word c.args.way (length c.args.out.now) c.args.word.now c.args.parts.now) tt
    (λ z. c.if-w-ne0.true (e ∙ z))
    ∙ sym e)
    c.if-w-ne0.true

pub returns-then-not-are_parts : goal.returns-then-not-are_parts
returns-then-not-are_parts c =
    let accepted = sym c.read_word-w.ensures.answer_is ∙ c.if-w-ne0.false in
    wrote_refused _ _ c.args.out.now 33 c.refused-then-not-are_parts.ensures
    (past_word c.args.way (length c.args.out.now) c.args.word.now c.args.parts.now c.if-out-lt-MAX_BYTES.false
    accepted
    ∙ fails 33 (long_question c.args.way (codes c.args.word.now) c.args.parts.now)
    (sym c.are_parts.ensures ∙ c.if-not-are_parts.true))
    (omega arith)

pub slice_bounds-unpack-count : goal.slice_bounds-unpack-count
slice_bounds-unpack-count c =
    let accepted = sym c.read_word-w.ensures.answer_is ∙ c.if-w-ne0.false in
    (accepted_word c.args.word.now accepted).long

pub slice_bounds-unpack-start : goal.slice_bounds-unpack-start
slice_bounds-unpack-start c = slice_bounds-unpack-count c

pub unpack-requires : goal.unpack-requires
unpack-requires c =
    let accepted = sym c.read_word-w.ensures.answer_is ∙ c.if-w-ne0.false in
    bytes_fit c.args.word.now c.read_word-w.ensures.count_is accepted

pub slice_bounds-codes-end : goal.slice_bounds-codes-end
slice_bounds-codes-end c =
    let accepted = sym c.read_word-w.ensures.answer_is ∙ c.if-w-ne0.false in
    omega (arith, count_few c.args.word.now accepted _ c.read_word-w.ensures.count_is, c.unpack.auto.codes)

pub slice_bounds-write_converted-end : goal.slice_bounds-write_converted-end
slice_bounds-write_converted-end c =
    let accepted = sym c.read_word-w.ensures.answer_is ∙ c.if-w-ne0.false in
    let few = count_few c.args.word.now accepted _ c.read_word-w.ensures.count_is in
    sym (length-take-le c.read_word-w.result.letters c.unpack.new.codes (omega (arith, few, c.unpack.auto.codes)))

pub write_converted-requires : goal.write_converted-requires
write_converted-requires c =
    let accepted = sym c.read_word-w.ensures.answer_is ∙ c.if-w-ne0.false in
    let parts_asked : are_parts c.args.parts.now ≡ true =
    sym c.are_parts.ensures ∙ c.if-not-are_parts.false in
    let the_codes : take c.read_word-w.result.letters c.unpack.new.codes ≡ codes c.args.word.now =
    unpacked c.args.word.now c.read_word-w.ensures.count_is accepted _
    c.unpack.new.codes
    c.unpack.ensures in
    let a = accepted_word c.args.word.now accepted in
    record {
      lettered = ap (every is_letter) the_codes ∙ a.lettered;
      few = omega (arith, ap length the_codes, a.count, a.few);
      parts_are = parts_asked;
      room = c.if-out-lt-MAX_BYTES.false;
    }

pub returns : goal.returns
returns c =
    let accepted = sym c.read_word-w.ensures.answer_is ∙ c.if-w-ne0.false in
    let parts_asked : are_parts c.args.parts.now ≡ true =
    sym c.are_parts.ensures ∙ c.if-not-are_parts.false in
    let the_codes : take c.read_word-w.result.letters c.unpack.new.codes ≡ codes c.args.word.now =
    unpacked c.args.word.now c.read_word-w.ensures.count_is accepted _
    c.unpack.new.codes
    c.unpack.ensures in
    wrote_same
    (ap (λ (l : List ℕ). first_no (long_question c.args.way l c.args.parts.now)) the_codes
    ∙ sym (past_parts c.args.way (length c.args.out.now) c.args.word.now c.args.parts.now c.if-out-lt-MAX_BYTES.false
    accepted parts_asked))
    (ap (λ (l : List ℕ). word_file (converted c.args.way c.args.parts.now l)) the_codes)
    c.write_converted.ensures
