-- `word_writer::write_word` meets its contract: it refuses at the first question that fails, and writes the file if all
-- are passed. `past_k` says that the first k questions are passed, so the answer is that of the rest.
use Prim.Native.Nat.{ℕ, ◌≤◌}
use mathlib.Core.Path.{◌≡◌, sym, ◌∙◌}
use mathlib.Core.List.{List}
use native.Mathlib.Omega.{arith}
use borrow.Author.Tests.{le-leb, lt-leb}
use lib.ListN.{length, drop}
use Rattle.base.specs.Questions.{Question, first_no}
use Rattle.base.proofs.QuestionLaws.{passes, fails}
use Rattle.word.specs.Words.{word_file, writer_questions}
use Rattle.word.proofs.WordLaws.{length_word_file}
use Rattle.word.proofs.WriteLaws.{wrote_refused, wrote_done, writable}
use Rattle.word_writer.proofs.write_word.Goals as goal

-- the questions from question k on, counted from 0
abbrev rest : ℕ → ℕ → List ℕ → List Question
rest k room codes = drop k (writer_questions room codes)

past_1 : (room : ℕ) (codes : List ℕ) → 5002 ≤ room → first_no (rest 0 room codes) ≡ first_no (rest 1 room codes)
past_1 room codes h = passes 15 (rest 1 room codes) (le-leb 5002 room h)

past_2 : (room : ℕ) (codes : List ℕ) → 5002 ≤ room → length codes ≤ 10000
    → first_no (rest 0 room codes) ≡ first_no (rest 2 room codes)
past_2 room codes h₁ h₂ = past_1 room codes h₁ ∙ passes 10 (rest 2 room codes) (le-leb (length codes) 10000 h₂)

pub returns-then-out-lt-MAX_BYTES : goal.returns-then-out-lt-MAX_BYTES
returns-then-out-lt-MAX_BYTES c =
    let codes = c.args.codes.now in
    let room = length c.args.out.now in
    wrote_refused _ _ c.args.out.now 15 c.refused.ensures
    (fails 15 (rest 1 room codes) (lt-leb 5002 room c.if-out-lt-MAX_BYTES.true)) (omega arith)

pub returns-then-codes-gt-MAX_LETTERS : goal.returns-then-codes-gt-MAX_LETTERS
returns-then-codes-gt-MAX_LETTERS c =
    let codes = c.args.codes.now in
    let room = length c.args.out.now in
    wrote_refused _ _ c.args.out.now 10 c.refused-then-codes-gt-MAX_LETTERS.ensures
    (past_1 room codes c.if-out-lt-MAX_BYTES.false
    ∙ fails 10 (rest 2 room codes) (lt-leb (length codes) 10000 c.if-codes-gt-MAX_LETTERS.true))
    (omega arith)

pub returns-then-not-all_codes : goal.returns-then-not-all_codes
returns-then-not-all_codes c =
    let codes = c.args.codes.now in
    let room = length c.args.out.now in
    wrote_refused _ _ c.args.out.now 12 c.refused-then-not-all_codes.ensures
    (past_2 room codes c.if-out-lt-MAX_BYTES.false c.if-codes-gt-MAX_LETTERS.false
    ∙ fails 12 (rest 3 room codes) (sym c.all_codes.ensures ∙ c.if-not-all_codes.true))
    (omega arith)

pub write_file-bytes-requires : goal.write_file-bytes-requires
write_file-bytes-requires c = (
  c.if-codes-gt-MAX_LETTERS.false,
  sym c.all_codes.ensures ∙ c.if-not-all_codes.false,
  c.if-out-lt-MAX_BYTES.false,
)

pub returns : goal.returns
returns c =
    let codes = c.args.codes.now in
    let lettered = sym c.all_codes.ensures ∙ c.if-not-all_codes.false in
    wrote_done _ (word_file codes) c.args.out.now
    (writable (length c.args.out.now) codes c.if-out-lt-MAX_BYTES.false c.if-codes-gt-MAX_LETTERS.false lettered)
    (c.write_file-bytes.ensures.0 ∙ sym (length_word_file codes)) c.write_file-bytes.ensures.1
