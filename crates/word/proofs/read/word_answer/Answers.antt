-- `word::read::word_answer` meets its contract: it asks one question after another. `past_k` says that the first k
-- questions are passed, so the answer is that of the rest.
use Prim.Native.Nat.{ℕ, ◌≤◌}
use mathlib.Core.Path.{◌≡◌, sym, ap, ◌∙◌}
use mathlib.Core.Bool.{true}
use mathlib.Core.List.{List}
use native.Mathlib.Omega.{arith}
use borrow.Author.Tests.{le-leb, lt-leb, eq-eqb, ne_eqb}
use lib.Dec.{eqb}
use lib.ListN.{length, drop}
use Rattle.base.specs.Questions.{Question, first_no}
use Rattle.base.specs.Lists.{every}
use Rattle.base.proofs.QuestionLaws.{passes, fails}
use Rattle.word.specs.Letters.{is_letter}
use Rattle.word.specs.Words.{stated, needed, codes, word_questions, word_answer}
use Rattle.word.proofs.ReadLaws.{codes_there, filler_there}
use Rattle.word.proofs.read.word_answer.Goals as goal

-- the questions of the word file from question k on, counted from 0
abbrev rest : ℕ → List ℕ → List Question
rest k file = drop k (word_questions file)

past_1 : (file : List ℕ) → 2 ≤ length file → word_answer file ≡ first_no (rest 1 file)
unfolding word_answer
past_1 file h = passes 9 (rest 1 file) (le-leb 2 (length file) h)

past_2 : (file : List ℕ) → 2 ≤ length file → stated file ≤ 10000 → word_answer file ≡ first_no (rest 2 file)
past_2 file h₁ h₂ = past_1 file h₁ ∙ passes 10 (rest 2 file) (le-leb (stated file) 10000 h₂)

past_3 : (file : List ℕ) → 2 ≤ length file → stated file ≤ 10000 → length file ≡ needed (stated file)
    → word_answer file ≡ first_no (rest 3 file)
past_3 file h₁ h₂ h₃ = past_2 file h₁ h₂ ∙ passes 11 (rest 3 file) (eq-eqb (length file) (needed (stated file)) h₃)

past_4 : (file : List ℕ) → 2 ≤ length file → stated file ≤ 10000 → length file ≡ needed (stated file)
    → every is_letter (codes file) ≡ true → word_answer file ≡ first_no (rest 4 file)
past_4 file h₁ h₂ h₃ h₄ = past_3 file h₁ h₂ h₃ ∙ passes 12 (rest 4 file) h₄

pub returns-then-file-lt2 : goal.returns-then-file-lt2
unfolding word_answer
returns-then-file-lt2 c =
    let file = c.args.file.now in
    sym (fails 9 (rest 1 file) (lt-leb 2 (length file) c.if-file-lt2.true))

pub returns-then-n-gt-MAX_LETTERS : goal.returns-then-n-gt-MAX_LETTERS
returns-then-n-gt-MAX_LETTERS c =
    let file = c.args.file.now in
    sym (past_1 file c.if-file-lt2.false ∙ fails 10 (rest 2 file) (lt-leb (stated file) 10000 (omega arith)))

pub returns-then-file-n : goal.returns-then-file-n
returns-then-file-n c =
    let file = c.args.file.now in
    sym (past_2 file c.if-file-lt2.false (omega arith)
    ∙ fails 11 (rest 3 file)
    (ne_eqb (length file) (needed (stated file)) (λ e. c.if-file-n.true (rw c.stated-n.ensures.0 e))))

-- the result of `all_letters` answers question 12, and the result of `is_filled` answers question 13
pub returns-then-not-all_letters : goal.returns-then-not-all_letters
returns-then-not-all_letters c =
    let file = c.args.file.now in
    let lettered =
    ap (every is_letter) (sym (codes_there file c.stated-n.ensures.0)) ∙ sym c.all_letters.ensures
    ∙ c.if-not-all_letters.true in
    sym (past_3 file c.if-file-lt2.false (omega arith) (omega arith) ∙ fails 12 (rest 4 file) lettered)

pub returns-then-not-is_filled : goal.returns-then-not-is_filled
returns-then-not-is_filled c =
    let file = c.args.file.now in
    let lettered =
    ap (every is_letter) (sym (codes_there file c.stated-n.ensures.0)) ∙ sym c.all_letters.ensures
    ∙ c.if-not-all_letters.false in
    let filled =
    ap (every (λ h. eqb h 0)) (sym (filler_there file c.stated-n.ensures.0)) ∙ sym c.is_filled.ensures
    ∙ c.if-not-is_filled.true in
    sym (past_4 file c.if-file-lt2.false (omega arith) (omega arith) lettered ∙ fails 13 (rest 5 file) filled)

pub returns : goal.returns
unfolding first_no
returns c =
    let file = c.args.file.now in
    let lettered =
    ap (every is_letter) (sym (codes_there file c.stated-n.ensures.0)) ∙ sym c.all_letters.ensures
    ∙ c.if-not-all_letters.false in
    let filled =
    ap (every (λ h. eqb h 0)) (sym (filler_there file c.stated-n.ensures.0)) ∙ sym c.is_filled.ensures
    ∙ c.if-not-is_filled.false in
    sym (past_4 file c.if-file-lt2.false (omega arith) (omega arith) lettered ∙ passes 13 (rest 5 file) filled)
