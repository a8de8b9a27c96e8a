-- `word_restore::sizes_answer` meets its contract: it asks one question after another. `past_k` says that the first k
-- questions are passed, so the answer is that of the rest.
use Prim.Native.Nat.{ℕ, ◌+◌, ◌≤◌}
use mathlib.Core.Path.{◌≡◌, sym, ap, ap₂, ◌∙◌}
use mathlib.Core.List.{List}
use native.Mathlib.Omega.{arith}
use borrow.Author.Tests.{le-leb, lt-leb, eq-eqb, ne_eqb}
use lib.ListN.{length, drop}
use Rattle.base.specs.Questions.{Question, first_no}
use Rattle.base.specs.Packing.{row_bytes}
use Rattle.base.proofs.QuestionLaws.{passes, fails}
use Rattle.word_stored.specs.Stored.{letters_stated, sign_bytes, generator_bytes, size_questions}
use Rattle.word_restore.proofs.sizes_answer.Goals as goal

-- the questions from question k on, counted from 0
abbrev rest : ℕ → List ℕ → List Question
rest k file = drop k (size_questions file)

module _ (file : List ℕ) (long : 6 ≤ length file) where
  past_1 : first_no (rest 0 file) ≡ first_no (rest 1 file)
  past_1 = passes 28 (rest 1 file) (le-leb 6 (length file) long)

  module _ (few : letters_stated file ≤ 10000) where
    past_2 : first_no (rest 0 file) ≡ first_no (rest 2 file)
    past_2 = past_1 ∙ passes 10 (rest 2 file) (le-leb (letters_stated file) 10000 few)

    module _ (signs : sign_bytes file ≡ row_bytes 1 (letters_stated file)) where
      past_3 : first_no (rest 0 file) ≡ first_no (rest 3 file)
      past_3 = past_2 ∙ passes 28 (rest 3 file) (eq-eqb (sign_bytes file) _ signs)

      past_4 : generator_bytes file ≡ row_bytes 3 (letters_stated file) → first_no (rest 0 file)
          ≡ first_no (rest 4 file)
      past_4 generators = past_3 ∙ passes 28 (rest 4 file) (eq-eqb (generator_bytes file) _ generators)

pub returns-then-file-lt6 : goal.returns-then-file-lt6
returns-then-file-lt6 c =
    let file = c.args.file.now in
    sym (fails 28 (rest 1 file) (lt-leb 6 (length file) c.if-file-lt6.true))

pub returns-then-letters-gt-MAX_LETTERS : goal.returns-then-letters-gt-MAX_LETTERS
returns-then-letters-gt-MAX_LETTERS c =
    let file = c.args.file.now in
    let n = c.two_bytes-letters.ensures.0 in
    sym (past_1 file c.if-file-lt6.false
    ∙ fails 10 (rest 2 file) (lt-leb (letters_stated file) 10000 (omega (arith, n))))

pub returns-then-signs-sign_bytes : goal.returns-then-signs-sign_bytes
returns-then-signs-sign_bytes c =
    let file = c.args.file.now in
    let n = c.two_bytes-letters.ensures.0 in
    sym (past_2 file c.if-file-lt6.false (omega (arith, n))
    ∙ fails 28 (rest 3 file)
    (ne_eqb (sign_bytes file) _
    (λ e. c.if-signs-sign_bytes.true
    (c.two_bytes-signs.ensures.0 ∙ e ∙ ap (row_bytes 1) (sym n) ∙ sym c.row_bytes-sign_bytes.ensures))))

pub returns-then-generators-generator_bytes : goal.returns-then-generators-generator_bytes
returns-then-generators-generator_bytes c =
    let file = c.args.file.now in
    let n = c.two_bytes-letters.ensures.0 in
    let signs = sym c.two_bytes-signs.ensures.0 ∙ c.if-signs-sign_bytes.false ∙ c.row_bytes-sign_bytes.ensures in
    sym (past_3 file c.if-file-lt6.false (omega (arith, n)) (signs ∙ ap (row_bytes 1) n)
    ∙ fails 28 (rest 4 file)
    (ne_eqb (generator_bytes file) _
    (λ e. c.if-generators-generator_bytes.true
    (c.two_bytes-generators.ensures.0 ∙ e ∙ ap (row_bytes 3) (sym n) ∙ sym c.row_bytes-generator_bytes.ensures))))

pub returns-then-file-signs : goal.returns-then-file-signs
returns-then-file-signs c =
    let file = c.args.file.now in
    let n = c.two_bytes-letters.ensures.0 in
    let signs = sym c.two_bytes-signs.ensures.0 ∙ c.if-signs-sign_bytes.false ∙ c.row_bytes-sign_bytes.ensures in
    let generators =
    sym c.two_bytes-generators.ensures.0 ∙ c.if-generators-generator_bytes.false
    ∙ c.row_bytes-generator_bytes.ensures in
    let sizes = ap₂ (λ (x y : ℕ). 6 + x + y) c.two_bytes-signs.ensures.0 c.two_bytes-generators.ensures.0 in
    sym (past_4 file c.if-file-lt6.false (omega (arith, n)) (signs ∙ ap (row_bytes 1) n)
    (generators ∙ ap (row_bytes 3) n)
    ∙ fails 28 (rest 5 file) (ne_eqb (length file) _ (λ e. c.if-file-signs.true (e ∙ sym sizes))))

pub returns : goal.returns
unfolding first_no
returns c =
    let file = c.args.file.now in
    let n = c.two_bytes-letters.ensures.0 in
    let signs = sym c.two_bytes-signs.ensures.0 ∙ c.if-signs-sign_bytes.false ∙ c.row_bytes-sign_bytes.ensures in
    let generators =
    sym c.two_bytes-generators.ensures.0 ∙ c.if-generators-generator_bytes.false
    ∙ c.row_bytes-generator_bytes.ensures in
    let sizes = ap₂ (λ (x y : ℕ). 6 + x + y) c.two_bytes-signs.ensures.0 c.two_bytes-generators.ensures.0 in
    sym (past_4 file c.if-file-lt6.false (omega (arith, n)) (signs ∙ ap (row_bytes 1) n)
    (generators ∙ ap (row_bytes 3) n)
    ∙ passes 28 (rest 5 file) (eq-eqb (length file) _ (c.if-file-signs.false ∙ sizes)))
