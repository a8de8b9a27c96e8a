-- `shelf_calls::judge_under` meets its contract: each refusal is that of its question, and an admitted slip gets the
-- verdict and its letters are charged.
use Prim.Native.Nat.{ℕ, ◌≤◌}
use mathlib.Core.Path.{◌≡◌, refl, sym, ap, ◌∙◌}
use mathlib.Core.Bool.{Bool, true, false, cond}
use mathlib.Core.List.{List}
use native.Mathlib.Omega.{arith}
use borrow.Author.Rules.{rules}
use borrow.Author.Tests.{eqb-true, eqb-false}
use lib.ListN.{length}
use Rattle.base.specs.Questions.{first_no}
use Rattle.word.specs.Words.{word_answer, letters}
use Rattle.word.proofs.ReadLaws.{accepted_word, letters_accepted}
use Rattle.key.specs.declared.Key.{Key}
use Rattle.slip_verdict.specs.Verdict.{slip_questions}
use Rattle.slip_verdict.proofs.SlipLaws.{Goes}
use Rattle.shelf.specs.Charges.{admitted, charging}
use Rattle.shelf.specs.Calls.{is_verdict}
use Rattle.shelf.proofs.ChipLaws.{chip_8, chip_word, chip_36, chip_verdict, slip_verdict, word_no_verdict}
use Rattle.shelf_calls.specs.steps.Chip.{OnChip}
use Rattle.shelf_calls.proofs.judge_under.Goals as goal

-- ---- what each way out gives, in the terms of the slip

module _ (p : ℕ) (key : Key) (digest word shelf : List ℕ) where
  abbrev count : ℕ
  count = length (letters word)

  abbrev ok : Bool
  ok = admitted p count shelf

  abbrev kept : Bool → List ℕ
  kept b = cond b (charging p count shelf) shelf

  by_digest : (Goes key digest → ⊥) → OnChip p key digest word shelf shelf 8
  by_digest h = record { answer_is = sym (chip_8 ok key digest word h); shelf_is = refl }

  module _ (d : Goes key digest) where
    by_word : {a : ℕ} → a ≡ word_answer word → (a ≡ 0 → ⊥) → OnChip p key digest word shelf shelf a
    by_word e h =
        let r : word_answer word ≡ 0 → ⊥ = λ z. h (e ∙ z) in
        record {
          answer_is = e ∙ sym (chip_word ok key digest word d r);
          shelf_is = sym (ap kept (ap is_verdict e ∙ word_no_verdict word r));
        }

    module _ (w : word_answer word ≡ 0) {n : ℕ} (c : n ≡ count) where
      by_sum : admitted p n shelf ≡ false → OnChip p key digest word shelf shelf 36
      by_sum e =
          record {
            answer_is = sym (chip_36 ok key digest word d w (ap (λ (k : ℕ). admitted p k shelf) (sym c) ∙ e));
            shelf_is = refl;
          }

      by_verdict : {a : ℕ} {left : List ℕ} → admitted p n shelf ≡ true → left ≡ charging p n shelf
          → a ≡ first_no (slip_questions key digest word) → OnChip p key digest word shelf left a
      by_verdict e l v =
          record {
            answer_is = v ∙ sym (chip_verdict ok key digest word d w (ap (λ (k : ℕ). admitted p k shelf) (sym c) ∙ e));
            shelf_is =
                l ∙ ap (λ (k : ℕ). charging p k shelf) c
                ∙ sym (ap kept (ap is_verdict v ∙ slip_verdict ok key digest word d w));
          }

-- an accepted word has at most 10,000 letters
few : (word : List ℕ) → word_answer word ≡ 0 → length (letters word) ≤ 10000
few word w =
    omega (arith, ap length (letters_accepted word w), (accepted_word word w).count, (accepted_word word w).few)

pub returns-then-not-is_digest : goal.returns-then-not-is_digest
returns-then-not-is_digest c =
    let a = c.args in
    by_digest a.publisher a.key a.digest.now a.word.now a.shelf.now
    (eqb-false (length a.digest.now) _ (sym c.is_digest.ensures ∙ c.if-not-is_digest.true))

pub returns-then-read-ne0 : goal.returns-then-read-ne0
returns-then-read-ne0 c =
    let goes : let a = c.args in Goes a.key a.digest.now =
    eqb-true (length c.args.digest.now) _ (sym c.is_digest.ensures ∙ c.if-not-is_digest.false) in
    let a = c.args in
    by_word a.publisher a.key a.digest.now a.word.now a.shelf.now goes
    c.read_word-read.ensures.answer_is c.if-read-ne0.true

pub is_admitted-requires : goal.is_admitted-requires
is_admitted-requires c =
    let passed : word_answer c.args.word.now ≡ 0 =
    sym c.read_word-read.ensures.answer_is ∙ c.if-read-ne0.false in
    let letters_few : c.read_word-read.result.letters ≤ 10000 =
    omega (arith, c.read_word-read.ensures.count_is, few c.args.word.now passed) in
    (search rules, search rules, letters_few)

pub returns-then-not-is_admitted : goal.returns-then-not-is_admitted
returns-then-not-is_admitted c =
    let goes : let a = c.args in Goes a.key a.digest.now =
    eqb-true (length c.args.digest.now) _ (sym c.is_digest.ensures ∙ c.if-not-is_digest.false) in
    let passed : word_answer c.args.word.now ≡ 0 =
    sym c.read_word-read.ensures.answer_is ∙ c.if-read-ne0.false in
    let a = c.args in
    by_sum a.publisher a.key a.digest.now a.word.now a.shelf.now goes passed
    c.read_word-read.ensures.count_is (sym c.is_admitted.ensures ∙ c.if-not-is_admitted.true)

pub charge-requires : goal.charge-requires
charge-requires c =
    let passed : word_answer c.args.word.now ≡ 0 =
    sym c.read_word-read.ensures.answer_is ∙ c.if-read-ne0.false in
    let letters_few : c.read_word-read.result.letters ≤ 10000 =
    omega (arith, c.read_word-read.ensures.count_is, few c.args.word.now passed) in
    (search rules, search rules, letters_few)

pub returns : goal.returns
returns c =
    let goes : let a = c.args in Goes a.key a.digest.now =
    eqb-true (length c.args.digest.now) _ (sym c.is_digest.ensures ∙ c.if-not-is_digest.false) in
    let passed : word_answer c.args.word.now ≡ 0 =
    sym c.read_word-read.ensures.answer_is ∙ c.if-read-ne0.false in
    let a = c.args in
    by_verdict a.publisher a.key a.digest.now a.word.now a.shelf.now goes
    passed c.read_word-read.ensures.count_is (sym c.is_admitted.ensures ∙ c.if-not-is_admitted.false)
    c.charge.ensures c.judge.ensures
