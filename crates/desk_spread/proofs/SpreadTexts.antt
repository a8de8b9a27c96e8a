-- Laws of the text: on a refusal and on success; and of the length that an argument writes.
use Prim.Native.Nat.{ℕ, suc, ◌+◌, ◌-◌, ◌^◌, ◌≤◌, ◌<◌}
use mathlib.Core.Path.{◌≡◌, refl, sym, ap, ap₂, subst, ◌∙◌}
use mathlib.Core.Bool.{Bool, true, false, cond}
use mathlib.Core.List.{List}
use native.Mathlib.Nat.{pow-le-pow_right}
use native.Mathlib.Decide.{dec_le}
use native.Mathlib.Numerals.{add-one}
use native.Mathlib.Omega.{arith}
use lib.ListN.{length, get_or, replicate, get_or-eq_default}
use Rattle.base.specs.Questions.{first_no}
use Rattle.base.specs.Lists.{first_from}
use Rattle.base.proofs.QuestionLaws.{granted_zero, granted_refused}
use Rattle.text.specs.Texts.{TellsIn}
use Rattle.word_spread.specs.Spread.{all_lists, all_endings, length_questions, EndsAll, list_at}
use Rattle.word_spread.proofs.CountLaws.{length_endings, ending_at}
use Rattle.word_spread.proofs.SpreadAnswer.{nonzero, all_long}
use Rattle.word_spread.proofs.SpreadLaws.{ending_le}
use Rattle.desk_line.specs.Desk.{answer_line}
use Rattle.desk_text.specs.Room.{text_size}
use Rattle.desk_spread.specs.SpreadLines.{list_lines, spread_text}
use Rattle.desk_spread.specs.steps.Numbers.{Shown}

-- ---- what is written

module _ (n : ℕ) {answer : ℕ} {numbers : List ℕ} (all : EndsAll n answer numbers) {bytes : ℕ} {text : List ℕ} where
  pub text_refused : (answer ≡ 0 → ⊥) → TellsIn text_size (answer_line answer) bytes text
      → TellsIn text_size (spread_text n) bytes text
  unfolding spread_text
  text_refused h t =
      subst (λ (l : List ℕ). TellsIn text_size l bytes text)
      (ap answer_line all.answer_is
      ∙ sym (granted_refused (list_lines all_lists (all_endings n)) (answer_line (first_no (length_questions n)))
      (λ z. h (all.answer_is ∙ z))))
      t

  pub text_accepted : answer ≡ 0 → TellsIn text_size (list_lines all_lists numbers) bytes text
      → TellsIn text_size (spread_text n) bytes text
  unfolding spread_text
  text_accepted z t =
      let e = sym all.answer_is ∙ z in
      subst (λ (l : List ℕ). TellsIn text_size l bytes text)
      (ap (list_lines all_lists) (all.numbers_are ∙ granted_zero (all_endings n) (replicate 24 0) e)
      ∙ sym (granted_zero (list_lines all_lists (all_endings n)) (answer_line (first_no (length_questions n))) e))
      t

-- answer 0 is a length of at most 12
length_passed : (n : ℕ) → first_no (length_questions n) ≡ 0 → n ≤ 12
length_passed n e = go (dec_le n 12)
  where
    go : Dec (n ≤ 12) → n ≤ 12
    go (yes h) = h
    go (no h) = absurd (nonzero (all_long n (omega arith)) e)

-- the numbers of an accepted length have at most ten digits
pub numbers_shown : (n : ℕ) {answer : ℕ} {numbers : List ℕ} → EndsAll n answer numbers → answer ≡ 0 → Shown numbers
numbers_shown n all z =
    rw (all.numbers_are ∙ granted_zero (all_endings n) (replicate 24 0) passed)
    (record { size = length_endings n; small = λ k. go k (dec_le 24 k) })
  where
    passed : first_no (length_questions n) ≡ 0
    passed = sym all.answer_is ∙ z

    most : 6 ^ n ≤ 6 ^ 12
    most = pow-le-pow_right (omega arith) (length_passed n passed)

    go : (k : ℕ) → Dec (24 ≤ k) → get_or (all_endings n) k 0 ≤ 6 ^ 12
    go k (yes l) = rw (get_or-eq_default (all_endings n) 0 {n = k} (omega (arith, length_endings n))) (omega arith)
    go k (no l) = omega (arith, ending_at n k (omega arith), ending_le n (list_at k), most)

-- ---- the length that an argument writes

-- a test that the code makes for one length after another
module _ (f : ℕ → Bool) where
  first_here : (k n : ℕ) → f k ≡ true → first_from f k (suc n) ≡ k
  unfolding first_from
  first_here k n e = ap (λ (b : Bool). cond b k (first_from f (suc k) n)) e

  first_later : (k n : ℕ) → f k ≡ false → first_from f k (suc n) ≡ first_from f (suc k) n
  unfolding first_from
  first_later k n e = ap (λ (b : Bool). cond b k (first_from f (suc k) n)) e

  -- The search goes on after a length that fails the test, and ends at a length that passes. If all lengths fail, it
  -- gives 13.
  pub first_next : (k : ℕ) → k < 13 → f k ≡ false → first_from f k (13 - k) ≡ first_from f (k + 1) (13 - (k + 1))
  first_next k h e =
      let here : 13 - k ≡ suc (12 - k) = omega arith in
      let rest : 12 - k ≡ 13 - (k + 1) = omega arith in
      ap (first_from f k) here ∙ first_later k (12 - k) e ∙ ap₂ (first_from f) (sym (add-one k)) rest

  pub first_found : (k : ℕ) → k < 13 → f k ≡ true → first_from f k (13 - k) ≡ k
  first_found k h e =
      let here : 13 - k ≡ suc (12 - k) = omega arith in
      ap (first_from f k) here ∙ first_here k (12 - k) e

  pub first_none : (k : ℕ) → k ≡ 13 → first_from f k (13 - k) ≡ 13
  unfolding first_from
  first_none k e = rw e refl
