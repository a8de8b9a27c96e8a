-- Laws of question 35, and what is given on each answer: of one list, and of all 24.
use Prim.Native.Nat.{ℕ, ◌≤◌, ◌<◌}
use mathlib.Core.Path.{◌≡◌, sym, ap, ◌∙◌}
use mathlib.Core.Bool.{Bool, true, false, ◌&&◌}
use mathlib.Core.List.{List, []}
use native.Mathlib.Omega.{arith}
use borrow.Author.Tests.{le-leb, lt-leb}
use lib.Dec.{leb}
use lib.ListN.{replicate}
use Rattle.base.specs.Questions.{first_no}
use Rattle.base.proofs.ListLaws.{and_both, and_false}
use Rattle.base.proofs.QuestionLaws.{passes, fails, granted_zero, granted_refused}
use Rattle.word_spread.specs.Spread.{is_four, ending, all_endings, spread_questions, length_questions, Ends, EndsAll}

pub nonzero : {m : ℕ} → m ≡ 35 → m ≡ 0 → ⊥
nonzero e z = omega arith

module _ (n : ℕ) (labels : List ℕ) where
  -- a length over 12
  pub too_long : 12 < n → first_no (spread_questions n labels) ≡ 35
  too_long h = fails 35 [] (ap (λ (b : Bool). b && is_four labels) (lt-leb n 12 h))

  -- a list that is none of the 24
  pub no_list : is_four labels ≡ false → first_no (spread_questions n labels) ≡ 35
  no_list f = fails 35 [] (ap (λ (b : Bool). leb n 12 && b) f ∙ and_false (leb n 12))

  pub passed_35 : n ≤ 12 → is_four labels ≡ true → first_no (spread_questions n labels) ≡ 0
  unfolding first_no
  passed_35 h f = passes 35 [] (and_both (le-leb n 12 h) f)

  pub refused : {answer words : ℕ} → first_no (spread_questions n labels) ≡ 35 → answer ≡ 35 → words ≡ 0
      → Ends n labels answer words
  refused e a w =
      record {
        answer_is = a ∙ sym e;
        words_is = w ∙ sym (granted_refused (ending n labels) 0 (nonzero e));
      }

  pub answered : {words : ℕ} → n ≤ 12 → is_four labels ≡ true → words ≡ ending n labels → Ends n labels 0 words
  answered h f w =
      record {
        answer_is = sym (passed_35 h f);
        words_is = w ∙ sym (granted_zero (ending n labels) 0 (passed_35 h f));
      }

-- of all 24 lists
module _ (n : ℕ) where
  pub all_long : 12 < n → first_no (length_questions n) ≡ 35
  all_long h = fails 35 [] (lt-leb n 12 h)

  all_passed_35 : n ≤ 12 → first_no (length_questions n) ≡ 0
  unfolding first_no
  all_passed_35 h = passes 35 [] (le-leb n 12 h)

  pub all_refused : {answer : ℕ} {numbers : List ℕ} → 12 < n → answer ≡ 35 → numbers ≡ replicate 24 0
      → EndsAll n answer numbers
  all_refused h a z =
      record {
        answer_is = a ∙ sym (all_long h);
        numbers_are = z ∙ sym (granted_refused (all_endings n) (replicate 24 0) (nonzero (all_long h)));
      }

  pub all_answered : {numbers : List ℕ} → n ≤ 12 → numbers ≡ all_endings n → EndsAll n 0 numbers
  all_answered h v =
      record {
        answer_is = sym (all_passed_35 h);
        numbers_are = v ∙ sym (granted_zero (all_endings n) (replicate 24 0) (all_passed_35 h));
      }
