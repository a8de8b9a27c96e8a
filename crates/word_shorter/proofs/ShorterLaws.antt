-- Laws of the shorter of two word files: which answer is given, which file is chosen, and what the number of the chosen
-- file says of its bytes.
use Prim.Native.Nat.{ℕ, zero, suc, ◌≤◌, ◌<◌}
use mathlib.Core.Path.{◌≡◌, refl, sym, ap, ◌∙◌}
use mathlib.Core.Bool.{Bool, true, false, cond}
use mathlib.Core.List.{List, []}
use native.Mathlib.Omega.{arith}
use borrow.Author.Tests.{le-leb, lt-leb}
use lib.Dec.{leb}
use lib.ListN.{length}
use Rattle.base.specs.Questions.{granted}
use Rattle.base.proofs.QuestionLaws.{all_passed, refused_there, granted_zero, granted_refused}
use Rattle.word.specs.Words.{word_questions, word_answer}
use Rattle.word_shorter.specs.Shorter.{shorter_answer, of_shorter, Chose, shorter}

module _ (a b : List ℕ) where
  -- a refused first file has its number, whatever the second file is
  pub first_refused : (word_answer a ≡ 0 → ⊥) → shorter_answer a b ≡ word_answer a
  unfolding shorter_answer word_answer
  first_refused h = refused_there (word_questions a) (word_questions b) tt h

  -- after an accepted first file the answer is that of the second
  pub first_accepted : word_answer a ≡ 0 → shorter_answer a b ≡ word_answer b
  unfolding shorter_answer word_answer
  first_accepted e = all_passed (word_questions a) (word_questions b) tt e

  pub refused : {n : ℕ} → shorter_answer a b ≡ n → (n ≡ 0 → ⊥) → Chose a b n 0
  refused e h =
      record {
        answer_is = sym e;
        which_is = sym (granted_refused (of_shorter a b 1 2) 0 (λ z. h (sym e ∙ z)));
      }

  -- on answer 0: the first file if it is not longer, otherwise the second
  module _ (e : shorter_answer a b ≡ 0) where
    chosen : {n : ℕ} {t : Bool} → leb (length a) (length b) ≡ t → n ≡ cond t 1 2 → Chose a b 0 n
    chosen h p =
        record {
          answer_is = sym e;
          which_is = p ∙ ap (λ (t : Bool). cond t 1 2) (sym h) ∙ sym (granted_zero (of_shorter a b 1 2) 0 e);
        }

    pub first_chosen : length a ≤ length b → Chose a b 0 1
    first_chosen h = chosen (le-leb (length a) (length b) h) refl

    pub second_chosen : length b < length a → Chose a b 0 2
    second_chosen h = chosen (lt-leb (length a) (length b) h) refl

  -- the number that a choice gives says whether the answer is 0, and which file is the shorter
  abbrev Tells : ℕ → ℕ → Bool → Type 0
  Tells which answer t = (which ≡ 1 → (answer ≡ 0) × (t ≡ true)) × (which ≡ 2 → (answer ≡ 0) × (t ≡ false))

  tells : (n : ℕ) (t : Bool) → Tells (granted n (cond t 1 2) 0) n t
  unfolding granted
  tells zero true = (λ e. (refl, refl), λ e. absurd (omega arith))
  tells zero false = (λ e. absurd (omega arith), λ e. (refl, refl))
  tells (suc n) t = (λ e. absurd (omega arith), λ e. absurd (omega arith))

  module _ {answer which : ℕ} (c : Chose a b answer which) where
    told : Tells (granted (shorter_answer a b) (of_shorter a b 1 2) 0) (shorter_answer a b) (leb (length a) (length b))
    told = tells (shorter_answer a b) (leb (length a) (length b))

    pub first_is : which ≡ 1 → (shorter_answer a b ≡ 0) × (leb (length a) (length b) ≡ true)
    first_is e = told.0 (sym c.which_is ∙ e)

    pub second_is : which ≡ 2 → (shorter_answer a b ≡ 0) × (leb (length a) (length b) ≡ false)
    second_is e = told.1 (sym c.which_is ∙ e)

    -- a number that is neither 1 nor 2 is a refusal
    pub none_is : (which ≡ 1 → ⊥) → (which ≡ 2 → ⊥) → shorter_answer a b ≡ 0 → ⊥
    none_is f g e = go (leb (length a) (length b)) (c.which_is ∙ granted_zero (of_shorter a b 1 2) 0 e)
      where
        go : (t : Bool) → which ≡ cond t 1 2 → ⊥
        go true h = f h
        go false h = g h

  -- the bytes that are given
  pub given : {t : Bool} → shorter_answer a b ≡ 0 → leb (length a) (length b) ≡ t → cond t a b ≡ shorter a b
  unfolding shorter
  given e h = ap (λ (s : Bool). cond s a b) (sym h) ∙ sym (granted_zero (of_shorter a b a b) [] e)

  pub none_given : (shorter_answer a b ≡ 0 → ⊥) → [] ≡ shorter a b
  unfolding shorter
  none_given h = sym (granted_refused (of_shorter a b a b) [] h)
