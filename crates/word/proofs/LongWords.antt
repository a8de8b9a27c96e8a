-- Words that are too long. Over 5,002 bytes a word is refused: by 11, or by 10 if the number of letters that it states
-- is too large. Its first two bytes decide which. So 5,003 bytes are enough to read of a word of any length.
use Prim.Native.Nat.{ℕ, ◌≤◌, ◌<◌}
use native.Mathlib.Decide.{dec_le}
use native.Mathlib.Omega.{arith}
use mathlib.Core.Path.{◌≡◌, sym, ap, ◌∙◌}
use mathlib.Core.Bool.{Bool, true, false, cond}
use mathlib.Core.List.{List}
use borrow.Author.Tests.{le-leb, lt-leb, ne_eqb}
use lib.Dec.{leb}
use lib.ListN.{length, take, drop}
use Rattle.base.specs.Questions.{first_no}
use Rattle.base.specs.Digits.{value}
use Rattle.base.proofs.QuestionLaws.{passes, fails}
use Rattle.text.specs.Enough.{Enough}
use Rattle.text.proofs.EnoughLaws.{Whole, enough_long, whole_long}
use Rattle.word.specs.Words.{stated, max_letters, word_questions, word_answer}

-- the refusal of a word that is too long, by its first bytes
abbrev too_long : List ℕ → ℕ
too_long front = cond (leb (value 256 front) max_letters) 11 10

long_word_lem : (word : List ℕ) → 5002 < length word → word_answer word ≡ too_long (take 2 word)
unfolding word_answer
long_word_lem word h = passes 9 _ (le-leb 2 (length word) (omega arith)) ∙ go (dec_le (stated word) max_letters)
  where
    go : Dec (stated word ≤ max_letters) → first_no (drop 1 (word_questions word)) ≡ too_long (take 2 word)
    go (yes s) =
        let t = le-leb (stated word) max_letters s in
        passes 10 _ t ∙ fails 11 _ (ne_eqb (length word) _ (λ e. omega arith)) ∙ sym (ap (λ (b : Bool). cond b 11 10) t)
    go (no s) =
        let t = lt-leb (stated word) max_letters (omega arith) in
        fails 10 _ t ∙ sym (ap (λ (b : Bool). cond b 11 10) t)

long_refused : (word : List ℕ) → 5002 < length word → word_answer word ≡ 0 → ⊥
long_refused word h e = go (leb (stated word) max_letters) (sym (long_word_lem word h) ∙ e)
  where
    go : (b : Bool) → ◌≡◌ {A = ℕ} (cond b 11 10) 0 → ⊥
    go true z = omega arith
    go false z = omega arith

-- 5,003 bytes or more are enough
pub enough_of_word : (n : ℕ) → 5002 < n → Enough n word_answer
enough_of_word n h = enough_long word_answer too_long 2 5002 n (omega arith) h long_word_lem

-- a word whose first 5,003 bytes are accepted ends there
pub whole_word : (n : ℕ) → 5002 < n → Whole n word_answer
whole_word n h = whole_long word_answer 5002 n h long_refused
