-- Stored forms that are too long. Over 5,006 bytes a stored form is refused: by 28, or by 10 if the number of letters
-- that it states is too large. Its first two bytes decide which. So 5,007 bytes are enough to read of a stored form of
-- any length.
use Prim.Native.Nat.{ℕ, ◌≤◌, ◌<◌}
use native.Mathlib.Decide.{dec_le}
use native.Mathlib.Omega.{arith}
use mathlib.Core.Path.{◌≡◌, refl, sym, ap, ◌∙◌}
use mathlib.Core.Bool.{Bool, true, false, cond}
use mathlib.Core.List.{List, ◌∷◌}
use borrow.Author.Tests.{le-leb, lt-leb, eqb-true, ne_eqb}
use lib.Dec.{leb}
use lib.ListN.{length, take, drop}
use Rattle.base.specs.Questions.{Question, ◌else◌, first_no}
use Rattle.base.specs.Digits.{value}
use Rattle.base.proofs.QuestionLaws.{passes, fails}
use Rattle.text.specs.Enough.{Enough}
use Rattle.text.proofs.EnoughLaws.{Whole, enough_long, whole_long}
use Rattle.word.specs.Words.{max_letters}
use Rattle.word_stored.specs.Stored.{letters_stated, sign_bytes, generator_bytes, stored_questions, stored_answer}

-- the refusal of a stored form that is too long, by its first bytes
abbrev too_long : List ℕ → ℕ
too_long front = cond (leb (value 256 front) max_letters) 28 10

-- three questions with one number, of which one at least is answered no
one_refuses : (a b c : Bool) (qs : List Question) → (a ≡ true → b ≡ true → c ≡ false)
    → first_no ((a else 28) ∷ (b else 28) ∷ (c else 28) ∷ qs) ≡ 28
unfolding first_no
one_refuses true true c qs h = ap (λ (t : Bool). cond t (first_no qs) 28) (h refl refl)
one_refuses true false c qs h = refl
one_refuses false b c qs h = refl

long_stored : (file : List ℕ) → 5006 < length file → stored_answer file ≡ too_long (take 2 file)
unfolding stored_answer
long_stored file h = passes 28 _ (le-leb 6 (length file) (omega arith)) ∙ go (dec_le (letters_stated file) max_letters)
  where
    go : Dec (letters_stated file ≤ max_letters) → first_no (drop 1 (stored_questions file)) ≡ too_long (take 2 file)
    go (yes s) =
        let t = le-leb (letters_stated file) max_letters s in
        passes 10 _ t
        ∙ one_refuses _ _ _ _
        (λ p q. ne_eqb (length file) _
        (λ e. let x = eqb-true (sign_bytes file) _ p in
        let y = eqb-true (generator_bytes file) _ q in
        omega arith))
        ∙ sym (ap (λ (b : Bool). cond b 28 10) t)
    go (no s) =
        let t = lt-leb (letters_stated file) max_letters (omega arith) in
        fails 10 _ t ∙ sym (ap (λ (b : Bool). cond b 28 10) t)

long_refused : (file : List ℕ) → 5006 < length file → stored_answer file ≡ 0 → ⊥
long_refused file h e = go (leb (letters_stated file) max_letters) (sym (long_stored file h) ∙ e)
  where
    go : (b : Bool) → ◌≡◌ {A = ℕ} (cond b 28 10) 0 → ⊥
    go true z = omega arith
    go false z = omega arith

-- 5,007 bytes or more are enough
pub enough_of_stored : (n : ℕ) → 5006 < n → Enough n stored_answer
enough_of_stored n h = enough_long stored_answer too_long 2 5006 n (omega arith) h long_stored

-- a stored form whose first 5,007 bytes are accepted ends there
pub whole_stored : (n : ℕ) → 5006 < n → Whole n stored_answer
whole_stored n h = whole_long stored_answer 5006 n h long_refused
