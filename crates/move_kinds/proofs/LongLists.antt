-- Move lists that are too long. Over 12,290 bytes a list is refused: by 20, or by 19 if it states too many moves. Its
-- first two bytes decide which. So 12,291 bytes are enough to read of a list of any length. The rewriter gives these
-- bytes, and 5,003 bytes of a word, the answer that it gives the whole files.
use Prim.Native.Nat.{ℕ, ◌≤◌, ◌<◌}
use native.Mathlib.Decide.{dec_le}
use native.Mathlib.Omega.{arith}
use mathlib.Core.Path.{◌≡◌, sym, ap, ◌∙◌}
use mathlib.Core.Bool.{Bool, true, false, cond}
use mathlib.Core.List.{List}
use borrow.Author.Tests.{le-leb, lt-leb, ne_eqb}
use lib.Dec.{leb}
use lib.ListN.{length, take, drop}
use Rattle.base.specs.Questions.{first_no, granted}
use Rattle.base.specs.Digits.{value}
use Rattle.base.proofs.QuestionLaws.{passes, fails, in_a_row}
use Rattle.text.specs.Enough.{Enough, EnoughOfTwo}
use Rattle.text.proofs.EnoughLaws.{Whole, enough_long, whole_long, enough_granted, enough_of_two}
use Rattle.word.specs.Words.{codes, word_answer, word_questions}
use Rattle.word.proofs.LongWords.{enough_of_word, whole_word}
use Rattle.move_kinds.specs.Rewriting.{steps, move_count, move_questions, list_questions, rewriter_questions}
use Rattle.move_kinds.proofs.RewriterAnswer.{after_word, past_room, accepted}

-- ---- the list

abbrev list_answer : List ℕ → ℕ
list_answer moves = first_no (list_questions moves)

-- the refusal of a list that is too long, by its first bytes
abbrev too_long : List ℕ → ℕ
too_long front = cond (leb (value 256 front) 4096) 20 19

long_list : (moves : List ℕ) → 12290 < length moves → list_answer moves ≡ too_long (take 2 moves)
long_list moves h = passes 18 _ (le-leb 2 (length moves) (omega arith)) ∙ go (dec_le (move_count moves) 4096)
  where
    go : Dec (move_count moves ≤ 4096) → first_no (drop 1 (list_questions moves)) ≡ too_long (take 2 moves)
    go (yes s) =
        let t = le-leb (move_count moves) 4096 s in
        passes 19 _ t ∙ fails 20 _ (ne_eqb (length moves) _ (λ e. omega arith))
        ∙ sym (ap (λ (b : Bool). cond b 20 19) t)
    go (no s) =
        let t = lt-leb (move_count moves) 4096 (omega arith) in
        fails 19 _ t ∙ sym (ap (λ (b : Bool). cond b 20 19) t)

long_refused : (moves : List ℕ) → 12290 < length moves → list_answer moves ≡ 0 → ⊥
long_refused moves h e = go (leb (move_count moves) 4096) (sym (long_list moves h) ∙ e)
  where
    go : (b : Bool) → ◌≡◌ {A = ℕ} (cond b 20 19) 0 → ⊥
    go true z = omega arith
    go false z = omega arith

enough_of_list : (n : ℕ) → 12290 < n → Enough n list_answer
enough_of_list n h = enough_long list_answer too_long 2 12290 n (omega arith) h long_list

whole_list : (n : ℕ) → 12290 < n → Whole n list_answer
whole_list n h = whole_long list_answer 12290 n h long_refused

-- ---- the rewriter

module _ (room : ℕ) (h : 5002 ≤ room) where
  abbrev answer : List ℕ → List ℕ → ℕ
  answer word moves = first_no (rewriter_questions room word moves)

  -- what is asked after the word's questions
  abbrev rest : List ℕ → List ℕ → ℕ
  rest word moves = granted (list_answer moves) (first_no (move_questions (steps moves) (codes word)))
      (list_answer moves)

  in_turn : (word moves : List ℕ) → answer word moves ≡ granted (word_answer word) (rest word moves) (word_answer word)
  unfolding word_answer
  in_turn word moves =
      past_room room word moves h
      ∙ in_a_row (word_questions word) (after_word word moves) tt
      ∙ ap (λ (n : ℕ). granted (word_answer word) n (word_answer word))
      (in_a_row (list_questions moves) (move_questions (steps moves) (codes word)) tt)

  module _ (w m : ℕ) (hw : 5002 < w) (hm : 12290 < m) where
    pub enough_of_both : EnoughOfTwo w m answer
    enough_of_both word moves =
        in_turn (take w word) (take m moves)
        ∙ enough_of_two (λ v l. granted (word_answer v) (rest v l) (word_answer v)) w m
        (λ l. enough_granted word_answer (λ v. rest v l) word_answer w (enough_of_word w hw) (whole_word w hw)
        (enough_of_word w hw))
        (λ v l. ap (λ (n : ℕ). granted (word_answer v) n (word_answer v))
        (enough_granted list_answer (λ l. first_no (move_questions (steps l) (codes v))) list_answer m
        (enough_of_list m hm)
        (whole_list m hm) (enough_of_list m hm) l))
        word moves
        ∙ sym (in_turn word moves)

    -- if the answer to the first bytes is 0, they are the whole files
    pub whole_both : (word moves : List ℕ) → answer (take w word) (take m moves) ≡ 0
        → (take w word ≡ word) × (take m moves ≡ moves)
    whole_both word moves z =
        let a = accepted room (take w word) (take m moves) z in
        (whole_word w hw word a.word_accepted, whole_list m hm moves a.list_accepted)
