-- Laws of the verbs that turn a word into the other dialect: the parts that a text writes, one by one, and that 5,003
-- bytes of a word are enough to read.
use Prim.Native.Nat.{ℕ, zero, suc, ◌+◌, ◌*◌, ◌/◌, ◌≤◌, ◌<◌}
use native.Mathlib.Omega.{arith}
use mathlib.Core.Path.{◌≡◌, refl, sym, ap, ap₂, ◌∙◌}
use mathlib.Core.Bool.{Bool, true, false, cond}
use mathlib.Core.List.{List, [], ◌∷◌, ◌++◌}
use borrow.Author.Tests.{eq-eqb, ne_eqb, le-leb, lt-leb}
use lib.Dec.{leb, eqb}
use lib.ListN.{length, take, get_or, get_or-eq_default}
use lib.Seq.{length-take-le, get_or-take}
use Rattle.base.specs.Questions.{first_no, granted}
use Rattle.base.specs.Lists.{values}
use Rattle.base.proofs.ListLaws.{values_of}
use Rattle.base.proofs.QuestionLaws.{in_a_row, both_passed}
use Rattle.text.specs.Enough.{Enough}
use Rattle.text.proofs.EnoughLaws.{Whole, enough_granted}
use Rattle.word.specs.Words.{codes, word_questions, word_answer}
use Rattle.word.proofs.LongWords.{enough_of_word, whole_word}
use Rattle.word_stored.specs.Stored.{max_stored}
use Rattle.word_dialect.proofs.ConvertLaws.{after_word, past_room}
use Rattle.desk_words.specs.Making.{to_write}
use Rattle.desk_dialect.specs.Converting.{digit_shown, part_at, parts_of}
use Rattle.desk_dialect.specs.Converting.{convert_answer, converted_file, EnoughToConvert}

-- ---- the parts that a text writes

-- inside a list the value past its end does not matter
get_d_inside : (l : List ℕ) (k a b : ℕ) → k < length l → get_or l k a ≡ get_or l k b
get_d_inside [] k a b h = absurd (omega arith)
get_d_inside (x ∷ l) zero a b h = refl
get_d_inside (x ∷ l) (suc k) a b h = get_d_inside l k a b (omega arith)

module _ (text : List ℕ) (k : ℕ) where
  -- the text ends before part k
  pub no_part : length text ≤ 2 * k → 0 ≡ part_at text k
  unfolding part_at
  no_part h =
      sym (ap₂ (λ (d c : ℕ). cond (eqb c 44) (digit_shown d) 0) (get_or-eq_default text 0 {n = 2 * k} h)
      (get_or-eq_default text 44 {n = 2 * k + 1} (omega arith)))

  -- the text ends with part k
  pub last_part : length text ≤ 2 * k + 1 → digit_shown (get_or text (2 * k) 0) ≡ part_at text k
  unfolding part_at
  last_part h =
      sym (ap (λ (c : ℕ). cond (eqb c 44) (digit_shown (get_or text (2 * k) 0)) 0)
      (get_or-eq_default text 44 {n = 2 * k + 1} h))

  module _ (h : 2 * k + 1 < length text) where
    -- a byte of the text, with 0 or with a comma past the end
    same_byte : get_or text (2 * k + 1) 44 ≡ get_or text (2 * k + 1) 0
    same_byte = get_d_inside text (2 * k + 1) 44 0 h

    pub comma_follows : get_or text (2 * k + 1) 0 ≡ 44 → digit_shown (get_or text (2 * k) 0) ≡ part_at text k
    unfolding part_at
    comma_follows e =
        sym (ap (λ (b : Bool). cond b (digit_shown (get_or text (2 * k) 0)) 0)
        (eq-eqb (get_or text (2 * k + 1) 44) 44 (same_byte ∙ e)))

    pub other_follows : (get_or text (2 * k + 1) 0 ≡ 44 → ⊥) → 0 ≡ part_at text k
    unfolding part_at
    other_follows e =
        sym (ap (λ (b : Bool). cond b (digit_shown (get_or text (2 * k) 0)) 0)
        (ne_eqb (get_or text (2 * k + 1) 44) 44 (λ z. e (sym same_byte ∙ z))))

-- a text of over 13 bytes writes no parts
pub too_long_text : (text : List ℕ) → 13 < length text → [] ≡ parts_of text
unfolding parts_of
too_long_text text h =
    sym (ap (λ (b : Bool). cond b (values (part_at text) (length text / 2 + 1)) []) (lt-leb (length text) 13 h))

-- all parts are written
pub all_written : (text parts : List ℕ) (n : ℕ) → n ≡ length text / 2 + 1 → length text ≤ 13 → n ≤ length parts
    → ((k : ℕ) → k < n → get_or parts k 0 ≡ part_at text k) → take n parts ≡ parts_of text
unfolding parts_of
all_written text parts n e h room all =
    values_of (part_at text) n (take n parts) (length-take-le n parts room)
    (λ k b. get_or-take n parts k 0 b ∙ all k b)
    ∙ ap (values (part_at text)) e
    ∙ sym (ap (λ (b : Bool). cond b (values (part_at text) (length text / 2 + 1)) []) (le-leb (length text) 13 h))

-- ---- how much is enough to read

module _ (way : Bool) (parts : List ℕ) where
  -- there is room, so the answer is that of the word's questions and of the questions after them
  there_is_room : (word : List ℕ) → convert_answer way parts word
      ≡ first_no (word_questions word ++ after_word way max_stored word parts)
  unfolding convert_answer
  there_is_room word = past_room way max_stored word parts (omega arith)

  in_turn : (word : List ℕ) → convert_answer way parts word
      ≡ granted (word_answer word) (first_no (after_word way max_stored word parts)) (word_answer word)
  unfolding word_answer
  in_turn word = there_is_room word ∙ in_a_row (word_questions word) (after_word way max_stored word parts) tt

  module _ (n : ℕ) (h : 5002 < n) where
    enough_answers : Enough n (convert_answer way parts)
    enough_answers word =
        let words = enough_of_word n h in
        in_turn (take n word)
        ∙ enough_granted word_answer (λ w. first_no (after_word way max_stored w parts)) word_answer n words
        (whole_word n h)
        words word
        ∙ sym (in_turn word)

    -- a word whose first bytes are accepted ends there
    whole_converted : Whole n (convert_answer way parts)
    unfolding word_answer
    whole_converted word e =
        let front = take n word in
        whole_word n h word
        (both_passed (word_questions front) (after_word way max_stored front parts) tt
        (sym (there_is_room front) ∙ e)).0

    pub enough_to_convert : EnoughToConvert way parts n
    unfolding to_write
    enough_to_convert = (
      enough_answers,
      enough_granted (convert_answer way parts) (converted_file way parts) (λ word. []) n enough_answers whole_converted
          (λ word. refl),
    )
