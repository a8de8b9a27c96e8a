-- The contract of the two conversions shuts out wrong programs, each by an input on which it differs: y_(k+1) without
-- its inverse, a run past the part's end, an inverse run that is not turned round, free reduction in the writer,
-- parts that sum to 8 or wrap at 256 or hold a zero, another order of the questions, and 34 at 10,000 letters.
use Prim.Native.Nat.{ℕ, zero, suc, ◌*◌, ◌≤◌, ◌<◌}
use mathlib.Core.Path.{◌≡◌, refl, sym, ap, ◌∙◌}
use mathlib.Core.Bool.{Bool, true, false}
use mathlib.Core.List.{List, [], ◌∷◌, ◌++◌}
use native.Mathlib.Nat.{suc-mul}
use native.Mathlib.Omega.{arith}
use borrow.Author.Tests.{le-leb, lt-leb}
use lib.ListN.{length, take, replicate, length-append, length-replicate}
use Rattle.base.specs.Questions.{first_no}
use Rattle.base.specs.Lists.{every, equal, values_from}
use Rattle.base.specs.Digits.{value, digits, halves}
use Rattle.base.proofs.QuestionLaws.{fails, passed_answers}
use Rattle.base.proofs.ListLaws.{true_false, equal_of}
use Rattle.word.specs.Letters.{is_letter}
use Rattle.word.specs.Words.{codes, filler, packed, word_file, word_questions, word_answer}
use Rattle.word.proofs.RoundTrip.{codes_word_file, word_file_accepted, wrote_file}
use Rattle.word_dialect.specs.Dialect.{part_sum, are_parts, following, inverted, each_by, to_y, from_y}
use Rattle.word_dialect.specs.Dialect.{run_of, signed_run, run, converted, long_question, WroteConverted}
use Rattle.word_dialect.proofs.EachLaws.{every_repeated}
use Rattle.word_dialect.proofs.ConvertLaws.{after_word, past_room, past_word, past_parts}

abbrev four_three : List ℕ
four_three = 4 ∷ 3 ∷ []

-- ---- what is written

-- a conversion leaves no other bytes than these
module _ (way : Bool) (word right : List ℕ) (same : word_file (converted way four_three (codes word)) ≡ right)
    {before after : List ℕ} {bytes : ℕ} (w : WroteConverted way word four_three before after 0 bytes) where
  others : (wrong : List ℕ) → equal wrong right ≡ false → take bytes after ≡ wrong → ⊥
  others wrong d e =
      true_false (equal wrong right) (equal_of (sym e ∙ (wrote_file w (sym w.answer_is) ∙ same))) d

module _ {before after : List ℕ} {bytes : ℕ} where
  -- b1 becomes y1 y2⁻¹, not y1 y2
  pub next_not_inverse : WroteConverted to_y (0 ∷ 1 ∷ 0 ∷ []) four_three before after 0 bytes
      → take bytes after ≡ 0 ∷ 2 ∷ 1 ∷ [] → ⊥
  unfolding equal codes halves value digits word_file packed following each_by run_of signed_run run converted
  next_not_inverse w = others to_y (0 ∷ 1 ∷ 0 ∷ []) (0 ∷ 2 ∷ 9 ∷ []) refl w _ refl

  -- y4 becomes b4, not b4 b5
  pub past_the_end : WroteConverted from_y (0 ∷ 1 ∷ 48 ∷ []) four_three before after 0 bytes
      → take bytes after ≡ 0 ∷ 2 ∷ 52 ∷ [] → ⊥
  unfolding equal codes halves value digits word_file packed following each_by run_of signed_run run converted
      values_from
  past_the_end w = others from_y (0 ∷ 1 ∷ 48 ∷ []) (0 ∷ 1 ∷ 48 ∷ []) refl w _ refl

  -- y3⁻¹ becomes b4⁻¹ b3⁻¹, not b3⁻¹ b4⁻¹
  pub not_turned_round : WroteConverted from_y (0 ∷ 1 ∷ 160 ∷ []) four_three before after 0 bytes
      → take bytes after ≡ 0 ∷ 2 ∷ 171 ∷ [] → ⊥
  unfolding equal codes halves value digits word_file packed following inverted each_by run_of signed_run run
      converted values_from
  not_turned_round w = others from_y (0 ∷ 1 ∷ 160 ∷ []) (0 ∷ 2 ∷ 186 ∷ []) refl w _ refl

  -- b1 b2 becomes y1 y2⁻¹ y2 y3⁻¹, not y1 y3⁻¹
  pub reduced_in_the_writer : WroteConverted to_y (0 ∷ 2 ∷ 1 ∷ []) four_three before after 0 bytes
      → take bytes after ≡ 0 ∷ 2 ∷ 10 ∷ [] → ⊥
  unfolding equal codes halves value digits word_file packed following each_by run_of signed_run run converted
  reduced_in_the_writer w = others to_y (0 ∷ 2 ∷ 1 ∷ []) (0 ∷ 4 ∷ 9 ∷ 26 ∷ []) refl w _ refl

-- ---- the parts

-- an accepted word of no letters
empty_accepted : word_answer (0 ∷ 0 ∷ []) ≡ 0
unfolding word_answer first_no codes filler halves value every
empty_accepted = refl

-- with room, the parts decide
module _ (way : Bool) {before after : List ℕ} {answer bytes : ℕ} (room : 5002 ≤ length before) where
  pub not_parts : (parts : List ℕ) → are_parts parts ≡ false
      → WroteConverted way (0 ∷ 0 ∷ []) parts before after answer bytes → answer ≡ 33
  not_parts parts e w =
      w.answer_is ∙ past_word way (length before) (0 ∷ 0 ∷ []) parts room empty_accepted
      ∙ fails 33 (long_question way (codes (0 ∷ 0 ∷ [])) parts) e

  pub sum_of_8 : WroteConverted way (0 ∷ 0 ∷ []) (4 ∷ 4 ∷ []) before after answer bytes → answer ≡ 33
  unfolding part_sum every
  sum_of_8 = not_parts (4 ∷ 4 ∷ []) refl

  -- 255 and 8 are 7 modulo 256
  pub sum_wraps : WroteConverted way (0 ∷ 0 ∷ []) (255 ∷ 8 ∷ []) before after answer bytes → answer ≡ 33
  unfolding part_sum every
  sum_wraps = not_parts (255 ∷ 8 ∷ []) refl

  pub zero_part : WroteConverted way (0 ∷ 0 ∷ []) (4 ∷ 0 ∷ 3 ∷ []) before after answer bytes → answer ≡ 33
  unfolding part_sum every
  zero_part = not_parts (4 ∷ 0 ∷ 3 ∷ []) refl

  pub no_parts : WroteConverted way (0 ∷ 0 ∷ []) [] before after answer bytes → answer ≡ 33
  unfolding part_sum every
  no_parts = not_parts [] refl

-- ---- the order: 15, the word, 33, 34

-- the room is asked before the word
pub room_first : (way : Bool) {before after : List ℕ} {answer bytes : ℕ} → length before < 5002
    → WroteConverted way [] [] before after answer bytes → answer ≡ 15
room_first way {before} few w =
    w.answer_is
    ∙ fails 15 (word_questions [] ++ after_word way (length before) [] []) (lt-leb 5002 (length before) few)

-- the word is asked before the parts
pub word_first : (way : Bool) {before after : List ℕ} {answer bytes : ℕ} → 5002 ≤ length before
    → WroteConverted way [] [] before after answer bytes → answer ≡ 9
unfolding first_no
word_first way {before} room w =
    w.answer_is ∙ past_room way (length before) [] [] room

-- ---- 34

-- a word of one letter, n times
repeated : (n c : ℕ) (f : ℕ → List ℕ) → length (each_by f (replicate n c)) ≡ n * length (f c)
unfolding each_by
repeated zero c f = omega arith
repeated (suc n) c f =
    let l = length-append (f c) (each_by f (replicate n c)) in
    let m = suc-mul n (length (f c)) in
    omega (arith, l, repeated n c f, m)

-- b1, n times, becomes 2 n letters if the first part is 4
b1_length : (parts : List ℕ) (n : ℕ) → length (converted to_y (4 ∷ parts) (replicate n 0)) ≡ n * 2
unfolding converted run signed_run run_of following
b1_length parts n = repeated n 0 (run to_y (4 ∷ parts))

module _ (n : ℕ) (h : n ≤ 10000) {before after : List ℕ} {answer bytes : ℕ} (room : 5002 ≤ length before)
    (w : WroteConverted to_y (word_file (replicate n 0)) four_three before after answer bytes) where
  abbrev word : List ℕ
  word = replicate n 0

  few : length word ≤ 10000
  few = omega (arith, length-replicate {A = ℕ} n 0)

  letters : every is_letter word ≡ true
  letters = every_repeated is_letter n 0 refl

  answers : answer ≡ first_no (long_question to_y word four_three)
  unfolding part_sum every
  answers =
      w.answer_is
      ∙ past_parts to_y (length before) (word_file word) four_three room (word_file_accepted word few letters) refl
      ∙ ap (λ (l : List ℕ). first_no (long_question to_y l four_three)) (codes_word_file word few letters)

-- 10,000 letters are not refused, 10,002 are
pub ten_thousand : {before after : List ℕ} {answer bytes : ℕ} → 5002 ≤ length before
    → WroteConverted to_y (word_file (replicate 5000 0)) four_three before after answer bytes → answer ≡ 0
ten_thousand room w =
    let five : List ℕ = replicate 5000 0 in
    answers 5000 (omega arith) room w
    ∙ passed_answers (long_question to_y five four_three)
    (le-leb (length (converted to_y four_three five)) 10000 (omega (arith, b1_length (3 ∷ []) 5000)), tt)

pub over_ten_thousand : {before after : List ℕ} {answer bytes : ℕ} → 5002 ≤ length before
    → WroteConverted to_y (word_file (replicate 5001 0)) four_three before after answer bytes → answer ≡ 34
over_ten_thousand room w =
    let more : List ℕ = replicate 5001 0 in
    answers 5001 (omega arith) room w
    ∙ fails 34 [] (lt-leb (length (converted to_y four_three more)) 10000 (omega (arith, b1_length (3 ∷ []) 5001)))

-- the parts are asked before the length: parts 4 and 4 sum to 8, and b1, 5,001 times, becomes 10,002 letters
four_four : are_parts (4 ∷ 4 ∷ []) ≡ false
unfolding part_sum every
four_four = refl

pub parts_first : {before after : List ℕ} {answer bytes : ℕ} → 5002 ≤ length before
    → WroteConverted to_y (word_file (replicate 5001 0)) (4 ∷ 4 ∷ []) before after answer bytes
    → (10000 < length (converted to_y (4 ∷ 4 ∷ []) (replicate 5001 0))) × (answer ≡ 33)
parts_first {before} room w =
    let word : List ℕ = replicate 5001 0 in
    let few : length word ≤ 10000 = omega (arith, length-replicate {A = ℕ} 5001 0) in (
      omega (arith, b1_length (4 ∷ []) 5001),
      w.answer_is
          ∙ past_word to_y (length before) (word_file word) (4 ∷ 4 ∷ []) room
          (word_file_accepted word few (every_repeated is_letter 5001 0 refl))
          ∙ fails 33 (long_question to_y (codes (word_file word)) (4 ∷ 4 ∷ [])) four_four,
    )
