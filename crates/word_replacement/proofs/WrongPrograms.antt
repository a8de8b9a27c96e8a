-- The contract of pair replacement shuts out wrong programs, each by an input on which it differs: what stands before
-- and after the pair exchanged or not inverted, the last row in place of the first, two rows exchanged, a letter of a
-- row with the wrong sign or number, a pair that no row holds changed, 22 missed at the last letter, and another order
-- of the questions.
use Prim.Native.Nat.{ℕ, ◌≤◌, ◌<◌}
use mathlib.Core.Path.{◌≡◌, refl, sym, ap, ap₂, ◌∙◌}
use mathlib.Core.Bool.{false}
use mathlib.Core.List.{List, [], ◌∷◌, ◌++◌}
use native.Mathlib.Omega.{arith}
use borrow.Author.Tests.{lt-leb}
use lib.ListN.{length, take, drop, get_or, replicate, length-replicate, length-append, get_or-eq_default}
use lib.Seq.{length-take-le}
use Rattle.base.specs.Questions.{first_no}
use Rattle.base.specs.Lists.{every, equal, first_from}
use Rattle.base.specs.Digits.{value, digits, halves}
use Rattle.base.proofs.QuestionLaws.{fails}
use Rattle.base.proofs.ListLaws.{true_false, equal_of}
use Rattle.word.specs.Letters.{is_letter}
use Rattle.word.specs.Words.{codes, filler, packed, word_file, word_questions, word_answer}
use Rattle.word.proofs.RoundTrip.{codes_word_file, word_file_accepted, wrote_file}
use Rattle.word_dialect.specs.Dialect.{inverted}
use Rattle.word_dialect.proofs.EachLaws.{every_repeated}
use Rattle.braid_relations.specs.Relations.{relations, place_in, replacement}
use Rattle.word_replacement.specs.Replacement.{pair_replaced, ReplacedPair}
use Rattle.word_replacement.proofs.ReplaceLaws.{after_word, past_room, no_pair}

-- the operation leaves no other bytes than these
module _ (word right : List ℕ) (same : word_file (pair_replaced 0 (codes word)) ≡ right)
    {before after : List ℕ} {bytes : ℕ} (w : ReplacedPair word 0 before after 0 bytes) where
  leaves : take bytes after ≡ right
  leaves = wrote_file w.wrote (sym w.wrote.answer_is) ∙ same

  others : (wrong : List ℕ) → equal wrong right ≡ false → take bytes after ≡ wrong → ⊥
  others wrong d e = true_false (equal wrong right) (equal_of (sym e ∙ leaves)) d

-- y7 y4⁻¹ stands in the first row between y4 and y7⁻¹, so it becomes y4⁻¹ y7
middle : word_file (pair_replaced 0 (codes (0 ∷ 2 ∷ 107 ∷ []))) ≡ 0 ∷ 2 ∷ 182 ∷ []
unfolding codes halves value digits word_file packed inverted first_from relations place_in replacement pair_replaced
middle = refl

-- y1 y2⁻¹ stands in row 26 and last in row 74
rows : word_file (pair_replaced 0 (codes (0 ∷ 2 ∷ 9 ∷ []))) ≡ 0 ∷ 4 ∷ 48 ∷ 155 ∷ []
unfolding codes halves value digits word_file packed inverted first_from relations place_in replacement pair_replaced
rows = refl

-- y4 y7 stands first in the first row, before y4⁻¹ y7⁻¹, so it becomes y7 y4
first_row : word_file (pair_replaced 0 (codes (0 ∷ 2 ∷ 54 ∷ []))) ≡ 0 ∷ 2 ∷ 99 ∷ []
unfolding codes halves value digits word_file packed inverted first_from relations place_in replacement pair_replaced
first_row = refl

module _ {before after : List ℕ} {bytes : ℕ} where
  -- y7 y4⁻¹
  pub exchanged : ReplacedPair (0 ∷ 2 ∷ 107 ∷ []) 0 before after 0 bytes → take bytes after ≡ 0 ∷ 2 ∷ 107 ∷ [] → ⊥
  unfolding equal
  exchanged w = others (0 ∷ 2 ∷ 107 ∷ []) (0 ∷ 2 ∷ 182 ∷ []) middle w _ refl

  -- y4 y7⁻¹
  pub not_inverted : ReplacedPair (0 ∷ 2 ∷ 107 ∷ []) 0 before after 0 bytes → take bytes after ≡ 0 ∷ 2 ∷ 62 ∷ [] → ⊥
  unfolding equal
  not_inverted w = others (0 ∷ 2 ∷ 107 ∷ []) (0 ∷ 2 ∷ 182 ∷ []) middle w _ refl

  pub last_row : ReplacedPair (0 ∷ 2 ∷ 9 ∷ []) 0 before after 0 bytes
      → take bytes after ≡ 0 ∷ 6 ∷ 109 ∷ 9 ∷ 94 ∷ [] → ⊥
  unfolding equal
  last_row w = others (0 ∷ 2 ∷ 9 ∷ []) (0 ∷ 4 ∷ 48 ∷ 155 ∷ []) rows w _ refl

  -- y1 y2⁻¹ stands in row 29 too. With rows 26 and 29 exchanged it becomes y7 y1 y2⁻¹ y7⁻¹
  pub rows_exchanged : ReplacedPair (0 ∷ 2 ∷ 9 ∷ []) 0 before after 0 bytes
      → take bytes after ≡ 0 ∷ 4 ∷ 96 ∷ 158 ∷ [] → ⊥
  unfolding equal
  rows_exchanged w = others (0 ∷ 2 ∷ 9 ∷ []) (0 ∷ 4 ∷ 48 ∷ 155 ∷ []) rows w _ refl

  -- y7⁻¹ y4, by the first row with y7 as its last letter
  pub sign_wrong : ReplacedPair (0 ∷ 2 ∷ 54 ∷ []) 0 before after 0 bytes → take bytes after ≡ 0 ∷ 2 ∷ 227 ∷ [] → ⊥
  unfolding equal
  sign_wrong w = others (0 ∷ 2 ∷ 54 ∷ []) (0 ∷ 2 ∷ 99 ∷ []) first_row w _ refl

  -- y6 y4, by the first row with y6⁻¹ as its last letter
  pub number_wrong : ReplacedPair (0 ∷ 2 ∷ 54 ∷ []) 0 before after 0 bytes → take bytes after ≡ 0 ∷ 2 ∷ 83 ∷ [] → ⊥
  unfolding equal
  number_wrong w = others (0 ∷ 2 ∷ 54 ∷ []) (0 ∷ 2 ∷ 99 ∷ []) first_row w _ refl

  -- no row holds y1 y2, so the word is left
  pub word_left : ReplacedPair (0 ∷ 2 ∷ 1 ∷ []) 0 before after 0 bytes → take bytes after ≡ 0 ∷ 2 ∷ 1 ∷ []
  unfolding codes halves value digits word_file packed inverted first_from relations place_in replacement pair_replaced
  word_left w = leaves (0 ∷ 2 ∷ 1 ∷ []) (0 ∷ 2 ∷ 1 ∷ []) refl w

-- y1 y2 is an accepted word
two_letters : word_answer (0 ∷ 2 ∷ 1 ∷ []) ≡ 0
unfolding word_answer first_no codes filler halves value every
two_letters = refl

-- a word of two letters, and the place of the last one: 22
pub last_letter : {before after : List ℕ} {answer bytes : ℕ} → 5002 ≤ length before
    → ReplacedPair (0 ∷ 2 ∷ 1 ∷ []) 1 before after answer bytes → answer ≡ 22
unfolding codes halves value
last_letter {before} room w =
    w.wrote.answer_is ∙ no_pair (length before) (0 ∷ 2 ∷ 1 ∷ []) 1 room two_letters (omega arith)

-- ---- the order: 15, the word, 22, 34

-- the room is asked before the word
pub room_first : {before after : List ℕ} {answer bytes : ℕ} → length before < 5002
    → ReplacedPair [] 0 before after answer bytes → answer ≡ 15
room_first {before} few w =
    w.wrote.answer_is
    ∙ fails 15 (word_questions [] ++ after_word (length before) [] 0) (lt-leb 5002 (length before) few)

-- the word is asked before the place
pub word_first : {before after : List ℕ} {answer bytes : ℕ} → 5002 ≤ length before
    → ReplacedPair [] 0 before after answer bytes → answer ≡ 9
unfolding first_no
word_first {before} room w = w.wrote.answer_is ∙ past_room (length before) [] 0 room

-- the place is asked before the length: y1, 10,000 times, and the place after the last letter. Past the end of the word
-- a list reads as y1, and y1 y1 would become three letters.
three : length (replacement relations 0 0) ≡ 3
unfolding inverted first_from relations place_in replacement
three = refl

grown : (w : List ℕ) → length w ≡ 10000 → 10000 < length (pair_replaced 10000 w)
unfolding pair_replaced
grown w size =
    let c = get_or w 10000 0 in
    let d = get_or w 10001 0 in
    let r = replacement relations c d in
    let new : length r ≡ 3 =
    ap₂ (λ (c d : ℕ). length (replacement relations c d)) (get_or-eq_default w 0 (omega arith))
    (get_or-eq_default w 0 (omega arith))
    ∙ three in
    let a = length-append (take 10000 w) (r ++ drop 10002 w) in
    let b = length-append r (drop 10002 w) in
    let f = length-take-le 10000 w (omega arith) in
    omega (arith, a, b, f, new)

pub place_first : {before after : List ℕ} {answer bytes : ℕ} → 5002 ≤ length before
    → ReplacedPair (word_file (replicate 10000 0)) 10000 before after answer bytes
    → (10000 < length (pair_replaced 10000 (replicate 10000 0))) × (answer ≡ 22)
place_first {before} room w =
    let word : List ℕ = replicate 10000 0 in
    let size : length word ≡ 10000 = length-replicate {A = ℕ} 10000 0 in
    let few : length word ≤ 10000 = omega arith in
    let letters = every_repeated is_letter 10000 0 refl in (
      grown word size,
      w.wrote.answer_is
          ∙ no_pair (length before) (word_file word) 10000 room (word_file_accepted word few letters)
          (omega (arith, size, ap length (codes_word_file word few letters))),
    )
