-- Laws of the code of pair replacement: the word with the replaced pair is made of letters and is as long as its parts,
-- how the parts are written one after another, 34, and the questions in order.
use Prim.Native.Nat.{ℕ, suc, ◌+◌, ◌-◌, ◌≤◌, ◌<◌}
use mathlib.Core.Path.{◌≡◌, refl, sym, ap, ap₂, ◌∙◌}
use mathlib.Core.Bool.{Bool, true}
use mathlib.Core.List.{List, [], ◌∷◌, ◌++◌, append_assoc}
use native.Mathlib.Omega.{arith}
use borrow.Author.Tests.{le-leb, lt-leb, leb-true}
use lib.Dec.{leb}
use lib.ListN.{length, take, drop, get_or, set, length-append, length-drop, length-set}
use lib.Seq.{length-take-le, take-append-add, take-append-le, take_at, take_all, take-suc-set}
use Rattle.base.specs.Questions.{Question, ◌else◌, first_no}
use Rattle.base.specs.Lists.{every, overlaid}
use Rattle.base.proofs.QuestionLaws.{passes, fails, all_passed, both_passed, passed_answers, answers_passed}
use Rattle.base.proofs.ListLaws.{every_get_d, every_take, every_drop, every_append, and_both}
use Rattle.base.proofs.ListLaws.{overlaid_all, overlaid_whole}
use Rattle.word.specs.Letters.{is_letter}
use Rattle.word.specs.Words.{max_letters, codes, word_file, word_questions, word_answer}
use Rattle.word.specs.Words.{room_question, writer_questions, Wrote}
use Rattle.word.proofs.LetterLaws.{Lettered}
use Rattle.word.proofs.WriteLaws.{wrote_refused, wrote_same, writable}
use Rattle.braid_relations.specs.Relations.{relations, replacement}
use Rattle.braid_relations.proofs.AllKept.{all_relations}
use Rattle.braid_relations.proofs.ReplacementKeeps.{replacement_lettered}
use Rattle.word_replacement.specs.Replacement.{pair_replaced, grown_question, replacement_questions}
use Rattle.word_replacement.specs.steps.Rows.{Replaceable}

-- ---- rows of codes

-- two codes stored one after the other
pub two_stored : (codes : List ℕ) (at c d : ℕ) → at + 2 ≤ length codes
    → take (at + 2) (set (set codes at c) (at + 1) d) ≡ take at codes ++ (c ∷ d ∷ [])
two_stored codes at c d h =
    let l = length-set codes at c in
    let two : at + 2 ≡ suc (at + 1) = omega arith in
    let one : at + 1 ≡ suc at = omega arith in
    ap (λ (n : ℕ). take n (set (set codes at c) (at + 1) d)) two
    ∙ take-suc-set (set codes at c) (at + 1) d (omega arith)
    ∙ ap (λ (w : List ℕ). w ++ (d ∷ []))
    (ap (λ (n : ℕ). take n (set codes at c)) one ∙ take-suc-set codes at c (omega arith))
    ∙ append_assoc (take at codes) (c ∷ []) (d ∷ [])

-- a row that starts with all of a word starts with its first letters
pub first_letters : (row row₀ w : List ℕ) (n : ℕ) → length w ≤ length row₀ → n ≤ length w
    → row ≡ overlaid (take (length row₀) w) row₀ → take n row ≡ take n w
unfolding overlaid
first_letters row row₀ w n h k e =
    ap (take n) (e ∙ ap (λ (x : List ℕ). x ++ drop (length x) row₀) (take_all (length row₀) w h))
    ∙ take-append-le n w (drop (length w) row₀) k

-- the rest of a word is written from place `at` on
pub rest_written : (row w put : List ℕ) (at from n : ℕ) → n ≡ length w - from → at + n ≤ length row
    → put ≡ overlaid (take (length (take (at + n - at) (drop at row))) (take (length w - from) (drop from w)))
    (take (at + n - at) (drop at row))
    → take (at + n) (take at row ++ (put ++ drop (at + n - at) (drop at row))) ≡ take at row ++ drop from w
rest_written row w put at from n is room e =
    let count : at + n - at ≡ n = omega arith in
    let places = take n (drop at row) in
    let rest = drop from w in
    let size : length rest ≡ n = length-drop from w ∙ sym is in
    let l : length places ≡ n = length-take-le n (drop at row) (omega (arith, length-drop at row)) in
    let put_is : put ≡ rest =
    e ∙ ap (λ (x : List ℕ). overlaid (take (length (take (at + n - at) (drop at row))) x)
    (take (at + n - at) (drop at row)))
    (take_all (length w - from) rest (omega arith))
    ∙ ap (λ (m : ℕ). overlaid (take (length (take m (drop at row))) rest) (take m (drop at row))) count
    ∙ overlaid_all rest places (size ∙ sym l) ∙ overlaid_whole rest places (size ∙ sym l) in
    let front = length-take-le at row (omega arith) in
    let tail = drop (at + n - at) (drop at row) in
    ap (λ (m : ℕ). take (m + n) (take at row ++ (put ++ tail))) (sym front)
    ∙ take-append-add (take at row) (put ++ tail) n
    ∙ ap (λ (x : List ℕ). take at row ++ x)
    (ap (λ (x : List ℕ). take n (x ++ tail)) put_is ∙ take_at rest tail n size)

-- a part of a row is exchanged for one as long
pub put_length : (row put : List ℕ) (at n : ℕ) → at + n ≤ length row → length put ≡ length (take n (drop at row))
    → length (take at row ++ (put ++ drop n (drop at row))) ≡ length row
put_length row put at n room e =
    let a = length-append (take at row) (put ++ drop n (drop at row)) in
    let p = length-append put (drop n (drop at row)) in
    let f = length-take-le at row (omega arith) in
    let t = length-drop at row in
    let m = length-take-le n (drop at row) (omega arith) in
    let r = length-drop n (drop at row) in
    omega (arith, a, p, f, t, m, r)

-- ---- the writer of a word with a replaced pair

module _ (w : List ℕ) (place : ℕ) (lettered : Lettered w) (two : place + 2 ≤ length w) where
  abbrev c : ℕ
  c = get_or w place 0

  abbrev d : ℕ
  d = get_or w (place + 1) 0

  pub first_letter : is_letter c ≡ true
  first_letter = every_get_d is_letter w lettered place (omega arith)

  pub second_letter : is_letter d ≡ true
  second_letter = every_get_d is_letter w lettered (place + 1) (omega arith)

  pub replaced_lettered : Lettered (pair_replaced place w)
  unfolding pair_replaced
  replaced_lettered =
      let r = replacement relations c d in
      every_append is_letter (take place w) (r ++ drop (place + 2) w)
      ∙ and_both (every_take is_letter place w lettered)
      (every_append is_letter r (drop (place + 2) w)
      ∙ and_both (replacement_lettered c d first_letter second_letter relations all_relations)
      (every_drop is_letter (place + 2) w lettered))

  replaced_length : length (pair_replaced place w)
      ≡ place + length (replacement relations c d) + (length w - place - 2)
  unfolding pair_replaced
  replaced_length =
      let r = replacement relations c d in
      let a = length-append (take place w) (r ++ drop (place + 2) w) in
      let b = length-append r (drop (place + 2) w) in
      let f = length-take-le place w (omega arith) in
      let e = length-drop (place + 2) w in
      omega (arith, a, b, f, e)

module _ (w : List ℕ) (place : ℕ) (out : List ℕ) (g : Replaceable w place out) where
  abbrev pub size : ℕ → ℕ
  size at = at + (length w - place - 2)

  long_is : (at : ℕ) → at ≡ place + length (replacement relations (get_or w place 0) (get_or w (place + 1) 0))
      → length (pair_replaced place w) ≡ size at
  long_is at e =
      replaced_length w place g.lettered g.two ∙ ap (λ (n : ℕ). n + (length w - place - 2)) (sym e)

  -- 34: over 10,000 letters
  pub too_long : {answer bytes : ℕ} (at : ℕ)
      → at ≡ place + length (replacement relations (get_or w place 0) (get_or w (place + 1) 0)) → max_letters < size at
      → (answer ≡ 34) × (bytes ≡ 0)
      → Wrote (grown_question w place) (word_file (pair_replaced place w)) out out answer bytes
  too_long at e l r =
      wrote_refused _ _ out 34 r
      (fails 34 [] (lt-leb (length (pair_replaced place w)) max_letters (rw (long_is at e) l))) (omega arith)

  -- the writer of words writes the word
  pub written : {after : List ℕ} {answer bytes : ℕ} (row : List ℕ) (at : ℕ)
      → at ≡ place + length (replacement relations (get_or w place 0) (get_or w (place + 1) 0)) → size at ≤ max_letters
      → take (size at) row ≡ pair_replaced place w
      → Wrote (writer_questions (length out) (take (size at) row)) (word_file (take (size at) row)) out after answer
      bytes
      → Wrote (grown_question w place) (word_file (pair_replaced place w)) out after answer bytes
  written row at e l same o =
      let short : length (pair_replaced place w) ≤ max_letters = rw (long_is at e) l in
      wrote_same
      (ap (λ (x : List ℕ). first_no (writer_questions (length out) x)) same
      ∙ writable (length out) (pair_replaced place w) g.room short (replaced_lettered w place g.lettered g.two)
      ∙ sym (passed_answers (grown_question w place) (le-leb (length (pair_replaced place w)) max_letters short, tt)))
      (ap word_file same) o

-- ---- the questions in order

module _ (room : ℕ) (word : List ℕ) (place : ℕ) where
  -- the questions after those of the word
  abbrev pub after_word : List Question
  after_word = (leb (place + 2) (length (codes word)) else 22) ∷ grown_question (codes word) place

  pub past_room : 5002 ≤ room
      → first_no (replacement_questions room word place) ≡ first_no (word_questions word ++ after_word)
  past_room h = passes 15 (word_questions word ++ after_word) (le-leb 5002 room h)

  past_word : 5002 ≤ room → word_answer word ≡ 0 → first_no (replacement_questions room word place)
      ≡ first_no after_word
  unfolding word_answer
  past_word h z = past_room h ∙ all_passed (word_questions word) after_word tt z

  pub past_place : 5002 ≤ room → word_answer word ≡ 0 → place + 2 ≤ length (codes word)
      → first_no (replacement_questions room word place) ≡ first_no (grown_question (codes word) place)
  past_place h z p =
      past_word h z ∙ passes 22 (grown_question (codes word) place) (le-leb (place + 2) (length (codes word)) p)

  -- 22: two letters do not stand at the place
  pub no_pair : 5002 ≤ room → word_answer word ≡ 0 → length (codes word) < place + 2
      → first_no (replacement_questions room word place) ≡ 22
  no_pair h z p =
      past_word h z ∙ fails 22 (grown_question (codes word) place) (lt-leb (place + 2) (length (codes word)) p)

  -- what answer 0 says
  pub accepted : first_no (replacement_questions room word place) ≡ 0
      → (word_answer word ≡ 0) × (place + 2 ≤ length (codes word))
      × (length (pair_replaced place (codes word)) ≤ max_letters)
  unfolding word_answer
  accepted e =
      let r = both_passed (room_question room ∷ []) (word_questions word ++ after_word) tt e in
      let w = both_passed (word_questions word) after_word tt r.1 in
      let p = answers_passed after_word tt w.1 in (
        w.0,
        leb-true (place + 2) (length (codes word)) p.0,
        leb-true (length (pair_replaced place (codes word))) max_letters p.1.0,
      )
