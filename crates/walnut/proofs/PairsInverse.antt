-- Document 02 §5: every pair that an operation returns or changes has its two lists inverse to each other. Exception: a
-- refusal's zeros. `EveryPair` has a line for each operation, over the operation's contract. A lent pair has eight
-- labels, as memory holds it. A refused letter leaves a lent pair as it was.
use Prim.Native.Nat.{ℕ}
use mathlib.Core.Path.{◌≡◌, sym, subst, ◌∙◌}
use mathlib.Core.Bool.{true}
use mathlib.Core.List.{List}
use lib.ListN.{length}
use Rattle.base.specs.Questions.{first_no}
use Rattle.base.proofs.QuestionLaws.{answers_passed, both_passed, granted_zero, granted_refused}
use Rattle.field.specs.Binary.{Operations}
use Rattle.field.specs.Fields.{bits, operations}
use Rattle.field.specs.declared.Field.{Field}
use Rattle.word.specs.Strands.{is_order}
use Rattle.word.proofs.LetterLaws.{Lettered}
use Rattle.word.proofs.PositionLaws.{inverse_order, order_inverse}
use Rattle.pair.specs.declared.Pair.{Pair}
use Rattle.pair.specs.Action.{pair_of, letter_on, word_on, start}
use Rattle.pair.specs.InverseLists.{InverseLists}
use Rattle.pair.specs.PairQuestions.{zero_pair}
use Rattle.pair.proofs.ListsInverse.{Passes6, inverse_lists, made_6, start_6, letter_6, word_6}
use Rattle.pair_multiplier.specs.Multiplier.{multiplier_questions, Multiplies}
use Rattle.pair_multiplier.specs.Lent.{Lends}
use Rattle.key.specs.declared.Key.{Key}
use Rattle.key.specs.Keys.{key_field, key_labels, key_questions, key_answer, key_of, zero_key, ReadsKey}
use Rattle.key.proofs.KeyFacts as key_facts
use Rattle.slip_digest.specs.Digest.{digest_questions}
use Rattle.slip_verdict.specs.declared.Half.{Half}
use Rattle.slip_verdict.specs.Halves.{MakesHalf, first_half_questions, half_of, zero_half, half_questions}
use Rattle.slip_verdict.proofs.HalfLaws.{Sized, accepted}

pub record EveryPair : Type 0 where
  -- the starting pair
  pub starting : (r : Pair) → r ≡ start → InverseLists r
  -- the multiplier by value
  pub multiplied : (f : Field) (p : Pair) (ts : List ℕ) (c answer : ℕ) (after : Pair) → length p.labels ≡ 8
      → Multiplies f p ts c answer after → answer ≡ 0 → InverseLists after
  -- the lent multiplier: the pair that it took, and the pair that it leaves
  pub lent : (f : Field) (p : Pair) (ts : List ℕ) (c answer : ℕ) (after : Pair) → length p.labels ≡ 8
      → Lends f p ts c answer after → answer ≡ 0 → InverseLists p × InverseLists after
  pub lent_refused : (f : Field) (p : Pair) (ts : List ℕ) (c answer : ℕ) (after : Pair)
      → Lends f p ts c answer after → (answer ≡ 0 → ⊥) → after ≡ p
  -- the key reader
  pub read : (file : List ℕ) (answer : ℕ) (key : Key) → ReadsKey file answer key → answer ≡ 0
      → InverseLists key.pair
  -- the first half, and a half that the second half takes
  pub first_half : (key digest : List ℕ) (answer : ℕ) (half : Half) → MakesHalf key digest answer half → answer ≡ 0
      → InverseLists half.pair
  pub second_half : (half : Half) → Sized half → first_no (half_questions half) ≡ 0 → InverseLists half.pair
  -- a word multiplied in, by the contract of `carry_file` and `carry_letters`
  pub carried : (F : Operations) (ts w : List ℕ) (p after : Pair) → Lettered w → length p.labels ≡ 8
      → is_order p.labels ≡ true → after ≡ word_on F ts w (pair_of p.matrix p.labels) → InverseLists after

-- what the multiplier's questions say of a pair and a code that pass them
module _ (f : Field) (p : Pair) (ts : List ℕ) (c : ℕ) (size : length p.labels ≡ 8)
    (z : first_no (multiplier_questions f p ts c) ≡ 0) where
  taken : Passes6 p
  taken = record { strands = size; passed = (answers_passed (multiplier_questions f p ts c) tt z).1.1.0 }

  after_letter : InverseLists (letter_on (operations f) ts c p)
  after_letter =
      inverse_lists (letter_on (operations f) ts c p)
      (letter_6 (operations f) ts c p (answers_passed (multiplier_questions f p ts c) tt z).1.1.1.0 size
      (inverse_order p.labels p.positions size taken.passed))

-- the pair Pub(S) of an accepted key
key_lists : (file : List ℕ) → key_answer file ≡ 0 → InverseLists (key_of file).pair
unfolding key_of
key_lists file z =
    inverse_lists (key_of file).pair
    (record {
      strands = (key_facts.key_pair file).strands;
      passed = order_inverse (key_labels (bits (key_field file)) file) (key_facts.accepted file z).order_is;
    })

pub every_pair : EveryPair
unfolding key_answer
every_pair =
    record {
      starting = λ r e. subst InverseLists (sym e) (inverse_lists start start_6);
      multiplied = λ f p ts c answer after size m z.
          let zero : first_no (multiplier_questions f p ts c) ≡ 0 = sym m.answer_is ∙ z in
          subst InverseLists (sym (m.pair_is ∙ granted_zero (letter_on (operations f) ts c p) zero_pair zero))
          (after_letter f p ts c size zero);
      lent = λ f p ts c answer after size m z.
          let zero : first_no (multiplier_questions f p ts c) ≡ 0 = sym m.answer_is ∙ z in (
            inverse_lists p (taken f p ts c size zero),
            subst InverseLists (sym (m.pair_is ∙ granted_zero (letter_on (operations f) ts c p) p zero))
                (after_letter f p ts c size zero),
          );
      lent_refused = λ f p ts c answer after m n.
          m.pair_is ∙ granted_refused (letter_on (operations f) ts c p) p (λ z. n (m.answer_is ∙ z));
      read = λ file answer key m z.
          let zero : key_answer file ≡ 0 = sym m.answer_is ∙ z in
          subst (λ (k : Key). InverseLists k.pair) (sym (m.key_is ∙ granted_zero (key_of file) zero_key zero))
          (key_lists file zero);
      first_half = λ key digest answer half m z.
          let zero : first_no (first_half_questions key digest) ≡ 0 = sym m.answer_is ∙ z in
          subst (λ (h : Half). InverseLists h.pair)
          (sym (m.half_is ∙ granted_zero (half_of (key_of key) digest) zero_half zero))
          (key_lists key (both_passed (key_questions key) (digest_questions (key_of key).field digest) tt zero).0);
      second_half = λ half s z.
          inverse_lists half.pair (record { strands = s.labels; passed = (accepted half z).inverse_lists });
      carried = λ F ts w p after letters size order e.
          let made : Pair = pair_of p.matrix p.labels in
          subst InverseLists (sym e)
          (inverse_lists (word_on F ts w made)
          (word_6 F ts w made letters (made_6 p.matrix p.labels size order)));
    }
