-- What any function does that meets the contract of the exported crossings. It gives two accepted words the same answer
-- and number, if the two labels cross equally often in both. Its numbers for the 28 pairs sum to the positive letters
-- less the inverse ones. The contract is asked only of words and labels that are bytes.
use Prim.Native.Nat.{ℕ, ◌<◌}
use mathlib.Core.Path.{◌≡◌, refl, sym, ap₂, ◌∙◌}
use mathlib.Core.Bool.{Bool, true, ◌&&◌}
use mathlib.Core.List.{List, [], ◌∷◌}
use native.Mathlib.Omega.{arith}
use lib.IntN.{ℤ, pos, ◌+ℤ◌}
use Rattle.base.specs.Questions.{granted}
use Rattle.base.specs.Lists.{Bytes}
use Rattle.base.proofs.ListLaws.{and_left, and_right}
use Rattle.base.proofs.QuestionLaws.{granted_zero}
use Rattle.word.specs.Exponent.{exponent_sum}
use Rattle.word.specs.Words.{codes, word_answer}
use Rattle.word_crossing.specs.declared.Crossing.{Crossing}
use Rattle.word_crossing.specs.Crossings.{crossings, Crosses, Two, with_each, pairs_from, all_pairs, together}
use Rattle.word_crossing.proofs.AllPairs.{all_crossings_lem}
use Rattle.word_crossing.proofs.CrossingAnswer.{two_labels, past_word, none_failed, first_below}
use Rattle.word_crossing.proofs.CrossingAnswer.{second_below}

abbrev pub Operation : Type 0
Operation = (word : List ℕ) (a b : ℕ) → Crossing

abbrev pub Meets : Operation → Type 0
Meets f =
    (word : List ℕ) (a b : ℕ) → Bytes word → a < 256 → b < 256
    → Crosses word a b (f word a b).answer (f word a b).crossings

-- ---- the pairs

-- the labels of each pair pass question 27
all_two : List Two → Bool
all_two [] = true
all_two (p ∷ ps) = two_labels p.smaller p.larger && all_two ps

pairs_pass : all_two all_pairs ≡ true
unfolding all_two with_each pairs_from
pairs_pass = refl

together_alike : (f g : Two → ℤ) → ((p : Two) → two_labels p.smaller p.larger ≡ true → f p ≡ g p) → (ps : List Two)
    → all_two ps ≡ true
    → together f ps ≡ together g ps
unfolding together all_two
together_alike f g e [] t = refl
together_alike f g e (p ∷ ps) t =
    let two = two_labels p.smaller p.larger in
    ap₂ ◌+ℤ◌ (e p (and_left two (all_two ps) t)) (together_alike f g e ps (and_right two (all_two ps) t))

-- ---- any operation

-- a label is a byte
label : {a : ℕ} → a < 8 → a < 256
label h = omega arith

module _ (f : Operation) (meets : Meets f) where
  -- two accepted words in which two labels cross equally often get the same answer and number
  pub crosses_alike : (word new : List ℕ) → Bytes word → Bytes new → word_answer word ≡ 0 → word_answer new ≡ 0
      → (a b : ℕ) → a < 256 → b < 256 → crossings a b (codes new) ≡ crossings a b (codes word) → f new a b ≡ f word a b
  crosses_alike word new x y v w a b p q e =
      let old = meets word a b x p q in
      let now = meets new a b y p q in
      let answers = past_word new a b w ∙ sym (past_word word a b v) in
      let answer = now.answer_is ∙ answers ∙ sym old.answer_is in
      let number = now.number_is ∙ (λ i. granted (answers i) (e i) (pos 0)) ∙ sym old.number_is in
      λ i. record { answer = answer i; crossings = number i }

  -- the sum of the 28 numbers of an accepted word
  pub calls_together : (word : List ℕ) → Bytes word → word_answer word ≡ 0
      → together (λ p. (f word p.smaller p.larger).crossings) all_pairs ≡ exponent_sum (codes word)
  calls_together word x w =
      together_alike (λ p. (f word p.smaller p.larger).crossings)
      (λ p. crossings p.smaller p.larger (codes word))
      (λ p t. (meets word p.smaller p.larger x (label (first_below p.smaller p.larger t))
      (label (second_below p.smaller p.larger t))).number_is
      ∙ granted_zero (crossings p.smaller p.larger (codes word)) (pos 0)
      (none_failed word p.smaller p.larger w t))
      all_pairs pairs_pass
      ∙ all_crossings_lem word w
