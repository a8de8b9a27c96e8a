-- The contract shuts out three wrong counts, each by a witness: one counts places and not labels, one does not follow
-- the list, and one has the signs turned. On b1 b2 the labels 0 and 2 cross once, because b1 brings 0 to the second
-- place. On b1 the number of the labels 0 and 1 is 1, and not -1.
use Prim.Native.Nat.{ℕ, ◌+◌, ◌<◌}
use mathlib.Core.Path.{◌≡◌, refl, sym, ◌∙◌}
use mathlib.Core.Bool.{Bool, cond}
use mathlib.Core.List.{List, [], ◌∷◌}
use native.Mathlib.Omega.{arith}
use lib.Dec.{lit<}
use lib.IntN.{ℤ, pos, neg_ℤ, pos-ne-negsuc}
use Rattle.base.specs.Questions.{first_no}
use Rattle.base.specs.Lists.{every, Bytes, values_from, tally}
use Rattle.base.specs.Digits.{value, halves}
use Rattle.base.proofs.QuestionLaws.{granted_zero}
use Rattle.word.specs.Letters.{generator}
use Rattle.word.specs.Exponent.{exponent_sum}
use Rattle.word.specs.Strands.{strands_in_order, swapped}
use Rattle.word.specs.Words.{codes, filler}
use Rattle.word_crossing.specs.Crossings.{both, swaps, swapping, crossings_from, crossings, crossing_questions}
use Rattle.word_crossing.proofs.AnyCrossings.{Operation, Meets}

-- ---- what they count

-- the letters that pass a test
unfoldable pub passing : (ℕ → Bool) → List ℕ → List ℕ
passing f [] = []
passing f (c ∷ w) = cond (f c) (c ∷ passing f w) (passing f w)

abbrev pub Count : Type 0
Count = (a b : ℕ) (w : List ℕ) → ℤ

-- letters whose places, and not the labels there, are a and b
abbrev pub by_places : Count
by_places a b w = exponent_sum (passing (λ c. both a b (generator c) (generator c + 1)) w)

-- labels that never change places
abbrev pub list_left : Count
list_left a b w = exponent_sum (passing (swaps a b strands_in_order) w)

-- minus 1 for a generator, plus 1 for an inverse
abbrev pub turned : Count
turned a b w = neg_ℤ (crossings a b w)

-- ---- none of them meets the contract

module _ (f : Operation) (meets : Meets f) where
  -- if every question is passed, f gives what g gives
  abbrev Gives : Count → Type 0
  Gives g =
      (word : List ℕ) (a b : ℕ) → Bytes word → a < 256 → b < 256 → first_no (crossing_questions word a b) ≡ 0
      → (f word a b).crossings ≡ g a b (codes word)

  -- if f gives what g gives, g gives what the definition gives
  shows : (g : Count) (word : List ℕ) (a b : ℕ) → Gives g → Bytes word → a < 256 → b < 256
      → first_no (crossing_questions word a b) ≡ 0
      → crossings a b (codes word) ≡ g a b (codes word)
  shows g word a b gives x p q z =
      sym ((meets word a b x p q).number_is ∙ granted_zero (crossings a b (codes word)) (pos 0) z)
      ∙ gives word a b x p q z

  -- b1 b2
  abbrev two : List ℕ
  two = 0x00 ∷ 0x02 ∷ 0x01 ∷ []

  one_zero : (pos 1 ≡ pos 0) → ⊥
  one_zero e = let z : ◌≡◌ {A = ℕ} 1 0 = cc in omega arith

  pub no_count_by_places : Gives by_places → ⊥
  unfolding first_no every value halves codes filler values_from crossings crossings_from swapping swaps swapped tally
      exponent_sum passing
  no_count_by_places wrong = one_zero (shows by_places two 0 2 wrong refl (lit< tt) (lit< tt) refl)

  pub no_list_left : Gives list_left → ⊥
  unfolding first_no every value halves codes filler values_from crossings crossings_from swapping swaps swapped tally
      exponent_sum passing
  no_list_left wrong = one_zero (shows list_left two 0 2 wrong refl (lit< tt) (lit< tt) refl)

  -- b1
  pub no_turned_sign : Gives turned → ⊥
  unfolding first_no every value halves codes filler values_from crossings crossings_from swapping swaps swapped tally
      exponent_sum
  no_turned_sign wrong =
      pos-ne-negsuc 1 0 (shows turned (0x00 ∷ 0x01 ∷ 0x00 ∷ []) 0 1 wrong refl (lit< tt) (lit< tt) refl)
