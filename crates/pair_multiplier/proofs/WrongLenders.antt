-- The definitions shut out wrong programs, each by a witness: a lent multiplier that leaves its pair; one that gives
-- zeros on a refusal, as the multiplier by value does; one that takes a pair whose positions are stale, because its
-- question 6 looks at the labels alone.
use Prim.Native.Nat.{ℕ}
use mathlib.Core.Path.{◌≡◌, refl, sym, ap, ◌∙◌}
use mathlib.Core.Bool.{true}
use mathlib.Core.List.{List, [], ◌∷◌}
use native.Mathlib.Omega.{arith}
use Rattle.base.specs.Questions.{first_no, granted}
use Rattle.base.specs.Lists.{every, values_from, equal, each_once, tally}
use Rattle.base.proofs.QuestionLaws.{granted_refused}
use Rattle.field.specs.Polynomial.{times_x, horner, times}
use Rattle.field.specs.Gf32.{gf32}
use Rattle.field.specs.declared.Field.TheVariants.{Gf32}
use Rattle.pair.specs.declared.Pair.{Pair}
use Rattle.matrix.specs.Layout.{place, row_of, column_of, entry, matrix_of}
use Rattle.matrix.specs.Product.{identity}
use Rattle.word.specs.Strands.{strands_in_order, is_order, swapped, inverse_list, last_position}
use Rattle.pair.specs.Action.{t_value, share_of, row_after, letter_on, start}
use Rattle.pair.specs.PairQuestions.{zero_pair}
use Rattle.pair_multiplier.specs.declared.Multiplied.{Multiplied}
use Rattle.pair_multiplier.specs.Multiplier.{multiplier_questions}
use Rattle.pair_multiplier.specs.Lent.{Lends}

-- the T-values 1 1 2 3 4 5 6 7
abbrev plain : List ℕ
plain = 1 ∷ 1 ∷ 2 ∷ 3 ∷ 4 ∷ 5 ∷ 6 ∷ 7 ∷ []

-- row 3, column 2 has 0 in the starting pair, and 2 after b3
before : entry start.matrix 2 1 ≡ 0
unfolding start identity place row_of column_of entry matrix_of values_from
before = refl

after : entry (granted (first_no (multiplier_questions Gf32 start plain 2)) (letter_on gf32 plain 2 start) start).matrix
    2 1 ≡ 2
unfolding start identity place row_of column_of entry matrix_of values_from first_no granted every tally equal each_once
    inverse_list last_position t_value
    share_of row_after swapped letter_on times horner times_x
after = refl

-- The starting pair is lent, and the letter is b3. A multiplier that leaves the pair is refuted, whatever its answer.
pub leaves_its_pair : (answer : ℕ) → Lends Gf32 start plain 2 answer start → ⊥
leaves_its_pair answer m =
    let e = sym before ∙ ap (λ (p : Pair). entry p.matrix 2 1) m.pair_is ∙ after in omega arith

-- code 7 is no letter: the answer is 12, and row 1, column 1 still has 1
kept : entry (granted (first_no (multiplier_questions Gf32 start plain 7)) (letter_on gf32 plain 7 start) start).matrix
    0 0 ≡ 1
unfolding start identity place row_of column_of entry matrix_of values_from first_no granted every tally equal each_once
    inverse_list last_position
kept = refl

zero : entry zero_pair.matrix 0 0 ≡ 0
unfolding zero_pair place entry
zero = refl

-- The starting pair is lent, and the code is 7. A multiplier that gives back zeros is refuted, whatever its answer.
pub zeros_on_a_refusal : (answer : ℕ) → Lends Gf32 start plain 7 answer zero_pair → ⊥
zeros_on_a_refusal answer m =
    let e = sym zero ∙ ap (λ (p : Pair). entry p.matrix 0 0) m.pair_is ∙ kept in omega arith

-- the starting pair, with positions from before a letter b1: labels 0 and 1 have each other's position
abbrev stale : Pair
stale = record { matrix = identity; labels = strands_in_order; positions = 2 ∷ 1 ∷ 3 ∷ 4 ∷ 5 ∷ 6 ∷ 7 ∷ 8 ∷ [] }

stale_6 : first_no (multiplier_questions Gf32 stale plain 0) ≡ 6
unfolding identity row_of column_of matrix_of values_from first_no every tally equal each_once inverse_list
    last_position
stale_6 = refl

-- A pair with stale positions is lent, and the letter is b1. The answer is 6, and the pair is unchanged.
pub stale_refused : {answer : ℕ} {after : Pair} → Lends Gf32 stale plain 0 answer after
    → (answer ≡ 6) × (after ≡ stale)
stale_refused m = (
  m.answer_is ∙ stale_6,
  m.pair_is ∙ granted_refused (letter_on gf32 plain 0 stale) stale (λ z. omega (arith, stale_6, z)),
)

-- A lent multiplier that never answers 6 for a list of 0 to 7, each once, is refuted.
pub labels_alone : (f : (p : Pair) (ts : List ℕ) (c : ℕ) → Multiplied)
    → ((p : Pair) (ts : List ℕ) (c : ℕ) → Lends Gf32 p ts c (f p ts c).answer (f p ts c).pair)
    → ((p : Pair) (ts : List ℕ) (c : ℕ) → is_order p.labels ≡ true → (f p ts c).answer ≡ 6 → ⊥) → ⊥
unfolding values_from every tally each_once
labels_alone f meets wrong = wrong stale plain 0 refl (stale_refused (meets stale plain 0)).0
