-- Wrong halves are shut out by their contracts: each would do on some input what the contract does not allow there. A
-- half is held to its contract on bytes alone, in arrays of their sizes. (The target's product the other way round is
-- refused by the prover: must-fail/second_first.)
use Prim.Native.Nat.{ℕ}
use mathlib.Core.Path.{◌≡◌, refl, sym, ap, ◌∙◌}
use mathlib.Core.Bool.{Bool, true, false, ◌&&◌}
use mathlib.Core.List.{List, [], ◌∷◌}
use native.Mathlib.Omega.{arith}
use lib.ListN.{length, get_or, replicate}
use Rattle.base.specs.Questions.{◌else◌, first_no}
use Rattle.base.specs.Lists.{values_from, every, Bytes, tally, equal, each_once}
use Rattle.base.specs.Digits.{value, halves}
use Rattle.base.proofs.QuestionLaws.{fails, all_passed, granted_refused}
use Rattle.base.proofs.ListLaws.{and_false, equal_of, equal_false}
use Rattle.base.proofs.DigitLaws.{below_all}
use Rattle.field.specs.Polynomial.{times_x, horner, times}
use Rattle.field.specs.Fields.{operations}
use Rattle.field.specs.declared.Field.{Field}
use Rattle.field.specs.declared.Field.TheVariants.{Gf32, Gf256}
use Rattle.field.proofs.Fields.{binary}
use Rattle.matrix.specs.Layout.{place, row_of, column_of, entry, matrix_of}
use Rattle.matrix.specs.Product.{identity}
use Rattle.matrix.specs.Elimination.{invertible}
use Rattle.matrix.proofs.Invertible.{identity_invertible, zero_not_invertible}
use Rattle.word.specs.Strands.{is_order, swapped, inverse_list, last_position}
use Rattle.word.specs.Words.{codes, filler, word_answer}
use Rattle.pair_operands.specs.Operands.{elements, nonzero}
use Rattle.pair.specs.Action.{pair_of, t_value, share_of, row_after, letter_on, word_on}
use Rattle.pair.specs.Good.{TValues, GoodPair}
use Rattle.pair.specs.PairQuestions.{pair_questions}
use Rattle.pair.proofs.GoodLaws.{tested_pair, tested_values}
use Rattle.pair.proofs.InvertibleWords.{word_invertible}
use Rattle.pair.proofs.WordLaws.{codes_good}
use Rattle.key.specs.Keys.{both_invertible, key_answer, key_of}
use Rattle.key.specs.declared.Key.{Key}
use Rattle.slip_digest.specs.Digest.{is_digest}
use Rattle.slip_verdict.specs.declared.Half.{Half}
use Rattle.slip_verdict.specs.Verdict.{signed_over}
use Rattle.slip_verdict.specs.Halves.{zero_half, first_half_questions, MakesHalf, signed_by, half_questions}
use Rattle.slip_verdict.specs.Halves.{copy_questions, second_half_questions}
use Rattle.slip_verdict.proofs.CopyLaws.{agree_0, differ_14}
use Rattle.slip_verdict.proofs.HalfLaws.{digest_refused, accepted_answers, half_refused, past_half}
use Rattle.slip_verdict.proofs.WrongVerdicts.{plain_key, plain, empty_word, key_accepted, empty_accepted}
use Rattle.slip_verdict.proofs.WrongVerdicts.{key_is}

-- n bytes, and a half as memory holds it
abbrev pub Array : ℕ → List ℕ → Type 0
Array n xs = (length xs ≡ n) × Bytes xs

pub record Held (h : Half) : Type 0 where
  pub t_values : Array 8 h.t_values
  pub matrix : Array 64 h.pair.matrix
  pub labels : Array 8 h.pair.labels
  pub positions : Array 8 h.pair.positions
  pub target : Array 64 h.target

-- ---- halves with the T-values 1 1 2 3 4 5 6 7 and the identity matrix

abbrev half_with : Field → List ℕ → List ℕ → Half
half_with f labels target = record { field = f; t_values = plain; pair = pair_of identity labels; target = target }

held : (f : Field) (labels target : List ℕ) → Array 8 labels → Array 8 (inverse_list labels) → Array 64 target
    → Held (half_with f labels target)
unfolding every identity matrix_of values_from row_of column_of
held f labels target l p t =
    record { t_values = (refl, refl); matrix = (refl, refl); labels = l; positions = p; target = t }

abbrev ordered : List ℕ
ordered = 0 ∷ 1 ∷ 2 ∷ 3 ∷ 4 ∷ 5 ∷ 6 ∷ 7 ∷ []

-- a blank target
abbrev blank : Half
blank = half_with Gf32 ordered (replicate 64 0)

blank_held : Held blank
unfolding every inverse_list last_position values_from
blank_held = held Gf32 _ _ (refl, refl) (refl, refl) (refl, refl)

no_inverse : both_invertible Gf32 identity (replicate 64 0) ≡ false
no_inverse =
    ap (λ (b : Bool). invertible (operations Gf32) 8 (entry identity) && b) (zero_not_invertible (binary Gf32))
    ∙ and_false (invertible (operations Gf32) 8 (entry identity))

blank_26 : (word : List ℕ) → first_no (second_half_questions blank word) ≡ 26
unfolding first_no every tally equal each_once identity matrix_of values_from row_of column_of inverse_list
    last_position
blank_26 word =
    let e : first_no (half_questions blank) ≡ 26 =
    all_passed (pair_questions Gf32 plain blank.pair blank.target)
    ((both_invertible Gf32 identity blank.target else 26) ∷ []) tt refl
    ∙ fails 26 [] no_inverse in
    half_refused blank word (λ z. omega (arith, e, z)) ∙ e

-- a blank target, and a list that names label 0 twice
abbrev twice : Half
twice = half_with Gf32 (0 ∷ 0 ∷ 2 ∷ 3 ∷ 4 ∷ 5 ∷ 6 ∷ 7 ∷ []) (replicate 64 0)

twice_held : Held twice
unfolding every inverse_list last_position values_from
twice_held = held Gf32 _ _ (refl, refl) (refl, refl) (refl, refl)

twice_6 : (word : List ℕ) → first_no (second_half_questions twice word) ≡ 6
unfolding first_no every tally equal each_once identity matrix_of values_from row_of column_of inverse_list
    last_position
twice_6 word = refl

-- the list 0 to 7, with the positions of a list that begins with labels 1 and 0
abbrev stale : Half
stale =
    record {
      field = Gf32;
      t_values = plain;
      pair = record { matrix = identity; labels = ordered; positions = 2 ∷ 1 ∷ 3 ∷ 4 ∷ 5 ∷ 6 ∷ 7 ∷ 8 ∷ [] };
      target = identity;
    }

stale_held : Held stale
unfolding every identity matrix_of values_from row_of column_of
stale_held =
    record {
      t_values = (refl, refl);
      matrix = (refl, refl);
      labels = (refl, refl);
      positions = (refl, refl);
      target = (refl, refl);
    }

stale_6 : (word : List ℕ) → first_no (second_half_questions stale word) ≡ 6
unfolding first_no every tally equal each_once identity matrix_of values_from row_of column_of inverse_list
    last_position
stale_6 word = refl

-- a target whose first entry is 32
abbrev over : Half
over = half_with Gf32 ordered (32 ∷ replicate 63 0)

over_held : Held over
unfolding every inverse_list last_position values_from
over_held = held Gf32 _ _ (refl, refl) (refl, refl) (refl, refl)

over_17 : (word : List ℕ) → first_no (second_half_questions over word) ≡ 17
unfolding first_no every identity matrix_of values_from row_of column_of
over_17 word = refl

-- ---- a half of the larger field: its target is what six letters b3 reach over that field

abbrev six_file : List ℕ
six_file = 0x00 ∷ 0x06 ∷ 0x22 ∷ 0x22 ∷ 0x22 ∷ []

abbrev six : List ℕ
six = replicate 6 2

abbrev reached : Field → List ℕ
reached f = (word_on (operations f) plain six (pair_of identity ordered)).matrix

abbrev large : Half
large = half_with Gf256 ordered (reached Gf256)

six_accepted : word_answer six_file ≡ 0
unfolding first_no every value codes filler halves word_answer
six_accepted = refl

six_are : codes six_file ≡ six
unfolding value halves codes
six_are = refl

values : TValues (operations Gf256) plain
unfolding every
values = tested_values Gf256 plain refl refl refl

begun : GoodPair (operations Gf256) (pair_of identity ordered)
unfolding every tally equal each_once identity matrix_of values_from row_of column_of inverse_list last_position
begun = tested_pair Gf256 (pair_of identity ordered) refl refl refl refl

good : GoodPair (operations Gf256) (word_on (operations Gf256) plain six (pair_of identity ordered))
good = codes_good (binary Gf256) plain six (pair_of identity ordered) begun

large_elements : elements Gf256 (reached Gf256) ≡ true
large_elements = below_all 256 (reached Gf256) (λ k h. good.entry_below k)

large_held : Held large
unfolding every inverse_list last_position values_from
large_held = held Gf256 ordered (reached Gf256) (refl, refl) (refl, refl) (good.entries, large_elements)

large_passed : first_no (half_questions large) ≡ 0
unfolding every tally equal each_once values_from identity matrix_of row_of column_of inverse_list last_position
large_passed =
    accepted_answers large
    (record {
      ts_elements = refl;
      pair_elements = refl;
      target_elements = large_elements;
      no_zero = refl;
      inverse_lists = refl;
      pair_inverse = identity_invertible (binary Gf256);
      target_inverse =
          word_invertible (binary Gf256) plain values six refl (pair_of identity ordered) begun
          ∙ identity_invertible (binary Gf256);
    })

signed_six : (f : Field) → signed_by (half_with f ordered (reached Gf256)) (codes six_file) ≡ reached f
unfolding signed_over
signed_six f = ap (λ (w : List ℕ). (word_on (operations f) plain w (pair_of identity ordered)).matrix) six_are

large_0 : first_no (second_half_questions large six_file) ≡ 0
large_0 = past_half large six_file large_passed ∙ agree_0 large six_file six_accepted (equal_of (signed_six Gf256))

-- the entry in row 3 and column 3, over either field
corner : entry (reached Gf256) 2 2 ≡ 120
unfolding identity place row_of column_of entry matrix_of values_from t_value share_of row_after swapped letter_on
    word_on times
    horner times_x
corner = refl

smaller_corner : entry (reached Gf32) 2 2 ≡ 23
unfolding identity place row_of column_of entry matrix_of values_from t_value share_of row_after swapped letter_on
    word_on times
    horner times_x
smaller_corner = refl

-- a half with the smaller field named in place of its own
abbrev over_smaller : Half → Half
over_smaller h = record { field = Gf32; t_values = h.t_values; pair = h.pair; target = h.target }

smaller_14 : first_no (copy_questions (over_smaller large) six_file) ≡ 14
smaller_14 =
    differ_14 (over_smaller large) six_file six_accepted
    (equal_false _ _
    (λ e. omega (arith, corner, smaller_corner, ap (λ (m : List ℕ). entry m 2 2) (sym (signed_six Gf32) ∙ e))))

-- ---- wrong second halves

module _ (f : Half → List ℕ → ℕ)
    (right : (h : Half) (word : List ℕ) → Held h → Bytes word → f h word ≡ first_no (second_half_questions h word))
  where
    -- it asks 26 of Pub(S) alone, and then judges the word
    pub no_target_without_inverse : ((h : Half) (word : List ℕ) → Held h → Bytes word
        → first_no (pair_questions h.field h.t_values h.pair h.target) ≡ 0
        → invertible (operations h.field) 8 (entry h.pair.matrix) ≡ true
        → word_answer word ≡ 0 → (f h word ≡ 26 → ⊥)) → ⊥
    unfolding first_no every tally equal each_once identity matrix_of values_from row_of column_of inverse_list
        last_position
    no_target_without_inverse wrong =
        wrong blank empty_word blank_held refl refl (identity_invertible (binary Gf32)) empty_accepted
        (right blank empty_word blank_held refl ∙ blank_26 empty_word)

    -- it asks 26 before 6
    pub no_26_before_6 : ((h : Half) (word : List ℕ) → Held h → Bytes word
        → elements h.field h.t_values ≡ true → elements h.field h.pair.matrix ≡ true
        → elements h.field h.target ≡ true
        → nonzero h.t_values ≡ true → both_invertible h.field h.pair.matrix h.target ≡ false
        → f h word ≡ 26) → ⊥
    unfolding every identity matrix_of values_from row_of column_of
    no_26_before_6 wrong =
        omega (
          arith,
          wrong twice empty_word twice_held refl refl refl refl refl no_inverse,
          right twice empty_word twice_held refl,
          twice_6 empty_word,
        )

    -- its 6 looks at the labels alone
    pub no_6_of_labels_alone : ((h : Half) (word : List ℕ) → Held h → Bytes word → is_order h.pair.labels ≡ true
        → (f h word ≡ 6 → ⊥)) → ⊥
    unfolding every tally each_once values_from
    no_6_of_labels_alone wrong =
        wrong stale empty_word stale_held refl refl (right stale empty_word stale_held refl ∙ stale_6 empty_word)

    -- it gives 17 for T-values and Pub(S) alone
    pub no_17_without_target : ((h : Half) (word : List ℕ) → Held h → Bytes word
        → elements h.field h.t_values ≡ true → elements h.field h.pair.matrix ≡ true → (f h word ≡ 17 → ⊥))
        → ⊥
    unfolding every identity matrix_of values_from row_of column_of
    no_17_without_target wrong =
        wrong over empty_word over_held refl refl refl (right over empty_word over_held refl ∙ over_17 empty_word)

    -- it asks the word before the half
    pub no_word_first : ((h : Half) (word : List ℕ) → Held h → Bytes word → (word_answer word ≡ 0 → ⊥)
        → f h word ≡ word_answer word) → ⊥
    unfolding every first_no value codes filler halves word_answer
    no_word_first wrong =
        omega (
          arith,
          wrong blank [] blank_held refl (λ z. omega (arith, z)),
          right blank [] blank_held refl,
          blank_26 [],
        )

    -- it judges a half of the larger field over the smaller one
    pub no_smaller_field : ((h : Half) (word : List ℕ) → Held h → Bytes word → first_no (half_questions h) ≡ 0
        → f h word ≡ first_no (copy_questions (over_smaller h) word)) → ⊥
    unfolding every
    no_smaller_field wrong =
        omega (
          arith,
          wrong large six_file large_held refl large_passed,
          smaller_14,
          right large six_file large_held refl,
          large_0,
        )

-- ---- a wrong first half

-- what a first half gives
pub record Given : Type 0 where
  pub answer : ℕ
  pub half : Half

module _ (f : (key digest : List ℕ) → Given)
    (right : (key digest : List ℕ) → Bytes key → Bytes digest
    → MakesHalf key digest (f key digest).answer (f key digest).half) where
  -- it gives an accepted key's T-values where it refuses the digest
  pub no_half_on_a_refusal : ((key digest : List ℕ) → Bytes key → Bytes digest → key_answer key ≡ 0
      → is_digest (key_of key).field digest ≡ false
      → (f key digest).half.t_values ≡ (key_of key).t_values) → ⊥
  unfolding every zero_half
  no_half_on_a_refusal wrong =
      let other : is_digest (key_of plain_key).field [] ≡ false = ap (λ (k : Key). is_digest k.field []) key_is in
      let eight : first_no (first_half_questions plain_key []) ≡ 8 = digest_refused plain_key [] key_accepted other in
      let zeros = (right plain_key [] refl refl).half_is ∙ granted_refused _ _ (λ z. omega (arith, z, eight)) in
      omega (
        arith,
        ap (λ (ts : List ℕ). get_or ts 0 0)
            (sym (ap (λ (h : Half). h.t_values) zeros) ∙ wrong plain_key [] refl refl key_accepted other
            ∙ ap (λ (k : Key). k.t_values) key_is),
      )
