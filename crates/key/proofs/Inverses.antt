-- Question 26 by inverses. If the key reader's or the key writer's other questions are passed, the answer is not 26
-- exactly if each matrix has an inverse. The blank key, and a key with one blank matrix, are refused with 26. The plain
-- key, and a key of permutation matrices, are accepted. The blank key and the plain key are tested over either field.
-- No proof computes an elimination.
use Prim.Native.Nat.{ℕ, ◌-◌, ◌<◌}
use mathlib.Core.Path.{◌≡◌, refl, sym, ap, ◌∙◌}
use mathlib.Core.Bool.{Bool, true, false, cond, ◌&&◌, false≢true}
use mathlib.Core.List.{List, [], ◌∷◌, ◌++◌}
use mathlib.Core.Logic.{◌↔◌}
use native.Mathlib.Omega.{arith}
use borrow.Author.Tests.{eqb-true, ltb-true}
use lib.Dec.{eqb, ltb}
use lib.ListN.{length, take, drop, replicate}
use Rattle.base.specs.Questions.{Question, ◌else◌, first_no}
use Rattle.base.specs.Lists.{values, values_from, every, each_once, tally}
use Rattle.base.specs.Digits.{value, digits}
use Rattle.base.specs.Packing.{packed_row, unpacked_row, row_filler}
use Rattle.base.proofs.QuestionLaws.{answers_passed, all_passed, passes, fails}
use Rattle.base.proofs.ListLaws.{and_left, and_right, and_both, and_false, every_values}
use Rattle.field.specs.Fields.{bits, operations}
use Rattle.field.specs.declared.Field.{Field}
use Rattle.field.specs.declared.Field.TheVariants.{Gf32, Gf256}
use Rattle.field.proofs.Fields.{binary}
use Rattle.matrix.specs.Layout.{place, row_of, column_of, entry, matrix_of, Matrix}
use Rattle.matrix.specs.Product.{identity}
use Rattle.matrix.specs.Elimination.{invertible, HasInverse}
use Rattle.matrix.proofs.Invertible.{invertible_iff, identity_inverse, permuted, permuted_inverse, zero_not_invertible}
use Rattle.pair_operands.specs.Operands.{elements}
use Rattle.key.specs.declared.Key.{Key}
use Rattle.key.specs.Keys.{t_values_of, key_labels, entries, first_bytes, second_bytes, whole_matrix, file_entries}
use Rattle.key.specs.Keys.{both_invertible, key_field, key_questions, key_answer, key_file, key_writer_questions}
use Rattle.key.specs.Keys.{ReadsKey, WroteKey}
use Rattle.key.proofs.KeyFacts.{matrix_good, entries_good}

abbrev pub first_matrix : List ℕ → List ℕ
first_matrix file = let b = bits (key_field file) in whole_matrix (entries b (first_bytes b file))

abbrev pub second_matrix : List ℕ → List ℕ
second_matrix file = let b = bits (key_field file) in whole_matrix (entries b (second_bytes b file))

-- `both_invertible` says yes exactly if each matrix has an inverse
both_iff : (f : Field) (m n : List ℕ) → Matrix (operations f).size m → Matrix (operations f).size n
    → (both_invertible f m n ≡ true) ↔ (HasInverse (operations f) m × HasInverse (operations f) n)
both_iff f m n p q =
    let a = invertible (operations f) 8 (entry m) in
    let b = invertible (operations f) 8 (entry n) in
    let i = invertible_iff (binary f) m p in
    let j = invertible_iff (binary f) n q in
    (λ e. (i.0 (and_left a b e), j.0 (and_right a b e)), λ h. and_both (i.1 h.0) (j.1 h.1))

-- if only question 26 is left, the answer is not 26 exactly if it is passed
last_iff : (t : Bool) {answer : ℕ} → answer ≡ first_no ((t else 26) ∷ []) → (answer ≡ 26 → ⊥) ↔ (t ≡ true)
unfolding first_no
last_iff true e = (λ h. refl, λ h w. let z : ◌≡◌ {A = ℕ} 26 0 = sym w ∙ e in omega arith)
last_iff false e = (λ h. absurd (h e), λ h. absurd (false≢true h))

module _ (file : List ℕ) (seven : first_no (take 7 (key_questions file)) ≡ 0) where
  past_7 : key_answer file ≡ first_no (drop 7 (key_questions file))
  unfolding key_answer
  past_7 = all_passed (take 7 (key_questions file)) (drop 7 (key_questions file)) tt seven

  inverses_iff : (both_invertible (key_field file) (first_matrix file) (second_matrix file) ≡ true)
      ↔ (HasInverse (operations (key_field file)) (first_matrix file)
      × HasInverse (operations (key_field file)) (second_matrix file))
  inverses_iff =
      let f = key_field file in
      both_iff f (first_matrix file) (second_matrix file) (matrix_good f (first_bytes (bits f) file))
      (matrix_good f (second_bytes (bits f) file))

  -- if a file passes 1 to 7, the key reader's answer is not 26 exactly if each matrix has an inverse
  pub reads_iff_inverses : {answer : ℕ} {key : Key} → ReadsKey file answer key
      → (answer ≡ 26 → ⊥)
      ↔ (HasInverse (operations (key_field file)) (first_matrix file)
      × HasInverse (operations (key_field file)) (second_matrix file))
  reads_iff_inverses r =
      let t =
      last_iff (both_invertible (key_field file) (first_matrix file) (second_matrix file)) (r.answer_is ∙ past_7) in
      (λ h. inverses_iff.0 (t.0 h), λ h. t.1 (inverses_iff.1 h))

  pub accepted_with : HasInverse (operations (key_field file)) (first_matrix file)
      → HasInverse (operations (key_field file)) (second_matrix file)
      → key_answer file ≡ 0
  unfolding first_no
  accepted_with p s = past_7 ∙ passes 26 [] (inverses_iff.1 (p, s))

  refused_26 : both_invertible (key_field file) (first_matrix file) (second_matrix file) ≡ false → key_answer file ≡ 26
  refused_26 e = past_7 ∙ fails 26 [] e

-- if 16, 17, 4, 5 and 6 are passed, the key writer's answer is not 26 exactly if each matrix has an inverse
module _ (f : Field) (ts labels first second before : List ℕ) where
  abbrev asked : List Question
  asked = key_writer_questions f (length before) ts labels first second

  pub writes_iff_inverses : first_no (take 5 asked) ≡ 0 → {after : List ℕ} {answer : ℕ}
      → WroteKey f ts labels first second before after answer
      → (answer ≡ 26 → ⊥)
      ↔ (HasInverse (operations f) (whole_matrix first) × HasInverse (operations f) (whole_matrix second))
  writes_iff_inverses five w =
      let p = answers_passed (take 5 asked) tt five in
      let q = and_left (elements f ts && elements f first) (elements f second) p.1.0 in
      let m = entries_good f first (and_right (elements f ts) (elements f first) q) in
      let n = entries_good f second (and_right (elements f ts && elements f first) (elements f second) p.1.0) in
      let e = both_iff f (whole_matrix first) (whole_matrix second) m n in
      let t =
      last_iff (both_invertible f (whole_matrix first) (whole_matrix second))
      (w.answer_is ∙ all_passed (take 5 asked) (drop 5 asked) tt five) in
      (λ h. e.0 (t.0 h), λ h. t.1 (e.1 h))

-- ---- keys with the T-values 1 1 2 3 4 5 6 7 and the list 0 to 7

abbrev pub key_with : Field → List ℕ → List ℕ → List ℕ
key_with f first second =
    key_file (bits f) (1 ∷ 1 ∷ 2 ∷ 3 ∷ 4 ∷ 5 ∷ 6 ∷ 7 ∷ []) (0 ∷ 1 ∷ 2 ∷ 3 ∷ 4 ∷ 5 ∷ 6 ∷ 7 ∷ []) first second

-- The entries of the blank matrix. `unit_entries` is those of the identity, `reversed_entries` those of the identity
-- with
-- its first seven rows in reverse order.
abbrev pub blank : List ℕ
blank = replicate 57 0

abbrev pub unit_entries : List ℕ
unit_entries = file_entries identity

abbrev reversed : ℕ → ℕ
reversed r = cond (eqb r 7) 7 (6 - r)

abbrev pub reversed_entries : List ℕ
reversed_entries = file_entries (permuted (binary Gf32) reversed)

reversed_twice : every (λ r. eqb (reversed (reversed r)) r && ltb (reversed r) 8) (values (λ r. r) 8) ≡ true
unfolding values_from every
reversed_twice = refl

reversed_has : HasInverse (operations Gf32) (permuted (binary Gf32) reversed)
reversed_has =
    record {
      inverse = permuted (binary Gf32) reversed;
      inverts =
          permuted_inverse (binary Gf32) reversed reversed
          (λ r h. ltb-true (reversed r) 8 (and_right (eqb (reversed (reversed r)) r) (ltb (reversed r) 8) (both r h)))
          (λ r h. eqb-true (reversed (reversed r)) r
          (and_left (eqb (reversed (reversed r)) r) (ltb (reversed r) 8) (both r h)));
    }
  where
    both : (r : ℕ) → r < 8 → (eqb (reversed (reversed r)) r && ltb (reversed r) 8) ≡ true
    both = every_values (λ r. eqb (reversed (reversed r)) r && ltb (reversed r) 8) (λ r. r) 8 reversed_twice

pub identity_has : (f : Field) → HasInverse (operations f) identity
identity_has f = record { inverse = identity; inverts = identity_inverse (binary f) }

-- a blank first matrix, whatever the second, and a blank second matrix, whatever the first
blank_first : (f : Field) (m : List ℕ) → both_invertible f (replicate 64 0) m ≡ false
blank_first f m = ap (λ (b : Bool). b && invertible (operations f) 8 (entry m)) (zero_not_invertible (binary f))

blank_second : (f : Field) (m : List ℕ) → both_invertible f m (replicate 64 0) ≡ false
blank_second f m =
    ap (λ (b : Bool). invertible (operations f) 8 (entry m) && b) (zero_not_invertible (binary f))
    ∙ and_false (invertible (operations f) 8 (entry m))

pub blank_key : (f : Field) → key_answer (key_with f blank blank) ≡ 26
unfolding key_field first_no values_from every tally each_once value digits t_values_of unpacked_row row_filler
    key_labels
    whole_matrix matrix_of row_of column_of packed_row key_file
blank_key Gf32 = refused_26 (key_with Gf32 blank blank) refl (blank_first Gf32 (replicate 64 0))
blank_key Gf256 = refused_26 (key_with Gf256 blank blank) refl (blank_first Gf256 (replicate 64 0))

pub blank_first_matrix : key_answer (key_with Gf32 blank unit_entries) ≡ 26
unfolding key_field first_no values_from every tally each_once value digits t_values_of unpacked_row row_filler
    key_labels
    whole_matrix matrix_of row_of column_of place entry identity file_entries packed_row key_file
blank_first_matrix = refused_26 (key_with Gf32 blank unit_entries) refl (blank_first Gf32 identity)

pub blank_second_matrix : key_answer (key_with Gf32 unit_entries blank) ≡ 26
unfolding key_field first_no values_from every tally each_once value digits t_values_of unpacked_row row_filler
    key_labels
    whole_matrix matrix_of row_of column_of place entry identity file_entries packed_row key_file
blank_second_matrix = refused_26 (key_with Gf32 unit_entries blank) refl (blank_second Gf32 identity)

pub plain_key_lem : (f : Field) → key_answer (key_with f unit_entries unit_entries) ≡ 0
unfolding key_field first_no values_from every tally each_once value digits t_values_of unpacked_row row_filler
    key_labels
    whole_matrix matrix_of row_of column_of place entry identity file_entries packed_row key_file
plain_key_lem Gf32 = accepted_with (key_with Gf32 unit_entries unit_entries) refl (identity_has Gf32)
    (identity_has Gf32)
plain_key_lem Gf256 = accepted_with (key_with Gf256 unit_entries unit_entries) refl (identity_has Gf256)
    (identity_has Gf256)

pub permutation_key : key_answer (key_with Gf32 reversed_entries reversed_entries) ≡ 0
unfolding key_field first_no values_from every tally each_once value digits t_values_of unpacked_row row_filler
    key_labels
    whole_matrix matrix_of row_of column_of place entry identity file_entries packed_row key_file
permutation_key = accepted_with (key_with Gf32 reversed_entries reversed_entries) refl reversed_has reversed_has

-- ---- 26 comes last

-- a blank key with a filler bit in its last byte gives 7
pub filler_before_26 : key_answer (take 82 (key_with Gf32 blank blank) ++ (1 ∷ [])) ≡ 7
unfolding key_field first_no values_from every tally each_once value digits t_values_of row_filler unpacked_row
    key_labels
    packed_row key_file key_answer
filler_before_26 = refl

-- the key writer gives 6 for blank entries and a list that has label 0 twice
pub list_before_26 : first_no
    (key_writer_questions Gf32 83 (1 ∷ 1 ∷ 2 ∷ 3 ∷ 4 ∷ 5 ∷ 6 ∷ 7 ∷ []) (0 ∷ 0 ∷ 2 ∷ 3 ∷ 4 ∷ 5 ∷ 6 ∷ 7 ∷ []) blank blank)
    ≡ 6
unfolding first_no values_from every tally each_once
list_before_26 = refl
