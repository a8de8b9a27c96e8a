-- The starred slips of document 01 hold of the definitions, by one joint proof. What each slip must give is typed from
-- the paper.
use Prim.Native.Nat.{ℕ, ◌%◌}
use mathlib.Core.Path.{◌≡◌, refl, ◌∙◌}
use mathlib.Core.Bool.{Bool, true, false, cond, ◌||◌}
use mathlib.Core.List.{List, [], ◌∷◌}
use lib.Dec.{eqb}
use Rattle.base.specs.Lists.{values_from, values, every, equal, each_once, tally}
use Rattle.base.specs.Questions.{first_no, granted}
use Rattle.base.specs.Digits.{value, digits, halves}
use Rattle.base.specs.Packing.{packed_row, unpacked_row, row_filler}
use Rattle.field.specs.Polynomial.{times_x, horner, times, first_or_zero, reciprocal_of}
use Rattle.field.specs.Gf32.{gf32}
use Rattle.field.specs.Fields.{operations}
use Rattle.field.specs.declared.Field.TheVariants.{Gf32}
use Rattle.word.specs.Words.{word_file, packed, codes, filler, word_answer}
use Rattle.matrix.specs.Layout.{place, row_of, column_of, entry, matrix_of}
use Rattle.matrix.specs.Product.{identity}
use Rattle.word.specs.Strands.{swapped}
use Rattle.pair.specs.Action.{word_on, letter_on, share_of, t_value, row_after, start}
use Rattle.key.specs.Keys.{key_field, key_answer, key_file, key_of, t_values_of, key_labels, whole_matrix}
use Rattle.slip_digest.specs.Digest.{half_byte_braid}
use Rattle.move_kinds.specs.Kinds.{move}
use Rattle.move_kinds.specs.Rewriting.{move_questions, word_after, rewritten, rewriter_questions}
use Rattle.key.proofs.Inverses.{accepted_with, identity_has}
use Rattle.slip_cloaking.proofs.CloakLaws.{past_list, answered}
use Rattle.slip_cloaking.specs.Cloaking.{does_come_back, same_pair, Cloaks}

-- the T-values 1 1 2 3 4 5 6 7
abbrev pub plain_ts : List ℕ
plain_ts = 1 ∷ 1 ∷ 2 ∷ 3 ∷ 4 ∷ 5 ∷ 6 ∷ 7 ∷ []

abbrev pub plain_labels : List ℕ
plain_labels = 0 ∷ 1 ∷ 2 ∷ 3 ∷ 4 ∷ 5 ∷ 6 ∷ 7 ∷ []

-- The plain key has the T-values 1 1 2 3 4 5 6 7, the list 0 to 7, and the identity for both matrices. A key file holds
-- 57 entries of a matrix: rows 1 to 7 whole, then the last entry of row 8.
abbrev pub identity_entries : List ℕ
identity_entries = values (λ k. cond (eqb (k % 9) 0 || eqb k 56) 1 0) 57

abbrev pub plain_key : List ℕ
plain_key = key_file 5 plain_ts plain_labels identity_entries identity_entries

-- the entries of row 3 in columns 2, 3 and 4, after a word from the starting pair
abbrev pub row3 : List ℕ → List ℕ
row3 w =
    let m : List ℕ = (word_on gf32 plain_ts w start).matrix in
    entry m 2 1 ∷ entry m 2 2 ∷ entry m 2 3 ∷ []

-- the move list is accepted on the word, with an output of 5,002 bytes, and `new` is the new word's file
pub record Rewrites (word moves new : List ℕ) : Type 0 where
  pub accepted : first_no (rewriter_questions 5002 word moves) ≡ 0
  pub file : word_file (rewritten word moves) ≡ new

pub record StarredSlips : Type 0 where
  pub product_16_2 : gf32.mul 16 2 ≡ 5
  pub product_31_31 : gf32.mul 31 31 ≡ 18
  pub reciprocal_3 : gf32.inv 3 ≡ 28
  pub packed_word : word_file (0 ∷ 9 ∷ 2 ∷ 3 ∷ 12 ∷ 5 ∷ 14 ∷ []) ≡ 0x00 ∷ 0x07 ∷ 0x09 ∷ 0x23 ∷ 0xC5 ∷ 0xE0 ∷ []
  pub permuted : (word_on gf32 plain_ts (10 ∷ 5 ∷ 3 ∷ 8 ∷ 1 ∷ []) start).labels ≡ 1 ∷ 3 ∷ 0 ∷ 4 ∷ 2 ∷ 6 ∷ 5 ∷ 7 ∷ []
  pub letter_b3 : row3 (2 ∷ []) ≡ 2 ∷ 2 ∷ 1 ∷ []
  pub letter_b3_inverse : row3 (10 ∷ []) ≡ 1 ∷ 28 ∷ 28 ∷ []
  pub letter_b3_b3 : row3 (2 ∷ 2 ∷ []) ≡ 4 ∷ 6 ∷ 3 ∷ []
  pub b1_b1_cloaks : Cloaks plain_key plain_labels (0x00 ∷ 0x02 ∷ 0x00 ∷ []) 0 true
  pub b3_b3_does_not : Cloaks plain_key plain_labels (0x00 ∷ 0x02 ∷ 0x22 ∷ []) 0 false
  pub kind_3 : Rewrites (0x00 ∷ 0x03 ∷ 0x01 ∷ 0x00 ∷ []) (0x00 ∷ 0x01 ∷ 0x00 ∷ 0x00 ∷ 0x03 ∷ [])
      (0x00 ∷ 0x03 ∷ 0x10 ∷ 0x10 ∷ [])
  pub kind_1 : Rewrites (0x00 ∷ 0x02 ∷ 0x08 ∷ []) (0x00 ∷ 0x01 ∷ 0x00 ∷ 0x00 ∷ 0x01 ∷ []) (0x00 ∷ 0x00 ∷ [])
  pub half_byte_6 : half_byte_braid 6 ≡ 6 ∷ 5 ∷ 4 ∷ 3 ∷ 2 ∷ 2 ∷ 2 ∷ 2 ∷ 0xB ∷ 0xC ∷ 0xD ∷ 0xE ∷ []

-- the plain key is accepted: the identity is its own inverse
plain_accepted : key_answer plain_key ≡ 0
unfolding key_field first_no values_from every tally each_once value digits t_values_of packed_row unpacked_row
    row_filler
    key_labels whole_matrix matrix_of row_of column_of identity key_file
plain_accepted = accepted_with plain_key refl (identity_has Gf32) (identity_has Gf32)

-- cloaking under the plain key, for the list 0 to 7
cloaking : (word : List ℕ) {yes : Bool} → word_answer word ≡ 0
    → yes ≡ does_come_back (operations (key_field plain_key)) (key_of plain_key).t_values plain_labels (codes word)
    → Cloaks plain_key plain_labels word 0 yes
unfolding every tally each_once values_from
cloaking word w e = answered plain_key plain_labels word
    (past_list plain_key plain_labels word plain_accepted refl ∙ w) e

pub starred : StarredSlips
unfolding values_from every tally equal each_once first_no granted value digits halves times_x horner times
    first_or_zero
    reciprocal_of word_file packed codes word_answer place row_of column_of entry matrix_of word_on letter_on
    share_of t_value
    row_after swapped start identity half_byte_braid does_come_back same_pair key_field key_file key_of t_values_of
    packed_row
    unpacked_row row_filler key_labels whole_matrix filler move move_questions word_after
starred =
    record {
      product_16_2 = refl;
      product_31_31 = refl;
      reciprocal_3 = refl;
      packed_word = refl;
      permuted = refl;
      letter_b3 = refl;
      letter_b3_inverse = refl;
      letter_b3_b3 = refl;
      b1_b1_cloaks = cloaking (0x00 ∷ 0x02 ∷ 0x00 ∷ []) refl refl;
      b3_b3_does_not = cloaking (0x00 ∷ 0x02 ∷ 0x22 ∷ []) refl refl;
      kind_3 = record { accepted = refl; file = refl };
      kind_1 = record { accepted = refl; file = refl };
      half_byte_6 = refl;
    }
