-- The definition shuts out wrong verdicts: no verdict is always 14, and none is always 0. Under the plain key and the
-- digest of 32 zero bytes, 128 letters b7 get 0 and the empty word gets 14 (document 01's slips). The braid of the zero
-- digest is those 128 letters, so both sides of the first slip are one matrix. One entry shows that this matrix is not
-- the identity, which the empty word leaves.
use Prim.Native.Nat.{ℕ}
use mathlib.Core.Path.{◌≡◌, refl, sym, ap, ap₂, ◌∙◌}
use mathlib.Core.List.{List, [], ◌∷◌, ◌++◌}
use native.Mathlib.Omega.{arith}
use lib.ListN.{length, replicate}
use Rattle.base.specs.Questions.{first_no}
use Rattle.base.specs.Lists.{values_from, every, Bytes, equal, each_once, tally}
use Rattle.base.specs.Digits.{value, digits, halves}
use Rattle.base.specs.Packing.{unpacked_row, row_filler}
use Rattle.field.specs.Polynomial.{times_x, horner, times}
use Rattle.field.specs.Fields.{operations, digest_bytes}
use Rattle.field.specs.Gf32.{gf32}
use Rattle.field.specs.declared.Field.TheVariants.{Gf32}
use Rattle.field.proofs.Fields.{binary}
use Rattle.word.specs.Words.{codes, filler, word_answer}
use Rattle.matrix.specs.Layout.{place, row_of, column_of, entry, matrix_of}
use Rattle.matrix.specs.Product.{identity, matrix_product}
use Rattle.word.specs.Strands.{swapped, inverse_list, last_position}
use Rattle.pair.specs.Action.{t_value, share_of, row_after, letter_on, word_on, start}
use Rattle.pair.specs.Good.{GoodPair}
use Rattle.pair.proofs.GoodLaws.{tested_pair}
use Rattle.pair.proofs.WordLaws.{codes_good}
use Rattle.matrix.proofs.ProductLaws.{identity_right}
use Rattle.key.specs.Keys.{key_field, t_values_of, key_labels, whole_matrix, key_answer, key_of}
use Rattle.key.specs.declared.Key.{Key}
use Rattle.key.proofs.Inverses.{accepted_with, identity_has}
use Rattle.slip_digest.specs.Digest.{half_byte_braid, braid_of, encoded}
use Rattle.slip_verdict.specs.Verdict.{signed, target, verdict, signed_over, target_over}
use Rattle.slip_verdict.proofs.VerdictIff.{equal_zero, unequal_14}

-- the identity matrix in 36 bytes
abbrev identity_bytes : List ℕ
identity_bytes =
    0x08 ∷ 0x00 ∷ 0x00 ∷ 0x00 ∷ 0x00 ∷ 0x00 ∷ 0x40 ∷ 0x00 ∷ 0x00 ∷ 0x00 ∷ 0x00 ∷ 0x02
    ∷ 0x00 ∷ 0x00 ∷ 0x00 ∷ 0x00 ∷ 0x00 ∷ 0x10 ∷ 0x00 ∷ 0x00 ∷ 0x00 ∷ 0x00 ∷ 0x00 ∷ 0x80
    ∷ 0x00 ∷ 0x00 ∷ 0x00 ∷ 0x00 ∷ 0x04 ∷ 0x00 ∷ 0x00 ∷ 0x00 ∷ 0x00 ∷ 0x00 ∷ 0x20 ∷ 0x08
    ∷ []

-- the plain key: T-values 1 1 2 3 4 5 6 7, the list 0 to 7, both matrices the identity
abbrev pub plain_key : List ℕ
plain_key =
    (0x08 ∷ 0x00 ∷ 0x20 ∷ 0x08 ∷ 0x44 ∷ 0x32 ∷ 0x14 ∷ 0xC7 ∷ [])
    ++ (identity_bytes ++ ((0x05 ∷ 0x39 ∷ 0x77 ∷ []) ++ identity_bytes))

abbrev pub plain : List ℕ
plain = 1 ∷ 1 ∷ 2 ∷ 3 ∷ 4 ∷ 5 ∷ 6 ∷ 7 ∷ []

-- 128 letters b7, in a file and as codes
abbrev pub sevens : List ℕ
sevens = 0x00 ∷ 0x80 ∷ replicate 64 0x66

abbrev seven_codes : List ℕ
seven_codes = replicate 128 6

abbrev pub empty_word : List ℕ
empty_word = 0x00 ∷ 0x00 ∷ []

abbrev pub zero_digest : List ℕ
zero_digest = replicate 32 0

-- the key, both words and the digest are accepted
pub key_accepted : key_answer plain_key ≡ 0
unfolding first_no values_from every tally each_once value digits key_field t_values_of unpacked_row row_filler
    key_labels
    whole_matrix
    matrix_of row_of column_of identity
key_accepted = accepted_with plain_key refl (identity_has Gf32) (identity_has Gf32)

sevens_accepted : word_answer sevens ≡ 0
unfolding first_no every value codes filler halves word_answer
sevens_accepted = refl

pub empty_accepted : word_answer empty_word ≡ 0
unfolding first_no every value codes filler halves word_answer
empty_accepted = refl

digest_fits : length zero_digest ≡ digest_bytes (key_field plain_key)
unfolding key_field
digest_fits = refl

-- what the key, the word and the digest hold
pub key_is : key_of plain_key ≡ record { field = Gf32; t_values = plain; pair = start; second = identity }
unfolding values_from value digits row_of column_of matrix_of key_field t_values_of unpacked_row key_labels
    whole_matrix key_of
    identity
    start
key_is = refl

sevens_are : codes sevens ≡ seven_codes
unfolding value halves codes
sevens_are = refl

encoded_is : encoded zero_digest ≡ seven_codes
unfolding halves half_byte_braid braid_of encoded values_from
encoded_is = refl

-- the matrix that 128 letters b7 reach from the identity
abbrev reached : List ℕ
reached = (word_on gf32 plain seven_codes start).matrix

-- its entry in row 7 and column 7, where the identity has 1
corner : entry reached 6 6 ≡ 9
unfolding identity start place row_of column_of entry matrix_of values_from t_value share_of row_after swapped
    letter_on word_on
    times horner times_x
corner = refl

one_there : entry identity 6 6 ≡ 1
unfolding identity place row_of column_of entry matrix_of values_from
one_there = refl

-- Both sides of the verdict are this matrix. The word's letters reach it from Pub(S). The digest's letters reach it
-- from the identity, and the product with the identity leaves it unchanged.
sevens_signed : signed (key_of plain_key) (codes sevens) ≡ reached
unfolding signed_over
sevens_signed =
    ap₂ (λ (k : Key) (w : List ℕ). (word_on (operations k.field) k.t_values w k.pair).matrix) key_is sevens_are

empty_signed : signed (key_of plain_key) (codes empty_word) ≡ identity
unfolding signed_over word_on value halves codes start
empty_signed = ap (λ (k : Key). k.pair.matrix) key_is

good : GoodPair gf32 (word_on gf32 plain seven_codes start)
unfolding every values_from tally equal each_once identity start row_of column_of matrix_of inverse_list last_position
good = codes_good (binary Gf32) plain seven_codes start (tested_pair Gf32 start refl refl refl refl)

zero_target : target (key_of plain_key) zero_digest ≡ reached
unfolding target_over
zero_target =
    ap₂ (λ (k : Key) (w : List ℕ). matrix_product (operations k.field)
    (word_on (operations k.field) k.t_values w start).matrix k.second) key_is encoded_is
    ∙ identity_right (binary Gf32) reached (record { size = good.entries; below = good.entry_below })

pub sevens_0 : verdict plain_key zero_digest sevens ≡ 0
sevens_0 =
    equal_zero plain_key zero_digest sevens key_accepted digest_fits sevens_accepted (sevens_signed ∙ sym zero_target)

pub empty_word_14 : verdict plain_key zero_digest empty_word ≡ 14
empty_word_14 =
    unequal_14 plain_key zero_digest empty_word key_accepted digest_fits empty_accepted
    (λ e. omega (arith, one_there, corner, ap (λ (m : List ℕ). entry m 6 6) (sym empty_signed ∙ e ∙ zero_target)))

-- ---- wrong verdicts

-- a function that gives the verdict on bytes is neither always 14 nor always 0
module _ (f : (key digest word : List ℕ) → ℕ)
    (right : (key digest word : List ℕ) → Bytes key → Bytes digest → Bytes word
    → f key digest word ≡ verdict key digest word) where
  pub no_always_14 : ((key digest word : List ℕ) → Bytes key → Bytes digest → Bytes word → f key digest word ≡ 14) → ⊥
  unfolding every
  no_always_14 wrong =
      omega (
        arith,
        wrong plain_key zero_digest sevens refl refl refl,
        right plain_key zero_digest sevens refl refl refl,
        sevens_0,
      )

  pub no_always_0 : ((key digest word : List ℕ) → Bytes key → Bytes digest → Bytes word → f key digest word ≡ 0) → ⊥
  unfolding every
  no_always_0 wrong =
      omega (
        arith,
        wrong plain_key zero_digest empty_word refl refl refl,
        right plain_key zero_digest empty_word refl refl refl,
        empty_word_14,
      )
