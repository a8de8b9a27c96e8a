-- One byte less is not enough for any of the four buffers: 128 bytes of a key, 64 of a digest, 5,002 of a signature,
-- 5,194 of a slip whose parts lie end to end. With each of these a file that is too long would be taken for the good
-- file that it begins with. An input that says 256 must not be cut at 83 and 32.
use Prim.Native.Nat.{ℕ}
use native.Mathlib.Omega.{arith}
use mathlib.Core.Path.{◌≡◌, refl, sym, ◌∙◌}
use mathlib.Core.Logic.{◌⊎◌, inl, inr}
use mathlib.Core.List.{List, [], ◌∷◌, ◌++◌}
use lib.Dec.{lit<}
use lib.ListN.{length, replicate}
use Rattle.base.specs.Questions.{first_no}
use Rattle.base.specs.Lists.{values_from, every}
use Rattle.base.specs.Digits.{value, digits, halves}
use Rattle.base.specs.Packing.{packed_row}
use Rattle.field.specs.Fields.{digest_bytes}
use Rattle.field.specs.declared.Field.TheVariants.{Gf256}
use Rattle.matrix.specs.Layout.{place, row_of, column_of, entry, matrix_of}
use Rattle.matrix.specs.Product.{identity}
use Rattle.word.specs.Words.{codes, filler, word_answer}
use Rattle.key.specs.Keys.{key_field, file_entries, key_file, key_answer}
use Rattle.key.proofs.Inverses.{key_with, unit_entries, plain_key_lem}
use Rattle.slip_verdict.specs.Verdict.{verdict}
use Rattle.slip_verdict.proofs.VerdictIff.{digest_refused, word_refused, zero_or_14}
use Rattle.desk_slip.proofs.Enough.{long_key}
use Rattle.desk_slip.specs.Slips.{desk_field, cut_verdict, desk_verdict, EnoughOfInput, EnoughOfFiles}

-- the plain key of the larger field, 64 zero bytes, the empty word
abbrev large_key : List ℕ
large_key = key_with Gf256 unit_entries unit_entries

abbrev large_digest : List ℕ
large_digest = replicate 64 0

abbrev empty_word : List ℕ
empty_word = 0 ∷ 0 ∷ []

key_accepted : key_answer large_key ≡ 0
key_accepted = plain_key_lem Gf256

digest_accepted : length large_digest ≡ digest_bytes (key_field large_key)
unfolding key_field values_from value digits place row_of column_of entry matrix_of identity file_entries packed_row
    key_file
digest_accepted = refl

empty_accepted : word_answer empty_word ≡ 0
unfolding first_no every value codes filler halves word_answer
empty_accepted = refl

-- the file of 10,000 letters b1, which is a longest word, and that file with one more byte
abbrev full_word : List ℕ
full_word = 0x27 ∷ 0x10 ∷ replicate 5000 0

abbrev long_word : List ℕ
long_word = 0x27 ∷ 0x10 ∷ replicate 5001 0

full_accepted : word_answer full_word ≡ 0
unfolding first_no every value codes filler halves word_answer
full_accepted = refl

long_answer : word_answer long_word ≡ 11
unfolding first_no every value codes filler halves word_answer
long_answer = refl

-- an accepted slip gets 0 or 14, and no other number
no_other : (word : List ℕ) → word_answer word ≡ 0 → (n : ℕ) → (n ≡ 0 → ⊥) → (n ≡ 14 → ⊥)
    → verdict large_key large_digest word ≡ n → ⊥
no_other word w n z f e = go (zero_or_14 large_key large_digest word key_accepted digest_accepted w)
  where
    go : (verdict large_key large_digest word ≡ 0) ⊎ (verdict large_key large_digest word ≡ 14) → ⊥
    go (inl a) = z (sym e ∙ a)
    go (inr b) = f (sym e ∙ b)

-- a signature that is too long gets the answer 11
long_11 : verdict large_key large_digest long_word ≡ 11
long_11 =
    word_refused large_key large_digest long_word key_accepted digest_accepted (λ e. omega (arith, long_answer))
    ∙ long_answer

pub no_128_of_a_key : EnoughOfFiles 128 65 5003 → ⊥
unfolding values_from value digits place row_of column_of entry matrix_of identity file_entries packed_row key_file
no_128_of_a_key enough =
    let long = large_key ++ (0 ∷ []) in
    no_other empty_word empty_accepted 1 (λ e. omega arith) (λ e. omega arith)
    (enough long large_digest empty_word ∙ long_key long large_digest empty_word (lit< tt))

pub no_64_of_a_digest : EnoughOfFiles 129 64 5003 → ⊥
unfolding values_from value digits place row_of column_of entry matrix_of identity file_entries packed_row key_file
no_64_of_a_digest enough =
    no_other empty_word empty_accepted 8 (λ e. omega arith) (λ e. omega arith)
    (enough large_key (replicate 65 0) empty_word
    ∙ digest_refused large_key (replicate 65 0) empty_word key_accepted (λ e. omega (arith, digest_accepted, e)))

pub no_5002_of_a_signature : EnoughOfFiles 129 65 5002 → ⊥
unfolding values_from value digits place row_of column_of entry matrix_of identity file_entries packed_row key_file
no_5002_of_a_signature enough =
    no_other full_word full_accepted 11 (λ e. omega arith) (λ e. omega arith)
    (enough large_key large_digest long_word ∙ long_11)

-- the slip end to end
abbrev slip : List ℕ → List ℕ
slip word = large_key ++ (large_digest ++ word)

pub no_5194_of_an_input : EnoughOfInput 5194 → ⊥
unfolding desk_verdict desk_field cut_verdict values_from value digits place row_of column_of entry matrix_of identity
    file_entries packed_row key_file
no_5194_of_an_input enough =
    no_other full_word full_accepted 11 (λ e. omega arith) (λ e. omega arith) (enough (slip long_word) ∙ long_11)

-- cut at 83 and 32, a slip that says 256 gets the answer 3; cut for its field, it gets 0 or 14
cut_3 : cut_verdict 83 32 (slip empty_word) ≡ 3
unfolding cut_verdict verdict first_no key_field values_from value digits place row_of column_of entry matrix_of
    identity
    file_entries packed_row key_file
cut_3 = refl

pub no_small_cut : ((input : List ℕ) → desk_verdict input ≡ cut_verdict 83 32 input) → ⊥
unfolding desk_verdict desk_field cut_verdict values_from value digits place row_of column_of entry matrix_of identity
    file_entries packed_row key_file
no_small_cut wrong =
    no_other empty_word empty_accepted 3 (λ e. omega arith) (λ e. omega arith) (wrong (slip empty_word) ∙ cut_3)
