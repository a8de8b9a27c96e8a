-- §12 without one of its conditions is false. The list matters: under the plain key b1 b1 cloaks for 0 to 7, the list
-- of Pub(S). Inserted in b2 b2⁻¹ b7 .. b7 after the first letter, where another list is reached, it turns the answer 0
-- into 14. The limit matters: the file of a word with more than 10,000 letters is refused with 10, and b1 b1 before
-- 10,000 letters b1 makes such a word.
use Prim.Native.Nat.{ℕ, zero, suc, ◌+◌, ◌≤◌, ◌<◌}
use mathlib.Core.Logic.{◌⊎◌, inl, inr}
use mathlib.Core.Path.{◌≡◌, refl, sym, ap, ◌∙◌}
use mathlib.Core.Bool.{true}
use mathlib.Core.List.{List, [], ◌∷◌}
use native.Mathlib.Omega.{arith}
use borrow.Author.Tests.{le-leb, lt-leb}
use lib.Dec.{lit<}
use lib.ListN.{length, drop, replicate, length-replicate}
use lib.Seq.{take_at}
use Rattle.base.specs.Questions.{first_no}
use Rattle.base.specs.Lists.{values_from, every, tally, each_once, equal}
use Rattle.base.specs.Digits.{value, digits, halves}
use Rattle.base.specs.Packing.{unpacked_row}
use Rattle.base.proofs.QuestionLaws.{passes, fails}
use Rattle.base.proofs.DigitLaws.{length_digits, value_digits_below}
use Rattle.field.specs.Polynomial.{times_x, horner, times}
use Rattle.field.specs.Fields.{digest_bytes}
use Rattle.matrix.specs.Layout.{place, row_of, column_of, entry, matrix_of}
use Rattle.matrix.specs.Product.{identity}
use Rattle.word.specs.Strands.{swapped}
use Rattle.word.specs.Words.{stated, codes, filler, word_questions, word_answer, word_file, packed}
use Rattle.word.proofs.WordLaws.{length_word_file}
use Rattle.word.specs.Letters.{is_letter}
use Rattle.word.proofs.RoundTrip.{codes_word_file, word_file_accepted}
use Rattle.word.proofs.ReadLaws.{accepted_word}
use Rattle.pair.specs.Action.{t_value, share_of, row_after, letter_on, word_on, start}
use Rattle.key.specs.Keys.{key_field, t_values_of, key_labels, whole_matrix, key_answer, key_of}
use Rattle.key.specs.declared.Key.{Key}
use Rattle.slip_verdict.specs.Verdict.{verdict, signed, signed_over}
use Rattle.slip_cloaking.specs.Cloaking.{same_pair, does_come_back, Cloaks}
use Rattle.slip_cloaking.proofs.CloakLaws.{answered, past_list}
use Rattle.slip_verdict.proofs.VerdictIff.{Signs, zero_iff_signs, unequal_14, zero_or_14, word_refused}
use Rattle.slip_verdict.proofs.WrongVerdicts.{plain_key, sevens, zero_digest, key_is, sevens_0}
use Rattle.move_kinds.specs.Kinds.{move}
use Rattle.slip_insertion.specs.Insertion.{reached_at, Insertion, inserted_by, moving, alterations, AllowedAll}
use Rattle.slip_insertion.proofs.CloaksAnywhere.{inserted_length, cloaks_and_moves}

-- ---- the list

-- b1 b1
abbrev twice : List ℕ
twice = 0x00 ∷ 0x02 ∷ 0x00 ∷ []

-- b2 b2⁻¹ and 128 letters b7
abbrev around : List ℕ
around = 0x00 ∷ 0x82 ∷ 0x19 ∷ replicate 64 0x66

-- b1 b1 after the first letter
abbrev after_b2 : Insertion
after_b2 = record { place = 1; file = twice }

accepted : Signs plain_key zero_digest sevens
accepted = (zero_iff_signs plain_key zero_digest sevens).0 sevens_0

-- the list of Pub(S) is 0 to 7, and b1 b1 cloaks for it
cloaks_for_pub : Cloaks plain_key (key_of plain_key).pair.labels twice 0 true
unfolding first_no values_from every tally each_once equal value codes filler halves word_answer key_field
    t_values_of key_of
    key_labels unpacked_row digits matrix_of row_of column_of whole_matrix same_pair does_come_back identity place
    entry t_value
    share_of row_after swapped letter_on word_on times horner times_x
cloaks_for_pub =
    answered plain_key (key_of plain_key).pair.labels twice
    (past_list plain_key (key_of plain_key).pair.labels twice accepted.key_accepted refl) refl

-- the slip opens with b2 b2⁻¹ and 128 letters b7
around_0 : verdict plain_key zero_digest around ≡ 0
unfolding AllowedAll alterations move first_no value halves codes word_file packed digits
around_0 =
    (cloaks_and_moves plain_key sevens accepted.key_accepted accepted.word_accepted
    (moving (record { place = 0; kind = 17 }) ∷ []) (refl, tt)).verdicts zero_digest
    ∙ sevens_0

-- the slip does not open with b1 b1 inserted
abbrev inserted : List ℕ
inserted = word_file (inserted_by after_b2 (codes around))

corner : entry (signed (key_of plain_key) (codes inserted)) 0 0 ≡ 2
unfolding signed_over value halves codes word_file packed digits identity start place row_of column_of entry matrix_of
    values_from t_value share_of row_after swapped letter_on word_on times horner times_x
corner = ap (λ (k : Key). entry (signed k (codes inserted)) 0 0) key_is

corner_around : entry (signed (key_of plain_key) (codes around)) 0 0 ≡ 1
unfolding signed_over value halves codes identity start place row_of column_of entry matrix_of values_from t_value
    share_of
    row_after swapped letter_on word_on times horner times_x
corner_around = ap (λ (k : Key). entry (signed k (codes around)) 0 0) key_is

inserted_14 : verdict plain_key zero_digest inserted ≡ 14
unfolding first_no every value codes filler halves word_answer word_file packed digits
inserted_14 =
    unequal_14 plain_key zero_digest inserted accepted.key_accepted accepted.digest_accepted refl
    (λ e. omega (
      arith,
      corner,
      corner_around,
      ap (λ (m : List ℕ). entry m 0 0)
          (e ∙ sym ((zero_iff_signs plain_key zero_digest around).0 around_0).matrices_equal),
    ))

-- §12 is false with the list of Pub(S) in place of the list reached at the place
pub list_matters : ((key digest word : List ℕ) (i : Insertion) → key_answer key ≡ 0 → word_answer word ≡ 0
    → i.place ≤ length (codes word)
    → Cloaks key (key_of key).pair.labels i.file 0 true → length (codes word) + length (codes i.file) ≤ 10000
    → verdict key digest (word_file (inserted_by i (codes word))) ≡ verdict key digest word) → ⊥
unfolding value halves codes first_no every filler word_answer
list_matters claim =
    omega (
      arith,
      claim plain_key zero_digest around after_b2 accepted.key_accepted refl (omega arith)
          cloaks_for_pub (omega arith),
      inserted_14,
      around_0,
    )

-- §12 is false without the list: it is not enough that the word cloaks for some list
pub list_left_out : ((key digest word labels : List ℕ) (i : Insertion) → key_answer key ≡ 0 → word_answer word ≡ 0
    → i.place ≤ length (codes word)
    → Cloaks key labels i.file 0 true → length (codes word) + length (codes i.file) ≤ 10000
    → verdict key digest (word_file (inserted_by i (codes word))) ≡ verdict key digest word) → ⊥
list_left_out claim = list_matters (λ key digest word i. claim key digest word (key_of key).pair.labels i)

-- ---- the limit

-- the file of more letters than a word may have is refused with 10
over_refused : (cs : List ℕ) → 10000 < length cs → length cs < 65536 → word_answer (word_file cs) ≡ 10
unfolding word_answer word_file
over_refused cs many few =
    passes 9 (drop 1 (word_questions (word_file cs)))
    (le-leb 2 (length (word_file cs)) (omega (arith, length_word_file cs)))
    ∙ fails 10 (drop 2 (word_questions (word_file cs))) (lt-leb (stated (word_file cs)) 10000 (omega (arith, states)))
  where
    states : stated (word_file cs) ≡ length cs
    states =
        ap (value 256) (take_at (digits 256 2 (length cs)) (packed cs) 2 (length_digits 256 2 (length cs)))
        ∙ value_digits_below 256 2 (length cs) (lit< tt) (omega arith)

pub limit_matters : (word : List ℕ) (i : Insertion) → word_answer word ≡ 0 → word_answer i.file ≡ 0
    → 10000 < length (codes word) + length (codes i.file) → word_answer (word_file (inserted_by i (codes word))) ≡ 10
limit_matters word i a b many =
    over_refused (inserted_by i (codes word)) (omega (arith, size)) (omega (arith, size, few word a, few i.file b))
  where
    few : (file : List ℕ) → word_answer file ≡ 0 → length (codes file) ≤ 10000
    few file e = omega (arith, (accepted_word file e).count, (accepted_word file e).few)

    size : length (inserted_by i (codes word)) ≡ length (codes word) + length (codes i.file)
    size = inserted_length i.place (codes i.file) (codes word)

-- §12 without the limit
abbrev pub NoLimit : Type 0
NoLimit =
    (key digest word : List ℕ) (i : Insertion) → key_answer key ≡ 0 → word_answer word ≡ 0
    → i.place ≤ length (codes word)
    → Cloaks key (reached_at key i.place (codes word)) i.file 0 true
    → verdict key digest (word_file (inserted_by i (codes word))) ≡ verdict key digest word

-- letters b1
ones : (n : ℕ) → every is_letter (replicate n 0) ≡ true
unfolding every
ones zero = refl
ones (suc n) = ones n

-- b1 b1 cloaks before 10,000 letters b1, and the new word is refused; n stands for 10,000, so that antt does not
-- compute with 10,000
limit_at : (n : ℕ) → n ≡ 10000 → NoLimit → ⊥
unfolding value halves codes word_on first_no every filler word_answer
limit_at n e claim = go (zero_or_14 plain_key zero_digest full k d a)
  where
    few : length {A = ℕ} (replicate n 0) ≤ 10000
    few = omega (arith, length-replicate {A = ℕ} n 0, e)

    full : List ℕ
    full = word_file (replicate n 0)

    k : key_answer plain_key ≡ 0
    k = accepted.key_accepted

    d : length zero_digest ≡ digest_bytes (key_field plain_key)
    d = accepted.digest_accepted

    a : word_answer full ≡ 0
    a = word_file_accepted (replicate n 0) few (ones n)

    size : length (codes full) ≡ 10000
    size = ap length (codes_word_file (replicate n 0) few (ones n)) ∙ length-replicate {A = ℕ} n 0 ∙ e

    front : Insertion
    front = record { place = 0; file = twice }

    ten : word_answer (word_file (inserted_by front (codes full))) ≡ 10
    ten = limit_matters full front a refl (omega (arith, size))

    same : verdict plain_key zero_digest (word_file (inserted_by front (codes full)))
        ≡ verdict plain_key zero_digest full
    same = claim plain_key zero_digest full front k a (omega arith) cloaks_for_pub

    new : verdict plain_key zero_digest (word_file (inserted_by front (codes full))) ≡ 10
    new = word_refused plain_key zero_digest _ k d (λ z. omega (arith, z, ten)) ∙ ten

    go : (verdict plain_key zero_digest full ≡ 0) ⊎ (verdict plain_key zero_digest full ≡ 14) → ⊥
    go (inl z) = omega (arith, z, same, new)
    go (inr z) = omega (arith, z, same, new)

-- §12 is false without the limit
pub limit_left_out : NoLimit → ⊥
limit_left_out = limit_at 10000 refl
