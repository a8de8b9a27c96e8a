-- Key files: N, q, eight T-values, the matrix of Pub(S), its list, the matrix of Pub(S'). A key file has 83 bytes over
-- GF(32) and 128 over GF(256). The questions of the key reader and of the key writer stand in the paper's order. The
-- parts of a file are stated for any number b of bits of an element.
use Rattle.std.specs.Prelude.{ℕ, ◌+◌, ◌*◌, ◌/◌, ◌%◌, ◌^◌, ◌≡◌, Bool, cond, ◌&&◌, ◌||◌, List, [], ◌∷◌, ◌++◌, leb, eqb}
use Rattle.std.specs.Prelude.{length, take, drop, get_or, replicate}
use Rattle.base.specs.Questions.{Question, ◌else◌, first_no, granted}
use Rattle.base.specs.Lists.{values, overlaid}
use Rattle.base.specs.Digits.{value, digits, part}
use Rattle.base.specs.Packing.{row_bytes, packed_row, unpacked_row, row_filler}
use Rattle.base.specs.Files.{joined, file_part}
use Rattle.field.specs.Fields.{bits, operations, key_bytes}
use Rattle.field.specs.declared.Field.{Field}
use Rattle.field.specs.declared.Field.TheVariants.{Gf32, Gf256}
use Rattle.matrix.specs.Layout.{entry, matrix_of}
use Rattle.matrix.specs.Elimination.{invertible}
use Rattle.pair.specs.Action.{pair_of}
use Rattle.word.specs.Strands.{is_order}
use Rattle.pair.specs.PairQuestions.{zero_pair}
use Rattle.pair_operands.specs.Operands.{elements, nonzero}
use Rattle.key.specs.declared.Key.{Key}

-- N is the first byte. q is the next 2 bytes, high first (`field_size`).
abbrev pub stated_strands : List ℕ → ℕ
stated_strands file = get_or file 0 0

abbrev pub field_size : List ℕ → ℕ
field_size file = value 256 (part 1 2 file)

-- the field that goes with a file's length
unfoldable pub key_field : List ℕ → Field
key_field file = cond (eqb (length file) (key_bytes Gf256)) Gf256 Gf32

-- The sizes of a file's parts in bytes: N, q, eight T-values, the matrix of Pub(S), its list as eight 3-bit labels, the
-- matrix of Pub(S'). A matrix has 57 entries.
abbrev pub key_sizes : ℕ → List ℕ
key_sizes b = 1 ∷ 2 ∷ row_bytes b 8 ∷ row_bytes b 57 ∷ row_bytes 3 8 ∷ row_bytes b 57 ∷ []

unfoldable pub t_values_of : ℕ → List ℕ → List ℕ
t_values_of b file = unpacked_row b 8 (file_part (key_sizes b) 2 file)

-- The bytes of the matrix of Pub(S). `key_labels` is its list. `second_bytes` is the bytes of the matrix of Pub(S').
abbrev pub first_bytes : ℕ → List ℕ → List ℕ
first_bytes b file = file_part (key_sizes b) 3 file

unfoldable pub key_labels : ℕ → List ℕ → List ℕ
key_labels b file = unpacked_row 3 8 (file_part (key_sizes b) 4 file)

abbrev pub second_bytes : ℕ → List ℕ → List ℕ
second_bytes b file = file_part (key_sizes b) 5 file

-- The 57 entries of a matrix. `matrix_filler` is the number that the filler bits after them write: three bits after
-- entries of 5 bits, none after entries of 8 bits.
abbrev pub entries : ℕ → List ℕ → List ℕ
entries b bytes = unpacked_row b 57 bytes

abbrev pub matrix_filler : ℕ → List ℕ → ℕ
matrix_filler b bytes = row_filler b 57 bytes

-- The matrix of 57 entries: rows 1 to 7 whole, then the last entry of row 8, whose other entries are 0. A file holds a
-- matrix row by row, whatever the layout in memory.
unfoldable pub whole_matrix : List ℕ → List ℕ
whole_matrix es = matrix_of (λ r c. get_or (take 56 es ++ (replicate 7 0 ++ drop 56 es)) (8 * r + c) 0)

-- The 57 entries that a file holds of a matrix: rows 1 to 7 whole, then the last entry of row 8.
unfoldable pub file_entries : List ℕ → List ℕ
file_entries m = values (λ k. entry m (k / 8) (k % 8)) 56 ++ (entry m 7 7 ∷ [])

-- Are the first two T-values 1?
abbrev pub starts_with_ones : List ℕ → Bool
starts_with_ones ts = eqb (get_or ts 0 0) 1 && eqb (get_or ts 1 0) 1

-- Can each matrix be inverted? Elimination over the field decides.
abbrev pub both_invertible : Field → List ℕ → List ℕ → Bool
both_invertible f first second = invertible (operations f) 8 (entry first) && invertible (operations f) 8 (entry second)

-- Key file: 2 to 7. Of the field, these questions use only the number b of bits of an element.
abbrev pub part_questions : ℕ → List ℕ → List Question
part_questions b file =
    (eqb (stated_strands file) 8 else 2)
    ∷ (eqb (field_size file) (2 ^ b) else 3)
    ∷ (nonzero (t_values_of b file) else 4)
    ∷ (starts_with_ones (t_values_of b file) else 5)
    ∷ (is_order (key_labels b file) else 6)
    ∷ (eqb (matrix_filler b (first_bytes b file)) 0 && eqb (matrix_filler b (second_bytes b file)) 0 else 7)
    ∷ []

-- Key file, over a given field: 1, then 2 to 7, then 26
abbrev pub key_questions_over : Field → List ℕ → List Question
key_questions_over f file =
    (eqb (length file) (key_bytes Gf32) || eqb (length file) (key_bytes Gf256) else 1)
    ∷ (part_questions (bits f) file
    ++ ((both_invertible f (whole_matrix (entries (bits f) (first_bytes (bits f) file)))
    (whole_matrix (entries (bits f) (second_bytes (bits f) file))) else 26) ∷ []))

-- Key file, over the field that goes with the file's length: 1 to 7, then 26
abbrev pub key_questions : List ℕ → List Question
key_questions file = key_questions_over (key_field file) file

unfoldable pub key_answer : List ℕ → ℕ
key_answer file = first_no (key_questions file)

-- The key of a field, T-values, a list and 57 entries a matrix. It holds the field, the T-values, the pair Pub(S) and
-- the matrix of Pub(S').
abbrev pub key_holding : Field → List ℕ → List ℕ → List ℕ → List ℕ → Key
key_holding f ts labels first second =
    record { field = f; t_values = ts; pair = pair_of (whole_matrix first) labels; second = whole_matrix second }

-- the key that a file holds, if an element has b bits
abbrev pub key_parts : Field → ℕ → List ℕ → Key
key_parts f b file =
    key_holding f (t_values_of b file) (key_labels b file) (entries b (first_bytes b file))
    (entries b (second_bytes b file))

-- the key that a file holds
unfoldable pub key_of : List ℕ → Key
key_of file = key_parts (key_field file) (bits (key_field file)) file

-- The key of a refusal is all zeros, and its field is the one with 32 elements.
unfoldable pub zero_key : Key
zero_key = record { field = Gf32; t_values = replicate 8 0; pair = zero_pair; second = replicate 64 0 }

-- What the key reader gives: the answer and the key. On a refusal the key is all zeros.
pub record ReadsKey (file : List ℕ) (answer : ℕ) (key : Key) : Type 0 where
  pub answer_is : answer ≡ key_answer file
  pub key_is : key ≡ granted (key_answer file) (key_of file) zero_key

-- the parts of a key file, in order
abbrev pub file_parts : ℕ → List ℕ → List ℕ → List ℕ → List ℕ → List (List ℕ)
file_parts b ts labels first second =
    (8 ∷ [])
    ∷ digits 256 2 (2 ^ b)
    ∷ packed_row b ts
    ∷ packed_row b first
    ∷ packed_row 3 labels
    ∷ packed_row b second
    ∷ []

unfoldable pub key_file : ℕ → List ℕ → List ℕ → List ℕ → List ℕ → List ℕ
key_file b ts labels first second = joined (file_parts b ts labels first second)

-- Key writer, over the field that the caller names: 16, 17, then 4, 5, 6, 26. Question 26 is about the matrices that
-- the entries make.
abbrev pub key_writer_questions : Field → ℕ → List ℕ → List ℕ → List ℕ → List ℕ → List Question
key_writer_questions f room ts labels first second =
    (leb (key_bytes f) room else 16)
    ∷ (elements f ts && elements f first && elements f second else 17)
    ∷ (nonzero ts else 4)
    ∷ (starts_with_ones ts else 5)
    ∷ (is_order labels else 6)
    ∷ (both_invertible f (whole_matrix first) (whole_matrix second) else 26)
    ∷ []

-- What a writer that reports no number of bytes gives and leaves: the answer, and the file in the output's first bytes.
-- The rest of the output is unchanged. On a refusal the whole output is unchanged.
pub record WroteFile (questions : List Question) (file before after : List ℕ) (answer : ℕ) : Type 0 where
  pub answer_is : answer ≡ first_no questions
  pub output_is : after ≡ granted (first_no questions) (overlaid file before) before

-- what the key writer gives, and what it leaves in the output
abbrev pub WroteKey : Field → List ℕ → List ℕ → List ℕ → List ℕ → List ℕ → List ℕ → ℕ → Type 0
WroteKey f ts labels first second before after answer =
    WroteFile (key_writer_questions f (length before) ts labels first second) (key_file (bits f) ts labels first second)
    before after answer
