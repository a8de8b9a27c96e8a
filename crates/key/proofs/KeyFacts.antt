-- What is known of a key file, over either field. Whatever the bytes, its T-values, labels and matrices have their
-- sizes and bounds. Answer 0 says that every question is passed.
use Prim.Native.Nat.{ℕ, ◌+◌, ◌*◌, ◌^◌, ◌≤◌, ◌<◌}
use mathlib.Core.Path.{◌≡◌, refl, sym, ap, ◌∙◌}
use mathlib.Core.Bool.{true, ◌&&◌}
use mathlib.Core.List.{List, ◌++◌}
use borrow.Author.Tests.{leb-true, eqb-true, eq-eqb}
use lib.Dec.{eqb}
use lib.Pow.{pow_pos}
use lib.ListN.{length, take, drop, get_or, replicate}
use Rattle.base.specs.Questions.{first_no}
use Rattle.base.specs.Packing.{Below}
use Rattle.base.specs.Files.{file_part}
use Rattle.base.proofs.QuestionLaws.{passed_answers, answers_passed, granted_zero, granted_refused}
use Rattle.base.proofs.ListLaws.{and_left, and_right, and_both}
use Rattle.base.proofs.DigitLaws.{take_below, drop_below, append_below, all_below, below_all}
use Rattle.base.proofs.RowLaws.{length_unpacked, unpacked_below}
use Rattle.word.specs.Strands.{is_order}
use Rattle.field.specs.Fields.{bits, operations, key_bytes}
use Rattle.field.specs.declared.Field.{Field}
use Rattle.pair_operands.specs.Operands.{elements, nonzero}
use Rattle.pair.specs.Good.{TValues, GoodPair}
use Rattle.word.proofs.PositionLaws.{order_below}
use Rattle.pair.proofs.GoodLaws.{tested_values}
use Rattle.matrix.specs.Layout.{Matrix}
use Rattle.matrix.proofs.LayoutLaws.{matrix_of_good}
use Rattle.key.specs.declared.Key.{Key}
use Rattle.key.specs.Keys.{stated_strands, field_size, key_field, key_sizes, t_values_of, key_labels, entries}
use Rattle.key.specs.Keys.{matrix_filler, first_bytes, second_bytes, whole_matrix, starts_with_ones, both_invertible}
use Rattle.key.specs.Keys.{key_questions_over, key_answer, key_of, zero_key, ReadsKey, key_writer_questions}
use Rattle.key.specs.steps.Parts.{Parts}
use Rattle.key.proofs.EntryLaws.{get_d_zeros}
use Rattle.key.proofs.Widths.{either_length, length_passes, own_length, field_of_length}

-- ---- whatever the bytes

below_zeros : (b n : ℕ) → 0 < b → Below b (replicate n 0)
below_zeros b n p k = rw (get_d_zeros n k) p

module _ (b : ℕ) (file : List ℕ) where
  t_values_size : length (t_values_of b file) ≡ 8
  unfolding t_values_of
  t_values_size = length_unpacked b 8 (file_part (key_sizes b) 2 file)

  t_values_below : Below (2 ^ b) (t_values_of b file)
  unfolding t_values_of
  t_values_below = unpacked_below b 8 (file_part (key_sizes b) 2 file)

  labels_size : length (key_labels b file) ≡ 8
  unfolding key_labels
  labels_size = length_unpacked 3 8 (file_part (key_sizes b) 4 file)

  labels_below : Below 8 (key_labels b file)
  unfolding key_labels
  labels_below = unpacked_below 3 8 (file_part (key_sizes b) 4 file)

-- a matrix of 64 entries of b bits
whole_matrix_lem : (b : ℕ) (es : List ℕ) → Below (2 ^ b) es → Matrix (2 ^ b) (whole_matrix es)
unfolding whole_matrix
whole_matrix_lem b es below =
    let all = append_below (take 56 es) (replicate 7 0 ++ drop 56 es) (take_below 56 es below)
    (append_below (replicate 7 0) (drop 56 es) (below_zeros (2 ^ b) 7 (pow_pos b)) (drop_below 56 es below)) in
    matrix_of_good (λ r c. get_or (take 56 es ++ (replicate 7 0 ++ drop 56 es)) (8 * r + c) 0) (pow_pos b)
    (λ r c p q. all (8 * r + c))

-- sizes and bounds over a field
module _ (f : Field) where
  pub entries_good : (es : List ℕ) → elements f es ≡ true → Matrix (operations f).size (whole_matrix es)
  entries_good es e = whole_matrix_lem (bits f) es (all_below (2 ^ bits f) es (pow_pos (bits f)) e)

  pub matrix_good : (bytes : List ℕ) → Matrix (operations f).size (whole_matrix (entries (bits f) bytes))
  matrix_good bytes = whole_matrix_lem (bits f) (entries (bits f) bytes) (unpacked_below (bits f) 57 bytes)

  -- the bounds, as tests
  pub t_values_elements : (file : List ℕ) → elements f (t_values_of (bits f) file) ≡ true
  t_values_elements file = below_all (2 ^ bits f) (t_values_of (bits f) file) (λ k h. t_values_below (bits f) file k)

  pub entries_elements : (bytes : List ℕ) → elements f (entries (bits f) bytes) ≡ true
  entries_elements bytes = below_all (2 ^ bits f) (entries (bits f) bytes) (λ k h. unpacked_below (bits f) 57 bytes k)

-- ---- an accepted key

-- what an accepted key file has, over the field f
pub record Accepted (f : Field) (file : List ℕ) : Type 0 where
  pub size : length file ≡ key_bytes f
  pub strands_are : stated_strands file ≡ 8
  pub field_size_is : field_size file ≡ (operations f).size
  pub no_zero : nonzero (t_values_of (bits f) file) ≡ true
  pub ones : starts_with_ones (t_values_of (bits f) file) ≡ true
  pub order_is : is_order (key_labels (bits f) file) ≡ true
  pub first_filler : matrix_filler (bits f) (first_bytes (bits f) file) ≡ 0
  pub second_filler : matrix_filler (bits f) (second_bytes (bits f) file) ≡ 0
  pub inverses :
      both_invertible f (whole_matrix (entries (bits f) (first_bytes (bits f) file)))
      (whole_matrix (entries (bits f) (second_bytes (bits f) file))) ≡ true

accepted_over : (f : Field) (file : List ℕ) → (either_length (length file) ≡ true → length file ≡ key_bytes f)
    → first_no (key_questions_over f file) ≡ 0
    → Accepted f file
accepted_over f file l e =
    let p = answers_passed (key_questions_over f file) tt e in
    let s = matrix_filler (bits f) (first_bytes (bits f) file) in
    let t = matrix_filler (bits f) (second_bytes (bits f) file) in
    let q = p.1.1.1.1.1.1.0 in
    record {
      size = l p.0;
      strands_are = eqb-true (stated_strands file) 8 p.1.0;
      field_size_is = eqb-true (field_size file) (2 ^ bits f) p.1.1.0;
      no_zero = p.1.1.1.0;
      ones = p.1.1.1.1.0;
      order_is = p.1.1.1.1.1.0;
      first_filler = eqb-true s 0 (and_left (eqb s 0) (eqb t 0) q);
      second_filler = eqb-true t 0 (and_right (eqb s 0) (eqb t 0) q);
      inverses = p.1.1.1.1.1.1.1.0;
    }

pub accepted : (file : List ℕ) → key_answer file ≡ 0 → Accepted (key_field file) file
unfolding key_answer
accepted file e = accepted_over (key_field file) file (own_length file) e

pub accepted_answers : (f : Field) (file : List ℕ) → Accepted f file → key_answer file ≡ 0
unfolding key_answer
accepted_answers f file a =
    let s = matrix_filler (bits f) (first_bytes (bits f) file) in
    let t = matrix_filler (bits f) (second_bytes (bits f) file) in
    ap (λ (f : Field). first_no (key_questions_over f file)) (field_of_length f file a.size)
    ∙ passed_answers (key_questions_over f file) (
      ap (λ (n : ℕ). either_length n) a.size ∙ length_passes f,
      (
        eq-eqb (stated_strands file) 8 a.strands_are,
        (
          eq-eqb (field_size file) (2 ^ bits f) a.field_size_is,
          (
            a.no_zero,
            (
              a.ones,
              (
                a.order_is,
                (and_both (eq-eqb s 0 a.first_filler) (eq-eqb t 0 a.second_filler), (a.inverses, tt)),
              ),
            ),
          ),
        ),
      ),
    )

-- the T-values and the pair Pub(S) of an accepted key meet what the laws of pairs assume
pub key_values : (file : List ℕ) → key_answer file ≡ 0 → TValues (operations (key_field file)) (key_of file).t_values
unfolding key_of
key_values file e =
    let f = key_field file in
    tested_values f (t_values_of (bits f) file) (t_values_size (bits f) file) (t_values_elements f file)
    (accepted file e).no_zero

pub key_pair : (file : List ℕ) → GoodPair (operations (key_field file)) (key_of file).pair
unfolding key_of
key_pair file =
    let f = key_field file in
    let m = matrix_good f (first_bytes (bits f) file) in
    record {
      entries = m.size;
      entry_below = m.below;
      strands = labels_size (bits f) file;
      label_below = labels_below (bits f) file;
      positions_are = refl;
    }

-- the key's field is the one that goes with the file's length
pub key_field_lem : (file : List ℕ) → (key_of file).field ≡ key_field file
unfolding key_of
key_field_lem file = refl

-- ---- what the reader gives

module _ (file : List ℕ) {answer : ℕ} {key : Key} where
  pub reads_refused : (n : ℕ) → key_answer file ≡ n → (n ≡ 0 → ⊥) → (answer ≡ n) × (key ≡ zero_key)
      → ReadsKey file answer key
  reads_refused n e h r =
      record {
        answer_is = r.0 ∙ sym e;
        key_is = r.1 ∙ sym (granted_refused (key_of file) zero_key (λ z. h (sym e ∙ z)));
      }

  pub reads_accepted : key_answer file ≡ 0 → answer ≡ 0 → key ≡ key_of file → ReadsKey file answer key
  reads_accepted e a k = record { answer_is = a ∙ sym e; key_is = k ∙ sym (granted_zero (key_of file) zero_key e) }

-- ---- what the key writer asks

pub record Writable (f : Field) (room : ℕ) (ts labels first second : List ℕ) : Type 0 where
  pub room_for : key_bytes f ≤ room
  pub ts_elements : elements f ts ≡ true
  pub first_elements : elements f first ≡ true
  pub second_elements : elements f second ≡ true
  pub ts_nonzero : nonzero ts ≡ true
  pub ts_ones : starts_with_ones ts ≡ true
  pub order_is : is_order labels ≡ true
  pub inverses : both_invertible f (whole_matrix first) (whole_matrix second) ≡ true

pub writable : (f : Field) (room : ℕ) (ts labels first second : List ℕ)
    → first_no (key_writer_questions f room ts labels first second) ≡ 0
    → Writable f room ts labels first second
writable f room ts labels first second e =
    let p = answers_passed (key_writer_questions f room ts labels first second) tt e in
    let q = and_left (elements f ts && elements f first) (elements f second) p.1.0 in
    record {
      room_for = leb-true (key_bytes f) room p.0;
      ts_elements = and_left (elements f ts) (elements f first) q;
      first_elements = and_right (elements f ts) (elements f first) q;
      second_elements = and_right (elements f ts && elements f first) (elements f second) p.1.0;
      ts_nonzero = p.1.1.0;
      ts_ones = p.1.1.1.0;
      order_is = p.1.1.1.1.0;
      inverses = p.1.1.1.1.1.0;
    }

pub parts : {f : Field} {room : ℕ} {ts labels first second : List ℕ} → Writable f room ts labels first second
    → Parts (bits f) ts labels first second
parts {f} {ts = ts} {labels} {first} {second} w =
    record {
      ts_below = all_below (2 ^ bits f) ts (pow_pos (bits f)) w.ts_elements;
      labels_below = order_below labels w.order_is;
      first_below = all_below (2 ^ bits f) first (pow_pos (bits f)) w.first_elements;
      second_below = all_below (2 ^ bits f) second (pow_pos (bits f)) w.second_elements;
    }
