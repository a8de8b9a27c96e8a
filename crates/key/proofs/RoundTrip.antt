-- Keys there and back, from bytes to bytes, over either field. A key that the key writer wrote reads back as its field,
-- its T-values, its list and its matrices. A file that the key reader read is written back as its own bytes.
use Prim.Native.Nat.{ℕ, ◌+◌, ◌%◌, ◌^◌, ◌≤◌, ◌<◌}
use mathlib.Core.Path.{◌≡◌, refl, sym, ap, ap₂, ◌∙◌, subst}
use mathlib.Core.List.{List, [], ◌∷◌}
use native.Mathlib.Nat.{mod-one}
use native.Mathlib.Omega.{arith}
use borrow.Author.Tests.{le-leb}
use lib.ListN.{length, take, drop, get_or}
use lib.Seq.{drop-cons}
use lib.Pow.{pow_mono}
use Rattle.base.specs.Questions.{Question, first_no}
use Rattle.base.specs.Lists.{overlaid}
use Rattle.base.specs.Digits.{value, digits, part}
use Rattle.base.specs.Packing.{Below, row_bytes, filler_bits, packed_row, unpacked_row, row_filler}
use Rattle.base.specs.Files.{joined, file_part}
use Rattle.base.proofs.QuestionLaws.{passed_answers, granted_zero}
use Rattle.base.proofs.ListLaws.{and_both, take_overlaid, drop_overlaid}
use Rattle.base.proofs.DigitLaws.{digits_value, value_digits_below}
use Rattle.base.proofs.PackLaws.{below_part, length_part}
use Rattle.base.proofs.RowLaws.{unpacked_packed, filler_packed, length_unpacked, packed_unpacked}
use Rattle.base.proofs.FileLaws.{joined_parts}
use Rattle.word.specs.Strands.{is_order}
use Rattle.field.specs.Fields.{bits, key_bytes}
use Rattle.field.specs.declared.Field.{Field}
use Rattle.field.proofs.Fields.{narrow}
use Rattle.pair_operands.specs.Operands.{nonzero}
use Rattle.key.specs.declared.Key.{Key}
use Rattle.key.specs.Keys.{key_field, key_sizes, t_values_of, key_labels, entries, first_bytes}
use Rattle.key.specs.steps.Places.{key_place, file_bytes}
use Rattle.key.specs.Keys.{second_bytes, field_size, file_entries, whole_matrix, starts_with_ones, both_invertible}
use Rattle.key.specs.Keys.{key_answer, key_holding, key_parts, key_of, zero_key, ReadsKey, file_parts, key_file}
use Rattle.key.specs.Keys.{key_writer_questions, WroteFile, WroteKey}
use Rattle.key.specs.steps.Parts.{Parts, Sizes}
use Rattle.key.proofs.Widths.{file_bytes_lem, field_of_length}
use Rattle.key.proofs.FileLaws.{key_file_size, part_back}
use Rattle.key.proofs.KeyFacts.{Accepted, accepted, accepted_answers, Writable, writable, parts}
use Rattle.key.proofs.KeyFacts.{t_values_elements, entries_elements}
use Rattle.key.proofs.EntryLaws.{entries_whole}

-- ---- written and read back

-- the file of T-values, a list and the entries of two matrices
module _ (b : ℕ) (narrow : b ≤ 8) (ts labels first second : List ℕ) (size : Sizes ts labels first second)
    (fit : Parts b ts labels first second) where
  abbrev written : List ℕ
  written = key_file b ts labels first second

  -- a part of n numbers, cut out and unpacked
  row_back : (c n i : ℕ) (xs : List ℕ) → Below (2 ^ c) xs → length xs ≡ n
      → file_part (key_sizes b) i written ≡ packed_row c xs
      → unpacked_row c n (file_part (key_sizes b) i written) ≡ xs
  row_back c n i xs below l e = ap₂ (unpacked_row c) (sym l) e ∙ unpacked_packed c xs below

  clear_back : (n i : ℕ) (xs : List ℕ) → Below (2 ^ b) xs → length xs ≡ n
      → file_part (key_sizes b) i written ≡ packed_row b xs
      → row_filler b n (file_part (key_sizes b) i written) ≡ 0
  clear_back n i xs below l e = ap₂ (row_filler b) (sym l) e ∙ filler_packed b xs below

  back : (i : ℕ) → file_part (key_sizes b) i written ≡ get_or (file_parts b ts labels first second) i []
  back = part_back b ts labels first second size

  strands_written : get_or written 0 0 ≡ 8
  unfolding key_file
  strands_written = refl

  field_size_written : field_size written ≡ 2 ^ b
  field_size_written =
      let h : 2 ^ b ≤ 2 ^ 8 = pow_mono narrow in
      ap (value 256) (back 1) ∙ value_digits_below 256 2 (2 ^ b) (omega arith) (omega arith)

  ts_back : t_values_of b written ≡ ts
  unfolding t_values_of
  ts_back = row_back b 8 2 ts fit.ts_below size.ts_size (back 2)

  labels_back : key_labels b written ≡ labels
  unfolding key_labels
  labels_back = row_back 3 8 4 labels fit.labels_below size.labels_size (back 4)

  first_back : entries b (first_bytes b written) ≡ first
  first_back = row_back b 57 3 first fit.first_below size.first_size (back 3)

  second_back : entries b (second_bytes b written) ≡ second
  second_back = row_back b 57 5 second fit.second_below size.second_size (back 5)

-- a written file, over a field
module _ (f : Field) (ts labels first second : List ℕ) (size : Sizes ts labels first second)
    (fit : Parts (bits f) ts labels first second) where
  written_size : length (key_file (bits f) ts labels first second) ≡ key_bytes f
  written_size = key_file_size (bits f) ts labels first second size ∙ file_bytes_lem f

  accepted_back : {room : ℕ} → Writable f room ts labels first second
      → Accepted f (key_file (bits f) ts labels first second)
  accepted_back q =
      let b = bits f in
      let w = narrow f in
      record {
        size = written_size;
        strands_are = strands_written b w ts labels first second size fit;
        field_size_is = field_size_written b w ts labels first second size fit;
        no_zero = ap (λ (xs : List ℕ). nonzero xs) (ts_back b w ts labels first second size fit) ∙ q.ts_nonzero;
        ones = ap (λ (xs : List ℕ). starts_with_ones xs) (ts_back b w ts labels first second size fit) ∙ q.ts_ones;
        order_is = ap (λ (xs : List ℕ). is_order xs) (labels_back b w ts labels first second size fit) ∙ q.order_is;
        first_filler =
            clear_back b w ts labels first second size fit 57 3 first fit.first_below size.first_size
            (back b w ts labels first second size fit 3);
        second_filler =
            clear_back b w ts labels first second size fit 57 5 second fit.second_below size.second_size
            (back b w ts labels first second size fit 5);
        inverses =
            ap₂ (λ (p s : List ℕ). both_invertible f (whole_matrix p) (whole_matrix s))
            (first_back b w ts labels first second size fit)
            (second_back b w ts labels first second size fit)
            ∙ q.inverses;
      }

  -- the key that the written file holds
  key_back : key_of (key_file (bits f) ts labels first second) ≡ key_holding f ts labels first second
  unfolding key_of
  key_back =
      let b = bits f in
      let w = narrow f in
      let file = key_file (bits f) ts labels first second in
      ap (λ (g : Field). key_parts g (bits g) file) (field_of_length f file written_size)
      ∙ (λ i. key_holding f (ts_back b w ts labels first second size fit i)
      (labels_back b w ts labels first second size fit i)
      (first_back b w ts labels first second size fit i) (second_back b w ts labels first second size fit i))

-- ---- read and written back

-- eight numbers of b bits fill b bytes, so they have no filler
eight_clear : (b : ℕ) (bytes : List ℕ) → row_filler b 8 bytes ≡ 0
unfolding row_filler
eight_clear b bytes =
    let e : filler_bits b 8 ≡ 0 = omega arith in
    ap (λ (k : ℕ). value 256 bytes % 2 ^ k) e ∙ mod-one (value 256 bytes)

module _ (b : ℕ) (file : List ℕ) (bytes : Below 256 file) (l : length file ≡ file_bytes b) where
  strands_again : get_or file 0 0 ≡ 8 → 8 ∷ [] ≡ part 0 1 file
  strands_again e = sym (ap (take 1) (drop-cons file 0 0 (omega (arith, l))) ∙ ap (λ (x : ℕ). x ∷ []) e)

  size_again : field_size file ≡ 2 ^ b → digits 256 2 (2 ^ b) ≡ part 1 2 file
  size_again q =
      ap₂ (digits 256) (sym (length_part 1 2 file (omega (arith, l)))) (sym q)
      ∙ digits_value 256 (part 1 2 file) (below_part 256 1 2 file bytes)

  -- n numbers of c bits from place `at` on, unpacked and packed
  row_again : (at c n : ℕ) → at + row_bytes c n ≤ file_bytes b → row_filler c n (part at (row_bytes c n) file) ≡ 0
      → packed_row c (unpacked_row c n (part at (row_bytes c n) file)) ≡ part at (row_bytes c n) file
  row_again at c n h z =
      packed_unpacked c n (part at (row_bytes c n) file) (below_part 256 at (row_bytes c n) file bytes)
      (length_part at (row_bytes c n) file (omega (arith, l))) z

again : (f : Field) (file : List ℕ) → Below 256 file → Accepted f file → let b = bits f in
    key_file b (t_values_of b file) (key_labels b file) (entries b (first_bytes b file))
    (entries b (second_bytes b file))
    ≡ file
unfolding key_file t_values_of key_labels
again f file bytes ok =
    let b = bits f in
    let l = ok.size ∙ sym (file_bytes_lem f) in
    (λ i. joined
    (strands_again b file bytes l ok.strands_are i
    ∷ size_again b file bytes l ok.field_size_is i
    ∷ row_again b file bytes l 3 b 8 (omega arith) (eight_clear b (file_part (key_sizes b) 2 file)) i
    ∷ row_again b file bytes l (key_place b 3) b 57 (omega arith) ok.first_filler i
    ∷ row_again b file bytes l (key_place b 4) 3 8 (omega arith) (eight_clear 3 (file_part (key_sizes b) 4 file)) i
    ∷ row_again b file bytes l (key_place b 5) b 57 (omega arith) ok.second_filler i
    ∷ []))
    ∙ joined_parts 0 (key_sizes b) file l

-- what the key reader gives passes the key writer's questions
read_is_writable : (f : Field) (room : ℕ) (file : List ℕ) → key_bytes f ≤ room → Accepted f file → let b = bits f in
    first_no (key_writer_questions f room (t_values_of b file) (key_labels b file) (entries b (first_bytes b file))
    (entries b (second_bytes b file))) ≡ 0
read_is_writable f room file h ok =
    let b = bits f in
    passed_answers
    (key_writer_questions f room (t_values_of b file) (key_labels b file) (entries b (first_bytes b file))
    (entries b (second_bytes b file))) (
      le-leb (key_bytes f) room h,
      (
        and_both (and_both (t_values_elements f file) (entries_elements f (first_bytes b file)))
            (entries_elements f (second_bytes b file)),
        (ok.no_zero, (ok.ones, (ok.order_is, (ok.inverses, tt)))),
      ),
    )

-- ---- what the operations give

-- on answer 0 a file of n bytes stands in the output's first n bytes, and the rest is unchanged
module _ {questions : List Question} {file before after : List ℕ} {answer : ℕ}
    (w : WroteFile questions file before after answer) (z : first_no questions ≡ 0) {n : ℕ} (l : length file ≡ n) where
  output : after ≡ overlaid file before
  output = w.output_is ∙ granted_zero (overlaid file before) before z

  output_file : take n after ≡ file
  output_file = ap₂ (λ (k : ℕ) (xs : List ℕ). take k xs) (sym l) output ∙ take_overlaid file before

  output_rest : drop n after ≡ drop n before
  output_rest =
      ap₂ (λ (k : ℕ) (xs : List ℕ). drop k xs) (sym l) output
      ∙ drop_overlaid file before
      ∙ ap (λ (k : ℕ). drop k before) l

-- If the key writer answers 0, the key reader answers 0 on the file in the output's first bytes, and gives the field,
-- the T-values, the list and the matrices that were written.
pub written_reads_back : (f : Field) (ts labels first second : List ℕ) → Sizes ts labels first second
    → {before after : List ℕ} {answer answer' : ℕ} {key : Key}
    → WroteKey f ts labels first second before after answer → answer ≡ 0
    → ReadsKey (take (key_bytes f) after) answer' key
    → (answer' ≡ 0) × (key ≡ key_holding f ts labels first second)
written_reads_back f ts labels first second size {before} {after} w z r =
    let asked : first_no (key_writer_questions f (length before) ts labels first second) ≡ 0 = sym w.answer_is ∙ z in
    let ok = writable f (length before) ts labels first second asked in
    let fit = parts ok in
    let file : take (key_bytes f) after ≡ key_file (bits f) ts labels first second =
    output_file w asked (written_size f ts labels first second size fit) in
    let e : key_answer (take (key_bytes f) after) ≡ 0 =
    ap key_answer file
    ∙ accepted_answers f (key_file (bits f) ts labels first second)
    (accepted_back f ts labels first second size fit ok) in (
      r.answer_is ∙ e,
      r.key_is ∙ granted_zero (key_of (take (key_bytes f) after)) zero_key e ∙ ap key_of file
          ∙ key_back f ts labels first second size fit,
    )

-- The key reader answers 0 on a file of bytes. The key writer then gets what the reader gave, with the key's own field,
-- the entries that a file holds of the key's matrices, and an output that has room. It answers 0, leaves the file's own
-- bytes in the output's first bytes, and leaves the rest unchanged.
pub read_writes_back : (file : List ℕ) → ((k : ℕ) → get_or file k 0 < 256)
    → {answer answer' : ℕ} {key : Key} → ReadsKey file answer key → answer ≡ 0
    → {first second before after : List ℕ} → first ≡ file_entries key.pair.matrix
    → second ≡ file_entries key.second
    → key_bytes key.field ≤ length before
    → WroteKey key.field key.t_values key.pair.labels first second before after answer'
    → (answer' ≡ 0) × (take (key_bytes key.field) after ≡ file)
    × (drop (key_bytes key.field) after ≡ drop (key_bytes key.field) before)
unfolding key_of
read_writes_back file bytes {key = key} r z {first} {second} {before} {after} ef es room w =
    let e : key_answer file ≡ 0 = sym r.answer_is ∙ z in
    let held : key ≡ key_of file = r.key_is ∙ granted_zero (key_of file) zero_key e in
    let g = key.field in
    let b = bits g in
    let same : key_field file ≡ g = sym (ap (λ (k : Key). k.field) held) in
    let again-held : key ≡ key_parts g b file = held ∙ ap (λ (f : Field). key_parts f (bits f) file) same in
    let ok : Accepted g file = subst (λ (f : Field). Accepted f file) same (accepted file e) in
    let t : key.t_values ≡ t_values_of b file = ap (λ (k : Key). k.t_values) again-held in
    let o : key.pair.labels ≡ key_labels b file = ap (λ (k : Key). k.pair.labels) again-held in
    let p : first ≡ entries b (first_bytes b file) =
    ef ∙ ap (λ (k : Key). file_entries k.pair.matrix) again-held
    ∙ entries_whole (entries b (first_bytes b file)) (length_unpacked b 57 (first_bytes b file)) in
    let s : second ≡ entries b (second_bytes b file) =
    es ∙ ap (λ (k : Key). file_entries k.second) again-held
    ∙ entries_whole (entries b (second_bytes b file)) (length_unpacked b 57 (second_bytes b file)) in
    let asked : first_no (key_writer_questions g (length before) key.t_values key.pair.labels first second) ≡ 0 =
    (λ i. first_no (key_writer_questions g (length before) (t i) (o i) (p i) (s i)))
    ∙ read_is_writable g (length before) file room ok in
    let equal : key_file b key.t_values key.pair.labels first second ≡ file =
    (λ i. key_file b (t i) (o i) (p i) (s i)) ∙ again g file bytes ok in
    let size : length (key_file b key.t_values key.pair.labels first second) ≡ key_bytes g =
    ap length equal ∙ ok.size in
    (w.answer_is ∙ asked, output_file w asked size ∙ equal, output_rest w asked size)
