-- The stored form of at most 10,000 letters, part by part: it is accepted and holds the letters. An accepted file is
-- the stored form of the letters that it holds, which are at most 10,000.
use Prim.Native.Nat.{ℕ, ◌+◌, ◌^◌, ◌≤◌}
use mathlib.Core.Path.{◌≡◌, refl, sym, ap, ap₂, ◌∙◌}
use mathlib.Core.Bool.{true}
use mathlib.Core.List.{List, [], ◌∷◌, ◌++◌, map, zip_with}
use native.Mathlib.Nat.{zero-add}
use native.Mathlib.Omega.{arith}
use borrow.Author.Tests.{le-leb, leb-true, eq-eqb, eqb-true}
use lib.ListN.{length, get_or, length-map}
use Rattle.base.specs.Lists.{every}
use Rattle.base.specs.Digits.{value, digits, part}
use Rattle.base.specs.Packing.{Below, row_bytes, packed_row, unpacked_row, row_filler}
use Rattle.base.specs.Files.{place_from, file_part}
use Rattle.base.proofs.QuestionLaws.{passed_answers, answers_passed}
use Rattle.base.proofs.DigitLaws.{value_digits_below, digits_value}
use Rattle.base.proofs.PackLaws.{below_part, length_part}
use Rattle.base.proofs.RowLaws.{length_packed_row, unpacked_packed, filler_packed, length_unpacked, unpacked_below}
use Rattle.base.proofs.RowLaws.{packed_unpacked}
use Rattle.base.proofs.FileLaws.{part_joined, length_joined, joined_parts}
use Rattle.word.specs.Letters.{is_letter}
use Rattle.word.proofs.LetterLaws.{Lettered}
use Rattle.word_stored.specs.Stored.{stored_sizes, signs, generators, stored_parts, stored_file, letters_stated}
use Rattle.word_stored.specs.Stored.{sign_bytes, generator_bytes, sign_part, generator_part, stored_signs}
use Rattle.word_stored.specs.Stored.{stored_generators, letter_of, stored_codes, stored_questions, stored_answer}
use Rattle.word_stored.proofs.SignLaws.{signs_below, generators_below, letters_whole, generators_good, has_no_seven}
use Rattle.word_stored.proofs.SignLaws.{length_letters, letters_test, signs_back, generators_back}

-- the number of bytes of the stored form of n letters
abbrev pub stored_needed : ℕ → ℕ
stored_needed n = 6 + row_bytes 1 n + row_bytes 3 n

-- ---- from letters to the stored form

module _ (cs : List ℕ) where
  sizes_are : map length (stored_parts cs) ≡ stored_sizes (length cs)
  unfolding digits
  sizes_are =
      ap₂ (λ (s g : ℕ). 2 ∷ 2 ∷ 2 ∷ s ∷ g ∷ []) (length_packed_row 1 (signs cs) ∙ ap (row_bytes 1) (length-map cs _))
      (length_packed_row 3 (generators cs) ∙ ap (row_bytes 3) (length-map cs _))

  part_is : (i : ℕ) → file_part (stored_sizes (length cs)) i (stored_file cs) ≡ get_or (stored_parts cs) i []
  unfolding stored_file
  part_is = part_joined (stored_sizes (length cs)) (stored_parts cs) sizes_are

  pub length_stored : length (stored_file cs) ≡ stored_needed (length cs)
  unfolding stored_file
  length_stored =
      sym (zero-add (length (stored_file cs)))
      ∙ sym (length_joined 0 (stored_parts cs))
      ∙ ap (λ (l : List ℕ). place_from 0 l 5) sizes_are

  module _ (few : length cs ≤ 10000) where
    letters_stored : letters_stated (stored_file cs) ≡ length cs
    letters_stored =
        ap (value 256) (part_is 0) ∙ value_digits_below 256 2 (length cs) (omega arith) (omega arith)

    signs_stored : sign_bytes (stored_file cs) ≡ row_bytes 1 (length cs)
    signs_stored =
        ap (value 256) (part_is 1) ∙ value_digits_below 256 2 (row_bytes 1 (length cs)) (omega arith) (omega arith)

    generators_stored : generator_bytes (stored_file cs) ≡ row_bytes 3 (length cs)
    generators_stored =
        ap (value 256) (part_is 2) ∙ value_digits_below 256 2 (row_bytes 3 (length cs)) (omega arith) (omega arith)

    sign_row : sign_part (stored_file cs) ≡ packed_row 1 (signs cs)
    sign_row = ap (λ (n : ℕ). file_part (stored_sizes n) 3 (stored_file cs)) letters_stored ∙ part_is 3

    generator_row : generator_part (stored_file cs) ≡ packed_row 3 (generators cs)
    generator_row = ap (λ (n : ℕ). file_part (stored_sizes n) 4 (stored_file cs)) letters_stored ∙ part_is 4

    -- a row of the stored form, unpacked, and its filler
    row_back : (b : ℕ) (xs bytes : List ℕ) → length xs ≡ length cs → Below (2 ^ b) xs → bytes ≡ packed_row b xs
        → unpacked_row b (letters_stated (stored_file cs)) bytes ≡ xs
    row_back b xs bytes l below e =
        ap₂ (unpacked_row b) (letters_stored ∙ sym l) e ∙ unpacked_packed b xs below

    clear_back : (b : ℕ) (xs bytes : List ℕ) → length xs ≡ length cs → Below (2 ^ b) xs → bytes ≡ packed_row b xs
        → row_filler b (letters_stated (stored_file cs)) bytes ≡ 0
    clear_back b xs bytes l below e =
        ap₂ (row_filler b) (letters_stored ∙ sym l) e ∙ filler_packed b xs below

    signs_held : stored_signs (stored_file cs) ≡ signs cs
    unfolding stored_signs
    signs_held = row_back 1 (signs cs) _ (length-map cs _) (signs_below cs) sign_row

    generators_held : stored_generators (stored_file cs) ≡ generators cs
    unfolding stored_generators
    generators_held = row_back 3 (generators cs) _ (length-map cs _) (generators_below cs) generator_row

    pub codes_stored : Lettered cs → stored_codes (stored_file cs) ≡ cs
    unfolding stored_codes
    codes_stored e = ap₂ (zip_with letter_of) signs_held generators_held ∙ letters_whole cs e

    pub stored_accepted : Lettered cs → stored_answer (stored_file cs) ≡ 0
    unfolding stored_answer
    stored_accepted e =
        let file = stored_file cs in
        let n = letters_stored in
        passed_answers (stored_questions file) (
          le-leb 6 (length file) (omega (arith, length_stored)),
          (
            le-leb (letters_stated file) 10000 (omega (arith, n)),
            (
              eq-eqb (sign_bytes file) _ (signs_stored ∙ ap (row_bytes 1) (sym n)),
              (
                eq-eqb (generator_bytes file) _ (generators_stored ∙ ap (row_bytes 3) (sym n)),
                (
                  eq-eqb (length file) _
                      (length_stored ∙ ap₂ (λ (s g : ℕ). 6 + s + g) (sym signs_stored) (sym generators_stored)),
                  (
                    ap has_no_seven generators_held ∙ generators_good cs e,
                    (
                      eq-eqb (row_filler 1 (letters_stated file) (sign_part file)) 0
                          (clear_back 1 (signs cs) _ (length-map cs _) (signs_below cs) sign_row),
                      (
                        eq-eqb (row_filler 3 (letters_stated file) (generator_part file)) 0
                            (clear_back 3 (generators cs) _ (length-map cs _) (generators_below cs) generator_row),
                        tt,
                      ),
                    ),
                  ),
                ),
              ),
            ),
          ),
        )

-- ---- from the stored form to letters

record AcceptedStored (file : List ℕ) : Type 0 where
  pub long : 6 ≤ length file
  pub few : letters_stated file ≤ 10000
  pub sign_size : sign_bytes file ≡ row_bytes 1 (letters_stated file)
  pub generator_size : generator_bytes file ≡ row_bytes 3 (letters_stated file)
  pub size : length file ≡ stored_needed (letters_stated file)
  pub no_seven : has_no_seven (stored_generators file) ≡ true
  pub sign_filler : row_filler 1 (letters_stated file) (sign_part file) ≡ 0
  pub generator_filler : row_filler 3 (letters_stated file) (generator_part file) ≡ 0

module _ (file : List ℕ) where
  accepted_stored : stored_answer file ≡ 0 → AcceptedStored file
  unfolding stored_answer
  accepted_stored e =
      let p = answers_passed (stored_questions file) tt e in
      let s = eqb-true (sign_bytes file) _ p.1.1.0 in
      let g = eqb-true (generator_bytes file) _ p.1.1.1.0 in
      record {
        long = leb-true 6 (length file) p.0;
        few = leb-true (letters_stated file) 10000 p.1.0;
        sign_size = s;
        generator_size = g;
        size =
            eqb-true (length file) _ p.1.1.1.1.0 ∙ ap₂ (λ (x y : ℕ). 6 + x + y) s g;
        no_seven = p.1.1.1.1.1.0;
        sign_filler = eqb-true (row_filler 1 (letters_stated file) (sign_part file)) 0 p.1.1.1.1.1.1.0;
        generator_filler =
            eqb-true (row_filler 3 (letters_stated file) (generator_part file)) 0 p.1.1.1.1.1.1.1.0;
      }

  -- the signs and the generators of any file
  length_signs : length (stored_signs file) ≡ letters_stated file
  unfolding stored_signs
  length_signs = length_unpacked 1 (letters_stated file) (sign_part file)

  length_generators : length (stored_generators file) ≡ letters_stated file
  unfolding stored_generators
  length_generators = length_unpacked 3 (letters_stated file) (generator_part file)

  equally_long : length (stored_signs file) ≡ length (stored_generators file)
  equally_long = length_signs ∙ sym length_generators

  signs_bits : Below 2 (stored_signs file)
  unfolding stored_signs
  signs_bits = unpacked_below 1 (letters_stated file) (sign_part file)

  generators_bits : Below 8 (stored_generators file)
  unfolding stored_generators
  generators_bits = unpacked_below 3 (letters_stated file) (generator_part file)

  pub length_codes : length (stored_codes file) ≡ letters_stated file
  unfolding stored_codes
  length_codes = length_letters (stored_signs file) (stored_generators file) equally_long ∙ length_generators

  -- the codes are letters exactly if no three-bit number is 7
  pub codes_test : every is_letter (stored_codes file) ≡ has_no_seven (stored_generators file)
  unfolding stored_codes
  codes_test = letters_test (stored_signs file) (stored_generators file) equally_long signs_bits generators_bits

  -- an accepted file of bytes is the stored form of the letters that it holds
  module _ (bytes : Below 256 file) (e : stored_answer file ≡ 0) where
    accepted : AcceptedStored file
    accepted = accepted_stored e

    -- a size that the file states
    size_back : (at n : ℕ) → at + 2 ≤ 6 → value 256 (part at 2 file) ≡ n → digits 256 2 n ≡ part at 2 file
    size_back at n h v =
        ap₂ (digits 256) (sym (length_part at 2 file (omega (arith, accepted.long)))) (sym v)
        ∙ digits_value 256 (part at 2 file) (below_part 256 at 2 file bytes)

    -- a row, unpacked and packed
    row_packed : (b at : ℕ) → let n = letters_stated file in at + row_bytes b n ≤ length file
        → row_filler b n (part at (row_bytes b n) file) ≡ 0
        → packed_row b (unpacked_row b n (part at (row_bytes b n) file)) ≡ part at (row_bytes b n) file
    row_packed b at h z =
        let n = letters_stated file in
        packed_unpacked b n (part at (row_bytes b n) file) (below_part 256 at (row_bytes b n) file bytes)
        (length_part at (row_bytes b n) file h) z

    signs_packed : packed_row 1 (signs (stored_codes file)) ≡ sign_part file
    unfolding stored_codes stored_signs
    signs_packed =
        ap (packed_row 1)
        (signs_back (stored_signs file) (stored_generators file) equally_long signs_bits generators_bits
        accepted.no_seven)
        ∙ row_packed 1 6 (omega (arith, accepted.size)) accepted.sign_filler

    generators_packed : packed_row 3 (generators (stored_codes file)) ≡ generator_part file
    unfolding stored_codes stored_generators
    generators_packed =
        ap (packed_row 3)
        (generators_back (stored_signs file) (stored_generators file) equally_long signs_bits generators_bits)
        ∙ row_packed 3 (6 + row_bytes 1 (letters_stated file)) (omega (arith, accepted.size))
        accepted.generator_filler

    pub stored_codes_lem : stored_file (stored_codes file) ≡ file
    unfolding stored_file
    stored_codes_lem =
        let n = letters_stated file in
        let rows = sign_part file ++ (generator_part file ++ []) in
        ap₂ (λ (k : ℕ) (rest : List ℕ).
        digits 256 2 k ++ (digits 256 2 (row_bytes 1 k) ++ (digits 256 2 (row_bytes 3 k) ++ rest)))
        length_codes (ap₂ (λ (s g : List ℕ). s ++ (g ++ [])) signs_packed generators_packed)
        ∙ ap₂ (λ (a b : List ℕ). a ++ (b ++ (digits 256 2 (row_bytes 3 n) ++ rows)))
        (size_back 0 n (omega arith) refl) (size_back 2 (row_bytes 1 n) (omega arith) accepted.sign_size)
        ∙ ap (λ (c : List ℕ). part 0 2 file ++ (part 2 2 file ++ (c ++ rows)))
        (size_back 4 (row_bytes 3 n) (omega arith) accepted.generator_size)
        ∙ joined_parts 0 (stored_sizes n) file accepted.size

    pub codes_few : length (stored_codes file) ≤ 10000
    codes_few = omega (arith, length_codes, accepted.few)

    pub codes_lettered : Lettered (stored_codes file)
    codes_lettered = codes_test ∙ accepted.no_seven
