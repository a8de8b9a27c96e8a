-- The codes of a stored form, group by group: one more group of eight letters, and the first n codes of all groups.
use Prim.Native.Nat.{ℕ, zero, suc, ◌+◌, ◌-◌, ◌*◌, ◌^◌, ◌≤◌, ◌<◌}
use mathlib.Core.Path.{◌≡◌, refl, sym, ap, ap₂, ◌∙◌, subst}
use mathlib.Core.Bool.{Bool, true, false, cond, ◌&&◌}
use mathlib.Core.List.{List, [], ◌∷◌, ◌++◌, zip_with, append-nil}
use native.Mathlib.Omega.{arith}
use borrow.Author.Tests.{leb-true, eqb-true}
use lib.Dec.{eqb}
use lib.ListN.{length, take, drop, get_or, replicate, length-drop, length-replicate}
use lib.Seq.{length-take-le, take-add, take_all, take-append-le, take-append-add}
use Rattle.base.specs.Questions.{◌else◌, first_no}
use Rattle.base.specs.Lists.{every, overlaid}
use Rattle.base.specs.Digits.{value, digits, part}
use Rattle.base.specs.Packing.{Below, row_bytes, filler_bits, unpacked_row, row_filler}
use Rattle.base.proofs.QuestionLaws.{Passed, answers_passed, all_passed}
use Rattle.base.proofs.ListLaws.{laid_more}
use Rattle.base.proofs.DigitLaws.{length_digits, take_below, drop_below, value_below, value_append, digits_join}
use Rattle.base.proofs.PackLaws.{below_part, length_part, value_more}
use Rattle.word_stored.specs.Stored.{letter_of, sign_part, generator_part, stored_signs, stored_generators}
use Rattle.word_stored.specs.Stored.{stored_codes}
use Rattle.word_stored.specs.Stored.{letters_stated, sign_bytes, generator_bytes, size_questions, row_questions}
use Rattle.word_stored.specs.Stored.{stored_answer}
use Rattle.word.specs.Letters.{is_letter}
use Rattle.word_stored.proofs.SignLaws.{length_letters}
use Rattle.word_stored.proofs.StoredLaws.{codes_test}
use Rattle.word_stored.proofs.PaddedRows.{replicate_zeros, padded_unpacked}
use Rattle.word_restore.specs.steps.Restoring.{Sized, group_codes}

-- ---- two rows, letter by letter

zip_append : (xs bs cs ds : List ℕ) → length xs ≡ length bs
    → zip_with letter_of (xs ++ cs) (bs ++ ds) ≡ zip_with letter_of xs bs ++ zip_with letter_of cs ds
unfolding zip_with
zip_append [] [] cs ds e = refl
zip_append [] (b ∷ bs) cs ds e = absurd (omega arith)
zip_append (a ∷ xs) [] cs ds e = absurd (omega arith)
zip_append (a ∷ xs) (b ∷ bs) cs ds e =
    ap (λ (l : List ℕ). letter_of a b ∷ l) (zip_append xs bs cs ds (omega arith))

zip_take : (n : ℕ) (xs bs : List ℕ) → take n (zip_with letter_of xs bs) ≡ zip_with letter_of (take n xs) (take n bs)
unfolding zip_with
zip_take zero xs bs = refl
zip_take (suc n) [] bs = refl
zip_take (suc n) (a ∷ xs) [] = refl
zip_take (suc n) (a ∷ xs) (b ∷ bs) = ap (λ (l : List ℕ). letter_of a b ∷ l) (zip_take n xs bs)

-- ---- one more group

module _ (signs generators : List ℕ) (small : Below 256 signs) (small' : Below 256 generators) where
  -- the codes of group k
  abbrev pub group : ℕ → List ℕ
  group k =
      zip_with letter_of (digits 2 8 (get_or signs k 0)) (digits 8 8 (value 256 (part (3 * k) 3 generators)))

  length_group : (k : ℕ) → length (group k) ≡ 8
  length_group k =
      let s = digits 2 8 (get_or signs k 0) in
      let g = digits 8 8 (value 256 (part (3 * k) 3 generators)) in
      length_letters s g (length_digits 2 8 _ ∙ sym (length_digits 8 8 _)) ∙ length_digits 8 8 _

  length_groups : (k : ℕ) → length (group_codes signs generators k) ≡ 8 * k
  unfolding group_codes
  length_groups k =
      length_letters (digits 2 (8 * k) (value 256 (take k signs)))
      (digits 8 (8 * k) (value 256 (take (3 * k) generators)))
      (length_digits 2 (8 * k) _ ∙ sym (length_digits 8 (8 * k) _))
      ∙ length_digits 8 (8 * k) _

  module _ (k : ℕ) (h : k < length signs) (l : 3 * k + 3 ≤ length generators) where
    signs_more : digits 2 (8 * (k + 1)) (value 256 (take (k + 1) signs))
        ≡ digits 2 (8 * k) (value 256 (take k signs)) ++ digits 2 8 (get_or signs k 0)
    signs_more =
        let e : 8 * (k + 1) ≡ 8 * k + 8 = omega arith in
        ap₂ (digits 2) e (value_more 256 signs k h)
        ∙ digits_join 2 (8 * k) 8 (value 256 (take k signs)) (get_or signs k 0) (omega arith) (small k)

    generators_more : digits 8 (8 * (k + 1)) (value 256 (take (3 * (k + 1)) generators))
        ≡ digits 8 (8 * k) (value 256 (take (3 * k) generators))
        ++ digits 8 8 (value 256 (part (3 * k) 3 generators))
    generators_more =
        let e : 8 * (k + 1) ≡ 8 * k + 8 = omega arith in
        let t : 3 * (k + 1) ≡ 3 * k + 3 = omega arith in
        let three = part (3 * k) 3 generators in
        let size = length_part (3 * k) 3 generators l in
        let below : value 256 three < 16777216 =
        subst (λ (i : ℕ). value 256 three < 256 ^ i) size
        (value_below 256 three (below_part 256 (3 * k) 3 generators small')) in
        ap₂ (digits 8) e
        (ap (λ (i : ℕ). value 256 (take i generators)) t
        ∙ ap (value 256) (take-add (3 * k) 3 generators)
        ∙ value_append 256 (take (3 * k) generators) three
        ∙ ap (λ (i : ℕ). value 256 (take (3 * k) generators) * 256 ^ i + value 256 three) size)
        ∙ digits_join 8 (8 * k) 8 (value 256 (take (3 * k) generators)) (value 256 three) (omega arith) below

    groups_more : group_codes signs generators (k + 1) ≡ group_codes signs generators k ++ group k
    unfolding group_codes
    groups_more =
        ap₂ (zip_with letter_of) signs_more generators_more
        ∙ zip_append (digits 2 (8 * k) (value 256 (take k signs)))
        (digits 8 (8 * k) (value 256 (take (3 * k) generators)))
        (digits 2 8 (get_or signs k 0)) (digits 8 8 (value 256 (part (3 * k) 3 generators)))
        (length_digits 2 (8 * k) _ ∙ sym (length_digits 8 (8 * k) _))

    -- eight more codes are put in their place of the row, as the borrow of a part leaves it
    pub group_put : (row codes eight : List ℕ) (n : ℕ) → n ≡ 8
        → codes ≡ overlaid (group_codes signs generators k) row → eight ≡ group k
        → take (8 * k) codes ++ (eight ++ drop n (drop (8 * k) codes))
        ≡ overlaid (group_codes signs generators (k + 1)) row
    group_put row codes eight n e o s =
        ap (λ (l : List ℕ). take (8 * k) codes ++ (l ++ drop n (drop (8 * k) codes))) s
        ∙ laid_more (group_codes signs generators k) (group k) row codes (8 * k) n o (length_groups k)
        (length_group k ∙ sym e)
        ∙ ap (λ (l : List ℕ). overlaid l row) (sym groups_more)

-- ---- the parts of a file, as the code cuts them

-- the numbers that fill the last group of eight have the bits of the filler and of the bytes that fill the group
last_group : (n : ℕ) → (8 * row_bytes 1 n - n) * 3 ≡ filler_bits 3 n + (3 * row_bytes 1 n - row_bytes 3 n) * 8
last_group n =
    let m : ℕ = 3 * row_bytes 1 n - row_bytes 3 n in
    let all : 3 * row_bytes 1 n ≡ row_bytes 3 n + m = omega arith in
    omega arith

module _ (file : List ℕ) (n : ℕ) (z : Sized file n) (k : ℕ) (ek : k ≡ row_bytes 1 n) where
  pub sign_cut : take (6 + k - 6) (drop 6 file) ≡ sign_part file
  sign_cut =
      let e : 6 + k - 6 ≡ row_bytes 1 n = omega arith in
      ap (λ (i : ℕ). take i (drop 6 file)) (e ∙ ap (row_bytes 1) z.number)

  pub generator_cut : take (length file - (6 + k)) (drop (6 + k) file) ≡ generator_part file
  generator_cut =
      let e : length file - (6 + k) ≡ row_bytes 3 n = omega (arith, z.size) in
      ap₂ (λ (i j : ℕ). take i (drop (6 + j) file)) (e ∙ ap (row_bytes 3) z.number) (ek ∙ ap (row_bytes 1) z.number)

  sign_length : length (sign_part file) ≡ k
  sign_length =
      ap length (sym sign_cut)
      ∙ length-take-le (6 + k - 6) (drop 6 file) (omega (arith, z.size, length-drop 6 file))
      ∙ omega arith

  generator_length : length (generator_part file) ≡ row_bytes 3 n
  generator_length =
      ap length (sym generator_cut)
      ∙ length-take-le (length file - (6 + k)) (drop (6 + k) file) (omega (arith, length-drop (6 + k) file))
      ∙ omega (arith, z.size)

  -- the first n codes of all groups are the codes of the file. `rows` are the generators with zero bytes after them
  module _ (rows : List ℕ)
      (er : rows ≡ overlaid (take (length (replicate {A = ℕ} 3750 0)) (generator_part file)) (replicate 3750 0)) where
    -- how many more numbers and bytes there are than the letters need
    abbrev more : ℕ
    more = 8 * k - n

    abbrev bytes_more : ℕ
    bytes_more = 3 * k - row_bytes 3 n

    zero_bytes : List ℕ
    zero_bytes = take bytes_more (drop (length (generator_part file)) (replicate 3750 0))

    rows_taken : take (3 * k) rows ≡ generator_part file ++ zero_bytes
    unfolding overlaid zero_bytes
    rows_taken =
        let gs = generator_part file in
        let l = generator_length in
        let all : 3 * k ≡ length gs + bytes_more = omega arith in
        ap₂ take all
        (er ∙ ap (λ (p : List ℕ). overlaid p (replicate 3750 0))
        (take_all (length (replicate {A = ℕ} 3750 0)) gs (omega (arith, z.few, length-replicate {A = ℕ} 3750 0))))
        ∙ take-append-add gs (drop (length gs) (replicate 3750 0)) bytes_more

    zeros : Below 1 zero_bytes
    unfolding zero_bytes
    zeros =
        take_below bytes_more (drop (length (generator_part file)) (replicate 3750 0))
        (drop_below (length (generator_part file)) (replicate 3750 0) (replicate_zeros 3750))

    zeros_length : length zero_bytes ≡ bytes_more
    unfolding zero_bytes
    zeros_length =
        let few : k ≤ 1250 = omega (arith, z.few) in
        let l : length (replicate {A = ℕ} 3750 0) ≡ 3750 = length-replicate {A = ℕ} 3750 0 in
        let d = length-drop (length (generator_part file)) (replicate {A = ℕ} 3750 0) in
        let g = generator_length in
        length-take-le bytes_more (drop (length (generator_part file)) (replicate 3750 0)) (room d g few)
      where
        room : {a b : ℕ} → a ≡ 3750 - b → b ≡ row_bytes 3 n → k ≤ 1250 → 3 * k - row_bytes 3 n ≤ a
        room ea eb few = omega arith

    all_numbers : 8 * k ≡ n + more
    all_numbers = omega arith

    signs_taken : take n (digits 2 (8 * k) (value 256 (take k (sign_part file)))) ≡ stored_signs file
    unfolding stored_signs
    signs_taken =
        ap₂ (λ (i : ℕ) (l : List ℕ). take n (digits 2 i (value 256 l))) all_numbers
        (take_all k (sign_part file) (omega (arith, sign_length)) ∙ sym (append-nil (sign_part file)))
        ∙ padded_unpacked 1 n more 0 (omega arith) (sign_part file) [] refl (λ i. omega arith)
        ∙ ap (λ (i : ℕ). unpacked_row 1 i (sign_part file)) z.number

    generators_taken : take n (digits 8 (8 * k) (value 256 (take (3 * k) rows))) ≡ stored_generators file
    unfolding stored_generators
    generators_taken =
        ap₂ (λ (i : ℕ) (l : List ℕ). take n (digits 8 i (value 256 l))) all_numbers rows_taken
        ∙ padded_unpacked 3 n more bytes_more
        (subst (λ (i : ℕ). (8 * i - n) * 3 ≡ filler_bits 3 n + (3 * i - row_bytes 3 n) * 8) (sym ek) (last_group n))
        (generator_part file) zero_bytes zeros_length zeros
        ∙ ap (λ (i : ℕ). unpacked_row 3 i (generator_part file)) z.number

    pub codes_taken : (row codes : List ℕ) → codes ≡ overlaid (group_codes (sign_part file) rows k) row
        → take n codes ≡ stored_codes file
    unfolding group_codes overlaid stored_codes
    codes_taken row codes e =
        let ss = digits 2 (8 * k) (value 256 (take k (sign_part file))) in
        let gs = digits 8 (8 * k) (value 256 (take (3 * k) rows)) in
        let l : length (zip_with letter_of ss gs) ≡ 8 * k =
        length_letters ss gs (length_digits 2 (8 * k) _ ∙ sym (length_digits 8 (8 * k) _))
        ∙ length_digits 8 (8 * k) _ in
        ap (take n) e
        ∙ take-append-le n (zip_with letter_of ss gs) _ (omega arith)
        ∙ zip_take n ss gs
        ∙ ap₂ (zip_with letter_of) signs_taken generators_taken

-- ---- the answers

-- three questions with one number
rows_answer : (a b c : Bool) → first_no ((a else 29) ∷ (b else 29) ∷ (c else 29) ∷ []) ≡ cond (a && (b && c)) 0 29
unfolding first_no
rows_answer true true true = refl
rows_answer true true false = refl
rows_answer true false c = refl
rows_answer false b c = refl

module _ (file : List ℕ) (e : first_no (size_questions file) ≡ 0) where
  sizes_passed : Passed (size_questions file)
  sizes_passed = answers_passed (size_questions file) tt e

  pub long : 6 ≤ length file
  long = leb-true 6 (length file) sizes_passed.0

  pub sized : (n : ℕ) → n ≡ letters_stated file → Sized file n
  sized n s =
      let p = sizes_passed in
      let signs = eqb-true (sign_bytes file) _ p.1.1.0 in
      let generators = eqb-true (generator_bytes file) _ p.1.1.1.0 in
      record {
        number = s;
        few = omega (arith, leb-true (letters_stated file) 10000 p.1.0);
        size =
            eqb-true (length file) _ p.1.1.1.1.0
            ∙ ap₂ (λ (x y : ℕ). 6 + x + y) (signs ∙ ap (row_bytes 1) (sym s)) (generators ∙ ap (row_bytes 3) (sym s));
      }

  -- the filler of both rows is zero
  abbrev pub is_filled : ℕ → Bool
  is_filled n = eqb (row_filler 1 n (sign_part file)) 0 && eqb (row_filler 3 n (generator_part file)) 0

  -- if the sizes agree, the letters and the filler decide
  pub stored_answers : (n : ℕ) → n ≡ letters_stated file
      → stored_answer file ≡ cond (every is_letter (stored_codes file) && is_filled n) 0 29
  unfolding stored_answer
  stored_answers n s =
      all_passed (size_questions file) (row_questions file) tt e
      ∙ rows_answer _ _ _
      ∙ ap₂ (λ (a : Bool) (k : ℕ). cond (a && is_filled k) 0 29) (sym (codes_test file)) (sym s)
