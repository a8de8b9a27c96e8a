-- Laws of the word reader: the part of a file that holds the codes, as the code cuts it; what is known of an accepted
-- file; and what the reader returns.
use Prim.Native.Nat.{ℕ, ◌-◌, ◌*◌, ◌≤◌, ◌<◌}
use mathlib.Core.Path.{◌≡◌, refl, sym, ap, ap₂, ◌∙◌}
use mathlib.Core.Bool.{true, false}
use mathlib.Core.List.{List, []}
use native.Mathlib.Omega.{arith}
use borrow.Author.Tests.{leb-true, eqb-true, lt-ltb, le-ltb}
use lib.Dec.{eqb}
use lib.ListN.{length, take, drop, get_or, length-drop, length-take, get_or-eq_default}
use lib.Seq.{length-take-le, get_or-take, take_all}
use Rattle.base.specs.Lists.{every}
use Rattle.base.specs.Digits.{halves}
use Rattle.base.proofs.QuestionLaws.{answers_passed, granted_zero, granted_refused, granted_either}
use Rattle.base.proofs.DigitLaws.{length_halves}
use Rattle.word.specs.Letters.{is_letter}
use Rattle.word.specs.Words.{stated, needed, codes, filler, word_questions, word_answer, letters, code_part, Read}
use Rattle.word.specs.Words.{LetterAt}

-- ---- the part after the two length bytes of any file, as the code cuts it

module _ (file : List ℕ) where
  pub part_is : take (length file - 2) (drop 2 file) ≡ drop 2 file
  part_is = take_all (length file - 2) (drop 2 file) (omega (arith, length-drop 2 file))

  pub codes_there : {n : ℕ} → n ≡ stated file → take n (halves (take (length file - 2) (drop 2 file))) ≡ codes file
  unfolding codes
  codes_there s = ap₂ (λ (n : ℕ) (l : List ℕ). take n (halves l)) s part_is

  pub filler_there : {n : ℕ} → n ≡ stated file → drop n (halves (take (length file - 2) (drop 2 file))) ≡ filler file
  unfolding filler
  filler_there s = ap₂ (λ (n : ℕ) (l : List ℕ). drop n (halves l)) s part_is

  pub code_there : {at : ℕ} → at < length (codes file)
      → get_or (halves (take (length file - 2) (drop 2 file))) at 0 ≡ get_or (codes file) at 0
  unfolding codes
  code_there {at} h =
      ap (λ (l : List ℕ). get_or (halves l) at 0) part_is
      ∙ sym (get_or-take (stated file) (halves (drop 2 file)) at 0
      (omega (arith, length-take (stated file) (halves (drop 2 file)))))

-- ---- an accepted file

pub record AcceptedWord (file : List ℕ) : Type 0 where
  pub long : 2 ≤ length file
  pub few : stated file ≤ 10000
  pub size : length file ≡ needed (stated file)
  pub lettered : every is_letter (codes file) ≡ true
  pub filled : every (λ h. eqb h 0) (filler file) ≡ true
  pub count : length (codes file) ≡ stated file

module _ (file : List ℕ) where
  pub accepted_word : word_answer file ≡ 0 → AcceptedWord file
  unfolding word_answer codes
  accepted_word e =
      let p = answers_passed (word_questions file) tt e in
      let size = eqb-true (length file) (needed (stated file)) p.1.1.0 in
      record {
        long = leb-true 2 (length file) p.0;
        few = leb-true (stated file) 10000 p.1.0;
        size = size;
        lettered = p.1.1.1.0;
        filled = p.1.1.1.1.0;
        count =
            length-take-le (stated file) (halves (drop 2 file))
            (omega (arith, size, length_halves (drop 2 file), length-drop 2 file));
      }

  pub letters_accepted : word_answer file ≡ 0 → letters file ≡ codes file
  unfolding letters
  letters_accepted e = granted_zero (codes file) [] e

  pub count_stated : {n : ℕ} → word_answer file ≡ 0 → n ≡ length (letters file) → n ≡ stated file
  count_stated e s = s ∙ ap length (letters_accepted e) ∙ (accepted_word e).count

  -- n is the number of letters that the reader returns: at most 10,000, and the part after the two length bytes holds n
  -- codes
  module _ (e : word_answer file ≡ 0) (n : ℕ) (s : n ≡ length (letters file)) where
    pub count_few : n ≤ 10000
    count_few = omega (arith, count_stated e s, (accepted_word e).few)

    pub part_enough : n ≤ 2 * length (take (length file - 2) (drop 2 file))
    part_enough = omega (arith, count_stated e s, (accepted_word e).size, ap length (part_is file), length-drop 2 file)

    pub part_codes : take n (halves (take (length file - 2) (drop 2 file))) ≡ codes file
    part_codes = codes_there file (count_stated e s)

  -- ---- what the reader returns

  pub read_refused : {answer count : ℕ} (n : ℕ) → (answer ≡ n) × (count ≡ 0) → word_answer file ≡ n → (n ≡ 0 → ⊥)
      → Read file answer count
  unfolding letters
  read_refused n r e h =
      record {
        answer_is = r.0 ∙ sym e;
        count_is = r.1 ∙ ap length (sym (granted_refused (codes file) [] (λ z. h (sym e ∙ z))));
      }

  pub read_accepted : word_answer file ≡ 0 → (n : ℕ) → n ≡ stated file → Read file 0 n
  read_accepted e n s = record { answer_is = sym e; count_is = s ∙ sym (count_stated e refl) }

  -- a file that has a letter is accepted
  pub some_letter : {answer n : ℕ} (place : ℕ) → Read file answer n → place < n → word_answer file ≡ 0
  unfolding letters
  some_letter place r h =
      granted_either (λ (l : List ℕ). place < length l → word_answer file ≡ 0) (word_answer file) (codes file) []
      (λ e l. e) (λ l. absurd (omega arith)) (omega (arith, r.count_is))

  pub letter_there : {answer n : ℕ} (place : ℕ) → Read file answer n → place < n
      → LetterAt file place true (get_or (halves (take (length file - 2) (drop 2 file))) place 0)
  letter_there place r h =
      let l = letters_accepted (some_letter place r h) in
      record {
        left_is = sym (lt-ltb place (length (letters file)) (omega (arith, r.count_is)));
        code_is =
            code_there file (omega (arith, r.count_is, ap length l)) ∙ ap (λ (l : List ℕ). get_or l place 0) (sym l);
      }

  pub none_left : {answer n : ℕ} (place : ℕ) → Read file answer n → n ≤ place → LetterAt file place false 0
  none_left place r h =
      let l : length (letters file) ≤ place = omega (arith, r.count_is) in
      record {
        left_is = sym (le-ltb place (length (letters file)) l);
        code_is = sym (get_or-eq_default (letters file) 0 l);
      }

  -- the part that the code cuts from an accepted file is the part that holds the codes
  pub part_accepted : word_answer file ≡ 0 → take (length file - 2) (drop 2 file) ≡ code_part file
  unfolding code_part
  part_accepted e = part_is file ∙ sym (granted_zero (drop 2 file) [] e)

  pub part_refused : (word_answer file ≡ 0 → ⊥) → [] ≡ code_part file
  unfolding code_part
  part_refused h = sym (granted_refused (drop 2 file) [] h)
