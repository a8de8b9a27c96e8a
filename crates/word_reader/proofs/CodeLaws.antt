-- Laws of the codes of any file, accepted or refused: how many there are, and the letter at a place. Laws of the file
-- that a reader keeps: its codes are the letters of the file handed in.
use Prim.Native.Nat.{ℕ, ◌+◌, ◌-◌, ◌*◌, ◌≤◌, ◌<◌, min}
use mathlib.Core.Path.{◌≡◌, refl, sym, ap, ap₂, ◌∙◌}
use mathlib.Core.Bool.{Bool, true, false}
use mathlib.Core.List.{List, []}
use native.Mathlib.Omega.{arith}
use borrow.Author.Tests.{lt-ltb, le-ltb}
use lib.ListN.{length, take, drop, get_or, length-drop, length-take, get_or-eq_default}
use Rattle.base.specs.Questions.{granted}
use Rattle.base.specs.Digits.{value, halves}
use Rattle.base.proofs.QuestionLaws.{granted_zero, granted_refused, granted_ap}
use Rattle.base.proofs.DigitLaws.{length_halves}
use Rattle.word.specs.Words.{stated, codes, word_answer, letters}
use Rattle.word.specs.declared.Letter.{Letter}
use Rattle.word.proofs.ReadLaws.{code_there}
use Rattle.word_reader.specs.Reader.{opened, read_at, place_behind}

abbrev letter : Bool → ℕ → Letter
letter b c = record { left = b; code = c }

-- the empty file has no codes
codes_none : codes [] ≡ []
unfolding codes value
codes_none = refl

module _ (file : List ℕ) where
  -- a file has as many codes as it states, or all its half bytes if there are fewer
  pub count_is : length (codes file) ≡ min (stated file) (2 * (length file - 2))
  unfolding codes
  count_is =
      length-take (stated file) (halves (drop 2 file))
      ∙ ap (λ (n : ℕ). min (stated file) n) (length_halves (drop 2 file) ∙ ap (◌*◌ 2) (length-drop 2 file))

  module _ {n : ℕ} (at : ℕ) (e : n ≡ length (codes file)) where
    -- the letter at a place, as the code reads it
    pub letter_there : at < n → letter true (get_or (halves (take (length file - 2) (drop 2 file))) at 0)
        ≡ read_at file at
    letter_there h = ap₂ letter (sym (lt-ltb at (length (codes file)) (omega arith))) (code_there file (omega arith))

    pub none_left : n ≤ at → letter false 0 ≡ read_at file at
    none_left h =
        let l : length (codes file) ≤ at = omega arith in
        ap₂ letter (sym (le-ltb at (length (codes file)) l)) (sym (get_or-eq_default (codes file) 0 l))

    -- the place after one move, as the code computes it
    pub place_on : at < n → at + 1 ≡ place_behind file at
    place_on h = simp (lt-ltb at (length (codes file)) (omega arith))

    pub place_stays : n ≤ at → at ≡ place_behind file at
    place_stays h = simp (le-ltb at (length (codes file)) (omega arith))

  -- the file that a reader keeps is the file handed in, or the empty file on a refusal
  pub opened_accepted : word_answer file ≡ 0 → opened file ≡ file
  unfolding opened
  opened_accepted e = granted_zero file [] e

  pub opened_refused : (word_answer file ≡ 0 → ⊥) → opened file ≡ []
  unfolding opened
  opened_refused h = granted_refused file [] h

  -- the codes of the file that a reader keeps are the letters of the file handed in
  pub codes_opened : codes (opened file) ≡ letters file
  unfolding opened letters
  codes_opened = granted_ap codes (word_answer file) file [] ∙ ap (granted (word_answer file) (codes file)) codes_none
