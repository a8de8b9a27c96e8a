-- The contracts of `open`, `next` and `moved_on` shut out wrong readers: one that says at its first letter that none is
-- left, one that does not stay past the last letter, and one that has a letter of a refused file.
use Prim.Native.Nat.{ℕ, ◌<◌}
use mathlib.Core.Path.{◌≡◌, refl, sym, ap, ap₂, ◌∙◌}
use mathlib.Core.Bool.{true, false, false≢true, true≢false}
use mathlib.Core.List.{List, [], ◌∷◌}
use native.Mathlib.Omega.{arith}
use borrow.Author.Tests.{lt-ltb}
use lib.Dec.{ltb}
use lib.ListN.{length}
use Rattle.base.specs.Questions.{first_no, granted}
use Rattle.base.specs.Lists.{every}
use Rattle.base.specs.Digits.{value, halves}
use Rattle.word.specs.Words.{codes, filler, word_answer, letters}
use Rattle.word.specs.declared.Letter.{Letter}
use Rattle.word_reader.specs.Reader.{opened, read_at, place_behind}
use Rattle.word_reader.specs.declared.WordReader.{WordReader}
use Rattle.word_reader.proofs.CodeLaws.{codes_opened}
use Rattle.word_reader.proofs.ReadsAll.{letter_at}

-- the word b1: 00 01 00
abbrev one : List ℕ
one = 0 ∷ 1 ∷ 0 ∷ []

one_letter : length (letters one) ≡ 1
unfolding letters word_answer codes filler first_no granted every value halves
one_letter = refl

-- a refused file: in 00 01 70 the code 7 is no letter
abbrev no_word : List ℕ
no_word = 0 ∷ 1 ∷ 112 ∷ []

no_letter : length (letters no_word) ≡ 0
unfolding letters word_answer codes filler first_no granted every value halves
no_letter = refl

-- a reader opened on a file has a letter left at first exactly if the file has letters
left_at_first : (file : List ℕ) (r : WordReader) (t : Letter) → r.file.now ≡ opened file → r.at ≡ 0
    → t ≡ read_at r.file.now r.at
    → t.left ≡ ltb 0 (length (letters file))
left_at_first file r t e z s = (letter_at file 0 e (omega arith) s).left_is

-- a reader with none left at its first letter is wrong on the word b1, and on every word that has a letter
pub none_left_at_first : (r : WordReader) (t : Letter) → r.file.now ≡ opened one → r.at ≡ 0
    → t ≡ read_at r.file.now r.at
    → t.left ≡ false → ⊥
none_left_at_first r t e z s l = false≢true (sym l ∙ left_at_first one r t e z s ∙ ap (ltb 0) one_letter)

pub none_left_at_any_first : (file : List ℕ) → 0 < length (letters file) → (r : WordReader) (t : Letter)
    → r.file.now ≡ opened file → r.at ≡ 0
    → t ≡ read_at r.file.now r.at → t.left ≡ false → ⊥
none_left_at_any_first file h r t e z s l =
    false≢true (sym l ∙ left_at_first file r t e z s ∙ lt-ltb 0 (length (letters file)) h)

-- a reader that has a letter of a refused file is wrong
pub letter_of_refused : (r : WordReader) (t : Letter) → r.file.now ≡ opened no_word → r.at ≡ 0
    → t ≡ read_at r.file.now r.at
    → t.left ≡ true → ⊥
letter_of_refused r t e z s l = true≢false (sym l ∙ left_at_first no_word r t e z s ∙ ap (ltb 0) no_letter)

-- a reader of the word b1 that moves on past its only letter is wrong
pub does_not_stay : (r q : WordReader) → r.file.now ≡ opened one → r.at ≡ 1
    → q.at ≡ place_behind r.file.now r.at → q.at ≡ 2 → ⊥
does_not_stay r q e z s m =
    let stays : place_behind (opened one) 1 ≡ 1 = simp (codes_opened, one_letter) in
    let two : ◌≡◌ {A = ℕ} 2 1 = sym m ∙ s ∙ ap₂ place_behind e z ∙ stays in
    omega arith
