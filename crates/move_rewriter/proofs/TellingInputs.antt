-- Inputs that tell wrong rewriters from right ones, with the answer and the file that each input must give.
use Prim.Native.Nat.{ℕ}
use mathlib.Core.Path.{◌≡◌, refl}
use mathlib.Core.List.{List, [], ◌∷◌}
use lib.Dec.{lit≤}
use lib.ListN.{replicate}
use Rattle.base.specs.Questions.{first_no}
use Rattle.base.specs.Lists.{every, Bytes, values_from}
use Rattle.base.specs.Digits.{value, digits, halves}
use Rattle.word.specs.Words.{codes, filler, word_answer, packed, word_file}
use Rattle.move_kinds.specs.Kinds.{move}
use Rattle.move_kinds.specs.Rewriting.{move_questions, word_after, rewritten, list_questions}
use Rattle.move_rewriter.proofs.RewriterContract.{Handed, moves_answer}

-- an output with room for a word
abbrev pub out : List ℕ
out = replicate 5002 0

-- an input, and the answer that it must give
pub record Telling (word moves : List ℕ) (answer : ℕ) : Type 0 where
  pub handed : Handed word moves out
  pub answered : moves_answer word moves ≡ answer

telling : (word moves : List ℕ) {n : ℕ} → Bytes word → Bytes moves → word_answer word ≡ 0
    → first_no (list_questions moves) ≡ 0
    → moves_answer word moves ≡ n → Telling word moves n
unfolding every
telling word moves wb mb w l a =
    record {
      handed =
          record {
            word_bytes = wb;
            move_bytes = mb;
            output_bytes = refl;
            room = lit≤ tt;
            word_accepted = w;
            list_accepted = l;
          };
      answered = a;
    }

-- b1 b2 b1, with one move of kind 3 at place 0
abbrev pub braid : List ℕ
braid = 0x00 ∷ 0x03 ∷ 0x01 ∷ 0x00 ∷ []

abbrev pub braiding_moves : List ℕ
braiding_moves = 0x00 ∷ 0x01 ∷ 0x00 ∷ 0x00 ∷ 0x03 ∷ []

pub braid_tells : Telling braid braiding_moves 0
unfolding every values_from first_no value word_answer codes filler halves move_questions word_after move
braid_tells = telling braid braiding_moves refl refl refl refl refl

pub braid_file : word_file (rewritten braid braiding_moves) ≡ 0x00 ∷ 0x03 ∷ 0x10 ∷ 0x10 ∷ []
unfolding values_from value digits codes halves packed word_file word_after move
braid_file = refl

-- b1 b2⁻¹ b1, with one move of kind 3 at place 0
abbrev pub mixed : List ℕ
mixed = 0x00 ∷ 0x03 ∷ 0x09 ∷ 0x00 ∷ []

pub mixed_tells : Telling mixed braiding_moves 23
unfolding every values_from first_no value word_answer codes filler halves move_questions word_after move
mixed_tells = telling mixed braiding_moves refl refl refl refl refl

-- b1 b2, with one move of kind 2 at place 0
abbrev pub near : List ℕ
near = 0x00 ∷ 0x02 ∷ 0x01 ∷ []

abbrev pub near_moves : List ℕ
near_moves = 0x00 ∷ 0x01 ∷ 0x00 ∷ 0x00 ∷ 0x02 ∷ []

pub near_tells : Telling near near_moves 23
unfolding every values_from first_no value word_answer codes filler halves move_questions word_after move
near_tells = telling near near_moves refl refl refl refl refl

-- the empty word, with one insertion of b1 b1⁻¹
abbrev pub empty : List ℕ
empty = 0x00 ∷ 0x00 ∷ []

abbrev pub one_insertion : List ℕ
one_insertion = 0x00 ∷ 0x01 ∷ 0x00 ∷ 0x00 ∷ 0x10 ∷ []

pub one_tells : Telling empty one_insertion 0
unfolding every values_from first_no value word_answer codes filler halves move_questions word_after move
one_tells = telling empty one_insertion refl refl refl refl refl

pub one_file : word_file (rewritten empty one_insertion) ≡ 0x00 ∷ 0x02 ∷ 0x08 ∷ []
unfolding values_from value digits codes halves packed word_file word_after move
one_file = refl

-- The empty word, with two insertions of b1 b1⁻¹: before place 0, and before place 2, which is past the end of the word
-- handed in.
abbrev pub two_insertions : List ℕ
two_insertions = 0x00 ∷ 0x02 ∷ 0x00 ∷ 0x00 ∷ 0x00 ∷ 0x02 ∷ 0x10 ∷ 0x10 ∷ []

pub two_tell : Telling empty two_insertions 0
unfolding every values_from first_no value word_answer codes filler halves move_questions word_after move
two_tell = telling empty two_insertions refl refl refl refl refl

pub two_file : word_file (rewritten empty two_insertions) ≡ 0x00 ∷ 0x04 ∷ 0x08 ∷ 0x08 ∷ []
unfolding values_from value digits codes halves packed word_file word_after move
two_file = refl

-- 10,000 letters, of which the first two are b1 b1⁻¹, with the removal of these two and then an insertion
abbrev pub full : List ℕ
full = 0x27 ∷ 0x10 ∷ 0x08 ∷ replicate 4999 0

abbrev pub removal_first : List ℕ
removal_first = 0x00 ∷ 0x02 ∷ 0x00 ∷ 0x00 ∷ 0x00 ∷ 0x00 ∷ 0x01 ∷ 0x10 ∷ []

pub full_tells : Telling full removal_first 0
unfolding every values_from first_no value word_answer codes filler halves move_questions word_after move
full_tells = telling full removal_first refl refl refl refl refl
