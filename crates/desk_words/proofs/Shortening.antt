-- A file with the meaning of a slip's word gets the same verdict, so the shortened slip opens if the slip opens.
use Prim.Native.Nat.{ℕ}
use mathlib.Core.Path.{◌≡◌, refl, sym, ◌∙◌}
use mathlib.Core.Bool.{true}
use mathlib.Core.List.{List}
use lib.ListN.{take, replicate}
use Rattle.base.proofs.QuestionLaws.{passes}
use Rattle.word.specs.Words.{word_answer, word_file}
use Rattle.slip_verdict.specs.Verdict.{verdict}
use Rattle.slip_verdict.proofs.VerdictIff.{zero_iff_signs}
use Rattle.slip_meaning.specs.Meaning.{SameMeaning}
use Rattle.word_shortener.specs.Shortener.{Shortened}
use Rattle.desk_words.specs.Making.{MakesNew, Shortens}
use Rattle.desk_words.specs.declared.Made.{Made}
use Rattle.desk_words.proofs.MakingLaws.{wrote_makes, makes_as, made_file}

-- if the slip opens, its word is accepted, and a file with the word's meaning opens the slip too
module _ (key digest word : List ℕ) (z : verdict key digest word ≡ 0) where
  pub opened_word : word_answer word ≡ 0
  opened_word = ((zero_iff_signs key digest word).0 z).word_accepted

  same_opens : (new : List ℕ) → SameMeaning word new → verdict key digest new ≡ 0
  same_opens new m =
      let s = (zero_iff_signs key digest word).0 z in
      m.verdicts key digest s.key_accepted s.digest_accepted ∙ z

  -- what is made of the slip, by the shortener's contract. Its output of 5,006 bytes has room, so question 15 is passed
  module _ (made : Made) (r : made.read ≡ true)
      {effort : ℕ} (s : Shortened effort word (replicate 5006 0) made.file made.answer made.bytes) where
    made_new : MakesNew true (verdict key digest word) (word_file s.new) made
    unfolding word_answer
    made_new = makes_as (opened_word ∙ sym z) (wrote_makes _ r s.wrote (passes 15 _ refl))

    pub made_answer : made.answer ≡ 0
    made_answer = made_new.answer_is ∙ z

    made_means : SameMeaning word (take made.bytes made.file)
    made_means = rw (made_file made_new made_answer) (s.means made_answer)

    pub shortens_opened : Shortens effort true key digest word made
    shortens_opened =
        record {
          new = s.new;
          makes = made_new;
          saves = λ _. s.saves made_answer;
          irreducible = s.irreducible;
          keeps = λ _. made_means;
          opens = λ _. same_opens _ made_means;
        }
