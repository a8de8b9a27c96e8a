-- Pair replacement keeps what a Y word means, from bytes to bytes. On answer 0 the new Y word, turned into Artin
-- letters, is the same braid as the old one. So, if neither is refused by the conversion to Artin letters, the two
-- Artin words have the same meaning: they carry every pair alike, and every verdict gives both the same answer.
use Prim.Native.Nat.{ℕ, ◌+◌, ◌≤◌}
use mathlib.Core.Path.{◌≡◌, refl, sym, ap, ◌∙◌, subst₂}
use mathlib.Core.List.{List, [], ◌∷◌, ◌++◌}
use lib.ListN.{length, take, drop, get_or}
use Rattle.base.specs.Questions.{first_no}
use Rattle.word.specs.Words.{codes, word_answer, word_file, Wrote}
use Rattle.word.proofs.LetterLaws.{Lettered}
use Rattle.word.proofs.CancellationLaws.{around}
use Rattle.word.proofs.ReadLaws.{accepted_word}
use Rattle.word.proofs.RoundTrip.{codes_word_file, wrote_file}
use Rattle.word_dialect.specs.Dialect.{from_y, converted, WroteConverted}
use Rattle.word_dialect.proofs.ConversionLaws.{converted_append}
use Rattle.word_dialect.proofs.RoundTrip.{output_accepted, output_codes}
use Rattle.braid_same.specs.SameBraid.{SameBraid}
use Rattle.braid_same.proofs.Laws.{same_inside}
use Rattle.braid_relations.specs.Relations.{appendix_parts, artin, relations, replacement}
use Rattle.braid_relations.proofs.RowLaws.{appendix_parts_lem}
use Rattle.braid_relations.proofs.ReplacementKeeps.{pair_same}
use Rattle.slip_meaning.specs.Meaning.{SameMeaning}
use Rattle.slip_meaning.proofs.SameBraids.{same_braid_means}
use Rattle.word_replacement.specs.Replacement.{pair_replaced, replacement_questions, ReplacedPair}
use Rattle.word_replacement.proofs.ReplaceLaws.{first_letter, second_letter, replaced_lettered, accepted}

-- three words one after another, turned into Artin letters
artin_three : (u m v : List ℕ) → artin (u ++ (m ++ v)) ≡ artin u ++ (artin m ++ artin v)
artin_three u m v =
    converted_append from_y appendix_parts appendix_parts_lem u (m ++ v)
    ∙ ap (λ (x : List ℕ). artin u ++ x) (converted_append from_y appendix_parts appendix_parts_lem m v)

-- the word with a replaced pair
pub replaced_same : (w : List ℕ) (place : ℕ) → Lettered w → place + 2 ≤ length w
    → SameBraid (artin w) (artin (pair_replaced place w))
unfolding pair_replaced
replaced_same w place e two =
    let c = get_or w place 0 in
    let d = get_or w (place + 1) 0 in
    let front = take place w in
    let rest = drop (place + 2) w in
    let whole : artin w ≡ artin front ++ (artin (c ∷ d ∷ []) ++ artin rest) =
    ap artin (sym (around place w two)) ∙ artin_three front (c ∷ d ∷ []) rest in
    subst₂ SameBraid (sym whole) (sym (artin_three front (replacement relations c d) rest))
    (same_inside (artin front) (artin rest)
    (pair_same c d (first_letter w place e two) (second_letter w place e two)))

-- what the operation writes
module _ (word : List ℕ) (place : ℕ) {before after : List ℕ} {answer bytes : ℕ}
    (w : Wrote (replacement_questions (length before) word place) (word_file (pair_replaced place (codes word)))
    before after answer bytes) where
  replacing_keeps : answer ≡ 0 → SameBraid (artin (codes word)) (artin (codes (take bytes after)))
  replacing_keeps z =
      let e : first_no (replacement_questions (length before) word place) ≡ 0 = sym w.answer_is ∙ z in
      let a = accepted (length before) word place e in
      let l = (accepted_word word a.0).lettered in
      let new : codes (take bytes after) ≡ pair_replaced place (codes word) =
      ap codes (wrote_file w e)
      ∙ codes_word_file (pair_replaced place (codes word)) a.2 (replaced_lettered (codes word) place l a.1) in
      rw new (replaced_same (codes word) place l a.1)

  -- an operation that gives the right numbers and leaves the right bytes meets the whole contract
  pub replaced_whole : ReplacedPair word place before after answer bytes
  replaced_whole = record { wrote = w; keeps = replacing_keeps }

-- the Artin words of a Y word and of the word with a replaced pair have the same meaning
pub replacement_keeps_meaning : (word : List ℕ) (place : ℕ) {before after out new out' new' : List ℕ}
    {bytes bytes₁ bytes₂ : ℕ}
    → ReplacedPair word place before after 0 bytes
    → WroteConverted from_y word appendix_parts out new 0 bytes₁
    → WroteConverted from_y (take bytes after) appendix_parts out' new' 0 bytes₂
    → SameMeaning (take bytes₁ new) (take bytes₂ new')
replacement_keeps_meaning word place {after = after} {new = new} {new' = new'} {bytes} {bytes₁} {bytes₂} r w v =
    same_braid_means (take bytes₁ new) (take bytes₂ new') (output_accepted from_y word appendix_parts w)
    (output_accepted from_y (take bytes after) appendix_parts v)
    (subst₂ SameBraid (sym (output_codes from_y word appendix_parts w))
    (sym (output_codes from_y (take bytes after) appendix_parts v)) (r.keeps refl))
