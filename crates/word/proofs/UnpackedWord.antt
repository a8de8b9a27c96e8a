-- An accepted word of n letters is unpacked into a row of 10,000 codes. The row has room for it, and its letters are
-- the first n codes of the row.
use Prim.Native.Nat.{ℕ, ◌-◌, ◌*◌, ◌≤◌}
use mathlib.Core.Path.{◌≡◌, ap, ap₂, ◌∙◌}
use mathlib.Core.List.{List, ◌++◌}
use native.Mathlib.Omega.{arith}
use lib.ListN.{length, take, drop, length-drop}
use lib.Seq.{take-append-le}
use Rattle.base.specs.Lists.{overlaid}
use Rattle.base.specs.Digits.{halves}
use Rattle.base.proofs.DigitLaws.{length_halves}
use Rattle.word.specs.Words.{stated, codes, letters, word_answer}
use Rattle.word.proofs.ReadLaws.{accepted_word, count_stated, part_is}

module _ (word : List ℕ) {n : ℕ} (count : n ≡ length (letters word)) (z : word_answer word ≡ 0) where
  -- the row has room for all half bytes of the part that holds the codes
  pub bytes_fit : 2 * length (take (length word - 2) (drop 2 word)) ≤ 10000
  bytes_fit =
      rw (part_is word) (omega (arith, (accepted_word word z).size, (accepted_word word z).few, length-drop 2 word))

  pub unpacked : (row₀ row : List ℕ) → row ≡ overlaid (halves (take (length word - 2) (drop 2 word))) row₀
      → take n row ≡ codes word
  unfolding codes overlaid
  unpacked row₀ row e =
      let hs = halves (drop 2 word) in
      let enough : stated word ≤ length hs =
      omega (arith, (accepted_word word z).size, length-drop 2 word, length_halves (drop 2 word)) in
      ap₂ (λ (k : ℕ) (r : List ℕ). take k r) (count_stated word z count)
      (e ∙ ap (λ (l : List ℕ). halves l ++ drop (length (halves l)) row₀) (part_is word))
      ∙ take-append-le (stated word) hs (drop (length hs) row₀) enough
