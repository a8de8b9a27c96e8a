-- From bytes to bytes: if shortening answers 0, the file in the output's first bytes, as many as it reports, has the
-- meaning of the word, saves what `Saves` says, has not more letters, and is freely reduced.
use Prim.Native.Nat.{ℕ, ◌≤◌}
use mathlib.Core.Path.{◌≡◌, refl, sym, ap, ◌∙◌}
use mathlib.Core.List.{List}
use native.Mathlib.Omega.{arith}
use lib.ListN.{length, take}
use Rattle.word.specs.Words.{codes, word_file}
use Rattle.word.specs.Reduction.{Irreducible}
use Rattle.word.proofs.ReadLaws.{accepted_word}
use Rattle.word.proofs.RoundTrip.{wrote_file, codes_word_file}
use Rattle.slip_meaning.specs.Meaning.{SameMeaning}
use Rattle.swap_cancel.proofs.SwapCancelLaws.{swapped_length}
use Rattle.word_shortener.specs.Shortener.{Saves, Shortened}

module _ (effort : ℕ) (word before : List ℕ) {after : List ℕ} {bytes : ℕ}
    (s : Shortened effort word before after 0 bytes) where
  -- the new word's file
  file_is : take bytes after ≡ word_file s.new
  file_is = wrote_file s.wrote (sym s.wrote.answer_is)

  pub shortening_keeps_meaning : SameMeaning word (take bytes after)
  shortening_keeps_meaning = rw file_is (s.means refl)

  new_fewer : length s.new ≤ length (codes word)
  new_fewer = omega (arith, (s.saves refl).not_longer, swapped_length (codes word))

  -- its codes
  codes_are : codes (take bytes after) ≡ s.new
  codes_are =
      let old = accepted_word word (s.means refl).old_accepted in
      let few : length s.new ≤ 10000 = omega (arith, new_fewer, old.count, old.few) in
      ap codes file_is ∙ codes_word_file s.new few s.lettered

  pub shortening_saves : Saves effort (codes word) (codes (take bytes after))
  shortening_saves = rw codes_are (s.saves refl)

  pub shortening_fewer : length (codes (take bytes after)) ≤ length (codes word)
  shortening_fewer = rw codes_are new_fewer

  pub shortening_reduced : Irreducible (codes (take bytes after))
  shortening_reduced = rw codes_are s.irreducible
