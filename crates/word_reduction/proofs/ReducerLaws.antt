-- The reduced codes of an accepted word pass the writer's questions: they are letters, at most 10,000 of them.
use Prim.Native.Nat.{ℕ, ◌≤◌}
use mathlib.Core.Path.{◌≡◌}
use mathlib.Core.Bool.{true}
use mathlib.Core.List.{List}
use native.Mathlib.Omega.{arith}
use lib.ListN.{length}
use Rattle.base.specs.Lists.{every}
use Rattle.word.specs.Letters.{is_letter}
use Rattle.word.specs.Words.{codes, word_answer}
use Rattle.word.specs.Reduction.{reduced}
use Rattle.word.proofs.ReadLaws.{accepted_word}
use Rattle.word.proofs.ReductionLaws.{reduced_lettered, reduced_length}

module _ (word : List ℕ) (e : word_answer word ≡ 0) where
  pub reduced_few : length (reduced (codes word)) ≤ 10000
  reduced_few = omega (arith, reduced_length (codes word), (accepted_word word e).count, (accepted_word word e).few)

  pub reduced_letters : every is_letter (reduced (codes word)) ≡ true
  reduced_letters = reduced_lettered (codes word) (accepted_word word e).lettered
