-- The contract shuts out wrong rewriters: on some input each does what the contract does not allow.
use Prim.Native.Nat.{ℕ, zero, suc, ◌+◌, ◌*◌, ◌-◌, ◌≤◌, ◌<◌}
use mathlib.Core.Path.{◌≡◌, refl, sym, ap, ◌∙◌}
use mathlib.Core.Bool.{true}
use mathlib.Core.List.{List, [], ◌∷◌, ◌++◌}
use native.Mathlib.Omega.{arith}
use lib.Dec.{lit≤, lit<}
use lib.ListN.{length, take, drop, get_or}
use Rattle.base.specs.Questions.{first_no}
use Rattle.base.specs.Lists.{values_from}
use Rattle.base.specs.Digits.{value, digits, part, halves}
use Rattle.word.specs.Letters.{inverse, neighbours}
use Rattle.word.specs.Words.{codes, packed, word_file}
use Rattle.move_kinds.specs.Kinds.{inserts, move}
use Rattle.move_kinds.specs.Rewriting.{Step, move_count, step_at, steps, move_questions, word_after, rewritten}
use Rattle.move_rewriter.proofs.RewriterContract.{Rewriter, written, Handed, Meets, moves_answer, answer_of}
use Rattle.move_rewriter.proofs.RewriterContract.{file_of, bytes_of}
use Rattle.move_rewriter.proofs.TellingInputs.{out, Telling, braid, braiding_moves, braid_tells, braid_file}
use Rattle.move_rewriter.proofs.TellingInputs.{mixed, mixed_tells, near, near_moves, near_tells, empty}
use Rattle.move_rewriter.proofs.TellingInputs.{one_insertion, one_tells, one_file, two_insertions, two_tell}
use Rattle.move_rewriter.proofs.TellingInputs.{two_file, full, removal_first, full_tells}

-- ---- what some wrong rewriters do

-- the place of a list's first move; `letter` is the letter k places after it
abbrev pub first_place : List ℕ → ℕ
first_place moves = (step_at moves 0).place

abbrev pub letter : List ℕ → List ℕ → ℕ → ℕ
letter word moves k = get_or (codes word) (first_place moves + k) 0

-- n moves from move k on, each kind read right after its place
unfoldable pub interleaved : List ℕ → ℕ → ℕ → List Step
interleaved moves k zero = []
interleaved moves k (suc n) =
    record { place = value 256 (part (2 + 3 * k) 2 moves); kind = get_or moves (4 + 3 * k) 0 }
    ∷ interleaved moves (suc k) n

-- an insertion that writes the inverse first
abbrev pub inverse_first : ℕ → ℕ → List ℕ → List ℕ
inverse_first c place w = take place w ++ (inverse c ∷ c ∷ drop place w)

-- ---- no wrong rewriter meets the contract

module _ (f : Rewriter) (meets : Meets f) where
  -- what a right rewriter answers and writes on a telling input
  answers : {word moves : List ℕ} {n : ℕ} → Telling word moves n → (f word moves out).answer ≡ n
  answers t = answer_of f meets t.handed ∙ t.answered

  writes : {word moves file : List ℕ} → Telling word moves 0 → word_file (rewritten word moves) ≡ file
      → written (f word moves out) ≡ file
  writes t e = file_of f meets t.handed t.answered ∙ e

  -- a rewriter that copies its input
  pub no_copy : ((word moves before : List ℕ) → Handed word moves before → moves_answer word moves ≡ 0
      → written (f word moves before) ≡ word) → ⊥
  no_copy wrong =
      let e =
      sym (wrong braid braiding_moves out braid_tells.handed braid_tells.answered)
      ∙ writes braid_tells braid_file in
      omega (arith, ap (λ (l : List ℕ). get_or l 2 0) e)

  -- a rewriter that makes the first move and skips the rest
  pub no_first_move_only : ((word moves before : List ℕ) → Handed word moves before → moves_answer word moves ≡ 0
      → written (f word moves before) ≡ word_file (word_after (take 1 (steps moves)) (codes word))) → ⊥
  unfolding values_from value digits codes halves packed word_file word_after move
  no_first_move_only wrong =
      let e = sym (wrong empty two_insertions out two_tell.handed two_tell.answered) ∙ writes two_tell two_file in
      omega (arith, ap (λ (l : List ℕ). get_or l 1 0) e)

  -- a rewriter that gives 22 for a place past the end of the word handed in, before trying its moves
  pub no_early_22 : ((word moves before : List ℕ) → Handed word moves before
      → (k : ℕ) → k < move_count moves → length (codes word) < (step_at moves k).place
      → (f word moves before).answer ≡ 22)
      → ⊥
  unfolding value codes halves
  no_early_22 wrong =
      let e = sym (wrong empty two_insertions out two_tell.handed 1 (lit< tt) (lit< tt)) ∙ answers two_tell in
      omega arith

  -- a rewriter that gives 24 for an insertion for which the word handed in has no room, before trying its moves
  pub no_early_24 : ((word moves before : List ℕ) → Handed word moves before
      → (k : ℕ) → k < move_count moves → inserts (step_at moves k).kind ≡ true → 10000 < length (codes word) + 2
      → (f word moves before).answer ≡ 24) → ⊥
  unfolding value codes halves
  no_early_24 wrong =
      let e = sym (wrong full removal_first out full_tells.handed 1 (lit< tt) refl (lit< tt)) ∙ answers full_tells in
      omega arith

  -- a rewriter that reports, on any one input, a number of bytes that is not that of the word
  pub no_other_bytes : (word moves before : List ℕ) → Handed word moves before → moves_answer word moves ≡ 0
      → ((f word moves before).bytes ≡ length (word_file (rewritten word moves)) → ⊥) → ⊥
  no_other_bytes word moves before h e wrong = wrong (bytes_of f meets h e)

  -- a rewriter that reads each kind right after its place
  pub no_interleaving : ((word moves before : List ℕ) → Handed word moves before
      → (f word moves before).answer
      ≡ first_no (move_questions (interleaved moves 0 (move_count moves)) (codes word))) → ⊥
  unfolding interleaved first_no value codes halves move_questions word_after move
  no_interleaving wrong =
      let e = sym (wrong empty two_insertions out two_tell.handed) ∙ answers two_tell in
      omega arith

  -- a rewriter whose kind 2 swaps letters whose generators differ by 1
  pub no_near_exchange : ((word moves before : List ℕ) → Handed word moves before → move_count moves ≡ 1
      → (step_at moves 0).kind ≡ 2
      → first_place moves + 2 ≤ length (codes word) → neighbours (letter word moves 0) (letter word moves 1) ≡ true
      → (f word moves before).answer ≡ 0) → ⊥
  unfolding value codes halves
  no_near_exchange wrong =
      let e = sym (wrong near near_moves out near_tells.handed refl refl (lit≤ tt) refl) ∙ answers near_tells in
      omega arith

  -- a rewriter whose kind 3 ignores the signs
  pub no_mixed_signs : ((word moves before : List ℕ) → Handed word moves before → move_count moves ≡ 1
      → (step_at moves 0).kind ≡ 3
      → first_place moves + 3 ≤ length (codes word) → neighbours (letter word moves 0) (letter word moves 1) ≡ true
      → letter word moves 2 ≡ letter word moves 0
      → (f word moves before).answer ≡ 0) → ⊥
  unfolding value codes halves
  no_mixed_signs wrong =
      let e =
      sym (wrong mixed braiding_moves out mixed_tells.handed refl refl (lit≤ tt) refl refl) ∙ answers mixed_tells in
      omega arith

  -- a rewriter whose insertions write the inverse first
  pub no_inverse_first : ((word moves before : List ℕ) → Handed word moves before → moves_answer word moves ≡ 0
      → move_count moves ≡ 1
      → inserts (step_at moves 0).kind ≡ true
      → written (f word moves before)
      ≡ word_file (inverse_first ((step_at moves 0).kind - 16) (first_place moves) (codes word))) → ⊥
  unfolding value digits codes halves packed word_file
  no_inverse_first wrong =
      let e =
      sym (wrong empty one_insertion out one_tells.handed one_tells.answered refl refl)
      ∙ writes one_tells one_file in
      omega (arith, ap (λ (l : List ℕ). get_or l 2 0) e)
