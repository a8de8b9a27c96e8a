-- The contract shuts out wrong programs: each differs on some input from every function that meets the contract. One
-- step: the handle that begins earliest, or the one that ends last; a letter of the same generator or of the one before
-- allowed between the ends; the signs of the new letters exchanged; the last end kept. Then: a step more than the
-- limit; 32 where a step leaves 10,000 letters; the length of the last word alone; `left` always no.
use Prim.Native.Nat.{ℕ, zero, suc, ◌+◌, ◌-◌, ◌≤◌}
use mathlib.Core.Path.{◌≡◌, refl, sym, ◌∙◌}
use mathlib.Core.Bool.{Bool, false, cond, not, ◌&&◌}
use mathlib.Core.List.{List, [], ◌∷◌, ◌++◌}
use native.Mathlib.Omega.{arith}
use lib.Dec.{ltb, eqb, lit≤}
use lib.ListN.{length, take, drop, get_or, replicate}
use Rattle.base.specs.Questions.{first_no}
use Rattle.base.specs.Lists.{first_from, every, equal, Bytes}
use Rattle.base.specs.Digits.{value, digits, halves}
use Rattle.base.proofs.ListLaws.{true_false, equal_of}
use Rattle.word.specs.Letters.{generator, inverse}
use Rattle.word.specs.Words.{codes, filler, word_answer, packed, word_file}
use Rattle.braid_handles.specs.Handles.{between, is_handle, start_of, ends, earliest_end, has_handle, conjugated}
use Rattle.braid_handles.specs.Handles.{handle_reduced, stepped, after_steps, step_questions}
use Rattle.braid_handles.proofs.Runs.{steps_answer}
use Rattle.handle_reducer.proofs.ReducerContract.{Reducer, written, Handed, Meets, answer_of, file_of, left_of}

-- ---- wrong steps

-- the handle that begins earliest
end_for : List ℕ → ℕ → ℕ
end_for w p = first_from (λ q. is_handle w p q) (p + 1) (length w - (p + 1))

first_start : List ℕ → ℕ
first_start w = first_from (λ p. ltb (end_for w p) (length w)) 0 (length w)

pub begins_earliest : List ℕ → List ℕ
begins_earliest w = cond (has_handle w) (handle_reduced (first_start w) (end_for w (first_start w)) w) w

-- the handle that ends last, of those that end at the first n places
last_end : List ℕ → ℕ → ℕ
last_end w zero = 0
last_end w (suc n) = cond (ends w n) n (last_end w n)

pub ends_last : List ℕ → List ℕ
ends_last w = let q : ℕ = last_end w (length w) in cond (has_handle w) (handle_reduced (start_of w q) q w) w

-- another test of the letters between the ends
module _ (may : ℕ → ℕ → Bool) where
  start_by : List ℕ → ℕ → ℕ
  start_by w q =
      first_from (λ p. eqb (get_or w q 0) (inverse (get_or w p 0)) && every (may (get_or w p 0)) (between p q w)) 0 q

  end_by : List ℕ → ℕ
  end_by w = first_from (λ q. ltb (start_by w q) q) 0 (length w)

  step_by : List ℕ → List ℕ
  step_by w = cond (ltb (end_by w) (length w)) (handle_reduced (start_by w (end_by w)) (end_by w) w) w

-- the generator before may stand between
pub before_allowed : List ℕ → List ℕ
before_allowed = step_by (λ c d. not (eqb (generator d) (generator c)))

-- the generator itself may stand between
pub own_allowed : List ℕ → List ℕ
own_allowed = step_by (λ c d. not (eqb (generator d + 1) (generator c)))

-- the signs e and -e exchanged
exchanged_signs : ℕ → List ℕ → List ℕ
exchanged_signs c [] = []
exchanged_signs c (d ∷ m) =
    cond (eqb (generator d) (generator c + 1)) ((c + 1) ∷ (d - 1) ∷ inverse (c + 1) ∷ []) (d ∷ [])
    ++ exchanged_signs c m

pub signs_exchanged : List ℕ → List ℕ
signs_exchanged w =
    let q : ℕ = earliest_end w in
    let p : ℕ = start_of w q in
    cond (has_handle w) (take p w ++ (exchanged_signs (get_or w p 0) (between p q w) ++ drop (q + 1) w)) w

-- the letter at the handle's end stays
pub end_kept : List ℕ → List ℕ
end_kept w =
    let q : ℕ = earliest_end w in
    let p : ℕ = start_of w q in
    cond (has_handle w) (take p w ++ (conjugated (get_or w p 0) (between p q w) ++ drop q w)) w

-- ---- inputs on which wrong programs differ from right ones

-- an output with room for a word
abbrev out : List ℕ
out = replicate 5002 0

handed : (word : List ℕ) (limit : ℕ) → Bytes word → limit ≤ 65535 → word_answer word ≡ 0 → Handed word limit out
unfolding every
handed word limit b l a =
    record { word_bytes = b; output_bytes = refl; limit_fits = l; room = lit≤ tt; word_accepted = a }

-- an accepted word, and the file that one step must leave
record Telling (word file : List ℕ) : Type 0 where
  given : Handed word 1 out
  answered : steps_answer 1 (codes word) ≡ 0
  filed : word_file (after_steps 1 (codes word)) ≡ file

-- b1 b3 b3⁻¹ b1⁻¹ becomes b1 b1⁻¹
abbrev nested : List ℕ
nested = 0x00 ∷ 0x04 ∷ 0x02 ∷ 0xA8 ∷ []

nested_tells : Telling nested (0x00 ∷ 0x02 ∷ 0x08 ∷ [])
unfolding every first_no value digits halves word_answer codes filler packed word_file first_from is_handle start_of
    earliest_end conjugated stepped after_steps step_questions
nested_tells = record { given = handed nested 1 refl (lit≤ tt) refl; answered = refl; filed = refl }

-- b1 b1⁻¹ b2 b2⁻¹ becomes b2 b2⁻¹
abbrev both : List ℕ
both = 0x00 ∷ 0x04 ∷ 0x08 ∷ 0x19 ∷ []

both_tells : Telling both (0x00 ∷ 0x02 ∷ 0x19 ∷ [])
unfolding every first_no value digits halves word_answer codes filler packed word_file first_from is_handle start_of
    earliest_end conjugated stepped after_steps step_questions
both_tells = record { given = handed both 1 refl (lit≤ tt) refl; answered = refl; filed = refl }

-- b2 b1 b2⁻¹ has no handle
abbrev less : List ℕ
less = 0x00 ∷ 0x03 ∷ 0x10 ∷ 0x90 ∷ []

less_tells : Telling less (0x00 ∷ 0x03 ∷ 0x10 ∷ 0x90 ∷ [])
unfolding every first_no value digits halves word_answer codes filler packed word_file first_from is_handle start_of
    earliest_end conjugated stepped after_steps step_questions
less_tells = record { given = handed less 1 refl (lit≤ tt) refl; answered = refl; filed = refl }

-- b1 b3 b1 b1⁻¹ becomes b1 b3
abbrev own : List ℕ
own = 0x00 ∷ 0x04 ∷ 0x02 ∷ 0x08 ∷ []

own_tells : Telling own (0x00 ∷ 0x02 ∷ 0x02 ∷ [])
unfolding every first_no value digits halves word_answer codes filler packed word_file first_from is_handle start_of
    earliest_end conjugated stepped after_steps step_questions
own_tells = record { given = handed own 1 refl (lit≤ tt) refl; answered = refl; filed = refl }

-- b1 b2 b1⁻¹ becomes b2⁻¹ b1 b2
abbrev next : List ℕ
next = 0x00 ∷ 0x03 ∷ 0x01 ∷ 0x80 ∷ []

next_tells : Telling next (0x00 ∷ 0x03 ∷ 0x90 ∷ 0x10 ∷ [])
unfolding every first_no value digits halves word_answer codes filler packed word_file first_from is_handle start_of
    earliest_end conjugated stepped after_steps step_questions
next_tells = record { given = handed next 1 refl (lit≤ tt) refl; answered = refl; filed = refl }

-- b1 b1⁻¹, with the limit 0
abbrev pair : List ℕ
pair = 0x00 ∷ 0x02 ∷ 0x08 ∷ []

pair_given : Handed pair 0 out
unfolding every first_no value halves word_answer codes filler
pair_given = handed pair 0 refl (lit≤ tt) refl

-- b1 b2 b1⁻¹ and 9,997 letters b1: a step leaves 10,000 letters
abbrev full : List ℕ
full = 0x27 ∷ 0x10 ∷ 0x01 ∷ 0x80 ∷ replicate 4998 0

full_given : Handed full 1 out
unfolding every first_no value halves word_answer codes filler
full_given = handed full 1 refl (lit≤ tt) refl

-- b1 b2 b2 b1⁻¹ and 9,996 letters b1: the first step leaves 10,002 letters, the second would leave 10,000
abbrev growing : List ℕ
growing = 0x27 ∷ 0x10 ∷ 0x01 ∷ 0x18 ∷ replicate 4998 0

growing_given : Handed growing 2 out
unfolding every first_no value halves word_answer codes filler
growing_given = handed growing 2 refl (lit≤ tt) refl

-- ---- no wrong program meets the contract

module _ (f : Reducer) (meets : Meets f) where
  -- the program makes another step in place of one step
  abbrev Makes : (List ℕ → List ℕ) → Type 0
  Makes g =
      (word before : List ℕ) → Handed word 1 before → steps_answer 1 (codes word) ≡ 0
      → written (f word 1 before) ≡ word_file (g (codes word))

  differs : (g : List ℕ → List ℕ) {word file : List ℕ} → Telling word file
      → equal (word_file (g (codes word))) file ≡ false
      → Makes g → ⊥
  differs g {word} {file} t d wrong =
      true_false (equal (word_file (g (codes word))) file)
      (equal_of (sym (wrong word out t.given t.answered) ∙ file_of f meets t.given t.answered ∙ t.filed)) d

  pub no_earliest_start : Makes begins_earliest → ⊥
  unfolding every equal value digits halves codes packed word_file first_from is_handle start_of earliest_end conjugated
      end_for first_start begins_earliest
  no_earliest_start = differs begins_earliest nested_tells refl

  pub no_last_end : Makes ends_last → ⊥
  unfolding every equal value digits halves codes packed word_file first_from is_handle start_of earliest_end conjugated
      last_end ends_last
  no_last_end = differs ends_last both_tells refl

  pub no_generator_before : Makes before_allowed → ⊥
  unfolding every equal value digits halves codes packed word_file first_from conjugated start_by end_by step_by
      before_allowed
  no_generator_before = differs before_allowed less_tells refl

  pub no_own_generator : Makes own_allowed → ⊥
  unfolding every equal value digits halves codes packed word_file first_from conjugated start_by end_by step_by
      own_allowed
  no_own_generator = differs own_allowed own_tells refl

  pub no_exchanged_signs : Makes signs_exchanged → ⊥
  unfolding every equal value digits halves codes packed word_file first_from is_handle start_of earliest_end
      exchanged_signs signs_exchanged
  no_exchanged_signs = differs signs_exchanged next_tells refl

  pub no_end_kept : Makes end_kept → ⊥
  unfolding every equal value digits halves codes packed word_file first_from is_handle start_of earliest_end conjugated
      end_kept
  no_end_kept = differs end_kept next_tells refl

  -- one step more than the limit
  pub no_step_more : ((word : List ℕ) (limit : ℕ) (before : List ℕ) → Handed word limit before
      → steps_answer limit (codes word) ≡ 0
      → written (f word limit before) ≡ word_file (after_steps (suc limit) (codes word))) → ⊥
  unfolding every equal first_no value digits halves codes packed word_file first_from is_handle start_of earliest_end
      conjugated stepped after_steps step_questions
  no_step_more wrong =
      true_false (equal (word_file []) pair)
      (equal_of (sym (wrong pair 0 out pair_given refl) ∙ file_of f meets pair_given refl))
      refl

  -- 32 for a step that leaves 10,000 letters
  pub no_32_at_10000 : ((word before : List ℕ) → Handed word 1 before → length (stepped (codes word)) ≡ 10000
      → (f word 1 before).answer ≡ 32) → ⊥
  unfolding every first_no value halves codes first_from is_handle start_of earliest_end conjugated stepped
      step_questions
  no_32_at_10000 wrong =
      let e = sym (wrong full out full_given refl) ∙ answer_of f meets full_given in
      omega arith

  -- 32 only if the last word is too long
  pub no_last_length_alone : ((word : List ℕ) (limit : ℕ) (before : List ℕ) → Handed word limit before
      → length (after_steps limit (codes word)) ≤ 10000
      → (f word limit before).answer ≡ 0) → ⊥
  unfolding every first_no value halves codes first_from is_handle start_of earliest_end conjugated stepped after_steps
      step_questions
  no_last_length_alone wrong =
      let e = sym (wrong growing 2 out growing_given (lit≤ tt)) ∙ answer_of f meets growing_given in
      omega arith

  -- `left` is always no
  pub no_constant_left : ((word : List ℕ) (limit : ℕ) (before : List ℕ) → Handed word limit before
      → (f word limit before).left ≡ false) → ⊥
  unfolding every first_no value halves codes first_from is_handle start_of earliest_end after_steps step_questions
  no_constant_left wrong =
      true_false (f pair 0 out).left (left_of f meets pair_given refl) (wrong pair 0 out pair_given)
