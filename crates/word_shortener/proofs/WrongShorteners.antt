-- The contract shuts out wrong programs, each by a word on which it differs from every function that meets the
-- contract: one that only reduces freely, and one that swaps and cancels alone with an effort over 0.
use Prim.Native.Nat.{ℕ, suc, ◌≤◌}
use mathlib.Core.Path.{◌≡◌, refl, ap, subst, ◌∙◌}
use mathlib.Core.Bool.{false}
use mathlib.Core.List.{List, [], ◌∷◌}
use native.Mathlib.Omega.{arith}
use lib.ListN.{length, take}
use Rattle.base.specs.Questions.{first_no}
use Rattle.base.specs.Lists.{first_from, every}
use Rattle.base.specs.Digits.{value, digits, halves}
use Rattle.word.specs.Words.{codes, filler, word_answer}
use Rattle.word.specs.Reduction.{in_front, reduced}
use Rattle.braid_handles.specs.Handles.{is_handle, start_of, earliest_end, has_handle, conjugated, stepped, after_steps}
use Rattle.braid_handles.specs.Handles.{step_questions}
use Rattle.braid_handles.proofs.Runs.{steps_answer, steps_free, free_answers}
use Rattle.swap_cancel.specs.SwapCancel.{letter_behind, letters_behind, swap_cancelled}
use Rattle.word_shortener.specs.Shortener.{most_steps, Saves, Shortened}
use Rattle.word_shortener.proofs.ShortenerLaws.{past_room}
use Rattle.word_shortener.proofs.ShorteningKeepsMeaning.{shortening_saves}

-- what every function that meets the contract saves of an accepted word, with room for the new one
saved : {effort answer bytes : ℕ} {before after : List ℕ} (word : List ℕ) → word_answer word ≡ 0 → 5002 ≤ length before
    → Shortened effort word before after answer bytes
    → Saves effort (codes word) (codes (take bytes after))
saved {effort} {answer} {bytes} {before} {after} word a room s =
    let zero : answer ≡ 0 = s.wrote.answer_is ∙ past_room word before room ∙ a in
    shortening_saves effort word before (subst (λ (n : ℕ). Shortened effort word before after n bytes) zero s)

-- ---- b1 b3 b1⁻¹, of which b3 is left

abbrev apart : List ℕ
apart = 0x00 ∷ 0x03 ∷ 0x02 ∷ 0x80 ∷ []

apart_accepted : word_answer apart ≡ 0
unfolding word_answer first_no codes filler halves value digits every
apart_accepted = refl

apart_swapped : length (swap_cancelled (codes apart)) ≡ 1
unfolding codes halves value digits letter_behind letters_behind every
apart_swapped = refl

apart_reduced : length (reduced (codes apart)) ≡ 3
unfolding codes halves value digits in_front reduced
apart_reduced = refl

pub only_reduces : {effort answer bytes : ℕ} {before after : List ℕ} → 5002 ≤ length before
    → Shortened effort apart before after answer bytes
    → codes (take bytes after) ≡ reduced (codes apart)
    → ⊥
only_reduces room s e =
    omega (arith, (saved apart apart_accepted room s).not_longer, apart_swapped, apart_reduced, ap length e)

-- ---- b1 b2 b1 b2⁻¹ b1⁻¹, of which handle reduction leaves b2 in three steps

abbrev turned : List ℕ
turned = 0x00 ∷ 0x05 ∷ 0x01 ∷ 0x09 ∷ 0x80 ∷ []

abbrev turned_codes : List ℕ
turned_codes = 0 ∷ 1 ∷ 0 ∷ 9 ∷ 8 ∷ []

turned_accepted : (word_answer turned ≡ 0) × (codes turned ≡ turned_codes)
unfolding word_answer first_no codes filler halves value digits every
turned_accepted = (refl, refl)

turned_swapped : length (swap_cancelled turned_codes) ≡ 5
unfolding letter_behind letters_behind every
turned_swapped = refl

one_swapped : length (swap_cancelled (1 ∷ [])) ≡ 1
unfolding letter_behind letters_behind every
one_swapped = refl

three_steps : (n : ℕ) → (after_steps (suc (suc (suc n))) turned_codes ≡ after_steps n (1 ∷ []))
    × (steps_answer (suc (suc (suc n))) turned_codes ≡ steps_answer n (1 ∷ []))
unfolding every first_no first_from is_handle start_of earliest_end conjugated stepped after_steps step_questions
three_steps n = (refl, refl)

one_free : has_handle (1 ∷ []) ≡ false
unfolding every first_from is_handle start_of earliest_end
one_free = refl

pub swaps_alone : {answer bytes : ℕ} {before after : List ℕ} → 5002 ≤ length before
    → Shortened 5 turned before after answer bytes
    → codes (take bytes after) ≡ swap_cancelled (codes turned)
    → ⊥
swaps_alone room s e =
    let is = turned_accepted.1 in
    let answered = (three_steps 65532).1 ∙ free_answers 65532 (1 ∷ []) one_free (omega arith) in
    let left = (three_steps 65532).0 ∙ steps_free 65532 (1 ∷ []) one_free in
    let fewer = (saved turned turned_accepted.0 room s).after_handles (λ z. omega arith)
    (ap (λ (w : List ℕ). first_no (step_questions most_steps w)) is ∙ answered) in
    let bound = ap (λ (w : List ℕ). length (swap_cancelled (after_steps most_steps w))) is
    ∙ ap (λ (w : List ℕ). length (swap_cancelled w)) left
    ∙ one_swapped in
    omega
    (arith, fewer, bound, turned_swapped, ap length (e ∙ ap swap_cancelled is))
