-- Handles of a word, and the steps that take them out (document 02, §9). A word is a list of codes, and places count
-- from 0. A handle begins with a letter and ends with its inverse. No letter between the two has their generator or the
-- generator before it.
use Rattle.std.specs.Prelude.{ℕ, zero, suc, ◌+◌, ◌-◌, Bool, cond, not, ◌&&◌, List, [], ◌∷◌, ◌++◌, ltb, leb, eqb}
use Rattle.std.specs.Prelude.{length, take, drop, get_or}
use Rattle.base.specs.Questions.{Question, ◌else◌}
use Rattle.base.specs.Lists.{first_from, every}
use Rattle.base.specs.Digits.{part}
use Rattle.word.specs.Letters.{generator, inverse}
use Rattle.word.specs.Words.{max_letters}

-- the letters between place p and a later place q
abbrev pub between : ℕ → ℕ → List ℕ → List ℕ
between p q w = part (p + 1) (q - (p + 1)) w

-- may d stand in a handle that begins with c? Its generator is neither c's nor one less. No generator is one less than
-- b1's.
abbrev pub avoids : ℕ → ℕ → Bool
avoids c d = not (eqb (generator d) (generator c)) && not (eqb (generator d + 1) (generator c))

-- is there a handle from place p to a later place q of the word?
unfoldable pub is_handle : List ℕ → ℕ → ℕ → Bool
is_handle w p q = eqb (get_or w q 0) (inverse (get_or w p 0)) && every (avoids (get_or w p 0)) (between p q w)

-- the place where a handle that ends at place q begins; q if no handle ends there
unfoldable pub start_of : List ℕ → ℕ → ℕ
start_of w q = first_from (λ p. is_handle w p q) 0 q

-- does a handle end at place q?
abbrev pub ends : List ℕ → ℕ → Bool
ends w q = ltb (start_of w q) q

-- the earliest place at which a handle ends; the word's length if the word has no handle
unfoldable pub earliest_end : List ℕ → ℕ
earliest_end w = first_from (ends w) 0 (length w)

-- does the word have a handle?
abbrev pub has_handle : List ℕ → Bool
has_handle w = ltb (earliest_end w) (length w)

-- What replaces a letter d between the ends of a handle that begins with c, which is b_i of sign e. A letter b_(i+1)
-- becomes b_(i+1) of sign -e, b_i of its own sign, b_(i+1) of sign e. Any other letter stays. Code c + 1 is b_(i+1)
-- with the sign of c, and d - 1 is b_i with the sign of d.
abbrev pub conjugated_letter : ℕ → ℕ → List ℕ
conjugated_letter c d = cond (eqb (generator d) (generator c + 1)) (inverse (c + 1) ∷ (d - 1) ∷ (c + 1) ∷ []) (d ∷ [])

-- all letters between the ends of a handle that begins with c, each replaced
unfoldable pub conjugated : ℕ → List ℕ → List ℕ
conjugated c [] = []
conjugated c (d ∷ m) = conjugated_letter c d ++ conjugated c m

-- the word without its handle from p to q: both ends are dropped, and the letters between are replaced
abbrev pub handle_reduced : ℕ → ℕ → List ℕ → List ℕ
handle_reduced p q w = take p w ++ (conjugated (get_or w p 0) (between p q w) ++ drop (q + 1) w)

-- A step takes out the handle that ends earliest. A word without handles stays as it is.
unfoldable pub stepped : List ℕ → List ℕ
stepped w = cond (has_handle w) (handle_reduced (start_of w (earliest_end w)) (earliest_end w) w) w

-- the word after n steps
unfoldable pub after_steps : ℕ → List ℕ → List ℕ
after_steps zero w = w
after_steps (suc n) w = after_steps n (stepped w)

-- The questions of n steps: does a step leave at most 10,000 letters? If not, 32.
unfoldable pub step_questions : ℕ → List ℕ → List Question
step_questions zero w = []
step_questions (suc n) w = (leb (length (stepped w)) max_letters else 32) ∷ step_questions n (stepped w)
