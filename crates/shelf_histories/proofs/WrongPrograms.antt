-- The contract of a call shuts out wrong programs, each by an input on which it differs: a number that leads into the
-- other's slots, a publisher 0 or 3, a load that replaces on a refusal, leaves the old file's tail or writes a length
-- without its file, a clear that clears more than its number, 31 before 30 or on load and clear, and judging by another
-- number's key.
use Prim.Native.Nat.{ℕ, ◌≤◌}
use mathlib.Core.Path.{◌≡◌, refl, ap, ◌∙◌}
use mathlib.Core.Bool.{false}
use mathlib.Core.List.{List, [], ◌∷◌, ◌++◌}
use native.Mathlib.Omega.{arith}
use lib.Dec.{eqb}
use lib.ListN.{length, replicate}
use Rattle.base.specs.Questions.{first_no}
use Rattle.base.specs.Lists.{overlaid}
use Rattle.base.specs.Digits.{part}
use Rattle.key.specs.Keys.{key_answer}
use Rattle.slip_verdict.proofs.WrongVerdicts.{plain_key, key_accepted}
use Rattle.shelf.specs.Shelves.{slot_bytes, shelf_bytes, empty_shelf, slot_with, held}
use Rattle.shelf.specs.Shelves.{holding, is_held}
use Rattle.shelf.specs.Calls.{Work, load, clear, judge, round, answer_to, acts, Serves}
use Rattle.shelf.proofs.SlotLaws.{length_empty, held_empty, slot_holding, held_there, held_elsewhere}
use Rattle.shelf.proofs.CallLaws.{left_alone, acted, load_30, load_answer, clear_30, clear_answer, judge_30, judge_31}
use Rattle.shelf.proofs.CallLaws.{key_fits}
use Rattle.shelf_histories.proofs.HeldAfter.{held_after}

-- ---- 30 comes first

-- a refusal with 30 leaves the shelf
leaves_30 : {p : ℕ} {work : Work} {shelf left : List ℕ} {answer : ℕ} → Serves p work shelf left answer
    → answer_to p work shelf ≡ 30 → (answer ≡ 30) × (left ≡ shelf)
leaves_30 {p} {work} {shelf} s e =
    (s.answer_is ∙ e, s.shelf_is ∙ left_alone p work shelf (ap (acts work) e ∙ idle work))
  where
    idle : (w : Work) → acts w 30 ≡ false
    idle (load n file) = refl
    idle (clear n) = refl
    idle (judge n digest word) = refl
    idle round = refl

module _ (shelf : List ℕ) {left : List ℕ} {answer : ℕ} where
  -- number 4 of publisher 1 is not number 0 of publisher 2
  pub load_at_four : (file : List ℕ) → Serves 1 (load 4 file) shelf left answer → (answer ≡ 30) × (left ≡ shelf)
  load_at_four file s = leaves_30 s (load_30 1 4 shelf file refl)

  pub clear_at_four : Serves 1 (clear 4) shelf left answer → (answer ≡ 30) × (left ≡ shelf)
  clear_at_four s = leaves_30 s (clear_30 1 4 shelf refl)

  pub judge_at_four : (digest word : List ℕ) → Serves 1 (judge 4 digest word) shelf left answer → answer ≡ 30
  judge_at_four digest word s = s.answer_is ∙ judge_30 1 4 shelf digest word refl

  -- there is no publisher 0, and no publisher 3
  pub publisher_zero : (file : List ℕ) → Serves 0 (load 0 file) shelf left answer → (answer ≡ 30) × (left ≡ shelf)
  publisher_zero file s = leaves_30 s (load_30 0 0 shelf file refl)

  pub publisher_three : (file : List ℕ) → Serves 3 (load 0 file) shelf left answer → (answer ≡ 30) × (left ≡ shelf)
  publisher_three file s = leaves_30 s (load_30 3 0 shelf file refl)

  -- a bad key under a bad number gets 30 and not the key's number
  pub thirty_before_key : Serves 2 (load 4 []) shelf left answer → answer ≡ 30
  thirty_before_key s = s.answer_is ∙ load_30 2 4 shelf [] refl

  -- a file that is no key changes nothing
  pub refusal_replaces_nothing : Serves 1 (load 0 []) shelf left answer → (answer ≡ 1) × (left ≡ shelf)
  unfolding key_answer first_no
  refusal_replaces_nothing s =
      let e = load_answer 1 0 shelf [] refl in
      (s.answer_is ∙ e, s.shelf_is ∙ left_alone 1 (load 0 []) shelf (ap (λ (a : ℕ). eqb a 0) e))

-- ---- 31 is for judging alone, and comes after 30

module _ {left : List ℕ} {answer : ℕ} where
  -- the empty shelf holds no key, and publisher 3 gets 30
  pub thirty_before_31 : (digest word : List ℕ) → Serves 3 (judge 0 digest word) empty_shelf left answer → answer ≡ 30
  thirty_before_31 digest word s = s.answer_is ∙ judge_30 3 0 empty_shelf digest word refl

  -- an empty digest and an empty word still get 31
  pub judged_31 : Serves 1 (judge 0 [] []) empty_shelf left answer → answer ≡ 31
  judged_31 s =
      s.answer_is ∙ judge_31 1 0 empty_shelf [] [] refl (ap is_held (held_empty 1 0))

  pub load_on_empty : Serves 1 (load 0 plain_key) empty_shelf left answer → answer ≡ 0
  load_on_empty s = s.answer_is ∙ load_answer 1 0 empty_shelf plain_key refl ∙ key_accepted

  pub clear_on_empty : Serves 1 (clear 0) empty_shelf left answer → answer ≡ 0
  clear_on_empty s = s.answer_is ∙ clear_answer 1 0 empty_shelf refl

-- ---- what a load writes, whatever stood there

module _ (shelf : List ℕ) (room : shelf_bytes ≤ length shelf) {left : List ℕ} {answer : ℕ}
    (s : Serves 1 (load 0 plain_key) shelf left answer) where
  left_is : left ≡ holding 1 0 plain_key shelf
  left_is =
      s.shelf_is
      ∙ acted 1 (load 0 plain_key) shelf
      (ap (λ (a : ℕ). eqb a 0) (load_answer 1 0 shelf plain_key refl ∙ key_accepted))

  -- the length, the 83 bytes, and 45 zeros
  pub whole_slot : part 0 slot_bytes left ≡ 83 ∷ (plain_key ++ replicate 45 0)
  unfolding slot_with overlaid
  whole_slot =
      ap (part 0 slot_bytes) left_is
      ∙ slot_holding 1 0 refl plain_key (key_fits plain_key key_accepted) shelf room

  pub file_there : held 1 0 left ≡ plain_key
  file_there = ap (held 1 0) left_is ∙ held_there 1 0 refl plain_key (key_fits plain_key key_accepted) shelf room

-- ---- clearing clears its number alone

module _ (shelf : List ℕ) (room : shelf_bytes ≤ length shelf) {left : List ℕ} {answer : ℕ}
    (s : Serves 1 (clear 0) shelf left answer) where
  pub clears_its_own : held 1 0 left ≡ []
  unfolding answer_to first_no
  clears_its_own = ap (held 1 0) s.shelf_is ∙ held_after 1 (clear 0) shelf room 1 0

  pub not_another_number : held 1 1 left ≡ held 1 1 shelf
  unfolding answer_to first_no
  not_another_number = ap (held 1 1) s.shelf_is ∙ held_after 1 (clear 0) shelf room 1 1

  pub not_the_others : held 2 0 left ≡ held 2 0 shelf
  unfolding answer_to first_no
  not_the_others = ap (held 2 0) s.shelf_is ∙ held_after 1 (clear 0) shelf room 2 0

-- ---- judging by the key under the number that is named

-- a shelf with the plain key under number 0 of publisher 1 alone
abbrev one_key : List ℕ
one_key = holding 1 0 plain_key empty_shelf

module _ {left : List ℕ} {answer : ℕ} (digest word : List ℕ) where
  pub another_number : Serves 1 (judge 1 digest word) one_key left answer → answer ≡ 31
  another_number s =
      s.answer_is ∙ judge_31 1 1 one_key digest word refl (ap is_held (none ∙ held_empty 1 1))
    where
      none : held 1 1 one_key ≡ held 1 1 empty_shelf
      none =
          held_elsewhere 1 0 refl plain_key (key_fits plain_key key_accepted) empty_shelf
          (omega (arith, length_empty)) 1 1
          (λ d. let e = d.1 in omega arith)

  pub the_others_key : Serves 2 (judge 0 digest word) one_key left answer → answer ≡ 31
  the_others_key s =
      s.answer_is ∙ judge_31 2 0 one_key digest word refl (ap is_held (none ∙ held_empty 2 0))
    where
      none : held 2 0 one_key ≡ held 2 0 empty_shelf
      none =
          held_elsewhere 1 0 refl plain_key (key_fits plain_key key_accepted) empty_shelf
          (omega (arith, length_empty)) 2 0
          (λ d. let e = d.0 in omega arith)
