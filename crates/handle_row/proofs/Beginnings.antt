-- Where the handle that ends with the first code after the gap begins. The latest place of that code's generator and
-- the latest place of the generator one less decide.
use Prim.Native.Nat.{ℕ, suc, ◌+◌, ◌-◌, ◌≤◌, ◌<◌}
use mathlib.Core.Path.{◌≡◌, sym, ap, ◌∙◌, subst}
use mathlib.Core.Bool.{Bool, false, cond, ◌&&◌}
use mathlib.Core.List.{List, ◌++◌}
use native.Mathlib.Omega.{arith}
use borrow.Author.Tests.{lt-ltb, le-ltb, eq-eqb, ne_eqb}
use lib.Dec.{ltb, eqb}
use lib.ListN.{length, take, drop, get_or, length-append, length-drop, get_or-append}
use lib.Seq.{length-take-le, drop-cons, get_or_at, get_or-take}
use Rattle.base.proofs.ListLaws.{and_both, and_false}
use Rattle.word.specs.Letters.{generator, inverse}
use Rattle.word.proofs.LetterLaws.{Lettered}
use Rattle.braid_handles.specs.Handles.{start_of, ends}
use Rattle.braid_handles.proofs.Starts.{Latest, begins_ends, ends_latest}
use Rattle.handle_row.specs.steps.Gaps.{gapped, letter_slot, latest_of, beginning}
use Rattle.handle_row.proofs.PlaceLaws.{latest_alike, latest_latest}

module _ (row : List ℕ) (left right : ℕ) (h : left < right) (r : right < length row) where
  front : length (take left row) ≡ left
  front = length-take-le left row (omega arith)

  inside : left < length (gapped row left right)
  inside = omega (arith, length-append (take left row) (drop right row), front, length-drop right row)

  -- the word's place after the front has the first code after the gap
  next : get_or (gapped row left right) left 0 ≡ get_or row right 0
  next =
      ap (λ (v : List ℕ). get_or (take left row ++ v) left 0) (drop-cons row right 0 r)
      ∙ get_or_at (take left row) (get_or row right 0) (drop (suc right) row) 0 left front

  before_gap : (k : ℕ) → k < left → get_or (gapped row left right) k 0 ≡ get_or row k 0
  before_gap k b =
      get_or-append (take left row) (drop right row) 0 k (omega (arith, front)) ∙ get_or-take left row k 0 b

  latest_word : (s : ℕ) → Latest s (gapped row left right) left (latest_of s row left)
  latest_word s =
      subst (λ (k : ℕ). Latest s (gapped row left right) left k)
      (latest_alike s (gapped row left right) row left before_gap) (latest_latest s (gapped row left right) left)

  module _ (letters : Lettered (gapped row left right)) (own less : ℕ)
      (o : own ≡ latest_of (letter_slot (get_or row right 0)) row left)
      (l : less ≡ latest_of (generator (get_or row right 0)) row left) where
    own_latest : Latest (generator (get_or (gapped row left right) left 0) + 1) (gapped row left right) left own
    own_latest = rw (next, o) (latest_word (letter_slot (get_or row right 0)))

    less_latest : Latest (generator (get_or (gapped row left right) left 0)) (gapped row left right) left less
    less_latest = rw (next, l) (latest_word (generator (get_or row right 0)))

    pub own_inside : own ≤ left
    own_inside = own_latest.within

    decides : ends (gapped row left right) left
        ≡ ltb less own && eqb (get_or (gapped row left right) (own - 1) 0)
        (inverse (get_or (gapped row left right) left 0))
    decides = ends_latest (gapped row left right) letters left inside own less own_latest less_latest

    -- the latest letter of the code's own generator
    there : 0 < own → get_or (gapped row left right) (own - 1) 0 ≡ get_or row (own - 1) 0
    there p = before_gap (own - 1) (omega (arith, own_inside))

    none : ends (gapped row left right) left ≡ false → beginning row left right ≡ 0
    none e =
        ap (λ (b : Bool). cond b (start_of (gapped row left right) left + 1) 0) e

    -- there is no handle if a letter of the generator one less is later, or if no letter has the code's own generator
    pub later_less : own ≤ less → beginning row left right ≡ 0
    later_less p =
        let w = gapped row left right in
        none (decides
        ∙ ap (λ (b : Bool). b && eqb (get_or w (own - 1) 0) (inverse (get_or w left 0))) (le-ltb less own p))

    -- there is no handle if the latest letter of the code's own generator is not the code's inverse
    pub other_letter : less < own → (get_or row (own - 1) 0 ≡ inverse (get_or row right 0) → ⊥)
        → beginning row left right ≡ 0
    other_letter p n =
        none (decides
        ∙ ap (λ (b : Bool). ltb less own && b)
        (ne_eqb (get_or (gapped row left right) (own - 1) 0) (inverse (get_or (gapped row left right) left 0))
        (λ e. n (sym (there (omega arith)) ∙ e ∙ ap inverse next)))
        ∙ and_false (ltb less own))

    -- otherwise a handle begins at the latest letter of the code's own generator
    pub handle_begins : less < own → get_or row (own - 1) 0 ≡ inverse (get_or row right 0) → beginning row left right
        ≡ own
    handle_begins p e =
        let w = gapped row left right in
        let t =
        and_both (lt-ltb less own p)
        (eq-eqb (get_or w (own - 1) 0) (inverse (get_or w left 0)) (there (omega arith) ∙ e ∙ ap inverse (sym next))) in
        let start : start_of w left ≡ own - 1 =
        begins_ends w letters left inside own less own_latest less_latest t in
        let own_is : start_of w left + 1 ≡ own = omega arith in
        ap (λ (b : Bool). cond b (start_of w left + 1) 0) (decides ∙ t) ∙ own_is
