-- `handle_row::places::begins` meets its contract: the two latest places decide.
use Prim.Native.Nat.{ℕ, ◌-◌, ◌≤◌, ◌<◌}
use mathlib.Core.Path.{◌≡◌, sym, ap, ◌∙◌}
use mathlib.Core.List.{List}
use native.Mathlib.Omega.{arith}
use lib.ListN.{get_or}
use Rattle.word.specs.Letters.{generator, inverse}
use Rattle.handle_row.specs.steps.Gaps.{letter_slot, latest_of, beginning, Reads}
use Rattle.handle_row.proofs.Beginnings.{own_inside, later_less, other_letter, handle_begins}
use Rattle.handle_row.proofs.places.begins.Goals.{then-own-less-via-then-own-less}
use Rattle.handle_row.proofs.places.begins.Goals.{then-own-less-via-else-own-less+then-row-own}
use Rattle.handle_row.proofs.places.begins.Goals as goal

-- the two latest places, as the table has them, where k is the slot of the code after the gap
module _ {row latest : List ℕ} {left right k own less : ℕ} (o : Reads row latest left right)
    (slot : (k ≡ letter_slot (get_or row right 0)) × (k < 9)) (own_at : own ≡ get_or latest k 0)
    (less_at : less ≡ get_or latest (k - 1) 0) where
  own_is : own ≡ latest_of (letter_slot (get_or row right 0)) row left
  own_is = own_at ∙ o.newest.latest_is k slot.1 ∙ ap (λ (s : ℕ). latest_of s row left) slot.0

  less_is : less ≡ latest_of (generator (get_or row right 0)) row left
  less_is =
      let s : k - 1 ≡ generator (get_or row right 0) = omega (arith, slot.0) in
      less_at ∙ o.newest.latest_is (k - 1) (omega (arith, slot.1)) ∙ ap (λ (s : ℕ). latest_of s row left) s

  later : own ≤ less → beginning row left right ≡ 0
  later = later_less row left right o.gap o.within o.lettered own less own_is less_is

  inside : own ≤ left
  inside = own_inside row left right o.gap o.within o.lettered own less own_is less_is

  differs : less < own → (get_or row (own - 1) 0 ≡ inverse (get_or row right 0) → ⊥) → beginning row left right ≡ 0
  differs = other_letter row left right o.gap o.within o.lettered own less own_is less_is

  begun : less < own → get_or row (own - 1) 0 ≡ inverse (get_or row right 0) → beginning row left right ≡ own
  begun = handle_begins row left right o.gap o.within o.lettered own less own_is less_is

pub returns-then-own-less : goal.returns-then-own-less
returns-then-own-less c =
    elim c.then-own-less.branch [
      | then-own-less-via-then-own-less w ↦
          later c.requires c.slot_of-s.ensures c.from-own.ensures c.from-less.ensures w.if-own-less.true
      | then-own-less-via-else-own-less+then-row-own w ↦
          differs c.requires c.slot_of-s.ensures c.from-own.ensures c.from-less.ensures w.if-own-less.false
          (λ d. w.if-row-own.true (d ∙ sym w.inverse.ensures))
    ]

pub bounds-row-own : goal.bounds-row-own
bounds-row-own c =
    let o = c.requires in
    omega (arith, o.gap, o.within, inside o c.slot_of-s.ensures c.from-own.ensures c.from-less.ensures)

pub returns : goal.returns
returns c =
    begun c.requires c.slot_of-s.ensures c.from-own.ensures c.from-less.ensures c.if-own-less.false
    (c.if-row-own.false ∙ c.inverse.ensures)
    ∙ omega arith
