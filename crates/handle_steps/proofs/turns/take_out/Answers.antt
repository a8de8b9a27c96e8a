-- `handle_steps::turns::take_out` meets its contract: it refuses a step that would leave too many letters. Otherwise it
-- makes the step.
use Prim.Native.Nat.{ℕ, ◌+◌, ◌-◌, ◌≤◌, ◌<◌}
use mathlib.Core.Path.{◌≡◌, sym, ap, ◌∙◌, subst}
use mathlib.Core.List.{List}
use native.Mathlib.Omega.{arith}
use lib.ListN.{length, take, drop, get_or, length-drop}
use lib.Seq.{length-take-le, take-take}
use Rattle.braid_handles.specs.Handles.{conjugated}
use Rattle.handle_steps.specs.steps.Runs.{Gap, Found, Goes}
use Rattle.handle_steps.proofs.GapLaws.{own_inside, first_letter}
use Rattle.handle_steps.proofs.TurnLaws.{too_long, step_made}
use Rattle.handle_steps.proofs.turns.take_out.Goals as goal

-- a handle that is found lies in the row
module _ {row latest before : List ℕ} {own left right steps : ℕ} (g : Gap row latest before left right)
    (f : Found row own left right steps) where
  inside : right < length row
  inside = omega (arith, g.room, f.unread)

  low : own ≤ left
  low = own_inside row left right g.gap inside own f.own_is f.found

  -- how many places there are from the handle's second letter to its end
  part_length : length (take (right + 1 - own) (drop own row)) ≡ right + 1 - own
  part_length = length-take-le (right + 1 - own) (drop own row) (omega (arith, length-drop own row, low, inside))

  -- how many letters replace those between the handle's ends
  new_length : (long : ℕ) → long ≡ length (conjugated (get_or row (own - 1) 0) (take (left - own) (drop own row)))
      → length (conjugated (get_or row (own - 1) 0) (take (left - own) (take (right + 1 - own) (drop own row)))) ≡ long
  new_length long long_is =
      ap (λ l. length (conjugated (get_or row (own - 1) 0) l))
      (take-take (left - own) (right + 1 - own) (drop own row) (omega (arith, g.gap)))
      ∙ sym long_is

-- the place after the gap, given by another number
ends_at : {row row' latest before : List ℕ} {left right n left' right' steps k : ℕ} → right' ≡ k
    → Goes row left right n row' latest before left' right' steps
    → Goes row left right n row' latest before left' k steps
ends_at {row} {row'} {latest} {before} {left} {right} {n} {left'} {right'} {steps} e =
    subst (λ (k : ℕ). Goes row left right n row' latest before left' k steps) e

pub returns-then-s-own : goal.returns-then-s-own
returns-then-s-own c =
    let g = c.grown-long in
    let a = c.args in
    too_long a.row.now a.latest.now a.before.now a.s.left a.s.right a.s.steps c.requires.0
    c.requires.1.unread a.own c.requires.1.own_is c.requires.1.found c.requires.1.some
    (omega (arith, c.if-s-own.true, g.ensures.0))

pub cut-requires : goal.cut-requires
cut-requires c =
    let g = c.requires.0 in (
      omega (arith, low c.requires.0 c.requires.1),
      omega (arith, g.room, g.gap, g.within),
      g.beside
          ∙ sym g.room,
      g.tables,
    )

pub conjugate-requires : goal.conjugate-requires
conjugate-requires c =
    let a = c.args in
    let same = new_length c.requires.0 c.requires.1 c.grown-long.result c.grown-long.ensures.0 in (
      first_letter a.row.now a.s.left a.s.right c.requires.0.gap (inside c.requires.0 c.requires.1) a.own
          c.requires.1.own_is c.requires.1.found c.requires.0.lettered,
      omega (arith, part_length c.requires.0 c.requires.1, c.requires.0.gap),
      omega (arith, part_length c.requires.0 c.requires.1, same, c.if-s-own.false),
    )

pub returns : goal.returns
returns c =
    let a = c.args in
    let same = new_length c.requires.0 c.requires.1 c.grown-long.result c.grown-long.ensures.0 in
    ends_at
    (omega (arith, c.conjugate.ensures.place, part_length c.requires.0 c.requires.1, same, c.if-s-own.false))
    (step_made a.row.now a.latest.now a.before.now a.s.left a.s.right a.s.steps c.requires.0
    c.requires.1.unread a.own c.requires.1.own_is c.requires.1.found c.requires.1.some
    (omega (arith, c.if-s-own.false, c.grown-long.ensures.0))
    c.cut.new.latest c.conjugate.new.part c.conjugate.result
    c.conjugate.auto.part c.conjugate.ensures c.cut.ensures)

pub bounds-row-own : goal.bounds-row-own
bounds-row-own c = omega (arith, low c.requires.0 c.requires.1, inside c.requires.0 c.requires.1, c.requires.0.gap)

pub slice_bounds-grown-count : goal.slice_bounds-grown-count
slice_bounds-grown-count c = low c.requires.0 c.requires.1

pub slice_bounds-grown-start : goal.slice_bounds-grown-start
slice_bounds-grown-start c = low c.requires.0 c.requires.1

pub overflow_sub-s : goal.overflow_sub-s
overflow_sub-s c = low c.requires.0 c.requires.1
