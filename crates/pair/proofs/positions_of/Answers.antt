-- `pair::positions_of` meets its contract. The loop's invariant: each label has its last position among the first i.
use Prim.Native.Nat.{ℕ, ◌+◌, ◌≤◌, ◌<◌}
use mathlib.Core.Path.{◌≡◌, refl, sym, ap, ◌∙◌}
use mathlib.Core.List.{List}
use native.Mathlib.Decide.{ℕ_discrete}
use native.Mathlib.Numerals.{add-one}
use native.Mathlib.Omega.{arith}
use borrow.Author.Tests.{eq-eqb, ne_eqb}
use lib.ListN.{length, get_or, set, length-set, replicate}
use lib.Seq.{get_or-set_same, get_or-set_other}
use Rattle.base.specs.Lists.{every}
use Rattle.base.proofs.ListLaws.{values_of}
use Rattle.base.proofs.DigitLaws.{all_below}
use Rattle.word.specs.Strands.{last_position, inverse_list}
use Rattle.pair.proofs.positions_of.Goals as goal
use Rattle.pair.proofs.positions_of.Goals.{then-label-lt8, else-label-lt8}

-- the last position of a label among the first i + 1 places, if place i has the label, and if it has another
here : (labels : List ℕ) (a i : ℕ) → get_or labels i 0 ≡ a → last_position labels a (i + 1) ≡ i + 1
unfolding last_position
here labels a i e = rw (add-one i) (rw (eq-eqb (get_or labels i 0) a e))

elsewhere : (labels : List ℕ) (a i : ℕ) → (get_or labels i 0 ≡ a → ⊥)
    → last_position labels a (i + 1) ≡ last_position labels a i
unfolding last_position
elsewhere labels a i n = rw (add-one i) (rw (ne_eqb (get_or labels i 0) a n))

-- the label at place i gets its position, and the other labels keep theirs
stored : (labels positions : List ℕ) (i : ℕ) → length positions ≡ 8 → get_or labels i 0 < 8
    → ((a : ℕ) → a < 8 → get_or positions a 0 ≡ last_position labels a i)
    → (a : ℕ) → a < 8 → get_or (set positions (get_or labels i 0) (i + 1)) a 0 ≡ last_position labels a (i + 1)
stored labels positions i size b before a h = at (ℕ_discrete a (get_or labels i 0))
  where
    at : Dec (a ≡ get_or labels i 0)
        → get_or (set positions (get_or labels i 0) (i + 1)) a 0 ≡ last_position labels a (i + 1)
    at (yes d) =
        ap (λ (x : ℕ). get_or (set positions (get_or labels i 0) (i + 1)) x 0) d
        ∙ get_or-set_same positions (get_or labels i 0) (i + 1) 0 (omega arith)
        ∙ sym (here labels a i (sym d))
    at (no n) =
        get_or-set_other positions (get_or labels i 0) a (i + 1) 0 n
        ∙ before a h
        ∙ sym (elsewhere labels a i (λ e. n (sym e)))

-- a label over 7 has no position
passed : (labels positions : List ℕ) (i : ℕ) → 8 ≤ get_or labels i 0
    → ((a : ℕ) → a < 8 → get_or positions a 0 ≡ last_position labels a i)
    → (a : ℕ) → a < 8 → get_or positions a 0 ≡ last_position labels a (i + 1)
passed labels positions i b before a h = before a h ∙ sym (elsewhere labels a i (λ e. omega arith))

pub loop-i-init : goal.loop-i-init
unfolding last_position every
loop-i-init c = (refl, λ a h. let zero = all_below 1 (replicate 8 0) (omega arith) refl a in omega arith)

pub loop-i-preserved : goal.loop-i-preserved
loop-i-preserved c =
    let l = c.loop-i in
    let a = c.args in
    elim c.if-label-lt8.branch [
      | then-label-lt8 w ↦ (
        ap length w.positions-is ∙ length-set l.positions _ _ ∙ l.invariant.0,
        λ k h. ap (λ (p : List ℕ). get_or p k 0) w.positions-is
            ∙ rw (w.from-then-label-lt8.ensures, c.from.ensures)
            (stored a.labels.now l.positions l.i l.invariant.0 (rw c.from.ensures at w.if-label-lt8.true)
            l.invariant.1 k h),
      )
      | else-label-lt8 w ↦ (
        ap length w.positions-is ∙ l.invariant.0,
        λ k h. ap (λ (p : List ℕ). get_or p k 0) w.positions-is
            ∙ passed a.labels.now l.positions l.i (rw c.from.ensures at w.if-label-lt8.false) l.invariant.1 k h,
      )
    ]

pub returns : goal.returns
unfolding inverse_list
returns c =
    let l = c.loop-i in
    let labels = c.args.labels.now in
    values_of (λ a. last_position labels a 8) 8 l.positions l.invariant.0
    (λ a h. l.invariant.1 a h ∙ ap (last_position labels a) (omega arith))
