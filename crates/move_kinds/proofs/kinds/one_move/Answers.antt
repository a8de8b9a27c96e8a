-- `move_kinds::kinds::one_move` meets its contract: each kind makes its own move.
use Prim.Native.Nat.{ℕ, ◌-◌, ◌<◌, ◌≤◌}
use mathlib.Core.Path.{◌≡◌, sym, ap, ◌∙◌}
use mathlib.Core.Bool.{Bool, false, ◌&&◌}
use native.Mathlib.Omega.{arith}
use borrow.Author.Tests.{le-leb, lt-leb}
use lib.Dec.{leb, lit<}
use lib.ListN.{take}
use Rattle.base.proofs.ListLaws.{and_both, and_false}
use Rattle.word.specs.Letters.{is_letter}
use Rattle.word.specs.Cancellation.{removal}
use Rattle.move_kinds.specs.Kinds.{exchange, braiding, insertion, inserts, move}
use Rattle.move_kinds.proofs.CodeKinds.{makes_as, move_1, move_2, move_3, move_insert, unknown_21}
use Rattle.move_kinds.proofs.kinds.one_move.Goals as goal

-- a kind of 16 or more is none of the kinds below 16
high : {kind n : ℕ} → 16 ≤ kind → n < 16 → kind ≡ n → ⊥
high h l e = omega arith

low : (kind : ℕ) → kind < 16 → inserts kind ≡ false
low kind h = ap (λ (l : Bool). l && is_letter (kind - 16)) (lt-leb 16 kind h)

pub returns-then-kind-eq1 : goal.returns-then-kind-eq1
returns-then-kind-eq1 c =
    let a = c.args in
    makes_as (move a.kind a.place) a.codes.now a.n (removal a.place)
    (move_1 a.kind a.place (take a.n a.codes.now) c.if-kind-eq1.true) c.try_remove.ensures

pub returns-then-is_letter : goal.returns-then-is_letter
returns-then-is_letter c =
    let h = c.if-kind-ge16.true in
    let a = c.args in
    makes_as (move a.kind a.place) a.codes.now a.n (insertion (a.kind - 16) a.place)
    (move_insert a.kind a.place (take a.n a.codes.now) c.if-kind-eq1.false (high h (lit< tt)) (high h (lit< tt))
    (and_both (le-leb 16 a.kind h) (sym c.is_letter.ensures ∙ c.if-is_letter.true)))
    c.try_insert.ensures

pub returns-then-kind-ge16 : goal.returns-then-kind-ge16
returns-then-kind-ge16 c =
    let h = c.if-kind-ge16.true in
    let a = c.args in
    rw (c.refused.ensures.0, c.refused.ensures.1)
    (unknown_21 a.kind a.place c.requires.0 c.if-kind-eq1.false (high h (lit< tt)) (high h (lit< tt))
    (ap (λ (l : Bool). leb 16 a.kind && l) (sym c.is_letter.ensures ∙ c.if-is_letter.false)
    ∙ and_false (leb 16 a.kind)))

pub returns-then-kind-eq2 : goal.returns-then-kind-eq2
returns-then-kind-eq2 c =
    let a = c.args in
    makes_as (move a.kind a.place) a.codes.now a.n (exchange a.place)
    (move_2 a.kind a.place (take a.n a.codes.now) c.if-kind-eq2.true) c.try_swap.ensures

pub returns-then-kind-eq3 : goal.returns-then-kind-eq3
returns-then-kind-eq3 c =
    let a = c.args in
    makes_as (move a.kind a.place) a.codes.now a.n (braiding a.place)
    (move_3 a.kind a.place (take a.n a.codes.now) c.if-kind-eq3.true) c.try_braid.ensures

pub returns : goal.returns
returns c =
    let a = c.args in
    rw (c.refused-2.ensures.0, c.refused-2.ensures.1)
    (unknown_21 a.kind a.place c.requires.0 c.if-kind-eq1.false c.if-kind-eq2.false c.if-kind-eq3.false
    (low a.kind c.if-kind-ge16.false))
