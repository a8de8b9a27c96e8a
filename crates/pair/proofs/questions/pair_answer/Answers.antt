-- `pair::questions::pair_answer` meets its contract: one question after another. Each test that is made says what its
-- question answers.
use Prim.Native.Nat.{ℕ, ◌^◌}
use mathlib.Core.Path.{◌≡◌, sym, ap, ◌∙◌}
use mathlib.Core.Bool.{Bool, true}
use mathlib.Core.List.{List}
use lib.Dec.{ltb}
use Rattle.base.specs.Lists.{every}
use Rattle.base.specs.Questions.{first_no}
use Rattle.field.specs.Fields.{operations}
use Rattle.field.specs.declared.Field.{Field}
use Rattle.word.specs.Strands.{are_inverse}
use Rattle.pair_operands.specs.Operands.{elements}
use Rattle.pair_operands.specs.steps.Fitting.{fit}
use Rattle.pair.proofs.questions.pair_answer.Goals as goal

-- numbers that fit the bits of an element are elements, so the test of the one answers the question of the other
tested : (f : Field) (bits : ℕ) (xs : List ℕ) {b r : Bool} → (operations f).size ≡ 2 ^ bits
    → r ≡ fit bits xs → r ≡ b → elements f xs ≡ b
tested f bits xs size test e = ap (λ (n : ℕ). every (λ x. ltb x n) xs) size ∙ sym test ∙ e

pub returns-then-not-all_fit : goal.returns-then-not-all_fit
unfolding first_no
returns-then-not-all_fit c =
    let a = c.args in
    rw (tested a.f a.bits a.t_values.now c.requires c.all_fit.ensures c.if-not-all_fit.true)

pub returns-then-not-all_fit-2 : goal.returns-then-not-all_fit-2
unfolding first_no
returns-then-not-all_fit-2 c =
    let a = c.args in
    rw (
      tested a.f a.bits a.t_values.now c.requires c.all_fit.ensures c.if-not-all_fit.false,
      tested a.f a.bits a.pair.matrix c.requires c.all_fit-2.ensures c.if-not-all_fit-2.true,
    )

pub returns-then-not-all_fit-3 : goal.returns-then-not-all_fit-3
unfolding first_no
returns-then-not-all_fit-3 c =
    let a = c.args in
    rw (
      tested a.f a.bits a.t_values.now c.requires c.all_fit.ensures c.if-not-all_fit.false,
      tested a.f a.bits a.pair.matrix c.requires c.all_fit-2.ensures c.if-not-all_fit-2.false,
      tested a.f a.bits a.others.now c.requires c.all_fit-3.ensures c.if-not-all_fit-3.true,
    )

pub returns-then-not-all_nonzero : goal.returns-then-not-all_nonzero
unfolding first_no
returns-then-not-all_nonzero c =
    let a = c.args in
    rw (
      tested a.f a.bits a.t_values.now c.requires c.all_fit.ensures c.if-not-all_fit.false,
      tested a.f a.bits a.pair.matrix c.requires c.all_fit-2.ensures c.if-not-all_fit-2.false,
      tested a.f a.bits a.others.now c.requires c.all_fit-3.ensures c.if-not-all_fit-3.false,
      sym c.all_nonzero.ensures ∙ c.if-not-all_nonzero.true,
    )

pub returns-then-not-are_inverse : goal.returns-then-not-are_inverse
unfolding first_no
returns-then-not-are_inverse c =
    let a = c.args in
    rw (
      tested a.f a.bits a.t_values.now c.requires c.all_fit.ensures c.if-not-all_fit.false,
      tested a.f a.bits a.pair.matrix c.requires c.all_fit-2.ensures c.if-not-all_fit-2.false,
      tested a.f a.bits a.others.now c.requires c.all_fit-3.ensures c.if-not-all_fit-3.false,
      sym c.all_nonzero.ensures ∙ c.if-not-all_nonzero.false,
      sym c.are_inverse.ensures ∙ c.if-not-are_inverse.true,
    )

pub returns : goal.returns
unfolding first_no
returns c =
    let a = c.args in
    let inverse : are_inverse a.pair.labels a.pair.positions ≡ true =
    sym c.are_inverse.ensures ∙ c.if-not-are_inverse.false in
    rw (
      tested a.f a.bits a.t_values.now c.requires c.all_fit.ensures c.if-not-all_fit.false,
      tested a.f a.bits a.pair.matrix c.requires c.all_fit-2.ensures c.if-not-all_fit-2.false,
      tested a.f a.bits a.others.now c.requires c.all_fit-3.ensures c.if-not-all_fit-3.false,
      sym c.all_nonzero.ensures ∙ c.if-not-all_nonzero.false,
      inverse,
    )
