-- `field::reciprocal` meets its contract: it asks question 17 by the table's length, then question 4, and then gives
-- the reciprocal.
use Prim.Native.Nat.{ℕ, ◌<◌, ◌≤◌, ◌^◌}
use mathlib.Core.Path.{◌≡◌, ap, ◌∙◌}
use mathlib.Core.Bool.{true, false, not}
use mathlib.Core.List.{List, [], ◌∷◌}
use native.Mathlib.Omega.{arith}
use borrow.Author.Tests.{eq-eqb, ne_eqb, lt-ltb, le-ltb}
use lib.Dec.{eqb}
use lib.ListN.{length}
use Rattle.base.specs.Questions.{◌else◌}
use Rattle.base.proofs.QuestionLaws.{passes, fails, passed_answers}
use Rattle.field.specs.Fields.{bits, modulus}
use Rattle.field.specs.Elements.{is_element, reciprocal_questions}
use Rattle.field.specs.steps.Reciprocals.{reciprocals}
use Rattle.field.specs.declared.Field.{Field}
use Rattle.field.proofs.Fields.{degree}
use Rattle.field.proofs.GivesLaws.{given, refused}
use Rattle.field.proofs.TableLaws.{inverse_at, reciprocals_size, reciprocals_short}
use Rattle.field.proofs.reciprocal.Goals as goal

-- a number is an element exactly if it is at most the table's length
past : (f : Field) (table : List ℕ) (a : ℕ) → table ≡ reciprocals (bits f) (modulus f) → length table < a
    → is_element f a ≡ false
past f table a e h = let size = reciprocals_size (bits f) (modulus f) table e in le-ltb a (2 ^ bits f) (omega arith)

within : (f : Field) (table : List ℕ) (a : ℕ) → table ≡ reciprocals (bits f) (modulus f) → a ≤ length table
    → is_element f a ≡ true
within f table a e h = let size = reciprocals_size (bits f) (modulus f) table e in lt-ltb a (2 ^ bits f) (omega arith)

pub returns-then-table-a : goal.returns-then-table-a
returns-then-table-a c =
    let x = c.args in
    let t = c.reciprocals-table in
    rw (c.refused.ensures.0, c.refused.ensures.1)
    (refused (reciprocal_questions x.f x.a) 16
    (fails 17 ((not (eqb x.a 0) else 4) ∷ []) (past x.f t.result.now x.a t.ensures c.if-table-a.true)))

pub returns-then-a-eq0 : goal.returns-then-a-eq0
returns-then-a-eq0 c =
    let x = c.args in
    let t = c.reciprocals-table in
    rw (c.refused-then-a-eq0.ensures.0, c.refused-then-a-eq0.ensures.1)
    (refused (reciprocal_questions x.f x.a) 3
    (passes 17 ((not (eqb x.a 0) else 4) ∷ []) (within x.f t.result.now x.a t.ensures c.if-table-a.false)
    ∙ fails 4 [] (ap not (eq-eqb x.a 0 c.if-a-eq0.true))))

pub inverse-requires : goal.inverse-requires
inverse-requires c = reciprocals_short c.args.f c.reciprocals-table.result.now c.reciprocals-table.ensures

pub returns : goal.returns
returns c =
    let x = c.args in
    let t = c.reciprocals-table in
    given (reciprocal_questions x.f x.a)
    (passed_answers (reciprocal_questions x.f x.a) (
      within x.f t.result.now x.a t.ensures c.if-table-a.false,
      (ap not (ne_eqb x.a 0 c.if-a-eq0.false), tt),
    ))
    (c.inverse.ensures ∙ inverse_at (degree x.f) t.result.now t.ensures x.a)
