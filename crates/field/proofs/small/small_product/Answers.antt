-- `field::small::small_product` meets its contract: it asks question 17 of each operand, then gives the product.
use mathlib.Core.Path.{◌∙◌}
use mathlib.Core.List.{[], ◌∷◌}
use borrow.Author.Tests.{lt-ltb, le-ltb}
use Rattle.base.specs.Questions.{◌else◌}
use Rattle.base.proofs.QuestionLaws.{passes, fails, passed_answers}
use Rattle.field.specs.Elements.{is_element, product_questions}
use Rattle.field.specs.declared.Field.TheVariants.{Gf32}
use Rattle.field.proofs.GivesLaws.{given, refused}
use Rattle.field.proofs.small.small_product.Goals as goal

pub returns-then-a-ge32 : goal.returns-then-a-ge32
returns-then-a-ge32 c =
    let x = c.args in
    rw (c.refused.ensures.0, c.refused.ensures.1)
    (refused (product_questions Gf32 x.a x.b) 16
    (fails 17 ((is_element Gf32 x.b else 17) ∷ []) (le-ltb x.a 32 c.if-a-ge32.true)))

pub returns-then-b-ge32 : goal.returns-then-b-ge32
returns-then-b-ge32 c =
    let x = c.args in
    rw (c.refused-then-b-ge32.ensures.0, c.refused-then-b-ge32.ensures.1)
    (refused (product_questions Gf32 x.a x.b) 16
    (passes 17 ((is_element Gf32 x.b else 17) ∷ []) (lt-ltb x.a 32 c.if-a-ge32.false)
    ∙ fails 17 [] (le-ltb x.b 32 c.if-b-ge32.true)))

pub returns : goal.returns
returns c =
    let x = c.args in
    given (product_questions Gf32 x.a x.b)
    (passed_answers (product_questions Gf32 x.a x.b)
    (lt-ltb x.a 32 c.if-a-ge32.false, (lt-ltb x.b 32 c.if-b-ge32.false, tt)))
    c.product.ensures
