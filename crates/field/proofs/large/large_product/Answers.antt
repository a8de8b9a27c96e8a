-- `field::large::large_product` meets its contract: every byte passes the questions.
use native.Mathlib.Omega.{arith}
use borrow.Author.Tests.{lt-ltb}
use lib.Dec.{lit<, lit≤}
use Rattle.base.proofs.QuestionLaws.{passed_answers}
use Rattle.field.specs.Elements.{product_questions}
use Rattle.field.specs.declared.Field.TheVariants.{Gf256}
use Rattle.field.proofs.GivesLaws.{given}
use Rattle.field.proofs.large.large_product.Goals as goal

pub times-requires : goal.times-requires
times-requires c = (record { positive = lit< tt; from = lit≤ tt; to = lit< tt }, omega arith)

pub returns : goal.returns
returns c =
    let x = c.args in
    given (product_questions Gf256 x.a x.b)
    (passed_answers (product_questions Gf256 x.a x.b)
    (lt-ltb x.a 256 (omega arith), (lt-ltb x.b 256 (omega arith), tt)))
    c.times.ensures
