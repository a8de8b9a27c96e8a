-- `desk_dialect::converted` meets its contract: the output of 5,006 bytes has room, so question 15 is passed.
use mathlib.Core.Path.{refl}
use borrow.Author.Rules.{rules}
use Rattle.desk_words.proofs.MakingLaws.{made_by}
use Rattle.desk_dialect.specs.Converting.{convert_answer}
use Rattle.desk_dialect.proofs.converted.Goals as goal

pub returns : goal.returns
unfolding convert_answer
returns c =
    let p = c.parts_of-n in
    rw (← p.ensures.1) (made_by _ c.by.ensures (λ w file m. search rules) refl)
