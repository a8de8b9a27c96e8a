-- `desk_words::short` meets its contract.
use borrow.Author.Rules.{rules}
use lib.ListN.{replicate}
use Rattle.word_shortener.specs.Shortener.{Shortened}
use Rattle.desk_words.proofs.MakingLaws.{wrote_by}
use Rattle.desk_words.proofs.short.Goals as goal

pub returns : goal.returns
returns c =
    let word = c.args.word.now in (
      c.by.ensures.read_is,
      wrote_by {P = λ w file. Shortened c.args.effort word (replicate 5006 0) file w.answer w.bytes} c.by.ensures
          (λ w file m. search rules),
    )
