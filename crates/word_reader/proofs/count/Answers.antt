-- `word_reader::count` meets its contract: each path returns the number of codes.
use native.Mathlib.Omega.{arith}
use Rattle.word_reader.proofs.CodeLaws.{count_is}
use Rattle.word_reader.proofs.count.Goals as goal

pub returns-then-file-lt2 : goal.returns-then-file-lt2
returns-then-file-lt2 c = (omega (arith, count_is c.args.file.now), omega arith)

pub returns-then-bytes-n : goal.returns-then-bytes-n
returns-then-bytes-n c = (
  omega (arith, count_is c.args.file.now, c.stated-n.ensures.0),
  omega arith,
)

pub returns : goal.returns
returns c = (
  omega (arith, count_is c.args.file.now, c.stated-n.ensures.0),
  omega arith,
)
