-- `word::read::both_letters` meets its contract: a half byte is a letter exactly if its low three bits are not all 1.
use native.Mathlib.Omega.{arith}
use Rattle.word.proofs.LetterLaws.{byte_letters}
use Rattle.word.proofs.read.both_letters.Goals as goal

pub returns : goal.returns
returns c = byte_letters c.args.b (omega arith)
