-- `word_writer::all_codes` meets its contract. The loop's invariant: the flag says whether each of the codes so far is
-- a letter.
use mathlib.Core.Path.{◌≡◌}
use lib.ListN.{take}
use Rattle.base.specs.Lists.{every}
use Rattle.word.specs.Letters.{is_letter}
use Rattle.word_writer.proofs.all_codes.Given as goal

abbrev pub invariant-loop-c : goal.invariant-loop-c
invariant-loop-c l = l.lettered ≡ every is_letter (take l.c-index l.codes)
