-- `word_crossing::walk::walk` meets its contract. The loop's invariant: i letters of each half are counted, and the
-- front's other letters lead to the list that the whole front leaves.
use Prim.Native.Nat.{◌+◌, ◌/◌}
use native.Mathlib.Omega.{arith}
use lib.ListN.{length}
use Rattle.base.specs.Lists.{values_from}
use Rattle.base.proofs.ListLaws.{every_get_d}
use Rattle.word.specs.Letters.{is_letter}
use Rattle.word_crossing.proofs.HalfLaws.{halving_first, halving_next, halved, halved_odd}
use Rattle.word_crossing.proofs.HalfLaws.{first_table, second_table}
use Rattle.word_crossing.proofs.walk.walk.Goals as goal

pub loop-i-init : goal.loop-i-init
unfolding values_from
loop-i-init c =
    let w = c.args.codes.now in
    halving_first w (length w / 2) c.requires.0 c.requires.1 (omega arith)

pub letter-requires : goal.letter-requires
letter-requires c =
    let w = c.args.codes.now in
    let h = length w / 2 in
    let l = c.loop-i in (
      l.invariant.front.labelled,
      first_table w h c.requires.0 c.requires.1 (omega arith) l.invariant,
      every_get_d is_letter w c.requires.1 l.i (omega arith),
    )

pub letter-requires-in-loop-i : goal.letter-requires-in-loop-i
letter-requires-in-loop-i c =
    let w = c.args.codes.now in
    let h = length w / 2 in
    let l = c.loop-i in (
      l.invariant.back.labelled,
      second_table w h c.requires.0 c.requires.1 (omega arith) l.invariant,
      every_get_d is_letter w c.requires.1 (h + l.i) (omega arith),
    )

pub loop-i-preserved : goal.loop-i-preserved
loop-i-preserved c =
    let w = c.args.codes.now in
    let h = length w / 2 in
    let l = c.loop-i in
    halving_next w h c.requires.0 c.requires.1 (omega arith) l.invariant (omega arith) c.letter.ensures
    c.letter-in-loop-i.ensures

pub letter-requires-then-half-codes : goal.letter-requires-then-half-codes
letter-requires-then-half-codes c =
    let w = c.args.codes.now in
    let h = length w / 2 in
    let l = c.loop-i in (
      l.invariant.back.labelled,
      second_table w h c.requires.0 c.requires.1 (omega arith) l.invariant,
      every_get_d is_letter w c.requires.1 (h + h) (omega arith),
    )

pub returns-then-half-codes : goal.returns-then-half-codes
returns-then-half-codes c =
    let w = c.args.codes.now in
    let h = length w / 2 in
    let l = c.loop-i in
    halved_odd w h c.requires.0 c.requires.1 (omega arith) l.invariant (omega arith) (omega arith) (omega arith)
    c.letter-then-half-codes.ensures

pub returns-else-half-codes : goal.returns-else-half-codes
returns-else-half-codes c =
    let w = c.args.codes.now in
    let h = length w / 2 in
    let l = c.loop-i in
    halved w h c.requires.0 c.requires.1 (omega arith) l.invariant (omega arith) (omega arith)
