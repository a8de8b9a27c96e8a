-- `word_crossing::walk::numbers` meets its contract. The loop's invariant: the numbers of the first k pairs are in
-- their places.
use Prim.Native.Nat.{◌<◌}
use mathlib.Core.Path.{refl, ap, ◌∙◌}
use native.Mathlib.Omega.{arith}
use lib.ListN.{length-set}
use mir.Syntax.{w32}
use mir.Facts.{to_z-of_z}
use Rattle.word.specs.Words.{codes}
use Rattle.word.proofs.ReadLaws.{accepted_word}
use Rattle.word_crossing.specs.Crossings.{Two, crossings}
use Rattle.word_crossing.proofs.PairLaws.{in_order, larger_below, number_more, all_numbers}
use Rattle.word_crossing.proofs.HalfLaws.{walks_ready, number_of}
use Rattle.word_crossing.proofs.walk.numbers.Goals as goal

pub number-requires : goal.number-requires
number-requires c =
    let k = c.loop-k.k in
    let here : k < 28 = omega arith in (
      walks_ready c.counted-walked.ensures,
      omega (arith, ap (λ (t : Two). t.smaller) c.pair_at-two.ensures, in_order k here, larger_below k here),
      omega (arith, ap (λ (t : Two). t.larger) c.pair_at-two.ensures, larger_below k here),
    )

pub loop-k-preserved : goal.loop-k-preserved
loop-k-preserved c =
    let l = c.loop-k in
    let k = l.k in
    let word = c.args.word.now in
    let here : k < 28 = omega arith in
    let two = c.pair_at-two.ensures in
    let small = ap (λ (t : Two). t.smaller) two in
    let large = ap (λ (t : Two). t.larger) two in
    let number =
    to_z-of_z {w = w32} (record { sfits = c.number.type_inv })
    ∙ number_of c.pair_at-two.result.smaller c.pair_at-two.result.larger
    (omega (arith, small, in_order k here, larger_below k here))
    (omega (arith, large, larger_below k here))
    (λ e. omega (arith, e, small, large, in_order k here)) (accepted_word word c.requires).lettered
    c.counted-walked.ensures c.number.ensures
    ∙ ap (λ (t : Two). crossings t.smaller t.larger (codes word)) two in (
      simp length-set l.invariant.0,
      number_more (codes word) l.numbers k _ (omega arith) l.invariant.1 number,
    )

pub returns : goal.returns
returns c =
    let l = c.loop-k in
    all_numbers (codes c.args.word.now) l.numbers l.invariant.0
    (λ k h. l.invariant.1 k (omega arith))

pub loop-k-init : goal.loop-k-init
loop-k-init c = (refl, λ j h. absurd (omega arith))
