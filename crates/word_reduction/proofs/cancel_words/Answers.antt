-- `word_reduction::cancel_words` meets its contract. The loop's invariant: the stack holds the freely reduced word of
-- the codes of the first k words of eight bytes.
use Prim.Native.Nat.{ℕ, ◌*◌, ◌/◌}
use mathlib.Core.Path.{◌≡◌, refl, sym, ap, ap₂, ◌∙◌}
use mathlib.Core.List.{List, ◌++◌}
use native.Mathlib.Omega.{arith}
use lib.ListN.{length, take}
use Rattle.base.specs.Lists.{every}
use Rattle.base.specs.Digits.{halves, part}
use Rattle.base.proofs.DigitLaws.{halves_more}
use Rattle.word.specs.Letters.{is_letter}
use Rattle.word.specs.Reduction.{reduced}
use Rattle.word.proofs.SixteenCodes.{length_sixteen}
use Rattle.word.proofs.PackedCodes.{front_lettered, word_lettered}
use Rattle.word.proofs.ReductionLaws.{reduced_irreducible, reduced_lettered, reduced_front}
use Rattle.word_reduction.proofs.cancel_words.Goals as goal

pub loop-k-init : goal.loop-k-init
unfolding reduced halves
loop-k-init c = (omega arith, refl)

pub pushes-count-requires : goal.pushes-count-requires
pushes-count-requires c =
    let l = c.loop-k in
    let bytes = c.args.part.now in
    let n = c.args.n in
    let front = halves (take (8 * l.k) bytes) in
    let sixteen = ap length c.sixteen_at.ensures ∙ length_sixteen bytes (8 * l.k) (omega arith) in (
      omega arith,
      rw l.invariant.1 (reduced_irreducible front),
      rw l.invariant.1
          (reduced_lettered front (front_lettered bytes n c.requires.0 c.requires.2 (8 * l.k) (omega arith))),
      ap (every is_letter) c.sixteen_at.ensures
          ∙ word_lettered bytes n c.requires.0 c.requires.2 (8 * l.k) (omega arith),
    )

pub loop-k-preserved : goal.loop-k-preserved
loop-k-preserved c =
    let l = c.loop-k in
    let bytes = c.args.part.now in
    let front = halves (take (8 * l.k) bytes) in
    let sixteen = ap length c.sixteen_at.ensures ∙ length_sixteen bytes (8 * l.k) (omega arith) in (
      omega (arith, c.pushes-count.ensures.0),
      c.pushes-count.ensures.1
          ∙ ap₂ (λ (u v : List ℕ). reduced (u ++ v)) l.invariant.1 c.sixteen_at.ensures
          ∙ reduced_front front (halves (part (8 * l.k) 8 bytes))
          (front_lettered bytes c.args.n c.requires.0 c.requires.2 (8 * l.k) (omega arith))
          ∙ ap reduced (sym (halves_more (8 * l.k) 8 bytes) ∙ ap (λ (m : ℕ). halves (take m bytes)) (omega arith)),
    )

pub returns : goal.returns
returns c =
    let l = c.loop-k in
    let a = c.args in
    let done : 8 * l.k ≡ a.n / 16 * 8 = omega arith in
    (omega arith, l.invariant.1 ∙ ap (λ (k : ℕ). reduced (halves (take k a.part.now))) done)
