-- `word_writer::pack` meets its contract. The loop's invariant: the first k bytes of the output are those of the packed
-- codes, and the other bytes are unchanged.
use Prim.Native.Nat.{ℕ, ◌+◌, ◌*◌, ◌/◌}
use mathlib.Core.Path.{◌≡◌, sym, ap, ap₂, ◌∙◌}
use mathlib.Core.List.{List, ◌++◌}
use native.Mathlib.Omega.{arith}
use lib.ListN.{length, take, drop, get_or, set}
use Rattle.base.proofs.ListLaws.{overlay_step}
use Rattle.word.specs.Words.{packed}
use Rattle.word.proofs.WordLaws.{letters_below, length_packed, get_d_packed}
use Rattle.word.proofs.WriteLaws.{overlay_part}
use Rattle.word_writer.proofs.pack.Goals as goal

pub two_codes-requires : goal.two_codes-requires
two_codes-requires c =
    let k = c.loop-k.k in
    let below = letters_below c.args.codes.now c.requires.0 in
    (omega arith, omega (arith, below (2 * k)), omega (arith, below (2 * k + 1)))

pub loop-k-preserved : goal.loop-k-preserved
loop-k-preserved c =
    let l = c.loop-k in
    let a = c.args in
    let cs = a.codes.now in
    let k = l.k in
    let two : 2 * k ≡ k * 2 = omega arith in
    ap₂ (λ (o : List ℕ) (b : ℕ). set o k b) l.invariant
    (c.two_codes.ensures ∙ ap (λ (j : ℕ). get_or cs j 0 * 16 + get_or cs (j + 1) 0) two ∙ sym (get_d_packed cs k))
    ∙ overlay_step (packed cs) a.out.now k (omega (arith, length_packed cs)) (omega arith)

pub returns : goal.returns
returns c =
    let l = c.loop-k in
    let a = c.args in
    let e : l.k ≡ length a.codes.now / 2 = omega arith in
    l.invariant
    ∙ ap (λ (i : ℕ). take i (packed a.codes.now) ++ drop i a.out.now) e
    ∙ sym (overlay_part (packed a.codes.now) a.out.now (length a.codes.now / 2)
    (omega (arith, length_packed a.codes.now)))
