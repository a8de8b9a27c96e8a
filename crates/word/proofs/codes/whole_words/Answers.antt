-- `word::codes::whole_words` meets its contract. The loop's invariant: the codes of the first k words of eight bytes
-- stand at the front, and the other codes are unchanged.
use Prim.Native.Nat.{ℕ, ◌+◌, ◌-◌, ◌*◌, ◌/◌}
use mathlib.Core.Path.{◌≡◌, refl, sym, ap, ◌∙◌}
use mathlib.Core.List.{List, ◌++◌}
use native.Mathlib.Omega.{arith}
use lib.ListN.{length, take, drop, length-take, length-drop}
use lib.Seq.{length-take-le}
use Rattle.base.specs.Lists.{overlaid}
use Rattle.base.specs.Digits.{halves, part}
use Rattle.base.proofs.ListLaws.{laid_more}
use Rattle.base.proofs.DigitLaws.{length_halves, halves_more}
use Rattle.word.proofs.SixteenCodes.{length_sixteen}
use Rattle.word.proofs.codes.whole_words.Goals as goal

pub loop-k-init : goal.loop-k-init
unfolding overlaid halves
loop-k-init c = refl

pub copy_from_slice-requires : goal.copy_from_slice-requires
copy_from_slice-requires c =
    let l = c.loop-k in
    let bytes = c.args.bytes.now in
    simp (length-take, length-drop)
    (omega (arith, ap length c.sixteen_at.ensures, length_sixteen bytes (8 * l.k) (omega arith)))

pub loop-k-preserved : goal.loop-k-preserved
loop-k-preserved c =
    let l = c.loop-k in
    let bytes = c.args.bytes.now in
    let at : ℕ = 16 * l.k in
    let n : ℕ = at + 16 - at in
    let before = halves (take (8 * l.k) bytes) in
    let size : length before ≡ at =
    omega (arith, length_halves (take (8 * l.k) bytes), length-take-le (8 * l.k) bytes (omega arith)) in
    let sixteen : length (halves (part (8 * l.k) 8 bytes)) ≡ n =
    length_sixteen bytes (8 * l.k) (omega arith) ∙ omega arith in
    ap (λ (s : List ℕ). take at l.codes ++ (s ++ drop n (drop at l.codes)))
    (c.copy_from_slice.ensures.after ∙ c.sixteen_at.ensures)
    ∙ laid_more before (halves (part (8 * l.k) 8 bytes)) c.args.codes.now l.codes at n l.invariant size sixteen
    ∙ ap (λ (s : List ℕ). overlaid s c.args.codes.now)
    (sym (halves_more (8 * l.k) 8 bytes) ∙ ap (λ (m : ℕ). halves (take m bytes)) (omega arith))

pub returns : goal.returns
returns c =
    let a = c.args in
    let all : c.loop-k.k ≡ length a.bytes.now / 8 = omega arith in (
      omega arith,
      omega arith,
      c.loop-k.invariant ∙ ap (λ (k : ℕ). overlaid (halves (take (8 * k) a.bytes.now)) a.codes.now) all,
    )
