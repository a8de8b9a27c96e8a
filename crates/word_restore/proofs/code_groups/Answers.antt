-- `word_restore::code_groups` meets its contract. The loop's invariant: the codes of the first k groups stand at the
-- front, and the other codes are unchanged.
use Prim.Native.Nat.{ℕ, ◌+◌, ◌-◌, ◌*◌}
use mathlib.Core.Path.{◌≡◌, refl, sym, ap, ◌∙◌}
use mathlib.Core.List.{zip_with}
use native.Mathlib.Omega.{arith}
use lib.ListN.{length, get_or, length-take, length-drop}
use Rattle.base.specs.Lists.{overlaid}
use Rattle.base.specs.Digits.{value, digits, part}
use Rattle.base.proofs.PackLaws.{below_part, length_part}
use Rattle.base.proofs.DigitLaws.{length_digits}
use Rattle.word_stored.specs.Stored.{letter_of}
use Rattle.word_stored.proofs.SignLaws.{length_letters}
use Rattle.word_restore.specs.steps.Restoring.{group_codes}
use Rattle.word_restore.proofs.RestoreLaws.{group_put}
use Rattle.word_restore.proofs.code_groups.Goals as goal

pub loop-k-init : goal.loop-k-init
unfolding group_codes digits zip_with overlaid
loop-k-init c = refl

pub number-three-requires : goal.number-three-requires
number-three-requires c =
    let l = c.loop-k in
    let generators = c.args.generators.now in
    let n : ℕ = 3 * l.k + 3 - 3 * l.k in
    let e : n ≡ 3 = omega arith in (
      below_part 256 (3 * l.k) n generators (λ k. (c.type_inv.generators k).fits),
      rw (e, length_part (3 * l.k) 3 generators (omega arith)) (omega arith),
    )

pub copy_from_slice-requires : goal.copy_from_slice-requires
copy_from_slice-requires c =
    simp (length-take, length-drop)
    (omega (
      arith,
      ap length c.eight_codes.ensures,
      length_letters (digits 2 8 (get_or c.args.signs.now c.loop-k.k 0)) (digits 8 8 c.number-three.result)
          (length_digits 2 8 (get_or c.args.signs.now c.loop-k.k 0) ∙ sym (length_digits 8 8 c.number-three.result)),
      length_digits 8 8 c.number-three.result,
    ))

pub loop-k-preserved : goal.loop-k-preserved
loop-k-preserved c =
    let l = c.loop-k in
    let a = c.args in
    let generators = a.generators.now in
    let three : 3 * l.k + 3 - 3 * l.k ≡ 3 = omega arith in
    group_put a.signs.now generators (λ k. (c.type_inv.signs k).fits) (λ k. (c.type_inv.generators k).fits) l.k
    (omega arith) (omega arith) a.codes.now l.codes c.copy_from_slice.new.self (8 * l.k + 8 - 8 * l.k) (omega arith)
    l.invariant
    (c.copy_from_slice.ensures.after ∙ c.eight_codes.ensures
    ∙ ap (λ (v : ℕ). zip_with letter_of (digits 2 8 (get_or a.signs.now l.k 0)) (digits 8 8 v))
    (c.number-three.ensures ∙ ap (λ (i : ℕ). value 256 (part (3 * l.k) i generators)) three))

pub returns : goal.returns
returns c =
    let l = c.loop-k in
    let a = c.args in
    let e : l.k ≡ a.groups = omega arith in
    l.invariant ∙ ap (λ (i : ℕ). overlaid (group_codes a.signs.now a.generators.now i) a.codes.now) e
