-- `word_dialect::are_parts` meets its contract. The loop's invariant: the sum and the flag are those of the parts
-- so far.
use Prim.Native.Nat.{ℕ, ◌+◌, ◌<◌}
use mathlib.Core.Path.{◌≡◌, refl, sym, ap, ap₂, ◌∙◌}
use mathlib.Core.Bool.{Bool, ◌&&◌}
use native.Mathlib.Omega.{arith}
use lib.Dec.{ltb, eqb}
use lib.ListN.{length, take, get_or}
use lib.Seq.{take_all}
use Rattle.base.specs.Lists.{every}
use Rattle.base.proofs.ListLaws.{every_more}
use Rattle.word_dialect.specs.Dialect.{part_sum}
use Rattle.word_dialect.proofs.PartLaws.{sum_more, parts_are, too_many}
use Rattle.word_dialect.proofs.are_parts.Goals as goal

pub returns-then-parts-gt7 : goal.returns-then-parts-gt7
returns-then-parts-gt7 c = sym (too_many c.args.parts.now (omega arith))

pub loop-p-init : goal.loop-p-init
unfolding part_sum every
loop-p-init c = (omega arith, refl, refl)

pub overflow_add-sum : goal.overflow_add-sum
overflow_add-sum c = omega (arith, c.from-sum.ensures, c.type_inv.parts c.loop-p.p-index)

pub loop-p-preserved : goal.loop-p-preserved
loop-p-preserved c =
    let parts = c.args.parts.now in
    let l = c.loop-p in
    let k : l.p-index < length parts = omega arith in
    let byte = c.type_inv.parts l.p-index in
    rw c.from-sum.ensures (
      omega arith,
      ap (λ (s : ℕ). s + get_or parts l.p-index 0) l.invariant.1 ∙ sym (sum_more parts l.p-index k),
      ap (λ (b : Bool). b && ltb 0 (get_or parts l.p-index 0)) l.invariant.2
          ∙ sym (every_more (λ p. ltb 0 p) parts l.p-index k),
    )

pub returns : goal.returns
returns c =
    let l = c.loop-p in
    let parts = c.args.parts.now in
    let all : take l.p-index parts ≡ parts = take_all l.p-index parts (omega arith) in
    ap₂ (λ (b : Bool) (s : ℕ). b && eqb s 7) (l.invariant.2 ∙ ap (every (λ p. ltb 0 p)) all)
    (l.invariant.1 ∙ ap part_sum all)
    ∙ parts_are parts
