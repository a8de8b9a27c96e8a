-- `word_dialect::following` meets its contract. The loop's invariant: the answer is that of the parts from the
-- next part on, for the generator counted from the start of that part.
use Prim.Native.Nat.{ℕ, suc, ◌+◌, ◌-◌}
use mathlib.Core.Path.{◌≡◌, sym, ap, ◌∙◌}
use mathlib.Core.List.{List}
use native.Mathlib.Omega.{arith}
use lib.ListN.{drop, get_or, drop_of_length-le}
use Rattle.word_dialect.specs.Dialect.{following}
use Rattle.word_dialect.proofs.PartLaws.{in_first, in_later, rest_is}
use Rattle.word_dialect.proofs.following.Goals as goal

pub returns-then-left-p : goal.returns-then-left-p
returns-then-left-p c =
    let a = c.args in
    let i = c.loop-p.p-index in
    let left = c.loop-p.left in
    let p = get_or a.parts.now i 0 in
    let s : p - 1 - left ≡ p - suc left = omega arith in
    s ∙ sym (in_first p (drop (i + 1) a.parts.now) left c.if-left-p.true)
    ∙ sym (rest_is a.parts.now i left (omega arith)) ∙ c.loop-p.invariant

pub loop-p-preserved : goal.loop-p-preserved
loop-p-preserved c =
    let a = c.args in
    let i = c.loop-p.p-index in
    let left = c.loop-p.left in
    sym (in_later (get_or a.parts.now i 0) (drop (i + 1) a.parts.now) left c.if-left-p.false)
    ∙ sym (rest_is a.parts.now i left (omega arith)) ∙ c.loop-p.invariant

pub returns : goal.returns
unfolding following
returns c =
    let l = c.loop-p in
    sym (ap (λ (ps : List ℕ). following ps l.left) (drop_of_length-le c.args.parts.now {i = l.p-index} (omega arith)))
    ∙ l.invariant
