-- `move_rewriter::list::all_moves` meets its contract. The loop's invariant: the moves from k on give, on the word at
-- this point, what all moves give on the word handed in.
use Prim.Native.Nat.{ℕ, ◌-◌}
use mathlib.Core.Path.{◌≡◌, ap, ◌∙◌}
use native.Mathlib.Omega.{arith}
use lib.ListN.{take}
use Rattle.move_kinds.specs.Rewriting.{move_count}
use Rattle.move_kinds.specs.steps.Leaving.{moved}
use Rattle.move_kinds.proofs.CodeList.{steps_from, goes_on, stops, ends}
use Rattle.move_rewriter.proofs.list.all_moves.Goals as goal

pub loop-k-init : goal.loop-k-init
loop-k-init c =
    let a = c.args in
    let e : c.two_bytes-count.result - 0 ≡ move_count a.moves.now = omega (arith, c.two_bytes-count.ensures.0) in (
      ap (λ (i : ℕ). moved (steps_from a.moves.now 0 i) (take a.n a.codes.now)) e,
      c.two_bytes-count.ensures.0,
      omega arith,
    )

pub move_at-m-requires : goal.move_at-m-requires
move_at-m-requires c =
    let l = c.loop-k in
    (record { short = omega arith; room = l.auto.codes ∙ c.requires.0.room }, c.requires.1, omega arith)

pub returns-then-m-ne0 : goal.returns-then-m-ne0
returns-then-m-ne0 c =
    let l = c.loop-k in
    let refused : (c.move_at-m.result.answer ≡ 0 → ⊥) = omega arith in
    stops c.args.moves.now l.codes c.two_bytes-count.result l.k l.letters l.invariant.0
    (omega arith) refused c.move_at-m.ensures

pub loop-k-preserved : goal.loop-k-preserved
loop-k-preserved c =
    let l = c.loop-k in
    let made : c.move_at-m.result.answer ≡ 0 = omega arith in (
      goes_on c.args.moves.now l.codes c.two_bytes-count.result l.k l.letters l.invariant.0
          (omega arith) made
          c.move_at-m.ensures,
      l.invariant.1,
      omega (arith, c.move_at-m.ensures.letters_in, c.requires.0.room, l.auto.codes, c.move_at-m.auto.codes),
    )

pub returns : goal.returns
returns c =
    let l = c.loop-k in
    ends c.args.moves.now l.codes c.two_bytes-count.result l.k l.letters l.invariant.0 (omega arith)
    (omega (arith, l.auto.codes, c.requires.0.room))
