-- `word_dialect::lay::lay_all` meets its contract. The loop's invariant: the row starts with the runs of the codes
-- so far.
use Prim.Native.Nat.{ℕ, ◌≤◌, ◌<◌}
use mathlib.Core.Path.{◌≡◌, refl, sym, ap, ◌∙◌}
use mathlib.Core.List.{List, ◌++◌}
use native.Mathlib.Omega.{arith}
use lib.ListN.{length, take, get_or}
use lib.Seq.{take_all}
use Rattle.word_dialect.specs.Dialect.{each_by}
use Rattle.word_dialect.specs.steps.Table.{laid, table_run}
use Rattle.word_dialect.proofs.EachLaws.{each_front}
use Rattle.word_dialect.proofs.TableLaws.{laid_more, laid_length, run_length}
use Rattle.word_dialect.proofs.lay.lay_all.Goals as goal

pub loop-c-init : goal.loop-c-init
unfolding laid each_by
loop-c-init c = (refl, refl)

pub lay-at-requires : goal.lay-at-requires
unfolding laid
lay-at-requires c =
    let a = c.args in
    let l = c.loop-c in
    let front : length (laid a.table.now (take l.c-index a.codes.now)) ≤ length (laid a.table.now a.codes.now) =
    each_front (table_run a.table.now) a.codes.now l.c-index in
    rw c.from.ensures (
      c.requires.0,
      c.requires.1 l.c-index,
      omega (arith, front, c.requires.2, l.invariant.0),
    )

pub loop-c-preserved : goal.loop-c-preserved
loop-c-preserved c =
    let a = c.args in
    let l = c.loop-c in
    let k : l.c-index < length a.codes.now = omega arith in
    let more = laid_more a.table.now a.codes.now c.requires.0 c.requires.1 l.c-index k in
    let long = laid_length a.table.now a.codes.now c.requires.0 c.requires.1 l.c-index k in
    let run = run_length a.table.now a.codes.now c.requires.0 c.requires.1 l.c-index k in
    let step = rw c.from.ensures at c.lay-at.ensures in (
      omega (arith, step.0, l.invariant.0, long, run),
      step.2
          ∙ ap (λ (w : List ℕ). w ++ table_run a.table.now (get_or a.codes.now l.c-index 0)) l.invariant.1
          ∙ sym more,
    )

pub returns : goal.returns
returns c =
    let l = c.loop-c in
    let a = c.args in
    let all : take l.c-index a.codes.now ≡ a.codes.now = take_all l.c-index a.codes.now (omega arith) in
    ap (λ (w : List ℕ). take (length (laid a.table.now w)) l.row) (sym all)
    ∙ ap (λ (n : ℕ). take n l.row) (sym l.invariant.0) ∙ l.invariant.1 ∙ ap (laid a.table.now) all
