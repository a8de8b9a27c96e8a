-- `word_dialect::lay::letters_of` meets its contract. The loop's invariant: the number is that of the runs of the
-- codes so far.
use Prim.Native.Nat.{ℕ, ◌+◌, ◌*◌, ◌≤◌}
use mathlib.Core.Path.{◌≡◌, refl, sym, ap, ap₂, ◌∙◌}
use mathlib.Core.List.{List}
use native.Mathlib.Omega.{arith}
use lib.ListN.{length, get_or}
use lib.Seq.{take_all}
use Rattle.word_dialect.specs.Dialect.{each_by}
use Rattle.word_dialect.specs.steps.Table.{laid}
use Rattle.word_dialect.proofs.TableLaws.{laid_length}
use Rattle.word_dialect.proofs.lay.letters_of.Goals as goal

pub loop-c-init : goal.loop-c-init
unfolding laid each_by
loop-c-init c = (omega arith, refl)

pub bounds-table-from : goal.bounds-table-from
bounds-table-from c = omega (arith, c.from.ensures, c.requires.1 c.loop-c.c-index, c.requires.0.size)

pub loop-c-preserved : goal.loop-c-preserved
loop-c-preserved c =
    let l = c.loop-c in
    let a = c.args in
    let p = c.requires in
    let code : ℕ = get_or a.codes.now l.c-index 0 in
    let few : get_or a.table.now (8 * code + 7) 0 ≤ 7 = p.0.few code (p.1 l.c-index) in
    let run : c.from-letters.result ≡ get_or a.table.now (8 * code + 7) 0 =
    c.from-letters.ensures ∙ ap (λ (i : ℕ). get_or a.table.now (8 * i + 7) 0) c.from.ensures in (
      omega (arith, few, run),
      ap₂ ◌+◌ l.invariant.1 run ∙ sym (laid_length a.table.now a.codes.now p.0 p.1 l.c-index (omega arith)),
    )

pub returns : goal.returns
returns c =
    let l = c.loop-c in
    let a = c.args in
    l.invariant.1
    ∙ ap (λ (w : List ℕ). length (laid a.table.now w)) (take_all l.c-index a.codes.now (omega arith))
