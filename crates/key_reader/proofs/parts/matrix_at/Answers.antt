-- `key_reader::parts::matrix_at` meets its contract. The loop's invariant: the entries of the first r rows are in their
-- places, and all other entries are zero.
use Prim.Native.Nat.{ℕ}
use mathlib.Core.Path.{◌≡◌, sym, ap, ◌∙◌}
use mathlib.Core.List.{List}
use native.Mathlib.Omega.{arith}
use lib.ListN.{get_or, set}
use Rattle.base.specs.Digits.{part}
use Rattle.base.specs.Packing.{row_bytes}
use Rattle.base.proofs.RowLaws.{length_unpacked}
use Rattle.key.proofs.EntryLaws.{placed_none, whole_put}
use Rattle.key_reader.proofs.RowsRead.{held, row_at, last_at}
use Rattle.key_reader.proofs.parts.matrix_at.Goals as goal

pub loop-r-init : goal.loop-r-init
loop-r-init c = placed_none _

pub loop-r-preserved : goal.loop-r-preserved
loop-r-preserved c =
    let l = c.loop-r in
    let a = c.args in
    c.put_row.ensures (held a.file.now a.at a.bits)
    (λ j h. row_at a.file.now a.at a.bits (λ i. omega (arith, c.type_inv.file i)) c.requires.3 l.r j (omega arith) h
    ∙ ap (λ (xs : List ℕ). get_or xs j 0) (sym c.eight-row.ensures))
    l.invariant

pub returns : goal.returns
returns c =
    let l = c.loop-r in
    let a = c.args in
    let seven : l.r ≡ 7 = omega arith in
    ap (λ (x : ℕ). set l.m c.place.result x)
    (sym (last_at a.file.now a.at a.bits (λ i. omega (arith, c.type_inv.file i)) c.requires.3 (omega arith)
    c.requires.1))
    ∙ whole_put (held a.file.now a.at a.bits) (length_unpacked a.bits 57 (part a.at (row_bytes a.bits 57) a.file.now))
    l.m c.place.ensures.0 (rw seven at l.invariant)
