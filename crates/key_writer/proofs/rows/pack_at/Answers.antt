-- `key_writer::rows::pack_at` meets its contract.
use Prim.Native.Nat.{ℕ, ◌+◌, ◌-◌}
use mathlib.Core.Path.{◌≡◌, sym, ap, ap₂, ◌∙◌}
use mathlib.Core.List.{List, ◌++◌}
use native.Mathlib.Omega.{arith}
use lib.ListN.{take, drop}
use Rattle.base.proofs.RowLaws.{length_packed_row}
use Rattle.key_writer.proofs.rows.pack_at.Goals as goal

pub returns : goal.returns
returns c =
    let a = c.args in
    let n = c.row_bytes.ensures ∙ sym (length_packed_row a.bits a.row.now) in
    let e : a.at + c.row_bytes.result - a.at ≡ c.row_bytes.result = omega arith in
    record {
      ends = ap (λ (k : ℕ). a.at + k) n;
      lies =
          ap₂ (λ (xs : List ℕ) (k : ℕ). take a.at a.out.now ++ (xs ++ drop k (drop a.at a.out.now)))
          c.pack.ensures (e ∙ n);
    }
