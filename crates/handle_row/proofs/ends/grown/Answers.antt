-- `handle_row::ends::grown` meets its contract: the sum of how many letters replace each letter.
use Prim.Native.Nat.{ℕ}
use mathlib.Core.Path.{◌≡◌, ◌∙◌}
use native.Mathlib.Omega.{arith}
use lib.ListN.{length}
use Rattle.std.specs.List.{sum_by}
use Rattle.std.proofs.Common.{rules}
use Rattle.braid_handles.specs.Handles.{conjugated_letter}
use Rattle.handle_row.proofs.EndLaws.{conjugated_sum, conjugated_short}
use Rattle.handle_row.proofs.ends.grown.Goals as goal

pub returns : goal.returns
returns c =
    let a = c.args.a in
    let part = c.args.part.now in
    let total : c.sum.result ≡ sum_by (λ (d : ℕ). length (conjugated_letter a d)) part = search rules in
    let long = total ∙ conjugated_sum a part in
    (long, omega (arith, conjugated_short a part))
