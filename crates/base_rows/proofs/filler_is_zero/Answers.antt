-- `base_rows::filler_is_zero` meets its contract: the filler stands in the last byte.
use Prim.Native.Nat.{ℕ, ◌+◌, ◌-◌, ◌<◌}
use mathlib.Core.Path.{◌≡◌, sym, ap}
use mathlib.Core.List.{List}
use native.Mathlib.Decide.{dec_lt}
use native.Mathlib.Omega.{arith}
use lib.Dec.{eqb}
use lib.ListN.{length}
use lib.Pow.{pow_pos}
use Rattle.std.proofs.Common.{None}
use Rattle.std.specs.List.{slice_get}
use Rattle.std.proofs.lemmas.Option.{slice_get_within, get_or_from_slice_get, slice_get-get_or}
use Rattle.base.specs.Packing.{filler_bits}
use Rattle.base.proofs.RowLaws.{filler_none, filler_last}
use Rattle.base_rows.proofs.filler_is_zero.Goals as goal

-- a list without a last element is empty
empty : (xs : List ℕ) → None ≡ slice_get xs (length xs - 1) → length xs ≡ 0
empty xs e = go (dec_lt 0 (length xs))
  where
    go : Dec (0 < length xs) → length xs ≡ 0
    go (yes h) = let s = slice_get-get_or xs (length xs - 1) 0 (omega arith) in cc
    go (no h) = omega arith

pub nonzero_rem-result : goal.nonzero_rem-result
nonzero_rem-result c = rw c.filler_values.ensures (pow_pos (filler_bits c.args.bits c.args.n))

pub returns-in-Some : goal.returns-in-Some
returns-in-Some c =
    let a = c.args in
    let bytes = a.bytes.now in
    let k : ℕ = length bytes - 1 in
    let there = sym c.in-Some.ensures.value in
    let within = slice_get_within bytes k c.in-Some.last.now there in
    let l : length bytes ≡ k + 1 = omega arith in
    rw (c.from.ensures, c.filler_values.ensures, ← get_or_from_slice_get bytes k c.in-Some.last.now 0 there)
    (sym (ap (λ (v : ℕ). eqb v 0) (filler_last a.bits a.n k bytes l)))

pub returns-in-None : goal.returns-in-None
returns-in-None c =
    let a = c.args in
    sym (ap (λ (v : ℕ). eqb v 0) (filler_none a.bits a.n a.bytes.now (empty a.bytes.now c.in-None.ensures.value)))
