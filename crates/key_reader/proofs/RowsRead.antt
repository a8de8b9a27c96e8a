-- The entries of a matrix as the reader takes them from a file: eight at a time, which end at the row's last byte, and
-- then the last entry from the front of its byte.
use Prim.Native.Nat.{ℕ, ◌+◌, ◌-◌, ◌*◌, ◌/◌, ◌^◌, ◌≤◌, ◌<◌}
use mathlib.Core.Path.{◌≡◌, refl, ap, ◌∙◌}
use mathlib.Core.List.{List}
use native.Mathlib.Nat.{mul-le-mul_right}
use native.Mathlib.Omega.{arith}
use lib.ListN.{length, drop, get_or}
use lib.Seq.{get_or-take, get_or-drop}
use Rattle.base.specs.Digits.{part}
use Rattle.base.specs.Packing.{Below, row_bytes, unpacked_row}
use Rattle.base.proofs.PackLaws.{group_next, below_part, length_part, part_part}
use Rattle.base.proofs.RowLaws.{row_eight, row_one}
use Rattle.key.specs.Keys.{entries}

-- the entries of the matrix whose bytes begin at a place
abbrev pub held : List ℕ → ℕ → ℕ → List ℕ
held file at b = entries b (part at (row_bytes b 57) file)

-- the bytes of row r lie before the matrix's end
row_ends : (b r : ℕ) → r < 7 → r * b + b ≤ row_bytes b 57
row_ends b r h =
    let most : r ≤ 6 = omega arith in
    let few : r * b ≤ 6 * b = mul-le-mul_right b most in
    omega arith

module _ (file : List ℕ) (at b : ℕ) (below : Below 256 file) (room : at + row_bytes b 57 ≤ length file) where
  abbrev bytes : List ℕ
  bytes = part at (row_bytes b 57) file

  bytes_below : Below 256 bytes
  bytes_below = below_part 256 at (row_bytes b 57) file below

  size : length bytes ≡ row_bytes b 57
  size = length_part at (row_bytes b 57) file room

  pub row_at : (r c : ℕ) → r < 7 → c < 8
      → get_or (held file at b) (8 * r + c) 0 ≡ get_or (unpacked_row b 8 (part (at + (r + 1) * b - b) b file)) c 0
  row_at r c h small =
      let back : at + r * b ≡ at + (r + 1) * b - b = omega (arith, group_next r b (r * b) refl) in
      row_eight b 57 r c bytes bytes_below size (omega arith) small
      ∙ ap (λ (xs : List ℕ). get_or (unpacked_row b 8 xs) c 0)
      (part_part at (row_bytes b 57) (r * b) b file (row_ends b r h) ∙ ap (λ (k : ℕ). part k b file) back)

  pub last_at : 0 < b → b ≤ 8 → get_or (held file at b) 56 0 ≡ get_or file (at + 7 * b) 0 / 2 ^ (8 - b)
  last_at some narrow =
      row_one b 7 bytes bytes_below size some narrow
      ∙ ap (λ (x : ℕ). x / 2 ^ (8 - b))
      (get_or-take (row_bytes b 57) (drop at file) (7 * b) 0 (omega arith) ∙ get_or-drop at file (7 * b) 0)
