-- The parts of a key file as the code cuts them out. The file of a key consists of its parts: their sizes, and each
-- part cut out again.
use Prim.Native.Nat.{ℕ, ◌+◌, ◌-◌, ◌^◌}
use mathlib.Core.Path.{◌≡◌, sym, ap, ap₂, ◌∙◌}
use mathlib.Core.List.{List, [], ◌∷◌, map}
use native.Mathlib.Nat.{zero-add}
use native.Mathlib.Omega.{arith}
use lib.ListN.{length, get_or}
use Rattle.base.specs.Digits.{part}
use Rattle.base.specs.Packing.{row_bytes}
use Rattle.base.specs.Files.{joined, place_from, file_part}
use Rattle.base.proofs.DigitLaws.{length_digits}
use Rattle.base.proofs.RowLaws.{length_packed_row}
use Rattle.base.proofs.FileLaws.{part_joined, length_joined}
use Rattle.key.specs.Keys.{key_sizes, file_parts, key_file}
use Rattle.key.specs.steps.Places.{key_place, file_bytes}
use Rattle.key.specs.steps.Parts.{Sizes}

-- a part as the code cuts it out, from its place to its end
pub part_taken : (b i : ℕ) (file : List ℕ) {at end : ℕ} → at ≡ key_place b i → end ≡ key_place b i
    + get_or (key_sizes b) i 0
    → part at (end - at) file ≡ file_part (key_sizes b) i file
part_taken b i file {at} {end} e f =
    let n : end - at ≡ get_or (key_sizes b) i 0 = omega arith in ap₂ (λ (k m : ℕ). part k m file) e n

module _ (b : ℕ) (ts labels first second : List ℕ) (size : Sizes ts labels first second) where
  sizes_are : map length (file_parts b ts labels first second) ≡ key_sizes b
  sizes_are i =
      1 ∷ length_digits 256 2 (2 ^ b) i
      ∷ (length_packed_row b ts ∙ ap (row_bytes b) size.ts_size) i
      ∷ (length_packed_row b first ∙ ap (row_bytes b) size.first_size) i
      ∷ (length_packed_row 3 labels ∙ ap (row_bytes 3) size.labels_size) i
      ∷ (length_packed_row b second ∙ ap (row_bytes b) size.second_size) i
      ∷ []

  pub key_file_size : length (key_file b ts labels first second) ≡ file_bytes b
  unfolding key_file
  key_file_size =
      let parts = file_parts b ts labels first second in
      sym (zero-add (length (joined parts))) ∙ sym (length_joined 0 parts)
      ∙ ap (λ (ns : List ℕ). place_from 0 ns 6) sizes_are

  pub part_back : (i : ℕ)
      → file_part (key_sizes b) i (key_file b ts labels first second)
      ≡ get_or (file_parts b ts labels first second) i []
  unfolding key_file
  part_back i = part_joined (key_sizes b) (file_parts b ts labels first second) sizes_are i
