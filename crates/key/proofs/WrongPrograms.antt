-- The contracts shut out wrong programs: a reader that accepts a key of 128 bytes with q = 32 or one of 83 bytes with q
-- = 256; one that tests filler bits over the larger field; one whose refusal names the larger field; a writer that
-- gives 17 for an element over 31 of the larger field; one that gives the first 57 of a matrix's 64 numbers as the
-- entries of a file.
use Prim.Native.Nat.{ℕ}
use mathlib.Core.Path.{◌≡◌, refl, sym, ap, ◌∙◌, subst}
use mathlib.Core.Bool.{true, false≢true}
use mathlib.Core.List.{List, ◌∷◌}
use native.Mathlib.Omega.{arith}
use lib.ListN.{length, take, get_or, replicate}
use Rattle.base.specs.Questions.{first_no}
use Rattle.base.specs.Lists.{values_from, values, every, Bytes, each_once, tally}
use Rattle.base.specs.Digits.{value, digits}
use Rattle.base.specs.Packing.{packed_row}
use Rattle.base.proofs.QuestionLaws.{granted_refused}
use Rattle.field.specs.Fields.{is_large}
use Rattle.field.specs.declared.Field.{Field}
use Rattle.field.specs.declared.Field.TheVariants.{Gf32, Gf256}
use Rattle.matrix.specs.Layout.{place, row_of, column_of, entry, matrix_of}
use Rattle.matrix.specs.Product.{identity}
use Rattle.key.specs.declared.Key.{Key}
use Rattle.key.specs.Keys.{key_field, field_size, file_entries, key_file, key_of, zero_key, ReadsKey, WroteKey}
use Rattle.key.proofs.Widths.{field_of_length}
use Rattle.key.proofs.KeyFacts.{Accepted, accepted}
use Rattle.key.proofs.Inverses.{key_with, blank, unit_entries, blank_key, plain_key_lem}

-- any reader that meets the contract on bytes
module _ (answer : List ℕ → ℕ) (key : List ℕ → Key)
    (right : (file : List ℕ) → Bytes file → ReadsKey file (answer file) (key file)) where
  taken_over : (f : Field) (file : List ℕ) → Bytes file → key_field file ≡ f → answer file ≡ 0 → Accepted f file
  taken_over f file b e z = subst (λ (g : Field). Accepted g file) e (accepted file (sym (right file b).answer_is ∙ z))

  -- a file of 128 bytes with q = 32, or of 83 bytes with q = 256, is not accepted, whatever its other bytes
  pub no_128_with_32 : (file : List ℕ) → Bytes file → length file ≡ 128 → field_size file ≡ 32 → answer file ≡ 0 → ⊥
  no_128_with_32 file b l q z =
      let e : ◌≡◌ {A = ℕ} 32 256 = sym q ∙ (taken_over Gf256 file b (field_of_length Gf256 file l) z).field_size_is in
      omega arith

  pub no_83_with_256 : (file : List ℕ) → Bytes file → length file ≡ 83 → field_size file ≡ 256 → answer file ≡ 0 → ⊥
  no_83_with_256 file b l q z =
      let e : ◌≡◌ {A = ℕ} 256 32 = sym q ∙ (taken_over Gf32 file b (field_of_length Gf32 file l) z).field_size_is in
      omega arith

  -- the plain key over the larger field ends with the byte 1, which is an entry and no filler
  pub no_filler_of_the_larger : answer (key_with Gf256 unit_entries unit_entries) ≡ 7 → ⊥
  unfolding every values_from value digits key_file packed_row file_entries matrix_of row_of column_of entry place
      identity
  no_filler_of_the_larger wrong =
      let e : ◌≡◌ {A = ℕ} 7 0 =
      sym wrong ∙ (right (key_with Gf256 unit_entries unit_entries) refl).answer_is ∙ plain_key_lem Gf256 in omega arith

  -- the blank key of 128 bytes is refused, and the zeros of a refusal name the field with 32 elements
  pub no_refusal_names_the_larger : (key (key_with Gf256 blank blank)).field ≡ Gf256 → ⊥
  unfolding zero_key every values_from value digits key_file packed_row
  no_refusal_names_the_larger wrong =
      let file = key_with Gf256 blank blank in
      let zeros =
      granted_refused (key_of file) zero_key
      (λ z. let e : ◌≡◌ {A = ℕ} 26 0 = sym (blank_key Gf256) ∙ z in omega arith) in
      false≢true (ap is_large (sym (ap (λ (k : Key). k.field) ((right file refl).key_is ∙ zeros)) ∙ wrong))

-- Any writer that meets the contract, given T-values and entries of 200 and a list of eight labels 0, gives 6 and not
-- 17.
pub no_17_for_an_element : {after : List ℕ} {answer : ℕ}
    → WroteKey Gf256 (1 ∷ 1 ∷ replicate 6 200) (replicate 8 0) (replicate 57 200) (replicate 57 200)
    (replicate 128 0) after answer
    → answer ≡ 17 → ⊥
unfolding first_no values_from every tally each_once
no_17_for_an_element w wrong = let e : ◌≡◌ {A = ℕ} 17 6 = sym wrong ∙ w.answer_is in omega arith

-- The first 57 numbers of a matrix are not the entries of a file. If all 64 numbers differ, the 57th is not the last
-- entry of row 8.
pub first_57 : take 57 (values (λ k. k) 64) ≡ file_entries (values (λ k. k) 64) → ⊥
unfolding file_entries place entry values_from
first_57 e = let z : ◌≡◌ {A = ℕ} 56 63 = ap (λ (l : List ℕ). get_or l 56 0) e in omega arith
