-- The two widths of an element, 5 bits and 8 bits, and the two lengths of a key file: each field's own length, and the
-- field that goes with a length.
use Prim.Native.Nat.{ℕ, ◌≤◌}
use mathlib.Core.Path.{◌≡◌, refl, sym, ap, ◌∙◌, subst}
use mathlib.Core.Bool.{Bool, true, false, cond, ◌||◌, false≢true}
use mathlib.Core.List.{List}
use native.Mathlib.Omega.{arith}
use borrow.Author.Tests.{eqb-true}
use lib.Dec.{eqb}
use lib.ListN.{length}
use Rattle.field.specs.Fields.{bits, key_bytes}
use Rattle.field.specs.declared.Field.{Field}
use Rattle.field.specs.declared.Field.TheVariants.{Gf32, Gf256}
use Rattle.field.proofs.Fields.{narrow}
use Rattle.key.specs.Keys.{key_field}
use Rattle.key.specs.steps.Places.{file_bytes}

-- the number of bytes of a file, by the bits of an element
pub file_bytes_lem : (f : Field) → file_bytes (bits f) ≡ key_bytes f
file_bytes_lem Gf32 = refl
file_bytes_lem Gf256 = refl

-- an element has 5 bits or more
wide : (f : Field) → 5 ≤ bits f
wide Gf32 = omega arith
wide Gf256 = omega arith

-- a number b that equals a field's bits is 5 to 8, and `file_bytes b` is the field's file length
pub told_wide : (f : Field) {b : ℕ} → b ≡ bits f → 5 ≤ b
told_wide f e = subst (λ (b : ℕ). 5 ≤ b) (sym e) (wide f)

pub told_narrow : (f : Field) {b : ℕ} → b ≡ bits f → b ≤ 8
told_narrow f e = subst (λ (b : ℕ). b ≤ 8) (sym e) (narrow f)

pub told_bytes : (f : Field) {b n : ℕ} → b ≡ bits f → n ≡ key_bytes f → n ≡ file_bytes b
told_bytes f e l = l ∙ sym (file_bytes_lem f) ∙ ap (λ (b : ℕ). file_bytes b) (sym e)

-- a file of a field's length is a file over that field
by_length : (f : Field) → cond (eqb (key_bytes f) (key_bytes Gf256)) Gf256 Gf32 ≡ f
by_length Gf32 = refl
by_length Gf256 = refl

pub field_of_length : (f : Field) (file : List ℕ) → length file ≡ key_bytes f → key_field file ≡ f
unfolding key_field
field_of_length f file e = ap (λ (n : ℕ). cond (eqb n (key_bytes Gf256)) Gf256 Gf32) e ∙ by_length f

-- Question 1 is passed by exactly two lengths, 83 and 128.
abbrev pub either_length : ℕ → Bool
either_length n = eqb n (key_bytes Gf32) || eqb n (key_bytes Gf256)

pub length_passes : (f : Field) → either_length (key_bytes f) ≡ true
length_passes Gf32 = refl
length_passes Gf256 = refl

pub own_length : (file : List ℕ) → either_length (length file) ≡ true → length file ≡ key_bytes (key_field file)
unfolding key_field
own_length file e = told (eqb (length file) (key_bytes Gf32)) (eqb (length file) (key_bytes Gf256)) refl refl e
  where
    told : (s t : Bool) → eqb (length file) (key_bytes Gf32) ≡ s → eqb (length file) (key_bytes Gf256) ≡ t → s || t
        ≡ true
        → length file ≡ key_bytes (cond t Gf256 Gf32)
    told s true p q h = eqb-true (length file) (key_bytes Gf256) q
    told true false p q h = eqb-true (length file) (key_bytes Gf32) p
    told false false p q h = absurd (false≢true h)
