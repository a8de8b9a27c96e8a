-- The two fields. GF(32) is reduced by x^5 + x^2 + 1 (document 01), GF(256) by x^8 + x^4 + x^3 + x^2 + 1 (document 02,
-- §7). Each number that differs between the two strengths is a function of the field and stands in this file.
use Rattle.std.specs.Prelude.{ℕ, Bool, true, false}
use Rattle.field.specs.Binary.{Operations}
use Rattle.field.specs.Polynomial.{polynomials}
use Rattle.field.specs.declared.Field.{Field}
use Rattle.field.specs.declared.Field.TheVariants.{Gf32, Gf256}

-- the number of bits of an element
abbrev pub bits : Field → ℕ
bits Gf32 = 5
bits Gf256 = 8

-- the polynomial that products are reduced by: bit k is the coefficient of x^k
abbrev pub modulus : Field → ℕ
modulus Gf32 = 0b100101
modulus Gf256 = 0b100011101

-- the size, sum, product and reciprocal of a field
abbrev pub operations : Field → Operations
operations f = polynomials (bits f) (modulus f)

-- the number of bytes of a key file
abbrev pub key_bytes : Field → ℕ
key_bytes Gf32 = 83
key_bytes Gf256 = 128

-- the number of bytes of a digest
abbrev pub digest_bytes : Field → ℕ
digest_bytes Gf32 = 32
digest_bytes Gf256 = 64

-- an operation names the field as one of two: true is the larger field, false the smaller
abbrev pub field_of : Bool → Field
field_of false = Gf32
field_of true = Gf256

abbrev pub is_large : Field → Bool
is_large Gf32 = false
is_large Gf256 = true
