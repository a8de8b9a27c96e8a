-- The field GF(32) under a short name, and the table of its products.
use Rattle.std.specs.Prelude.{ℕ, ◌/◌, ◌%◌, List}
use Rattle.base.specs.Lists.{values}
use Rattle.field.specs.Binary.{Operations}
use Rattle.field.specs.Fields.{operations}
use Rattle.field.specs.declared.Field.TheVariants.{Gf32}

abbrev pub gf32 : Operations
gf32 = operations Gf32

-- the table of products: entry 32 a + b is a × b
abbrev pub products : List ℕ
products = values (λ k. gf32.mul (k / 32) (k % 32)) 1024
