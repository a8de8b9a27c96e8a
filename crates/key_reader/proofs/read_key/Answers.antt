-- `key_reader::read_key` meets its contract: it reads over the field that goes with the length, or refuses the file.
use mathlib.Core.Path.{◌≡◌, sym, ap₂}
use mathlib.Core.Bool.{Bool, ◌||◌}
use mathlib.Core.List.{List}
use native.Mathlib.Omega.{arith}
use Prim.Native.Nat.{ℕ}
use borrow.Author.Tests.{ne_eqb}
use lib.ListN.{length, drop}
use Rattle.base.proofs.QuestionLaws.{fails}
use Rattle.field.specs.declared.Field.TheVariants.{Gf32, Gf256}
use Rattle.key.specs.Keys.{key_questions, key_answer}
use Rattle.key.proofs.Widths.{field_of_length}
use Rattle.key.proofs.KeyFacts.{reads_refused}
use Rattle.key_reader.proofs.read_key.Goals as goal

pub read_over-requires : goal.read_over-requires
read_over-requires c = (sym (field_of_length Gf32 c.args.file.now c.in-83.is), c.in-83.is)

pub read_over-requires-in-128 : goal.read_over-requires-in-128
read_over-requires-in-128 c = (sym (field_of_length Gf256 c.args.file.now c.in-128.is), c.in-128.is)

-- a file of neither length is refused with 1
refused : (file : List ℕ) → (length file ≡ 83 → ⊥) → (length file ≡ 128 → ⊥) → key_answer file ≡ 1
unfolding key_answer
refused file p q =
    fails 1 (drop 1 (key_questions file))
    (ap₂ (λ (s t : Bool). s || t) (ne_eqb (length file) 83 p) (ne_eqb (length file) 128 q))

pub returns-in_default : goal.returns-in_default
returns-in_default c =
    let file = c.args.file.now in
    reads_refused file 1 (refused file (λ e. omega arith) (λ e. omega arith)) (λ z. omega arith) c.refused.ensures
