-- `pair_multiplier::after_letter` meets its contract: the letter is multiplied into the pair's columns and labels, with
-- the number that it takes, and the positions follow.
use Prim.Native.Nat.{ℕ, ◌≤◌}
use mathlib.Core.Path.{sym, ap, ◌∙◌}
use mathlib.Core.List.{List}
use borrow.Author.Rules.{rules}
use Rattle.field.specs.Fields.{operations}
use Rattle.field.proofs.Fields.{degree, narrow}
use Rattle.word.specs.Strands.{inverse_list}
use Rattle.pair.specs.Action.{pair_of, letter_on}
use Rattle.pair.proofs.CarryLaws.{column_below}
use Rattle.pair.proofs.ColumnLaws.{letter_on_columns}
use Rattle.pair.proofs.WordLaws.{letter_reads}
use Rattle.pair_multiplier.proofs.after_letter.Goals as goal

pub taken-number-requires : goal.taken-number-requires
taken-number-requires c = rw c.from-g.ensures (column_below c.args.letter c.requires.1)

pub multiples_of-constants-requires : goal.multiples_of-constants-requires
multiples_of-constants-requires c =
    let f = c.args.f in
    (rw c.bits_of-bits.ensures (narrow f), rw c.bits_of-bits.ensures (rw c.modulus_of.ensures (degree f)))

pub follow-requires : goal.follow-requires
follow-requires c = (
  record { strands = search rules; places = search rules; inverse = c.requires.0 },
  column_below c.args.letter c.requires.1,
)

pub multiply_columns-requires : goal.multiply_columns-requires
multiply_columns-requires c =
    let small : c.bits_of-bits.result ≤ 8 = rw c.bits_of-bits.ensures (narrow c.args.f) in (
      c.columns_of-columns.ensures.0,
      c.multiples_of-constants.ensures.0,
      small,
      search rules,
      rw c.from-g.ensures (column_below c.args.letter c.requires.1),
    )

pub returns : goal.returns
returns c =
    let a = c.args in
    let made = rw (c.from-g.ensures, c.bits_of-bits.ensures) at c.multiply_columns.ensures in
    let positions = c.follow.ensures ∙ ap inverse_list (sym made.exchanged) in
    let constants =
    rw (c.taken-number.ensures, c.from-g.ensures, c.modulus_of.ensures, c.bits_of-bits.ensures) at
    c.multiples_of-constants.ensures.1 in
    (λ j. record {
      matrix = c.matrix_of-pair.ensures j;
      labels = c.multiply_columns.new.labels;
      positions = positions j;
    })
    ∙ letter_on_columns _ _ (degree a.f) a.t_values.now
    c.multiples_of-constants.result c.columns_of-columns.result a.pair.labels
    c.multiply_columns.new.columns c.multiply_columns.new.labels a.letter 0 c.requires.1
    constants made
    ∙ ap (λ (m : List ℕ). letter_on (operations a.f) a.t_values.now a.letter
    (pair_of m a.pair.labels)) c.columns_of-columns.ensures.1
    ∙ letter_reads (operations a.f) a.t_values.now a.letter a.pair
