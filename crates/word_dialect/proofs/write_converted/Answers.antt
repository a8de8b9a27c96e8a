-- `word_dialect::write_converted` meets its contract: the table is laid, the letters are counted, and the writer of
-- words writes the runs of all codes.
use mathlib.Core.Path.{sym}
use native.Mathlib.Omega.{arith}
use lib.Seq.{length-take-le}
use Rattle.word_dialect.specs.steps.Table.{IsTable}
use Rattle.word_dialect.proofs.TableLaws.{holds_table}
use Rattle.word_dialect.proofs.ConvertLaws.{codes_below, too_long, written}
use Rattle.word_dialect.proofs.write_converted.Goals as goal

pub letters_of-letters-requires : goal.letters_of-letters-requires
letters_of-letters-requires c =
    let is_table : IsTable c.lay_table.new.table =
    holds_table c.args.way c.args.parts.now c.lay_table.new.table c.lay_table.auto.table
    c.lay_table.ensures in
    (is_table, codes_below _ _ _ _ _ c.requires c.lay_table.ensures, c.requires.few)

pub returns-then-letters-gt-MAX_LETTERS : goal.returns-then-letters-gt-MAX_LETTERS
returns-then-letters-gt-MAX_LETTERS c =
    too_long _ _ _ _ _ c.requires c.lay_table.ensures c.letters_of-letters.result c.letters_of-letters.ensures
    c.if-letters-gt-MAX_LETTERS.true c.refused.ensures

pub lay_all-requires : goal.lay_all-requires
lay_all-requires c =
    let is_table : IsTable c.lay_table.new.table =
    holds_table c.args.way c.args.parts.now c.lay_table.new.table c.lay_table.auto.table
    c.lay_table.ensures in (
      is_table,
      codes_below _ _ _ _ _ c.requires c.lay_table.ensures,
      omega (arith, c.letters_of-letters.ensures, c.if-letters-gt-MAX_LETTERS.false),
    )

pub slice_bounds-write_word-end : goal.slice_bounds-write_word-end
slice_bounds-write_word-end c =
    let r = c.lay_all in
    sym (length-take-le c.letters_of-letters.result r.new.row (omega (arith, r.auto.row)))

pub returns : goal.returns
returns c =
    let r = c.lay_all in
    written _ _ _ _ _ c.requires c.lay_table.ensures r.new.row c.letters_of-letters.result
    c.letters_of-letters.ensures c.if-letters-gt-MAX_LETTERS.false
    r.ensures c.write_word.ensures
