-- `pair_file::carry_file` meets its contract: the codes of an accepted file stand after its two length bytes, and
-- they are letters. `packed` multiplies them in over the field that the match finds.
use Prim.Native.Nat.{ℕ}
use mathlib.Core.Path.{refl, sym, ap, ap₂, ◌∙◌}
use mathlib.Core.List.{List}
use Rattle.base.specs.Lists.{every}
use Rattle.field.specs.Fields.{operations}
use Rattle.field.specs.declared.Field.{Field}
use Rattle.field.specs.declared.Field.TheVariants.{Gf32, Gf256}
use Rattle.field.proofs.TableLaws.{lent}
use Rattle.word.specs.Letters.{is_letter}
use Rattle.word.proofs.ReadLaws.{accepted_word, count_stated, part_enough, part_codes}
use Rattle.pair.specs.Action.{pair_of, word_on}
use Rattle.pair_file.proofs.carry_file.Goals as goal

pub stated-n-requires : goal.stated-n-requires
stated-n-requires c =
    (accepted_word c.args.file.now c.requires).long

pub slice_bounds-part-count : goal.slice_bounds-part-count
slice_bounds-part-count c =
    (accepted_word c.args.file.now c.requires).long

pub packed-requires : goal.packed-requires
packed-requires c =
    let file = c.args.file.now in
    let counted = c.stated-n.ensures.0 ∙ sym (count_stated file c.requires refl) in
    let e = c.requires in (
      lent Gf32 _ c.reciprocals-table.ensures,
      part_enough file e _ counted,
      ap (every is_letter) (part_codes file e _ counted) ∙ (accepted_word file e).lettered,
    )

pub packed-requires-in-Gf256 : goal.packed-requires-in-Gf256
packed-requires-in-Gf256 c =
    let file = c.args.file.now in
    let counted = c.stated-n.ensures.0 ∙ sym (count_stated file c.requires refl) in
    let e = c.requires in (
      lent Gf256 _ c.reciprocals-table-in-Gf256.ensures,
      part_enough file e _ counted,
      ap (every is_letter) (part_codes file e _ counted) ∙ (accepted_word file e).lettered,
    )

pub returns-in-Gf32 : goal.returns-in-Gf32
returns-in-Gf32 c =
    let file = c.args.file.now in
    let counted = c.stated-n.ensures.0 ∙ sym (count_stated file c.requires refl) in
    let a = c.args in
    c.packed.ensures
    ∙ ap₂ (λ (f : Field) (w : List ℕ). word_on (operations f) a.t_values.now w
    (pair_of a.pair.matrix a.pair.labels))
    (sym c.in-Gf32.is) (part_codes file c.requires _ counted)

pub returns-in-Gf256 : goal.returns-in-Gf256
returns-in-Gf256 c =
    let file = c.args.file.now in
    let counted = c.stated-n.ensures.0 ∙ sym (count_stated file c.requires refl) in
    let a = c.args in
    c.packed-in-Gf256.ensures
    ∙ ap₂ (λ (f : Field) (w : List ℕ). word_on (operations f) a.t_values.now w
    (pair_of a.pair.matrix a.pair.labels))
    (sym c.in-Gf256.is) (part_codes file c.requires _ counted)

pub slice_bounds-part-start : goal.slice_bounds-part-start
slice_bounds-part-start c = (accepted_word c.args.file.now c.requires).long
