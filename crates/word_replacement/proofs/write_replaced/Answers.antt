-- `word_replacement::write_replaced` meets its contract: the letters before the pair, the replacement and the letters
-- after the pair stand one after another, and the writer of words writes them.
use Prim.Native.Nat.{ℕ, ◌+◌, ◌-◌, ◌≤◌}
use mathlib.Core.Path.{◌≡◌, sym, ap, ◌∙◌}
use mathlib.Core.List.{List, ◌++◌, append_assoc}
use native.Mathlib.Omega.{arith}
use lib.ListN.{length, take, drop, get_or, replicate, length-replicate}
use lib.Seq.{length-take-le}
use Rattle.braid_relations.specs.Relations.{relations, replacement}
use Rattle.word_replacement.specs.Replacement.{pair_replaced}
use Rattle.base.specs.Lists.{overlaid}
use Rattle.word_replacement.proofs.ReplaceLaws.{first_letter, second_letter, first_letters, rest_written}
use Rattle.word_replacement.proofs.ReplaceLaws.{put_length, too_long, written}
use Rattle.word_replacement.proofs.write_replaced.Goals as goal

pub put_replacement-at-requires : goal.put_replacement-at-requires
put_replacement-at-requires c =
    let w = c.args.codes.now in
    let g = c.requires in (
      first_letter w c.args.place g.lettered g.two,
      second_letter w c.args.place g.lettered g.two,
      omega (arith, g.two, g.few, c.put.auto.out),
    )

pub returns-then-end-gt-MAX_LETTERS : goal.returns-then-end-gt-MAX_LETTERS
returns-then-end-gt-MAX_LETTERS c =
    let p = c.put_replacement-at in
    too_long _ _ _ c.requires p.result p.ensures.0 c.if-end-gt-MAX_LETTERS.true c.refused.ensures

-- The row `between` has the replacement, which ends at `at`. The letters after the pair, `rest`, go behind it.
module _ (w between rest : List ℕ) (place at : ℕ) where
  abbrev end : ℕ
  end = at + (length w - place - 2)

  abbrev row_of : List ℕ
  row_of = take at between ++ (rest ++ drop (end - at) (drop at between))

  row_fits : end ≤ length between → length rest ≡ length (take (end - at) (drop at between)) → end ≤ length row_of
  row_fits room e = omega (arith, put_length between rest at (end - at) (omega arith) e)

  -- `front` is the row that starts with the word
  row_is : (front zeros : List ℕ) → length w ≤ length zeros → place + 2 ≤ length w → end ≤ length between
      → front ≡ overlaid (take (length zeros) w) zeros
      → take at between ≡ take place front ++ replacement relations (get_or w place 0) (get_or w (place + 1) 0)
      → rest ≡ overlaid (take (length (take (end - at) (drop at between)))
      (take (length w - (place + 2)) (drop (place + 2) w)))
      (take (end - at) (drop at between))
      → take end row_of ≡ pair_replaced place w
  unfolding pair_replaced
  row_is front zeros long two room f b r =
      let pair = replacement relations (get_or w place 0) (get_or w (place + 1) 0) in
      rest_written between w rest at (place + 2) (length w - place - 2) (omega arith) room r
      ∙ ap (λ (l : List ℕ). l ++ drop (place + 2) w)
      (b ∙ ap (λ (l : List ℕ). l ++ pair) (first_letters front zeros w place long (omega arith) f))
      ∙ append_assoc (take place w) pair (drop (place + 2) w)

pub slice_bounds-row-end-2 : goal.slice_bounds-row-end-2
slice_bounds-row-end-2 c =
    let p = c.put_replacement-at in
    row_fits c.args.codes.now p.new.codes c.put-2.new.out c.args.place p.result
    (omega (arith, c.if-end-gt-MAX_LETTERS.false, p.auto.codes, c.put.auto.out)) c.put-2.auto.out

pub slice_bounds-write_word-end : goal.slice_bounds-write_word-end
slice_bounds-write_word-end c =
    let p = c.put_replacement-at in
    let w = c.args.codes.now in
    sym (length-take-le (end w p.new.codes c.put-2.new.out c.args.place p.result)
    (row_of w p.new.codes c.put-2.new.out c.args.place p.result)
    (row_fits w p.new.codes c.put-2.new.out c.args.place p.result
    (omega (arith, c.if-end-gt-MAX_LETTERS.false, p.auto.codes, c.put.auto.out)) c.put-2.auto.out))

pub returns : goal.returns
returns c =
    let p = c.put_replacement-at in
    let w = c.args.codes.now in
    let place = c.args.place in
    let g = c.requires in
    let zeros : List ℕ = replicate 10008 0 in
    written _ _ _ g (row_of w p.new.codes c.put-2.new.out place p.result) p.result p.ensures.0
    c.if-end-gt-MAX_LETTERS.false
    (row_is w p.new.codes c.put-2.new.out place p.result c.put.new.out zeros
    (omega (arith, g.few, length-replicate {A = ℕ} 10008 0)) g.two
    (omega (arith, c.if-end-gt-MAX_LETTERS.false, p.auto.codes, c.put.auto.out)) c.put.ensures p.ensures.2
    c.put-2.ensures)
    c.write_word.ensures
