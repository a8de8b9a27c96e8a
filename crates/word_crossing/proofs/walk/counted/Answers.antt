-- `word_crossing::walk::counted` meets its contract: the word's codes are unpacked, and all of them are counted.
use Prim.Native.Nat.{ℕ, ◌-◌, ◌≤◌}
use mathlib.Core.Path.{◌≡◌, refl, sym, ap, ◌∙◌}
use mathlib.Core.List.{List}
use native.Mathlib.Omega.{arith}
use lib.ListN.{length, take, drop}
use lib.Seq.{length-take-le}
use Rattle.base.specs.Digits.{halves}
use Rattle.base.specs.Lists.{every, overlaid}
use Rattle.word.specs.Letters.{is_letter}
use Rattle.word.specs.Words.{stated, codes, letters, word_answer}
use Rattle.word.proofs.ReadLaws.{accepted_word, count_stated, count_few}
use Rattle.word.proofs.UnpackedWord.{bytes_fit, unpacked}
use Rattle.word_crossing.proofs.walk.counted.Goals as goal

-- an accepted word that states n letters, and the row that it is unpacked into
module _ (word : List ℕ) (accepted : word_answer word ≡ 0) {n : ℕ} (says : n ≡ stated word) where
  count : n ≡ length (letters word)
  count = says ∙ sym (count_stated word accepted refl)

  few : n ≤ 10000
  few = count_few word accepted n count

  module _ (row : List ℕ) (kept : length row ≡ 10000) where
    within : n ≤ length row
    within = omega (arith, few)

    few_taken : length (take n row) ≤ 10000
    few_taken = omega (arith, few, length-take-le n row within)

  row_is : (row₀ : List ℕ) {row : List ℕ} → row ≡ overlaid (halves (take (length word - 2) (drop 2 word))) row₀
      → take n row ≡ codes word
  row_is row₀ {row} = unpacked word count accepted row₀ row

pub stated-n-requires : goal.stated-n-requires
stated-n-requires c = (accepted_word c.args.word.now c.requires).long

pub slice_bounds-unpack-count : goal.slice_bounds-unpack-count
slice_bounds-unpack-count c = (accepted_word c.args.word.now c.requires).long

pub slice_bounds-unpack-start : goal.slice_bounds-unpack-start
slice_bounds-unpack-start c = (accepted_word c.args.word.now c.requires).long

pub unpack-requires : goal.unpack-requires
unpack-requires c =
    let word = c.args.word.now in bytes_fit word (count word c.requires c.stated-n.ensures.0) c.requires

pub slice_bounds-row-end : goal.slice_bounds-row-end
slice_bounds-row-end c = within c.args.word.now c.requires c.stated-n.ensures.0 _ c.unpack.auto.codes

pub slice_bounds-walk-end : goal.slice_bounds-walk-end
slice_bounds-walk-end c =
    sym (length-take-le _ _ (within c.args.word.now c.requires c.stated-n.ensures.0 _ c.unpack.auto.codes))

pub walk-requires : goal.walk-requires
walk-requires c =
    let word = c.args.word.now in
    let stated = c.stated-n.ensures.0 in (
      few_taken word c.requires stated _ c.unpack.auto.codes,
      ap (every is_letter) (row_is word c.requires stated _ c.unpack.ensures)
          ∙ (accepted_word word c.requires).lettered,
    )

pub returns : goal.returns
returns c = rw (row_is c.args.word.now c.requires c.stated-n.ensures.0 _ c.unpack.ensures) at c.walk.ensures
