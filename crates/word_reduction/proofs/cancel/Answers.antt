-- `word_reduction::cancel` meets its contract: it pushes the codes of eight bytes at a time, then the codes of the last
-- bytes.
use Prim.Native.Nat.{ℕ, ◌-◌, ◌*◌, ◌/◌, ◌≤◌}
use mathlib.Core.Path.{◌≡◌, sym, ap, ◌∙◌}
use mathlib.Core.List.{List, ◌++◌}
use native.Mathlib.Omega.{arith}
use lib.ListN.{length, take}
use lib.Seq.{length-take-le}
use Rattle.base.specs.Digits.{halves}
use Rattle.word.specs.Reduction.{reduced}
use Rattle.word.proofs.LetterLaws.{Lettered}
use Rattle.word.proofs.PackedCodes.{front_lettered, codes_last, last_lettered}
use Rattle.word.proofs.ReductionLaws.{reduced_irreducible, reduced_lettered, reduced_front}
use Rattle.word_reduction.proofs.cancel.Goals as goal

-- `front` holds the codes that are pushed sixteen at a time, `rest` the codes that are left
module _ (bytes : List ℕ) (n : ℕ) where
  abbrev front : List ℕ
  front = halves (take (n / 16 * 8) bytes)

  letters : n ≤ 2 * length bytes → Lettered (take n (halves bytes)) → Lettered front
  letters h l = front_lettered bytes n h l (n / 16 * 8) (omega arith)

module _ (n : ℕ) (codes : List ℕ) where
  abbrev rest : List ℕ
  rest = take (n - 2 * (n / 16 * 8)) codes

  length_rest : 16 ≤ length codes → length rest ≡ n - 2 * (n / 16 * 8)
  length_rest h = length-take-le (n - 2 * (n / 16 * 8)) codes (omega arith)

pub slice_bounds-pushes-end : goal.slice_bounds-pushes-end
slice_bounds-pushes-end c = sym (length_rest c.args.n c.unpack.new.codes (omega (arith, c.unpack.auto.codes)))

pub pushes-requires : goal.pushes-requires
pushes-requires c =
    let bytes = c.args.part.now in
    let n = c.args.n in
    let codes = c.unpack.new.codes in
    let w = c.cancel_words-count in (
      omega (arith, length_rest n codes (omega (arith, c.unpack.auto.codes)), w.ensures.0, w.auto.stack, c.requires.1),
      rw w.ensures.1 (reduced_irreducible (front bytes n)),
      rw w.ensures.1 (reduced_lettered (front bytes n) (letters bytes n c.requires.0 c.requires.2)),
      last_lettered bytes n c.requires.0 (n / 16 * 8) (omega arith) _ codes c.unpack.ensures c.requires.2,
    )

pub returns : goal.returns
returns c =
    let bytes = c.args.part.now in
    let n = c.args.n in
    let codes = c.unpack.new.codes in
    let w = c.cancel_words-count in
    let all_codes = codes_last bytes n c.requires.0 (n / 16 * 8) (omega arith) _ codes c.unpack.ensures in (
      omega (arith, c.pushes.ensures.0, length_rest n codes (omega (arith, c.unpack.auto.codes)), w.ensures.0),
      c.pushes.ensures.1
          ∙ ap (λ (v : List ℕ). reduced (v ++ rest n codes)) w.ensures.1
          ∙ reduced_front (front bytes n) (rest n codes) (letters bytes n c.requires.0 c.requires.2)
          ∙ ap reduced (sym all_codes),
    )
