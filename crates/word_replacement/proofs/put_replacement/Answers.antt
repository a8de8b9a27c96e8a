-- `word_replacement::put_replacement` meets its contract: the pair itself, or the inverses around the first place that
-- holds it.
use Prim.Native.Nat.{ℕ, ◌+◌, ◌-◌, ◌%◌, ◌≤◌, ◌<◌}
use mathlib.Core.Path.{◌≡◌, ap, ap₂, ◌∙◌}
use mathlib.Core.Bool.{true}
use mathlib.Core.List.{List, [], ◌∷◌, ◌++◌, append_assoc}
use native.Mathlib.Omega.{arith}
use lib.ListN.{length, take, drop, length-append, length-drop, length-set}
use lib.Seq.{length-take-le}
use Rattle.base.specs.Digits.{part}
use Rattle.word.specs.Letters.{is_letter}
use Rattle.word_dialect.specs.Dialect.{inverted}
use Rattle.braid_relations.specs.Relations.{relations, replacement}
use Rattle.word_replacement.specs.steps.Rows.{before, filled, around_entry}
use Rattle.word_replacement.proofs.EntryRows.{entries, length_entries, around_short, held, not_held}
use Rattle.word_replacement.proofs.EntryLaws.{filled_short}
use Rattle.word_replacement.proofs.ReplaceLaws.{two_stored}
use Rattle.word_replacement.proofs.put_replacement.Goals as goal

module _ (c d : ℕ) (ec : is_letter c ≡ true) (ed : is_letter d ≡ true) where
  nowhere : {rows : List ℕ} → rows ≡ entries → length rows ≤ before c d rows + 1
      → c ∷ d ∷ [] ≡ replacement relations c d
  nowhere all h = not_held c d ec ed (omega (arith, h, ap length all, ap (before c d) all, length_entries))

module _ (c d : ℕ) (ec : is_letter c ≡ true) (ed : is_letter d ≡ true) {k : ℕ} {rows : List ℕ}
    (first : k ≡ before c d rows) (all : rows ≡ entries) where
  -- the place found, in the entries of the definition
  found : k ≡ before c d entries
  found = first ∙ ap (before c d) all

  -- n letters stand after the pair
  module _ {n : ℕ} (after : n ≡ filled (drop (k + 2) rows)) where
    short : k % 10 + n ≤ 9
    short =
        let same = after ∙ ap₂ (λ (i : ℕ) (r : List ℕ). filled (drop (i + 2) r)) found all in
        let at : k % 10 ≡ before c d entries % 10 = ap (λ (i : ℕ). i % 10) found in
        omega (arith, around_short c d ec ed)

    around : k + 1 < length rows
        → inverted (part (k - k % 10) (k % 10) rows) ++ inverted (part (k + 2) n rows) ≡ replacement relations c d
    around h =
        ap (λ (m : ℕ). inverted (part (k - k % 10) (k % 10) rows) ++ inverted (part (k + 2) m rows)) after
        ∙ ap₂ around_entry found all ∙ held c d ec ed (omega (arith, h, found, ap length all, length_entries))

pub returns-in_default : goal.returns-in_default
returns-in_default c =
    let a = c.args in
    let same =
    nowhere a.c a.d c.requires.0 c.requires.1 c.rows-rows.ensures c.in_default.ensures in (
      ap (λ (w : List ℕ). a.at + length w) same,
      omega arith,
      two_stored a.codes.now a.at a.c a.d (omega (arith, c.requires.2))
          ∙ ap (λ (w : List ℕ). take a.at a.codes.now ++ w) same,
    )

pub put_inverses-requires-2 : goal.put_inverses-requires-2
put_inverses-requires-2 c =
    let a = c.args in
    let k = c.in-Some.k in
    let r = c.rows-rows.result.now in
    let n = c.letters_from-after in
    let s = short a.c a.d c.requires.0 c.requires.1 c.in-Some.ensures.0 c.rows-rows.ensures n.ensures in (
      omega (arith, s, c.requires.2, c.put_inverses.auto.codes),
      omega (arith, filled_short (drop (k + 2) r), length-drop (k + 2) r, n.ensures, c.in-Some.ensures.1),
    )

pub overflow_add-result-2 : goal.overflow_add-result-2
overflow_add-result-2 c =
    let a = c.args in
    let s =
    short a.c a.d c.requires.0 c.requires.1 c.in-Some.ensures.0 c.rows-rows.ensures c.letters_from-after.ensures in
    omega (arith, s, c.requires.2)

pub returns : goal.returns
returns c =
    let a = c.args in
    let rows = c.rows-rows.result.now in
    let k = c.in-Some.k in
    let n = c.letters_from-after.result in
    let first = c.put_inverses in
    let second = c.put_inverses-2 in
    let front = inverted (part (k - k % 10) (k % 10) rows) in
    let back = inverted (part (k + 2) n rows) in
    let s =
    short a.c a.d c.requires.0 c.requires.1 c.in-Some.ensures.0 c.rows-rows.ensures c.letters_from-after.ensures in
    let whole : take (a.at + k % 10 + n) second.new.codes ≡ take a.at a.codes.now ++ replacement relations a.c a.d =
    second.ensures ∙ ap (λ (w : List ℕ). w ++ back) first.ensures
    ∙ append_assoc (take a.at a.codes.now) front back
    ∙ ap (λ (w : List ℕ). take a.at a.codes.now ++ w)
    (around a.c a.d c.requires.0 c.requires.1 c.in-Some.ensures.0 c.rows-rows.ensures c.letters_from-after.ensures
    c.in-Some.ensures.1) in
    let room : a.at + k % 10 + n ≤ length second.new.codes =
    omega (arith, s, c.requires.2, first.auto.codes, second.auto.codes) in
    let size = ap length whole ∙ length-append (take a.at a.codes.now) (replacement relations a.c a.d) in (
      omega (
        arith,
        size,
        length-take-le (a.at + k % 10 + n) second.new.codes room,
        length-take-le a.at a.codes.now (omega (arith, c.requires.2)),
      ),
      omega (arith, s),
      whole,
    )
