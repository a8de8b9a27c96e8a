-- `word_crossing::walk::letter` meets its contract.
use Prim.Native.Nat.{ℕ, ◌+◌, ◌/◌, ◌%◌, ◌<◌}
use mathlib.Core.Path.{◌≡◌, refl, ap}
use mathlib.Core.Bool.{true}
use mathlib.Core.List.{List}
use native.Mathlib.Omega.{arith}
use lib.ListN.{get_or, set}
use Rattle.word.specs.Letters.{generator, is_letter}
use Rattle.word.specs.Strands.{swapped}
use Rattle.word_crossing.specs.steps.Counting.{slot, Labelled, Table}
use Rattle.word_crossing.proofs.CountLaws.{place_below, sign_below}
use Rattle.word_crossing.proofs.walk.letter.Goals as goal

-- the place that the letter increases is in the table
in_table : {labels counts : List ℕ} (code : ℕ) {at : ℕ} → Labelled labels × Table counts × (is_letter code ≡ true)
    → at ≡ slot (code / 8) (get_or labels (code % 8) 0) (get_or labels (code % 8 + 1) 0) → at < 128
in_table code (labelled, _, letter) e =
    omega (arith, e, sign_below labelled code letter, labelled.below (code % 8), labelled.below (code % 8 + 1))

pub bounds-labels-at-2 : goal.bounds-labels-at-2
bounds-labels-at-2 c = place_below c.requires.0 c.args.code c.requires.2

pub slot-k-requires : goal.slot-k-requires
slot-k-requires c =
    let below = c.requires.0.below in
    let at = generator c.args.code in
    (sign_below c.requires.0 c.args.code c.requires.2, omega (arith, below at), omega (arith, below (at + 1)))

pub bounds-counts-k : goal.bounds-counts-k
bounds-counts-k c = in_table c.args.code c.requires c.slot-k.ensures

pub overflow_add-counts : goal.overflow_add-counts
overflow_add-counts c =
    record { fits = omega (arith, c.requires.1.few c.slot-k.result) }

pub bounds-counts-k-2 : goal.bounds-counts-k-2
bounds-counts-k-2 c = in_table c.args.code c.requires c.slot-k.ensures

pub bounds-labels-at-4 : goal.bounds-labels-at-4
bounds-labels-at-4 c = place_below c.requires.0 c.args.code c.requires.2

pub returns : goal.returns
unfolding swapped
returns c =
    let counts = c.args.counts.now in
    (refl, ap (λ (k : ℕ). set counts k (get_or counts k 0 + 1)) c.slot-k.ensures)
