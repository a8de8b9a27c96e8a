-- `word_spread::words_ending` meets its contract: 35 for the length, 35 for the list, and otherwise the number at the
-- list's place.
use Prim.Native.Nat.{ℕ, ◌<◌}
use mathlib.Core.Path.{sym, ap, ◌∙◌}
use native.Mathlib.Omega.{arith}
use Rattle.word_spread.specs.Spread.{ending, list_at}
use Rattle.word_spread.proofs.ListsOfFour.{rank_below, rank_at, four_long}
use Rattle.word_spread.proofs.SpreadAnswer.{too_long, no_list, refused, answered}
use Rattle.word_spread.proofs.words_ending.Goals as goal

pub returns-then-length-gt-MAX_LENGTH : goal.returns-then-length-gt-MAX_LENGTH
returns-then-length-gt-MAX_LENGTH c =
    refused c.args.length c.args.labels.now (too_long c.args.length c.args.labels.now (omega arith))
    c.refusal.ensures.0 c.refusal.ensures.1

pub returns-then-not-is_four : goal.returns-then-not-is_four
returns-then-not-is_four c =
    refused c.args.length c.args.labels.now
    (no_list c.args.length c.args.labels.now (sym c.is_four.ensures ∙ c.if-not-is_four.true))
    c.refusal-then-not-is_four.ensures.0 c.refusal-then-not-is_four.ensures.1

-- where both questions are passed, the list has four labels
pub bounds-labels-0 : goal.bounds-labels-0
bounds-labels-0 c =
    omega (arith, four_long c.args.labels.now (sym c.is_four.ensures ∙ c.if-not-is_four.false))

pub bounds-labels-1 : goal.bounds-labels-1
bounds-labels-1 c =
    omega (arith, four_long c.args.labels.now (sym c.is_four.ensures ∙ c.if-not-is_four.false))

pub bounds-labels-2 : goal.bounds-labels-2
bounds-labels-2 c =
    omega (arith, four_long c.args.labels.now (sym c.is_four.ensures ∙ c.if-not-is_four.false))

pub bounds-labels-3 : goal.bounds-labels-3
bounds-labels-3 c =
    omega (arith, four_long c.args.labels.now (sym c.is_four.ensures ∙ c.if-not-is_four.false))

pub bounds-counts-k : goal.bounds-counts-k
bounds-counts-k c =
    rw c.place-k.ensures (rank_below c.args.labels.now (sym c.is_four.ensures ∙ c.if-not-is_four.false))

pub offset_bounds-counts-k : goal.offset_bounds-counts-k
offset_bounds-counts-k c =
    let below : c.place-k.result < 24 =
    rw c.place-k.ensures (rank_below c.args.labels.now (sym c.is_four.ensures ∙ c.if-not-is_four.false)) in
    omega arith

pub returns : goal.returns
returns c =
    let n = c.args.length in
    let labels = c.args.labels.now in
    let four = sym c.is_four.ensures ∙ c.if-not-is_four.false in
    answered n labels c.if-length-gt-MAX_LENGTH.false four
    (c.counted-counts.ensures.each c.place-k.result (rw c.place-k.ensures (rank_below labels four))
    ∙ ap (λ (k : ℕ). ending n (list_at k)) c.place-k.ensures
    ∙ ap (ending n) (rank_at labels four))
