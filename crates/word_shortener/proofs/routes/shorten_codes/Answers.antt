-- `word_shortener::routes::shorten_codes` meets its contract.
use Prim.Native.Nat.{ℕ}
use mathlib.Core.Path.{sym, ap, subst, ◌∙◌}
use mathlib.Core.List.{List}
use native.Mathlib.Omega.{arith}
use lib.ListN.{length, drop}
use lib.Seq.{length-take-le, take_at}
use Rattle.std.proofs.Common.{None, Some}
use Rattle.base.specs.Lists.{every}
use Rattle.word.specs.Letters.{is_letter}
use Rattle.swap_cancel.proofs.SwapCancelLaws.{cancelled_fewer}
use Rattle.word_shortener.specs.steps.Routes.{SecondWay}
use Rattle.word_shortener.proofs.RouteLaws.{cancelled_lettered, laid_on, no_effort, with_effort, taken_over}
use Rattle.word_shortener.proofs.routes.shorten_codes.Goals as goal

pub returns-then-effort-eq0 : goal.returns-then-effort-eq0
returns-then-effort-eq0 c = no_effort c.swap_cancel-few.ensures c.requires.3 c.if-effort-eq0.true

pub by_arcs-first-requires : goal.by_arcs-first-requires
by_arcs-first-requires c =
    let k = c.swap_cancel-few in
    let few = cancelled_fewer k.ensures in
    (omega (arith, c.requires.0), omega (arith, k.auto.codes, c.requires.1), cancelled_lettered k.ensures c.requires.3)

pub by_handles-requires : goal.by_handles-requires
by_handles-requires c =
    (c.requires.0, c.requires.2, ap (every is_letter) c.requires.4 ∙ c.requires.3)

-- the second word has no more letters than its row, and than the first row
pub slice_bounds-copy_from_slice-end : goal.slice_bounds-copy_from_slice-end
slice_bounds-copy_from_slice-end c =
    let few = cancelled_fewer c.swap_cancel-few.ensures in
    omega (arith, c.by_arcs-first.ensures.not_longer, c.by_arcs-first.auto.codes, c.swap_cancel-few.auto.codes)

pub slice_bounds-copy_from_slice-end-then-second-first-2 : goal.slice_bounds-copy_from_slice-end-then-second-first-2
slice_bounds-copy_from_slice-end-then-second-first-2 c =
    let few = cancelled_fewer c.swap_cancel-few.ensures in
    omega (arith, c.by_arcs-first.ensures.not_longer, c.by_handles.auto.codes)

pub slice_bounds-copy_from_slice-end-then-second-first-3 : goal.slice_bounds-copy_from_slice-end-then-second-first-3
slice_bounds-copy_from_slice-end-then-second-first-3 c =
    let few = cancelled_fewer c.swap_cancel-few.ensures in
    let h = c.by_handles in
    sym (length-take-le c.in-Some.second h.new.codes (omega (arith, c.by_arcs-first.ensures.not_longer, h.auto.codes)))

pub copy_from_slice-requires : goal.copy_from_slice-requires
copy_from_slice-requires c =
    let few = cancelled_fewer c.swap_cancel-few.ensures in
    let r = c.by_arcs-first in
    let h = c.by_handles in
    length-take-le c.in-Some.second r.new.codes
    (omega (arith, r.ensures.not_longer, r.auto.codes, c.swap_cancel-few.auto.codes))
    ∙ sym (length-take-le c.in-Some.second h.new.codes (omega (arith, r.ensures.not_longer, h.auto.codes)))

-- handle reduction is refused
pub returns-in_default : goal.returns-in_default
returns-in_default c =
    let refused = subst (λ (w : List ℕ). SecondWay w c.by_handles.new.codes None) c.requires.4 c.in_default.ensures in
    with_effort c.if-effort-eq0.false
    (laid_on c.swap_cancel-few.ensures c.requires.3 c.by_arcs-first.ensures)
    (λ z. absurd (refused z))

-- the second word is put over the first
pub returns-then-second-first : goal.returns-then-second-first
returns-then-second-first c =
    let way =
    subst (λ (w : List ℕ). SecondWay w c.by_handles.new.codes (Some c.in-Some.second)) c.requires.4 c.in-Some.ensures in
    let few = cancelled_fewer c.swap_cancel-few.ensures in
    let h = c.by_handles in
    let r = c.by_arcs-first in
    let put = c.copy_from_slice in
    let m = c.in-Some.second in
    let long = length-take-le m h.new.codes (omega (arith, r.ensures.not_longer, h.auto.codes)) in
    let there = take_at put.new.self (drop m r.new.codes) m (ap length put.ensures.after ∙ long) ∙ put.ensures.after in
    with_effort c.if-effort-eq0.false
    (taken_over way (omega (arith, r.ensures.not_longer, c.swap_cancel-few.ensures.count_is)) there)
    (λ z. omega (arith, way.not_longer))

-- the first word is kept
pub returns : goal.returns
returns c =
    let way =
    subst (λ (w : List ℕ). SecondWay w c.by_handles.new.codes (Some c.in-Some.second)) c.requires.4 c.in-Some.ensures in
    with_effort c.if-effort-eq0.false
    (laid_on c.swap_cancel-few.ensures c.requires.3 c.by_arcs-first.ensures)
    (λ z. omega (arith, way.not_longer))
