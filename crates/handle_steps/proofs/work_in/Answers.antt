-- `handle_steps::work_in` meets its contract: the word is laid at the row's end, the steps are made, and the word is
-- gathered.
use mathlib.Core.Path.{sym, ◌∙◌}
use native.Mathlib.Omega.{arith}
use lib.Seq.{length-take-le}
use Rattle.handle_steps.proofs.RunEnds.{begun, refused_steps, ended_steps, gathers}
use Rattle.handle_steps.proofs.work_in.Goals as goal

pub slice_bounds-lay-end-2 : goal.slice_bounds-lay-end-2
slice_bounds-lay-end-2 c =
    sym (length-take-le c.args.n c.args.codes.now (omega (arith, c.requires.0.few, c.requires.0.room)))

pub lay-requires : goal.lay-requires
lay-requires c =
    let size = length-take-le c.args.n c.args.codes.now (omega (arith, c.requires.0.few, c.requires.0.room)) in
    omega (arith, size, c.requires.0.few, c.requires.1.room)

-- the row has the word at its end
pub run-requires : goal.run-requires
run-requires c = (begun _ _ _ _ _ _ c.requires.0 c.requires.1 c.lay.auto.row c.lay.ensures).0

pub returns-in_default : goal.returns-in_default
returns-in_default c =
    let a = c.args in
    let word = (begun _ _ _ _ _ _ c.requires.0 c.requires.1 c.lay.auto.row c.lay.ensures).1 in
    refused_steps a.limit a.n a.codes.now _ word c.requires.0.few c.in_default.ensures

pub gather-requires : goal.gather-requires
gather-requires c =
    let a = c.args in
    let r = c.run in
    let last = c.in-Ok.last in
    gathers a.limit _ r.new.row a.codes.now a.n last.left last.right last.handle
    (r.auto.row ∙ c.lay.auto.row ∙ c.requires.1.room) c.requires.0 c.in-Ok.ensures

pub overflow_sub-result : goal.overflow_sub-result
overflow_sub-result c = c.in-Ok.ensures.within

pub overflow_add-result : goal.overflow_add-result
overflow_add-result c = let d = c.in-Ok.ensures in omega (arith, d.gap, d.within)

pub returns : goal.returns
returns c =
    let a = c.args in
    let r = c.run in
    let last = c.in-Ok.last in
    let word = (begun _ _ _ _ _ _ c.requires.0 c.requires.1 c.lay.auto.row c.lay.ensures).1 in
    ended_steps a.limit a.n a.codes.now _ word r.new.row c.gather.new.codes last.left last.right last.handle
    (r.auto.row ∙ c.lay.auto.row ∙ c.requires.1.room) c.in-Ok.ensures c.gather.ensures
