-- `handle_steps::turns::turn` meets its contract: the code moves before the gap, or the limit is reached, or the handle
-- is taken out.
use Prim.Native.Nat.{◌+◌}
use mathlib.Core.Path.{sym, ◌∙◌}
use native.Mathlib.Omega.{arith}
use Rattle.handle_row.specs.steps.Gaps.{Open}
use Rattle.handle_steps.proofs.TurnLaws.{code_kept, limit_reached}
use Rattle.handle_steps.proofs.turns.turn.Goals as goal

pub begins-requires : goal.begins-requires
begins-requires c =
    let g = c.requires.0 in
    record {
      gap = g.gap;
      within = omega (arith, g.room, c.requires.1);
      lettered = g.lettered;
      newest = g.tables.newest;
    }

pub keep-requires : goal.keep-requires
keep-requires c =
    let g = c.requires.0 in
    let opened : Open c.args.row.now c.args.before.now c.args.s.left c.args.s.right =
    record {
      gap = g.gap;
      within = omega (arith, g.room, c.requires.1);
      beside = g.beside ∙ sym g.room;
      small = omega (arith, g.room);
    } in
    (opened, g.tables)

pub returns-in_default : goal.returns-in_default
returns-in_default c =
    let a = c.args in
    code_kept a.row.now a.latest.now a.before.now a.s.left a.s.right a.s.steps c.requires.0 c.requires.1
    c.in_default.ensures c.keep.new.row c.keep.new.latest c.keep.new.before c.keep.auto.before c.keep.ensures

pub returns-then-s-eq0 : goal.returns-then-s-eq0
returns-then-s-eq0 c =
    let a = c.args in
    limit_reached a.row.now a.latest.now a.before.now a.s.left a.s.right a.s.steps c.requires.0 c.requires.1
    (c.in-Some.from + 1) (sym c.in-Some.ensures) (omega arith) c.if-s-eq0.true

pub take_out-requires : goal.take_out-requires
take_out-requires c = (
  c.requires.0,
  record {
    own_is = sym c.in-Some.ensures;
    found = omega arith;
    unread = c.requires.1;
    some = omega (arith, c.if-s-eq0.false);
  },
)
