-- `word_crossing::walk::number` meets its contract: both tables are asked, the second for the places of the labels.
use Prim.Native.Nat.{ℕ, ◌+◌}
use mathlib.Core.Path.{ap₂, ◌∙◌}
use native.Mathlib.Omega.{arith}
use lib.IntN.{pos, ◌-ℤ◌}
use mir.Syntax.{w32}
use mir.Facts.{to_z-of_z}
use Rattle.word_crossing.proofs.walk.number.Goals as goal

pub place_of-p-requires : goal.place_of-p-requires
place_of-p-requires c =
    let pre = c.requires in (pre.0.strands, pre.0.order, pre.1)

pub place_of-q-requires : goal.place_of-q-requires
place_of-q-requires c =
    let pre = c.requires in (pre.0.strands, pre.0.order, pre.2)

pub finding-requires : goal.finding-requires
finding-requires c =
    let pre = c.requires in (pre.0.first_table, omega arith, pre.1, pre.2)

pub finding-requires-2 : goal.finding-requires-2
finding-requires-2 c =
    (c.requires.0.second_table, omega arith, c.place_of-p.ensures.1, c.place_of-q.ensures.1)

pub overflow_add-generators : goal.overflow_add-generators
overflow_add-generators c =
    record { fits = omega (arith, c.finding-2.ensures.1, c.finding.ensures.1) }

pub finding-requires-3 : goal.finding-requires-3
finding-requires-3 c =
    let pre = c.requires in (pre.0.first_table, omega arith, pre.1, pre.2)

pub finding-requires-4 : goal.finding-requires-4
finding-requires-4 c =
    (c.requires.0.second_table, omega arith, c.place_of-p.ensures.1, c.place_of-q.ensures.1)

pub overflow_add-inverses : goal.overflow_add-inverses
overflow_add-inverses c =
    record { fits = omega (arith, c.finding-4.ensures.1, c.finding-3.ensures.1) }

pub less-requires : goal.less-requires
less-requires c = (
  omega (arith, c.finding-2.ensures.1, c.finding.ensures.1),
  omega (arith, c.finding-4.ensures.1, c.finding-3.ensures.1),
)

pub returns : goal.returns
returns c =
    let p = c.place_of-p in
    let q = c.place_of-q in
    record {
      p = p.result;
      q = q.result;
      p_below = p.ensures.1;
      q_below = q.ensures.1;
      p_holds = p.ensures.0;
      q_holds = q.ensures.0;
      number_is =
          to_z-of_z {w = w32} (record { sfits = c.less.type_inv })
          ∙ c.less.ensures
          ∙ ap₂ (λ (m n : ℕ). pos m -ℤ pos n)
          (ap₂ ◌+◌ c.finding.ensures.0 c.finding-2.ensures.0)
          (ap₂ ◌+◌ c.finding-3.ensures.0 c.finding-4.ensures.0);
    }
