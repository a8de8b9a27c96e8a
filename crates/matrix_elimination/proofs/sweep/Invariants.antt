-- `matrix_elimination::sweep` meets its contract. The loop's invariant: the rows before i are swept.
use Rattle.field.specs.Fields.{operations}
use Rattle.matrix.specs.steps.Sweeping.{Swept}
use Rattle.matrix_elimination.proofs.sweep.Given as goal

abbrev pub invariant-loop-i : goal.invariant-loop-i
invariant-loop-i l = Swept (operations l.f) l.q l.n l.i l.initial.m l.m
