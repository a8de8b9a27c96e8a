-- `handle_row::ends::conjugate` meets its contract. The loop's invariant: what replaces the letters from k on is
-- written, and the letters before k are unchanged.
use Rattle.handle_row.proofs.EndLaws.{Written}
use Rattle.handle_row.proofs.ends.conjugate.Given as goal

abbrev pub invariant-loop-k : goal.invariant-loop-k
invariant-loop-k l = Written l.initial.part l.part l.n l.a l.k l.at
