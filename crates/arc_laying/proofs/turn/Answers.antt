-- `arc_laying::turn` meets its contract.
use Prim.Native.Nat.{ℕ, ◌+◌, ◌≤◌, ◌<◌}
use mathlib.Core.Path.{◌≡◌, subst}
use native.Mathlib.Omega.{arith}
use Rattle.std.proofs.lemmas.Option.{IfSome_then}
use Rattle.word.specs.Letters.{generator}
use Rattle.braid_arcs.proofs.ArcLaws.{arc_end}
use Rattle.arc_laying.proofs.LayingLaws.{reads_own, own_placed, other_placed}
use Rattle.arc_laying.specs.Plans.{PlacedAt}
use Rattle.arc_laying.proofs.turn.Goals as goal

pub passed-requires : goal.passed-requires
passed-requires c = arc_end c.requires.0.laid.was

pub other-requires : goal.other-requires
other-requires c = arc_end c.requires.0.laid.was

pub returns-in-Some : goal.returns-in-Some
returns-in-Some c =
    let a = c.args in
    let s = a.s in
    let laid =
    reads_own a.under a.p a.part.now a.out.now s.read s.written s.old s.new
    c.requires.0.laid c.in-Some.old (omega arith) c.in-Some.ensures in
    let at : (k : ℕ) → s.read ≤ k → k < s.read + 1 → PlacedAt a.under a.p a.part.now a.plan.now k =
    λ k h l.
    subst (λ (j : ℕ). PlacedAt a.under a.p a.part.now a.plan.now j) (omega arith)
    (own_placed a.under a.p a.part.now a.out.now s.read s.written s.old s.new
    c.requires.0.laid a.plan.now c.in-Some.old c.in-Some.ensures) in
    (record { reads = omega arith; writes = c.requires.0.writes; further = omega arith; laid = laid }, at)

pub returns-then-s-t : goal.returns-then-s-t
returns-then-s-t c =
    let a = c.args in
    let s = a.s in
    let at : (s.new ≡ generator c.in_ok-d.d → ⊥) → (k : ℕ) → s.read ≤ k
    → k < s.read + 1
    → PlacedAt a.under a.p a.part.now a.plan.now k =
    λ n k h l.
    subst (λ (j : ℕ). PlacedAt a.under a.p a.part.now a.plan.now j) (omega arith)
    (other_placed a.under a.p a.part.now a.out.now s.read s.written s.old s.new
    c.requires.0.laid a.plan.now c.in_ok-d.d c.in_ok-d.ensures n c.if-s-t.true) in
    IfSome_then c.crossed.result c.crossed.ensures (λ r p. (p.0, λ k h l. at p.2 k h (omega (arith, p.1))))
