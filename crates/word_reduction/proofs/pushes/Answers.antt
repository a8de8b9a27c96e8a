-- `word_reduction::pushes` meets its contract. The loop's invariant: the stack holds the freely reduced word of the n
-- codes that it had at first and the codes pushed so far.
use Prim.Native.Nat.{ℕ}
use mathlib.Core.Path.{sym, ap, ◌∙◌}
use mathlib.Core.List.{List, [], ◌∷◌, ◌++◌, append-nil}
use native.Mathlib.Omega.{arith}
use lib.ListN.{take, get_or}
use lib.Seq.{take_all}
use Rattle.base.proofs.ListLaws.{and_both, every_append, every_take}
use Rattle.word.specs.Letters.{is_letter}
use Rattle.word.specs.Reduction.{reduced}
use Rattle.word.proofs.ReductionLaws.{reduced_irreducible, reduced_lettered, irreducible_reduced}
use Rattle.word_reduction.proofs.StackLaws.{next_reduced}
use Rattle.word_reduction.proofs.pushes.Goals as goal

pub loop-c-init : goal.loop-c-init
loop-c-init c =
    let first = take c.args.n c.args.stack.now in
    (omega arith, sym (ap reduced (append-nil first) ∙ irreducible_reduced first c.requires.1))

pub push-count-requires : goal.push-count-requires
push-count-requires c =
    let l = c.loop-c in
    let first = take c.args.n c.args.stack.now in
    let come = take l.c-index c.args.codes.now in
    let letters =
    every_append is_letter first come
    ∙ and_both c.requires.2 (every_take is_letter l.c-index c.args.codes.now c.requires.3) in (
      omega arith,
      rw l.invariant.1 (reduced_irreducible (first ++ come)),
      rw l.invariant.1 (reduced_lettered (first ++ come) letters),
    )

pub loop-c-preserved : goal.loop-c-preserved
loop-c-preserved c =
    let p = c.push-count in
    let l = c.loop-c in
    let first = take c.args.n c.args.stack.now in
    let codes = c.args.codes.now in (
      omega arith,
      p.ensures.1
          ∙ ap (λ (w : List ℕ). reduced (w ++ (get_or codes l.c-index 0 ∷ []))) l.invariant.1
          ∙ next_reduced first codes l.c-index (omega arith) c.requires.2 c.requires.3,
    )

pub returns : goal.returns
returns c =
    let l = c.loop-c in
    let a = c.args in
    let first = take a.n a.stack.now in
    let all = take_all l.c-index a.codes.now (omega arith) in
    (omega arith, l.invariant.1 ∙ ap (λ (w : List ℕ). reduced (first ++ w)) all)
