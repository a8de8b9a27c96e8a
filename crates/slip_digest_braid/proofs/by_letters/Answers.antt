-- `slip_digest_braid::by_letters` meets its contract: the codes are the digest's braid, and letters.
use Prim.Native.Nat.{ℕ}
use mathlib.Core.Path.{ap, ap₂, ◌∙◌}
use mathlib.Core.List.{List}
use Rattle.base.specs.Lists.{every}
use Rattle.field.specs.Fields.{operations}
use Rattle.word.specs.Letters.{is_letter}
use Rattle.pair.specs.declared.Pair.{Pair}
use Rattle.pair.specs.Action.{pair_of, word_on, start}
use Rattle.slip_digest.proofs.Encoded.{encoded_letters}
use Rattle.slip_digest_braid.proofs.by_letters.Goals as goal

pub returns : goal.returns
unfolding start
returns c =
    let a = c.args in
    ap (λ (p : Pair). p.matrix)
    (c.carry_letters-reached.ensures
    ∙ ap₂ (λ (w : List ℕ) (p : Pair). word_on (operations a.f) a.t_values.now w (pair_of p.matrix p.labels))
    c.encode_into-n.ensures.1 c.start.ensures)

pub carry_letters-reached-requires : goal.carry_letters-reached-requires
carry_letters-reached-requires c =
    ap (every is_letter) c.encode_into-n.ensures.1 ∙ encoded_letters c.args.digest.now
