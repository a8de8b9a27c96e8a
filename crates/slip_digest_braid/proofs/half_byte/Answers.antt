-- `slip_digest_braid::half_byte` meets its contract: the way, then the power at once.
use mathlib.Core.Path.{◌≡◌, ◌∙◌}
use native.Mathlib.Omega.{arith}
use Rattle.slip_digest.specs.Digest.{selected}
use Rattle.slip_digest_braid.proofs.HalfBytePower.{half_byte_on}
use Rattle.slip_digest_braid.proofs.half_byte.Goals as goal

pub returns : goal.returns
returns c =
    let is : c.from-to.result ≡ selected c.args.h = c.from-to.ensures ∙ c.selected.ensures.0 in (
      is,
      omega (arith, c.selected.ensures),
      half_byte_on c.args.from c.args.h c.from-to.result c.requires.2 c.requires.3 is (cc)
          c.walk.ensures c.raise.ensures,
    )
