-- `slip_digest::is_digest` meets its contract: it compares with the length that goes with the field that the match
-- finds.
use mathlib.Core.Path.{sym, ap}
use Rattle.field.specs.declared.Field.{Field}
use Rattle.slip_digest.specs.Digest.{is_digest}
use Rattle.slip_digest.proofs.is_digest.Goals as goal

pub returns-in-Gf32 : goal.returns-in-Gf32
returns-in-Gf32 c = ap (λ (f : Field). is_digest f c.args.digest.now) (sym c.in-Gf32.is)

pub returns-in-Gf256 : goal.returns-in-Gf256
returns-in-Gf256 c = ap (λ (f : Field). is_digest f c.args.digest.now) (sym c.in-Gf256.is)
