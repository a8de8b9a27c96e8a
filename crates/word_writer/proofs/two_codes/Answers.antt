-- `word_writer::two_codes` meets its contract: the second byte of (a + 256 b) * 4,097 is 16 a + b.
use Prim.Native.Nat.{ℕ, ◌+◌, ◌*◌, ◌/◌, ◌%◌, ◌<◌}
use mathlib.Core.Path.{◌≡◌, ap, ◌∙◌}
use native.Mathlib.Omega.{arith}
use lib.ListN.{get_or}
use Rattle.word_writer.proofs.two_codes.Goals as goal

second_place : (a b : ℕ) → a < 16 → b < 16 → (a + b * 256) * 4097 / 256 % 256 ≡ a * 16 + b
second_place a b h l =
    let high : (a + b * 256) * 4097 / 256 ≡ a * 16 + b * 4097 = omega arith in
    let low : (a * 16 + b * 4097) % 256 ≡ a * 16 + b = omega arith in
    ap (λ (n : ℕ). n % 256) high ∙ low

pub returns : goal.returns
returns c =
    let codes = c.args.codes.now in
    rw (c.from.ensures, c.from-2.ensures)
    (second_place (get_or codes c.args.at 0) (get_or codes (c.args.at + 1) 0) c.requires.1 c.requires.2)
