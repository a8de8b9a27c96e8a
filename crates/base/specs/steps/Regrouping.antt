-- What the functions that regroup digits ask for and leave.
use Rattle.std.specs.Prelude.{ℕ, ◌-◌, ◌*◌, ◌^◌, ◌≤◌, ◌<◌, ◌≡◌, List, ◌++◌, length, take, drop}
use Rattle.base.specs.Digits.{value, digits}
use Rattle.base.specs.Packing.{Below}

-- What `regroup` writes. Groups of m digits to base `base`, as many as `groups`, become groups of n digits to base
-- `to`. The number that the rest of the source writes, times `up`, is written in the rest of the room. Only a private
-- contract cites this definition.
unfoldable pub regrouped : List ℕ → ℕ → ℕ → ℕ → ℕ → ℕ → ℕ → ℕ → List ℕ
regrouped src m base room n to groups up =
    digits to (groups * n) (value base (take (groups * m) src))
    ++ digits to (room - groups * n) (value base (drop (groups * m) src) * up)

-- What `regroup` assumes. m digits to base `base` write as many numbers as n digits to base `to`. The number of a group
-- fits 64 bits. The number of the rest, times `up`, fits 64 bits.
pub record Regroups (src : List ℕ) (m base room n to groups up : ℕ) : Type 0 where
  pub below : Below base src
  pub source : groups * m ≤ length src
  pub output : groups * n ≤ room
  pub fits : base ^ m ≤ 2 ^ 64
  pub as_many : base ^ m ≡ to ^ n
  pub positive : 0 < to
  pub a_byte : to ≤ 256
  pub up_positive : 0 < up
  pub rest : base ^ (length src - groups * m) * up ≤ 2 ^ 64
