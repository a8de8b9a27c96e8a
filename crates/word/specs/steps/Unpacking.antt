-- What the function that unpacks whole words of eight bytes leaves.
use Rattle.std.specs.Prelude.{ℕ, ◌+◌, ◌≤◌, ◌<◌, ◌≡◌, List, length, take}
use Rattle.base.specs.Lists.{overlaid}
use Rattle.base.specs.Digits.{halves}

-- A step of unpacking. Only private contracts cite it. The codes of the first r bytes stand at the front of a row of
-- codes. Fewer than eight bytes are left
abbrev pub WholeWords : ℕ → List ℕ → List ℕ → List ℕ → Type 0
WholeWords r bytes before after =
    (r ≤ length bytes) × (length bytes < r + 8) × (after ≡ overlaid (halves (take r bytes)) before)
