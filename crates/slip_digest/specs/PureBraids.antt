-- Source 003's pure braid generators on eight strands, and powers of a word. They state the braid of a half byte in the
-- terms of source 003.
use Rattle.std.specs.Prelude.{ℕ, zero, suc, ◌+◌, ◌-◌, List, [], ◌∷◌, ◌++◌, map, reverse}
use Rattle.slip_digest.specs.Digest.{above}

-- g_(l,8) = b7 b6 .. b_(l+1) b_l² b_(l+1)⁻¹ .. b6⁻¹ b7⁻¹: equation (11) with i = l and j = 8
unfoldable pub pure_generator : ℕ → List ℕ
pure_generator l = reverse (above l) ++ (((l - 1) ∷ (l - 1) ∷ []) ++ map (λ c. c + 8) (above l))

-- a word p times in a row
unfoldable pub power : ℕ → List ℕ → List ℕ
power zero w = []
power (suc p) w = w ++ power p w
