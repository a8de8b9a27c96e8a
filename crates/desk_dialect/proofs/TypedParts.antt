-- Texts that write parts, and texts that do not: `4,3` writes 4 and 3. With a trailing comma, without a comma, with
-- another sign or without digits a text writes a zero.
use mathlib.Core.Path.{◌≡◌, refl}
use mathlib.Core.List.{[], ◌∷◌}
use Rattle.base.specs.Lists.{values_from}
use Rattle.desk_dialect.specs.Converting.{part_at, parts_of}

-- 4,3
four_three : parts_of (52 ∷ 44 ∷ 51 ∷ []) ≡ 4 ∷ 3 ∷ []
unfolding parts_of part_at values_from
four_three = refl

-- 7
seven : parts_of (55 ∷ []) ≡ 7 ∷ []
unfolding parts_of part_at values_from
seven = refl

-- 1,1,1,1,1,1,1
seven_ones : parts_of (49 ∷ 44 ∷ 49 ∷ 44 ∷ 49 ∷ 44 ∷ 49 ∷ 44 ∷ 49 ∷ 44 ∷ 49 ∷ 44 ∷ 49 ∷ [])
    ≡ 1 ∷ 1 ∷ 1 ∷ 1 ∷ 1 ∷ 1 ∷ 1 ∷ []
unfolding parts_of part_at values_from
seven_ones = refl

-- `7,` and `43` and `4 3` and the empty text
trailing_comma : parts_of (55 ∷ 44 ∷ []) ≡ 7 ∷ 0 ∷ []
unfolding parts_of part_at values_from
trailing_comma = refl

no_comma : parts_of (52 ∷ 51 ∷ []) ≡ 0 ∷ 0 ∷ []
unfolding parts_of part_at values_from
no_comma = refl

a_space : parts_of (52 ∷ 32 ∷ 51 ∷ []) ≡ 0 ∷ 3 ∷ []
unfolding parts_of part_at values_from
a_space = refl

no_text : parts_of [] ≡ 0 ∷ []
unfolding parts_of part_at values_from
no_text = refl
