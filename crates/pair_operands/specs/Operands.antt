-- Tests of T-values and entries, for the questions of the multiplier, of keys and of cloaking. The test of labels is
-- `is_order`.
use Rattle.std.specs.Prelude.{ℕ, Bool, not, List, eqb}
use Rattle.base.specs.Lists.{every}
use Rattle.field.specs.Elements.{is_element}
use Rattle.field.specs.declared.Field.{Field}

-- is every number an element of the field?
abbrev pub elements : Field → List ℕ → Bool
elements f xs = every (is_element f) xs

-- is no T-value zero?
abbrev pub nonzero : List ℕ → Bool
nonzero ts = every (λ t. not (eqb t 0)) ts
