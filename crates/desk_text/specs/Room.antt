-- The texts of several lines that the desk's programs write.
use Rattle.std.specs.Prelude.{ℕ}

-- the most bytes of a text: 24 lines of 19
abbrev pub text_size : ℕ
text_size = 456
