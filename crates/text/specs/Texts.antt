-- Texts: lines of words, and a buffer that starts with a text.
use Rattle.std.specs.Prelude.{ℕ, ◌≡◌, List, [], ◌∷◌, ◌++◌, length, replicate}
use Rattle.base.specs.Lists.{overlaid}

-- a line: words with a space (32) between them, and a line end (10)
unfoldable pub line : List (List ℕ) → List ℕ
line [] = 10 ∷ []
line (w ∷ []) = w ++ (10 ∷ [])
line (w ∷ v ∷ ws) = w ++ (32 ∷ line (v ∷ ws))

-- the first bytes of a buffer of some size are a text, and zeros follow
pub record TellsIn (size : ℕ) (text : List ℕ) (bytes : ℕ) (buffer : List ℕ) : Type 0 where
  pub bytes_are : bytes ≡ length text
  pub text_is : buffer ≡ overlaid text (replicate size 0)
