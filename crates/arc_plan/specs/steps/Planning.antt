-- What planning leaves. Only contracts of functions that are no operation of the papers cite this definition.
use Rattle.std.specs.Prelude.{ℕ, ◌≡◌, List, drop}

-- Planning writes the first n codes alone. Which plan they are is left free, because laying tests each of its places.
abbrev pub Planned : ℕ → List ℕ → List ℕ → Type 0
Planned n before after = drop n after ≡ drop n before
