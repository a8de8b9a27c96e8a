-- A slip at the desk: its key, digest and signature lie end to end in one input or in three files. The line for it, and
-- how large a buffer has to be.
use Rattle.std.specs.Prelude.{ℕ, ◌+◌, cond, ◌&&◌, List, [], eqb, take}
use Rattle.base.specs.Digits.{value, part}
use Rattle.text.specs.Enough.{Enough, EnoughOfThree}
use Rattle.field.specs.Fields.{key_bytes, digest_bytes}
use Rattle.field.specs.declared.Field.{Field}
use Rattle.field.specs.declared.Field.TheVariants.{Gf32, Gf256}
use Rattle.slip_verdict.specs.Verdict.{verdict}
use Rattle.desk_line.specs.Desk.{answer_line}
use Rattle.desk_line.specs.declared.Got.{Got}

-- the field that an input names: the larger one if its bytes 1 and 2, counted from 0, say 256
unfoldable pub desk_field : List ℕ → Field
desk_field input = cond (eqb (value 256 (part 1 2 input)) 256) Gf256 Gf32

-- The verdict on an input: the first k bytes are the key, the next d the digest, and up to 5,003 after them the
-- signature. The input may end within any of them.
unfoldable pub cut_verdict : ℕ → ℕ → List ℕ → ℕ
cut_verdict k d input = verdict (part 0 k input) (part k d input) (part (k + d) 5003 input)

-- the verdict on an input that is cut for the field that it names: at 83 bytes and 32, or at 128 and 64
unfoldable pub desk_verdict : List ℕ → ℕ
desk_verdict input = cut_verdict (key_bytes (desk_field input)) (digest_bytes (desk_field input)) input

-- What is written for one input: the line of the verdict on the bytes that were read, or nothing if the input could not
-- be read. The bytes that were read are the buffer's first bytes.
unfoldable pub input_line : Got → List ℕ → List ℕ
input_line got input = cond got.read (answer_line (desk_verdict (take got.bytes input))) []

-- What is written for three files: the line of the verdict on the bytes that were read, or nothing if one of the files
-- could not be read. The bytes that were read are the first bytes of each buffer.
unfoldable pub files_line : Got → Got → Got → List ℕ → List ℕ → List ℕ → List ℕ
files_line k d w key digest word =
    cond (k.read && d.read && w.read)
    (answer_line (verdict (take k.bytes key) (take d.bytes digest) (take w.bytes word)))
    []

-- n bytes of an input of any length are enough to read: they get the verdict that the whole input gets
abbrev pub EnoughOfInput : ℕ → Type 0
EnoughOfInput n = Enough n desk_verdict

-- k bytes of the key, d of the digest and w of the signature are enough to read, however long the three files are
abbrev pub EnoughOfFiles : ℕ → ℕ → ℕ → Type 0
EnoughOfFiles k d w = EnoughOfThree k d w verdict
