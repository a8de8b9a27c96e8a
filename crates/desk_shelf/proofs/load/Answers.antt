-- `desk_shelf::load` meets its contract: the files and texts are what was read, and what is read is enough.
use Prim.Native.Nat.{ℕ}
use mathlib.Core.Path.{ap, ap₂, ◌∙◌}
use mathlib.Core.List.{List}
use native.Mathlib.Omega.{arith}
use borrow.Author.Rules.{rules}
use lib.ListN.{length, take}
use Rattle.shelf.specs.Calls.{load}
use Rattle.desk_shelf.specs.Serving.{is_shelf, digit_of}
use Rattle.desk_shelf.proofs.ServingLaws.{bare_of, unread, served_by, serves_as}
use Rattle.desk_shelf.proofs.EnoughShelf.{enough_to_load}
use Rattle.desk_shelf.proofs.load.Goals as goal

pub returns-then-not-read : goal.returns-then-not-read
returns-then-not-read c =
    let a = c.args in
    record {
      loads_file =
          unread (take a.s.bytes a.old.now) (digit_of a.publisher.now)
          (load (digit_of a.number.now) (take a.k.bytes a.key.now)) c.if-not-read.true
          (c.is_shelf.ensures ∙ ap is_shelf c.part-file.ensures) (bare_of c.none.ensures);
      enough_to_load = enough_to_load (length a.old.now) (length a.key.now) (omega arith) (omega arith);
    }

pub returns : goal.returns
returns c =
    let a = c.args in
    record {
      loads_file =
          serves_as c.if-not-read.false c.part-file.ensures c.digit_of-p.ensures
          (ap₂ (λ (n : ℕ) (k : List ℕ). load n k) c.digit_of-n.ensures c.part-key.ensures)
          (served_by _ _ (load c.digit_of-n.result c.part-key.result.now) c.worked.ensures
          (λ old answer new m. search rules));
      enough_to_load = enough_to_load (length a.old.now) (length a.key.now) (omega arith) (omega arith);
    }
