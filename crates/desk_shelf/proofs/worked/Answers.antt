-- `desk_shelf::worked` meets its contract: nothing from a file that is no shelf, and otherwise the work on the shelf.
use mathlib.Core.Path.{◌≡◌, refl, sym, ◌∙◌}
use mathlib.Core.Bool.{true, false}
use Rattle.desk_shelf.specs.Serving.{is_shelf}
use Rattle.desk_shelf.proofs.worked.Goals as goal

pub returns-then-not-is_shelf : goal.returns-then-not-is_shelf
returns-then-not-is_shelf g c =
    let n = c.none.ensures in
    let no : is_shelf c.args.file.now ≡ false = sym c.is_shelf.ensures ∙ c.if-not-is_shelf.true in
    record {
      read_is = n.0;
      whole_is = n.1 ∙ sym no;
      none = λ _. (n.2, n.3);
      done = λ yes. absurd (let e = sym yes ∙ no in cc);
    }

pub shelf_in-shelf-requires : goal.shelf_in-shelf-requires
shelf_in-shelf-requires g c = sym c.is_shelf.ensures ∙ c.if-not-is_shelf.false

pub returns : goal.returns
returns g c =
    let whole : is_shelf c.args.file.now ≡ true = sym c.is_shelf.ensures ∙ c.if-not-is_shelf.false in
    record {
      read_is = refl;
      whole_is = sym whole;
      none = λ no. absurd (let e = sym whole ∙ no in cc);
      done = λ _. record {
        shown = _;
        shows = c.shelf_in-shelf.ensures;
        left = _;
        met = c.work-answer.ensures;
        leaves = refl;
      };
    }
