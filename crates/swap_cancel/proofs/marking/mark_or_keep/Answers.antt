-- `swap_cancel::marking::mark_or_keep` meets its contract.
use Rattle.swap_cancel.proofs.MarkingLaws.{marks, marks_read, keeps, keeps_read}
use Rattle.swap_cancel.proofs.marking.mark_or_keep.Goals as goal

-- the letter stays
pub returns-in-None : goal.returns-in-None
returns-in-None c =
    let a = c.args in
    let codes = a.codes.now in
    let before = a.before.now in
    let last = a.last.now in
    let alone = rw c.in-None.is at c.requires.2 in
    rw c.from-g.ensures (
      keeps a.n codes before last a.k c.requires.0 c.requires.1,
      keeps_read a.n codes before last a.k c.requires.0 c.requires.1 alone,
    )

-- the letter goes with its partner
pub returns-in-Some : goal.returns-in-Some
returns-in-Some c =
    let a = c.args in
    let codes = a.codes.now in
    let before = a.before.now in
    let last = a.last.now in
    let found = rw c.in-Some.is at c.requires.2 in
    rw c.from-g.ensures (
      marks a.n codes before last a.k c.requires.0 c.requires.1 c.in-Some.at found,
      marks_read a.n codes before last a.k c.requires.0 c.requires.1 c.in-Some.at found,
    )
