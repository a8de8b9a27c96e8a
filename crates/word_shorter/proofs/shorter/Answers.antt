-- `word_shorter::shorter` meets its contract: it returns the chosen slice itself, and on a refusal the empty part of
-- the first file.
use mathlib.Core.Path.{sym, ap}
use mathlib.Core.Bool.{Bool, cond}
use Rattle.word_shorter.proofs.ShorterLaws.{first_is, second_is, none_is, given, none_given}
use Rattle.word_shorter.proofs.shorter.Goals as goal

pub returns-then-c-eq1 : goal.returns-then-c-eq1
returns-then-c-eq1 c =
    let a = c.args.a in
    let b = c.args.b in
    let h = first_is a.now b.now c.choose-c.ensures c.if-c-eq1.true in
    record {
      result_value = given a.now b.now h.0 h.1;
      that_slice = λ e. ap (λ (t : Bool). cond t a.ref_ptr b.ref_ptr) (sym h.1);
    }

pub returns-then-c-eq2 : goal.returns-then-c-eq2
returns-then-c-eq2 c =
    let a = c.args.a in
    let b = c.args.b in
    let h = second_is a.now b.now c.choose-c.ensures c.if-c-eq2.true in
    record {
      result_value = given a.now b.now h.0 h.1;
      that_slice = λ e. ap (λ (t : Bool). cond t a.ref_ptr b.ref_ptr) (sym h.1);
    }

pub returns : goal.returns
returns c =
    let a = c.args.a.now in
    let b = c.args.b.now in
    let h = none_is a b c.choose-c.ensures c.if-c-eq1.false c.if-c-eq2.false in
    record {
      result_value = none_given a b h;
      that_slice = λ e. absurd (h e);
    }
