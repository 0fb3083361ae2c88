use Rattle.std.proofs.Common.{◌≡◌, ◌==◌, sym, ◌∙◌, rules, tests}
use Rattle.std.proofs.lemmas.Bool.{cond-true}
use Rattle.std.proofs.lemmas.Iterator.{YieldsList-from_slice}
use Rattle.std.proofs.lemmas.Iterator.Search.{all_from_yields_List}
use Rattle.book.specs.Contents.{all_zero}
use Rattle.book.proofs.contents.read_filler.Goals as goal

pub returns-then-all : goal.returns-then-all
returns-then-all c =
    let e : c.all.result ≡ all_zero c.args.body.now = all_from_yields_List (λ b. b == 0) _ _ c.all.result c.all.ensures.ran (YieldsList-from_slice c.args.body.now cc) (λ x b q k. search (rules, tests)) in
    record { accepts_exactly_zeros = sym (cond-true _ _ _ (sym e ∙ c.if-all.true)) }
