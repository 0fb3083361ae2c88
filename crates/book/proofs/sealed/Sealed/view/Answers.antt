use Rattle.std.proofs.Common.{take, ap, ◌∙◌, arith, length-take}
use Rattle.std.proofs.lemmas.List.{take_all}
use Rattle.book.proofs.sealed.Sealed.view.Goals as goal

pub returns : goal.returns
returns g c =
    let count = c.args.self.now.rules.count in
    record {
      reads_its_rules =
          c.over.ensures.reads_the_first_64_rules
          ∙ ap (take 64) c.front.ensures.the_first_of_them
          ∙ take_all 64 (take count c.args.rules.now) (omega (arith, length-take count c.args.rules.now, c.args.self.now.rules.within));
      reads_its_entries = c.over.ensures.reads_all_entries ∙ c.front-2.ensures.the_first_of_them;
    }
