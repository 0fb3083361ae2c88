use Rattle.std.proofs.Common.{ap, ◌∙◌, take}
use Rattle.std.proofs.lemmas.List.{take_min}
use Rattle.rules.proofs.view.View.over.Goals as goal

pub returns-clause-reads_the_first_64_rules : goal.returns-clause-reads_the_first_64_rules
returns-clause-reads_the_first_64_rules g c = ap (λ n. take n c.args.rules.now) c.min-most.ensures ∙ take_min 64 c.args.rules.now
