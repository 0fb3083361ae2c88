use Rattle.std.proofs.Common.{◌≡◌, Some, None, rules, sym, ap, ◌∙◌}
use Rattle.rules.specs.Ranks.{is_senior, row_holds}
use Rattle.std.proofs.lemmas.Option.{slice_get_read, slice_get_past}
use Rattle.rules.proofs.seniority.Seniority.juniors.Goals as goal

pub returns : goal.returns
unfolding is_senior
returns c = search (rules, slice_get_read, slice_get_past)
