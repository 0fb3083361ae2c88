use Rattle.std.proofs.lemmas.Option.{slice_get-get_or}
use Rattle.std.proofs.lemmas.Bool.Decides.{not_from_Decides}
use Rattle.rules.specs.Rules.{seen}
use Rattle.rules.proofs.RuleLaws.{source_same, source_with, source_all}
use Rattle.rules.proofs.view.View.sources.Goals as goal
use Rattle.rules.proofs.view.View.sources.Goals.{then-leads_to, else-leads_to}

pub loop-entry-preserved : goal.loop-entry-preserved
loop-entry-preserved g c =
    let b = seen g.K.Kind.meaning c.args.self.now in
    let found = slice_get-get_or c.args.self.now.entries.now c.loop-entry.entry-index _ c.loop-entry-test.true in
    elim c.if-leads_to.branch [
      | then-leads_to w ↦
          source_with b c.loop-entry.entry-index c.args.role c.args.minute _ c.loop-entry.sources w.with-sources-then-leads_to.result c.if-leads_to.sources
          found w.sources-is (c.leads_to.ensures.tells_whether_it_leads_there_and_is_live.0 w.if-leads_to.true)
          w.with-sources-then-leads_to.ensures.members_are_those_before_and_this_one c.loop-entry.invariant
      | else-leads_to w ↦
          source_same b c.loop-entry.entry-index c.args.role c.args.minute _ c.loop-entry.sources c.if-leads_to.sources
          found w.sources-is (not_from_Decides c.leads_to.result c.leads_to.ensures.tells_whether_it_leads_there_and_is_live w.if-leads_to.false) c.loop-entry.invariant
    ]

pub returns : goal.returns
returns g c = record {
  members_are_the_role_and_what_leads_to_it =
      source_all (seen g.K.Kind.meaning c.args.self.now) c.loop-entry.entry-index c.args.role c.args.minute c.loop-entry.sources c.loop-entry-test.false c.loop-entry.invariant;
}
