use Rattle.std.proofs.Common.{◌⊎◌, List, refl, subst₂}
use Rattle.rules.specs.declared.entry.Entry.{Entry}
use Rattle.rules.specs.declared.rule.Rule.{Rule}
use Rattle.tables.specs.Loans.{standing, Filtered, OnLoan}
use Rattle.tables.specs.Panels.{Trimmed}
use Rattle.tables.specs.Settings.{Setting, ByRules, MayStand}
use Rattle.grader.proofs.grader.Grader.settle.Goals as goal

pub returns : goal.returns
returns g c =
    let old = c.args.self.now in
    let by : List (Rule g.row.K-Test.Denot) → List Entry → Setting g.row.K-Value.Denot g.row.K-Test.Denot =
    λ rules entries. record {
      book = record { meaning = g.K.Kind.meaning; rules = rules; entries = entries };
      judge = g.P.Policy.judge old.policy;
      table = old.senior;
      records = c.args.register.now;
      minute = old.clock;
    } in
    let before = standing old.loans in
    let after = standing c.retain.new.self in
    record {
      ends_what_has_no_grounds = record {
        stays = (refl, refl);
        same_clock = refl;
        loans_kept = subst₂ (λ rules entries. Filtered (MayStand (by rules entries)) before after)
            c.view.ensures.reads_its_rules c.view.ensures.reads_its_entries c.retain.ensures.keeps_exactly_the_loans_that_pass;
        roles_kept = subst₂ (λ rules entries. Trimmed (λ person role. ByRules (by rules entries) person role ⊎ OnLoan after person role) old.panels.seats c.trim.new.self.seats)
            c.view.ensures.reads_its_rules c.view.ensures.reads_its_entries c.trim.ensures.each_panel_keeps_exactly_the_roles_with_grounds;
      };
    }
