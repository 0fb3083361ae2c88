use Rattle.std.proofs.Common.{◌≤◌, length, Decides, refl, subst, subst₂}
use Rattle.rules.specs.Ranks.{is_senior}
use Rattle.rules.specs.Rules.{Senior}
use Rattle.tables.specs.Loans.{standing}
use Rattle.logs.proofs.Beginning.{led_at_first}
use Rattle.logs.proofs.MoreRules.{more_rules_more_roles}
use Rattle.grader.specs.Graders.{plant, book_of}
use Rattle.grader.proofs.grader.making.Ready.build.Goals as goal

pub returns : goal.returns
returns g c =
    let book = book_of g.K.Kind.meaning c.args.book.now c.args.rules.now c.args.entries.now in
    let few : length book.rules ≤ 64 = subst (λ rs. length rs ≤ 64) c.view.ensures.reads_its_rules c.view.result.few in
    record {
      keeps_the_policy = refl;
      the_empty_log_leads_to_it = λ first.
          led_at_first (plant book (g.P.Policy.judge c.args.self.policy) first c.args.self.start) c.seniority-senior.result
          (record { clock = c.args.self.start; panels = c.new.result.seats; loans = standing c.new-2.result; records = first })
          (more_rules_more_roles (plant book (g.P.Policy.judge c.args.self.policy) first c.args.self.start) few (g.met.P.Policy.yes_stays_when_granting_gains_or_denying_loses c.args.self.policy))
          (λ i j. subst₂ (λ rs es. Decides (is_senior c.seniority-senior.result i j) (Senior (record { meaning = g.K.Kind.meaning; rules = rs; entries = es }) i j))
          c.view.ensures.reads_its_rules c.view.ensures.reads_its_entries (c.seniority-senior.ensures.senior_exactly_when_its_test_implies_the_other i j))
          refl refl c.new.result.long c.new.ensures.all_panels_closed c.new-2.ensures.none_stands;
    }
