use Rattle.std.proofs.Common.{◌≡◌, ◌<◌, [], reverse, length, get_or, take, ◌∙◌, subst, subst₂, arith}
use Rattle.std.proofs.lemmas.List.{take_all}
use Rattle.std.proofs.lemmas.Option.{slice_get-get_or}
use Rattle.logs.specs.Promises.{Led, Whole}
use Rattle.logs.proofs.Running.{same_calls_none, same_calls_more}
use Rattle.grader.specs.Graders.{over, plant, book_of, held}
use Rattle.grader.proofs.RunLaws.{turn}
use Rattle.grader.proofs.running.run.Goals as goal

pub loop-exchange-init : goal.loop-exchange-init
loop-exchange-init g c =
    let ready = c.in_ok-ready.ensures.refused_by_the_first_check_that_holds in
    let b = book_of g.K.Kind.meaning c.args.book.now c.args.rules.now c.args.entries.now in (
      c.build-grader.ensures.keeps_the_policy ∙ ready.1,
      same_calls_none c.args.log.now,
      subst₂ (λ policy start. Led (plant b (g.P.Policy.judge policy) c.args.register.now start) [] c.build-grader.result.senior (held c.build-grader.result c.args.register.now))
          ready.1 ready.2 (c.build-grader.ensures.the_empty_log_leads_to_it c.args.register.now),
    )

pub loop-exchange-preserved : goal.loop-exchange-preserved
loop-exchange-preserved g c =
    let log = c.loop-exchange.log in
    let i = c.loop-exchange.exchange-index in
    let e = get_or log i c.exchange-item.result in
    let stays = c.perform-exchange.ensures.policy_and_table_stay in
    let within : i < length log = omega (arith, c.loop-exchange-test.true, c.loop-exchange.auto.log) in (
      stays.0 ∙ c.loop-exchange.invariant.0,
      same_calls_more c.args.log.now log i e c.perform-exchange.result c.loop-exchange.invariant.1 (slice_get-get_or log i c.exchange-item.result within),
      turn (λ policy. over g.K.Kind.meaning (g.P.Policy.judge policy) c.args.book.now c.args.rules.now c.args.entries.now c.args.register.now c.args.start)
          log i (record { call = e.call; reply = c.perform-exchange.result }) c.loop-exchange.grader.policy c.args.policy c.loop-exchange.grader.senior c.perform-exchange.new.self.senior
          (held c.loop-exchange.grader c.loop-exchange.register) (held c.perform-exchange.new.self c.perform-exchange.new.register)
          within c.loop-exchange.invariant.0 stays.1 (c.perform-exchange.ensures.carries_every_log_on c.args.register.now c.args.start (reverse (take i log))) c.loop-exchange.invariant.2,
    )

pub returns : goal.returns
returns g c =
    let log = c.loop-exchange.log in
    let p = over g.K.Kind.meaning (g.P.Policy.judge c.args.policy) c.args.book.now c.args.rules.now c.args.entries.now c.args.register.now c.args.start in
    let all : take c.loop-exchange.exchange-index log ≡ log = take_all c.loop-exchange.exchange-index log (omega (arith, c.loop-exchange-test.false, c.loop-exchange.auto.log)) in
    record {
      roles_and_loans_last_exactly_from_grant_to_first_ending = record {
        no_check_holds = c.in_ok-ready.ensures.refused_by_the_first_check_that_holds.0;
        only_replies_are_written = c.loop-exchange.invariant.1;
        whole_promise = subst (λ done. Whole p (reverse done) (held c.loop-exchange.grader c.loop-exchange.register)) all c.loop-exchange.invariant.2.whole;
      };
    }
