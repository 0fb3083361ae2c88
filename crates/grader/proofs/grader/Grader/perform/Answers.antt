use Rattle.std.proofs.Common.{◌≡◌, refl, rules}
use Rattle.grader.specs.Graders.{reply, standing_reply, roles_reply}
use Rattle.grader.proofs.grader.Grader.perform.Goals as goal
use Rattle.grader.proofs.grader.Grader.perform.Goals.{in-Open, in-Close, in-Take, in-Drop, in-Lend, in-Recall, in-Enter, in-Tick}

pub returns-in-Entitled : goal.returns-in-Entitled
returns-in-Entitled g c =
    let same : c.map.result ≡ standing_reply c.entitled-standing.result = search rules in
    rw (c.in-Entitled.is, same) (search rules)

pub returns-in-Roles : goal.returns-in-Roles
returns-in-Roles g c =
    let same : c.map-in-Roles.result ≡ roles_reply c.roles.result = search rules in
    rw (c.in-Roles.is, same) (record {
      policy_and_table_stay = (refl, refl);
      refused_by_its_first_check_that_holds_else_done = λ first start. c.roles.ensures.refused_by_its_first_check_that_holds_else_answered _ _;
      carries_every_log_on = λ first start. c.roles.ensures.carries_every_log_on _ _;
    })

pub returns : goal.returns
returns g c =
    let same : c.map-2.result ≡ reply c.match-call.done = search rules in
    rw same (elim c.match-call.branch [
      | in-Open w ↦ rw (w.in-Open.is, w.self-is, w.register-is, w.done-is) (record {
        policy_and_table_stay = w.open-done.ensures.policy_and_table_stay;
        refused_by_its_first_check_that_holds_else_done = λ first start. w.open-done.ensures.refused_by_its_first_check_that_holds_else_done _;
        carries_every_log_on = λ first start. w.open-done.ensures.carries_every_log_on _;
      })
      | in-Close w ↦ rw (w.in-Close.is, w.self-is, w.register-is, w.done-is) (record {
        policy_and_table_stay = w.close-done.ensures.policy_and_table_stay;
        refused_by_its_first_check_that_holds_else_done = λ first start. w.close-done.ensures.refused_by_its_first_check_that_holds_else_done _ _;
        carries_every_log_on = λ first start. w.close-done.ensures.carries_every_log_on _ _;
      })
      | in-Take w ↦ rw (w.in-Take.is, w.self-is, w.register-is, w.done-is) (search rules)
      | in-Drop w ↦ rw (w.in-Drop.is, w.self-is, w.register-is, w.done-is) (record {
        policy_and_table_stay = w.drop-done.ensures.policy_and_table_stay;
        refused_by_its_first_check_that_holds_else_done = λ first start. w.drop-done.ensures.refused_by_its_first_check_that_holds_else_done _ _;
        carries_every_log_on = λ first start. w.drop-done.ensures.carries_every_log_on _ _;
      })
      | in-Lend w ↦ rw (w.in-Lend.is, w.self-is, w.register-is, w.done-is) (search rules)
      | in-Recall w ↦ rw (w.in-Recall.is, w.self-is, w.register-is, w.done-is) (search rules)
      | in-Enter w ↦ rw (w.in-Enter.is, w.self-is, w.register-is, w.done-is) (search rules)
      | in-Tick w ↦ rw (w.in-Tick.is, w.self-is, w.register-is, w.done-is) (search rules)
    ])
