use Rattle.std.proofs.Common.{is_some, sym, refl, ap, ◌∙◌, inl, inr}
use Rattle.grader.proofs.Finding.{somebody}
use Rattle.grader.proofs.grader.Grader.check_open.Goals as goal

pub returns-then-is_some : goal.returns-then-is_some
returns-then-is_some g c =
    let seated = somebody _ (sym (ap is_some c.seat.ensures.the_seat_there) ∙ (sym c.is_some.ensures ∙ c.if-is_some.true)) in
    record {
      refused_by_the_first_check_that_holds = λ p. inr (
        (λ f holds. c.in_ok-check_panel.ensures.stops_where_there_is_no_such_panel holds.1),
        inl (refl, record { person = seated.0; seated = seated.1; holds = tt }),
      );
    }
