use Rattle.hall.proofs.SmallCases.{worked}
use Rattle.hall.proofs.cases.the_worked_cases_hold.Goals as goal

pub returns : goal.returns
returns c = record { every_worked_case_holds = worked }
