use Rattle.logs.proofs.theorems.the_numbers_of_the_checks_rise.Goals as goal
use Rattle.logs.proofs.Rising.{numbers_rise}

pub returns : goal.returns
returns g c = record { checks_stand_in_rising_order = numbers_rise _ _ }
