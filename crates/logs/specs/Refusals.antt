-- REFUSALS: the number of each.
--     number f      the number that the refusal f is known by
--     objected o    the refusal of a take to which rules and policy object
use Rattle.std.specs.Prelude.{ℕ}
use Rattle.rules.specs.declared.claim.Objection.{Objection}
use Rattle.rules.specs.declared.claim.Objection.TheVariants as objection
use Rattle.logs.specs.declared.refusal.Refusal.{Refusal}
use Rattle.logs.specs.declared.refusal.Refusal.TheVariants.{TooManyPersons, StartOutOfBounds, UnlawfulRegister, NoSuchPanel, PanelOpen, PanelClosed, NoSuchPerson, NoSuchRole, UnlawfulRecord, BorrowerIsLender, MinutesOutOfBounds, MinuteOutOfBounds, AlreadyActive, NotActive, NothingGrants, RuleDenies, NotEntitledByRules, AlreadyLent, NoSuchLoan, BorrowerDenied, LoansFull}

abbrev pub number : Refusal → ℕ
number TooManyPersons = 10
number StartOutOfBounds = 11
number UnlawfulRegister = 12
number NoSuchPanel = 20
number PanelOpen = 21
number PanelClosed = 22
number NoSuchPerson = 30
number NoSuchRole = 31
number UnlawfulRecord = 32
number BorrowerIsLender = 33
number MinutesOutOfBounds = 34
number MinuteOutOfBounds = 40
number AlreadyActive = 50
number NotActive = 51
number NothingGrants = 60
number (RuleDenies rule) = 61
number NotEntitledByRules = 62
number AlreadyLent = 70
number NoSuchLoan = 71
number (BorrowerDenied rule) = 72
number LoansFull = 73

abbrev pub objected : Objection → Refusal
objected objection.NothingGrants = NothingGrants
objected (objection.Denied rule) = RuleDenies rule
