-- PANELS: who is at a panel, and which roles are active there.
--     seat_at seats at           the seat at the panel, none where it is closed or there is no such panel
--     person_at seats at         the person there
--     active_at seats at role    the role is active there
--     Trimmed Grounds old new    every panel has kept its person and those of its active roles for which the person has grounds
use Rattle.std.specs.Prelude.{◌≡◌, ℕ, Bool, true, false, List, length, Some, None, Decides, Option}
use Rattle.std.specs.List.{slice_get}
use Rattle.sets.specs.Members.{member}
use Rattle.tables.specs.declared.seat.Seat.{Seat}

abbrev pub seated : Option (Option Seat) → Option Seat
seated None = None
seated (Some seat) = seat

abbrev pub person_of : Option Seat → Option ℕ
person_of None = None
person_of (Some seat) = Some seat.person

abbrev pub active_of : Option Seat → ℕ → Bool
active_of None role = false
active_of (Some seat) role = member seat.active role

abbrev pub seat_at : List (Option Seat) → ℕ → Option Seat
seat_at seats at = seated (slice_get seats at)

abbrev pub person_at : List (Option Seat) → ℕ → Option ℕ
person_at seats at = person_of (seat_at seats at)

abbrev pub active_at : List (Option Seat) → ℕ → ℕ → Bool
active_at seats at role = active_of (seat_at seats at) role

-- the panel's person has grounds for the role
pub record HasGrounds (Grounds : ℕ → ℕ → Type 0) (seat : Option Seat) (role : ℕ) : Type 0 where
  pub person : ℕ
  pub there : person_of seat ≡ Some person
  pub grounds : Grounds person role

pub record Trimmed (Grounds : ℕ → ℕ → Type 0) (old new : List (Option Seat)) : Type 0 where
  pub panels_there : length new ≡ length old
  pub same_persons : (at : ℕ) → person_at new at ≡ person_at old at
  pub roles_with_grounds :
      (at role : ℕ) → Decides (active_at new at role) ((active_at old at role ≡ true) × HasGrounds Grounds (seat_at old at) role)
