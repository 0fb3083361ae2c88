-- DRAFTS: what adding to a draft answers, and what draft and memory then hold.
--     has_room limit count xs      whether there is room for one more after the first `count` of xs, by the limit and the memory
--     Added good limit xs x before after ys r
--                                  an add of x, whose fields are good or not, after the first `before` of the memory xs: r is the answer,
--                                  `after` counts what then stands there, and ys is the memory after it
--     Stored limit xs x before after ys r    the same of whatever item, with no check of its fields
use Rattle.std.specs.Prelude.{◌≡◌, ℕ, ◌+◌, Bool, cond, ◌&&◌, List, length, is_ok, Ok, Err, Result, nat_lt, slice_set}
use Rattle.book.specs.declared.faults.BookFault.{BookFault}
use Rattle.book.specs.declared.faults.BookFault.TheVariants.{Full}
use Rattle.book.specs.declared.faults.RecordFault.TheVariants.{BadField}
use Rattle.book.specs.declared.faults.Fault.{Fault}
use Rattle.book.specs.declared.faults.Fault.TheVariants.{Record, Rulebook}

abbrev pub has_room : {X : Type 0} → ℕ → ℕ → List X → Bool
has_room limit count xs = nat_lt count limit && nat_lt count (length xs)

pub record Added {X : Type 0} (good : Bool) (limit : ℕ) (xs : List X) (x : X) (before after : ℕ) (ys : List X) (r : Result (Unit {0}) Fault) : Type 0 where
  pub answer : r ≡ cond good (cond (has_room limit before xs) (Ok tt) (Err (Rulebook Full))) (Err (Record BadField))
  pub counted : after ≡ cond (is_ok r) (before + 1) before
  pub written : ys ≡ cond (is_ok r) (slice_set xs before x) xs

pub record Stored {X : Type 0} (limit : ℕ) (xs : List X) (x : X) (before after : ℕ) (ys : List X) (r : Result (Unit {0}) BookFault) : Type 0 where
  pub answer : r ≡ cond (has_room limit before xs) (Ok tt) (Err Full)
  pub counted : after ≡ cond (is_ok r) (before + 1) before
  pub written : ys ≡ cond (is_ok r) (slice_set xs before x) xs
