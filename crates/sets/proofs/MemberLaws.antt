-- Sets by their members.
use Rattle.std.proofs.Common.{◌≡◌, ℕ, ◌^◌, ◌<◌, ◌≤◌, Bool, true, false, not, ◌&&◌, eqb, Decides, MatchOption, Some, None, Option, sym, refl, ap, ◌∙◌, subst, ⊎_elim}
use native.Mathlib.Bridge.{le_prop}
use lib.Bits.{bit_and}
use Rattle.std.proofs.lemmas.Bool.{cases_lt, cases_Bool, both_ways, and_from, and_left, and_right, and_cases, and_parts, not_from_true, not_from_false, not-true, not-false, eqb-true, eq-eqb}
use Rattle.std.proofs.lemmas.Bool.Decides.{Decides-below_or, not_from_Decides}
use Rattle.sets.specs.declared.set.Set.{Set}
use Rattle.sets.specs.Members.{bit, member, some_below, some, empty, subset, disjoint, LowestFrom, EmptyFrom}
use Rattle.sets.proofs.BitLaws.{bit-zero, bit_past, bit-and, same_bits}

pub member_past : (s : Set) (i : ℕ) → 64 ≤ i → member s i ≡ false
unfolding member
member_past s i h = bit_past s.bits i s.small h

pub member_below : (s : Set) (i : ℕ) → member s i ≡ true → i < 64
member_below s i e = ⊎_elim (λ lt. lt) (λ ge. absurd (both_ways (member s i) (member_past s i ge) e)) (cases_lt i 64)

one_small : (a b : ℕ) (p : a < 2 ^ 64) (q : b < 2 ^ 64) → a ≡ b → ◌≡◌ {A = Set} (record { bits = a; small = p }) (record { bits = b; small = q })
one_small a b p q e =
    let P : ℕ → Type 0 = λ n. (h : n < 2 ^ 64) → ◌≡◌ {A = Set} (record { bits = a; small = p }) (record { bits = n; small = h }) in
    subst P e (λ h. ap (λ z. record { bits = a; small = z }) (le_prop p h)) q

-- two sets with the same members are one
pub same_members : (s t : Set) → ((i : ℕ) → member s i ≡ member t i) → s ≡ t
unfolding member
same_members s t e = one_small s.bits t.bits s.small t.small (same_bits s.bits t.bits e)

-- some number 0 to 63 passes
pub some_decides : (f : ℕ → Bool) → Decides (some f) ((i : ℕ) × (i < 64) × (f i ≡ true))
unfolding some some_below
some_decides f = Decides-below_or f (λ i. f i ≡ true) (λ n. some_below n f) (λ i. ((λ e. e), (λ e. e))) refl (λ _. refl) 64

pub none_passes : (f : ℕ → Bool) → some f ≡ false → (i : ℕ) → i < 64 → f i ≡ false
none_passes f e i lt = ⊎_elim (λ y. absurd (not_from_Decides (some f) (some_decides f) e (i, lt, y))) (λ n. n) (cases_Bool (f i))

pub none_some : (f : ℕ → Bool) → ((i : ℕ) → i < 64 → f i ≡ false) → some f ≡ false
none_some f none =
    ⊎_elim (λ y. let w = (some_decides f).0 y in absurd (both_ways (f w.0) (none w.0 w.1) w.2)) (λ n. n) (cases_Bool (some f))

pub empty_decides : (s : Set) → Decides (empty s) ((i : ℕ) → member s i ≡ false)
unfolding empty
empty_decides s = (
  (λ e i. ⊎_elim (λ lt. none_passes (member s) (not-true (some (member s)) e) i lt) (λ ge. member_past s i ge) (cases_lt i 64)),
  (λ h. not_from_false (some (member s)) (none_some (member s) (λ i _. h i))),
)

pub subset_decides : (s t : Set) → Decides (subset s t) ((i : ℕ) → member s i ≡ true → member t i ≡ true)
unfolding subset
subset_decides s t = (
  (λ e i m.
      let f : ℕ → Bool = λ k. member s k && not (member t k) in
      let none = none_passes f (not-true (some f) e) i (member_below s i m) in
      ⊎_elim (λ y. y) (λ n. absurd (both_ways (f i) none (and_from (member s i) (not (member t i)) m (not_from_false (member t i) n)))) (cases_Bool (member t i))),
  (λ h. not_from_false (some (λ k. member s k && not (member t k))) (none_some (λ k. member s k && not (member t k)) (λ i _.
      ⊎_elim (λ m. and_right (member s i) (not (member t i)) (not_from_true (member t i) (h i m))) (λ n. and_left (member s i) (not (member t i)) n) (cases_Bool (member s i))))),
)

pub disjoint_decides : (s t : Set) → Decides (disjoint s t) ((i : ℕ) → member s i ≡ true → member t i ≡ false)
unfolding disjoint
disjoint_decides s t = (
  (λ e i m.
      let f : ℕ → Bool = λ k. member s k && member t k in
      let none = none_passes f (not-true (some f) e) i (member_below s i m) in
      ⊎_elim (λ y. absurd (both_ways (f i) none (and_from (member s i) (member t i) m y))) (λ n. n) (cases_Bool (member t i))),
  (λ h. not_from_false (some (λ k. member s k && member t k)) (none_some (λ k. member s k && member t k) (λ i _.
      ⊎_elim (λ m. and_right (member s i) (member t i) (h i m)) (λ n. and_left (member s i) (member t i) n) (cases_Bool (member s i))))),
)

-- what the code's tests on numbers tell of members
pub zero_decides : (s : Set) → Decides (eqb s.bits 0) ((i : ℕ) → member s i ≡ false)
unfolding member
zero_decides s = (
  (λ e i. ap (λ n. bit n i) (eqb-true s.bits 0 e) ∙ bit-zero i),
  (λ h. eq-eqb s.bits 0 (same_bits s.bits 0 (λ i. h i ∙ sym (bit-zero i)))),
)

pub and_none_decides : (s t : Set) → Decides (eqb (bit_and s.bits t.bits) 0) ((i : ℕ) → member s i ≡ true → member t i ≡ false)
unfolding member
and_none_decides s t = (
  (λ e i m.
      let none : (bit s.bits i && bit t.bits i) ≡ false = sym (bit-and s.bits t.bits i) ∙ ap (λ n. bit n i) (eqb-true (bit_and s.bits t.bits) 0 e) ∙ bit-zero i in
      ⊎_elim (λ n. absurd (both_ways (bit s.bits i) n m)) (λ n. n) (and_cases (bit s.bits i) (bit t.bits i) none)),
  (λ h. eq-eqb (bit_and s.bits t.bits) 0 (same_bits (bit_and s.bits t.bits) 0 (λ i. bit-and s.bits t.bits i ∙
      ⊎_elim (λ m. and_right (bit s.bits i) (bit t.bits i) (h i m)) (λ n. and_left (bit s.bits i) (bit t.bits i) n) (cases_Bool (bit s.bits i)) ∙ sym (bit-zero i)))),
)

pub and_all_decides : (s t : Set) → Decides (eqb (bit_and s.bits t.bits) s.bits) ((i : ℕ) → member s i ≡ true → member t i ≡ true)
unfolding member
and_all_decides s t = (
  (λ e i m. (and_parts (bit s.bits i) (bit t.bits i) (sym (bit-and s.bits t.bits i) ∙ ap (λ n. bit n i) (eqb-true (bit_and s.bits t.bits) s.bits e) ∙ m)).1),
  (λ h. eq-eqb (bit_and s.bits t.bits) s.bits (same_bits (bit_and s.bits t.bits) s.bits (λ i. bit-and s.bits t.bits i ∙
      ⊎_elim (λ m. and_from (bit s.bits i) (bit t.bits i) m (h i m) ∙ sym m) (λ n. and_left (bit s.bits i) (bit t.bits i) n ∙ sym n) (cases_Bool (bit s.bits i))))),
)

-- what is not empty has a member
pub some_member : (s : Set) → empty s ≡ false → (i : ℕ) × (member s i ≡ true)
unfolding empty
some_member s e = let w = (some_decides (member s)).0 (not-false (some (member s)) e) in (w.0, w.2)

pub member-not-empty : (s : Set) (i : ℕ) → member s i ≡ true → empty s ≡ false
member-not-empty s i e =
    ⊎_elim (λ y. absurd (both_ways (member s i) ((empty_decides s).0 y i) e)) (λ n. n) (cases_Bool (empty s))

-- two sets that are not apart share a number
pub shared_member : (s t : Set) → (((i : ℕ) → member s i ≡ true → member t i ≡ false) → ⊥) → (i : ℕ) × (member s i ≡ true) × (member t i ≡ true)
shared_member s t not-apart =
    let both : ℕ → Bool = λ i. member s i && member t i in
    ⊎_elim
    (λ y. let w = (some_decides both).0 y in let p = and_parts (member s w.0) (member t w.0) w.2 in (w.0, p.0, p.1))
    (λ n. absurd (not-apart (λ i m.
    ⊎_elim (λ h. absurd (both_ways (both i) (none_passes both n i (member_below s i m)) (and_from (member s i) (member t i) m h))) (λ z. z) (cases_Bool (member t i)))))
    (cases_Bool (some both))

-- the first number to be a member, of those that a set can hold
pub lowest_from : (s : Set) (from : ℕ) (r : Option ℕ) → MatchOption r ((k : ℕ) → from ≤ k → k < 64 → member s k ≡ false) (λ i. (from ≤ i) × (i < 64) × (member s i ≡ true) × ((k : ℕ) → from ≤ k → k < i → member s k ≡ false)) → MatchOption r (EmptyFrom s from) (LowestFrom s from)
lowest_from s from None none = λ i ge. ⊎_elim (λ lt. none i ge lt) (λ past. member_past s i past) (cases_lt i 64)
lowest_from s from (Some i) first = record { held = first.2; reached = first.0; none_lower = first.3 }
