-- KINDS: what an attribute kind means, and the law that it keeps.
--     Meaning V S                  which values V and which tests S are lawful, and which values are meant to meet which tests
--     meets m v s                  the value v meets the test s: both are lawful, and it is meant to
--     Implied m s t                the test s implies the test t: both are lawful, and every lawful value that meets s meets t
--     EveryLawfulTestIsMet m       every lawful test is met by some lawful value
use Rattle.std.specs.Prelude.{◌≡◌, Bool, true, ◌&&◌}

pub record Meaning (V S : Type 0) : Type 0 where
  pub lawful_value : V → Bool
  pub lawful_test : S → Bool
  pub meant : V → S → Bool

abbrev pub meets : {V S : Type 0} → Meaning V S → V → S → Bool
meets m v s = m.lawful_value v && (m.lawful_test s && m.meant v s)

pub record Implied {V S : Type 0} (m : Meaning V S) (s t : S) : Type 0 where
  pub first_lawful : m.lawful_test s ≡ true
  pub second_lawful : m.lawful_test t ≡ true
  pub follows : (v : V) → m.lawful_value v ≡ true → m.meant v s ≡ true → m.meant v t ≡ true

abbrev pub EveryLawfulTestIsMet : {V S : Type 0} → Meaning V S → Type 0
EveryLawfulTestIsMet {V} {S} m =
    (t : S) → m.lawful_test t ≡ true → (v : V) × (m.lawful_value v ≡ true) × (m.meant v t ≡ true)
