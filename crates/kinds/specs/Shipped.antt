-- SHIPPED KINDS: what each of them means.
--     level           values and tests are 0 to 65,535; a value meets the tests up to itself
--     certificates    values and tests are sets of certificates; a value meets the tests that it contains
--     site            values are sites 0 to 63, tests are sets of sites that are not empty; a value meets the tests that it is in
--     pair m n        values and tests are pairs; lawful and meant hold where they hold in both halves
use Rattle.std.specs.Prelude.{ℕ, true, not, ◌&&◌, nat_le, nat_lt}
use Rattle.sets.specs.declared.set.Set.{Set}
use Rattle.sets.specs.Members.{member, empty, subset}
use Rattle.kinds.specs.Kinds.{Meaning}

abbrev pub level : Meaning ℕ ℕ
level = record { lawful_value = λ v. nat_lt v 65536; lawful_test = λ n. nat_lt n 65536; meant = λ v n. nat_le n v }

abbrev pub certificates : Meaning Set Set
certificates = record { lawful_value = λ _. true; lawful_test = λ _. true; meant = λ v t. subset t v }

abbrev pub site : Meaning ℕ Set
site = record { lawful_value = λ v. nat_lt v 64; lawful_test = λ t. not (empty t); meant = λ v t. member t v }

abbrev pub pair : {V S W R : Type 0} → Meaning V S → Meaning W R → Meaning (V × W) (S × R)
pair m n = record {
  lawful_value = λ v. m.lawful_value v.0 && n.lawful_value v.1;
  lawful_test = λ t. m.lawful_test t.0 && n.lawful_test t.1;
  meant = λ v t. m.meant v.0 t.0 && n.meant v.1 t.1;
}
