-- Why the shipped kinds keep the law, and why their answers to `implies` are the right ones.
-- Lemmas, not words: an impl gives the proof of its law itself, and can name its crate's specs/ but not its proofs/.
use Rattle.std.specs.Prelude.{◌≡◌, ℕ, Bool, true, false, not, ◌&&◌, Decides, nat_lt, refl}
use Rattle.std.proofs.Common.{sym, ◌∙◌, ⊎_elim}
use Rattle.std.proofs.lemmas.Bool.{and_from, and_parts, and_right, cases_Bool, both_ways, lt-ltb, not-true, not_from_false}
use Rattle.std.proofs.lemmas.Bool.Decides.{Decides-like}
use Rattle.sets.specs.declared.set.Set.{Set}
use Rattle.sets.specs.Members.{member, empty, subset}
use Rattle.sets.proofs.MemberLaws.{member_below, subset_decides, some_member, member-not-empty}
use Rattle.kinds.specs.Kinds.{Meaning, Implied, EveryLawfulTestIsMet}
use Rattle.kinds.specs.Shipped.{certificates, site, pair}

-- certificates
subset_self : (s : Set) → subset s s ≡ true
subset_self s = (subset_decides s s).1 (λ i m. m)

pub certificates_met : EveryLawfulTestIsMet certificates
certificates_met t e = (t, refl, subset_self t)

pub certificates_implied : (s t : Set) (r : Bool) → r ≡ subset t s → Decides r (Implied certificates s t)
certificates_implied s t r e = (
  (λ y. record {
    first_lawful = refl;
    second_lawful = refl;
    follows = λ v _ held. (subset_decides t v).1 (λ i m. (subset_decides s v).0 held i ((subset_decides t s).0 (sym e ∙ y) i m));
  }),
  (λ h. e ∙ h.follows s refl (subset_self s)),
)

-- sites
pub site_met : EveryLawfulTestIsMet site
site_met t e =
    let w = some_member t (not-true (empty t) e) in
    (w.0, lt-ltb w.0 64 (member_below t w.0 w.1), w.1)

pub site_meets : (v : ℕ) (t : Set) → member t v ≡ (nat_lt v 64 && (not (empty t) && member t v))
site_meets v t =
    ⊎_elim
    (λ m. m ∙ sym (and_from (nat_lt v 64) (not (empty t) && member t v) (lt-ltb v 64 (member_below t v m)) (and_from (not (empty t)) (member t v) (not_from_false (empty t) (member-not-empty t v m)) m)))
    (λ n. n ∙ sym (and_right (nat_lt v 64) (not (empty t) && member t v) (and_right (not (empty t)) (member t v) n)))
    (cases_Bool (member t v))

pub site_implied : (s t : Set) (r : Bool) → empty s ≡ false → r ≡ subset s t → Decides r (Implied site s t)
site_implied s t r some e = (
  (λ y.
      let all = (subset_decides s t).0 (sym e ∙ y) in
      let w = some_member s some in
      record {
        first_lawful = not_from_false (empty s) some;
        second_lawful = not_from_false (empty t) (member-not-empty t w.0 (all w.0 w.1));
        follows = λ v _ m. all v m;
      }),
  (λ h. e ∙ (subset_decides s t).1 (λ i m. h.follows i (lt-ltb i 64 (member_below s i m)) m)),
)

-- pairs, from the halves' own laws and answers
module _ {V S W R : Type 0} (m : Meaning V S) (n : Meaning W R) where
  pub pair_met : EveryLawfulTestIsMet m → EveryLawfulTestIsMet n → EveryLawfulTestIsMet (pair m n)
  pair_met hm hn t lawful =
      let p = and_parts (m.lawful_test t.0) (n.lawful_test t.1) lawful in
      let a = hm t.0 p.0 in
      let b = hn t.1 p.1 in
      ((a.0, b.0), and_from (m.lawful_value a.0) (n.lawful_value b.0) a.1 b.1, and_from (m.meant a.0 t.0) (n.meant b.0 t.1) a.2 b.2)

  both : (s t : S × R) → Implied m s.0 t.0 → Implied n s.1 t.1 → Implied (pair m n) s t
  both s t a b = record {
    first_lawful = and_from (m.lawful_test s.0) (n.lawful_test s.1) a.first_lawful b.first_lawful;
    second_lawful = and_from (m.lawful_test t.0) (n.lawful_test t.1) a.second_lawful b.second_lawful;
    follows = λ v lawful met.
        let p = and_parts (m.lawful_value v.0) (n.lawful_value v.1) lawful in
        let q = and_parts (m.meant v.0 s.0) (n.meant v.1 s.1) met in
        and_from (m.meant v.0 t.0) (n.meant v.1 t.1) (a.follows v.0 p.0 q.0) (b.follows v.1 p.1 q.1);
  }

  -- a value of the other half that meets its test completes a value of this one
  first_half : EveryLawfulTestIsMet n → (s t : S × R) → Implied (pair m n) s t → Implied m s.0 t.0
  first_half hn s t h =
      let l = and_parts (m.lawful_test s.0) (n.lawful_test s.1) h.first_lawful in
      let r = and_parts (m.lawful_test t.0) (n.lawful_test t.1) h.second_lawful in
      let w = hn s.1 l.1 in
      record {
        first_lawful = l.0;
        second_lawful = r.0;
        follows = λ v lawful met.
            (and_parts (m.meant v t.0) (n.meant w.0 t.1)
            (h.follows (v, w.0) (and_from (m.lawful_value v) (n.lawful_value w.0) lawful w.1) (and_from (m.meant v s.0) (n.meant w.0 s.1) met w.2))).0;
      }

  second_half : EveryLawfulTestIsMet m → (s t : S × R) → Implied (pair m n) s t → Implied n s.1 t.1
  second_half hm s t h =
      let l = and_parts (m.lawful_test s.0) (n.lawful_test s.1) h.first_lawful in
      let r = and_parts (m.lawful_test t.0) (n.lawful_test t.1) h.second_lawful in
      let w = hm s.0 l.0 in
      record {
        first_lawful = l.1;
        second_lawful = r.1;
        follows = λ v lawful met.
            (and_parts (m.meant w.0 t.0) (n.meant v t.1)
            (h.follows (w.0, v) (and_from (m.lawful_value w.0) (n.lawful_value v) w.1 lawful) (and_from (m.meant w.0 s.0) (n.meant v s.1) w.2 met))).1;
      }

  -- the second half is asked only where the first says yes
  pub pair_implied : EveryLawfulTestIsMet m → EveryLawfulTestIsMet n → (s t : S × R) (x y : Bool) → x ≡ true → Decides x (Implied m s.0 t.0) → Decides y (Implied n s.1 t.1) → Decides y (Implied (pair m n) s t)
  pair_implied hm hn s t x y e dx dy = Decides-like y (λ b. both s t (dx.0 e) b) (λ h. second_half hm s t h) dy

  pub pair_not_implied : EveryLawfulTestIsMet n → (s t : S × R) (x : Bool) → x ≡ false → Decides x (Implied m s.0 t.0) → Decides x (Implied (pair m n) s t)
  pair_not_implied hn s t x e dx = ((λ y. absurd (both_ways x e y)), (λ h. dx.1 (first_half hn s t h)))
