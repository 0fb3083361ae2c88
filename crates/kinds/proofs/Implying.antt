-- Tests that tell whether one test of a shipped kind implies another.
use Rattle.std.proofs.Common.{ℕ, Bool, not, ◌&&◌, ltb, leb, Decides, sym, ap, ◌∙◌, ⊎_elim, arith}
use Rattle.std.proofs.lemmas.Bool.{and_parts, and_from, and_left, cases_Bool, both_ways, not_from_true, not_from_false, le-leb}
use Rattle.std.proofs.lemmas.Bool.Decides.{Decides-at, nat_tests}
use Rattle.sets.specs.declared.set.Set.{Set}
use Rattle.sets.specs.Members.{empty, subset}
use Rattle.kinds.specs.Kinds.{Meaning, Implied, EveryLawfulTestIsMet}
use Rattle.kinds.specs.Shipped.{level, site, pair}
use Rattle.kinds.specs.KindLaws.{site_implied, pair_implied, pair_not_implied}

pub level_met : EveryLawfulTestIsMet level
level_met t e = (t, e, le-leb t t (omega arith))

pub level_told : (s t : ℕ) → Decides (ltb s 65536 && leb t s) (Implied level s t)
level_told s t = (
  (λ e.
      let p = and_parts (ltb s 65536) (leb t s) e in
      record { first_lawful = p.0; second_lawful = grind (arith, nat_tests); follows = λ v _ met. grind (arith, nat_tests) }),
  (λ h. and_from (ltb s 65536) (leb t s) h.first_lawful (h.follows s h.first_lawful (le-leb s s (omega arith)))),
)

pub site_told : (s t : Set) → Decides (not (empty s) && subset s t) (Implied site s t)
site_told s t =
    ⊎_elim
    (λ none. (
      (λ e. absurd (both_ways (not (empty s)) (not_from_true (empty s) none) (and_parts (not (empty s)) (subset s t) e).0)),
      (λ h. absurd (both_ways (not (empty s)) (not_from_true (empty s) none) h.first_lawful)),
    ))
    (λ some. site_implied s t (not (empty s) && subset s t) some (ap (λ b. b && subset s t) (not_from_false (empty s) some)))
    (cases_Bool (empty s))

pub pair_told : {V S W R : Type 0} (m : Meaning V S) (n : Meaning W R) → EveryLawfulTestIsMet m → EveryLawfulTestIsMet n → (s t : S × R) (x y : Bool) → Decides x (Implied m s.0 t.0) → Decides y (Implied n s.1 t.1) → Decides (x && y) (Implied (pair m n) s t)
pair_told m n hm hn s t x y dx dy =
    ⊎_elim
    (λ e. Decides-at (x && y) y (ap (λ b. b && y) e) (pair_implied m n hm hn s t x y e dx dy))
    (λ e.
    let d = pair_not_implied m n hn s t x e dx in
    Decides-at (x && y) x (and_left x y e ∙ sym e) d)
    (cases_Bool x)
