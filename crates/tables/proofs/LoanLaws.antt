-- What stands at a place of the loans, and what a sweep over them keeps.
use Rattle.std.proofs.Common.{◌≡◌, ℕ, ◌+◌, ◌<◌, ◌≤◌, List, [], ◌∷◌, ◌++◌, length, get_or, take, drop, set, Some, sym, refl, ap, ◌∙◌, subst, arith, length-set}
use Rattle.std.specs.List.{slice_get}
use Rattle.std.proofs.lemmas.List.{take_more, take_more_set, drop-set-lt, drop-drop, get_or-drop}
use Rattle.std.proofs.lemmas.Option.{slice_get-get_or}
use Rattle.tables.specs.Loans.{Filtered}
use Rattle.tables.specs.Loans.Filtered.{none, kept, left}

-- an element that is read from a list that is another one
pub read_at : {X : Type 0} (xs ys : List X) (i : ℕ) (d : X) → xs ≡ ys → i < length xs → slice_get ys i ≡ Some (get_or xs i d)
read_at xs ys i d e lt = ap (λ zs. slice_get zs i) (sym e) ∙ slice_get-get_or xs i d lt

-- one more at the end, kept or left
pub filtered_kept : {X : Type 0} {P : X → Type 0} {xs ys : List X} (x : X) → Filtered P xs ys → P x → Filtered P (xs ++ x ∷ []) (ys ++ x ∷ [])
filtered_kept x none p = kept p none
filtered_kept x (kept q f) p = kept q (filtered_kept x f p)
filtered_kept x (left q f) p = left q (filtered_kept x f p)

pub filtered_left : {X : Type 0} {P : X → Type 0} {xs ys : List X} (x : X) → Filtered P xs ys → (P x → ⊥) → Filtered P (xs ++ x ∷ []) ys
filtered_left x none p = left p none
filtered_left x (kept q f) p = kept q (filtered_left x f p)
filtered_left x (left q f) p = left q (filtered_left x f p)

-- two sweeps one after the other
pub filtered_twice : {X : Type 0} (P Q : X → Type 0) {xs ys zs : List X} → Filtered P xs ys → Filtered Q ys zs → Filtered (λ x. P x × Q x) xs zs
filtered_twice P Q none none = none
filtered_twice P Q (kept p f) (kept q h) = kept (p, q) (filtered_twice P Q f h)
filtered_twice P Q (kept p f) (left q h) = left (λ w. q w.1) (filtered_twice P Q f h)
filtered_twice P Q (left p f) h = left (λ w. p w.0) (filtered_twice P Q f h)

-- the same sweep, of which the test is said otherwise
pub filtered_like : {X : Type 0} (P Q : X → Type 0) → ((x : X) → P x → Q x) → ((x : X) → Q x → P x) → {xs ys : List X} → Filtered P xs ys → Filtered Q xs ys
filtered_like P Q there back none = none
filtered_like P Q there back (kept p f) = kept (there _ p) (filtered_like P Q there back f)
filtered_like P Q there back (left p f) = left (λ q. p (back _ q)) (filtered_like P Q there back f)

-- a sweep in place: of the first i of the loans before it, those of which P holds stand in the first k places, and what
-- comes after i is as it was
pub record Swept {X : Type 0} (P : X → Type 0) (start xs : List X) (i k : ℕ) : Type 0 where
  pub within : k ≤ i
  pub long : length xs ≡ length start
  pub front : Filtered P (take i start) (take k xs)
  pub rest : drop i xs ≡ drop i start

pub swept_none : {X : Type 0} (P : X → Type 0) (xs : List X) → Swept P xs xs 0 0
swept_none P xs = record { within = omega arith; long = refl; front = none; rest = refl }

module _ {X : Type 0} (P : X → Type 0) (start xs : List X) (i k : ℕ) (d : X) (lt : i < length start) (sw : Swept P start xs i k) where
  -- the loan at i is still the one that stood there before
  still : get_or xs i d ≡ get_or start i d
  still =
      let z : i + 0 ≡ i = omega arith in
      ap (λ n. get_or xs n d) (sym z) ∙ sym (get_or-drop i xs 0 d) ∙ ap (λ ys. get_or ys 0 d) sw.rest ∙ get_or-drop i start 0 d ∙ ap (λ n. get_or start n d) z

  later : drop (i + 1) xs ≡ drop (i + 1) start
  later = sym (drop-drop 1 i xs) ∙ ap (drop 1) sw.rest ∙ drop-drop 1 i start

  swept_kept : P (get_or start i d) → Swept P start (set xs k (get_or start i d)) (i + 1) (k + 1)
  swept_kept p =
      let w = sw.within in
      let l = sw.long in
      let small : k < length xs = omega arith in
      let kl : k < i + 1 = omega arith in
      record {
        within = omega arith;
        long = length-set xs k (get_or start i d) ∙ l;
        front = subst (λ ys. Filtered P ys (take (k + 1) (set xs k (get_or start i d)))) (sym (take_more start i d lt))
            (subst (λ ys. Filtered P (take i start ++ get_or start i d ∷ []) ys) (sym (take_more_set xs k (get_or start i d) small)) (filtered_kept (get_or start i d) sw.front p));
        rest = drop-set-lt (i + 1) xs k (get_or start i d) kl ∙ later;
      }

  swept_left : (P (get_or start i d) → ⊥) → Swept P start xs (i + 1) k
  swept_left p =
      let w = sw.within in
      record {
        within = omega arith;
        long = sw.long;
        front = subst (λ ys. Filtered P ys (take k xs)) (sym (take_more start i d lt)) (filtered_left (get_or start i d) sw.front p);
        rest = later;
      }

  -- one turn of the loop, by what it reads and writes
  pub turn_kept : (ys : List X) (k' : ℕ) → ys ≡ set xs k (get_or xs i d) → k' ≡ k + 1 → P (get_or xs i d) → Swept P start ys (i + 1) k'
  turn_kept ys k' e f p =
      subst (λ n. Swept P start ys (i + 1) n) (sym f)
      (subst (λ zs. Swept P start zs (i + 1) (k + 1)) (sym (e ∙ ap (set xs k) still)) (swept_kept (subst P still p)))

  pub turn_left : (ys : List X) (k' : ℕ) → ys ≡ xs → k' ≡ k → (P (get_or xs i d) → ⊥) → Swept P start ys (i + 1) k'
  turn_left ys k' e f none' =
      subst (λ n. Swept P start ys (i + 1) n) (sym f)
      (subst (λ zs. Swept P start zs (i + 1) k) (sym e) (swept_left (λ q. none' (subst P (sym still) q))))
