-- Reading a pair: its halves one after the other.
-- Lemmas, not words: an impl gives the proof of its law itself, and can name its crate's specs/ but not its proofs/.
use Rattle.std.specs.Prelude.{◌≡◌, ℕ, ◌+◌, ◌-◌, ◌≤◌, List, length, drop, Ok, Err}
use Rattle.std.proofs.Common.{sym, ap, ◌∙◌, arith, length-drop}
use Rattle.kinds.specs.declared.file_kind.TestFault.{TestFault}
use Rattle.kinds.specs.Readings.{Reading, Uses, UsesNoMoreThanThereAre, after_first, both_halves, read_pair}

second_uses : {S R : Type 0} (s : S) (n m : ℕ) (r : Reading R) → n ≤ m → Uses r (m - n) → Uses (after_first s n r) m
second_uses s n m (Ok x) h k = omega arith
second_uses s n m (Err e) h k = tt

both_use : {S R : Type 0} (bs : List ℕ) (r : Reading S) (g : List ℕ → Reading R) → UsesNoMoreThanThereAre g → Uses r (length bs) → Uses (both_halves r (λ n. g (drop n bs))) (length bs)
both_use bs (Ok x) g w h = second_uses x.0 x.1 (length bs) (g (drop x.1 bs)) h (let k = w (drop x.1 bs) in rw length-drop at k)
both_use bs (Err e) g w h = tt

pub pair_uses : {S R : Type 0} (f : List ℕ → Reading S) (g : List ℕ → Reading R) → UsesNoMoreThanThereAre f → UsesNoMoreThanThereAre g → UsesNoMoreThanThereAre (read_pair f g)
pair_uses f g p q bs = both_use bs (f bs) g q (p bs)

-- both halves are read
pub pair_ok : {S R : Type 0} (f : List ℕ → Reading S) (g : List ℕ → Reading R) (bs rest : List ℕ) (x : S × ℕ) (y : R × ℕ)
    → Ok x ≡ f bs → rest ≡ drop x.1 bs → Ok y ≡ g rest → Ok ((x.0, y.0), x.1 + y.1) ≡ read_pair f g bs
pair_ok f g bs rest x y p q r = simp (sym p, sym (r ∙ ap g q))

-- the second half is refused
pub pair_err : {S R : Type 0} (f : List ℕ → Reading S) (g : List ℕ → Reading R) (bs rest : List ℕ) (x : S × ℕ) (e : TestFault)
    → Ok x ≡ f bs → rest ≡ drop x.1 bs → Err e ≡ g rest → Err e ≡ read_pair f g bs
pair_err f g bs rest x e p q r = simp (sym p, sym (r ∙ ap g q))
