-- One record: from what the calls answer to the verdict.
use Rattle.std.proofs.Common.{◌≡◌, ℕ, Bool, List, length, Ok, Err, Result, sym, refl, ap, ◌∙◌, arith}
use Rattle.book.specs.declared.faults.At.{At}
use Rattle.book.specs.declared.faults.BookFault.{BookFault}
use Rattle.book.specs.declared.faults.FileFault.{FileFault}
use Rattle.book.specs.declared.faults.Fault.{Fault}
use Rattle.book.specs.declared.faults.Fault.TheVariants.{Rulebook}
use Rattle.rules.specs.declared.rule.Rule.{Rule}
use Rattle.rules.specs.declared.entry.Entry.{Entry}
use Rattle.book.specs.declared.contents.Content.{Content}
use Rattle.book.specs.declared.reader.Reader.{Reader}
use Rattle.book.specs.declared.scan.Scan.{Scan}
use Rattle.book.specs.Frames.{Piece, cut, place_after}
use Rattle.kinds.specs.Readings.{Reading}
use Rattle.book.specs.Contents.{content}
use Rattle.book.specs.Progress.{Progress, accepts, by_book, by_content, by_cut, verdict, answer, after}
use Rattle.book.specs.Scans.{progress, Room, Rest}
use Rattle.book.specs.Steps.{placed_at, left, Stepped}

-- a fault of the file by its parts
pub fault_is : (y : FileFault) (p : ℕ) (f : Fault) → (y.place ≡ p) × (y.fault ≡ f) → y ≡ record { place = p; fault = f }
fault_is y p f e = ap (λ n. record { place = n; fault = y.fault }) e.0 ∙ ap (λ g. record { place = p; fault = g }) e.1

pub placed_ok : {X F : Type 0} (p : ℕ) (r : Result X F) (x : X) → Ok x ≡ placed_at p r → Ok x ≡ r
placed_ok p (Ok y) x e = cc
placed_ok p (Err f) x e = let z : ◌≡◌ {A = ℕ} 0 1 = cc in absurd (let y : ⊥ = omega arith in y)

module _ {S : Type 0} (reads : List ℕ → Reading S) (lawful : S → Bool) (m n : ℕ) (b : Progress S) (p : ℕ) where
  after_same : (x : Result (Progress S) BookFault) → after b (by_book reads lawful m n b p x) ≡ after b x
  after_same (Ok c) = refl
  after_same (Err e) = refl

  granted : (x : Result (Progress S) BookFault) (a : Result (Unit {0}) BookFault) (u : Unit {0}) → a ≡ answer x → Ok u ≡ placed_at p a → Ok tt ≡ answer (by_book reads lawful m n b p x)
  granted (Ok c) a u e h = refl
  granted (Err f) a u e h = let z : ◌≡◌ {A = ℕ} 0 1 = (let k = ap (placed_at p) e in cc) in absurd (let y : ⊥ = omega arith in y)

  denied : (x : Result (Progress S) BookFault) (a : Result (Unit {0}) BookFault) (f : At BookFault) → a ≡ answer x → Err f ≡ placed_at p a → Err (record { place = f.place; fault = Rulebook f.fault }) ≡ answer (by_book reads lawful m n b p x)
  denied (Ok c) a f e h = let z : ◌≡◌ {A = ℕ} 0 1 = (let k = ap (placed_at p) e in cc) in absurd (let y : ⊥ = omega arith in y)
  denied (Err g) a f e h = let k = ap (placed_at p) e in cc

module _ {S : Type 0} (reads : List ℕ → Reading S) (lawful : S → Bool) (d d' : Reader) (s s' : Scan) (rs rs' : List (Rule S)) (es es' : List Entry) (q : Piece) (i : Content S) (a : Result (Unit {0}) BookFault)
    (hc : Ok q ≡ cut d.place (left d)) (hi : Ok i ≡ content reads lawful q.kind q.body)
    (ha : a ≡ answer (accepts (length rs) (length es) (progress s rs es) i))
    (hb : progress s' rs' es' ≡ after (progress s rs es) (accepts (length rs) (length es) (progress s rs es) i))
    (room : Room s' rs' es') (rest : Rest s s' rs rs' es es') (hp : d'.place ≡ place_after d.place (cut d.place (left d))) (hs : d'.bytes.now ≡ d.bytes.now) where
  judged : verdict reads lawful (length rs) (length es) (progress s rs es) d.place (left d) ≡ by_book reads lawful (length rs) (length es) (progress s rs es) q.place (accepts (length rs) (length es) (progress s rs es) i)
  judged = ap (by_cut reads lawful (length rs) (length es) (progress s rs es)) (sym hc) ∙ ap (by_content reads lawful (length rs) (length es) (progress s rs es) q.place) (sym hi)

  stepped : (r : Result (Unit {0}) FileFault) → r ≡ answer (by_book reads lawful (length rs) (length es) (progress s rs es) q.place (accepts (length rs) (length es) (progress s rs es) i)) → Stepped reads lawful d d' s s' rs rs' es es' r
  stepped r h = record {
    answered = h ∙ ap answer (sym judged);
    book = hb ∙ (sym (after_same reads lawful (length rs) (length es) (progress s rs es) q.place (accepts (length rs) (length es) (progress s rs es) i)) ∙ ap (after (progress s rs es)) (sym judged));
    room = room;
    rest = rest;
    place = hp;
    bytes = hs;
  }

  pub step_granted : (u : Unit {0}) → Ok u ≡ placed_at q.place a → Stepped reads lawful d d' s s' rs rs' es es' (Ok tt)
  step_granted u h = stepped (Ok tt) (granted reads lawful (length rs) (length es) (progress s rs es) q.place (accepts (length rs) (length es) (progress s rs es) i) a u ha h)

  pub step_denied : (f : At BookFault) → Err f ≡ placed_at q.place a → Stepped reads lawful d d' s s' rs rs' es es' (Err (record { place = f.place; fault = Rulebook f.fault }))
  step_denied f h = stepped (Err _) (denied reads lawful (length rs) (length es) (progress s rs es) q.place (accepts (length rs) (length es) (progress s rs es) i) a f ha h)
