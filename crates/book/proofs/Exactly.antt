-- One answer for the bytes: a record is what stands at their front, and nothing else.
use Rattle.std.proofs.Common.{◌≡◌, ℕ, ◌+◌, ◌≤◌, Bool, true, false, ◌⊎◌, List, [], ◌∷◌, ◌++◌, length, take, drop, Ok, Err, Result, sym, refl, ap, ◌∙◌, subst, inl, inr, ⊎_elim, zero-add, arith, length-append}
use native.Mathlib.Bridge.{le_prop}
use Rattle.std.proofs.lemmas.List.{get_or_append_left, get_or-drop, drop-append-le, take_at, append_assoc, append-nil, append_cancel_left}
use Rattle.std.proofs.lemmas.Bool.{both_ways}
use Rattle.std.specs.List.{flat_map}
use Rattle.book.specs.declared.faults.FrameFault.TheVariants.{RecordCut, BodyCut}
use Rattle.book.specs.declared.faults.RecordFault.{RecordFault}
use Rattle.book.specs.declared.faults.BookFault.{BookFault}
use Rattle.book.specs.declared.faults.BookFault.TheVariants.{HeaderMisplaced, HeaderUnknown, Full, Trailing}
use Rattle.book.specs.declared.faults.FileFault.{FileFault}
use Rattle.book.specs.declared.faults.Fault.{Fault}
use Rattle.book.specs.declared.faults.Fault.TheVariants.{Frame, Record, Rulebook}
use Rattle.rules.specs.declared.rule.Rule.{Rule}
use Rattle.rules.specs.declared.shipped.Shipped.{Shipped}
use Rattle.rules.specs.declared.shipped.Shipped.TheVariants.{Permission, Denial, LocalDenial}
use Rattle.rules.specs.Verdicts.{code}
use Rattle.rules.specs.declared.entry.Entry.{Entry}
use Rattle.book.specs.declared.contents.Content.{Content}
use Rattle.book.specs.declared.opened.Opened.{Opened}
use Rattle.book.specs.declared.count.Count.{Count}
use Rattle.book.specs.declared.count.TheConstants.{MOST_RULES, MOST_ENTRIES}
use Rattle.sets.specs.Bytes.{little}
use Rattle.book.specs.Frames.{cut}
use Rattle.kinds.specs.Readings.{Reading}
use Rattle.book.specs.Progress.{Progress, nothing_yet, by_book, by_content, by_cut, verdict}
use Rattle.book.specs.Files.{Spells, Says, Exact}
use Rattle.book.proofs.Runs.{Takes, Makes, Stops, Rejects, Counts, Run, same_some}
use Rattle.book.proofs.Untold.{untold}
use Rattle.book.proofs.FrameLaws.{cut_short, cut_long, cut_is}

-- two answers that count the same book are one
one_count : {n : ℕ} (a b : Count n) → a.count ≡ b.count → a ≡ b
one_count {n} a b e =
    let P : ℕ → Type 0 = λ k. (h : k ≤ n) → ◌≡◌ {A = Count n} a (record { count = k; within = h }) in
    subst P e (λ h. ap (λ z. record { count = a.count; within = z }) (le_prop a.within h)) b.within

-- no two policies have one code
one_code : (p q : Shipped) → code p ≡ code q → p ≡ q
one_code Permission Permission e = refl
one_code Permission Denial e = absurd (let y : ⊥ = omega (arith, e) in y)
one_code Permission LocalDenial e = absurd (let y : ⊥ = omega (arith, e) in y)
one_code Denial Permission e = absurd (let y : ⊥ = omega (arith, e) in y)
one_code Denial Denial e = refl
one_code Denial LocalDenial e = absurd (let y : ⊥ = omega (arith, e) in y)
one_code LocalDenial Permission e = absurd (let y : ⊥ = omega (arith, e) in y)
one_code LocalDenial Denial e = absurd (let y : ⊥ = omega (arith, e) in y)
one_code LocalDenial LocalDenial e = refl

same_opened : {S : Type 0} (b : Progress S) (o k : Opened) → Counts o b → Counts k b → o ≡ k
same_opened b o k x y =
    let rules : o.book.rules ≡ k.book.rules = one_count o.book.rules k.book.rules (x.rules_are ∙ sym y.rules_are) in
    let entries : o.book.entries ≡ k.book.entries = one_count o.book.entries k.book.entries (x.entries_are ∙ sym y.entries_are) in
    let policy : o.policy ≡ k.policy = one_code o.policy k.policy (same_some (x.policy_is ∙ sym y.policy_is)) in
    ap (λ (s : Count MOST_RULES). record { book = record { rules = s; entries = o.book.entries }; policy = o.policy }) rules
    ∙ ap (λ (s : Count MOST_ENTRIES). record { book = record { rules = k.book.rules; entries = s }; policy = o.policy }) entries
    ∙ ap (λ p. record { book = k.book; policy = p }) policy

abbrev whole : List (List ℕ) → List ℕ
whole xss = flat_map (λ xs. xs) xss

-- the front of the bytes is read whatever follows
word_front : (xs more : List ℕ) → 4 ≤ length xs → little 2 (xs ++ more) ≡ little 2 xs
word_front xs more h =
    let a = get_or_append_left xs more 0 0 (omega arith) in
    let b = get_or_append_left xs more 0 1 (omega arith) in
    omega arith

kind_front : (xs more : List ℕ) → 4 ≤ length xs → little 2 (drop 2 (xs ++ more)) ≡ little 2 (drop 2 xs)
kind_front xs more h =
    let a = get_or_append_left xs more 0 2 (omega arith) in
    let b = get_or_append_left xs more 0 3 (omega arith) in
    let c = get_or-drop 2 (xs ++ more) 0 0 in
    let d = get_or-drop 2 (xs ++ more) 1 0 in
    let e = get_or-drop 2 xs 0 0 in
    let f = get_or-drop 2 xs 1 0 in
    omega arith

spelled_cut : (p : ℕ) (xs more : List ℕ) (kind : ℕ) (body : List ℕ) → Spells xs kind body → Ok (record { place = p; kind = kind; body = body }) ≡ cut p (xs ++ more)
spelled_cut p xs more kind body s =
    let l = s.long in
    let h : 4 ≤ length xs = omega arith in
    let w : little 2 (xs ++ more) ≡ length body = word_front xs more h ∙ s.size in
    let n = length-append xs more in
    let b : body ≡ take (little 2 (xs ++ more)) (drop 4 (xs ++ more)) =
    sym (ap (take (little 2 (xs ++ more))) (drop-append-le 4 xs more h ∙ ap (λ t. t ++ more) s.rest) ∙ take_at body more (little 2 (xs ++ more)) (sym w)) in
    cut_is p kind body (xs ++ more) (omega arith) (omega arith) (sym (kind_front xs more h ∙ s.sort)) b

module _ {S : Type 0} (reads : List ℕ → Reading S) (lawful : S → Bool) (m n : ℕ) where
  say_verdict : (b : Progress S) (p : ℕ) (xs more : List ℕ) (x : Result (Content S) RecordFault) → Says reads lawful m n xs x → verdict reads lawful m n b p (xs ++ more) ≡ by_content reads lawful m n b p x
  say_verdict b p xs more x s = ap (by_cut reads lawful m n b) (sym (spelled_cut p xs more s.kind s.body s.spells)) ∙ ap (by_content reads lawful m n b p) s.content_is

  take_verdict : (b d : Progress S) (p : ℕ) (xs more : List ℕ) → Takes reads lawful m n b xs d → verdict reads lawful m n b p (xs ++ more) ≡ Ok d
  take_verdict b d p xs more t = say_verdict b p xs more (Ok t.item) t.says ∙ ap (by_book reads lawful m n b p) t.taken

  -- how long a record is, by the bytes
  take_long : (b d : Progress S) (xs more : List ℕ) → Takes reads lawful m n b xs d → length xs ≡ 4 + little 2 (xs ++ more)
  take_long b d xs more t =
      let s = t.says.spells in
      let l = s.long in
      let k = s.size in
      let w = word_front xs more (omega arith) in
      omega arith

  reject_verdict : (b : Progress S) (p : ℕ) (bs : List ℕ) (e : BookFault) → Rejects reads lawful m n b bs e → verdict reads lawful m n b p bs ≡ Err (record { place = p; fault = Rulebook e })
  reject_verdict b p bs e r = ap (verdict reads lawful m n b p) r.front ∙ (say_verdict b p r.xs r.more (Ok r.item) r.says ∙ ap (by_book reads lawful m n b p) r.refused)

  abbrev Decided : Progress S → ℕ → List ℕ → Fault → Type 0
  Decided b p bs l = ((b.ended ≡ false) × (verdict reads lawful m n b p bs ≡ Err (record { place = p; fault = l }))) ⊎ ((b.ended ≡ true) × (l ≡ Rulebook Trailing))

  fault_verdict : (b : Progress S) (p : ℕ) (bs : List ℕ) (l : Fault) → Stops reads lawful m n b bs l → Decided b p bs l
  fault_verdict b p bs (Frame RecordCut) h = inl (h.0, ap (by_cut reads lawful m n b) (cut_short p bs h.1))
  fault_verdict b p bs (Frame BodyCut) h = inl (h.0, ap (by_cut reads lawful m n b) (cut_long p bs h.1.0 h.1.1))
  fault_verdict b p bs (Record e) h = inl (h.0, ap (verdict reads lawful m n b p) h.1.front ∙ say_verdict b p h.1.xs h.1.more (Err e) h.1.says)
  fault_verdict b p bs (Rulebook HeaderMisplaced) h = inl (h.0, reject_verdict b p bs HeaderMisplaced h.1)
  fault_verdict b p bs (Rulebook HeaderUnknown) h = inl (h.0, reject_verdict b p bs HeaderUnknown h.1)
  fault_verdict b p bs (Rulebook Full) h = inl (h.0, reject_verdict b p bs Full h.1)
  fault_verdict b p bs (Rulebook Trailing) h = inr (h.0, refl)

  -- how a reading ends, at the book b, with the bytes rest unread from the place p
  abbrev Ends : Progress S → ℕ → List ℕ → Result Opened FileFault → Type 0
  Ends b p rest (Ok o) = (rest ≡ []) × ((b.ended ≡ true) × Counts o b)
  Ends b p rest (Err f) = (f.place ≡ p) × Stops reads lawful m n b rest f.fault

  not_empty : (b : Progress S) (l : Fault) → b.ended ≡ true → Stops reads lawful m n b [] l → ⊥
  not_empty b (Frame RecordCut) e h = both_ways _ h.0 e
  not_empty b (Frame BodyCut) e h = both_ways _ h.0 e
  not_empty b (Record x) e h = both_ways _ h.0 e
  not_empty b (Rulebook HeaderMisplaced) e h = both_ways _ h.0 e
  not_empty b (Rulebook HeaderUnknown) e h = both_ways _ h.0 e
  not_empty b (Rulebook Full) e h = both_ways _ h.0 e
  not_empty b (Rulebook Trailing) e h = let k = h.1 in omega arith

  same_ok : (c d : Progress S) → ◌≡◌ {A = Result (Progress S) FileFault} (Ok c) (Ok d) → c ≡ d
  same_ok c d e = cc

  same_err : (f g : FileFault) → ◌≡◌ {A = Result (Progress S) FileFault} (Err f) (Err g) → f ≡ g
  same_err f g e = cc

  same_layer : (b : Progress S) (p : ℕ) (bs : List ℕ) (k l : Fault) → Decided b p bs k → Decided b p bs l → k ≡ l
  same_layer b p bs k l x y =
      ⊎_elim
      (λ a. ⊎_elim (λ c. let z : record { place = p; fault = k } ≡ record { place = p; fault = l } = same_err _ _ (sym a.1 ∙ c.1) in ap (λ f. f.fault) z) (λ c. absurd (both_ways _ a.0 c.0)) y)
      (λ a. ⊎_elim (λ c. absurd (both_ways _ c.0 a.0)) (λ c. a.1 ∙ sym c.1) y) x

  ends_same : (b : Progress S) (p : ℕ) (bs : List ℕ) (r q : Result Opened FileFault) → Ends b p bs r → Ends b p bs q → r ≡ q
  ends_same b p bs (Ok o) (Ok k) x y = ap (λ z. Ok z) (same_opened b o k x.1.1 y.1.1)
  ends_same b p bs (Ok o) (Err f) x y = absurd (not_empty b f.fault x.1.0 (subst (λ (z : List ℕ). Stops reads lawful m n b z f.fault) x.0 y.1))
  ends_same b p bs (Err f) (Ok o) x y = absurd (not_empty b f.fault y.1.0 (subst (λ (z : List ℕ). Stops reads lawful m n b z f.fault) y.0 x.1))
  ends_same b p bs (Err f) (Err g) x y =
      let l : f.fault ≡ g.fault = same_layer b p bs f.fault g.fault (fault_verdict b p bs f.fault x.1) (fault_verdict b p bs g.fault y.1) in
      let k : f.place ≡ g.place = x.0 ∙ sym y.0 in
      let z : record { place = f.place; fault = f.fault } ≡ record { place = g.place; fault = g.fault } = cc in
      ap (λ w. Err w) z

  -- a book that takes a record does not end before it
  goes_on : (b d : Progress S) (p : ℕ) (xs more : List ℕ) (q : Result Opened FileFault) → Takes reads lawful m n b xs d → Ends b p (xs ++ more) q → ⊥
  goes_on b d p xs more (Ok o) t y = both_ways _ t.going y.1.0
  goes_on b d p xs more (Err f) t y =
      ⊎_elim
      (λ a. let u = a.1 in let v = take_verdict b d p xs more t in let z : ◌≡◌ {A = ℕ} 0 1 = cc in omega arith)
      (λ a. both_ways _ t.going a.0) (fault_verdict b p (xs ++ more) f.fault y.1)

  same_end : (xss yss : List (List ℕ)) (b c d : Progress S) (p : ℕ) (rest more : List ℕ) (r q : Result Opened FileFault)
      → whole xss ++ rest ≡ whole yss ++ more → Makes reads lawful m n b xss c → Makes reads lawful m n b yss d
      → Ends c (p + length (whole xss)) rest r → Ends d (p + length (whole yss)) more q → (r ≡ q) × (c ≡ d)
  same_end [] [] b c d p rest more r q e x y h k =
      let cd : c ≡ d = sym x ∙ y in
      (ends_same c (p + 0) rest r q h (subst (λ (z : Progress S). Ends z (p + 0) rest q) (sym cd) (subst (λ (z : List ℕ). Ends d (p + 0) z q) (sym e) k)), cd)
  same_end [] (ys ∷ yss) b c d p rest more r q e x y h k =
      absurd (goes_on b y.0 (p + 0) ys (whole yss ++ more) r y.1 (subst (λ (z : Progress S). Ends z (p + 0) (ys ++ (whole yss ++ more)) r) (sym x) (subst (λ (z : List ℕ). Ends c (p + 0) z r) (e ∙ append_assoc ys (whole yss) more) h)))
  same_end (xs ∷ xss) [] b c d p rest more r q e x y h k =
      absurd (goes_on b x.0 (p + 0) xs (whole xss ++ rest) q x.1 (subst (λ (z : Progress S). Ends z (p + 0) (xs ++ (whole xss ++ rest)) q) (sym y) (subst (λ (z : List ℕ). Ends d (p + 0) z q) (sym e ∙ append_assoc xs (whole xss) rest) k)))
  same_end (xs ∷ xss) (ys ∷ yss) b c d p rest more r q e x y h k =
      let f : xs ++ (whole xss ++ rest) ≡ ys ++ (whole yss ++ more) = sym (append_assoc xs (whole xss) rest) ∙ (e ∙ append_assoc ys (whole yss) more) in
      let v : x.0 ≡ y.0 = same_ok x.0 y.0 (sym (take_verdict b x.0 p xs (whole xss ++ rest) x.1) ∙ (ap (verdict reads lawful m n b p) f ∙ take_verdict b y.0 p ys (whole yss ++ more) y.1)) in
      let l : length xs ≡ length ys = take_long b x.0 xs (whole xss ++ rest) x.1 ∙ (ap (λ z. 4 + little 2 z) f ∙ sym (take_long b y.0 ys (whole yss ++ more) y.1)) in
      let g : xs ≡ ys = sym (take_at xs (whole xss ++ rest) (length xs) refl) ∙ (ap (take (length xs)) f ∙ take_at ys (whole yss ++ more) (length xs) (sym l)) in
      let j : whole xss ++ rest ≡ whole yss ++ more = append_cancel_left xs _ _ (f ∙ ap (λ z. z ++ (whole yss ++ more)) (sym g)) in
      let a : p + length (xs ++ whole xss) ≡ (p + length xs) + length (whole xss) = simp length-append (omega arith) in
      let o : p + length (ys ++ whole yss) ≡ (p + length xs) + length (whole yss) = simp length-append (omega arith) in
      same_end xss yss x.0 c d (p + length xs) rest more r q j x.2 (subst (λ (z : Progress S). Makes reads lawful m n z yss d) (sym v) y.2)
      (subst (λ (z : ℕ). Ends c z rest r) a h) (subst (λ (z : ℕ). Ends d z more q) o k)

  -- a run, taken apart
  record Parts (bytes : List ℕ) (b : Progress S) (r : Result Opened FileFault) : Type 0 where
    records : List (List ℕ)
    rest : List ℕ
    all : bytes ≡ whole records ++ rest
    makes : Makes reads lawful m n nothing_yet records b
    ends : Ends b (0 + length (whole records)) rest r

module _ {S : Type 0} (reads : List ℕ → Reading S) (lawful : S → Bool) (bytes : List ℕ) (rs : List (Rule S)) (es : List Entry) where
  parts : (rs' : List (Rule S)) (es' : List Entry) (r : Result Opened FileFault) (o : Run reads lawful bytes rs es rs' es' r) → Parts reads lawful (length rs) (length es) bytes o.book r
  parts rs' es' (Ok k) o = record { records = o.came.0.records; rest = []; all = o.came.0.whole ∙ sym (append-nil _); makes = o.came.0.makes; ends = (refl, (o.came.0.ended, o.came.1)) }
  parts rs' es' (Err f) o = record { records = o.came.records; rest = o.came.rest; all = o.came.whole; makes = o.came.makes; ends = (o.came.place ∙ sym (zero-add _), o.came.faulty) }

pub exact : {S : Type 0} (reads : List ℕ → Reading S) (lawful : S → Bool) → Exact reads lawful
exact reads lawful bytes rs rs' rs'' es es' es'' r q one other =
    let x = untold reads lawful bytes rs es rs' es' r one in
    let y = untold reads lawful bytes rs es rs'' es'' q other in
    let a = parts reads lawful bytes rs es rs' es' r x in
    let b = parts reads lawful bytes rs es rs'' es'' q y in
    let z = same_end reads lawful (length rs) (length es) a.records b.records nothing_yet x.book y.book 0 a.rest b.rest r q (sym a.all ∙ b.all) a.makes b.makes a.ends b.ends in
    (z.0, x.rules ∙ (ap (λ c. c.rules ++ drop (length c.rules) rs) z.1 ∙ sym y.rules), x.entries ∙ (ap (λ c. c.entries ++ drop (length c.entries) es) z.1 ∙ sym y.entries))
