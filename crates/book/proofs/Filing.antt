-- The records of a file, one after the other.
use Rattle.std.proofs.Common.{◌≡◌, ℕ, ◌+◌, ◌-◌, ◌<◌, ◌≤◌, Bool, true, false, cond, List, [], ◌∷◌, ◌++◌, length, get_or, take, drop, Ok, Err, Result, sym, refl, ap, ◌∙◌, subst, arith, length-drop, take-append-drop}
use Rattle.std.proofs.lemmas.List.{length-take-le, get_or-take, get_or-drop, drop-take}
use Rattle.std.proofs.lemmas.Bool.Decides.{nat_tests}
use Rattle.book.specs.declared.faults.At.{At}
use Rattle.book.specs.declared.faults.FrameFault.{FrameFault}
use Rattle.book.specs.declared.faults.FrameFault.TheVariants.{RecordCut, BodyCut}
use Rattle.book.specs.declared.faults.RecordFault.{RecordFault}
use Rattle.book.specs.declared.faults.BookFault.{BookFault}
use Rattle.book.specs.declared.faults.BookFault.TheVariants.{HeaderMisplaced, HeaderUnknown, Full, Trailing}
use Rattle.book.specs.declared.faults.FileFault.{FileFault}
use Rattle.book.specs.declared.faults.Fault.TheVariants.{Frame, Record, Rulebook}
use Rattle.book.specs.declared.contents.Content.{Content}
use Rattle.book.specs.declared.contents.Content.TheVariants.{Filler, Heading, NewRule, NewEntry, End}
use Rattle.sets.specs.Bytes.{little}
use Rattle.book.specs.Frames.{Piece, piece_at, piece_end, cut, place_after}
use Rattle.kinds.specs.Readings.{Reading}
use Rattle.book.specs.Contents.{content}
use Rattle.book.specs.Progress.{Progress, begun, accepts, by_book, by_content, by_cut, verdict}
use Rattle.book.specs.Files.{Spells, Says}
use Rattle.book.proofs.Runs.{Takes, Makes, Stops}

-- a record that is cut: how it lies in the bytes
pub record Lies (p : ℕ) (bs : List ℕ) (q : Piece) : Type 0 where
  pub header : 4 ≤ length bs
  pub whole : 4 + little 2 bs ≤ length bs
  pub is : q ≡ piece_at p bs

cut_lies : (p : ℕ) (bs : List ℕ) (q : Piece) → cut p bs ≡ Ok q → Lies p bs q
cut_lies p bs q e =
    let a : 4 ≤ length bs = grind (arith, nat_tests) in
    let b : 4 + little 2 bs ≤ length bs = grind (arith, nat_tests) in
    let d : q ≡ piece_at p bs = grind (arith, nat_tests) in
    record { header = a; whole = b; is = d }

-- the bytes of that record
abbrev pub front : List ℕ → List ℕ
front bs = take (4 + little 2 bs) bs

spelled : (p : ℕ) (bs : List ℕ) → 4 ≤ length bs → 4 + little 2 bs ≤ length bs → Spells (front bs) (piece_at p bs).kind (piece_at p bs).body
spelled p bs h k =
    let l : length (front bs) ≡ 4 + little 2 bs = length-take-le (4 + little 2 bs) bs k in
    let m : length (drop 4 bs) ≡ length bs - 4 = length-drop 4 bs in
    let n : little 2 bs ≤ length (drop 4 bs) = omega arith in
    let o : length (take (little 2 bs) (drop 4 bs)) ≡ little 2 bs = length-take-le (little 2 bs) (drop 4 bs) n in
    let g0 : get_or (front bs) 0 0 ≡ get_or bs 0 0 = get_or-take (4 + little 2 bs) bs 0 0 (omega arith) in
    let g1 : get_or (front bs) 1 0 ≡ get_or bs 1 0 = get_or-take (4 + little 2 bs) bs 1 0 (omega arith) in
    let g2 : get_or (front bs) 2 0 ≡ get_or bs 2 0 = get_or-take (4 + little 2 bs) bs 2 0 (omega arith) in
    let g3 : get_or (front bs) 3 0 ≡ get_or bs 3 0 = get_or-take (4 + little 2 bs) bs 3 0 (omega arith) in
    let d2 : get_or (drop 2 (front bs)) 0 0 ≡ get_or (front bs) 2 0 = get_or-drop 2 (front bs) 0 0 in
    let d3 : get_or (drop 2 (front bs)) 1 0 ≡ get_or (front bs) 3 0 = get_or-drop 2 (front bs) 1 0 in
    let e2 : get_or (drop 2 bs) 0 0 ≡ get_or bs 2 0 = get_or-drop 2 bs 0 0 in
    let e3 : get_or (drop 2 bs) 1 0 ≡ get_or bs 3 0 = get_or-drop 2 bs 1 0 in
    record { long = omega arith; size = omega arith; sort = omega arith; rest = drop-take 4 (little 2 bs) bs }

module _ {S : Type 0} (reads : List ℕ → Reading S) (lawful : S → Bool) (m n : ℕ) where
  -- the verdict taken apart
  by_book_ok : (b c : Progress S) (p : ℕ) (x : Result (Progress S) BookFault) → by_book reads lawful m n b p x ≡ Ok c → x ≡ Ok c
  by_book_ok b c p (Ok d) e = cc
  by_book_ok b c p (Err f) e = absurd (let z : ◌≡◌ {A = ℕ} 0 1 = cc in let y : ⊥ = omega arith in y)

  by_item_ok : (b c : Progress S) (p : ℕ) (x : Result (Content S) RecordFault) → by_content reads lawful m n b p x ≡ Ok c → (i : Content S) × (x ≡ Ok i) × (accepts m n b i ≡ Ok c)
  by_item_ok b c p (Ok i) e = (i, refl, by_book_ok b c p (accepts m n b i) e)
  by_item_ok b c p (Err f) e = absurd (let z : ◌≡◌ {A = ℕ} 0 1 = cc in let y : ⊥ = omega arith in y)

  by_cut_ok : (b c : Progress S) (x : Result Piece (At FrameFault)) → by_cut reads lawful m n b x ≡ Ok c → (q : Piece) × (x ≡ Ok q) × ((i : Content S) × (content reads lawful q.kind q.body ≡ Ok i) × (accepts m n b i ≡ Ok c))
  by_cut_ok b c (Ok q) e = (q, refl, by_item_ok b c q.place _ e)
  by_cut_ok b c (Err f) e = absurd (let z : ◌≡◌ {A = ℕ} 0 1 = cc in let y : ⊥ = omega arith in y)

  -- one record more
  pub record Onward (b c : Progress S) (p : ℕ) (bs : List ℕ) : Type 0 where
    pub takes : Takes reads lawful m n b (front bs) c
    pub place : place_after p (cut p bs) ≡ p + length (front bs)
    pub some : 0 < length (front bs)
    pub within : length (front bs) ≤ length bs
    pub again : take (length (front bs)) bs ≡ front bs

  pub onward : (b c : Progress S) (p : ℕ) (bs : List ℕ) → b.ended ≡ false → verdict reads lawful m n b p bs ≡ Ok c → Onward b c p bs
  onward b c p bs going e =
      let x = by_cut_ok b c (cut p bs) e in
      let l = cut_lies p bs x.0 x.1 in
      let s = spelled p bs l.header l.whole in
      let t : length (front bs) ≡ 4 + little 2 bs = length-take-le (4 + little 2 bs) bs l.whole in
      let u : place_after p (cut p bs) ≡ piece_end (piece_at p bs) = ap (place_after p) x.1 ∙ ap piece_end l.is in
      record {
        takes = record { going = going; item = x.2.0; says = record { kind = (piece_at p bs).kind; body = (piece_at p bs).body; spells = s; content_is = let k = l.is in let h = x.2.1 in subst (λ (q : Piece). content reads lawful q.kind q.body ≡ Ok x.2.0) k h }; taken = x.2.2 };
        place = u ∙ (let k = s.long in omega arith);
        some = omega arith;
        within = omega (arith, l.whole);
        again = ap (λ k. take k bs) t;
      }

  pub makes_more : (b c d : Progress S) (xss : List (List ℕ)) (xs : List ℕ) → Makes reads lawful m n b xss c → Takes reads lawful m n c xs d → Makes reads lawful m n b (xss ++ xs ∷ []) d
  makes_more b c d [] xs h t = (d, subst (λ (z : Progress S). Takes reads lawful m n z xs d) (sym h) t, refl)
  makes_more b c d (ys ∷ yss) xs h t = (h.0, h.1, makes_more h.0 c d yss xs h.2 t)

  -- the verdict on a faulty record, by cases
  book_fault : (b : Progress S) (bs : List ℕ) (i : Content S) (e : BookFault) → b.ended ≡ false → Says reads lawful m n (front bs) (Ok i) → accepts m n b i ≡ Err e → (e ≡ Trailing → ⊥) → Stops reads lawful m n b bs (Rulebook e)
  book_fault b bs i HeaderMisplaced g s h t = (g, record { xs = front bs; more = drop (4 + little 2 bs) bs; front = sym (take-append-drop (4 + little 2 bs) bs); item = i; says = s; refused = h })
  book_fault b bs i HeaderUnknown g s h t = (g, record { xs = front bs; more = drop (4 + little 2 bs) bs; front = sym (take-append-drop (4 + little 2 bs) bs); item = i; says = s; refused = h })
  book_fault b bs i Full g s h t = (g, record { xs = front bs; more = drop (4 + little 2 bs) bs; front = sym (take-append-drop (4 + little 2 bs) bs); item = i; says = s; refused = h })
  book_fault b bs i Trailing g s h t = absurd (t refl)

  -- no record gives the fault of bytes after the end
  unlike : (t : Bool) (x y : Result (Progress S) BookFault) → (x ≡ Err Trailing → ⊥) → (y ≡ Err Trailing → ⊥) → cond t x y ≡ Err Trailing → ⊥
  unlike true x y p q e = p e
  unlike false x y p q e = q e

  ok_unlike : (c : Progress S) → ◌≡◌ {A = Result (Progress S) BookFault} (Ok c) (Err Trailing) → ⊥
  ok_unlike c e = let z : ◌≡◌ {A = ℕ} 0 1 = cc in omega arith

  head_unlike : ◌≡◌ {A = Result (Progress S) BookFault} (Err HeaderMisplaced) (Err Trailing) → ⊥
  head_unlike e = let z : ◌≡◌ {A = ℕ} 0 1 = cc in omega arith

  edition_unlike : ◌≡◌ {A = Result (Progress S) BookFault} (Err HeaderUnknown) (Err Trailing) → ⊥
  edition_unlike e = let z : ◌≡◌ {A = ℕ} 0 1 = cc in omega arith

  full_unlike : ◌≡◌ {A = Result (Progress S) BookFault} (Err Full) (Err Trailing) → ⊥
  full_unlike e = let z : ◌≡◌ {A = ℕ} 0 1 = cc in omega arith

  never_trailing : (b : Progress S) (i : Content S) → accepts m n b i ≡ Err Trailing → ⊥
  never_trailing b Filler = unlike (begun b) _ _ (ok_unlike _) head_unlike
  never_trailing b (Heading h) = unlike (begun b) _ _ head_unlike (unlike _ _ _ (ok_unlike _) edition_unlike)
  never_trailing b (NewRule r) = unlike (begun b) _ _ (unlike _ _ _ (ok_unlike _) full_unlike) head_unlike
  never_trailing b (NewEntry e) = unlike (begun b) _ _ (unlike _ _ _ (ok_unlike _) full_unlike) head_unlike
  never_trailing b End = unlike (begun b) _ _ (ok_unlike _) head_unlike

  -- where a fault lies, and why
  abbrev pub Why : Progress S → ℕ → List ℕ → FileFault → Type 0
  Why b p bs f = (f.place ≡ p) × Stops reads lawful m n b bs f.fault

  by_book_err : (b : Progress S) (p : ℕ) (bs : List ℕ) (i : Content S) (f : FileFault) → b.ended ≡ false → Says reads lawful m n (front bs) (Ok i) → (x : Result (Progress S) BookFault) → accepts m n b i ≡ x → by_book reads lawful m n b p x ≡ Err f → Why b p bs f
  by_book_err b p bs i f g s (Ok c) h e = absurd (let z : ◌≡◌ {A = ℕ} 0 1 = cc in let y : ⊥ = omega arith in y)
  by_book_err b p bs i f g s (Err o) h e =
      let k : record { place = p; fault = Rulebook o } ≡ f = cc in
      subst (Why b p bs) k (refl, book_fault b bs i o g s h (λ t. never_trailing b i (h ∙ ap (λ q. Err q) t)))

  by_item_err : (b : Progress S) (p : ℕ) (bs : List ℕ) (f : FileFault) → b.ended ≡ false → (x : Result (Content S) RecordFault) → Says reads lawful m n (front bs) x → by_content reads lawful m n b p x ≡ Err f → Why b p bs f
  by_item_err b p bs f g (Ok i) s e = by_book_err b p bs i f g s (accepts m n b i) refl e
  by_item_err b p bs f g (Err o) s e =
      let k : record { place = p; fault = Record o } ≡ f = cc in
      subst (Why b p bs) k (refl, (g, record { xs = front bs; more = drop (4 + little 2 bs) bs; front = sym (take-append-drop (4 + little 2 bs) bs); says = s }))

  frame_err : (b : Progress S) (p : ℕ) (bs : List ℕ) → b.ended ≡ false → (o : FrameFault) (k : ℕ) → cut p bs ≡ Err (record { place = k; fault = o }) → Why b p bs (record { place = k; fault = Frame o })
  frame_err b p bs g RecordCut k e =
      let a : k ≡ p = grind (arith, nat_tests) in
      let l : length bs < 4 = grind (arith, nat_tests) in
      (a, (g, l))
  frame_err b p bs g BodyCut k e =
      let a : k ≡ p = grind (arith, nat_tests) in
      let l : 4 ≤ length bs = grind (arith, nat_tests) in
      let h : length bs < 4 + little 2 bs = grind (arith, nat_tests) in
      (a, (g, (l, h)))

  by_cut_err : (b : Progress S) (p : ℕ) (bs : List ℕ) (f : FileFault) → b.ended ≡ false → (x : Result Piece (At FrameFault)) → cut p bs ≡ x → by_cut reads lawful m n b x ≡ Err f → Why b p bs f
  by_cut_err b p bs f g (Ok q) c e =
      let l = cut_lies p bs q c in
      let s = spelled p bs l.header l.whole in
      let k : by_content reads lawful m n b p (content reads lawful (piece_at p bs).kind (piece_at p bs).body) ≡ Err f = subst (λ (z : Piece). by_content reads lawful m n b z.place (content reads lawful z.kind z.body) ≡ Err f) l.is e in
      by_item_err b p bs f g (content reads lawful (piece_at p bs).kind (piece_at p bs).body) (record { kind = (piece_at p bs).kind; body = (piece_at p bs).body; spells = s; content_is = refl }) k
  by_cut_err b p bs f g (Err o) c e =
      let k : record { place = o.place; fault = Frame o.fault } ≡ f = cc in
      subst (Why b p bs) k (frame_err b p bs g o.fault o.place c)

  pub faulty_record : (b : Progress S) (p : ℕ) (bs : List ℕ) (f : FileFault) → b.ended ≡ false → verdict reads lawful m n b p bs ≡ Err f → Why b p bs f
  faulty_record b p bs f g e = by_cut_err b p bs f g (cut p bs) refl e
