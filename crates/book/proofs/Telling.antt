-- From the reader's progress to what the file says.
use Rattle.std.proofs.Common.{◌≡◌, ℕ, ◌+◌, ◌≤◌, Bool, true, false, cond, ltb, ◌⊎◌, List, [], ◌∷◌, ◌++◌, length, Some, Ok, Err, Result, sym, refl, ap, ◌∙◌, subst, inl, inr, ⊎_elim, arith, length-append}
use Rattle.std.proofs.lemmas.List.{append_assoc, append-nil}
use Rattle.std.proofs.lemmas.Bool.{both_ways, cond-true, and_parts, ltb-true}
use Rattle.std.specs.List.{AllByRecursion}
use Rattle.kinds.specs.Readings.{Reading}
use Rattle.book.specs.declared.contents.Content.{Content}
use Rattle.book.specs.declared.contents.Content.TheVariants.{Filler, Heading, NewRule, NewEntry, End}
use Rattle.book.specs.declared.contents.Header.{Header}
use Rattle.book.specs.declared.faults.BookFault.TheVariants.{HeaderMisplaced, HeaderUnknown, Full}
use Rattle.book.specs.Files.{Says, EachSays, good_header, plain, rules_of, entries_of}
use Rattle.book.specs.Progress.{Progress, begun, nothing_yet, one_more, accepts}
use Rattle.book.proofs.Runs.{Makes}

-- which answers of an acceptance cannot be
ok_err : {X E : Type 0} (x : X) (e : E) → ◌≡◌ {A = Result X E} (Ok x) (Err e) → ⊥
ok_err x e p = let z : ◌≡◌ {A = ℕ} 0 1 = cc in omega arith

err_ok : {X E : Type 0} (x : X) (e : E) → ◌≡◌ {A = Result X E} (Err e) (Ok x) → ⊥
err_ok x e p = let z : ◌≡◌ {A = ℕ} 0 1 = cc in omega arith

same_ok : {X E : Type 0} (x y : X) → ◌≡◌ {A = Result X E} (Ok x) (Ok y) → x ≡ y
same_ok x y p = cc

-- a test that gives Ok on one side and Err on the other
pub only_ok : {X E : Type 0} (t : Bool) (x y : X) (e : E) → cond t (Ok x) (Err e) ≡ Ok y → (t ≡ true) × (x ≡ y)
only_ok true x y e p = (refl, same_ok x y p)
only_ok false x y e p = absurd (err_ok y e p)

pub only_err : {X E : Type 0} (t : Bool) (x : X) (e f : E) → cond t (Ok x) (Err e) ≡ Err f → (t ≡ false) × (e ≡ f)
only_err true x e f p = absurd (ok_err x f p)
only_err false x e f p = (refl, cc)

-- the end record holds no rule and no entry
pub rules_end : {S : Type 0} (cs : List (Content S)) → rules_of (cs ++ End ∷ []) ≡ rules_of cs
rules_end [] = refl
rules_end (Filler ∷ cs) = rules_end cs
rules_end (Heading h ∷ cs) = rules_end cs
rules_end (NewRule r ∷ cs) = ap (λ rs. r ∷ rs) (rules_end cs)
rules_end (NewEntry e ∷ cs) = rules_end cs
rules_end (End ∷ cs) = rules_end cs

pub entries_end : {S : Type 0} (cs : List (Content S)) → entries_of (cs ++ End ∷ []) ≡ entries_of cs
entries_end [] = refl
entries_end (Filler ∷ cs) = entries_end cs
entries_end (Heading h ∷ cs) = entries_end cs
entries_end (NewRule r ∷ cs) = entries_end cs
entries_end (NewEntry e ∷ cs) = ap (λ es. e ∷ es) (entries_end cs)
entries_end (End ∷ cs) = entries_end cs

module _ {S : Type 0} (reads : List ℕ → Reading S) (lawful : S → Bool) (m n : ℕ) where
  pub record Fits (b : Progress S) : Type 0 where
    pub rules_few : length b.rules ≤ 64
    pub rules_fit : length b.rules ≤ m
    pub entries_few : length b.entries ≤ 32
    pub entries_fit : length b.entries ≤ n

  -- from the progress b the records xss led to c: plain contents, and perhaps the end
  pub record Went (b c : Progress S) (xss : List (List ℕ)) : Type 0 where
    pub inner : List (Content S)
    pub all_plain : AllByRecursion (λ x. plain x ≡ true) inner
    pub begun_is : begun c ≡ true
    pub policy_is : c.policy ≡ b.policy
    pub rules_are : c.rules ≡ b.rules ++ rules_of inner
    pub entries_are : c.entries ≡ b.entries ++ entries_of inner
    pub fits : Fits c
    pub how : ((c.ended ≡ false) × EachSays reads lawful m n xss inner) ⊎ ((c.ended ≡ true) × EachSays reads lawful m n xss (inner ++ End ∷ []))

  -- one plain content more in front
  before : (b d c : Progress S) (xs : List ℕ) (xss : List (List ℕ)) (x : Content S) → plain x ≡ true → Says reads lawful m n xs (Ok x) → d.policy ≡ b.policy
      → ((cs : List (Content S)) → d.rules ++ rules_of cs ≡ b.rules ++ rules_of (x ∷ cs)) → ((cs : List (Content S)) → d.entries ++ entries_of cs ≡ b.entries ++ entries_of (x ∷ cs))
      → Went d c xss → Went b c (xs ∷ xss)
  before b d c xs xss x p says policy rs es w = record {
    inner = x ∷ w.inner;
    all_plain = (p, w.all_plain);
    begun_is = w.begun_is;
    policy_is = w.policy_is ∙ policy;
    rules_are = w.rules_are ∙ rs w.inner;
    entries_are = w.entries_are ∙ es w.inner;
    fits = w.fits;
    how = ⊎_elim (λ a. inl (a.0, (says, a.1))) (λ a. inr (a.0, (says, a.1))) w.how;
  }

  after_end : (d c : Progress S) (xss : List (List ℕ)) → d.ended ≡ true → Makes reads lawful m n d xss c → (xss ≡ []) × (d ≡ c)
  after_end d c [] e mk = (refl, mk)
  after_end d c (xs ∷ xss) e mk = absurd (both_ways d.ended mk.1.going e)

  pub went : (xss : List (List ℕ)) (b c : Progress S) → begun b ≡ true → b.ended ≡ false → Fits b → Makes reads lawful m n b xss c → Went b c xss
  went [] b c bg en ft mk = record {
    inner = [];
    all_plain = tt;
    begun_is = ap (λ (z : Progress S). begun z) (sym mk) ∙ bg;
    policy_is = ap (λ (z : Progress S). z.policy) (sym mk);
    rules_are = ap (λ (z : Progress S). z.rules) (sym mk) ∙ sym (append-nil b.rules);
    entries_are = ap (λ (z : Progress S). z.entries) (sym mk) ∙ sym (append-nil b.entries);
    fits = subst Fits mk ft;
    how = inl (ap (λ (z : Progress S). z.ended) (sym mk) ∙ en, tt);
  }
  went (xs ∷ xss) b c bg en ft mk = by (λ d. went xss d c) mk.1.item mk.1.says mk.1.taken
    where
      by : ((d : Progress S) → begun d ≡ true → d.ended ≡ false → Fits d → Makes reads lawful m n d xss c → Went d c xss) → (x : Content S) → Says reads lawful m n xs (Ok x) → accepts m n b x ≡ Ok mk.0 → Went b c (xs ∷ xss)
      by rec Filler says tk =
          let e : b ≡ mk.0 = (only_ok (begun b) b mk.0 HeaderMisplaced tk).1 in
          before b b c xs xss Filler refl says refl (λ cs. refl) (λ cs. refl)
          (rec b bg en ft (subst (λ (z : Progress S). Makes reads lawful m n z xss c) (sym e) mk.2))
      by rec (Heading h) says tk = absurd (err_ok mk.0 HeaderMisplaced (sym (cond-true (begun b) _ _ bg) ∙ tk))
      by rec (NewRule r) says tk =
          let more : Progress S = record { policy = b.policy; ended = b.ended; rules = b.rules ++ r ∷ []; entries = b.entries } in
          let p = only_ok (one_more 64 m b.rules) more mk.0 Full (sym (cond-true (begun b) _ _ bg) ∙ tk) in
          let q = and_parts (ltb (length b.rules) 64) (ltb (length b.rules) m) p.0 in
          let lt = ltb-true (length b.rules) 64 q.0 in
          let lm = ltb-true (length b.rules) m q.1 in
          let l : length (b.rules ++ r ∷ []) ≡ length b.rules + 1 = length-append b.rules (r ∷ []) in
          before b more c xs xss (NewRule r) refl says refl (λ cs. append_assoc b.rules (r ∷ []) (rules_of cs)) (λ cs. refl)
          (rec more bg en (record { rules_few = omega arith; rules_fit = omega arith; entries_few = ft.entries_few; entries_fit = ft.entries_fit })
          (subst (λ (z : Progress S). Makes reads lawful m n z xss c) (sym p.1) mk.2))
      by rec (NewEntry x) says tk =
          let more : Progress S = record { policy = b.policy; ended = b.ended; rules = b.rules; entries = b.entries ++ x ∷ [] } in
          let p = only_ok (one_more 32 n b.entries) more mk.0 Full (sym (cond-true (begun b) _ _ bg) ∙ tk) in
          let q = and_parts (ltb (length b.entries) 32) (ltb (length b.entries) n) p.0 in
          let lt = ltb-true (length b.entries) 32 q.0 in
          let ln = ltb-true (length b.entries) n q.1 in
          let l : length (b.entries ++ x ∷ []) ≡ length b.entries + 1 = length-append b.entries (x ∷ []) in
          before b more c xs xss (NewEntry x) refl says refl (λ cs. refl) (λ cs. append_assoc b.entries (x ∷ []) (entries_of cs))
          (rec more bg en (record { rules_few = ft.rules_few; rules_fit = ft.rules_fit; entries_few = omega arith; entries_fit = omega arith })
          (subst (λ (z : Progress S). Makes reads lawful m n z xss c) (sym p.1) mk.2))
      by rec End says tk =
          let done : Progress S = record { policy = b.policy; ended = true; rules = b.rules; entries = b.entries } in
          let e : done ≡ mk.0 = (only_ok (begun b) done mk.0 HeaderMisplaced tk).1 in
          let a = after_end done c xss refl (subst (λ (z : Progress S). Makes reads lawful m n z xss c) (sym e) mk.2) in
          let dc : done ≡ c = a.1 in
          record {
            inner = [];
            all_plain = tt;
            begun_is = ap (λ (z : Progress S). begun z) (sym dc) ∙ bg;
            policy_is = ap (λ (z : Progress S). z.policy) (sym dc);
            rules_are = ap (λ (z : Progress S). z.rules) (sym dc) ∙ sym (append-nil b.rules);
            entries_are = ap (λ (z : Progress S). z.entries) (sym dc) ∙ sym (append-nil b.entries);
            fits = subst Fits dc (record { rules_few = ft.rules_few; rules_fit = ft.rules_fit; entries_few = ft.entries_few; entries_fit = ft.entries_fit });
            how = inr (ap (λ (z : Progress S). z.ended) (sym dc), subst (λ yss. EachSays reads lawful m n (xs ∷ yss) (End ∷ [])) (sym a.0) (says, tt));
          }

  abbrev pub headed : Header → Progress S
  headed h = record { policy = Some h.policy; ended = false; rules = []; entries = [] }

  -- what records from the start of a file have led to
  pub record Started (xss : List (List ℕ)) (c : Progress S) : Type 0 where
    pub header : Header
    pub first : List ℕ
    pub others : List (List ℕ)
    pub records_are : xss ≡ first ∷ others
    pub says_header : Says reads lawful m n first (Ok (Heading header))
    pub header_good : good_header header ≡ true
    pub went_on : Went (headed header) c others

  pub started : (xss : List (List ℕ)) (c : Progress S) → Makes reads lawful m n nothing_yet xss c → ((xss ≡ []) × (nothing_yet ≡ c)) ⊎ Started xss c
  started [] c mk = inl (refl, mk)
  started (xs ∷ xss) c mk = inr (by mk.1.item mk.1.says mk.1.taken)
    where
      by : (x : Content S) → Says reads lawful m n xs (Ok x) → accepts m n nothing_yet x ≡ Ok mk.0 → Started (xs ∷ xss) c
      by Filler says tk = absurd (err_ok mk.0 HeaderMisplaced tk)
      by (Heading h) says tk =
          let p = only_ok (good_header h) (headed h) mk.0 HeaderUnknown tk in
          record {
            header = h;
            first = xs;
            others = xss;
            records_are = refl;
            says_header = says;
            header_good = p.0;
            went_on = went xss (headed h) c refl refl (record { rules_few = omega arith; rules_fit = omega arith; entries_few = omega arith; entries_fit = omega arith })
                (subst (λ (z : Progress S). Makes reads lawful m n z xss c) (sym p.1) mk.2);
          }
      by (NewRule r) says tk = absurd (err_ok mk.0 HeaderMisplaced tk)
      by (NewEntry x) says tk = absurd (err_ok mk.0 HeaderMisplaced tk)
      by End says tk = absurd (err_ok mk.0 HeaderMisplaced tk)
