-- What a file's reading keeps from record to record.
use Rattle.std.proofs.Common.{◌≡◌, ℕ, ◌+◌, ◌-◌, ◌<◌, ◌≤◌, Bool, true, false, List, [], ◌∷◌, ◌++◌, length, take, drop, Some, None, Ok, Err, Result, sym, refl, ap, ◌∙◌, subst, arith, length-drop, take-append-drop, take-add}
use Rattle.std.proofs.lemmas.List.{length-take-le, drop-drop, flat_map_more, take_all}
use Rattle.std.specs.List.{flat_map}
use Rattle.book.specs.declared.faults.BookFault.TheVariants.{Trailing}
use Rattle.book.specs.declared.faults.FileFault.{FileFault}
use Rattle.book.specs.declared.faults.Fault.TheVariants.{Rulebook}
use Rattle.rules.specs.declared.rule.Rule.{Rule}
use Rattle.rules.specs.declared.entry.Entry.{Entry}
use Rattle.book.specs.declared.reader.Reader.{Reader}
use Rattle.book.specs.declared.scan.Scan.{Scan}
use Rattle.book.specs.declared.opened.Opened.{Opened}
use Rattle.kinds.specs.Readings.{Reading}
use Rattle.book.specs.Progress.{Progress, nothing_yet, verdict, answer, after}
use Rattle.book.specs.Scans.{progress, policy_code, Room}
use Rattle.book.specs.Steps.{left, Stepped}
use Rattle.book.proofs.Runs.{Makes, Takes, Run}
use Rattle.book.proofs.Filing.{front, onward, makes_more, faulty_record}

abbrev whole : List (List ℕ) → List ℕ
whole xss = flat_map (λ xs. xs) xss

module _ {S : Type 0} (reads : List ℕ → Reading S) (lawful : S → Bool) (bytes : List ℕ) where
  pub record Standing (d : Reader) (s : Scan) (rs₀ rs : List (Rule S)) (es₀ es : List Entry) : Type 0 where
    pub same : d.bytes.now ≡ bytes
    pub records : List (List ℕ)
    pub read : take d.place bytes ≡ whole records
    pub makes : Makes reads lawful (length rs₀) (length es₀) nothing_yet records (progress s rs es)
    pub room : Room s rs es
    pub rules : drop s.draft.rules.count rs ≡ drop s.draft.rules.count rs₀
    pub entries : drop s.draft.entries.count es ≡ drop s.draft.entries.count es₀
    pub rules_long : length rs ≡ length rs₀
    pub entries_long : length es ≡ length es₀

  pub at_start : (d : Reader) (s : Scan) (rs : List (Rule S)) (es : List Entry) → d.bytes.now ≡ bytes → d.place ≡ 0 → s.policy ≡ None → s.ended ≡ false → s.draft.rules.count ≡ 0 → s.draft.entries.count ≡ 0 → Standing d s rs rs es es
  at_start d s rs es h k p e r t =
      let tr : take s.draft.rules.count rs ≡ [] = ap (λ n. take n rs) r in
      let te : take s.draft.entries.count es ≡ [] = ap (λ n. take n es) t in
      let coded : policy_code s.policy ≡ None = ap policy_code p in
      let start : nothing_yet ≡ progress s rs es = cc in
      record {
        same = h;
        records = [];
        read = ap (λ n. take n bytes) k;
        makes = start;
        room = record { rules = omega arith; entries = omega arith };
        rules = refl;
        entries = refl;
        rules_long = refl;
        entries_long = refl;
      }

  further : {X : Type 0} (xs ys zs : List X) (n n' : ℕ) → n ≤ n' → drop n xs ≡ drop n ys → drop n' zs ≡ drop n' xs → drop n' zs ≡ drop n' ys
  further xs ys zs n n' h e d =
      let k : n + (n' - n) ≡ n' = omega arith in
      d ∙ (ap (λ j. drop j xs) (sym k) ∙ (sym (drop-drop (n' - n) n xs) ∙ (ap (drop (n' - n)) e ∙ (drop-drop (n' - n) n ys ∙ ap (λ j. drop j ys) k))))

  answer_ok : {X E : Type 0} (x : Result X E) (u : Unit {0}) → Ok u ≡ answer x → (c : X) × (x ≡ Ok c)
  answer_ok (Ok c) u e = (c, refl)
  answer_ok (Err f) u e = absurd (let z : ◌≡◌ {A = ℕ} 0 1 = cc in let y : ⊥ = omega arith in y)

  at_lengths : (m m' n n' : ℕ) (P : ℕ → ℕ → Type 0) → m ≡ m' → n ≡ n' → P m n → P m' n'
  at_lengths m m' n n' P h k x = subst (λ (j : ℕ). P j n') h (subst (λ (j : ℕ). P m j) k x)

  -- a record more
  pub goes_on : (d d' : Reader) (s s' : Scan) (rs₀ rs rs' : List (Rule S)) (es₀ es es' : List Entry) (u : Unit {0}) → s.ended ≡ false → length rs' ≡ length rs → length es' ≡ length es
      → Standing d s rs₀ rs es₀ es → Stepped reads lawful d d' s s' rs rs' es es' (Ok u) → Standing d' s' rs₀ rs' es₀ es' × (d.place < d'.place)
  goes_on d d' s s' rs₀ rs rs' es₀ es es' u going lr le st sp =
      let rl = st.rules_long in
      let el = st.entries_long in
      let x = answer_ok (verdict reads lawful (length rs) (length es) (progress s rs es) d.place (left d)) u sp.answered in
      let v : verdict reads lawful (length rs₀) (length es₀) (progress s rs es) d.place (left d) ≡ Ok x.0 = at_lengths (length rs) (length rs₀) (length es) (length es₀) (λ m n. verdict reads lawful m n (progress s rs es) d.place (left d) ≡ Ok x.0) rl el x.1 in
      let o = onward reads lawful (length rs₀) (length es₀) (progress s rs es) x.0 d.place (left d) going v in
      let b : progress s' rs' es' ≡ x.0 = sp.book ∙ ap (after (progress s rs es)) x.1 in
      let p : d'.place ≡ d.place + length (front (left d)) = sp.place ∙ o.place in
      let l : left d ≡ drop d.place bytes = ap (drop d.place) st.same in
      let f : take (length (front (left d))) (drop d.place bytes) ≡ front (left d) = ap (take (length (front (left d)))) (sym l) ∙ o.again in
      let j : whole st.records ++ front (left d) ≡ whole (st.records ++ front (left d) ∷ []) = flat_map_more (λ xs. xs) [] st.records (front (left d)) in (
        record {
          same = sp.bytes ∙ st.same;
          records = st.records ++ front (left d) ∷ [];
          read = ap (λ n. take n bytes) p ∙ (take-add d.place (length (front (left d))) bytes ∙ (ap (λ xs. xs ++ take (length (front (left d))) (drop d.place bytes)) st.read ∙ (ap (λ xs. whole st.records ++ xs) f ∙ j)));
          makes = makes_more reads lawful (length rs₀) (length es₀) nothing_yet (progress s rs es) (progress s' rs' es') st.records (front (left d)) st.makes (subst (λ (c : Progress S). Takes reads lawful (length rs₀) (length es₀) (progress s rs es) (front (left d)) c) (sym b) o.takes);
          room = sp.room;
          rules = further rs rs₀ rs' s.draft.rules.count s'.draft.rules.count sp.rest.more_rules st.rules sp.rest.rules;
          entries = further es es₀ es' s.draft.entries.count s'.draft.entries.count sp.rest.more_entries st.entries sp.rest.entries;
          rules_long = lr ∙ rl;
          entries_long = le ∙ el;
        },
        omega (arith, o.some),
      )

  -- memory whose front is what is accepted
  kept : {X : Type 0} (xs ys zs : List X) (n : ℕ) → n ≤ length xs → take n xs ≡ zs → drop n xs ≡ drop n ys → xs ≡ zs ++ drop (length zs) ys
  kept xs ys zs n h e d =
      let l : length zs ≡ n = ap length (sym e) ∙ length-take-le n xs h in
      sym (take-append-drop n xs) ∙ (ap (λ t. t ++ drop n xs) e ∙ (ap (λ t. zs ++ t) d ∙ ap (λ k. zs ++ drop k ys) (sym l)))

  module _ (d : Reader) (s : Scan) (rs₀ rs : List (Rule S)) (es₀ es : List Entry) (st : Standing d s rs₀ rs es₀ es) where
    -- all bytes are read
    pub accepted : (o : Opened) → s.policy ≡ Some o.policy → o.book.rules.count ≡ s.draft.rules.count → o.book.entries.count ≡ s.draft.entries.count → length bytes ≤ d.place → s.ended ≡ true → Run reads lawful bytes rs₀ es₀ rs es (Ok o)
    accepted o op or oe h e =
        let a : length (take s.draft.rules.count rs) ≡ s.draft.rules.count = length-take-le s.draft.rules.count rs st.room.rules in
        let b : length (take s.draft.entries.count es) ≡ s.draft.entries.count = length-take-le s.draft.entries.count es st.room.entries in
        record {
          book = progress s rs es;
          came = (record { records = st.records; whole = sym (take_all d.place bytes h) ∙ st.read; makes = st.makes; ended = e }, record { policy_is = sym (ap policy_code op); rules_are = or ∙ sym a; entries_are = oe ∙ sym b });
          rules = kept rs rs₀ _ s.draft.rules.count st.room.rules refl st.rules;
          entries = kept es es₀ _ s.draft.entries.count st.room.entries refl st.entries;
        }

    -- bytes are left after the end record
    pub trailing : d.place < length bytes → s.ended ≡ true → Run reads lawful bytes rs₀ es₀ rs es (Err (record { place = d.place; fault = Rulebook Trailing }))
    trailing h e =
        let l : length (take d.place bytes) ≡ d.place = length-take-le d.place bytes (omega arith) in
        let m : length (drop d.place bytes) ≡ length bytes - d.place = length-drop d.place bytes in
        record {
          book = progress s rs es;
          came = record {
            records = st.records;
            rest = drop d.place bytes;
            whole = sym (take-append-drop d.place bytes) ∙ ap (λ xs. xs ++ drop d.place bytes) st.read;
            makes = st.makes;
            place = sym l ∙ ap length st.read;
            faulty = (e, omega arith);
          };
          rules = kept rs rs₀ _ s.draft.rules.count st.room.rules refl st.rules;
          entries = kept es es₀ _ s.draft.entries.count st.room.entries refl st.entries;
        }

  answer_err : {X E : Type 0} (x : Result X E) (f : E) → Err f ≡ answer x → x ≡ Err f
  answer_err (Ok c) f e = absurd (let z : ◌≡◌ {A = ℕ} 0 1 = cc in let y : ⊥ = omega arith in y)
  answer_err (Err g) f e = cc

  -- a record is faulty
  pub refused : (d d' : Reader) (s s' : Scan) (rs₀ rs rs' : List (Rule S)) (es₀ es es' : List Entry) (f : FileFault) → d.place ≤ length bytes → s.ended ≡ false
      → Standing d s rs₀ rs es₀ es → Stepped reads lawful d d' s s' rs rs' es es' (Err f) → Run reads lawful bytes rs₀ es₀ rs' es' (Err f)
  refused d d' s s' rs₀ rs rs' es₀ es es' f w going st sp =
      let x = answer_err (verdict reads lawful (length rs) (length es) (progress s rs es) d.place (left d)) f sp.answered in
      let v : verdict reads lawful (length rs₀) (length es₀) (progress s rs es) d.place (left d) ≡ Err f = at_lengths (length rs) (length rs₀) (length es) (length es₀) (λ m n. verdict reads lawful m n (progress s rs es) d.place (left d) ≡ Err f) st.rules_long st.entries_long x in
      let y = faulty_record reads lawful (length rs₀) (length es₀) (progress s rs es) d.place (left d) f going v in
      let b : progress s' rs' es' ≡ progress s rs es = sp.book ∙ ap (after (progress s rs es)) x in
      let l : left d ≡ drop d.place bytes = ap (drop d.place) st.same in
      let k : length (take d.place bytes) ≡ d.place = length-take-le d.place bytes w in
      record {
        book = progress s rs es;
        came = record {
          records = st.records;
          rest = left d;
          whole = sym (take-append-drop d.place bytes) ∙ (ap (λ xs. xs ++ drop d.place bytes) st.read ∙ ap (λ xs. whole st.records ++ xs) (sym l));
          makes = st.makes;
          place = y.0 ∙ (sym k ∙ ap length st.read);
          faulty = y.1;
        };
        rules = kept rs' rs₀ _ s'.draft.rules.count sp.room.rules (ap (λ c. c.rules) b) (further rs rs₀ rs' s.draft.rules.count s'.draft.rules.count sp.rest.more_rules st.rules sp.rest.rules);
        entries = kept es' es₀ _ s'.draft.entries.count sp.room.entries (ap (λ c. c.entries) b) (further es es₀ es' s.draft.entries.count s'.draft.entries.count sp.rest.more_entries st.entries sp.rest.entries);
      }
