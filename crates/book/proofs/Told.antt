-- A run of the reader is an outcome of the file.
use Rattle.std.proofs.Common.{◌≡◌, ℕ, ◌≤◌, Bool, true, false, ◌⊎◌, List, [], ◌∷◌, ◌++◌, length, drop, Some, Ok, Err, Result, sym, refl, ap, ◌∙◌, subst, inl, inr, ⊎_elim, arith}
use Rattle.std.proofs.lemmas.Bool.{both_ways}
use Rattle.kinds.specs.Readings.{Reading}
use Rattle.rules.specs.declared.entry.Entry.{Entry}
use Rattle.rules.specs.declared.rule.Rule.{Rule}
use Rattle.book.specs.declared.contents.Content.{Content}
use Rattle.book.specs.declared.contents.Content.TheVariants.{Heading, End}
use Rattle.book.specs.declared.contents.Header.{Header}
use Rattle.book.specs.declared.faults.FrameFault.TheVariants.{RecordCut, BodyCut}
use Rattle.book.specs.declared.faults.BookFault.{BookFault}
use Rattle.book.specs.declared.faults.BookFault.TheVariants.{HeaderMisplaced, HeaderUnknown, Full, Trailing}
use Rattle.book.specs.declared.faults.Fault.{Fault}
use Rattle.book.specs.declared.faults.Fault.TheVariants.{Frame, Record, Rulebook}
use Rattle.book.specs.declared.faults.FileFault.{FileFault}
use Rattle.book.specs.declared.opened.Opened.{Opened}
use Rattle.book.specs.Files.{EachSays, Body, BeginsWith, Saying, Faulty, Outcome, rules_of, entries_of}
use Rattle.book.specs.Progress.{Progress, begun, nothing_yet, accepts}
use Rattle.book.proofs.Runs.{Makes, Rejects, Stops, Run, same_some}
use Rattle.book.proofs.Telling.{Started, started, rules_end, entries_end}
use Rattle.book.proofs.Refusing.{first_misplaced, first_unknown, first_full, later_misplaced, later_unknown, later_full}

module _ {S : Type 0} (reads : List ℕ → Reading S) (lawful : S → Bool) (m n : ℕ) where
  -- a record that the progress c rejects, with the reason in words
  rejected : (c : Progress S) (bs : List ℕ) (f : BookFault) (Q : Content S → Type 0) → ((x : Content S) → accepts m n c x ≡ Err f → Q x) → Rejects reads lawful m n c bs f → BeginsWith bs (Saying reads lawful m n Q)
  rejected c bs f Q why r = record { xs = r.xs; more = r.more; front = r.front; first = (r.item, r.says, why r.item r.refused) }

  -- nothing is read yet
  fresh : (bs : List ℕ) (f : Fault) → Stops reads lawful m n nothing_yet bs f → Faulty reads lawful m n [] bs f
  fresh bs (Frame RecordCut) h = (tt, h.1)
  fresh bs (Frame BodyCut) h = (tt, h.1.0, h.1.1)
  fresh bs (Record e) h = (tt, record { xs = h.1.xs; more = h.1.more; front = h.1.front; first = h.1.says })
  fresh bs (Rulebook HeaderMisplaced) h = (tt, rejected nothing_yet bs HeaderMisplaced _ (first_misplaced m n) h.1)
  fresh bs (Rulebook HeaderUnknown) h = (refl, rejected nothing_yet bs HeaderUnknown _ (first_unknown m n) h.1)
  fresh bs (Rulebook Full) h = absurd (first_full m n h.1.item h.1.refused)
  fresh bs (Rulebook Trailing) h = absurd (both_ways false refl h.0)

  module _ (h : Header) (inner : List (Content S)) (c : Progress S) (body : Body reads lawful m n h inner) where
    -- the header was read, and the end was not
    going : begun c ≡ true → c.ended ≡ false → c.rules ≡ rules_of inner → c.entries ≡ entries_of inner → (bs : List ℕ) (f : Fault) → Stops reads lawful m n c bs f → Faulty reads lawful m n (Heading h ∷ inner) bs f
    going bg en rs es bs (Frame RecordCut) k = (body, k.1)
    going bg en rs es bs (Frame BodyCut) k = (body, k.1.0, k.1.1)
    going bg en rs es bs (Record e) k = (body, record { xs = k.1.xs; more = k.1.more; front = k.1.front; first = k.1.says })
    going bg en rs es bs (Rulebook HeaderMisplaced) k = (body, rejected c bs HeaderMisplaced _ (later_misplaced m n c bg) k.1)
    going bg en rs es bs (Rulebook HeaderUnknown) k = absurd (later_unknown m n c bg k.1.item k.1.refused)
    going bg en rs es bs (Rulebook Full) k = (
      body,
      (λ e. let z : ◌≡◌ {A = ℕ} 0 1 = cc in omega arith),
      rejected c bs Full _ (λ x e. ⊎_elim
          (λ a. inl (a.0, a.1, subst (λ zs. (64 ≤ length zs) ⊎ (m ≤ length zs)) rs a.2))
          (λ a. inr (a.0, a.1, subst (λ zs. (32 ≤ length zs) ⊎ (n ≤ length zs)) es a.2))
          (later_full m n c bg x e)) k.1,
    )
    going bg en rs es bs (Rulebook Trailing) k = absurd (both_ways c.ended en k.0)

    -- the end was read
    done : c.ended ≡ true → (bs : List ℕ) (f : Fault) → Stops reads lawful m n c bs f → Faulty reads lawful m n (Heading h ∷ (inner ++ End ∷ [])) bs f
    done en bs (Frame RecordCut) k = absurd (both_ways c.ended k.0 en)
    done en bs (Frame BodyCut) k = absurd (both_ways c.ended k.0 en)
    done en bs (Record e) k = absurd (both_ways c.ended k.0 en)
    done en bs (Rulebook HeaderMisplaced) k = absurd (both_ways c.ended k.0 en)
    done en bs (Rulebook HeaderUnknown) k = absurd (both_ways c.ended k.0 en)
    done en bs (Rulebook Full) k = absurd (both_ways c.ended k.0 en)
    done en bs (Rulebook Trailing) k = ((h, inner, record { contents = refl; body = body }), k.1)

  body_of : (xss : List (List ℕ)) (c : Progress S) (st : Started reads lawful m n xss c) → Body reads lawful m n st.header st.went_on.inner
  body_of xss c st =
      let w = st.went_on in
      let rl : length c.rules ≡ length (rules_of w.inner) = ap length w.rules_are in
      let el : length c.entries ≡ length (entries_of w.inner) = ap length w.entries_are in
      let f = w.fits in
      record {
        header_good = st.header_good;
        all_plain = w.all_plain;
        rules_few = omega (arith, f.rules_few);
        rules_fit = omega (arith, f.rules_fit);
        entries_few = omega (arith, f.entries_few);
        entries_fit = omega (arith, f.entries_fit);
      }

  -- what the records of a run have said
  pub record Spoken (xss : List (List ℕ)) (c : Progress S) : Type 0 where
    pub said : List (Content S)
    pub say : EachSays reads lawful m n xss said
    pub rules_are : c.rules ≡ rules_of said
    pub entries_are : c.entries ≡ entries_of said
    pub stops : (bs : List ℕ) (f : Fault) → Stops reads lawful m n c bs f → Faulty reads lawful m n said bs f
    pub ends : c.ended ≡ true → (h : Header) × (inner : List (Content S)) × (said ≡ Heading h ∷ (inner ++ End ∷ [])) × (Body reads lawful m n h inner) × (c.policy ≡ Some h.policy)

  pub spoken : (xss : List (List ℕ)) (c : Progress S) → Makes reads lawful m n nothing_yet xss c → Spoken xss c
  spoken xss c mk = ⊎_elim
      (λ a. record {
        said = [];
        say = subst (λ zss. EachSays reads lawful m n zss []) (sym a.0) tt;
        rules_are = ap (λ (z : Progress S). z.rules) (sym a.1);
        entries_are = ap (λ (z : Progress S). z.entries) (sym a.1);
        stops = λ bs f s. fresh bs f (subst (λ (z : Progress S). Stops reads lawful m n z bs f) (sym a.1) s);
        ends = λ e. absurd (both_ways false refl (ap (λ (z : Progress S). z.ended) a.1 ∙ e));
      })
      (λ st.
      let w = st.went_on in
      let body = body_of xss c st in
      ⊎_elim
      (λ a. record {
        said = Heading st.header ∷ w.inner;
        say = subst (λ zss. EachSays reads lawful m n zss (Heading st.header ∷ w.inner)) (sym st.records_are) (st.says_header, a.1);
        rules_are = w.rules_are;
        entries_are = w.entries_are;
        stops = going st.header w.inner c body w.begun_is a.0 w.rules_are w.entries_are;
        ends = λ e. absurd (both_ways c.ended a.0 e);
      })
      (λ a. record {
        said = Heading st.header ∷ (w.inner ++ End ∷ []);
        say = subst (λ zss. EachSays reads lawful m n zss (Heading st.header ∷ (w.inner ++ End ∷ []))) (sym st.records_are) (st.says_header, a.1);
        rules_are = w.rules_are ∙ sym (rules_end w.inner);
        entries_are = w.entries_are ∙ sym (entries_end w.inner);
        stops = done st.header w.inner c body a.0;
        ends = λ e. (st.header, w.inner, refl, body, w.policy_is);
      })
      w.how)
      (started reads lawful m n xss c mk)

module _ {S : Type 0} (reads : List ℕ → Reading S) (lawful : S → Bool) (bytes : List ℕ) (rs : List (Rule S)) (es : List Entry) where
  front_kept : {X : Type 0} (xs ys zs ws : List X) → ys ≡ ws → zs ≡ ys ++ drop (length ys) xs → zs ≡ ws ++ drop (length ws) xs
  front_kept xs ys zs ws e h = h ∙ ap (λ (v : List _). v ++ drop (length v) xs) e

  pub told : (rs' : List (Rule S)) (es' : List Entry) (r : Result Opened FileFault) → Run reads lawful bytes rs es rs' es' r → Outcome reads lawful bytes rs es rs' es' r
  told rs' es' (Ok o) run =
      let mu = run.came.0 in
      let cn = run.came.1 in
      let sp = spoken reads lawful (length rs) (length es) mu.records run.book mu.makes in
      let en = sp.ends mu.ended in
      record {
        said = sp.said;
        answer = (
          en.0,
          en.1,
          record { records = mu.records; in_a_row = mu.whole; say = sp.say; whole = record { contents = en.2; body = en.3 } },
          record { policy_is = same_some (cn.policy_is ∙ en.4); rules_are = cn.rules_are ∙ ap length sp.rules_are; entries_are = cn.entries_are ∙ ap length sp.entries_are },
        );
        rules_after = front_kept rs run.book.rules rs' (rules_of sp.said) sp.rules_are run.rules;
        entries_after = front_kept es run.book.entries es' (entries_of sp.said) sp.entries_are run.entries;
      }
  told rs' es' (Err f) run =
      let st = run.came in
      let sp = spoken reads lawful (length rs) (length es) st.records run.book st.makes in
      record {
        said = sp.said;
        answer = record { records = st.records; rest = st.rest; in_a_row = st.whole; say = sp.say; place_is = st.place; faulty = sp.stops st.rest f.fault st.faulty };
        rules_after = front_kept rs run.book.rules rs' (rules_of sp.said) sp.rules_are run.rules;
        entries_after = front_kept es run.book.entries es' (entries_of sp.said) sp.entries_are run.entries;
      }
