-- An outcome of the file is a run of the reader.
use Rattle.std.proofs.Common.{◌≡◌, ℕ, ◌+◌, ◌≤◌, Bool, true, false, ltb, List, [], ◌∷◌, ◌++◌, length, drop, Some, Ok, Err, Result, sym, refl, ap, ◌∙◌, subst, arith, length-append}
use Rattle.std.proofs.lemmas.List.{append_assoc, append-nil}
use Rattle.std.proofs.lemmas.Bool.{both_ways, cond-true, and_from, lt-ltb}
use Rattle.std.specs.List.{AllByRecursion}
use Rattle.kinds.specs.Readings.{Reading}
use Rattle.rules.specs.declared.entry.Entry.{Entry}
use Rattle.rules.specs.declared.rule.Rule.{Rule}
use Rattle.book.specs.declared.contents.Content.{Content}
use Rattle.book.specs.declared.contents.Content.TheVariants.{Filler, Heading, NewRule, NewEntry, End}
use Rattle.book.specs.declared.contents.Header.{Header}
use Rattle.book.specs.declared.faults.FrameFault.{FrameFault}
use Rattle.book.specs.declared.faults.FrameFault.TheVariants.{RecordCut, BodyCut}
use Rattle.book.specs.declared.faults.RecordFault.{RecordFault}
use Rattle.book.specs.declared.faults.BookFault.{BookFault}
use Rattle.book.specs.declared.faults.BookFault.TheVariants.{HeaderMisplaced, HeaderUnknown, Full, Trailing}
use Rattle.book.specs.declared.faults.Fault.{Fault}
use Rattle.book.specs.declared.faults.Fault.TheVariants.{Frame, Record, Rulebook}
use Rattle.book.specs.declared.faults.FileFault.{FileFault}
use Rattle.book.specs.declared.opened.Opened.{Opened}
use Rattle.book.specs.Files.{Says, EachSays, Body, Whole, Opening, BeginsWith, Saying, Faulty, Outcome, plain, rules_of, entries_of}
use Rattle.book.specs.Progress.{Progress, begun, nothing_yet, one_more, accepts}
use Rattle.book.proofs.Runs.{Makes, Rejects, Stops, Run}
use Rattle.book.proofs.Filing.{makes_more}
use Rattle.book.proofs.Telling.{headed, rules_end, entries_end}
use Rattle.book.proofs.Refusing.{misplaced_first, unknown_first, misplaced_later, full_later}

module _ {S : Type 0} (reads : List ℕ → Reading S) (lawful : S → Bool) (m n : ℕ) where
  -- the progress b after plain contents
  abbrev grown : Progress S → List (Content S) → Progress S
  grown b cs = record { policy = b.policy; ended = b.ended; rules = b.rules ++ rules_of cs; entries = b.entries ++ entries_of cs }

  record Space (b : Progress S) (cs : List (Content S)) : Type 0 where
    rules_few : length b.rules + length (rules_of cs) ≤ 64
    rules_fit : length b.rules + length (rules_of cs) ≤ m
    entries_few : length b.entries + length (entries_of cs) ≤ 32
    entries_fit : length b.entries + length (entries_of cs) ≤ n

  plain_run : (cs : List (Content S)) (xss : List (List ℕ)) (b : Progress S) → begun b ≡ true → b.ended ≡ false → AllByRecursion (λ x. plain x ≡ true) cs → EachSays reads lawful m n xss cs → Space b cs → Makes reads lawful m n b xss (grown b cs)
  plain_run [] [] b bg en pl say sp =
      ap (λ zs. record { policy = b.policy; ended = b.ended; rules = zs; entries = b.entries }) (sym (append-nil b.rules))
      ∙ ap (λ zs. record { policy = b.policy; ended = b.ended; rules = b.rules ++ []; entries = zs }) (sym (append-nil b.entries))
  plain_run [] (xs ∷ xss) b bg en pl say sp = absurd say
  plain_run (x ∷ cs) [] b bg en pl say sp = absurd say
  plain_run (Filler ∷ cs) (xs ∷ xss) b bg en pl say sp = (
    b,
    record { going = en; item = Filler; says = say.0; taken = cond-true (begun b) _ _ bg },
    plain_run cs xss b bg en pl.1 say.1 (record { rules_few = sp.rules_few; rules_fit = sp.rules_fit; entries_few = sp.entries_few; entries_fit = sp.entries_fit }),
  )
  plain_run (Heading h ∷ cs) (xs ∷ xss) b bg en pl say sp = absurd (both_ways false refl pl.0)
  plain_run (NewRule r ∷ cs) (xs ∷ xss) b bg en pl say sp =
      let more : Progress S = record { policy = b.policy; ended = b.ended; rules = b.rules ++ r ∷ []; entries = b.entries } in
      let l : length (b.rules ++ r ∷ []) ≡ length b.rules + 1 = length-append b.rules (r ∷ []) in
      let few = sp.rules_few in
      let fit = sp.rules_fit in
      let room = and_from (ltb (length b.rules) 64) (ltb (length b.rules) m) (lt-ltb (length b.rules) 64 (omega arith)) (lt-ltb (length b.rules) m (omega arith)) in (
        more,
        record { going = en; item = NewRule r; says = say.0; taken = cond-true (begun b) _ _ bg ∙ cond-true (one_more 64 m b.rules) _ _ room },
        subst (λ zs. Makes reads lawful m n more xss (record { policy = b.policy; ended = b.ended; rules = zs; entries = b.entries ++ entries_of cs })) (append_assoc b.rules (r ∷ []) (rules_of cs))
            (plain_run cs xss more bg en pl.1 say.1 (record { rules_few = omega arith; rules_fit = omega arith; entries_few = sp.entries_few; entries_fit = sp.entries_fit })),
      )
  plain_run (NewEntry e ∷ cs) (xs ∷ xss) b bg en pl say sp =
      let more : Progress S = record { policy = b.policy; ended = b.ended; rules = b.rules; entries = b.entries ++ e ∷ [] } in
      let l : length (b.entries ++ e ∷ []) ≡ length b.entries + 1 = length-append b.entries (e ∷ []) in
      let few = sp.entries_few in
      let fit = sp.entries_fit in
      let room = and_from (ltb (length b.entries) 32) (ltb (length b.entries) n) (lt-ltb (length b.entries) 32 (omega arith)) (lt-ltb (length b.entries) n (omega arith)) in (
        more,
        record { going = en; item = NewEntry e; says = say.0; taken = cond-true (begun b) _ _ bg ∙ cond-true (one_more 32 n b.entries) _ _ room },
        subst (λ zs. Makes reads lawful m n more xss (record { policy = b.policy; ended = b.ended; rules = b.rules ++ rules_of cs; entries = zs })) (append_assoc b.entries (e ∷ []) (entries_of cs))
            (plain_run cs xss more bg en pl.1 say.1 (record { rules_few = sp.rules_few; rules_fit = sp.rules_fit; entries_few = omega arith; entries_fit = omega arith })),
      )
  plain_run (End ∷ cs) (xs ∷ xss) b bg en pl say sp = absurd (both_ways false refl pl.0)

  -- the progress after a header and plain contents
  abbrev open' : Header → List (Content S) → Progress S
  open' h cs = record { policy = Some h.policy; ended = false; rules = rules_of cs; entries = entries_of cs }

  headed_run : (h : Header) (cs : List (Content S)) (xs : List ℕ) (xss : List (List ℕ)) → Body reads lawful m n h cs → Says reads lawful m n xs (Ok (Heading h)) → EachSays reads lawful m n xss cs → Makes reads lawful m n nothing_yet (xs ∷ xss) (open' h cs)
  headed_run h cs xs xss body says say =
      let b0 = body.rules_few in
      let b1 = body.rules_fit in
      let b2 = body.entries_few in
      let b3 = body.entries_fit in (
        headed reads lawful m n h,
        record { going = refl; item = Heading h; says = says; taken = cond-true _ _ _ body.header_good },
        plain_run cs xss (headed reads lawful m n h) refl refl body.all_plain say (record { rules_few = omega arith; rules_fit = omega arith; entries_few = omega arith; entries_fit = omega arith }),
      )

  -- the last record says the end
  record Split (xss : List (List ℕ)) (cs : List (Content S)) : Type 0 where
    front : List (List ℕ)
    last : List ℕ
    whole : xss ≡ front ++ last ∷ []
    say : EachSays reads lawful m n front cs
    end : Says reads lawful m n last (Ok End)

  split : (cs : List (Content S)) (xss : List (List ℕ)) → EachSays reads lawful m n xss (cs ++ End ∷ []) → Split xss cs
  split [] [] say = absurd say
  split [] (xs ∷ []) say = record { front = []; last = xs; whole = refl; say = tt; end = say.0 }
  split [] (xs ∷ (ys ∷ yss)) say = absurd say.1
  split (c ∷ cs) [] say = absurd say
  split (c ∷ cs) (xs ∷ xss) say =
      let s = split cs xss say.1 in
      record { front = xs ∷ s.front; last = s.last; whole = ap (λ zss. xs ∷ zss) s.whole; say = (say.0, s.say); end = s.end }

  abbrev shut : Header → List (Content S) → Progress S
  shut h cs = record { policy = Some h.policy; ended = true; rules = rules_of cs; entries = entries_of cs }

  whole_run : (h : Header) (cs all : List (Content S)) (xss : List (List ℕ)) → Whole reads lawful m n h cs all → EachSays reads lawful m n xss all → Makes reads lawful m n nothing_yet xss (shut h cs)
  whole_run h cs all xss w say = by xss (subst (λ zs. EachSays reads lawful m n xss zs) w.contents say)
    where
      by : (xss : List (List ℕ)) → EachSays reads lawful m n xss (Heading h ∷ (cs ++ End ∷ [])) → Makes reads lawful m n nothing_yet xss (shut h cs)
      by [] say = absurd say
      by (xs ∷ xss) say =
          let s = split cs xss say.1 in
          subst (λ zss. Makes reads lawful m n nothing_yet zss (shut h cs)) (ap (λ zss. xs ∷ zss) (sym s.whole))
          (makes_more reads lawful m n nothing_yet (open' h cs) (shut h cs) (xs ∷ s.front) s.last (headed_run h cs xs s.front w.body say.0 s.say)
          (record { going = refl; item = End; says = s.end; taken = refl }))

  -- why the reader stops, where the end was not read
  rejects : (c : Progress S) (bs : List ℕ) (f : BookFault) (Q : Content S → Type 0) → ((x : Content S) → Q x → accepts m n c x ≡ Err f) → BeginsWith bs (Saying reads lawful m n Q) → Rejects reads lawful m n c bs f
  rejects c bs f Q why b = record { xs = b.xs; more = b.more; front = b.front; item = b.first.0; says = b.first.1; refused = why b.first.0 b.first.2 }

  record Stopping (cs : List (Content S)) (xss : List (List ℕ)) (bs : List ℕ) (f : Fault) : Type 0 where
    at : Progress S
    makes : Makes reads lawful m n nothing_yet xss at
    rules_are : at.rules ≡ rules_of cs
    entries_are : at.entries ≡ entries_of cs
    stops : Stops reads lawful m n at bs f

  fresh : (bs : List ℕ) (f : Fault) → Faulty reads lawful m n [] bs f → Stops reads lawful m n nothing_yet bs f
  fresh bs (Frame RecordCut) k = (refl, k.1)
  fresh bs (Frame BodyCut) k = (refl, (k.1, k.2))
  fresh bs (Record e) k = (refl, record { xs = k.1.xs; more = k.1.more; front = k.1.front; says = k.1.first })
  fresh bs (Rulebook HeaderMisplaced) k = (refl, rejects nothing_yet bs HeaderMisplaced _ (misplaced_first m n) k.1)
  fresh bs (Rulebook HeaderUnknown) k = (refl, rejects nothing_yet bs HeaderUnknown _ (unknown_first m n) k.1)
  fresh bs (Rulebook Full) k = absurd (k.1 refl)
  fresh bs (Rulebook Trailing) k = let w = k.0.2 in let e = w.contents in absurd (let z : ◌≡◌ {A = ℕ} 0 1 = cc in let y : ⊥ = omega arith in y)

  going : (h : Header) (cs : List (Content S)) (bs : List ℕ) (f : Fault) → (f ≡ Rulebook Trailing → ⊥) → Faulty reads lawful m n (Heading h ∷ cs) bs f → Body reads lawful m n h cs × Stops reads lawful m n (open' h cs) bs f
  going h cs bs (Frame RecordCut) ne k = (k.0, (refl, k.1))
  going h cs bs (Frame BodyCut) ne k = (k.0, (refl, (k.1, k.2)))
  going h cs bs (Record e) ne k = (k.0, (refl, record { xs = k.1.xs; more = k.1.more; front = k.1.front; says = k.1.first }))
  going h cs bs (Rulebook HeaderMisplaced) ne k = (k.0, (refl, rejects (open' h cs) bs HeaderMisplaced _ (misplaced_later m n (open' h cs) refl) k.1))
  going h cs bs (Rulebook HeaderUnknown) ne k = let e = k.0 in absurd (let z : ◌≡◌ {A = ℕ} 0 1 = cc in let y : ⊥ = omega arith in y)
  going h cs bs (Rulebook Full) ne k = (k.0, (refl, rejects (open' h cs) bs Full _ (full_later m n (open' h cs) refl) k.2))
  going h cs bs (Rulebook Trailing) ne k = absurd (ne refl)

  -- such contents may stand at the front of a file
  opening : (cs : List (Content S)) (bs : List ℕ) (f : Fault) → (f ≡ Rulebook Trailing → ⊥) → Faulty reads lawful m n cs bs f → Opening reads lawful m n cs
  opening cs bs (Frame RecordCut) ne k = k.0
  opening cs bs (Frame BodyCut) ne k = k.0
  opening cs bs (Record e) ne k = k.0
  opening cs bs (Rulebook HeaderMisplaced) ne k = k.0
  opening cs bs (Rulebook HeaderUnknown) ne k = subst (Opening reads lawful m n) (sym k.0) tt
  opening cs bs (Rulebook Full) ne k = k.0
  opening cs bs (Rulebook Trailing) ne k = absurd (ne refl)

  open_stop : (cs : List (Content S)) (xss : List (List ℕ)) (bs : List ℕ) (f : Fault) → (f ≡ Rulebook Trailing → ⊥) → Opening reads lawful m n cs → EachSays reads lawful m n xss cs → Faulty reads lawful m n cs bs f → Stopping cs xss bs f
  open_stop [] [] bs f ne op say k = record { at = nothing_yet; makes = refl; rules_are = refl; entries_are = refl; stops = fresh bs f k }
  open_stop [] (xs ∷ xss) bs f ne op say k = absurd say
  open_stop (Filler ∷ cs) xss bs f ne op say k = absurd op
  open_stop (Heading h ∷ cs) [] bs f ne op say k = absurd say
  open_stop (Heading h ∷ cs) (xs ∷ xss) bs f ne op say k = record {
    at = open' h cs;
    makes = headed_run h cs xs xss op say.0 say.1;
    rules_are = refl;
    entries_are = refl;
    stops = (going h cs bs f ne k).1;
  }
  open_stop (NewRule r ∷ cs) xss bs f ne op say k = absurd op
  open_stop (NewEntry e ∷ cs) xss bs f ne op say k = absurd op
  open_stop (End ∷ cs) xss bs f ne op say k = absurd op

  unlike_frame : {e : FrameFault} → ◌≡◌ {A = Fault} (Frame e) (Rulebook Trailing) → ⊥
  unlike_frame p = let z : ◌≡◌ {A = ℕ} 0 1 = cc in omega arith

  unlike_record : {e : RecordFault} → ◌≡◌ {A = Fault} (Record e) (Rulebook Trailing) → ⊥
  unlike_record p = let z : ◌≡◌ {A = ℕ} 0 1 = cc in omega arith

  stopping : (cs : List (Content S)) (xss : List (List ℕ)) (bs : List ℕ) (f : Fault) → EachSays reads lawful m n xss cs → Faulty reads lawful m n cs bs f → Stopping cs xss bs f
  stopping cs xss bs (Frame e) say k = open_stop cs xss bs (Frame e) unlike_frame (opening cs bs (Frame e) unlike_frame k) say k
  stopping cs xss bs (Record e) say k = open_stop cs xss bs (Record e) unlike_record (opening cs bs (Record e) unlike_record k) say k
  stopping cs xss bs (Rulebook HeaderMisplaced) say k = open_stop cs xss bs (Rulebook HeaderMisplaced) not_that (opening cs bs (Rulebook HeaderMisplaced) not_that k) say k
    where
      not_that : ◌≡◌ {A = Fault} (Rulebook HeaderMisplaced) (Rulebook Trailing) → ⊥
      not_that p = let z : ◌≡◌ {A = ℕ} 0 1 = cc in omega arith
  stopping cs xss bs (Rulebook HeaderUnknown) say k = open_stop cs xss bs (Rulebook HeaderUnknown) not_that (opening cs bs (Rulebook HeaderUnknown) not_that k) say k
    where
      not_that : ◌≡◌ {A = Fault} (Rulebook HeaderUnknown) (Rulebook Trailing) → ⊥
      not_that p = let z : ◌≡◌ {A = ℕ} 0 1 = cc in omega arith
  stopping cs xss bs (Rulebook Full) say k = open_stop cs xss bs (Rulebook Full) not_that (opening cs bs (Rulebook Full) not_that k) say k
    where
      not_that : ◌≡◌ {A = Fault} (Rulebook Full) (Rulebook Trailing) → ⊥
      not_that p = let z : ◌≡◌ {A = ℕ} 0 1 = cc in omega arith
  stopping cs xss bs (Rulebook Trailing) say k =
      let h = k.0.0 in
      let inner = k.0.1 in
      let w = k.0.2 in
      record {
        at = shut h inner;
        makes = whole_run h inner cs xss w say;
        rules_are = sym (rules_end inner) ∙ ap rules_of (sym w.contents);
        entries_are = sym (entries_end inner) ∙ ap entries_of (sym w.contents);
        stops = (refl, k.1);
      }

module _ {S : Type 0} (reads : List ℕ → Reading S) (lawful : S → Bool) (bytes : List ℕ) (rs : List (Rule S)) (es : List Entry) where
  front_kept : {X : Type 0} (xs ys zs ws : List X) → ys ≡ ws → zs ≡ ys ++ drop (length ys) xs → zs ≡ ws ++ drop (length ws) xs
  front_kept xs ys zs ws e h = h ∙ ap (λ (v : List _). v ++ drop (length v) xs) e

  pub untold : (rs' : List (Rule S)) (es' : List Entry) (r : Result Opened FileFault) → Outcome reads lawful bytes rs es rs' es' r → Run reads lawful bytes rs es rs' es' r
  untold rs' es' (Ok o) out =
      let a = out.answer in
      let ac = a.2 in
      let op = a.3 in
      let w = ac.whole in
      let ra : rules_of out.said ≡ rules_of a.1 = ap rules_of w.contents ∙ rules_end a.1 in
      let ea : entries_of out.said ≡ entries_of a.1 = ap entries_of w.contents ∙ entries_end a.1 in
      record {
        book = shut reads lawful (length rs) (length es) a.0 a.1;
        came = (
          record { records = ac.records; whole = ac.in_a_row; makes = whole_run reads lawful (length rs) (length es) a.0 a.1 out.said ac.records w ac.say; ended = refl },
          record { policy_is = ap Some op.policy_is; rules_are = op.rules_are ∙ ap length ra; entries_are = op.entries_are ∙ ap length ea },
        );
        rules = front_kept rs (rules_of out.said) rs' (rules_of a.1) ra out.rules_after;
        entries = front_kept es (entries_of out.said) es' (entries_of a.1) ea out.entries_after;
      }
  untold rs' es' (Err f) out =
      let a = out.answer in
      let s = stopping reads lawful (length rs) (length es) out.said a.records a.rest f.fault a.say a.faulty in
      record {
        book = s.at;
        came = record { records = a.records; rest = a.rest; whole = a.in_a_row; makes = s.makes; place = a.place_is; faulty = s.stops };
        rules = front_kept rs (rules_of out.said) rs' s.at.rules (sym s.rules_are) out.rules_after;
        entries = front_kept es (entries_of out.said) es' s.at.entries (sym s.entries_are) out.entries_after;
      }
