-- Why a record has no place in the rulebook: from the reader's answer to the words, and back.
use Rattle.std.proofs.Common.{◌≡◌, ℕ, ◌≤◌, true, false, ltb, ◌⊎◌, List, length, Err, Result, sym, refl, ap, ◌∙◌, inl, inr, ⊎_elim, arith}
use Rattle.std.proofs.lemmas.Bool.{both_ways, cond-true, cond-false, and_cases, and_left, and_right, ltb-false, le-ltb}
use Rattle.rules.specs.declared.entry.Entry.{Entry}
use Rattle.rules.specs.declared.rule.Rule.{Rule}
use Rattle.book.specs.declared.contents.Content.{Content}
use Rattle.book.specs.declared.contents.Content.TheVariants.{Filler, Heading, NewRule, NewEntry, End}
use Rattle.book.specs.declared.contents.Header.{Header}
use Rattle.book.specs.declared.faults.BookFault.{BookFault}
use Rattle.book.specs.declared.faults.BookFault.TheVariants.{HeaderMisplaced, HeaderUnknown, Full}
use Rattle.book.specs.Files.{good_header}
use Rattle.book.specs.Progress.{Progress, begun, nothing_yet, one_more, accepts}
use Rattle.book.proofs.Telling.{only_err}

unlike_full : Full ≡ HeaderMisplaced → ⊥
unlike_full e = let z : ◌≡◌ {A = ℕ} 0 1 = cc in omega arith

full_unknown : Full ≡ HeaderUnknown → ⊥
full_unknown e = let z : ◌≡◌ {A = ℕ} 0 1 = cc in omega arith

misplaced_unknown : HeaderMisplaced ≡ HeaderUnknown → ⊥
misplaced_unknown e = let z : ◌≡◌ {A = ℕ} 0 1 = cc in omega arith

misplaced_full : HeaderMisplaced ≡ Full → ⊥
misplaced_full e = let z : ◌≡◌ {A = ℕ} 0 1 = cc in omega arith

unknown_misplaced : HeaderUnknown ≡ HeaderMisplaced → ⊥
unknown_misplaced e = let z : ◌≡◌ {A = ℕ} 0 1 = cc in omega arith

unknown_full : HeaderUnknown ≡ Full → ⊥
unknown_full e = let z : ◌≡◌ {A = ℕ} 0 1 = cc in omega arith

-- no room by the limit or by the memory
abbrev pub NoRoom : {X : Type 0} → ℕ → ℕ → List X → Type 0
NoRoom limit k xs = (limit ≤ length xs) ⊎ (k ≤ length xs)

no_room : {X : Type 0} (limit k : ℕ) (xs : List X) → one_more limit k xs ≡ false → NoRoom limit k xs
no_room limit k xs e = ⊎_elim (λ a. inl (ltb-false (length xs) limit a)) (λ b. inr (ltb-false (length xs) k b)) (and_cases (ltb (length xs) limit) (ltb (length xs) k) e)

room_none : {X : Type 0} (limit k : ℕ) (xs : List X) → NoRoom limit k xs → one_more limit k xs ≡ false
room_none limit k xs w = ⊎_elim (λ a. and_left (ltb (length xs) limit) (ltb (length xs) k) (le-ltb (length xs) limit a)) (λ b. and_right (ltb (length xs) limit) (ltb (length xs) k) (le-ltb (length xs) k b)) w

module _ {S : Type 0} (m n : ℕ) where
  same_err : (e f : BookFault) → ◌≡◌ {A = Result (Progress S) BookFault} (Err e) (Err f) → e ≡ f
  same_err e f p = cc

  -- before the header
  pub first_misplaced : (x : Content S) → accepts m n nothing_yet x ≡ Err HeaderMisplaced → (h : Header) → x ≡ Heading h → ⊥
  first_misplaced Filler e h q = let z : ◌≡◌ {A = ℕ} 0 1 = cc in omega arith
  first_misplaced (Heading g) e h q = unknown_misplaced (only_err (good_header g) _ HeaderUnknown HeaderMisplaced e).1
  first_misplaced (NewRule r) e h q = let z : ◌≡◌ {A = ℕ} 0 1 = cc in omega arith
  first_misplaced (NewEntry x) e h q = let z : ◌≡◌ {A = ℕ} 0 1 = cc in omega arith
  first_misplaced End e h q = let z : ◌≡◌ {A = ℕ} 0 1 = cc in omega arith

  pub misplaced_first : (x : Content S) → ((h : Header) → x ≡ Heading h → ⊥) → accepts m n nothing_yet x ≡ Err HeaderMisplaced
  misplaced_first Filler none = refl
  misplaced_first (Heading g) none = absurd (none g refl)
  misplaced_first (NewRule r) none = refl
  misplaced_first (NewEntry x) none = refl
  misplaced_first End none = refl

  pub first_unknown : (x : Content S) → accepts m n nothing_yet x ≡ Err HeaderUnknown → (h : Header) × (x ≡ Heading h) × (good_header h ≡ false)
  first_unknown Filler e = absurd (misplaced_unknown (same_err _ _ e))
  first_unknown (Heading g) e = (g, refl, (only_err (good_header g) _ HeaderUnknown HeaderUnknown e).0)
  first_unknown (NewRule r) e = absurd (misplaced_unknown (same_err _ _ e))
  first_unknown (NewEntry x) e = absurd (misplaced_unknown (same_err _ _ e))
  first_unknown End e = absurd (misplaced_unknown (same_err _ _ e))

  pub unknown_first : (x : Content S) → (h : Header) × (x ≡ Heading h) × (good_header h ≡ false) → accepts m n nothing_yet x ≡ Err HeaderUnknown
  unknown_first x w = ap (accepts m n nothing_yet) w.1 ∙ cond-false (good_header w.0) _ _ w.2

  pub first_full : (x : Content S) → accepts m n nothing_yet x ≡ Err Full → ⊥
  first_full Filler e = misplaced_full (same_err _ _ e)
  first_full (Heading g) e = unknown_full (only_err (good_header g) _ HeaderUnknown Full e).1
  first_full (NewRule r) e = misplaced_full (same_err _ _ e)
  first_full (NewEntry x) e = misplaced_full (same_err _ _ e)
  first_full End e = misplaced_full (same_err _ _ e)

  -- after it
  module _ (c : Progress S) (came : begun c ≡ true) where
    rule_answer : (r : Rule S) (f : BookFault) → accepts m n c (NewRule r) ≡ Err f → (one_more 64 m c.rules ≡ false) × (Full ≡ f)
    rule_answer r f e = only_err (one_more 64 m c.rules) _ Full f (sym (cond-true (begun c) _ _ came) ∙ e)

    entry_answer : (x : Entry) (f : BookFault) → accepts m n c (NewEntry x) ≡ Err f → (one_more 32 n c.entries ≡ false) × (Full ≡ f)
    entry_answer x f e = only_err (one_more 32 n c.entries) _ Full f (sym (cond-true (begun c) _ _ came) ∙ e)

    pub later_misplaced : (x : Content S) → accepts m n c x ≡ Err HeaderMisplaced → (h : Header) × (x ≡ Heading h)
    later_misplaced Filler e = absurd (both_ways (begun c) (only_err (begun c) _ HeaderMisplaced HeaderMisplaced e).0 came)
    later_misplaced (Heading g) e = (g, refl)
    later_misplaced (NewRule r) e = absurd (unlike_full (rule_answer r HeaderMisplaced e).1)
    later_misplaced (NewEntry x) e = absurd (unlike_full (entry_answer x HeaderMisplaced e).1)
    later_misplaced End e = absurd (both_ways (begun c) (only_err (begun c) _ HeaderMisplaced HeaderMisplaced e).0 came)

    pub misplaced_later : (x : Content S) → (h : Header) × (x ≡ Heading h) → accepts m n c x ≡ Err HeaderMisplaced
    misplaced_later x w = ap (accepts m n c) w.1 ∙ cond-true (begun c) _ _ came

    pub later_unknown : (x : Content S) → accepts m n c x ≡ Err HeaderUnknown → ⊥
    later_unknown Filler e = both_ways (begun c) (only_err (begun c) _ HeaderMisplaced HeaderUnknown e).0 came
    later_unknown (Heading g) e = misplaced_unknown (same_err _ _ (sym (cond-true (begun c) _ _ came) ∙ e))
    later_unknown (NewRule r) e = full_unknown (rule_answer r HeaderUnknown e).1
    later_unknown (NewEntry x) e = full_unknown (entry_answer x HeaderUnknown e).1
    later_unknown End e = both_ways (begun c) (only_err (begun c) _ HeaderMisplaced HeaderUnknown e).0 came

    abbrev pub Overfull : Content S → Type 0
    Overfull x = ((r : Rule S) × (x ≡ NewRule r) × NoRoom 64 m c.rules) ⊎ ((e : Entry) × (x ≡ NewEntry e) × NoRoom 32 n c.entries)

    pub later_full : (x : Content S) → accepts m n c x ≡ Err Full → Overfull x
    later_full Filler e = absurd (both_ways (begun c) (only_err (begun c) _ HeaderMisplaced Full e).0 came)
    later_full (Heading g) e = absurd (misplaced_full (same_err _ _ (sym (cond-true (begun c) _ _ came) ∙ e)))
    later_full (NewRule r) e = inl (r, refl, no_room 64 m c.rules (rule_answer r Full e).0)
    later_full (NewEntry x) e = inr (x, refl, no_room 32 n c.entries (entry_answer x Full e).0)
    later_full End e = absurd (both_ways (begun c) (only_err (begun c) _ HeaderMisplaced Full e).0 came)

    pub full_later : (x : Content S) → Overfull x → accepts m n c x ≡ Err Full
    full_later x w = ⊎_elim
        (λ a. ap (accepts m n c) a.1 ∙ cond-true (begun c) _ _ came ∙ cond-false (one_more 64 m c.rules) _ _ (room_none 64 m c.rules a.2))
        (λ a. ap (accepts m n c) a.1 ∙ cond-true (begun c) _ _ came ∙ cond-false (one_more 32 n c.entries) _ _ (room_none 32 n c.entries a.2))
        w
