-- How the smallest file is read, and what is shorter than it.
use Rattle.std.proofs.Common.{ℕ, Bool, List, [], ◌∷◌, ◌++◌, length, Ok, Err, refl, arith, lit≤}
use Rattle.kinds.specs.Readings.{Reading}
use Rattle.rules.specs.declared.entry.Entry.{Entry}
use Rattle.rules.specs.declared.rule.Rule.{Rule}
use Rattle.rules.specs.declared.shipped.Shipped.TheVariants.{Denial}
use Rattle.book.specs.declared.contents.Content.TheVariants.{Heading, End}
use Rattle.book.specs.declared.contents.Header.{Header}
use Rattle.book.specs.declared.faults.Fault.TheVariants.{Frame}
use Rattle.book.specs.declared.faults.FileFault.{FileFault}
use Rattle.book.specs.declared.faults.FrameFault.TheVariants.{RecordCut}
use Rattle.book.specs.declared.opened.Opened.{Opened}
use Rattle.book.specs.Files.{Says, Body, Outcome}

abbrev header : Header
header = record { edition = 2; policy = 2 }

-- the records of that header and of the end
abbrev pub head : List ℕ
head = 4 ∷ 0 ∷ 1 ∷ 0 ∷ 2 ∷ 0 ∷ 2 ∷ 0 ∷ []

abbrev pub end : List ℕ
end = 0 ∷ 0 ∷ 4 ∷ 0 ∷ []

-- a book with nothing in it, under the policy with code 2
abbrev pub nothing_in_it : Opened
nothing_in_it = record { book = record { rules = record { count = 0; within = lit≤ tt }; entries = record { count = 0; within = lit≤ tt } }; policy = Denial }

-- no whole record starts at the place
abbrev pub no_record_at : ℕ → FileFault
no_record_at place = record { place = place; fault = Frame RecordCut }

module _ {S : Type 0} (reads : List ℕ → Reading S) (lawful : S → Bool) (rs : List (Rule S)) (es : List Entry) where
  head_says : Says reads lawful (length rs) (length es) head (Ok (Heading header))
  head_says = record {
    kind = 1;
    body = 2 ∷ 0 ∷ 2 ∷ 0 ∷ [];
    spells = record { long = refl; size = refl; sort = refl; rest = refl };
    content_is = refl;
  }

  end_says : Says reads lawful (length rs) (length es) end (Ok End)
  end_says = record { kind = 4; body = []; spells = record { long = refl; size = refl; sort = refl; rest = refl }; content_is = refl }

  empty_body : Body reads lawful (length rs) (length es) header []
  empty_body = record {
    header_good = refl;
    all_plain = tt;
    rules_few = lit≤ tt;
    rules_fit = omega arith;
    entries_few = lit≤ tt;
    entries_fit = omega arith;
  }

  -- a header and the end
  pub smallest_outcome : Outcome reads lawful (head ++ end) rs es rs es (Ok nothing_in_it)
  smallest_outcome = record {
    said = Heading header ∷ End ∷ [];
    answer = (
      header,
      [],
      record {
        records = head ∷ end ∷ [];
        in_a_row = refl;
        say = (head_says, (end_says, tt));
        whole = record { contents = refl; body = empty_body };
      },
      record { policy_is = refl; rules_are = refl; entries_are = refl },
    );
    rules_after = refl;
    entries_after = refl;
  }

  -- the header alone
  pub header_outcome : Outcome reads lawful head rs es rs es (Err (no_record_at 8))
  header_outcome = record {
    said = Heading header ∷ [];
    answer = record {
      records = head ∷ [];
      rest = [];
      in_a_row = refl;
      say = (head_says, tt);
      place_is = refl;
      faulty = (empty_body, lit≤ tt);
    };
    rules_after = refl;
    entries_after = refl;
  }

  -- no byte
  pub empty_outcome : Outcome reads lawful [] rs es rs es (Err (no_record_at 0))
  empty_outcome = record {
    said = [];
    answer = record { records = []; rest = []; in_a_row = refl; say = tt; place_is = refl; faulty = (tt, lit≤ tt) };
    rules_after = refl;
    entries_after = refl;
  }
