-- What is held agrees with a log, call after call; and who is entitled by rules then.
use Rattle.std.proofs.Common.{◌≡◌, ℕ, false, ◌↔◌, ◌∷◌, Ok, Decides, sym, subst, rules}
use Rattle.std.proofs.lemmas.Bool.Decides.{same_from_decides}
use Rattle.rules.specs.declared.seniority.Seniority.{Seniority}
use Rattle.rules.specs.Ranks.{is_senior}
use Rattle.rules.specs.Rules.{Senior, AllowedBy}
use Rattle.rules.proofs.VerdictLaws.{same_table}
use Rattle.tables.specs.Panels.{person_at}
use Rattle.tables.specs.Settings.{GrantedBy as GrantedIn, DeniedBy as DeniedIn}
use Rattle.logs.specs.Moments.{Moment, GrantedBy, DeniedBy, ByRules, ByTable, by}
use Rattle.logs.specs.Logs.{Plant, Log, granted, clock, records, seat, moment}
use Rattle.logs.specs.Promises.{Held, Whole, Ranks}
use Rattle.logs.specs.Steps.{now_held, Became}
use Rattle.logs.specs.declared.call.Call.{Call}
use Rattle.logs.specs.declared.exchange.Exchange.{Exchange}
use Rattle.logs.specs.declared.reply.Answer.TheVariants.{Done}

-- a table of seniority has no part in which of the rules met grant or deny
module _ {V S : Type 0} (m : Moment V S) (table : Seniority) (person role i : ℕ) where
  pub granted_in : GrantedIn (by m table) person role i ↔ GrantedBy m person role i
  granted_in = search rules

  pub denied_in : DeniedIn (by m table) person role i ↔ DeniedBy m person role i
  denied_in = search rules

module _ {V S : Type 0} (p : Plant V S) where
  -- the clock, the records and the persons at the panels are those of the log
  pub record Agrees (log : Log V) (held : Held V) : Type 0 where
    pub same_clock : held.clock ≡ clock p log
    pub same_records : held.records ≡ records p log
    pub same_persons : (at : ℕ) → person_at held.panels at ≡ seat p log at

  pub whole_agrees : (log : Log V) (held : Held V) → Whole p log held → Agrees log held
  whole_agrees log held w = search rules

  pub same_moment : (log : Log V) (held : Held V) → Agrees log held → now_held p held ≡ moment p log
  same_moment log held a = search rules

  -- what is refused, or asked, changes none of them
  module _ (e : Exchange V) (log : Log V) (unchanged : granted e.reply ≡ false) where
    pub seat_stays : (at : ℕ) → seat p (e ∷ log) at ≡ seat p log at
    seat_stays at = search rules

    pub moment_stays : moment p (e ∷ log) ≡ moment p log
    moment_stays = search rules

    pub agrees_unchanged : (held : Held V) → Agrees log held → Agrees (e ∷ log) held
    agrees_unchanged held a = search rules

  pub agrees_granted : (table : Seniority) (old : Held V) (call : Call V) (new : Held V) (log : Log V) → Became p table old call new →
      Agrees log old → Agrees (record { call = call; reply = Ok Done } ∷ log) new
  agrees_granted table old call new log b a = search rules

  -- the table that ranks the rulebook's rules is the only one that does
  module _ (table : Seniority) (ranks : Ranks p table) (log : Log V) (person role : ℕ) where
    pub by_table_is_by_rules : ByTable (moment p log) table person role ↔ ByRules (moment p log) person role
    by_table_is_by_rules = (
      (λ b. record { value = b.value; on_record = b.on_record; allowed = record { table = table; all_senior = senior; by_table = b.allowed } }),
      (λ b.
          let a = b.allowed in
          let same : a.table ≡ table = same_table a.table table (λ i j. same_from_decides _ _ (a.all_senior i j) (senior i j)) in
          record {
            value = b.value;
            on_record = b.on_record;
            allowed = subst (λ t. AllowedBy p.book p.judge t b.value role (clock p log)) same a.by_table;
          }),
    )
      where
        senior : (i j : ℕ) → Decides (is_senior table i j) (Senior p.book i j)
        senior = ranks.senior_exactly_when_its_test_implies_the_other

    pub held_is_by_rules : (held : Held V) → Agrees log held → ByTable (now_held p held) table person role ↔ ByRules (moment p log) person role
    held_is_by_rules held a =
        subst (λ s. ByTable s table person role ↔ ByRules (moment p log) person role) (sym (same_moment log held a)) by_table_is_by_rules
