-- Entries lead from the opening of a daemon to its table: at the beginning, and with one more.
use Rattle.std.proofs.Common.{◌≡◌, true, List, [], ◌∷◌, ◌++◌, Option, Some, Result, refl, sym, subst, ◌∙◌}
use Rattle.std.specs.List.{AllZip}
use Rattle.std.proofs.lemmas.Bool.{and_parts}
use Rattle.std.proofs.lemmas.List.Elements.{All-push, All-nil}
use Rattle.cast_types.specs.declared.names.DomainNo.{DomainNo}
use Rattle.cast_types.specs.declared.names.SiteNo.{SiteNo}
use Rattle.cast_types.specs.Names.{group_cmp}
use Rattle.cast_types.specs.Rising.{is_rising}
use Rattle.cast_events.specs.declared.config.Config.{Config}
use Rattle.cast_events.specs.declared.config.DomainConfig.{DomainConfig}
use Rattle.cast_events.specs.declared.event.Outs.{Outs}
use Rattle.cast_events.specs.declared.event.Taken.{Taken}
use Rattle.cast_events.specs.declared.log.Fault.{Fault}
use Rattle.cast_rules.specs.State.{State, opening}
use Rattle.cast_domain.specs.declared.domain.Domain.{Domain}
use Rattle.cast_domain.specs.declared.shared.Shared.{Shared}
use Rattle.cast_domain.specs.Shared.{part_of, no_part}
use Rattle.cast_domain.specs.Fits.{Represents}
use Rattle.cast_table.specs.declared.table.Table.{Table}
use Rattle.cast_table.specs.Tables.{domains_of, shared_of, lent_of, by_number, IsNew, SharesNothing, IsApplied, NotesHalts}
use Rattle.cast_table.specs.Owns.{are_distinct, have_rising_groups}
use Rattle.cast_table.proofs.Places.{IsNumbered}
use Rattle.cast_table.proofs.Ordered.{configured_same, distinct_by_number, rising_by_number}
use Rattle.cast_events.specs.declared.entry.Entry.{Entry}
use Rattle.cast_pool.specs.Traces.{StandsFor, Leads, LeadsAll, IsEntryOf}
use Rattle.cast_trail.specs.Notes.{noted_of}
use Rattle.cast_pool.specs.Kept.{IsReplayed, Replays}
use Rattle.cast_pool.proofs.Numbers.{apart_configured, configured_among}
use Rattle.cast_pool.proofs.Turns.{Follows}
use Rattle.cast_pool.proofs.Events.{IsEntryAmong, taken_in}

leads_push : (d : DomainNo) (history : List Entry) (e : Entry) (s t u : Option State) → LeadsAll d history s t → Leads d e t u
    → LeadsAll d (history ++ e ∷ []) s u
leads_push d [] e s t u leads next = (u, subst (λ x. Leads d e x u) leads next, refl)
leads_push d (x ∷ history) e s t u leads next = (leads.0, leads.1, leads_push d history e leads.0 t u leads.2 next)

-- One entry more

module _ (here : SiteNo) (history : List Entry) (e : Entry) (start end : Shared) where
  replayed_push : (config : DomainConfig) (old new : Domain) → IsReplayed here history start config old → Follows e start end old new
      → IsReplayed here (history ++ e ∷ []) end config new
  replayed_push config old new replayed follows =
      let stands =
      subst (λ n. StandsFor old (part_of n start) replayed.end) (sym replayed.number) replayed.ends in
      let next = follows.next replayed.end stands in
      record {
        number = follows.number ∙ replayed.number;
        end = next.state;
        leads = leads_push config.domain history e (Some (opening here config)) replayed.end next.state replayed.leads
            (subst (λ n. Leads n e replayed.end next.state) replayed.number next.leads);
        ends = subst (λ n. StandsFor new (part_of n end) next.state) replayed.number next.stands;
      }

  all_push : (configs : List DomainConfig) (olds news : List Domain) → AllZip (IsReplayed here history start) configs olds
      → AllZip (Follows e start end) olds news → AllZip (IsReplayed here (history ++ e ∷ []) end) configs news
  all_push [] [] [] replayed follow = tt
  all_push [] [] (n ∷ news) replayed follow = absurd follow
  all_push [] (o ∷ olds) news replayed follow = absurd replayed
  all_push (c ∷ configs) [] news replayed follow = absurd replayed
  all_push (c ∷ configs) (o ∷ olds) [] replayed follow = absurd follow
  all_push (c ∷ configs) (o ∷ olds) (n ∷ news) replayed follow =
      (replayed_push c o n replayed.0 follow.0, all_push configs olds news replayed.1 follow.1)

-- the domains of the table have the numbers of those that are configured
numbered : (here : SiteNo) (history : List Entry) (now : Shared) (configs : List DomainConfig) (ds : List Domain)
    → AllZip (IsReplayed here history now) configs ds → AllZip IsNumbered configs ds
numbered here history now [] [] all = tt
numbered here history now [] (d ∷ ds) all = absurd all
numbered here history now (c ∷ configs) [] all = absurd all
numbered here history now (c ∷ configs) (d ∷ ds) all = (all.0.number, numbered here history now configs ds all.1)

-- what an entry says of itself among the domains of the table, it says among those that are configured
entry_of : (configs : List DomainConfig) (ds : List Domain) (e : Entry) → AllZip IsNumbered (by_number configs) ds
    → IsEntryAmong ds e → IsEntryOf configs e
entry_of configs ds e all among =
    record {
      halts = among.halts;
      tick = among.tick;
      known = λ d its. sym (configured_among d (by_number configs) ds all ∙ configured_same d configs) ∙ among.known d its;
    }

pub replays_push : (config : Config) (history : List Entry) (old new : Table) (e : Entry) (a : Result Taken Fault) (before after : Outs)
    → Replays config history old → noted_of a ≡ Some e.answer
    → IsApplied a e.event (domains_of old) (domains_of new) (lent_of old before) (lent_of new after)
    → NotesHalts a e.event (domains_of old) (domains_of new) [] e.halted → Replays config (history ++ e ∷ []) new
replays_push config history old new e a before after replays says applied notes =
    let configs = by_number config.domains in
    let all = numbered config.site history (shared_of old) configs (domains_of old) replays.domains in
    let made =
    taken_in e (domains_of old) (domains_of new) (lent_of old before) (lent_of new after)
    (apart_configured configs (domains_of old) all ∙ distinct_by_number config.domains replays.distinct)
    a says applied notes in
    record {
      distinct = replays.distinct;
      domains = all_push config.site history e (shared_of old) (shared_of new) configs (domains_of old) (domains_of new)
          replays.domains made.follow;
      entries = All-push (IsEntryOf config.domains) history e replays.entries
          (entry_of config.domains (domains_of old) e all made.entry);
    }

-- The beginning

new_one : (here : SiteNo) (config : DomainConfig) (now : Shared) (d : Domain) → ((n : DomainNo) → part_of n now ≡ no_part)
    → is_rising group_cmp config.groups ≡ true → IsNew here config d → IsReplayed here [] now config d
new_one here config now d none rising is =
    record {
      number = is.number;
      end = Some (opening here config);
      leads = refl;
      ends = (is.running, subst (λ p. Represents d p (opening here config)) (sym (none config.domain)) (is.begins rising));
    }

all_new : (here : SiteNo) (now : Shared) → ((n : DomainNo) → part_of n now ≡ no_part) → (configs : List DomainConfig) (ds : List Domain)
    → have_rising_groups configs ≡ true → AllZip (IsNew here) configs ds → AllZip (IsReplayed here [] now) configs ds
all_new here now none [] [] rising all = tt
all_new here now none [] (d ∷ ds) rising all = absurd all
all_new here now none (c ∷ configs) [] rising all = absurd all
all_new here now none (c ∷ configs) (d ∷ ds) rising all =
    let parts = and_parts (is_rising group_cmp c.groups) (have_rising_groups configs) rising in
    (new_one here c now d none parts.0 all.0, all_new here now none configs ds parts.1 all.1)

pub replays_new : (config : Config) (table : Table) → are_distinct config.domains ≡ true → have_rising_groups config.domains ≡ true
    → AllZip (IsNew config.site) (by_number config.domains) (domains_of table) → SharesNothing table → Replays config [] table
replays_new config table distinct rising all none =
    record {
      distinct = distinct;
      domains = all_new config.site (shared_of table) none (by_number config.domains) (domains_of table)
          (rising_by_number config.domains ∙ rising) all;
      entries = All-nil (IsEntryOf config.domains);
    }
