-- What is shown of a domain is what the history says that it stands for.
use Rattle.std.proofs.Common.{◌≡◌, length, map, filter, Some, sym, ap, ◌∙◌}
use Rattle.std.specs.List.{range_with_len}
use Rattle.std.specs.Option.{option_map}
use Rattle.std.proofs.lemmas.List.{length-map}
use Rattle.std.proofs.lemmas.Simd.{map-map}
use Rattle.cast_types.specs.declared.names.DomainNo.{DomainNo}
use Rattle.cast_message.specs.declared.message.Received.{Received}
use Rattle.cast_domain.specs.declared.domain.Domain.{Domain}
use Rattle.cast_domain.specs.declared.record.GroupRecord.{GroupRecord}
use Rattle.cast_domain.specs.Records.{number_of, is_halted}
use Rattle.cast_domain.specs.Shared.{Part, part_of}
use Rattle.cast_domain.specs.Shows.{shown_of, group_shown, groups_shown}
use Rattle.cast_domain.specs.Fits.{Represents, Core, is_there, session_for, record_for}
use Rattle.cast_rules.specs.State.{State}
use Rattle.cast_rules.specs.Run.{before_event}
use Rattle.cast_table.specs.declared.table.Table.{Table}
use Rattle.cast_table.specs.Shows.{shown_at, groups_at, shown_by, groups_by, ShowsHistory, ShowsGroups}

shown_meant : (d : Domain) (part : Part) (s : State) → Represents d part s → shown_of d part ≡ shown_by s (is_halted d)
shown_meant d part s means =
    let there = filter (is_there s.session) (range_with_len 1 s.used) in
    let open_now = ap length means.fits.opened.rows ∙ length-map there (session_for s.session) in
    let kept_now = sym (length-map part.kept (λ (r : Received). r.message)) ∙ ap length means.fits.messages.kept_in in
    λ i. record {
      sessions = open_now i;
      held = kept_now i;
      casts = ap (λ (c : Core). c.casts) means.fits.core i;
      moment = ap (λ (c : Core). c.moment) means.fits.core i;
      halted = is_halted d;
    }

groups_meant : (d : Domain) (part : Part) (s : State) → Represents d part s → groups_shown d ≡ groups_by s
groups_meant d part s means =
    ap (map (λ (x : GroupRecord). group_shown x.name x.here)) means.fits.groups
    ∙ map-map (λ (x : GroupRecord). group_shown x.name x.here) (record_for (before_event s)) s.config.groups

pub shows_history : (n : DomainNo) (table : Table) → ShowsHistory n table (shown_at n table)
shows_history n table d s there means =
    ap (option_map (λ (x : Domain). shown_of x (part_of (number_of x) table.shared))) there
    ∙ ap Some (shown_meant d (part_of (number_of d) table.shared) s means)

pub shows_groups : (n : DomainNo) (table : Table) → ShowsGroups n table (groups_at n table)
shows_groups n table d s there means =
    ap (option_map groups_shown) there ∙ ap Some (groups_meant d (part_of (number_of d) table.shared) s means)
