-- What a domain shows of what it keeps.
use Rattle.std.specs.Prelude.{List, length, map}
use Rattle.cast_types.specs.declared.names.GroupNo.{GroupNo}
use Rattle.cast_view.specs.MemberSide.{MemberSide, holder_of, members_of}
use Rattle.cast_domain.specs.declared.domain.Domain.{Domain}
use Rattle.cast_domain.specs.declared.show.Shown.{Shown}
use Rattle.cast_domain.specs.declared.show.GroupShown.{GroupShown}
use Rattle.cast_domain.specs.Records.{is_halted}
use Rattle.cast_domain.specs.Shared.{Part}

-- how many sessions and kept messages there are, and what else is counted
abbrev pub shown_of : Domain → Part → Shown
shown_of d part =
    record {
      sessions = length d.sessions.records;
      held = length part.kept;
      casts = d.casts;
      moment = d.moment;
      halted = is_halted d;
    }

-- the last view that the site knows of, of a group by its name
abbrev pub group_shown : GroupNo → MemberSide → GroupShown
group_shown g here =
    record {
      group = g;
      number = here.number;
      holder = holder_of here;
      members = members_of here;
      frozen = here.frozen;
    }

-- of each group
abbrev pub groups_shown : Domain → List GroupShown
groups_shown d = map (λ x. group_shown x.name x.here) d.groups.items
