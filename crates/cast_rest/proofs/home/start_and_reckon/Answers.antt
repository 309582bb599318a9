use Rattle.std.proofs.Common.{List, ap, ◌∙◌}
use Rattle.cast_domain.specs.declared.record.GroupRecord.{GroupRecord}
use Rattle.cast_domain.specs.Records.{Records, records_in}
use Rattle.cast_rest.proofs.home.start_and_reckon.Goals as goal

-- to reckon what some sites lack changes no record
abbrev with_groups : Records → List GroupRecord → Records
with_groups r groups = record r { groups = groups }

pub returns-clause-made : goal.returns-clause-made
returns-clause-made c =
    ap (with_groups (records_in c.start.new.domain c.start.new.lent)) c.reckon_at.ensures.items
    ∙ c.in_ok-started.ensures.made

pub returns-clause-still : goal.returns-clause-still
returns-clause-still c unchanged =
    ap (with_groups (records_in c.start.new.domain c.start.new.lent)) c.reckon_at.ensures.items
    ∙ c.in_ok-started.ensures.still unchanged
