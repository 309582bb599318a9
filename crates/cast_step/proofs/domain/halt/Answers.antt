use Rattle.std.proofs.Common.{◌≡◌, ◌∙◌, List, [], ◌∷◌, map, refl, sym, ap, subst}
use Rattle.std.specs.Prelude.{All}
use Rattle.std.proofs.lemmas.List.Elements.{All-cons, All-nil}
use Rattle.cast_view.specs.Home.{first_home}
use Rattle.cast_domain.specs.declared.record.GroupRecord.{GroupRecord}
use Rattle.cast_domain.specs.PartCalls.{with_first_home}
use Rattle.cast_domain.specs.Shows.{group_shown}
use Rattle.cast_step.proofs.domain.halt.Goals as goal

-- what is shown of groups tells nothing of their homes
shown_still : (groups : List GroupRecord) →
    map (λ x. group_shown x.name x.here) (map with_first_home groups) ≡ map (λ x. group_shown x.name x.here) groups
shown_still [] = refl
shown_still (x ∷ groups) = ap (λ rest. group_shown x.name x.here ∷ rest) (shown_still groups)

pub returns-clause-shows : goal.returns-clause-shows
returns-clause-shows c =
    ap (map (λ (x : GroupRecord). group_shown x.name x.here)) c.drop_homes.ensures ∙ shown_still c.args.domain.now.groups.items

abbrev has_first_home : GroupRecord → Type 0
has_first_home x = x.home ≡ first_home

all_dropped : (groups : List GroupRecord) → All has_first_home (map with_first_home groups)
all_dropped [] = All-nil has_first_home
all_dropped (x ∷ groups) = All-cons has_first_home (with_first_home x) (map with_first_home groups) refl (all_dropped groups)

pub returns-clause-emptied : goal.returns-clause-emptied
returns-clause-emptied c =
    record {
      delay = c.new.ensures;
      acks = c.new-2.ensures;
      orders = c.new-3.ensures;
      homes = subst (All has_first_home) (sym c.drop_homes.ensures) (all_dropped c.args.domain.now.groups.items);
    }
