-- Runs of daemons, computed: what each step makes of the table at its site.
-- Where `are_fine` finds that of each step, the daemons are led there.
use Rattle.std.proofs.Common.{◌≡◌, ℕ, Bool, true, false, List, [], ◌∷◌, Option, Some, None, Result, Ok, Err}
use Rattle.std.proofs.Common.{refl, sym, ap, subst, ◌∙◌, map, length}
use Rattle.std.specs.Prelude.{◌==◌, ◌&&◌, All, slice_get, slice_set}
use Rattle.std.specs.Vec.{with_items}
use Rattle.std.proofs.lemmas.Bool.{and_parts, eqb-true, false≢true}
use Rattle.std.proofs.lemmas.List.Elements.{All-cons, All-nil}
use Rattle.cast_types.specs.declared.names.DomainNo.{DomainNo}
use Rattle.cast_types.specs.declared.names.SiteNo.{SiteNo}
use Rattle.cast_types.specs.declared.refusal.Refusal.TheVariants as refusal
use Rattle.cast_events.specs.Events.{domain_of}
use Rattle.cast_events.specs.Outs.{no_outs, outs_then}
use Rattle.cast_events.specs.declared.event.Event.{Event}
use Rattle.cast_events.specs.declared.event.Outs.{Outs}
use Rattle.cast_events.specs.declared.event.Taken.{Taken}
use Rattle.cast_events.specs.declared.event.Taken.TheVariants.{Refused}
use Rattle.cast_events.specs.declared.log.Fault.{Fault}
use Rattle.cast_events.specs.declared.log.Fault.TheVariants.{Halted}
use Rattle.cast_stable.specs.Acks.{new_ledger}
use Rattle.cast_view.specs.Home.{first_home}
use Rattle.cast_rules.specs.State.{was_given}
use Rattle.cast_domain.specs.Calls.{answered_in}
use Rattle.cast_domain.specs.Fits.{Represents}
use Rattle.cast_domain.specs.PartCalls.{with_first_home}
use Rattle.cast_domain.specs.Records.{Records, is_halted, number_of}
use Rattle.cast_domain.specs.Shared.{no_part, part_of}
use Rattle.cast_domain.specs.declared.domain.Domain.{Domain}
use Rattle.cast_domain.specs.declared.record.GroupRecord.{GroupRecord}
use Rattle.cast_domain.specs.declared.shared.Shared.{Shared}
use Rattle.cast_table.specs.Tables.{IsAppliedAt, IsAppliedTo, IsTurn, IsTurnAt, IsUnchanged, NotesHaltsOf, NotesOne}
use Rattle.cast_table.specs.Tables.{domain_eq, domains_of, lent_of, place_named, shared_of}
use Rattle.cast_table.specs.declared.table.Table.{Table}
use Rattle.cast_table.proofs.Parts.{same_domain}
use Rattle.cast_world.specs.declared.step.Step.{Step}
use Rattle.cast_sites.specs.Daemons.{DaemonNetwork, IsAnswered, TakesEvent, TakesSteps, event_taken, move_daemon}
use Rattle.cast_sites.proofs.Shelves.{others_left, part_given, shared_with}
use Rattle.cast_sites.proofs.Steps.{before_step, domain_with, ended_in, ends, outs_in, refilled, suffices}

-- What a turn makes of a domain

pub record Made : Type 0 where
  pub answer : Result Taken Fault
  pub domain : Domain
  pub shared : Shared
  pub outs : Outs

-- it finds memory, and so many passes are enough
abbrev pub stepping : ℕ → Domain → Shared → Event → Made
stepping n d shared e =
    let before : Records = before_step d (part_of (number_of d) shared) in
    let after : Records = ended_in n before e in
    record {
      answer = Ok (answered_in before e);
      domain = domain_with d after;
      shared = shared_with shared (number_of d) after.used after.part;
      outs = outs_then no_outs (outs_in after);
    }

-- a domain that is halted, and has let go of what it had
abbrev pub stopped : Domain → Domain
stopped d = record d {
  halted = true;
  groups = with_items d.groups (map with_first_home d.groups.items);
  delay = record { gates = []; offered = []; rows = []; reached = [] };
  acks = new_ledger d.site;
  orders = [];
}

-- it finds none
abbrev pub stopping : Domain → Shared → Made
stopping d shared = record {
  answer = Err (Halted (number_of d));
  domain = stopped d;
  shared = shared_with shared (number_of d) 0 no_part;
  outs = record no_outs { halted = number_of d ∷ [] };
}

-- it is halted
abbrev pub refusing : Domain → Shared → Made
refusing d shared = record { answer = Ok (Refused refusal.Halted); domain = d; shared = shared; outs = no_outs }

-- a way is how many passes are enough, or none where memory runs out
abbrev pub made_by : Bool → Option ℕ → Domain → Shared → Event → Made
made_by true way d shared e = refusing d shared
made_by false (Some n) d shared e = stepping n d shared e
made_by false None d shared e = stopping d shared

abbrev pub made : Option ℕ → Domain → Shared → Event → Made
made way d shared e = made_by (is_halted d) way d shared e

-- the number of the domain that a step leaves
abbrev pub number_left : ℕ → Domain → Shared → Event → DomainNo
number_left n d shared e = number_of (domain_with d (ended_in n (before_step d (part_of (number_of d) shared)) e))

-- whether that is what the contract says
abbrev pub is_right : Bool → Option ℕ → Domain → Shared → Event → Bool
is_right true way d shared e = true
is_right false (Some n) d shared e =
    suffices n d (part_of (number_of d) shared) e && domain_eq (number_left n d shared e) (number_of d)
is_right false None d shared e = length (map with_first_home d.groups.items) == d.groups.len

-- What an event makes of a table

abbrev pub with_turn : Table → ℕ → Made → Table
with_turn table i m = record { domains = slice_set table.domains i m.domain; shared = m.shared }

abbrev has_first_home : GroupRecord → Type 0
has_first_home x = x.home ≡ first_home

all_dropped : (groups : List GroupRecord) → All has_first_home (map with_first_home groups)
all_dropped [] = All-nil has_first_home
all_dropped (x ∷ groups) = All-cons has_first_home (with_first_home x) (map with_first_home groups) refl (all_dropped groups)

is_turn : (way : Option ℕ) (d : Domain) (shared : Shared) (e : Event) (b : Bool) → is_halted d ≡ b → is_right b way d shared e ≡ true →
    IsTurn (made_by b way d shared e).answer e d (made_by b way d shared e).domain (record { shared = shared; outs = no_outs })
    (record { shared = (made_by b way d shared e).shared; outs = (made_by b way d shared e).outs })
is_turn way d shared e true is right = record {
  number = refl;
  halted = refl;
  steps = λ runs. absurd (false≢true (sym runs ∙ is));
  refuses = λ halts. (refl, refl, refl);
  others = refl;
}
is_turn (Some n) d shared e false is right =
    let parts = and_parts (suffices n d (part_of (number_of d) shared) e) (domain_eq (number_left n d shared e) (number_of d)) right in
    let before : Records = before_step d (part_of (number_of d) shared) in
    let after : Records = ended_in n before e in
    record {
      number = same_domain (number_left n d shared e) (number_of d) parts.1;
      halted = refl;
      steps = λ runs s means.
          let end = ends n d (part_of (number_of d) shared) e parts.0 s means in
          let used : end.end.used ≡ after.used = sym (ap (λ c. c.used) end.fits.core) in
          let unused : ((k : ℕ) → was_given after.used k ≡ false → after.part.outboxes k ≡ []) =
          λ k not_given. ap (λ f. f k) end.fits.opened.boxes
          ∙ ap (λ z. z.outbox) (end.fits.opened.unused k (ap (λ u. was_given u k) used ∙ not_given)) in
          record {
            end = end.end;
            steps = end.steps;
            means = subst (λ p. Represents (domain_with d after) p end.end)
                (sym (part_given shared (number_of d) after.used after.part unused)) end.means;
            outs = λ j. record no_outs {
              frames = end.fits.frames j;
              delivered = end.fits.delivered j;
              pushed = end.fits.pushed j;
            };
          };
      refuses = λ halts. absurd (false≢true (sym is ∙ halts));
      others = others_left shared (number_of d) after.used after.part;
    }
is_turn None d shared e false is right = (
  refl,
  record {
    number = refl;
    ran = is;
    stops = refl;
    emptied = record {
      delay = refl;
      acks = refl;
      orders = refl;
      homes = subst (All has_first_home)
          (sym (refilled d.groups (map with_first_home d.groups.items) (eqb-true _ _ right))) (all_dropped d.groups.items);
    };
    outs = refl;
    leaves = part_given shared (number_of d) 0 no_part (λ k not_given. refl);
    others = others_left shared (number_of d) 0 no_part;
  },
)

unchanged : (b : Bool) (way : Option ℕ) (d : Domain) (old new : Table) (shared : Shared) (e : Event) (outs : Outs) →
    IsUnchanged (made_by b way d shared e).answer old new no_outs outs
unchanged true way d old new shared e outs = tt
unchanged false (Some n) d old new shared e outs = tt
unchanged false None d old new shared e outs = tt

noted : (b : Bool) (way : Option ℕ) (d : Domain) (shared : Shared) (e : Event) (q : DomainNo) → number_of d ≡ q →
    NotesOne (made_by b way d shared e).answer q [] (made_by b way d shared e).outs.halted
noted true way d shared e q is = refl
noted false (Some n) d shared e q is = refl
noted false None d shared e q is = (is, refl)

-- what holds where the domain that is named stands at this place
pub record Stand (table : Table) (e : Event) (q : DomainNo) (i : ℕ) (d : Domain) : Type 0 where
  pub named : domain_of e ≡ Some q
  pub placed : place_named q table.domains ≡ Some i
  pub stands : slice_get table.domains i ≡ Some d
  pub number : number_of d ≡ q

pub is_answered : (way : Option ℕ) (table : Table) (e : Event) (q : DomainNo) (i : ℕ) (d : Domain) → Stand table e q i d →
    is_right (is_halted d) way d table.shared e ≡ true →
    IsAnswered (made way d table.shared e).answer e table (with_turn table i (made way d table.shared e)) (made way d table.shared e).outs
is_answered way table e q i d stand right =
    let m : Made = made way d table.shared e in
    let new : Table = with_turn table i m in
    let at : IsTurnAt i m.answer e table.domains new.domains (lent_of table no_outs) (lent_of new m.outs) = record {
      domain = d;
      next = m.domain;
      stands = stand.stands;
      others = refl;
      turn = is_turn way d table.shared e (is_halted d) refl right;
    } in
    record {
      applied =
          subst (λ o. IsAppliedTo o m.answer e table.domains new.domains (lent_of table no_outs) (lent_of new m.outs)) (sym stand.named)
          (subst (λ o. IsAppliedAt o m.answer e table.domains new.domains (lent_of table no_outs) (lent_of new m.outs)) (sym stand.placed)
          at);
      unchanged = unchanged (is_halted d) way d table new table.shared e m.outs;
      halted =
          subst (λ o. NotesHaltsOf o m.answer table.domains new.domains [] m.outs.halted) (sym stand.named)
          (noted (is_halted d) way d table.shared e q stand.number);
    }

-- What steps make of daemons

-- a step, and its way
abbrev pub Move : Type 0
Move = Step × Option ℕ

-- the domain that an event names stands first at this place, if it stands
abbrev pub moved_domain : DaemonNetwork → SiteNo → Option ℕ → Event → ℕ → Option Domain → DaemonNetwork
moved_domain n s way e i None = n
moved_domain n s way e i (Some d) =
    move_daemon n s (with_turn (n.at s) i (made way d (shared_of (n.at s)) e)) (made way d (shared_of (n.at s)) e).outs

abbrev pub moved_place : DaemonNetwork → SiteNo → Option ℕ → Event → Option ℕ → DaemonNetwork
moved_place n s way e None = n
moved_place n s way e (Some i) = moved_domain n s way e i (slice_get (domains_of (n.at s)) i)

abbrev pub moved_named : DaemonNetwork → SiteNo → Option ℕ → Event → Option DomainNo → DaemonNetwork
moved_named n s way e None = n
moved_named n s way e (Some q) = moved_place n s way e (place_named q (domains_of (n.at s)))

abbrev pub moved_by : DaemonNetwork → SiteNo → Option ℕ → Option Event → DaemonNetwork
moved_by n s way None = n
moved_by n s way (Some e) = moved_named n s way e (domain_of e)

abbrev pub moved : DaemonNetwork → Move → DaemonNetwork
moved n move = moved_by n move.0.site move.1 (event_taken n move.0)

abbrev pub moved_all : DaemonNetwork → List Move → DaemonNetwork
moved_all n [] = n
moved_all n (move ∷ moves) = moved_all (moved n move) moves

-- whether each of them is right
abbrev pub is_fine_domain : DaemonNetwork → SiteNo → Option ℕ → Event → DomainNo → Option Domain → Bool
is_fine_domain n s way e q None = false
is_fine_domain n s way e q (Some d) = domain_eq (number_of d) q && is_right (is_halted d) way d (shared_of (n.at s)) e

abbrev pub is_fine_place : DaemonNetwork → SiteNo → Option ℕ → Event → DomainNo → Option ℕ → Bool
is_fine_place n s way e q None = false
is_fine_place n s way e q (Some i) = is_fine_domain n s way e q (slice_get (domains_of (n.at s)) i)

abbrev pub is_fine_named : DaemonNetwork → SiteNo → Option ℕ → Event → Option DomainNo → Bool
is_fine_named n s way e None = false
is_fine_named n s way e (Some q) = is_fine_place n s way e q (place_named q (domains_of (n.at s)))

abbrev pub is_fine_event : DaemonNetwork → SiteNo → Option ℕ → Option Event → Bool
is_fine_event n s way None = true
is_fine_event n s way (Some e) = is_fine_named n s way e (domain_of e)

abbrev pub is_fine : DaemonNetwork → Move → Bool
is_fine n move = is_fine_event n move.0.site move.1 (event_taken n move.0)

abbrev pub are_fine : DaemonNetwork → List Move → Bool
are_fine n [] = true
are_fine n (move ∷ moves) = is_fine n move && are_fine (moved n move) moves

-- so they are steps of daemons

module _ (n : DaemonNetwork) (s : SiteNo) (way : Option ℕ) (e : Event) where
  takes_domain : (q : DomainNo) (i : ℕ) (o : Option Domain) → domain_of e ≡ Some q → place_named q (domains_of (n.at s)) ≡ Some i →
      slice_get (domains_of (n.at s)) i ≡ o → is_fine_domain n s way e q o ≡ true → TakesEvent n s (Some e) (moved_domain n s way e i o)
  takes_domain q i None named placed stands fine = absurd (false≢true fine)
  takes_domain q i (Some d) named placed stands fine =
      let parts = and_parts (domain_eq (number_of d) q) (is_right (is_halted d) way d (shared_of (n.at s)) e) fine in (
        (made way d (shared_of (n.at s)) e).answer,
        with_turn (n.at s) i (made way d (shared_of (n.at s)) e),
        (made way d (shared_of (n.at s)) e).outs,
        is_answered way (n.at s) e q i d
            (record { named = named; placed = placed; stands = stands; number = same_domain (number_of d) q parts.0 }) parts.1,
        refl,
      )

  takes_place : (q : DomainNo) (o : Option ℕ) → domain_of e ≡ Some q → place_named q (domains_of (n.at s)) ≡ o →
      is_fine_place n s way e q o ≡ true → TakesEvent n s (Some e) (moved_place n s way e o)
  takes_place q None named placed fine = absurd (false≢true fine)
  takes_place q (Some i) named placed fine = takes_domain q i (slice_get (domains_of (n.at s)) i) named placed refl fine

  takes_named : (o : Option DomainNo) → domain_of e ≡ o → is_fine_named n s way e o ≡ true →
      TakesEvent n s (Some e) (moved_named n s way e o)
  takes_named None named fine = absurd (false≢true fine)
  takes_named (Some q) named fine = takes_place q (place_named q (domains_of (n.at s))) named refl fine

takes_by : (n : DaemonNetwork) (s : SiteNo) (way : Option ℕ) (o : Option Event) → is_fine_event n s way o ≡ true →
    TakesEvent n s o (moved_by n s way o)
takes_by n s way None fine = refl
takes_by n s way (Some e) fine = takes_named n s way e (domain_of e) refl fine

pub takes_all : (n : DaemonNetwork) (moves : List Move) → are_fine n moves ≡ true → TakesSteps n (map (λ m. m.0) moves) (moved_all n moves)
takes_all n [] fine = refl
takes_all n (move ∷ moves) fine =
    let parts = and_parts (is_fine n move) (are_fine (moved n move) moves) fine in
    (moved n move, takes_by n move.0.site move.1 (event_taken n move.0) parts.0, takes_all (moved n move) moves parts.1)
