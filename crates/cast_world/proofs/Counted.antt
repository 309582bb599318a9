-- All that is kept is counted: it is no more than has room, and what waiting Installs name.
use Rattle.std.proofs.Common.{ap, arith, subst, sym, ◌∙◌}
use Rattle.std.proofs.lemmas.List.Filters.{length-filter_both}
use Rattle.std.proofs.lemmas.Bool.{and_parts, eqb-true, false≢true}
use Rattle.std.specs.Prelude.{◌&&◌, ◌==◌, Bool, Contains, List, None, Option, Some, [], false}
use Rattle.std.specs.Prelude.{filter, length, map, not, refl, suc, true, zero, ℕ, ◌∷◌, ◌≡◌, ◌≤◌}
use Rattle.cast_ready.specs.Ready.{covered_entries}
use Rattle.cast_message.specs.declared.message.Message.{Message}
use Rattle.cast_rules.specs.State.{State}
use Rattle.cast_types.specs.Names.{entry_eq, entry_of, uid_in, uid_eq}
use Rattle.cast_types.specs.Sets.{is_among}
use Rattle.cast_types.specs.declared.names.Uid.{Uid}
use Rattle.cast_types.proofs.Orders.{uid_itself}
use Rattle.cast_view.specs.declared.member.Pending.{Pending}
use Rattle.cast_world.proofs.Allowed.{contains_mapped, passed}
use Rattle.cast_world.proofs.Bounding.{both_less, covers_waits, what_is_kept_is_bounded}
use Rattle.cast_world.proofs.Homes.{among_kept}
use Rattle.cast_world.proofs.Listings.{among_entry}
use Rattle.cast_world.proofs.Prefixes.{flat_has}
use Rattle.cast_world.proofs.Singles.{KeptOnce, single_after}
use Rattle.cast_world.specs.Bounds.{AllThatIsKeptIsCounted, covers, named_by, named_in}

-- where no two messages have one name, and each has one of these names, there are no more messages than names
no_more : (names : List Uid) (ms : List Message) → KeptOnce ms → ((m : Message) → Contains ms m → Contains names m.id) →
    length ms ≤ length names
no_more [] [] once each = omega arith
no_more [] (m ∷ ms) once each = let at = each m (0, omega arith, refl) in absurd (omega (arith, at.1))
no_more (u ∷ names) ms once each =
    let others : List Message = filter (λ m. not (uid_eq m.id u)) ms in
    let whole = length-filter_both (λ (m : Message). uid_eq m.id u) (λ m. not (uid_eq m.id u)) (λ m. refl) ms in
    let one = once u in
    let rest =
    no_more names others (λ v.
    (let less = both_less (λ (m : Message). uid_eq m.id v) (λ m. not (uid_eq m.id u)) (λ m. uid_eq m.id v) (λ m stays is. is) ms in
    let was = once v in
    omega (arith, less, was)))
    (λ m at. later m (each m (among_kept (λ x. not (uid_eq x.id u)) ms m at)) (passed (λ (x : Message). not (uid_eq x.id u)) ms m at)) in
    omega (arith, whole, one, rest)
  where
    later : (m : Message) → Contains (u ∷ names) m.id → not (uid_eq m.id u) ≡ true → Contains names m.id
    later m (zero, lt, is) apart = absurd (false≢true (sym (ap not (ap (λ v. uid_eq m.id v) is ∙ uid_itself m.id)) ∙ apart))
    later m (suc k, lt, is) apart = (k, omega arith, is)

-- what a waiting Install covers is among what it names
covers_names : (s : State) (m : Message) → Contains s.config.groups m.id.group → covers (s.group m.id.group) m.id ≡ true →
    Contains (named_in s) m.id
covers_names s m known is =
    flat_has (λ g. named_by g (s.group g)) s.config.groups m.id.group m.id known (go (s.group m.id.group).pending is)
  where
    number : ℕ
    number = (s.group m.id.group).number

    go : (o : Option Pending) →
        (elim o as (λ p. Bool) [
          | Some p ↦ (m.id.view == number) && is_among entry_eq (entry_of m.id) (covered_entries p.cut)
          | None ↦
              false
        ]) ≡ true →
        Contains (elim o as (λ p. List Uid) [ Some p ↦ map (uid_in m.id.group number) (covered_entries p.cut) | None ↦ [] ]) m.id
    go (Some p) e =
        let parts = and_parts (m.id.view == number) (is_among entry_eq (entry_of m.id) (covered_entries p.cut)) e in
        let view : m.id.view ≡ number = eqb-true m.id.view number parts.0 in
        subst (λ n. Contains (map (uid_in m.id.group number) (covered_entries p.cut))
        (record { group = m.id.group; view = n; proc = m.id.proc; count = m.id.count })) (sym view)
        (contains_mapped (uid_in m.id.group number) (covered_entries p.cut) (entry_of m.id)
        (among_entry (covered_entries p.cut) (entry_of m.id) parts.1))
    go None e = absurd (false≢true e)

pub all_that_is_kept_is_counted : AllThatIsKeptIsCounted
all_that_is_kept_is_counted most here config events answers sent pushed s quota sets typed run =
    let x = single_after here config events answers sent pushed s typed run in
    let few = (what_is_kept_is_bounded most here config events answers sent pushed s quota sets run).few in
    let test : Message → Bool = λ m. covers (s.group m.id.group) m.id in
    let whole = length-filter_both test (λ m. not (test m)) (λ m. refl) s.kept in
    let named_all =
    no_more (named_in s) (filter test s.kept)
    (λ u. (let less = both_less (λ (m : Message). uid_eq m.id u) test (λ m. uid_eq m.id u) (λ m stays is. is) s.kept in
    let was = x.once u in
    omega (arith, less, was)))
    (λ m at.
    (let is = passed test s.kept m at in covers_names s m (x.waits m.id.group (covers_waits (s.group m.id.group) m.id is)).1 is)) in
    record { once = x.once; total = omega (arith, few, whole, named_all) }
