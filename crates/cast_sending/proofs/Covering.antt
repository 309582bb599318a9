-- The names and the counts decide whether one Stable tells all that another one does.
use Rattle.std.proofs.Common.{◌≡◌, ◌↔◌, ◌≤◌, ℕ, true, Option, Some, None, refl, sym, ap, subst, ◌∙◌, arith}
use Rattle.std.specs.Prelude.{◌==◌, ◌&&◌, nat_le, is_some, IsSomeAnd}
use Rattle.std.proofs.lemmas.Bool.{and_parts, and_from, eqb-true, eq-eqb, leb-true, le-leb, false≢true}
use Rattle.cast_types.specs.declared.names.DomainNo.{DomainNo}
use Rattle.cast_types.specs.declared.names.SiteNo.{SiteNo}
use Rattle.cast_types.specs.declared.names.GroupNo.{GroupNo}
use Rattle.cast_types.specs.declared.names.Proc.{Proc}
use Rattle.cast_types.specs.declared.names.Uid.{Uid}
use Rattle.cast_types.specs.Names.{group_eq, proc_eq, site_eq}
use Rattle.cast_types.proofs.Orders.{same_group, same_proc, same_site}
use Rattle.cast_sending.specs.Frames.{Frame, IsUpto, Tells, Covers, covers, reaches, last_told, is_stable}

domain_same : (d e : DomainNo) → (d.0 == e.0) ≡ true → d ≡ e
domain_same d e same = ap (λ (n : ℕ). record { 0 = n }) (eqb-true d.0 e.0 same)

-- ---- the names and counts

reach_tells : (new old message : Uid) → reaches (Some new) (Some old) ≡ true → IsUpto message old → IsUpto message new
reach_tells new old message reach upto =
    let groups = and_parts (group_eq old.group new.group) ((old.view == new.view)
    && (proc_eq old.proc new.proc && nat_le old.count new.count)) reach in
    let views = and_parts (old.view == new.view) (proc_eq old.proc new.proc && nat_le old.count new.count) groups.1 in
    let procs = and_parts (proc_eq old.proc new.proc) (nat_le old.count new.count) views.1 in
    let counts : old.count ≤ new.count = leb-true old.count new.count procs.1 in
    record {
      group = upto.group ∙ same_group old.group new.group groups.0;
      view = upto.view ∙ eqb-true old.view new.view views.0;
      proc = upto.proc ∙ same_proc old.proc new.proc procs.0;
      count = omega (arith, upto.count, counts);
    }

tells_reach : (new old : Uid) → IsUpto old new → reaches (Some new) (Some old) ≡ true
tells_reach new old upto =
    and_from (group_eq old.group new.group) ((old.view == new.view) && (proc_eq old.proc new.proc && nat_le old.count new.count))
    (eq-eqb old.group.0 new.group.0 (ap (λ (g : GroupNo). g.0) upto.group))
    (and_from (old.view == new.view) (proc_eq old.proc new.proc && nat_le old.count new.count)
    (eq-eqb old.view new.view upto.view)
    (and_from (proc_eq old.proc new.proc) (nat_le old.count new.count)
    (and_from (site_eq old.proc.site new.proc.site) (old.proc.serial == new.proc.serial)
    (eq-eqb old.proc.site.0 new.proc.site.0 (ap (λ (p : Proc). p.site.0) upto.proc))
    (eq-eqb old.proc.serial new.proc.serial (ap (λ (p : Proc). p.serial) upto.proc)))
    (le-leb old.count new.count upto.count)))

upto_itself : (message : Uid) → IsUpto message message
upto_itself message = record { group = refl; view = refl; proc = refl; count = omega arith }

-- ---- what may be told

reach_may : (new old : Option Uid) (message : Uid) → reaches new old ≡ true → IsSomeAnd old (IsUpto message) →
    IsSomeAnd new (IsUpto message)
reach_may (Some new) (Some old) message reach upto = reach_tells new old message reach upto
reach_may (Some new) None message reach upto = absurd (false≢true reach)
reach_may None (Some old) message reach upto = absurd (false≢true reach)
reach_may None None message reach upto = absurd (false≢true reach)

may_reach : (new : Option Uid) (old : Uid) → IsSomeAnd new (IsUpto old) → reaches new (Some old) ≡ true
may_reach (Some new) old upto = tells_reach new old upto
may_reach None old upto = absurd upto

-- ---- frames

pub covers_tells : (new old : Frame) → covers new old ≡ true → Covers new old
covers_tells new old cover domain site message tells =
    let domains = and_parts (old.0.0 == new.0.0) (site_eq old.1 new.1 && reaches (last_told new.2) (last_told old.2)) cover in
    let sites = and_parts (site_eq old.1 new.1) (reaches (last_told new.2) (last_told old.2)) domains.1 in
    record {
      domain_is = sym (domain_same old.0 new.0 domains.0) ∙ tells.domain_is;
      site_is = sym (same_site old.1 new.1 sites.0) ∙ tells.site_is;
      counts = reach_may (last_told new.2) (last_told old.2) message sites.1 tells.counts;
    }

last_of : (new old : Frame) (last : Uid) → last_told old.2 ≡ Some last → Covers new old → Tells new old.0 old.1 last
last_of new old last is covers =
    covers old.0 old.1 last
    (record {
      domain_is = refl;
      site_is = refl;
      counts = subst (λ (o : Option Uid). IsSomeAnd o (IsUpto last)) (sym is) (upto_itself last);
    })

tells_of : (new old : Frame) (told : Option Uid) → last_told old.2 ≡ told → is_some told ≡ true → Covers new old → covers new old ≡ true
tells_of new old None is stable cover = absurd (false≢true stable)
tells_of new old (Some last) is stable cover =
    let tells : Tells new old.0 old.1 last = last_of new old last is cover in
    and_from (old.0.0 == new.0.0) (site_eq old.1 new.1 && reaches (last_told new.2) (last_told old.2))
    (eq-eqb old.0.0 new.0.0 (ap (λ (d : DomainNo). d.0) (sym tells.domain_is)))
    (and_from (site_eq old.1 new.1) (reaches (last_told new.2) (last_told old.2))
    (eq-eqb old.1.0 new.1.0 (ap (λ (s : SiteNo). s.0) (sym tells.site_is)))
    (subst (λ (o : Option Uid). reaches (last_told new.2) o ≡ true) (sym is) (may_reach (last_told new.2) last tells.counts)))

pub covers_decides : (new old : Frame) → is_stable old ≡ true → (covers new old ≡ true) ↔ Covers new old
covers_decides new old stable =
    (covers_tells new old, tells_of new old (last_told old.2) refl stable)
