-- A step that takes in a joining process does so by a view above the one that it had heard of.
use Rattle.std.proofs.Common.{arith, inl, inr, subst, sym, ◌∙◌}
use Rattle.std.specs.Prelude.{◌+◌, ◌++◌, Bool, None, Option, Some, [], false, if◌then◌else◌, refl, true, ℕ, ◌∷◌, ◌≡◌}
use Rattle.cast_clock.specs.Times.{join, view_of}
use Rattle.cast_ready.specs.Ready.{Process}
use Rattle.cast_rules.specs.Effects.{next_message}
use Rattle.cast_rules.specs.Entering.{is_put_out, passing, putting_out}
use Rattle.cast_rules.specs.Run.{after_event}
use Rattle.cast_rules.specs.State.{State, local, outside, set_process}
use Rattle.cast_events.specs.declared.event.Event.{Event}
use Rattle.cast_types.specs.Names.{group_eq, site_eq}
use Rattle.cast_types.specs.Sets.{set_at}
use Rattle.cast_types.specs.declared.names.SiteNo.{SiteNo}
use Rattle.cast_types.specs.declared.names.Standing.TheVariants.{Joining}
use Rattle.cast_world.proofs.Events.{after_event_keeps, rests_keeps}
use Rattle.cast_world.proofs.Invariants.{Sites}
use Rattle.cast_world.proofs.Kept.{Kept}
use Rattle.cast_world.proofs.Laters.{later_same}
use Rattle.cast_world.proofs.Local.{not_joining}
use Rattle.cast_world.proofs.Onward.{AllOnward, Onward, all_completing, all_part, all_parted_onward, all_same}
use Rattle.cast_world.proofs.Onward.{all_set, all_then, onward_delivers, onward_joins, onward_same, onward_time}
use Rattle.cast_world.proofs.Runs.{first, holds_in_every, step_arrives, step_holds}
use Rattle.cast_world.proofs.Steps.{AllHold, Arrived, Now, kept_now, next_of, own_holds, same_site, sites_at}
use Rattle.cast_world.proofs.Times.{bumped_view}
use Rattle.cast_world.proofs.Views.{passing_above}
use Rattle.cast_world.specs.Laws.{AllJoinsGoForward, AllViewsAreDecided, ViewsAreDecided}
use Rattle.cast_world.specs.Network.{Becomes, Happens, Network, event_of}
use Rattle.cast_world.specs.declared.step.Step.{Step}

module _ (home : SiteNo) (w : Network) (a : SiteNo) (s : State) where
  abbrev Goes : State → Type 0
  Goes t = Now home w a t × AllOnward s t

  abbrev now_kept : Kept (Now home w a) (Arrived home w a) (site_eq a home)
  now_kept = kept_now home w a

  and_then : (t : State) (k : ℕ) (q : Process) → AllOnward s t → Onward (t.process k) q → AllOnward s (set_process t k q)
  and_then t k q one two = all_then s t (set_process t k q) one (all_set t k q two)

  goes_kept : Kept Goes (Arrived home w a) (site_eq a home)
  goes_kept = record {
    telling = record {
      emits = λ t to f i says. (now_kept.telling.emits t to f i.0 says, i.1);
      books =
          λ t quotas moment acks told owed casts pushes i. (now_kept.telling.books t quotas moment acks told owed casts pushes i.0, i.1);
      releases = λ t passes i. (now_kept.telling.releases t passes i.0, i.1);
      sets_session = λ t k v i same. (now_kept.telling.sets_session t k v i.0 same, i.1);
      parts = λ t k g i. (now_kept.telling.parts t k g i.0, all_then s t (outside t k g) i.1 (all_part t k g));
      requests = λ t g what p i. (now_kept.telling.requests t g what p i.0, i.1);
    };
    fixed = λ t i. now_kept.fixed t i.0;
    opens = λ t i. (now_kept.opens t i.0, i.1);
    answers = λ t g i. (now_kept.answers t g i.0, i.1);
    joins = λ t k g i open_it known out. (
      now_kept.joins t k g i.0 open_it known out,
      and_then t k (record (t.process k) {
        standing = set_at group_eq (t.process k).standing g
            (Joining ((t.group g).asked + 1) (view_of (t.process k).time g));
      }) i.1
          (onward_joins (t.process k) g ((t.group g).asked + 1) (view_of (t.process k).time g)),
    );
    sends = λ t g k content i member may. (
      now_kept.sends t g k content i.0 member may,
      and_then t k (record (t.process k) { time = (next_message t g k content).times })
          i.1 (onward_time (t.process k) (next_message t g k content)
          (λ h. let same = bumped_view (t.process k).time g (local t k) h in omega (arith, same))),
    );
    receives = λ t from m i came view member. (now_kept.receives t from m i.0 came view member, i.1);
    delivers = λ t k m i c ready. (
      now_kept.delivers t k m i.0 c ready,
      and_then t k (record (t.process k) { time = join (t.process k).time m.times; delivered = (t.process k).delivered ++ m.id ∷ [] }) i.1
          (onward_delivers (t.process k) m ((t.process k).delivered ++ m.id ∷ [])),
    );
    freezes = λ t g i current. (now_kept.freezes t g i.0 current, i.1);
    pends = λ t from g p tail i came current. (now_kept.pends t from g p tail i.0 came current, i.1);
    passes = λ t g skipped n members request cut i comes. (
      now_kept.passes t g skipped n members request cut i.0 comes,
      (let left : State = putting_out t g skipped members in
          let goes : ℕ → Bool = is_put_out t g skipped members in
          let at : Sites = sites_at home w a t in
          let is_next = next_of home w a t i.0 t (later_same t) g skipped n members request cut comes in
          let one : AllOnward t left = all_parted_onward t g goes in
          let two : AllOnward left (passing t g skipped n members request cut) =
          all_completing left g n members request cut
          (passing_above at home a t g skipped n members request cut is_next (own_holds home w a t i.0)) in
          all_then s t (passing t g skipped n members request cut)
          i.1 (all_then t left (passing t g skipped n members request cut) one two)),
    );
    homes = λ t g what i may. (now_kept.homes t g what i.0 may, i.1);
  }

module _ (home : SiteNo) (w : Network) (h : AllHold home w) where
  step_onward : (v : Network) (step : Step) → Happens w step v → (s : SiteNo) (k : ℕ) → Onward ((w.at s).process k) ((v.at s).process k)
  step_onward v step happens s k = go (event_of w step) refl happens
    where
      moved_onward : (t : State) → AllOnward (w.at step.site) t → (b : Bool) → site_eq step.site s ≡ b →
          Onward ((w.at s).process k) ((if b then t else w.at s).process k)
      moved_onward t on true e = subst (λ z. Onward ((w.at z).process k) (t.process k)) (same_site step.site s e) (on k)
      moved_onward t on false e = onward_same ((w.at s).process k)

      go : (o : Option Event) → event_of w step ≡ o → Becomes w step.site o v → Onward ((w.at s).process k) ((v.at s).process k)
      go None e same =
          subst (λ (u : Network). Onward ((w.at s).process k) ((u.at s).process k)) (sym same) (onward_same ((w.at s).process k))
      go (Some made) e (answer, t, is, same) = subst (λ (u : Network). Onward ((w.at s).process k) ((u.at s).process k)) (sym same)
          (moved_onward t
          (rests_keeps (Goes home w step.site (w.at step.site)) (Arrived home w step.site) (site_eq step.site home)
          (goes_kept home w step.site (w.at step.site)) (after_event (w.at step.site) made) t is.rests
          (after_event_keeps (Goes home w step.site (w.at step.site)) (Arrived home w step.site) (site_eq step.site home)
          (goes_kept home w step.site (w.at step.site)) (w.at step.site) made
          (first home w h step.site, all_same (w.at step.site)) (step_arrives home w h step made e))).1
          (site_eq step.site s) refl)

pub joins_go_forward : AllJoinsGoForward
joins_go_forward sites config steps w v step r happens s k g request heard joining member =
    let home : SiteNo = (config record { 0 = 0 }).home in
    let before = holds_in_every sites config steps w r in
    let after = step_holds home w v step happens before in
    let was : view_of ((w.at s).process k).time g ≡ heard = ((before.sites s).ones k).fits.heard g request heard joining in
    let is : ((v.at s).group g).number ≡ view_of ((v.at s).process k).time g = (((after.sites s).ones k).member g member).0 in
    elim ((step_onward home w before v step happens s k g).1 member) [
      | inl old ↦ absurd (not_joining request heard (sym old ∙ joining))
      | inr up ↦ omega (arith, was, is, up)
    ]

pub views_are_decided : AllViewsAreDecided
views_are_decided sites config steps w s r =
    let all = holds_in_every sites config steps w r in
    subst (ViewsAreDecided w) (r.home record { 0 = 0 } s)
    ((λ q k g. ((all.sites q).ones k).views g), λ q m g c. ((all.sites q).received m c).views g)
