-- Programs were told what their processes did, in every network run.
use Rattle.std.proofs.Common.{ap, append_assoc, arith, inl, subst, sym, ◌∙◌}
use Rattle.std.proofs.lemmas.Bool.{false≢true, true≢false}
use Rattle.std.proofs.lemmas.List.{append-nil}
use Rattle.std.specs.Prelude.{◌&&◌, ◌++◌, Bool, Contains, List, None, Option, Some, [], false, if◌then◌else◌, is_some}
use Rattle.std.specs.Prelude.{refl, true, ℕ, ◌∷◌, ◌≡◌}
use Rattle.cast_ready.specs.Ready.{is_outside}
use Rattle.cast_rules.specs.Run.{entries_for}
use Rattle.cast_rules.specs.State.{State, is_group}
use Rattle.cast_message.specs.declared.client.Push.{Push}
use Rattle.cast_events.specs.Session.{is_open}
use Rattle.cast_events.specs.declared.config.DomainConfig.{DomainConfig}
use Rattle.cast_events.specs.declared.event.Event.{Event}
use Rattle.cast_types.specs.Names.{site_eq}
use Rattle.cast_types.specs.declared.names.GroupNo.{GroupNo}
use Rattle.cast_types.specs.declared.names.Proc.{Proc}
use Rattle.cast_types.specs.declared.names.SiteNo.{SiteNo}
use Rattle.cast_world.proofs.Acts.{contains_here}
use Rattle.cast_world.proofs.Lists.{never_nil}
use Rattle.cast_world.proofs.News.{Stage, ended, going, inside, step_news, unused}
use Rattle.cast_world.proofs.Runs.{holds_in_every}
use Rattle.cast_world.proofs.Steps.{same_site}
use Rattle.cast_world.specs.HappenedBefore.{acts_of}
use Rattle.cast_world.specs.Network.{Becomes, Happens, Leads, Network, Reaches, event_of, move_site, start}
use Rattle.cast_world.specs.Programs.{AllAreTold, AllClosedAreLast, AllInsideAreOpen, AllOpenAreTold, all_done, all_told}
use Rattle.cast_world.specs.Pushed.{ReachesTelling, Tells, pushed_by}
use Rattle.cast_world.specs.declared.step.Step.{Step}
use Rattle.cast_message.specs.declared.client.Push.TheVariants as push

-- of a site: each process is at some stage, and who is not outside a group is so of a configured one
abbrev pub SiteNews : State → (ℕ → List Push) → Type 0
SiteNews t told =
    ((k : ℕ) (g : GroupNo) → is_outside ((t.process k).standing g) ≡ false → is_group t g ≡ true)
    × ((k : ℕ) → Stage t.used k (is_open (t.session k)) (t.process k).standing (told k) (t.acts k) [])

-- of every site
abbrev pub EachNews : Network → (Proc → List Push) → Type 0
EachNews w told = (s : SiteNo) → SiteNews (w.at s) (λ k. told record { site = s; serial = k })

-- of entries that are the same
news_as : (t : State) (told other : ℕ → List Push) → ((k : ℕ) → told k ≡ other k) → SiteNews t told → SiteNews t other
news_as t told other same x =
    (x.0, λ k. subst (λ l. Stage t.used k (is_open (t.session k)) (t.process k).standing l (t.acts k) []) (same k) (x.1 k))

-- One step

pub one_step : (w v : Network) (step : Step) (earlier : Proc → List Push) → Happens w step v → EachNews w earlier →
    EachNews v (λ p. earlier p ++ pushed_by w step v p)
one_step w v step earlier happens all = go (event_of w step) refl happens
  where
    moved : (made : Event) (t : State) → ((k : ℕ) → Stage t.used k (is_open (t.session k)) (t.process k).standing
        (earlier record { site = step.site; serial = k } ++ entries_for t.pushes k) (t.acts k) []) →
        ((k : ℕ) (g : GroupNo) → is_outside ((t.process k).standing g) ≡ false → is_group t g ≡ true) →
        (s : SiteNo) (b : Bool) → site_eq step.site s ≡ b →
        SiteNews (if b then t else w.at s) (λ k.
        earlier record { site = s; serial = k } ++ (if b then entries_for (if b then t else w.at s).pushes k else []))
    moved made t stages known s true here =
        subst (λ (z : SiteNo). SiteNews t (λ k. earlier record { site = z; serial = k } ++ entries_for t.pushes k))
        (same_site step.site s here) (known, stages)
    moved made t stages known s false apart = news_as (w.at s) (λ k. earlier record { site = s; serial = k })
        (λ k. earlier record { site = s; serial = k } ++ []) (λ k. sym (append-nil (earlier record { site = s; serial = k }))) (all s)

    go : (o : Option Event) → event_of w step ≡ o → Becomes w step.site o v → EachNews v (λ p. earlier p ++ pushed_by w step v p)
    go None e same =
        subst (λ x. EachNews x (λ p. earlier p ++ pushed_by w step x p)) (sym same)
        (λ s. news_as (w.at s) (λ k. earlier record { site = s; serial = k })
        (λ k. earlier record { site = s; serial = k } ++ pushed_by w step w record { site = s; serial = k })
        (λ k.
        sym (append-nil (earlier record { site = s; serial = k }))
        ∙ ap (λ (o : Option Event). earlier record { site = s; serial = k }
        ++ (if is_some o && site_eq step.site s then entries_for (w.at s).pushes k else [])) (sym e)) (all s))
    go (Some made) e (answer, t, is, same) =
        let first = all step.site in
        let then_it = step_news (w.at step.site) (λ k. earlier record { site = step.site; serial = k }) made answer t is (
          refl,
          refl,
          first.0,
          (news_as (w.at step.site) (λ k. earlier record { site = step.site; serial = k })
              (λ k. earlier record { site = step.site; serial = k } ++ [])
              (λ k. sym (append-nil (earlier record { site = step.site; serial = k })))
              first).1,
        ) in
        subst (λ x. EachNews x (λ p. earlier p ++ pushed_by w step x p)) (sym same)
        (λ s. news_as ((move_site w step.site t).at s)
        (λ k. earlier record { site = s; serial = k }
        ++ (if site_eq step.site s then entries_for ((move_site w step.site t).at s).pushes k else []))
        (λ k. earlier record { site = s; serial = k } ++ pushed_by w step (move_site w step.site t) record { site = s; serial = k })
        (λ k. ap (λ (o : Option Event). earlier record { site = s; serial = k }
        ++ (if is_some o && site_eq step.site s then entries_for ((move_site w step.site t).at s).pushes k else [])) (sym e))
        (moved made t then_it.3 then_it.2 s (site_eq step.site s) refl))

-- Every run

pub tells_news : (steps : List Step) (w v : Network) (earlier pushed : Proc → List Push) → Tells w steps pushed v → EachNews w earlier →
    EachNews v (λ p. earlier p ++ pushed p)
tells_news [] w v earlier pushed (same, nothing) all =
    subst (λ x. EachNews x (λ p. earlier p ++ pushed p)) (sym same)
    (λ s. news_as (w.at s) (λ k. earlier record { site = s; serial = k })
    (λ k. earlier record { site = s; serial = k } ++ pushed record { site = s; serial = k })
    (λ k.
    sym (append-nil (earlier record { site = s; serial = k }))
    ∙ ap (λ l. earlier record { site = s; serial = k } ++ l) (sym (nothing record { site = s; serial = k }))) (all s))
tells_news (step ∷ steps) w v earlier pushed (u, more, one, rest, is) all =
    let later = tells_news steps u v (λ p. earlier p ++ pushed_by w step u p) more rest (one_step w u step earlier one all) in
    λ s. news_as (v.at s)
    (λ k. (earlier record { site = s; serial = k } ++ pushed_by w step u record { site = s; serial = k })
    ++ more record { site = s; serial = k })
    (λ k. earlier record { site = s; serial = k } ++ pushed record { site = s; serial = k })
    (λ k.
    append_assoc (earlier record { site = s; serial = k }) (pushed_by w step u record { site = s; serial = k })
    (more record { site = s; serial = k })
    ∙ ap (λ l. earlier record { site = s; serial = k } ++ l) (sym (is record { site = s; serial = k }))) (later s)

pub tells_lead : (steps : List Step) (w v : Network) (pushed : Proc → List Push) → Tells w steps pushed v → Leads w steps v
tells_lead [] w v pushed (same, nothing) = same
tells_lead (step ∷ steps) w v pushed (u, more, one, rest, is) = (u, one, tells_lead steps u v more rest)

module _ (sites : List SiteNo) (config : SiteNo → DomainConfig) (steps : List Step) (pushed : Proc → List Push) (w : Network)
    (r : ReachesTelling sites config steps pushed w) where
  pub reaches : Reaches sites config steps w
  reaches = record { home = r.home; leads = tells_lead steps (start sites config) w pushed r.tells }

  pub each_news : EachNews w pushed
  each_news = tells_news steps (start sites config) w (λ q. []) pushed r.tells (λ s. (
    (λ k g e. absurd (true≢false e)),
    λ k. unused (λ low high. omega (arith, low, high)) refl (λ g. refl) refl refl refl,
  ))

  stage_of : (p : Proc) → Stage (w.at p.site).used p.serial (is_open ((w.at p.site).session p.serial))
      ((w.at p.site).process p.serial).standing (pushed p) (acts_of w p) []
  stage_of p = (each_news p.site).1 p.serial

-- The laws

pub are_told : AllAreTold
are_told sites config steps pushed w r p = elim (stage_of sites config steps pushed w r p) [
  | unused never shut out nothing idle due ↦ inl (ap all_told nothing ∙ sym (ap all_done idle))
  | going x ↦ inl (sym (append-nil (all_told (pushed p))) ∙ x.all)
  | ended given shut out all after due ↦ all
]

pub open_are_told : AllOpenAreTold
open_are_told sites config steps pushed w r p is = elim (stage_of sites config steps pushed w r p) [
  | unused never shut out nothing idle due ↦ absurd (false≢true (sym shut ∙ is))
  | going x ↦ sym (append-nil (all_told (pushed p))) ∙ x.all
  | ended given shut out all after due ↦ absurd (false≢true (sym shut ∙ is))
]

pub closed_are_last : AllClosedAreLast
closed_are_last sites config steps pushed w r p refusal a b is = elim (stage_of sites config steps pushed w r p) [
  | unused never shut out nothing idle due ↦ absurd (never_nil a b (push.Closed refusal) (sym nothing ∙ is))
  | going x ↦ absurd (x.none_closed refusal
      (subst (λ l. Contains l (push.Closed refusal)) (sym is) (contains_here a b (push.Closed refusal))))
  | ended given shut out all after due ↦ (after refusal a b is, λ open_it. false≢true (sym shut ∙ open_it))
]

pub inside_are_open : AllInsideAreOpen
inside_are_open sites config steps pushed w r p g view within =
    let h = holds_in_every sites config steps w (reaches sites config steps pushed w r) in
    let member = (((h.sites p.site).ones p.serial).fits.member g view within).0 in
    (inside (w.at p.site).used p.serial (is_open ((w.at p.site).session p.serial)) ((w.at p.site).process p.serial).standing (pushed p)
    (acts_of w p) [] (stage_of sites config steps pushed w r p) g (ap is_outside member)).open_it
