use Rattle.std.proofs.Common.{Vec, Global, ◌≡◌, ◌++◌, ◌∷◌, [], ◌+◌, ◌∙◌, List, Some, take, ap, refl, subst, sym}
use Rattle.std.specs.List.{slice_get}
use Rattle.std.proofs.lemmas.List.{take_more, take_all}
use Rattle.cast_events.specs.declared.config.Config.{Config}
use Rattle.cast_events.specs.declared.config.DomainConfig.{DomainConfig}
use Rattle.cast_rules.specs.State.{opening}
use Rattle.cast_world.specs.declared.daemon.Daemon.{Daemon}
use Rattle.cast_world.specs.Worlds.{IsNew, StandsAt}
use Rattle.cast_world.proofs.Standing.{AreNew, new_none, new_more, new_world, new_stands, only_domain, has_domain}
use Rattle.cast_world.proofs.world.World.new.Goals as goal
use Rattle.cast_world.proofs.world.World.new.Goals.{in-Some+in_ok-copy+in_ok-new+in_ok-push, in_default}

pub loop-config-init : goal.loop-config-init
loop-config-init c = λ config solo. subst (λ (ds : List Daemon). AreNew config [] ds) (sym c.new-daemons.ensures.items) (new_none config)

pub loop-config-preserved : goal.loop-config-preserved
loop-config-preserved c = λ config solo.
    let i = c.loop-config.config-index in
    let configs = c.args.configs.now in
    let item : Config = c.config-item.result in
    let one : take i configs ++ item ∷ [] ≡ take (i + 1) configs =
    ap (λ x. take i configs ++ x ∷ []) c.config-item.is ∙ sym (take_more configs i item c.loop-config-test.true) in
    let alone = solo item (i, c.loop-config-test.true, sym c.config-item.is) in
    let so_far = c.loop-config.invariant config solo in
    elim c.match-first.branch [
      | in-Some+in_ok-copy+in_ok-new+in_ok-push w ↦
          let has : slice_get item.domains 0 ≡ Some w.in-Some.domain.now =
          ap (λ (xs : List DomainConfig). slice_get xs 0) (sym c.as_slice.ensures) ∙ sym w.in-Some.ensures.value in
          let same : w.in_ok-copy.field-0 ≡ config item.site =
          w.in_ok-copy.ensures ∙ only_domain item (config item.site) w.in-Some.domain.now alone.0 has in
          let d : Daemon = w.in_ok-new.field-0 in
          let made : IsNew item.site (config item.site) d = subst (λ x. IsNew item.site x d) same w.in_ok-new.ensures in
          let stands : StandsAt d (opening item.site (config item.site)) = new_stands d item.site (config item.site) made alone.1 in
          subst (λ (cs : List Config). AreNew config cs c.match-first.daemons.items) one
          (subst (λ (ds : List Daemon). AreNew config (take i configs ++ item ∷ []) ds)
          (sym (ap (λ (v : Vec Daemon Global). v.items) w.daemons-is ∙ w.in_ok-push.ensures.items))
          (new_more config (take i configs) c.loop-config.daemons.items item d so_far made.placed stands))
      | in_default w ↦
          absurd (has_domain item (config item.site)
          alone.0 (ap (λ (xs : List DomainConfig). slice_get xs 0) (sym c.as_slice.ensures) ∙ sym w.in_default.ensures.value))
    ]

pub returns : goal.returns
returns c = λ config solo.
    let configs = c.args.configs.now in
    new_world config configs _ (subst (λ cs. AreNew config cs c.loop-config.daemons.items)
    (take_all c.loop-config.config-index configs c.loop-config-test.false) (c.loop-config.invariant config solo)) c.new-2.ensures.items refl
