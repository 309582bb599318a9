use Rattle.std.proofs.Common.{◌≡◌, rules, filter}
use Rattle.std.proofs.lemmas.Fn.{filter_same}
use Rattle.cast_types.specs.Names.{proc_cmp, site_eq}
use Rattle.cast_types.specs.Sets.{is_among}
use Rattle.cast_types.proofs.Rising.{rising_kept}
use Rattle.cast_view.proofs.procs.Procs.keep_at.Goals as goal

pub returns : goal.returns
returns c = rw (← c.self.view_is) (filter_same _ _ _ (λ x b f' k. search rules) _ _ c.retain.ensures.filtered)

pub invariant_of-self : goal.invariant_of-self
invariant_of-self c =
    let rest : c.retain.new.self.items ≡ filter (λ p. is_among site_eq p.site c.args.sites.now) c.self.inside.list.items =
    filter_same _ _ _ (λ x b f' k. search rules) _ _ c.retain.ensures.filtered in
    rw rest (rising_kept proc_cmp (λ p. is_among site_eq p.site c.args.sites.now) c.self.inside.list.items c.self.invariant)
