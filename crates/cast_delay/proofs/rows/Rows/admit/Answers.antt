use Rattle.std.proofs.Common.{◌≡◌, ◌∙◌, ◌++◌, ◌∷◌, [], sym, ap, rules}
use Rattle.std.specs.Prelude.{◌&&◌}
use Rattle.std.proofs.lemmas.Bool.{and_parts}
use Rattle.cast_types.specs.Names.{site_eq}
use Rattle.cast_ready.specs.Rows.{new_row}
use Rattle.cast_delay.specs.Admitted.{all_below, are_of, busy_places, rise, site_with}
use Rattle.cast_delay.proofs.Admitted.{rise_more}
use Rattle.cast_delay.proofs.Busy.{are_of_first, are_of_more, places_more}
use Rattle.cast_delay.proofs.rows.Rows.admit.Goals as goal

-- rows rise with a process of their site that is above theirs, and it is not busy
pub invariant_of-self-2 : goal.invariant_of-self-2
invariant_of-self-2 c =
    let rows = c.self.inside.rows.items in
    let p = c.args.process in
    let last = new_row p in
    let kept : c.push.new.self.items ≡ rows ++ last ∷ [] = search rules in
    let first : c.site_with-site.result ≡ site_with c.self.inside.site p rows = search rules in
    let site = site_with c.self.inside.site p rows in (
      λ rising.
          let parts = and_parts c.self.inside.rising (site_eq p.site site && all_below p rows) (search (rules, rising, first)) in
          let above = and_parts (site_eq p.site site) (all_below p rows) parts.1 in
          let was = c.self.invariant.0 parts.0 in (
            ap rise kept ∙ rise_more last rows was.0 above.1,
            ap (λ s. are_of s c.push.new.self.items) first
                ∙ ap (are_of site) kept
                ∙ are_of_more site rows last (are_of_first c.self.inside.site p rows was.1) above.0,
          ),
      λ up. c.make_room.ensures.items ∙ c.self.invariant.1 up ∙ sym (ap (busy_places 0) kept ∙ places_more 0 rows last),
    )
