use Rattle.std.proofs.Common.{◌≡◌, ◌≤◌, true, length, Ok, sym, ◌∙◌, arith}
use Rattle.std.specs.List.{list_any}
use Rattle.cast_types.specs.Names.{site_eq}
use Rattle.cast_script.specs.Words.{parts_at, sites_rise}
use Rattle.cast_script.specs.WordReadings.{each, site_of, sites_of}
use Rattle.cast_script.proofs.Parts.{checked_again}
use Rattle.cast_script.proofs.domain.sites_word.Goals as goal

pub returns-then-contains-2 : goal.returns-then-contains-2
unfolding sites_of
returns-then-contains-2 c =
    let sites = c.in_ok-sites.sites.items in
    let read : each site_of (parts_at 44 c.args.word.now) ≡ Ok sites = c.in_ok-sites.ensures in
    let few : length sites ≤ 16 = omega arith in
    let rises : sites_rise sites ≡ true = rw c.deref.ensures.value at (sym c.sites_rise.ensures ∙ c.if-sites_rise.true) in
    let home : list_any (λ s. site_eq s c.args.home) sites ≡ true =
    rw c.deref-then-sites_rise.ensures.value at (sym c.contains.ensures.value ∙ c.if-contains.true) in
    let own : list_any (λ s. site_eq s c.args.own) sites ≡ true =
    rw c.deref-then-contains.ensures.value at (sym c.contains-then-contains.ensures.value ∙ c.if-contains-2.true) in
    rw (read, c.from_vec.ensures) (checked_again c.args.home c.args.own sites few rises home own)
