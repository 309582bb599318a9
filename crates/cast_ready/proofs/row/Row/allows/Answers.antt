use Rattle.std.proofs.Common.{◌≡◌, true, Option, unwrap_or, ap, sym, ◌∙◌, rules}
use Rattle.std.proofs.lemmas.Bool.{eq-eqb}
use Rattle.std.specs.Option.{option_copied}
use Rattle.cast_types.specs.declared.clock.Clock.{Clock}
use Rattle.cast_types.specs.declared.names.Standing.TheVariants.{Member}
use Rattle.cast_clock.specs.Times.{first_clock}
use Rattle.cast_ready.specs.Rows.{row_allows}
use Rattle.cast_ready.proofs.Lows.{counted_allows}
use Rattle.cast_ready.proofs.row.Row.allows.Goals as goal

pub returns-in-Joining : goal.returns-in-Joining
returns-in-Joining c = search rules

-- the clock is low
pub returns-then-is_low : goal.returns-then-is_low
returns-then-is_low c = λ times is.
    let row = c.args.self.now in
    let clock : Clock = unwrap_or (option_copied c.args.clock) (first_clock 0) in
    let allowed : row_allows row c.args.number c.args.id times c.args.group Member ≡ true =
    counted_allows row c.args.number c.args.id times c.args.group clock (ap (λ (o : Option Clock). unwrap_or o (first_clock 0)) (sym is))
    (eq-eqb clock.view c.args.number (sym c.view_in-view.ensures ∙ c.if-view-number-2.true)) (c.requires c.if-is_low.true) in
    c.if-is_low.true ∙ sym allowed ∙ ap (row_allows row c.args.number c.args.id times c.args.group) (sym c.in-Member.is)
