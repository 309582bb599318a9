use Rattle.std.proofs.Common.{◌∙◌, option_copied, sym, ap, arith}
use Rattle.cast_table.specs.declared.table.Table.{Table}
use Rattle.cast_table.specs.Shows.{domain_at}
use Rattle.cast_table.proofs.Places.{first_kept, named_within, none_kept, stands_at}
use Rattle.cast_table.proofs.table.Table.first_of.Goals as goal

pub index-requires : goal.index-requires
index-requires c =
    let below =
    named_within c.args.number c.self.inside.domains.items c.in_ok-place.place (c.in_ok-place.ensures ∙ c.self.invariant c.args.number) in
    omega (arith, below, c.self.inside.domains.ok.0)

pub returns : goal.returns
returns c =
    let ds = c.self.inside.domains.items in
    let place = c.in_ok-place.place in
    sym (stands_at ds place c.index.result.now
    (named_within c.args.number ds place (c.in_ok-place.ensures ∙ c.self.invariant c.args.number)) c.index.ensures)
    ∙ first_kept c.self.inside.places ds c.self.invariant c.args.number place c.in_ok-place.ensures
    ∙ ap (λ (t : Table). domain_at c.args.number t) c.self.view_is

pub returns-in_err-place : goal.returns-in_err-place
returns-in_err-place c =
    ap option_copied c.from_residual.ensures
    ∙ none_kept c.self.inside.places c.self.inside.domains.items c.self.invariant c.args.number c.in_err-place.ensures
    ∙ ap (λ (t : Table). domain_at c.args.number t) c.self.view_is
