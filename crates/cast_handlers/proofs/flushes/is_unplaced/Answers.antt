use Rattle.std.proofs.Common.{◌≡◌, ◌∙◌, sym, ap, true, false, not, filter}
use Rattle.std.specs.Prelude.{◌&&◌}
use Rattle.std.specs.List.{list_any}
use Rattle.cast_types.specs.Names.{entry_eq, entry_of, is_atomic}
use Rattle.cast_types.specs.Sets.{is_among}
use Rattle.cast_message.specs.Bodies.{kind_of}
use Rattle.cast_message.specs.Receipts.{messages}
use Rattle.cast_order.specs.Log.{log_of, whole_kept}
use Rattle.cast_domain.specs.FlushCalls.{is_kept_of}
use Rattle.cast_domain.proofs.Marks.{abcast_among}
use Rattle.cast_handlers.proofs.flushes.is_unplaced.Goals as goal

pub returns-then-is_abcast_among : goal.returns-then-is_abcast_among
returns-then-is_abcast_among c =
    let x = c.args.group.now in
    let e = c.args.name in
    let known = is_among entry_eq e (whole_kept (log_of c.args.domain.now.orders x.name) c.args.holder) in
    let abcast : list_any (λ m. is_atomic (kind_of m.body) && entry_eq (entry_of m.id) e) (filter (is_kept_of x) (messages c.args.kept.now))
    ≡ true =
    sym (abcast_among x c.args.kept.now e) ∙ sym c.is_abcast_among.ensures ∙ c.if-is_abcast_among.true in
    ap not c.knows.ensures ∙ sym (ap (λ b. b && not known) abcast)

pub returns-else-is_abcast_among : goal.returns-else-is_abcast_among
returns-else-is_abcast_among c =
    let x = c.args.group.now in
    let e = c.args.name in
    let known = is_among entry_eq e (whole_kept (log_of c.args.domain.now.orders x.name) c.args.holder) in
    let none : list_any (λ m. is_atomic (kind_of m.body) && entry_eq (entry_of m.id) e) (filter (is_kept_of x) (messages c.args.kept.now))
    ≡ false =
    sym (abcast_among x c.args.kept.now e) ∙ sym c.is_abcast_among.ensures ∙ c.if-is_abcast_among.false in
    c.if-is_abcast_among.false ∙ sym (ap (λ b. b && not known) none)
