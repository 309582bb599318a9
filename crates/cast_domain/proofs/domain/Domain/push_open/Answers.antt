use Rattle.std.proofs.Common.{◌≡◌, ◌∙◌, false, [], ◌∷◌, ◌++◌, ap, sym}
use Rattle.std.specs.Prelude.{if◌then◌else◌}
use Rattle.cast_types.specs.declared.refusal.Refusal.TheVariants.{Slow}
use Rattle.cast_message.specs.declared.client.Push.TheVariants as push
use Rattle.cast_domain.specs.Records.{records_in}
use Rattle.cast_domain.specs.PartCalls.{is_full_in}
use Rattle.cast_domain.proofs.domain.Domain.push_open.Goals as goal

pub push_entry-requires : goal.push_entry-requires
push_entry-requires c =
    let r = records_in c.args.self.now c.args.lent.now in
    let entries = r.part.outboxes c.args.serial in
    let room : is_full_in r c.args.serial ≡ false = sym c.is_full.ensures ∙ c.if-is_full.false in
    ap (λ b. entries ++ (if b then push.Closed Slow else c.args.entry) ∷ []) room
