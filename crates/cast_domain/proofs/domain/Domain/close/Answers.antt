use Rattle.std.proofs.Common.{◌≡◌, ◌∙◌, Bool, true, false, List, [], ◌∷◌, ◌++◌, map, refl, ap, sym}
use Rattle.std.specs.Prelude.{if◌then◌else◌}
use Rattle.cast_types.specs.declared.refusal.Refusal.{Refusal}
use Rattle.cast_types.specs.declared.refusal.Refusal.TheVariants.{Slow}
use Rattle.cast_message.specs.declared.client.Push.{Push}
use Rattle.cast_message.specs.declared.client.Push.TheVariants as push
use Rattle.cast_events.specs.declared.session.Status.TheVariants.{Closed}
use Rattle.cast_domain.specs.Records.{records_in}
use Rattle.cast_domain.specs.PartCalls.{is_full_in, push_in, with_status}
use Rattle.cast_domain.proofs.domain.Domain.close.Goals as goal

-- where the outbox is full, the reason is that the program is too slow
ends : (full : Bool) (refusal : Refusal) (entries : List Push) →
    entries ++ (if full then push.Closed Slow else push.Closed (if full then Slow else refusal)) ∷ []
    ≡ entries ++ push.Closed (if full then Slow else refusal) ∷ []
ends true refusal entries = refl
ends false refusal entries = refl

pub push_entry-requires : goal.push_entry-requires
push_entry-requires c =
    let r = records_in c.args.self.now c.args.lent.now in
    let entries = r.part.outboxes c.args.serial in
    let full = is_full_in r c.args.serial in
    ap (λ why. entries ++ (if full then push.Closed Slow else push.Closed why) ∷ []) c.reason-why.ensures
    ∙ ends full c.args.refusal entries
    ∙ ap (λ why. entries ++ push.Closed why ∷ []) (sym c.reason-why.ensures)

pub returns-clause-made : goal.returns-clause-made
returns-clause-made c =
    let r = records_in c.args.self.now c.args.lent.now in
    let k = c.args.serial in
    let pushed = records_in c.args.self.now c.push_entry.new.lent in
    (λ j. record pushed { used = (c.close.ensures j).used; sessions = (c.close.ensures j).records })
    ∙ (λ j. record (c.in_ok-push_entry.ensures.made j) {
      sessions = map (with_status k Closed) (c.in_ok-push_entry.ensures.made j).sessions;
    })
    ∙ (λ j. record (push_in r k (push.Closed (c.reason-why.ensures j))) { sessions = map (with_status k Closed) r.sessions })
