use Rattle.std.proofs.Common.{◌≡◌, ◌+◌, ◌-◌, ◌∙◌, true, false, length, refl, sym, ap}
use Rattle.std.specs.Prelude.{is_some, if◌then◌else◌}
use Rattle.cast_order.specs.Hand.{hand_over, note_order_sent}
use Rattle.cast_order.specs.Log.{change_log, with_hand}
use Rattle.cast_domain.specs.Records.{records_of}
use Rattle.cast_domain.specs.PartCalls.{sent_hand, settled_in}
use Rattle.cast_domain.proofs.Hands.{logs_twice}
use Rattle.cast_domain.proofs.domain.Domain.note_places.Goals as goal

pub returns-in_ok-hand_over-clause-made : goal.returns-in_ok-hand_over-clause-made
returns-in_ok-hand_over-clause-made c o part =
    let d = c.args.self.now in
    let r = records_of d part o in
    let u = c.args.id in
    let q = c.args.places.now in
    let last : c.saturating_sub-last.result ≡ q.first + length q.ids - 1 =
    c.saturating_sub-last.ensures ∙ (λ j. c.first.ensures.value j + length (c.ids.ensures.value j) - 1) in
    let settled : c.stable_count-settled.result ≡ settled_in r u.group u.view u.proc = c.stable_count-settled.ensures o part in
    let over : is_some q.holder ≡ true = ap is_some (sym c.holder.ensures.value) ∙ sym c.is_some.ensures ∙ c.if-is_some.true in
    let sent : c.hand_over.new.self
    ≡ change_log u.group (with_hand u.proc (sent_hand u.count (settled_in r u.group u.view u.proc) q)) d.orders =
    c.in_ok-hand_over.ensures
    ∙ ap (change_log u.group (with_hand u.proc hand_over)) c.in_ok-note.ensures
    ∙ logs_twice u.group u.proc hand_over (note_order_sent u.count c.saturating_sub-last.result c.stable_count-settled.result)
    (λ h. refl) d.orders
    ∙ (λ j. change_log u.group (with_hand u.proc (λ h. hand_over (note_order_sent u.count (last j) (settled j) h))) d.orders)
    ∙ sym (ap (λ b. change_log u.group (with_hand u.proc
    (λ h. if b then hand_over (note_order_sent u.count (q.first + length q.ids - 1) (settled_in r u.group u.view u.proc) h)
    else note_order_sent u.count (q.first + length q.ids - 1) (settled_in r u.group u.view u.proc) h)) d.orders) over) in
    λ j. record r { orders = sent j }

pub returns-else-is_some-clause-made : goal.returns-else-is_some-clause-made
returns-else-is_some-clause-made c o part =
    let d = c.args.self.now in
    let r = records_of d part o in
    let u = c.args.id in
    let q = c.args.places.now in
    let last : c.saturating_sub-last.result ≡ q.first + length q.ids - 1 =
    c.saturating_sub-last.ensures ∙ (λ j. c.first.ensures.value j + length (c.ids.ensures.value j) - 1) in
    let settled : c.stable_count-settled.result ≡ settled_in r u.group u.view u.proc = c.stable_count-settled.ensures o part in
    let plain : is_some q.holder ≡ false = ap is_some (sym c.holder.ensures.value) ∙ sym c.is_some.ensures ∙ c.if-is_some.false in
    let sent : c.note.new.self ≡ change_log u.group (with_hand u.proc (sent_hand u.count (settled_in r u.group u.view u.proc) q)) d.orders =
    c.in_ok-note.ensures
    ∙ (λ j. change_log u.group (with_hand u.proc (note_order_sent u.count (last j) (settled j))) d.orders)
    ∙ sym (ap (λ b. change_log u.group (with_hand u.proc
    (λ h. if b then hand_over (note_order_sent u.count (q.first + length q.ids - 1) (settled_in r u.group u.view u.proc) h)
    else note_order_sent u.count (q.first + length q.ids - 1) (settled_in r u.group u.view u.proc) h)) d.orders) plain) in
    λ j. record r { orders = sent j }
