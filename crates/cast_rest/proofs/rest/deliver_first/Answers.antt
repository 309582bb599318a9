use Rattle.std.proofs.Common.{◌≡◌, ◌∙◌, false, sym, ap, subst, Option, Some, None, unwrap_or}
use Rattle.std.specs.Prelude.{is_some}
use Rattle.std.specs.Option.{option_copied, option_map_or}
use Rattle.cast_types.specs.declared.names.Key.{Key}
use Rattle.cast_types.specs.declared.names.Proc.{Proc}
use Rattle.cast_types.specs.declared.names.Uid.{Uid}
use Rattle.cast_types.specs.Sources.{source_of}
use Rattle.cast_message.specs.declared.message.Message.{Message}
use Rattle.cast_message.specs.Receipts.{message_under}
use Rattle.cast_rules.specs.Rules.Rest.{tell_if, told_of, deliver}
use Rattle.cast_domain.specs.Records.{Records, records_in}
use Rattle.cast_rules.specs.Rules.Release as release
use Rattle.cast_domain.specs.PartCalls.{is_full_in, local_in}
use Rattle.cast_domain.specs.Calls.{records}
use Rattle.cast_domain.specs.RestCalls.{deliver_as, next_ready_in, note_delivered_under, ready_key_in, resting_records}
use Rattle.cast_domain.specs.Freed.{AreNotFree, AreNotFreeBut}
use Rattle.cast_domain.specs.declared.rest.Delivery.{Delivery}
use Rattle.cast_types.specs.declared.source.Source.{Source}
use Rattle.cast_domain.proofs.NotFree.{id_under, none_but_delivered}
use Rattle.cast_rest.proofs.rest.deliver_first.Goals as goal

-- a process that delivers, and whose outbox has room, frees at most messages of the source of what is offered under the key
frees_own : (r after : Records) (p : Proc) (key : Key) (v : Delivery) (s : Source) → after ≡ deliver_as r p key v →
    s ≡ source_of (id_under r.delay.offered key v.id) → is_full_in r p.serial ≡ false → AreNotFree r → AreNotFreeBut s after
frees_own r after p key v s made same room none =
    subst (λ t. AreNotFreeBut t after) (sym same)
    (subst (AreNotFreeBut (source_of (id_under r.delay.offered key v.id))) (sym made) (none_but_delivered r p key v room none))

pub returns-in_default-clause-made : goal.returns-in_default-clause-made
returns-in_default-clause-made c clear =
    let r = records_in c.args.domain.now c.args.lent.now in
    let k = c.args.serial in
    let none : ready_key_in r (local_in r k) ≡ None =
    ap (ready_key_in r) (sym c.process-process.ensures) ∙ sym c.in_ok-key.ensures ∙ c.in_default.is in
    let next : next_ready_in r k ≡ None = ap (λ (o : Option Key). option_map_or (message_under r.part.kept) o None) none in
    sym (ap (λ (o : Option Message).
    elim o [ Some m ↦ release.let_go records resting_records (deliver records resting_records r k m) | None ↦ r ]) next)

pub returns-in_default-get-clause-made : goal.returns-in_default-get-clause-made
returns-in_default-get-clause-made c clear =
    let r = records_in c.args.domain.now c.args.lent.now in
    let k = c.args.serial in
    let some : ready_key_in r (local_in r k) ≡ Some c.in-Some.key =
    ap (ready_key_in r) (sym c.process-process.ensures) ∙ sym c.in_ok-key.ensures ∙ c.in-Some.is in
    let none : message_under r.part.kept c.in-Some.key ≡ None = sym c.get.ensures ∙ ap option_copied c.in_default-get.is in
    let next : next_ready_in r k ≡ None = ap (λ (o : Option Key). option_map_or (message_under r.part.kept) o None) some ∙ none in
    sym (ap (λ (o : Option Message).
    elim o [ Some m ↦ release.let_go records resting_records (deliver records resting_records r k m) | None ↦ r ]) next)

pub returns-clause-made : goal.returns-clause-made
returns-clause-made c clear =
    let r = records_in c.args.domain.now c.args.lent.now in
    let k = c.args.serial in
    let key = c.in-Some.key in
    let m = c.in-Some-get.message.now in
    let own = c.process-process.ensures in
    let some : ready_key_in r (local_in r k) ≡ Some key = ap (ready_key_in r) (sym own) ∙ sym c.in_ok-key.ensures ∙ c.in-Some.is in
    let found : message_under r.part.kept key ≡ Some m = sym c.get.ensures ∙ ap option_copied c.in-Some-get.is in
    let next : next_ready_in r k ≡ Some m = ap (λ (o : Option Key). option_map_or (message_under r.part.kept) o None) some ∙ found in
    let has_room : c.is_full-full.result ≡ false → is_full_in r c.process-process.result.serial ≡ false =
    λ room. ap (λ (q : Proc). is_full_in r q.serial) own ∙ sym c.is_full-full.ensures ∙ room in
    let same =
    c.source_of-source.ensures
    ∙ ap source_of (c.unwrap_or.ensures ∙ ap (λ (o : Option Uid). unwrap_or o c.in_ok-delivery.delivery.id) c.id_under.ensures) in
    c.let_go_delivered.ensures.made (λ room. frees_own r _ c.process-process.result key c.in_ok-delivery.delivery c.source_of-source.result
    c.in_ok-deliver.ensures.made same (has_room room) clear)
    ∙ ap (release.let_go records resting_records) (
    c.in_ok-deliver.ensures.made
    ∙ (λ j. deliver_as r (own j) key (c.in_ok-delivery.ensures j))
    ∙ sym (ap
    (λ (o : Option Key). tell_if records (option_map_or (λ x. note_delivered_under r (local_in r k) x m) o r) k (told_of m.id m.body)) some)
    )
    ∙ sym (ap (λ (o : Option Message).
    elim o [ Some x ↦ release.let_go records resting_records (deliver records resting_records r k x) | None ↦ r ]) next)

pub returns-clause-none : goal.returns-clause-none
returns-clause-none c clear =
    let r = records_in c.args.domain.now c.args.lent.now in
    let own = c.process-process.ensures in
    let has_room : c.is_full-full.result ≡ false → is_full_in r c.process-process.result.serial ≡ false =
    λ room. ap (λ (q : Proc). is_full_in r q.serial) own ∙ sym c.is_full-full.ensures ∙ room in
    let same =
    c.source_of-source.ensures
    ∙ ap source_of (c.unwrap_or.ensures ∙ ap (λ (o : Option Uid). unwrap_or o c.in_ok-delivery.delivery.id) c.id_under.ensures) in
    c.let_go_delivered.ensures.none (λ room. frees_own r _ c.process-process.result c.in-Some.key c.in_ok-delivery.delivery
    c.source_of-source.result c.in_ok-deliver.ensures.made same (has_room room) clear)

-- it tells whether one was ready
pub returns-in_default-clause-told : goal.returns-in_default-clause-told
returns-in_default-clause-told c =
    let r = records_in c.args.domain.now c.args.lent.now in
    let k = c.args.serial in
    let none : ready_key_in r (local_in r k) ≡ None =
    ap (ready_key_in r) (sym c.process-process.ensures) ∙ sym c.in_ok-key.ensures ∙ c.in_default.is in
    sym (ap (λ (o : Option Key). is_some (option_map_or (message_under r.part.kept) o None)) none)

pub returns-in_default-get-clause-told : goal.returns-in_default-get-clause-told
returns-in_default-get-clause-told c =
    let r = records_in c.args.domain.now c.args.lent.now in
    let k = c.args.serial in
    let some : ready_key_in r (local_in r k) ≡ Some c.in-Some.key =
    ap (ready_key_in r) (sym c.process-process.ensures) ∙ sym c.in_ok-key.ensures ∙ c.in-Some.is in
    let none : message_under r.part.kept c.in-Some.key ≡ None = sym c.get.ensures ∙ ap option_copied c.in_default-get.is in
    sym (ap (λ (o : Option Key). is_some (option_map_or (message_under r.part.kept) o None)) some ∙ ap is_some none)

pub returns-clause-told : goal.returns-clause-told
returns-clause-told c =
    let r = records_in c.args.domain.now c.args.lent.now in
    let k = c.args.serial in
    let some : ready_key_in r (local_in r k) ≡ Some c.in-Some.key =
    ap (ready_key_in r) (sym c.process-process.ensures) ∙ sym c.in_ok-key.ensures ∙ c.in-Some.is in
    let found : message_under r.part.kept c.in-Some.key ≡ Some c.in-Some-get.message.now =
    sym c.get.ensures ∙ ap option_copied c.in-Some-get.is in
    sym (ap (λ (o : Option Key). is_some (option_map_or (message_under r.part.kept) o None)) some ∙ ap is_some found)
