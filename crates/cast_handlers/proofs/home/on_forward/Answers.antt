use Rattle.std.proofs.Common.{◌≡◌, ◌∙◌, sym, ap, true, Option, Some, None}
use Rattle.std.specs.Prelude.{if◌then◌else◌}
use Rattle.std.specs.List.{find}
use Rattle.cast_types.specs.declared.names.SiteNo.{SiteNo}
use Rattle.cast_types.specs.Names.{Entry, entry_eq, entry_of}
use Rattle.cast_types.specs.Places.{update}
use Rattle.cast_view.specs.Home.HomeMove.{Brought}
use Rattle.cast_rules.specs.Rules.Keys.{want_key}
use Rattle.cast_rules.specs.Rules.Home.{is_of_home, wants}
use Rattle.cast_domain.specs.Shared.{part_of}
use Rattle.cast_domain.specs.Records.{Records, records_in}
use Rattle.cast_domain.specs.PartCalls.{move_home_in, moved_home, pay_in, record_at}
use Rattle.cast_domain.specs.Calls.{records}
use Rattle.cast_handlers.proofs.home.on_forward.Goals as goal

pub returns-in_default-clause-made : goal.returns-in_default-clause-made
returns-in_default-clause-made c =
    let d = c.args.domain.now in
    let lent = c.args.lent.now in
    let m = c.args.message.now in
    let i = c.args.place in
    let r : Records = records_in d lent in
    let none : find (λ x. entry_eq x.1 (entry_of m.id)) (wants records r i) ≡ None =
    sym (c.in_ok-wanted.ensures lent.outs.now (part_of d.config.domain lent.shared.now)) ∙ c.in_default.is in
    sym (ap (λ (o : Option (SiteNo × Entry)). elim o as (λ _. Records) [
      | Some w ↦ (if is_of_home records r i m
          then move_home_in (pay_in r (want_key (record_at r.groups i).name w)) i (Brought m)
          else r)
      | None ↦ r
    ]) none)

pub returns-clause-made : goal.returns-clause-made
returns-clause-made c =
    let d = c.args.domain.now in
    let lent = c.args.lent.now in
    let part = part_of d.config.domain lent.shared.now in
    let m = c.args.message.now in
    let i = c.args.place in
    let r : Records = records_in d lent in
    let name = (record_at r.groups i).name in
    let it = c.in-Some.wanted in
    let some : find (λ x. entry_eq x.1 (entry_of m.id)) (wants records r i) ≡ Some it =
    sym (c.in_ok-wanted.ensures lent.outs.now part) ∙ c.in-Some.is in
    let flushed : is_of_home records r i m ≡ true =
    sym (c.is_flushed_message.ensures lent.outs.now part) ∙ c.if-not-is_flushed_message.false in
    let key : c.want_key-key.result ≡ want_key name it = c.want_key-key.ensures ∙ ap (λ y. want_key y.name it) c.record.ensures in
    let groups : c.body_at.new.groups.items ≡ update r.groups i (moved_home (Brought m)) =
    c.in_ok-body_at.ensures ∙ ap (λ y. update r.groups i (moved_home (Brought y))) c.in_ok-copy.ensures in
    (λ j. record ((c.pay.ensures.made ∙ ap (pay_in r) key) j) { groups = groups j })
    ∙ sym (ap (λ b. if b then move_home_in (pay_in r (want_key name it)) i (Brought m) else r) flushed)
    ∙ sym (ap (λ (o : Option (SiteNo × Entry)). elim o as (λ _. Records) [
      | Some w ↦
          (if is_of_home records r i m then move_home_in (pay_in r (want_key name w)) i (Brought m) else r)
      | None ↦ r
    ]) some)
