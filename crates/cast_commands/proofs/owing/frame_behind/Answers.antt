use Rattle.std.proofs.Common.{◌≡◌, true, Some, ◌∙◌, refl, sym, ap, subst}
use Rattle.std.specs.Option.{option_map}
use Rattle.std.proofs.lemmas.Result.{IfOk-weaker}
use Rattle.cast_message.specs.declared.site.SiteFrame.{SiteFrame}
use Rattle.cast_timer.specs.declared.key.OwedKey.{OwedKey}
use Rattle.cast_timer.specs.Owed.{is_same_message}
use Rattle.cast_rules.specs.Rules.Owing.{frame_for}
use Rattle.cast_domain.specs.Records.{records_in}
use Rattle.cast_domain.specs.Calls.{records}
use Rattle.cast_domain.specs.Resent.{IsFrameOf}
use Rattle.cast_domain.proofs.Resending.{same_frame, stands_found, found_alone}
use Rattle.cast_commands.proofs.owing.frame_behind.Goals as goal

-- the frame that was sent last
pub returns-in-Some-clause-frame : goal.returns-in-Some-clause-frame
returns-in-Some-clause-frame c =
    let r = records_in c.args.domain.now c.args.lent.now in
    let fits : frame_for records r c.in-Some.other ≡ Some c.in-Some.frame = subst (IsFrameOf r) c.in-Some.is c.requires.stands in
    let same : is_same_message c.args.key c.in-Some.other ≡ true = sym c.is_same_message.ensures ∙ c.if-is_same_message.true in
    sym fits ∙ sym (same_frame r c.args.key c.in-Some.other same)

-- another one
pub returns-in_default-clause-stands : goal.returns-in_default-clause-stands
returns-in_default-clause-stands c =
    let r = records_in c.args.domain.now c.args.lent.now in
    IfOk-weaker c.frame_with_key.result _ _
    (λ f is. subst (IsFrameOf r) (sym is) (stands_found r c.args.key (frame_for records r c.args.key) refl)) c.frame_with_key.ensures

pub returns-in_default-clause-frame : goal.returns-in_default-clause-frame
returns-in_default-clause-frame c =
    let r = records_in c.args.domain.now c.args.lent.now in
    IfOk-weaker c.frame_with_key.result _ _ (λ f is. ap (option_map (λ (l : OwedKey × SiteFrame). l.1)) is
    ∙ found_alone c.args.key (frame_for records r c.args.key)) c.frame_with_key.ensures
