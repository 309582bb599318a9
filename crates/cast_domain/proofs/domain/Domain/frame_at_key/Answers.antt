use Rattle.std.proofs.Common.{◌∙◌, sym, ap}
use Rattle.std.specs.Option.{option_map}
use Rattle.std.proofs.lemmas.Result.{IfOk-weaker}
use Rattle.cast_message.specs.declared.site.SiteFrame.TheVariants as frame
use Rattle.cast_rules.specs.Rules.Keys.{id_in}
use Rattle.cast_rules.specs.Rules.Owing.{frame_of_kind}
use Rattle.cast_domain.specs.Records.{records_in}
use Rattle.cast_domain.specs.PartCalls.{message_in}
use Rattle.cast_domain.specs.Calls.{records}
use Rattle.cast_domain.proofs.domain.Domain.frame_at_key.Goals as goal

pub returns-in-Data : goal.returns-in-Data
returns-in-Data c =
    let key = c.args.key.now in
    let about = c.id_in.ensures ∙ ap (λ n. id_in n key) c.number.ensures ∙ ap (λ x. id_in x.here.number key) c.record.ensures in
    IfOk-weaker c.data_frame.result _ _ (λ f made.
    let r = records_in c.args.self.now c.args.lent.now in
    made
    ∙ ap (λ u. option_map frame.Data (message_in r u)) about
    ∙ ap (frame_of_kind records r c.args.place key) (sym c.in-Data.is)) c.data_frame.ensures
