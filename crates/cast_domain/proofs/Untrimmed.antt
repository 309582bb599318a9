-- Where no order is long nothing of any is forgotten.
use Rattle.std.proofs.Common.{◌≡◌, ℕ, ◌-◌, false, List, [], ◌∷◌, length, take, refl, ap, ◌∙◌}
use Rattle.std.specs.Prelude.{if◌then◌else◌}
use Rattle.std.specs.List.{fold, list_any}
use Rattle.cast_types.specs.declared.limits.TheConstants.{MAX_TAIL}
use Rattle.cast_message.specs.declared.message.Received.{Received}
use Rattle.cast_order.specs.Log.{Log, change_in, forgot, is_long, oldest_in}
use Rattle.cast_order.proofs.Logs.{forgot_none, none_of, same_in}
use Rattle.cast_domain.specs.declared.record.GroupRecord.{GroupRecord}
use Rattle.cast_domain.specs.Records.{Records}
use Rattle.cast_domain.specs.PartCalls.{record_at}
use Rattle.cast_domain.specs.ReleaseCalls.{log_in}
use Rattle.cast_domain.specs.Trims.{count_first, is_over_of, trim_in}

none_old : (l : Log) → is_long l ≡ false → oldest_in l ≡ []
none_old l short = ap (λ b. if b then take (length l.window - MAX_TAIL) l.window else []) short

one_stays : (kept : List Received) (r : Records) (i : ℕ) → list_any is_long r.orders ≡ false → trim_in kept r i ≡ r
one_stays kept r i none =
    let x : GroupRecord = record_at r.groups i in
    let old : oldest_in (log_in r x.name) ≡ [] = none_old (log_in r x.name) (none_of is_long x.name refl r.orders none) in
    (λ j. record r { orders = change_in x.name (forgot (count_first (is_over_of r x kept) (old j))) r.orders })
    ∙ (λ j. record r { orders = same_in x.name (forgot 0) forgot_none r.orders j })

pub none_trimmed : (kept : List Received) (r : Records) (is : List ℕ) → list_any is_long r.orders ≡ false → fold (trim_in kept) r is ≡ r
none_trimmed kept r [] none = refl
none_trimmed kept r (i ∷ is) none = ap (λ t. fold (trim_in kept) t is) (one_stays kept r i none) ∙ none_trimmed kept r is none
