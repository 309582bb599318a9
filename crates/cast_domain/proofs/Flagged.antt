-- Of the steps over a list one changes something: the first, or one of those behind it.
use Rattle.std.proofs.Common.{◌≡◌, ℕ, suc, ◌+◌, ◌-◌, ◌<◌, Bool, true, false, List, []}
use Rattle.std.proofs.Common.{◌∷◌, Option, Some, None, length, refl, sym, ap, ◌∙◌, arith}
use Rattle.std.specs.Prelude.{◌||◌, is_some}
use Rattle.std.specs.List.{range_with_len}
use Rattle.std.specs.Option.{option_map_or}
use Rattle.cast_types.specs.declared.names.Key.{Key}
use Rattle.cast_message.specs.declared.message.Received.{Received}
use Rattle.cast_message.specs.Receipts.{message_under}
use Rattle.cast_domain.specs.Records.{Records}
use Rattle.cast_domain.specs.PartCalls.{local_in}
use Rattle.cast_domain.specs.RestCalls.{ready_key_in}
use Rattle.cast_domain.specs.Flags.{changes_over, has_ready}

pub either_of : (a b c : Bool) → ((a || b) || c) ≡ (a || (b || c))
either_of true b c = refl
either_of false b c = refl

pub more_changes : (flag : Records → ℕ → Bool) (step : Records → ℕ → Records) (r v : Records) (changed led : Bool) (i n : ℕ) → i < n →
    led ≡ flag r i → v ≡ step r i → ((changed || led) || changes_over flag step v (range_with_len (i + 1) (n - (i + 1))))
    ≡ (changed || changes_over flag step r (range_with_len i (n - i)))
more_changes flag step r v changed led i n lt told made =
    let one : n - i ≡ suc (n - (i + 1)) = omega arith in
    either_of changed led (changes_over flag step v (range_with_len (i + 1) (n - (i + 1))))
    ∙ (λ j. changed || (told j || changes_over flag step (made j) (range_with_len (i + 1) (n - (i + 1)))))
    ∙ sym (ap (λ m. changed || changes_over flag step r (range_with_len i m)) one)

-- where nothing is kept nothing is ready
pub none_ready : (r : Records) (k : ℕ) → length r.part.kept ≡ 0 → has_ready r k ≡ false
none_ready r k = of_list (ready_key_in r (local_in r k)) r.part.kept
  where
    of_list : (o : Option Key) (kept : List Received) → length kept ≡ 0 → is_some (option_map_or (message_under kept) o None) ≡ false
    of_list None kept none = refl
    of_list (Some key) [] none = refl
    of_list (Some key) (x ∷ kept) none = absurd (omega (arith, none))
