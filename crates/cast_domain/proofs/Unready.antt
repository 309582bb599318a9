-- Where no message is ready for a process it delivers nothing, and where none is for any process, none delivers.
use Rattle.std.proofs.Common.{◌≡◌, ℕ, false, List, [], ◌∷◌, length, Option, Some, None, refl, ap, ◌∙◌}
use Rattle.std.specs.Prelude.{◌||◌, is_some}
use Rattle.std.specs.List.{fold}
use Rattle.std.specs.Option.{option_map_or}
use Rattle.cast_types.specs.declared.names.Key.{Key}
use Rattle.cast_types.specs.declared.names.Proc.{Proc}
use Rattle.cast_types.proofs.Iterates.{iterate_still}
use Rattle.cast_message.specs.declared.message.Message.{Message}
use Rattle.cast_message.specs.Receipts.{message_under}
use Rattle.cast_rules.specs.Rules.Release.{let_go}
use Rattle.cast_rules.specs.Rules.Rest.{deliver, deliver_first, deliver_all}
use Rattle.cast_domain.specs.Records.{Records}
use Rattle.cast_domain.specs.PartCalls.{local_in}
use Rattle.cast_domain.specs.Calls.{records}
use Rattle.cast_domain.specs.RestCalls.{next_ready_in, ready_key_in, resting_records}
use Rattle.cast_domain.specs.Flags.{changes_over, has_ready}

module _ (r : Records) (k : ℕ) (none : ready_key_in r (local_in r k) ≡ None) where
  no_message : next_ready_in r k ≡ None
  no_message = ap (λ (o : Option Key). option_map_or (message_under r.part.kept) o None) none

  pub not_ready : has_ready r k ≡ false
  not_ready = ap (λ (o : Option Message). is_some o) no_message

  pub delivers_none : deliver_all records resting_records r k ≡ r
  delivers_none =
      iterate_still (length r.part.kept) (deliver_first records resting_records k) r
      (ap (λ (o : Option Message). elim o [ Some m ↦ let_go records resting_records (deliver records resting_records r k m) | None ↦ r ])
      no_message)

module _ (r : Records) (none : (p : Proc) → ready_key_in r p ≡ None) where
  pub none_deliver : (ks : List ℕ) → fold (deliver_all records resting_records) r ks ≡ r
  none_deliver [] = refl
  none_deliver (k ∷ ks) =
      ap (λ t. fold (deliver_all records resting_records) t ks) (delivers_none r k (none (local_in r k))) ∙ none_deliver ks

  pub none_delivers : (ks : List ℕ) → changes_over has_ready (deliver_all records resting_records) r ks ≡ false
  none_delivers [] = refl
  none_delivers (k ∷ ks) =
      ap (λ b. b || changes_over has_ready (deliver_all records resting_records) (deliver_all records resting_records r k) ks)
      (not_ready r k (none (local_in r k)))
      ∙ ap (λ t. changes_over has_ready (deliver_all records resting_records) t ks) (delivers_none r k (none (local_in r k)))
      ∙ none_delivers ks
