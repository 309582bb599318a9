-- By the rules of messages that local processes send a site that follows another goes on standing for it.
use Rattle.std.proofs.Common.{◌≡◌, true, false, List}
use Rattle.std.specs.Prelude.{nat_lt, if◌then◌else◌}
use Rattle.std.specs.List.{fold}
use Rattle.cast_types.specs.declared.names.SiteNo.{SiteNo}
use Rattle.cast_types.specs.declared.names.Uid.{Uid}
use Rattle.cast_timer.specs.declared.key.OwedKind.TheVariants as kinds
use Rattle.cast_rules.specs.Rules.Keys.{message_key}
use Rattle.cast_rules.specs.Rules.Interface.{Site}
use Rattle.cast_rules.specs.Rules.Owing.{send_for, owe}
use Rattle.cast_rules.specs.Rules.Sending.{send_data}
use Rattle.cast_rules.proofs.Rules.Follows.{Follows, choose, each, IsInvariant}
use Rattle.cast_rules.proofs.Rules.Owing.{send_for_follows, owe_follows, send_for_keeps, owe_keeps}

-- an invariant of the moves holds after each of these rules
pub send_data_keeps : {S H : Type 0} (d : Site S H) (holds : S → Type 0) → IsInvariant d holds → (u : Uid) (s : S) → holds s →
    (to : SiteNo) → holds (send_data d u s to)
send_data_keeps d holds keeps u s l to =
    elim (d.has_acked s u to)
    as (λ b. holds (if b then send_for d s (message_key kinds.Data u to) else owe d s (message_key kinds.Data u to))) [
      | true ↦ send_for_keeps d holds keeps s l (message_key kinds.Data u to)
      | false ↦ owe_keeps d holds keeps s l (message_key kinds.Data u to)
    ]

module _ {R S H K : Type 0} (a : Site R H) (b : Site S K) (fits : R → S → Type 0) (stands : H → K → Type 0)
    (follows : Follows a b fits stands) where
  send_data_follows : (u : Uid) → nat_lt 0 u.count ≡ true → (r : R) (s : S) (to : SiteNo) → fits r s × follows.asked s u →
      fits (send_data a u r to) (send_data b u s to) × follows.asked (send_data b u s to) u
  send_data_follows u counted r s to f = (
    choose fits (a.has_acked r u to) (b.has_acked s u to) (send_for a r (message_key kinds.Data u to))
        (owe a r (message_key kinds.Data u to)) (send_for b s (message_key kinds.Data u to)) (owe b s (message_key kinds.Data u to))
        (follows.has_acked r s f.0 u f.1 counted to)
        (λ _. send_for_follows a b fits stands follows r s f.0 (message_key kinds.Data u to))
        (λ _. owe_follows a b fits stands follows r s f.0 (message_key kinds.Data u to)),
    send_data_keeps b (λ x. follows.asked x u) (follows.still_asked u) u s f.1 to,
  )

  -- a message is sent to sites
  pub sends_follow : (u : Uid) → nat_lt 0 u.count ≡ true → (sites : List SiteNo) (r : R) (s : S) → fits r s → follows.asked s u →
      fits (fold (send_data a u) r sites) (fold (send_data b u) s sites)
  sends_follow u counted sites r s f asked =
      (each (λ r s. fits r s × follows.asked s u) (send_data a u) (send_data b u) (send_data_follows u counted) sites r s (f, asked)).0
