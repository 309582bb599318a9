-- A site that follows another has the same room.
use Rattle.std.proofs.Common.{◌≡◌}
use Rattle.std.specs.Prelude.{if◌then◌else◌}
use Rattle.cast_types.specs.Names.{is_order}
use Rattle.cast_message.specs.declared.message.Body.{Body}
use Rattle.cast_message.specs.Bodies.{kind_of}
use Rattle.cast_quota.specs.Quotas as quota
use Rattle.cast_rules.specs.Rules.Interface.{Site}
use Rattle.cast_rules.specs.Rules.Room.{may_receive, may_order, may_take}
use Rattle.cast_rules.proofs.Rules.Follows.{FollowsAll}

module _ {R S H K : Type 0} (a : Site R H) (b : Site S K) (fits : R → S → Type 0) (stands : H → K → Type 0)
    (all : FollowsAll a b fits stands) where
  pub receive_same : (r : R) (s : S) → fits r s → may_receive a r ≡ may_receive b s
  receive_same r s f = λ j. quota.may_receive (all.quotas r s f j) (all.held r s f j)

  pub order_same : (r : R) (s : S) → fits r s → may_order a r ≡ may_order b s
  order_same r s f = λ j. quota.may_order (all.quotas r s f j) (all.held r s f j)

  pub take_same : (r : R) (s : S) → fits r s → (x : Body) → may_take a r x ≡ may_take b s x
  take_same r s f x = λ j. if is_order (kind_of x) then order_same r s f j else receive_same r s f j
