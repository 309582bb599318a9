-- How much room there is for messages.
use Rattle.std.specs.Prelude.{Bool, if◌then◌else◌}
use Rattle.cast_types.specs.Names.{is_order}
use Rattle.cast_message.specs.declared.message.Body.{Body}
use Rattle.cast_message.specs.Bodies.{kind_of}
use Rattle.cast_quota.specs.Quotas as quota
use Rattle.cast_rules.specs.Rules.Interface.{Site}

module _ {S H : Type 0} (d : Site S H) where
  -- a cast, or a cast from another site, may be received beside the messages that are kept
  abbrev pub may_receive : S → Bool
  may_receive s = quota.may_receive (d.quotas s) (d.held s)

  -- a set-order message may be sent or received beside them, and a holder may deliver an ABCAST:
  -- there is room for these where casts find none
  abbrev pub may_order : S → Bool
  may_order s = quota.may_order (d.quotas s) (d.held s)

  -- a message of this body may be received from another site
  abbrev pub may_take : S → Body → Bool
  may_take s b = if is_order (kind_of b) then may_order s else may_receive s
