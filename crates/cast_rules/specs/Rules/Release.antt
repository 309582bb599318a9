-- The rules of messages that are kept for nobody any more: they are let go.
use Rattle.std.specs.Prelude.{Bool, ◌&&◌}
use Rattle.cast_types.specs.declared.names.Uid.{Uid}
use Rattle.cast_rules.specs.Rules.Interface.{Site, Resting}

module _ {S H : Type 0} (d : Site S H) (q : Resting S H) where
  -- a message is free: of the current view, which is not frozen, stable, and delivered by each
  -- local member
  abbrev pub is_free : S → Uid → Bool
  is_free s u = q.is_open s u && (d.is_stable s u && q.is_delivered s u)

  abbrev pub let_go : S → S
  let_go s = q.release s (is_free s)
