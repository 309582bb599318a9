use Rattle.std.proofs.Common.{take}
use Rattle.cast_types.specs.declared.names.SiteNo.{SiteNo}
use Rattle.cast_events.specs.declared.config.DomainConfig.{DomainConfig}
use Rattle.cast_world.specs.Worlds.{AreSolo}
use Rattle.cast_world.proofs.Standing.{AreNew}
use Rattle.cast_world.proofs.world.World.new.Given as goal

-- the daemons so far
abbrev pub invariant-loop-config : goal.invariant-loop-config
invariant-loop-config l =
    (config : SiteNo → DomainConfig) → AreSolo l.configs config → AreNew config (take l.config-index l.configs) l.daemons.items
