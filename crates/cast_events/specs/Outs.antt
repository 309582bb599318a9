-- What comes of events, and how what a step sends, delivers and pushes is added to it.
use Rattle.std.specs.Prelude.{[], ◌++◌}
use Rattle.cast_events.specs.declared.event.Outs.{Outs}

-- nothing was sent, delivered, pushed or halted
abbrev pub no_outs : Outs
no_outs = record { frames = []; halted = []; delivered = []; pushed = [] }

-- a step's frames, deliveries and pushes come after those before it
abbrev pub outs_then : Outs → Outs → Outs
outs_then before step =
    record before {
      frames = before.frames ++ step.frames;
      delivered = before.delivered ++ step.delivered;
      pushed = before.pushed ++ step.pushed;
    }
