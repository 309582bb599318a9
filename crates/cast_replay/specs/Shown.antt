-- What is printed of a script.
use Rattle.std.specs.Prelude.{◌≡◌, ℕ, List, Ok}
use Rattle.cast_events.specs.declared.log.Log.{Log}
use Rattle.cast_isolation.specs.Replays.{IsReplay}
use Rattle.cast_script.specs.declared.script.Script.{Script}
use Rattle.cast_script.specs.Readings.{script_of}
use Rattle.cast_print.specs.Logs.{log_text}

-- a text shows what comes of the script that the bytes are read as
pub record Shows (bytes : List ℕ) (text : List ℕ) : Type 0 where
  pub script : Script
  pub read : script_of bytes ≡ Ok script
  pub log : Log
  pub replayed : IsReplay script.config script.events log
  pub printed : text ≡ log_text script.config.site log
