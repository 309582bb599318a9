-- What the document of a host's keys says.
use Rattle.std.specs.Prelude.{ℕ, List, Result, Ok, Err}
use Rattle.hex.specs.Hex.{decode_sized}
use Rattle.hex.specs.declared.error.FromHexError.{FromHexError}
use Rattle.toml.specs.Data.{Members}
use Rattle.toml.specs.Parse.{parse_document}
use Rattle.cast_script.specs.WordReadings.{◌>>=◌, each}
use Rattle.cast_config.specs.declared.fault.Field.TheVariants.{Key, Number, Secret, Sites}
use Rattle.cast_config.specs.declared.fault.Cause.TheVariants.{Range}
use Rattle.cast_config.specs.declared.fault.ConfigFault.{ConfigFault}
use Rattle.cast_config.specs.declared.keys.HostKey.{HostKey}
use Rattle.cast_config.specs.Faults.{fault}
use Rattle.cast_config.specs.Fields.{number_at, numbers_at, text_at}
use Rattle.cast_config.specs.Entries.{sites_from}
use Rattle.cast_config.specs.Documents.{document_or_fault, tables_at}

abbrev pub secret_or_fault : Result (List ℕ) FromHexError → Result (List ℕ) ConfigFault
secret_or_fault (Ok bytes) = Ok bytes
secret_or_fault (Err error) = Err (fault Secret Range)

-- 32 bytes, as 64 digits of base 16
abbrev pub secret_of : List ℕ → Result (List ℕ) ConfigFault
secret_of text = secret_or_fault (decode_sized text 32)

-- a key, with the sites of the host that it is for
unfoldable pub key_of : Members → Result HostKey ConfigFault
key_of members = do
  sites ← numbers_at Sites 16 members
  n ← number_at Number 0 255 members
  text ← text_at Secret members
  secret ← secret_of text
  Ok (record { sites = sites_from sites; number = n; secret = secret })

-- what a text says of keys
unfoldable pub keys_of : List ℕ → Result (List HostKey) ConfigFault
keys_of text = do
  members ← document_or_fault (parse_document text)
  tables ← tables_at Key members
  each key_of tables
