-- The names of frames that are owed.
use Rattle.std.specs.Prelude.{ℕ}
use Rattle.cast_types.specs.declared.names.SiteNo.{SiteNo}
use Rattle.cast_types.specs.declared.names.GroupNo.{GroupNo}
use Rattle.cast_types.specs.declared.names.Proc.{Proc}
use Rattle.cast_types.specs.declared.names.Uid.{Uid}
use Rattle.cast_types.specs.Names.{Entry}
use Rattle.cast_timer.specs.declared.key.OwedKey.{OwedKey}
use Rattle.cast_timer.specs.declared.key.OwedKind.{OwedKind}
use Rattle.cast_timer.specs.declared.key.OwedKind.TheVariants.{Ask, Want}
use Rattle.cast_timer.specs.declared.key.Side.TheVariants.{Site, Home}

abbrev pub nobody : Proc
nobody = record { site = record { 0 = 0 }; serial = 0 }

-- the first request of a group is owed to the home
abbrev pub ask_key : GroupNo → SiteNo → OwedKey
ask_key g home = record {
  kind = Ask;
  group = g;
  proc = nobody;
  count = 0;
  site = home;
  side = Site;
}

-- a frame of this kind about a group alone is owed to a site by the home
abbrev pub home_key : OwedKind → GroupNo → SiteNo → OwedKey
home_key kind g to = record {
  kind = kind;
  group = g;
  proc = nobody;
  count = 0;
  site = to;
  side = Home;
}

-- a message of a group, by its process and its count, is wanted from a site by the home
abbrev pub want_key : GroupNo → SiteNo × Entry → OwedKey
want_key g w = record {
  kind = Want;
  group = g;
  proc = w.1.0;
  count = w.1.1;
  site = w.0;
  side = Home;
}

-- a frame of this kind about a message is owed to a site, by this one as a site of the message's
-- view
abbrev pub message_key : OwedKind → Uid → SiteNo → OwedKey
message_key kind u to = record {
  kind = kind;
  group = u.group;
  proc = u.proc;
  count = u.count;
  site = to;
  side = Site;
}

-- the message that a key is about, in a view of its group
abbrev pub id_in : ℕ → OwedKey → Uid
id_in view key = record { group = key.group; view = view; proc = key.proc; count = key.count }
