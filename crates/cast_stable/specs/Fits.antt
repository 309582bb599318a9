-- What a site keeps of receipts means.
-- It means the other sites of each group's view, and of what rules may still ask of the messages
-- received, acknowledged and told to be stable.
use Rattle.std.specs.Prelude.{◌≡◌, ◌<◌, ◌≤◌, ℕ, Bool, true, nat_le, List}
use Rattle.cast_types.specs.declared.names.SiteNo.{SiteNo}
use Rattle.cast_types.specs.declared.names.GroupNo.{GroupNo}
use Rattle.cast_types.specs.declared.names.Uid.{Uid}
use Rattle.cast_types.specs.declared.source.Source.{Source}
use Rattle.cast_types.specs.Names.{uid_eq, uid_in}
use Rattle.cast_types.specs.Sets.{is_among}
use Rattle.cast_types.specs.Sources.{source_of}
use Rattle.cast_stable.specs.Runs.{is_run}
use Rattle.cast_stable.specs.Stable.{Acked, has_acked, was_told, stable_upto, is_known_stable}
use Rattle.cast_stable.specs.Acks.{Acks, others_in, acked_run, told_count}
use Rattle.cast_stable.specs.Acks.{is_received_in, has_acked_in}

-- what a site was ever told of: the site itself, the other sites of each group's view, the sources
-- of which a rule may still ask, and all messages received, acknowledged and told to be stable
pub record Past : Type 0 where
  pub here : SiteNo
  pub others : GroupNo → List SiteNo
  pub is_live : Source → Bool
  pub received : List Uid
  pub acks : List Acked
  pub told : List Uid

-- by that past: how many messages of the id's source are stable, in a view that has another site,
-- and whether it is known to be
abbrev pub upto_by : Past → Uid → ℕ
upto_by past u = stable_upto past.acks (past.others u.group) u.group u.view u.proc

abbrev pub is_stable_by : Past → Uid → Bool
is_stable_by past u = is_known_stable past.here (past.others u.group) past.acks past.told u

-- the ledger tells of that site and of those views and, for counts from 1 on of live sources, of
-- those messages; of other sources it may have forgotten all
pub record Fits (past : Past) (l : Acks) : Type 0 where
  pub site : l.here ≡ past.here
  pub views : (g : GroupNo) → others_in l g ≡ past.others g
  pub receipts : (u : Uid) → past.is_live (source_of u) ≡ true → 0 < u.count
      → is_received_in l u ≡ is_among uid_eq u past.received
  pub acked : (from : SiteNo) (u : Uid) → past.is_live (source_of u) ≡ true → 0 < u.count
      → has_acked_in l from u ≡ has_acked past.acks u from
  pub runs : (s : Source) (from : SiteNo) → is_run (acked_run l s from) ≡ true
  pub learnt : (u : Uid) → past.is_live (source_of u) ≡ true → 0 < u.count
      → nat_le u.count (told_count l (source_of u)) ≡ was_told past.told u

-- a fact of each past of which the ledger tells and in which the source is live
abbrev pub WhileLive : Acks → Source → (Past → Type 0) → Type 0
WhileLive l s P = (past : Past) → Fits past l → past.is_live s ≡ true → P past

-- no message of the source with a greater count was received, and one with this count was, unless
-- it is 0
pub record SaysLast (received : List Uid) (s : Source) (last : ℕ) : Type 0 where
  pub most : (count : ℕ) → 0 < count
      → is_among uid_eq (uid_in s.group s.view (s.process, count)) received ≡ true → count ≤ last
  pub was : 0 < last → is_among uid_eq (uid_in s.group s.view (s.process, last)) received ≡ true
