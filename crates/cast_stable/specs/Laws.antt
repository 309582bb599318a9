-- The ledger keeps its meaning, and what it means.
-- What changes it changes what it means in the same way.
use Rattle.std.specs.Prelude.{◌≡◌, ◌≢◌, ◌<◌, ℕ, Bool, true, false, List, [], ◌∷◌, ◌++◌}
use Rattle.cast_types.specs.declared.names.SiteNo.{SiteNo}
use Rattle.cast_types.specs.declared.names.GroupNo.{GroupNo}
use Rattle.cast_types.specs.declared.names.Uid.{Uid}
use Rattle.cast_types.specs.declared.source.Source.{Source}
use Rattle.cast_types.specs.Names.{group_eq}
use Rattle.cast_types.specs.Sets.{set_at}
use Rattle.cast_types.specs.Sources.{is_ended, source_of}
use Rattle.cast_stable.specs.Acks.{Acks, upto_in, is_stable_in, new_ledger, told_ledger}
use Rattle.cast_stable.specs.Acks.{received_ledger, acked_ledger, learnt_ledger}
use Rattle.cast_stable.specs.Fits.{Past, upto_by, is_stable_by, Fits}

-- a new ledger means no views and no messages
abbrev pub NewFits : Type 0
NewFits =
    (here : SiteNo) (is_live : Source → Bool)
    → Fits (record {
      here = here;
      others = λ _.
          [];
      is_live = is_live;
      received = [];
      acks = [];
      told = [];
    }) (new_ledger here)

-- a group has a new view of this number; no more sources are live, and none of the views before it
abbrev pub TellKeepsMeaning : Type 0
TellKeepsMeaning =
    (past : Past) (l : Acks) → Fits past l
    → (g : GroupNo) (number : ℕ) (sites : List SiteNo) (is_live : Source → Bool)
    → ((x : Source) → is_live x ≡ true → (past.is_live x ≡ true) × (is_ended g number x ≡ false))
    → Fits (record past { others = set_at group_eq past.others g sites; is_live = is_live })
    (told_ledger l g number sites)

abbrev pub ReceiveKeepsMeaning : Type 0
ReceiveKeepsMeaning =
    (past : Past) (l : Acks) → Fits past l → (id : Uid)
    → Fits (record past { received = past.received ++ id ∷ [] }) (received_ledger l id)

abbrev pub AckKeepsMeaning : Type 0
AckKeepsMeaning =
    (past : Past) (l : Acks) → Fits past l → (from : SiteNo) (id : Uid)
    → Fits (record past { acks = past.acks ++ (from, id) ∷ [] }) (acked_ledger l from id)

abbrev pub LearnKeepsMeaning : Type 0
LearnKeepsMeaning =
    (past : Past) (l : Acks) → Fits past l → (id : Uid)
    → Fits (record past { told = past.told ++ id ∷ [] }) (learnt_ledger l id)

-- by what the ledger keeps, so many messages of a live source are stable as by the acknowledgements
abbrev pub UptoIsTheRule : Type 0
UptoIsTheRule =
    (past : Past) (l : Acks) → Fits past l → (u : Uid) → past.is_live (source_of u) ≡ true
    → past.others u.group ≢ []
    → upto_in l u ≡ upto_by past u

-- and a message is stable by one exactly if it is by the other
abbrev pub StableIsTheRule : Type 0
StableIsTheRule =
    (past : Past) (l : Acks) → Fits past l → (u : Uid) → past.is_live (source_of u) ≡ true
    → 0 < u.count
    → is_stable_in l u ≡ is_stable_by past u
