-- What a site keeps of receipts, as contracts see it, and what each call does to it.
use Rattle.std.specs.Prelude.{ℕ, Bool, true, not, nat_le, max, min, if◌then◌else◌}
use Rattle.std.specs.Prelude.{List, [], ◌∷◌, map, filter, unwrap_or}
use Rattle.std.specs.List.{reduce}
use Rattle.std.specs.FinMap.Entries.{find, put}
use Rattle.cast_types.specs.declared.names.SiteNo.{SiteNo}
use Rattle.cast_types.specs.declared.names.GroupNo.{GroupNo}
use Rattle.cast_types.specs.declared.names.Uid.{Uid}
use Rattle.cast_types.specs.declared.source.Source.{Source}
use Rattle.cast_types.specs.Names.{group_cmp, site_eq}
use Rattle.cast_types.specs.Sources.{source_cmp, source_of, is_ended, but_ended}
use Rattle.cast_stable.specs.declared.witness.Witness.{Witness}
use Rattle.cast_stable.specs.Runs.{Run, no_counts, contains, greatest, insert_count}
use Rattle.cast_stable.specs.Witnesses.{witness_cmp, witness}

-- the site itself, the other sites of each group's view, the counts received of each source, those
-- that each site acknowledged, and the count to which each source was told to be stable
pub record Acks : Type 0 where
  pub here : SiteNo
  pub others : List (GroupNo × List SiteNo)
  pub received : List (Source × Run)
  pub acked : List (Witness × Run)
  pub told : List (Source × ℕ)

abbrev pub others_in : Acks → GroupNo → List SiteNo
others_in l g = unwrap_or (find group_cmp g l.others) []

abbrev pub received_run : Acks → Source → Run
received_run l s = unwrap_or (find source_cmp s l.received) no_counts

abbrev pub acked_run : Acks → Source → SiteNo → Run
acked_run l s site = unwrap_or (find witness_cmp (witness s site) l.acked) no_counts

abbrev pub told_count : Acks → Source → ℕ
told_count l s = unwrap_or (find source_cmp s l.told) 0

-- What is read

abbrev pub is_received_in : Acks → Uid → Bool
is_received_in l u = contains (received_run l (source_of u)) u.count

-- the greatest count received of a source, 0 where none was
abbrev pub last_received_in : Acks → Source → ℕ
last_received_in l s = greatest (received_run l s)

abbrev pub has_acked_in : Acks → SiteNo → Uid → Bool
has_acked_in l from u = contains (acked_run l (source_of u) from) u.count

-- the least of the counts to which the sites acknowledged a source without a gap, 0 of no site
abbrev pub least_acked : Acks → Source → List SiteNo → ℕ
least_acked l s sites = unwrap_or (reduce min (map (λ site. (acked_run l s site).upto) sites)) 0

abbrev pub upto_in : Acks → Uid → ℕ
upto_in l u = least_acked l (source_of u) (others_in l u.group)

-- stable for a site that has these others in the view
abbrev pub is_stable_among : Acks → List SiteNo → Uid → Bool
is_stable_among l [] u = true
is_stable_among l (site ∷ sites) u =
    if site_eq u.proc.site l.here then nat_le u.count (least_acked l (source_of u) (site ∷ sites))
    else nat_le u.count (told_count l (source_of u))

abbrev pub is_stable_in : Acks → Uid → Bool
is_stable_in l u = is_stable_among l (others_in l u.group) u

-- What is changed

abbrev pub new_ledger : SiteNo → Acks
new_ledger here = record { here = here; others = []; received = []; acked = []; told = [] }

-- what sites acknowledged of sources whose views of the group have not ended
abbrev pub acked_but_ended : GroupNo → ℕ → List (Witness × Run) → List (Witness × Run)
acked_but_ended g number es = filter (λ e. not (is_ended g number e.0.source)) es

-- the other sites of a group's view of this number; of the views before it nothing is kept
abbrev pub told_ledger : Acks → GroupNo → ℕ → List SiteNo → Acks
told_ledger l g number sites =
    record l {
      others = put group_cmp g sites l.others;
      received = but_ended g number l.received;
      acked = acked_but_ended g number l.acked;
      told = but_ended g number l.told;
    }

abbrev pub received_ledger : Acks → Uid → Acks
received_ledger l u =
    record l {
      received = put source_cmp (source_of u)
          (insert_count (received_run l (source_of u)) u.count) l.received;
    }

abbrev pub acked_ledger : Acks → SiteNo → Uid → Acks
acked_ledger l from u =
    record l {
      acked = put witness_cmp (witness (source_of u) from)
          (insert_count (acked_run l (source_of u) from) u.count) l.acked;
    }

abbrev pub learnt_ledger : Acks → Uid → Acks
learnt_ledger l u =
    record l {
      told = put source_cmp (source_of u) (max (told_count l (source_of u)) u.count) l.told;
    }
