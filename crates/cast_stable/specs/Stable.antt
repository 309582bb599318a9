-- Which messages every site of a view has received.
use Rattle.std.specs.Prelude.{◌≡◌, ◌≢◌, ℕ, zero, suc, ◌+◌, ◌<◌, ◌≤◌, Bool, true, false, ◌&&◌}
use Rattle.std.specs.Prelude.{◌==◌, nat_le, max, if◌then◌else◌, List, [], ◌∷◌, Contains}
use Rattle.std.specs.List.{list_any, list_all}
use Rattle.cast_types.specs.declared.names.SiteNo.{SiteNo}
use Rattle.cast_types.specs.declared.names.GroupNo.{GroupNo}
use Rattle.cast_types.specs.declared.names.Proc.{Proc}
use Rattle.cast_types.specs.declared.names.Uid.{Uid}
use Rattle.cast_types.specs.Names.{site_eq, group_eq, proc_eq, uid_eq, uid_in}

-- a site told that it has a message
abbrev pub Acked : Type 0
Acked = SiteNo × Uid

abbrev pub has_acked : List Acked → Uid → SiteNo → Bool
has_acked acks u s = list_any (λ a. site_eq a.0 s && uid_eq a.1 u) acks

-- the greatest count in any acknowledgement
abbrev pub greatest_acked : List Acked → ℕ
greatest_acked [] = 0
greatest_acked (a ∷ acks) = max a.1.count (greatest_acked acks)

-- the counts from n + 1 on, at most so many, that all of these sites have acknowledged without a
-- gap
abbrev pub acked_from : ℕ → List Acked → List SiteNo → Uid → ℕ
acked_from zero acks sites u = u.count
acked_from (suc most) acks sites u =
    if list_all (has_acked acks (record u { count = u.count + 1 })) sites
    then acked_from most acks sites (record u { count = u.count + 1 })
    else u.count

-- how many messages of a local process are stable: the greatest n such that each of the view's
-- other sites, of which there are some, has acknowledged counts 1 to n
abbrev pub stable_upto : List Acked → List SiteNo → GroupNo → ℕ → Proc → ℕ
stable_upto acks others g view p =
    acked_from (greatest_acked acks) acks others (uid_in g view (p, 0))

-- a site was told by the process's own site that its messages up to a count are stable
abbrev pub was_told : List Uid → Uid → Bool
was_told told u =
    list_any (λ t. group_eq t.group u.group
    && ((t.view == u.view)
    && (proc_eq t.proc u.proc
    && nat_le u.count t.count))) told

-- known to be stable at a site: at once in a view of that site alone; a message of its own by
-- acknowledgements; another by what its site told
abbrev pub is_known_stable : SiteNo → List SiteNo → List Acked → List Uid → Uid → Bool
is_known_stable here [] acks told u = true
is_known_stable here (s ∷ others) acks told u =
    if site_eq u.proc.site here
    then nat_le u.count (stable_upto acks (s ∷ others) u.group u.view u.proc)
    else was_told told u

-- each other site has acknowledged counts 1 to n of a process in a view, and some other site not
-- the next one
pub record IsStableUpto (acks : List Acked) (others : List SiteNo) (g : GroupNo) (view : ℕ)
    (p : Proc) (n : ℕ) : Type 0 where
  pub all : (s : SiteNo) (k : ℕ) → Contains others s → 0 < k → k ≤ n
      → has_acked acks (uid_in g view (p, k)) s ≡ true
  pub next : (s : SiteNo)
      × Contains others s
      × (has_acked acks (uid_in g view (p, n + 1)) s ≡ false)

-- the number of stable messages in words
abbrev pub StableIsGreatest : Type 0
StableIsGreatest =
    (acks : List Acked) (others : List SiteNo) (g : GroupNo) (view : ℕ) (p : Proc) → others ≢ []
    → IsStableUpto acks others g view p (stable_upto acks others g view p)
