-- Loops over serials, places and turns.
use Rattle.std.proofs.Common.{◌≡◌, ℕ, ◌<◌, ◌+◌, ◌-◌, zero, suc, List, [], ◌∷◌, length, get_or, drop, refl, sym, ap, subst, ◌∙◌, arith}
use Rattle.std.specs.List.{fold, range_with_len}
use Rattle.std.proofs.lemmas.List.{drop_more}
use Rattle.cast_types.specs.Places.{update}
use Rattle.cast_types.specs.Repeat.{iterate}
use Rattle.cast_domain.specs.declared.domain.Domain.{Domain}
use Rattle.cast_domain.specs.declared.record.GroupRecord.{GroupRecord}
use Rattle.cast_types.specs.declared.names.Key.{Key}
use Rattle.cast_rules.specs.Rules.Release.{is_free, let_go}
use Rattle.cast_domain.specs.PartCalls.{record_at}
use Rattle.cast_domain.specs.ReleaseCalls.{keys_passing, release_in}
use Rattle.cast_domain.specs.Calls.{records}
use Rattle.cast_domain.specs.RestCalls.{resting_records}
use Rattle.cast_events.specs.declared.config.DomainConfig.{DomainConfig}
use Rattle.cast_types.specs.declared.names.DomainNo.{DomainNo}
use Rattle.cast_domain.specs.declared.lent.Lent.{Lent}
use Rattle.cast_domain.specs.declared.shared.Shared.{Shared}
use Rattle.cast_domain.specs.Shared.{part_of}
use Rattle.cast_events.specs.declared.event.Outs.{Outs}
use Rattle.cast_domain.specs.Records.{Records, Keeps, GivesBack, KeepsBeside, records_of}

pub keeps_then : (a b c : Domain) → Keeps a b → Keeps b c → Keeps a c
keeps_then a b c first then = record {
  used = then.used ∙ first.used;
  site = then.site ∙ first.site;
  config = then.config ∙ first.config;
  halted = then.halted ∙ first.halted;
}

-- what is lent is given back over two changes
pub back_then : (d : DomainNo) (x y z : Lent) → GivesBack d x y → GivesBack d y z → GivesBack d x z
back_then d x y z first then = record {
  others = then.others ∙ first.others;
  shared = then.shared ∙ first.shared;
  outs = then.outs ∙ first.outs;
}

-- and all the rest stays
pub beside_then : {a b c : Domain} {x y z : Lent} → KeepsBeside a x b y → KeepsBeside b y c z → KeepsBeside a x c z
beside_then {a} {b} {c} {x} {y} {z} first then = record {
  same = keeps_then a b c first.same then.same;
  back = back_then a.config.domain x y z first.back (subst (λ (d : DomainConfig). GivesBack d.domain y z) first.same.config then.back);
}

-- a domain with what is shared, after its own change
pub seen_as : (a b : Domain) → Keeps a b → (h : Shared) (o : Outs) →
    records_of b (part_of b.config.domain h) o ≡ records_of b (part_of a.config.domain h) o
seen_as a b same h o = ap (λ (c : DomainConfig). records_of b (part_of c.domain h) o) same.config

-- one more of a fold over a list
pub fold_item : {A B : Type 0} (f : A → B → A) (x : A) (xs : List B) (i : ℕ) (d : B) → i < length xs →
    fold f (f x (get_or xs i d)) (drop (i + 1) xs) ≡ fold f x (drop i xs)
fold_item f x xs i d lt = sym (ap (fold f x) (drop_more xs i d lt))

-- one more of a fold over numbers
pub fold_more : {A : Type 0} (f : A → ℕ → A) (x : A) (i n : ℕ) → i < n →
    fold f (f x i) (range_with_len (i + 1) (n - (i + 1))) ≡ fold f x (range_with_len i (n - i))
fold_more f x i n lt =
    let one : n - i ≡ suc (n - (i + 1)) = omega arith in
    sym (ap (λ m. fold f x (range_with_len i m)) one)

-- one more turn
pub turn_more : {A : Type 0} (f : A → A) (x : A) (i n : ℕ) → i < n → iterate (n - (i + 1)) f (f x) ≡ iterate (n - i) f x
turn_more f x i n lt =
    let one : n - i ≡ suc (n - (i + 1)) = omega arith in
    sym (ap (λ m. iterate m f x) one)

-- at a place that is written, what is written stands
pub record_at_update : (f : GroupRecord → GroupRecord) (xs : List GroupRecord) (i : ℕ) → i < length xs →
    record_at (update xs i f) i ≡ f (record_at xs i)
record_at_update f [] i lt = absurd (omega arith)
record_at_update f (x ∷ xs) zero lt = refl
record_at_update f (x ∷ xs) (suc i) lt = record_at_update f xs i (omega arith)

-- what is released is of no group's record
groups_after : (keys : List Key) (r : Records) → (fold release_in r keys).groups ≡ r.groups
groups_after [] r = refl
groups_after (key ∷ keys) r = groups_after keys (release_in r key)

pub groups_let_go : (r : Records) → (let_go records resting_records r).groups ≡ r.groups
groups_let_go r = groups_after (keys_passing (is_free records resting_records r) r.part.kept) r
