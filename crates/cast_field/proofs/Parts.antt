-- Each field that is read is spelled so, and each that is spelled so is read.
use Rattle.std.proofs.Common.{◌≡◌, ℕ, ◌≤◌, true, ◌&&◌, List, [], ◌∷◌, ◌++◌, length, Option}
use Rattle.std.proofs.Common.{None, Ok, refl, sym, ap, subst, ◌∙◌, append_assoc, arith, lit<}
use Rattle.std.specs.Prelude.{nat_lt, nat_le}
use Rattle.std.specs.List.{flat_map, list_all, AllByRecursion}
use Rattle.std.specs.Int.{w16}
use Rattle.std.specs.FinMap.Entries.{is_sorted}
use Rattle.std.proofs.lemmas.Bool.{and_parts, and_from, lt-ltb, ltb-true, le-leb, leb-true}
use Rattle.cast_types.specs.declared.names.DomainNo.{DomainNo}
use Rattle.cast_types.specs.declared.names.SiteNo.{SiteNo}
use Rattle.cast_types.specs.declared.names.GroupNo.{GroupNo}
use Rattle.cast_types.specs.declared.names.Proc.{Proc}
use Rattle.cast_types.specs.declared.names.Uid.{Uid}
use Rattle.cast_types.specs.declared.clock.Clock.{Clock}
use Rattle.cast_types.specs.Names.{Entry, proc_cmp, group_cmp}
use Rattle.cast_types.specs.Stamps.{is_stamp}
use Rattle.cast_types.proofs.Orders.{proc_total, group_total}
use Rattle.cast_types.proofs.CountLists.{counts_parts, counts_from}
use Rattle.cast_field.specs.Spelling.{byte, short, word, spelled_proc, spelled_entry, spelled_uid}
use Rattle.cast_field.specs.Spelling.{spelled_counts, spelled_clock, spelled_times, spelled_payload}
use Rattle.cast_field.specs.Reading.{◌>>=◌, byte_at, number_at, bytes_at, many, above, domain_at, site_at, group_at}
use Rattle.cast_field.specs.Reading.{count_at, proc_at, entry_at, uid_at, proc_above, entry_above, process_of}
use Rattle.cast_field.specs.Reading.{counts_at, group_above, clock_above, group_of, times_at, payload_at}
use Rattle.cast_field.specs.Spelled.{IsFrom, IsName, IsCount, IsProc, IsEntry, IsUid, AreCounts, IsClock, AreTimes}
use Rattle.cast_field.proofs.Fields.{bind_ok, ok_is, Took, joined, Takes, Again, byte_takes, byte_again}
use Rattle.cast_field.proofs.Fields.{short_takes, short_again, word_takes, word_again, bytes_take, bytes_again}
use Rattle.cast_field.proofs.Lists.{many_takes, many_again, above_is, above_again, SortedMap, Placed, sorted_from, keyed_from}

pub domain_takes : Takes domain_at (λ (d : DomainNo). byte d.0) (λ (d : DomainNo). IsFrom 1 255 d.0)
unfolding domain_at
domain_takes bytes x fits e =
    let a1 = bind_ok (byte_at 1 255 bytes) (λ n. Ok (record { 0 = n.0 }, n.1)) x e in
    let t1 = byte_takes 1 255 bytes a1.0 fits a1.1 in
    let made : DomainNo × List ℕ = (record { 0 = a1.0.0 }, a1.0.1) in
    subst (λ (y : DomainNo × List ℕ). Took bytes ((λ (d : DomainNo). byte d.0) y.0) y.1 ((λ (d : DomainNo). IsFrom 1 255 d.0) y.0))
    (ok_is made x a1.2)
    (record { parts = t1.parts; rest_fits = t1.rest_fits; holds = t1.holds })

pub domain_again : Again domain_at (λ (d : DomainNo). byte d.0) (λ (d : DomainNo). IsFrom 1 255 d.0)
unfolding domain_at
domain_again v rest fits =
    rw (byte_again 1 255 (v.0) (rest) fits) refl

pub site_takes : Takes site_at (λ (s : SiteNo). short s.0) (λ (s : SiteNo). IsName s.0)
unfolding site_at
site_takes bytes x fits e =
    let a1 = bind_ok (number_at w16 1 65535 bytes) (λ n. Ok (record { 0 = n.0 }, n.1)) x e in
    let t1 = short_takes 1 65535 bytes a1.0 fits a1.1 in
    let made : SiteNo × List ℕ = (record { 0 = a1.0.0 }, a1.0.1) in
    subst (λ (y : SiteNo × List ℕ). Took bytes ((λ (s : SiteNo). short s.0) y.0) y.1 ((λ (s : SiteNo). IsName s.0) y.0)) (ok_is made x a1.2)
    (record { parts = t1.parts; rest_fits = t1.rest_fits; holds = t1.holds })

pub site_again : Again site_at (λ (s : SiteNo). short s.0) (λ (s : SiteNo). IsName s.0)
unfolding site_at
site_again v rest fits =
    rw (short_again 1 65535 (lit< tt) (v.0) (rest) fits) refl

pub group_takes : Takes group_at (λ (g : GroupNo). short g.0) (λ (g : GroupNo). IsName g.0)
unfolding group_at
group_takes bytes x fits e =
    let a1 = bind_ok (number_at w16 1 65535 bytes) (λ n. Ok (record { 0 = n.0 }, n.1)) x e in
    let t1 = short_takes 1 65535 bytes a1.0 fits a1.1 in
    let made : GroupNo × List ℕ = (record { 0 = a1.0.0 }, a1.0.1) in
    subst (λ (y : GroupNo × List ℕ). Took bytes ((λ (g : GroupNo). short g.0) y.0) y.1 ((λ (g : GroupNo). IsName g.0) y.0))
    (ok_is made x a1.2)
    (record { parts = t1.parts; rest_fits = t1.rest_fits; holds = t1.holds })

pub group_again : Again group_at (λ (g : GroupNo). short g.0) (λ (g : GroupNo). IsName g.0)
unfolding group_at
group_again v rest fits =
    rw (short_again 1 65535 (lit< tt) (v.0) (rest) fits) refl

pub count_takes : Takes count_at word IsCount
unfolding count_at
count_takes = word_takes 1 4294967295

pub count_again : Again count_at word IsCount
unfolding count_at
count_again = word_again 1 4294967295 (lit< tt)

pub proc_takes : Takes proc_at (spelled_proc) (IsProc)
unfolding proc_at spelled_proc
proc_takes bytes x fits e =
    let a1 =
    bind_ok (site_at bytes) (λ site. count_at site.1 >>= λ serial. Ok (record { site = site.0; serial = serial.0 }, serial.1)) x e in
    let a2 = bind_ok (count_at a1.0.1) (λ serial. Ok (record { site = a1.0.0; serial = serial.0 }, serial.1)) x a1.2 in
    let t1 = site_takes bytes a1.0 fits a1.1 in
    let t2 = count_takes a1.0.1 a2.0 t1.rest_fits a2.1 in
    let j1 = joined bytes (short (a1.0.0).0) a1.0.1 (word (a2.0.0)) a2.0.1 t1.parts t2.parts in
    let made : Proc × List ℕ = (record { site = a1.0.0; serial = a2.0.0 }, a2.0.1) in
    subst (λ (y : Proc × List ℕ). Took bytes ((spelled_proc) y.0) y.1 ((IsProc) y.0)) (ok_is made x a2.2)
    (record { parts = j1; rest_fits = t2.rest_fits; holds = record { site = t1.holds; serial = t2.holds } })

pub proc_again : Again proc_at (spelled_proc) (IsProc)
unfolding proc_at spelled_proc
proc_again v rest fits =
    let regrouped : (spelled_proc) v ++ rest ≡ (short (v.site).0) ++ ((word (v.serial)) ++ rest) =
    append_assoc (short (v.site).0) (word (v.serial)) rest in
    ap proc_at regrouped ∙ rw (site_again (v.site) ((word (v.serial)) ++ rest) fits.site, count_again (v.serial) (rest) fits.serial) refl

pub entry_takes : Takes entry_at (spelled_entry) (IsEntry)
unfolding entry_at spelled_entry
entry_takes bytes x fits e =
    let a1 = bind_ok (proc_at bytes) (λ proc. count_at proc.1 >>= λ count. Ok ((proc.0, count.0), count.1)) x e in
    let a2 = bind_ok (count_at a1.0.1) (λ count. Ok ((a1.0.0, count.0), count.1)) x a1.2 in
    let t1 = proc_takes bytes a1.0 fits a1.1 in
    let t2 = count_takes a1.0.1 a2.0 t1.rest_fits a2.1 in
    let j1 = joined bytes (spelled_proc (a1.0.0)) a1.0.1 (word (a2.0.0)) a2.0.1 t1.parts t2.parts in
    let made : Entry × List ℕ = ((a1.0.0, a2.0.0), a2.0.1) in
    subst (λ (y : Entry × List ℕ). Took bytes ((spelled_entry) y.0) y.1 ((IsEntry) y.0)) (ok_is made x a2.2)
    (record { parts = j1; rest_fits = t2.rest_fits; holds = record { proc = t1.holds; count = t2.holds } })

pub entry_again : Again entry_at (spelled_entry) (IsEntry)
unfolding entry_at spelled_entry
entry_again v rest fits =
    let regrouped : (spelled_entry) v ++ rest ≡ (spelled_proc (v.0)) ++ ((word (v.1)) ++ rest) =
    append_assoc (spelled_proc (v.0)) (word (v.1)) rest in
    ap entry_at regrouped ∙ rw (proc_again (v.0) ((word (v.1)) ++ rest) fits.proc, count_again (v.1) (rest) fits.count) refl

pub uid_takes : Takes uid_at (spelled_uid) (IsUid)
unfolding uid_at spelled_uid
uid_takes bytes x fits e =
    let a1 =
    bind_ok (group_at bytes) (λ group. count_at group.1 >>= λ view. proc_at view.1 >>= λ proc.
    count_at proc.1 >>= λ count. Ok (record { group = group.0; view = view.0; proc = proc.0; count = count.0 }, count.1)) x e in
    let a2 =
    bind_ok (count_at a1.0.1) (λ view. proc_at view.1 >>= λ proc.
    count_at proc.1 >>= λ count. Ok (record { group = a1.0.0; view = view.0; proc = proc.0; count = count.0 }, count.1)) x a1.2 in
    let a3 =
    bind_ok (proc_at a2.0.1) (λ proc.
    count_at proc.1 >>= λ count. Ok (record { group = a1.0.0; view = a2.0.0; proc = proc.0; count = count.0 }, count.1)) x a2.2 in
    let a4 =
    bind_ok (count_at a3.0.1) (λ count. Ok (record { group = a1.0.0; view = a2.0.0; proc = a3.0.0; count = count.0 }, count.1)) x a3.2 in
    let t1 = group_takes bytes a1.0 fits a1.1 in
    let t2 = count_takes a1.0.1 a2.0 t1.rest_fits a2.1 in
    let t3 = proc_takes a2.0.1 a3.0 t2.rest_fits a3.1 in
    let t4 = count_takes a3.0.1 a4.0 t3.rest_fits a4.1 in
    let j3 = joined a2.0.1 (spelled_proc (a3.0.0)) a3.0.1 (word (a4.0.0)) a4.0.1 t3.parts t4.parts in
    let j2 = joined a1.0.1 (word (a2.0.0)) a2.0.1 (spelled_proc (a3.0.0) ++ word (a4.0.0)) a4.0.1 t2.parts j3 in
    let j1 = joined bytes (short (a1.0.0).0) a1.0.1 (word (a2.0.0) ++ (spelled_proc (a3.0.0) ++ word (a4.0.0))) a4.0.1 t1.parts j2 in
    let made : Uid × List ℕ = (record { group = a1.0.0; view = a2.0.0; proc = a3.0.0; count = a4.0.0 }, a4.0.1) in
    subst (λ (y : Uid × List ℕ). Took bytes ((spelled_uid) y.0) y.1 ((IsUid) y.0)) (ok_is made x a4.2)
    (record {
      parts = j1;
      rest_fits = t4.rest_fits;
      holds = record { group = t1.holds; view = t2.holds; proc = t3.holds; count = t4.holds };
    })

pub uid_again : Again uid_at (spelled_uid) (IsUid)
unfolding uid_at spelled_uid
uid_again v rest fits =
    let regrouped : (spelled_uid) v ++ rest
    ≡ (short (v.group).0) ++ ((word (v.view)) ++ ((spelled_proc (v.proc)) ++ ((word (v.count)) ++ rest))) =
    append_assoc (short (v.group).0) (word (v.view) ++ (spelled_proc (v.proc) ++ word (v.count))) rest
    ∙ ap (λ (t : List ℕ). (short (v.group).0) ++ t) (append_assoc (word (v.view)) (spelled_proc (v.proc) ++ word (v.count)) rest
    ∙ ap (λ (t : List ℕ). (word (v.view)) ++ t) (append_assoc (spelled_proc (v.proc)) (word (v.count)) rest)) in
    ap uid_at regrouped ∙ rw (
      group_again (v.group) ((word (v.view)) ++ ((spelled_proc (v.proc)) ++ ((word (v.count)) ++ rest))) fits.group,
      count_again (v.view) ((spelled_proc (v.proc)) ++ ((word (v.count)) ++ rest)) fits.view,
      proc_again (v.proc) ((word (v.count)) ++ rest) fits.proc,
      count_again (v.count) (rest) fits.count,
    ) refl

pub proc_above_takes : (last : Option Proc) → Takes (proc_above last) spelled_proc (Placed proc_cmp IsProc last)
unfolding proc_above
proc_above_takes last bytes x fits e =
    let a = bind_ok (proc_at bytes) (λ k. above proc_cmp last k) x e in
    let g = above_is proc_cmp last a.0 x a.2 in
    let t = proc_takes bytes a.0 fits a.1 in
    subst (λ (y : Proc × List ℕ). Took bytes (spelled_proc y.0) y.1 (Placed proc_cmp IsProc last y.0)) g.0
    (record { parts = t.parts; rest_fits = t.rest_fits; holds = (t.holds, g.1) })

pub proc_above_again : (last : Option Proc) → Again (proc_above last) spelled_proc (Placed proc_cmp IsProc last)
unfolding proc_above
proc_above_again last v rest fits = rw (proc_again v rest fits.0) (above_again proc_cmp last (v, rest) fits.1)

pub group_above_takes : (last : Option GroupNo) →
    Takes (group_above last) (λ (g : GroupNo). short g.0) (Placed group_cmp (λ (g : GroupNo). IsName g.0) last)
unfolding group_above
group_above_takes last bytes x fits e =
    let a = bind_ok (group_at bytes) (λ k. above group_cmp last k) x e in
    let g = above_is group_cmp last a.0 x a.2 in
    let t = group_takes bytes a.0 fits a.1 in
    subst (λ (y : GroupNo × List ℕ).
    Took bytes ((λ (g : GroupNo). short g.0) y.0) y.1 (Placed group_cmp (λ (g : GroupNo). IsName g.0) last y.0)) g.0
    (record { parts = t.parts; rest_fits = t.rest_fits; holds = (t.holds, g.1) })

pub group_above_again : (last : Option GroupNo) →
    Again (group_above last) (λ (g : GroupNo). short g.0) (Placed group_cmp (λ (g : GroupNo). IsName g.0) last)
unfolding group_above
group_above_again last v rest fits = rw (group_again v rest fits.0) (above_again group_cmp last (v, rest) fits.1)

pub entry_above_takes : (last : Option Proc) → Takes (entry_above last) (spelled_entry) (SortedMap proc_cmp IsEntry last)
unfolding entry_above spelled_entry
entry_above_takes last bytes x fits e =
    let a1 = bind_ok (proc_above last bytes) (λ proc. count_at proc.1 >>= λ count. Ok ((proc.0, count.0), count.1)) x e in
    let a2 = bind_ok (count_at a1.0.1) (λ count. Ok ((a1.0.0, count.0), count.1)) x a1.2 in
    let t1 = proc_above_takes last bytes a1.0 fits a1.1 in
    let t2 = count_takes a1.0.1 a2.0 t1.rest_fits a2.1 in
    let j1 = joined bytes (spelled_proc (a1.0.0)) a1.0.1 (word (a2.0.0)) a2.0.1 t1.parts t2.parts in
    let made : Entry × List ℕ = ((a1.0.0, a2.0.0), a2.0.1) in
    subst (λ (y : Entry × List ℕ). Took bytes ((spelled_entry) y.0) y.1 ((SortedMap proc_cmp IsEntry last) y.0)) (ok_is made x a2.2)
    (record { parts = j1; rest_fits = t2.rest_fits; holds = (record { proc = t1.holds.0; count = t2.holds }, t1.holds.1) })

pub entry_above_again : (last : Option Proc) → Again (entry_above last) (spelled_entry) (SortedMap proc_cmp IsEntry last)
unfolding entry_above spelled_entry
entry_above_again last v rest fits =
    let regrouped : (spelled_entry) v ++ rest ≡ (spelled_proc (v.0)) ++ ((word (v.1)) ++ rest) =
    append_assoc (spelled_proc (v.0)) (word (v.1)) rest in
    ap (entry_above last) regrouped
    ∙ rw (proc_above_again last (v.0) ((word (v.1)) ++ rest) (fits.0.proc, fits.1), count_again (v.1) (rest) fits.0.count) refl

positive : (c : List Entry) → AllByRecursion IsEntry c → list_all (λ e. nat_lt 0 e.1) c ≡ true
positive [] h = refl
positive (e ∷ es) h = and_from (nat_lt 0 e.1) (list_all (λ e. nat_lt 0 e.1) es) (lt-ltb 0 e.1 h.0.count.above) (positive es h.1)

pub counts_takes : Takes counts_at spelled_counts AreCounts
unfolding counts_at spelled_counts
counts_takes bytes x fits e =
    let a = bind_ok (byte_at 0 64 bytes) (λ n. many entry_above process_of n.0 None n.1) x e in
    let t1 = byte_takes 0 64 bytes a.0 fits a.1 in
    let t2 =
    many_takes entry_above process_of spelled_entry (SortedMap proc_cmp IsEntry) entry_above_takes a.0.0 None a.0.1 x t1.rest_fits a.2 in
    let j1 = joined bytes (byte a.0.0) a.0.1 (flat_map spelled_entry x.0) x.1 t1.parts t2.parts in
    let known = sorted_from proc_cmp proc_total IsEntry None x.0 t2.holds.1 in
    let few : length x.0 ≤ 64 = omega (arith, t1.holds.below, t2.holds.0) in
    record {
      parts = j1 ∙ ap (λ (n : ℕ). (byte n ++ flat_map spelled_entry x.0) ++ x.1) (sym t2.holds.0);
      rest_fits = t2.rest_fits;
      holds = record { sorted = counts_from x.0 known.0 few (positive x.0 known.2); entries = known.2 };
    }

pub counts_again : Again counts_at spelled_counts AreCounts
unfolding counts_at spelled_counts
counts_again v rest fits =
    let known = counts_parts v fits.sorted in
    let regrouped : (byte (length v) ++ flat_map spelled_entry v) ++ rest ≡ byte (length v) ++ (flat_map spelled_entry v ++ rest) =
    append_assoc (byte (length v)) (flat_map spelled_entry v) rest in
    let size : IsFrom 0 64 (length v) = record { above = omega arith; below = known.1 } in
    ap counts_at regrouped ∙ rw (byte_again 0 64 (length v) (flat_map spelled_entry v ++ rest) size)
    (many_again entry_above process_of spelled_entry (SortedMap proc_cmp IsEntry)
    entry_above_again v None rest (keyed_from proc_cmp proc_total IsEntry None v known.0 tt fits.entries))

pub clock_above_takes : (last : Option GroupNo) → Takes (clock_above last) (spelled_clock) (SortedMap group_cmp IsClock last)
unfolding clock_above spelled_clock
clock_above_takes last bytes x fits e =
    let a1 =
    bind_ok (group_above last bytes) (λ group. count_at group.1
    >>= λ view. counts_at view.1 >>= λ counts. Ok ((group.0, record { view = view.0; counts = counts.0 }), counts.1)) x e in
    let a2 =
    bind_ok (count_at a1.0.1) (λ view. counts_at view.1 >>= λ counts. Ok ((a1.0.0, record { view = view.0; counts = counts.0 }), counts.1))
    x a1.2 in
    let a3 = bind_ok (counts_at a2.0.1) (λ counts. Ok ((a1.0.0, record { view = a2.0.0; counts = counts.0 }), counts.1)) x a2.2 in
    let t1 = group_above_takes last bytes a1.0 fits a1.1 in
    let t2 = count_takes a1.0.1 a2.0 t1.rest_fits a2.1 in
    let t3 = counts_takes a2.0.1 a3.0 t2.rest_fits a3.1 in
    let j2 = joined a1.0.1 (word (a2.0.0)) a2.0.1 (spelled_counts (a3.0.0)) a3.0.1 t2.parts t3.parts in
    let j1 = joined bytes (short (a1.0.0).0) a1.0.1 (word (a2.0.0) ++ spelled_counts (a3.0.0)) a3.0.1 t1.parts j2 in
    let made : (GroupNo × Clock) × List ℕ = ((a1.0.0, record { view = a2.0.0; counts = a3.0.0 }), a3.0.1) in
    subst (λ (y : (GroupNo × Clock) × List ℕ). Took bytes ((spelled_clock) y.0) y.1 ((SortedMap group_cmp IsClock last) y.0))
    (ok_is made x a3.2)
    (record {
      parts = j1;
      rest_fits = t3.rest_fits;
      holds = (record { group = t1.holds.0; view = t2.holds; counts = t3.holds }, t1.holds.1);
    })

pub clock_above_again : (last : Option GroupNo) → Again (clock_above last) (spelled_clock) (SortedMap group_cmp IsClock last)
unfolding clock_above spelled_clock
clock_above_again last v rest fits =
    let regrouped : (spelled_clock) v ++ rest ≡ (short (v.0).0) ++ ((word (v.1.view)) ++ ((spelled_counts (v.1.counts)) ++ rest)) =
    append_assoc (short (v.0).0) (word (v.1.view) ++ spelled_counts (v.1.counts)) rest
    ∙ ap (λ (t : List ℕ). (short (v.0).0) ++ t) (append_assoc (word (v.1.view)) (spelled_counts (v.1.counts)) rest) in
    ap (clock_above last) regrouped ∙ rw (
      group_above_again last (v.0) ((word (v.1.view)) ++ ((spelled_counts (v.1.counts)) ++ rest)) (fits.0.group, fits.1),
      count_again (v.1.view) ((spelled_counts (v.1.counts)) ++ rest) fits.0.view,
      counts_again (v.1.counts) (rest) fits.0.counts,
    ) refl

viewed : (t : List (GroupNo × Clock)) → AllByRecursion IsClock t → list_all (λ e. nat_lt 0 e.1.view) t ≡ true
viewed [] h = refl
viewed (e ∷ es) h = and_from (nat_lt 0 e.1.view) (list_all (λ e. nat_lt 0 e.1.view) es) (lt-ltb 0 e.1.view h.0.view.above) (viewed es h.1)

stamp_from : (t : List (GroupNo × Clock)) → is_sorted group_cmp t ≡ true → IsFrom 1 32 (length t) →
    list_all (λ e. nat_lt 0 e.1.view) t ≡ true → is_stamp t ≡ true
stamp_from t sorted size views =
    and_from (is_sorted group_cmp t) (nat_lt 0 (length t) && (nat_le (length t) 32 && list_all (λ e. nat_lt 0 e.1.view) t)) sorted
    (and_from (nat_lt 0 (length t)) (nat_le (length t) 32 && list_all (λ e. nat_lt 0 e.1.view) t) (lt-ltb 0 (length t) size.above)
    (and_from (nat_le (length t) 32) (list_all (λ e. nat_lt 0 e.1.view) t) (le-leb (length t) 32 size.below) views))

pub stamp_parts : (t : List (GroupNo × Clock)) → is_stamp t ≡ true → (is_sorted group_cmp t ≡ true) × IsFrom 1 32 (length t)
stamp_parts t h =
    let first =
    and_parts (is_sorted group_cmp t) (nat_lt 0 (length t) && (nat_le (length t) 32 && list_all (λ e. nat_lt 0 e.1.view) t)) h in
    let second = and_parts (nat_lt 0 (length t)) (nat_le (length t) 32 && list_all (λ e. nat_lt 0 e.1.view) t) first.1 in
    let third = and_parts (nat_le (length t) 32) (list_all (λ e. nat_lt 0 e.1.view) t) second.1 in
    (first.0, record { above = ltb-true 0 (length t) second.0; below = leb-true (length t) 32 third.0 })

pub times_takes : Takes times_at spelled_times AreTimes
unfolding times_at spelled_times
times_takes bytes x fits e =
    let a = bind_ok (byte_at 1 32 bytes) (λ n. many clock_above group_of n.0 None n.1) x e in
    let t1 = byte_takes 1 32 bytes a.0 fits a.1 in
    let t2 =
    many_takes clock_above group_of spelled_clock (SortedMap group_cmp IsClock) clock_above_takes a.0.0 None a.0.1 x t1.rest_fits a.2 in
    let j1 = joined bytes (byte a.0.0) a.0.1 (flat_map spelled_clock x.0) x.1 t1.parts t2.parts in
    let known = sorted_from group_cmp group_total IsClock None x.0 t2.holds.1 in
    let size : IsFrom 1 32 (length x.0) = subst (IsFrom 1 32) (sym t2.holds.0) t1.holds in
    record {
      parts = j1 ∙ ap (λ (n : ℕ). (byte n ++ flat_map spelled_clock x.0) ++ x.1) (sym t2.holds.0);
      rest_fits = t2.rest_fits;
      holds = record { sorted = stamp_from x.0 known.0 size (viewed x.0 known.2); clocks = known.2 };
    }

pub times_again : Again times_at spelled_times AreTimes
unfolding times_at spelled_times
times_again v rest fits =
    let known = stamp_parts v fits.sorted in
    let regrouped : (byte (length v) ++ flat_map spelled_clock v) ++ rest ≡ byte (length v) ++ (flat_map spelled_clock v ++ rest) =
    append_assoc (byte (length v)) (flat_map spelled_clock v) rest in
    ap times_at regrouped ∙ rw (byte_again 1 32 (length v) (flat_map spelled_clock v ++ rest) known.1)
    (many_again clock_above group_of spelled_clock (SortedMap group_cmp IsClock)
    clock_above_again v None rest (keyed_from group_cmp group_total IsClock None v known.0 tt fits.clocks))

pub payload_takes : Takes payload_at spelled_payload (λ p. length p ≤ 16384)
unfolding payload_at spelled_payload
payload_takes bytes x fits e =
    let a = bind_ok (number_at w16 0 16384 bytes) (λ n. bytes_at n.0 n.1) x e in
    let t1 = short_takes 0 16384 bytes a.0 fits a.1 in
    let t2 = bytes_take a.0.0 a.0.1 x t1.rest_fits a.2 in
    let j1 = joined bytes (short a.0.0) a.0.1 x.0 x.1 t1.parts t2.parts in
    record {
      parts = j1 ∙ ap (λ (n : ℕ). (short n ++ x.0) ++ x.1) (sym t2.holds);
      rest_fits = t2.rest_fits;
      holds = omega (arith, t1.holds.below, t2.holds);
    }

pub payload_again : Again payload_at spelled_payload (λ p. length p ≤ 16384)
unfolding payload_at spelled_payload
payload_again v rest fits =
    let regrouped : (short (length v) ++ v) ++ rest ≡ short (length v) ++ (v ++ rest) = append_assoc (short (length v)) v rest in
    let size : IsFrom 0 16384 (length v) = record { above = omega arith; below = fits } in
    ap payload_at regrouped ∙ rw (short_again 0 16384 (lit< tt) (length v) (v ++ rest) size) (bytes_again v rest)
