-- The ledger means what it tells of, and keeps that meaning.
-- What a ledger means is a past: the messages received, acknowledged and told of. `new_fits` says
-- that a new ledger has an empty past; `receive_fits`, `ack_fits`, `learn_fits` and `tell_fits`
-- say that each change of the ledger is the same change of its past. The ledger keeps counts in
-- place of names: each count stands for the acknowledgements of one source, and an answer compares
-- counts. The lemmas `received_meant` to `stable_meant` show that each answer is then the one that
-- the past gives.
use Rattle.std.proofs.Common.{◌≡◌, ℕ, ◌+◌, ◌<◌, ◌≤◌, max, Bool, true, false, ◌&&◌, ◌||◌, cond, None, unwrap_or}
use Rattle.std.proofs.Common.{List, [], ◌∷◌, ◌++◌, map, Contains, refl, sym, ap, subst, ◌∙◌, inl, inr, arith}
use Rattle.std.specs.Prelude.{if◌then◌else◌, not, ◌≢◌, ◌==◌, min, nat_lt, nat_le}
use Rattle.std.specs.List.{list_any, fold}
use Rattle.std.specs.FinMap.Entries.{find}
use Rattle.std.proofs.Math.Bool.{or_comm}
use Rattle.std.proofs.Math.Nat.{le-max_left, le-max_right}
use Rattle.std.proofs.lemmas.Bool.{and_parts, and_from, or_cases, or_left, or_right, cases_Bool, cases_lt}
use Rattle.std.proofs.lemmas.Bool.{lt-ltb, le-leb, lt-leb, leb-true, eq-eqb, eqb-true, false_from_ne_true}
use Rattle.std.proofs.lemmas.List.Folds.{list_any-append}
use Rattle.cast_types.specs.declared.names.SiteNo.{SiteNo}
use Rattle.cast_types.specs.declared.names.GroupNo.{GroupNo}
use Rattle.cast_types.specs.declared.names.Uid.{Uid}
use Rattle.cast_types.specs.declared.source.Source.{Source}
use Rattle.cast_types.specs.Names.{site_eq, group_eq, proc_eq, uid_eq, uid_in}
use Rattle.cast_types.specs.Sets.{is_among, set_at}
use Rattle.cast_types.specs.Sources.{source, is_ended, source_of}
use Rattle.cast_types.proofs.Orders.{group_total, group_exact, same_site, same_group, same_proc}
use Rattle.cast_types.proofs.Orders.{same_uid, site_itself, group_itself, proc_itself}
use Rattle.cast_types.proofs.Sources.{source_total, source_exact, find_but_ended}
use Rattle.cast_stable.specs.declared.witness.Witness.{Witness}
use Rattle.cast_stable.specs.Runs.{no_counts, is_run, contains, insert_count}
use Rattle.cast_stable.specs.Witnesses.{witness_cmp, witness}
use Rattle.cast_stable.specs.Stable.{Acked, has_acked, stable_upto, was_told, is_known_stable}
use Rattle.cast_stable.specs.Acks.{Acks, others_in, received_run, acked_run, told_count, is_received_in, has_acked_in, least_acked, upto_in}
use Rattle.cast_stable.specs.Acks.{is_stable_among, is_stable_in, new_ledger, told_ledger, received_ledger, acked_ledger, learnt_ledger}
use Rattle.cast_stable.specs.Fits.{Past, Fits}
use Rattle.cast_stable.proofs.Runs.{and_false, eqb_sym, next_apart, inserted_is, contains_inserted}
use Rattle.cast_stable.proofs.Witnesses.{witness_total, witness_exact, key_cases, find_acked, put_here, put_elsewhere}
use Rattle.cast_stable.proofs.Lists.{contains_cases, least_first, least_each, least_reached}
use Rattle.cast_types.proofs.Contains.{contains_here, contains_later}
use Rattle.cast_stable.proofs.Greatest.{stable_greatest, one_greatest}
use Rattle.cast_types.proofs.Bools.{same_bools}

or_false : (b : Bool) → (b || false) ≡ b
or_false b = or_comm b false

filled : (s : SiteNo) (sites : List SiteNo) → s ∷ sites ≡ [] → ⊥
filled s sites e = cc

-- a test of names of one source is what is left of it, and no name is one of another source
source_tells : (x u : Uid) (b : Bool) → source_of x ≡ source_of u →
    (group_eq x.group u.group && ((x.view == u.view) && (proc_eq x.proc u.proc && b))) ≡ b
source_tells x u b same =
    let groups : group_eq x.group u.group ≡ true = ap (λ (s : Source). group_eq s.group u.group) same ∙ group_itself u.group in
    let views : (x.view == u.view) ≡ true = ap (λ (s : Source). s.view == u.view) same ∙ eq-eqb u.view u.view refl in
    let procs : proc_eq x.proc u.proc ≡ true = ap (λ (s : Source). proc_eq s.process u.proc) same ∙ proc_itself u.proc in
    λ i. groups i && (views i && (procs i && b))

sources_differ : (x u : Uid) (b : Bool) → (source_of x ≡ source_of u → ⊥) →
    (group_eq x.group u.group && ((x.view == u.view) && (proc_eq x.proc u.proc && b))) ≡ false
sources_differ x u b differ = false_from_ne_true (group_eq x.group u.group && ((x.view == u.view) && (proc_eq x.proc u.proc && b))) (λ e.
    let first = and_parts (group_eq x.group u.group) ((x.view == u.view) && (proc_eq x.proc u.proc && b)) e in
    let second = and_parts (x.view == u.view) (proc_eq x.proc u.proc && b) first.1 in
    let third = and_parts (proc_eq x.proc u.proc) b second.1 in
    let groups = same_group x.group u.group first.0 in
    let views = eqb-true x.view u.view second.0 in
    let procs = same_proc x.proc u.proc third.0 in
    differ (λ i. source (groups i) (views i) (procs i)))

-- nothing is in the empty set
none_has : (k : ℕ) → 0 < k → contains no_counts k ≡ false
none_has k positive =
    let beyond : nat_le k 0 ≡ false = lt-leb k 0 positive in
    ap (λ b. (nat_lt 0 k && b) || false) beyond ∙ ap (λ b. b || false) (and_false (nat_lt 0 k))

-- at most the greater of two
below_greater : (k a b : ℕ) → nat_le k (max a b) ≡ (nat_le k a || nat_le k b)
below_greater k a b = same_bools (nat_le k (max a b)) (nat_le k a || nat_le k b) there back
  where
    there : nat_le k (max a b) ≡ true → (nat_le k a || nat_le k b) ≡ true
    there h =
        let le = leb-true k (max a b) h in
        elim (cases_lt b k) [
          | inl over ↦ or_left (nat_le k a) (nat_le k b) (le-leb k a (omega (arith, le, over)))
          | inr under ↦ or_right (nat_le k a) (nat_le k b) (le-leb k b under)
        ]

    back : (nat_le k a || nat_le k b) ≡ true → nat_le k (max a b) ≡ true
    back h = elim (or_cases (nat_le k a) (nat_le k b) h) [
      | inl left ↦ le-leb k (max a b) (omega (arith, leb-true k a left, le-max_left a b))
      | inr right ↦ le-leb k (max a b) (omega (arith, leb-true k b right, le-max_right a b))
    ]

pub new_fits : (here : SiteNo) (is_live : Source → Bool) →
    Fits (record { here = here; others = λ _. []; is_live = is_live; received = []; acks = []; told = [] }) (new_ledger here)
new_fits here is_live = record {
  site = refl;
  views = λ g. refl;
  receipts = λ u live positive. none_has u.count positive;
  acked = λ from u live positive. none_has u.count positive;
  runs = λ s from. refl;
  learnt = λ u live positive. lt-leb u.count 0 positive;
}

module _ (past : Past) (l : Acks) (fits : Fits past l) where
  -- a group's new view, in which no more sources are live, and none of the views before it
  pub tell_fits : (g : GroupNo) (number : ℕ) (sites : List SiteNo) (is_live : Source → Bool) →
      ((x : Source) → is_live x ≡ true → (past.is_live x ≡ true) × (is_ended g number x ≡ false)) →
      Fits (record past { others = set_at group_eq past.others g sites; is_live = is_live }) (told_ledger l g number sites)
  tell_fits g number sites is_live was = record {
    site = fits.site;
    views = views_now;
    receipts = λ u live positive.
        ap (λ o. contains (unwrap_or o no_counts) u.count) (find_but_ended g number (source_of u) (was (source_of u) live).1 l.received)
        ∙ fits.receipts u (was (source_of u) live).0 positive;
    acked = λ from u live positive.
        ap (λ o. contains (unwrap_or o no_counts) u.count)
        (find_acked g number (source_of u) from l.acked
        ∙ ap (λ b. cond (not b) (find witness_cmp (witness (source_of u) from) l.acked) None) (was (source_of u) live).1)
        ∙ fits.acked from u (was (source_of u) live).0 positive;
    runs = runs_now;
    learnt = λ u live positive.
        ap (λ o. nat_le u.count (unwrap_or o 0)) (find_but_ended g number (source_of u) (was (source_of u) live).1 l.told)
        ∙ fits.learnt u (was (source_of u) live).0 positive;
  }
    where
      runs_now : (s : Source) (from : SiteNo) → is_run (acked_run (told_ledger l g number sites) s from) ≡ true
      runs_now s from = elim (cases_Bool (is_ended g number s)) [
        | inl over ↦
            ap (λ o. is_run (unwrap_or o no_counts))
            (find_acked g number s from l.acked ∙ ap (λ b. cond (not b) (find witness_cmp (witness s from) l.acked) None) over)
        | inr stands ↦
            ap (λ o. is_run (unwrap_or o no_counts))
            (find_acked g number s from l.acked ∙ ap (λ b. cond (not b) (find witness_cmp (witness s from) l.acked) None) stands)
            ∙ fits.runs s from
      ]

      views_now : (h : GroupNo) → others_in (told_ledger l g number sites) h ≡ set_at group_eq past.others g sites h
      views_now h = elim (key_cases group_total group_exact h g) [
        | inl same ↦
            let is : group_eq g h ≡ true = ap (λ k. group_eq g k) same ∙ group_itself g in
            put_here group_total l.others h g sites [] same ∙ sym (ap (λ b. if b then sites else past.others h) is)
        | inr differ ↦
            let is : group_eq g h ≡ false = false_from_ne_true (group_eq g h) (λ e. differ (sym (same_group g h e))) in
            put_elsewhere group_total group_exact l.others h g sites [] differ
            ∙ fits.views h
            ∙ sym (ap (λ b. if b then sites else past.others h) is)
      ]

  -- a message received
  pub receive_fits : (id : Uid) → Fits (record past { received = past.received ++ id ∷ [] }) (received_ledger l id)
  receive_fits id = record {
    site = fits.site;
    views = fits.views;
    receipts = receipts_now;
    acked = fits.acked;
    runs = fits.runs;
    learnt = fits.learnt;
  }
    where
      pushed : (x : Uid) → is_among uid_eq x (past.received ++ id ∷ []) ≡ (is_among uid_eq x past.received || uid_eq x id)
      pushed x =
          list_any-append (uid_eq x) past.received (id ∷ []) ∙ ap (λ b. is_among uid_eq x past.received || b) (or_false (uid_eq x id))

      receipts_now : (x : Uid) → past.is_live (source_of x) ≡ true → 0 < x.count →
          is_received_in (received_ledger l id) x ≡ is_among uid_eq x (past.received ++ id ∷ [])
      receipts_now x live positive = elim (key_cases source_total source_exact (source_of x) (source_of id)) [
        | inl same ↦
            ap (λ r. contains r x.count) (put_here source_total l.received (source_of x) (source_of id)
            (insert_count (received_run l (source_of id)) id.count) no_counts same)
            ∙ contains_inserted (received_run l (source_of id)) id.count x.count positive
            ∙ ap (λ s. contains (received_run l s) x.count || (x.count == id.count)) (sym same)
            ∙ ap (λ b. b || (x.count == id.count)) (fits.receipts x live positive)
            ∙ ap (λ b. is_among uid_eq x past.received || b) (sym (source_tells x id (x.count == id.count) same))
            ∙ sym (pushed x)
        | inr differ ↦
            ap (λ r. contains r x.count) (put_elsewhere source_total source_exact l.received (source_of x) (source_of id)
            (insert_count (received_run l (source_of id)) id.count) no_counts differ)
            ∙ fits.receipts x live positive
            ∙ sym (or_false (is_among uid_eq x past.received))
            ∙ ap (λ b. is_among uid_eq x past.received || b) (sym (sources_differ x id (x.count == id.count) differ))
            ∙ sym (pushed x)
      ]

  -- a message acknowledged
  pub ack_fits : (from : SiteNo) (id : Uid) → Fits (record past { acks = past.acks ++ (from, id) ∷ [] }) (acked_ledger l from id)
  ack_fits from id = record {
    site = fits.site;
    views = fits.views;
    receipts = fits.receipts;
    acked = acked_now;
    runs = runs_now;
    learnt = fits.learnt;
  }
    where
      pushed : (s : SiteNo) (x : Uid) →
          has_acked (past.acks ++ (from, id) ∷ []) x s ≡ (has_acked past.acks x s || (site_eq from s && uid_eq id x))
      pushed s x =
          list_any-append (λ (a : Acked). site_eq a.0 s && uid_eq a.1 x) past.acks ((from, id) ∷ [])
          ∙ ap (λ b. has_acked past.acks x s || b) (or_false (site_eq from s && uid_eq id x))

      this : (s : SiteNo) (x : Uid) → witness (source_of x) s ≡ witness (source_of id) from →
          (x.count == id.count) ≡ (site_eq from s && uid_eq id x)
      this s x same =
          let sites : site_eq from s ≡ true = ap (λ (w : Witness). site_eq from w.site) same ∙ site_itself from in
          let names : uid_eq id x ≡ (id.count == x.count) =
          source_tells id x (id.count == x.count) (sym (ap (λ (w : Witness). w.source) same)) in
          eqb_sym x.count id.count ∙ sym (λ i. sites i && names i)

      another : (s : SiteNo) (x : Uid) → (witness (source_of x) s ≡ witness (source_of id) from → ⊥) →
          (site_eq from s && uid_eq id x) ≡ false
      another s x differ = false_from_ne_true (site_eq from s && uid_eq id x) (λ e.
          let parts = and_parts (site_eq from s) (uid_eq id x) e in
          let sites = sym (same_site from s parts.0) in
          let names = sym (same_uid id x parts.1) in
          differ (λ i. witness (source_of (names i)) (sites i)))

      acked_now : (s : SiteNo) (x : Uid) → past.is_live (source_of x) ≡ true → 0 < x.count →
          has_acked_in (acked_ledger l from id) s x ≡ has_acked (past.acks ++ (from, id) ∷ []) x s
      acked_now s x live positive = elim (key_cases witness_total witness_exact (witness (source_of x) s) (witness (source_of id) from)) [
        | inl same ↦
            ap (λ r. contains r x.count) (put_here witness_total l.acked (witness (source_of x) s) (witness (source_of id) from)
            (insert_count (acked_run l (source_of id) from) id.count) no_counts same)
            ∙ contains_inserted (acked_run l (source_of id) from) id.count x.count positive
            ∙ ap (λ (w : Witness). contains (acked_run l w.source w.site) x.count || (x.count == id.count)) (sym same)
            ∙ ap (λ b. b || (x.count == id.count)) (fits.acked s x live positive)
            ∙ ap (λ b. has_acked past.acks x s || b) (this s x same)
            ∙ sym (pushed s x)
        | inr differ ↦
            ap (λ r. contains r x.count) (put_elsewhere witness_total witness_exact l.acked (witness (source_of x) s)
            (witness (source_of id) from) (insert_count (acked_run l (source_of id) from) id.count) no_counts differ)
            ∙ fits.acked s x live positive
            ∙ sym (or_false (has_acked past.acks x s))
            ∙ ap (λ b. has_acked past.acks x s || b) (sym (another s x differ))
            ∙ sym (pushed s x)
      ]

      runs_now : (t : Source) (s : SiteNo) → is_run (acked_run (acked_ledger l from id) t s) ≡ true
      runs_now t s = elim (key_cases witness_total witness_exact (witness t s) (witness (source_of id) from)) [
        | inl same ↦
            ap (λ r. is_run r) (put_here witness_total l.acked (witness t s) (witness (source_of id) from)
            (insert_count (acked_run l (source_of id) from) id.count) no_counts same)
            ∙ inserted_is (acked_run l (source_of id) from) id.count (fits.runs (source_of id) from)
        | inr differ ↦
            ap (λ r. is_run r) (put_elsewhere witness_total witness_exact l.acked (witness t s) (witness (source_of id) from)
            (insert_count (acked_run l (source_of id) from) id.count) no_counts differ)
            ∙ fits.runs t s
      ]

  -- messages told to be stable
  pub learn_fits : (id : Uid) → Fits (record past { told = past.told ++ id ∷ [] }) (learnt_ledger l id)
  learn_fits id = record {
    site = fits.site;
    views = fits.views;
    receipts = fits.receipts;
    acked = fits.acked;
    runs = fits.runs;
    learnt = learnt_now;
  }
    where
      pushed : (x : Uid) → was_told (past.told ++ id ∷ []) x ≡ (was_told past.told x
          || (group_eq id.group x.group && ((id.view == x.view) && (proc_eq id.proc x.proc && nat_le x.count id.count))))
      pushed x =
          list_any-append (λ (t : Uid). group_eq t.group x.group
          && ((t.view == x.view)
          && (proc_eq t.proc x.proc
          && nat_le x.count t.count))) past.told (id ∷ [])
          ∙ ap (λ b. was_told past.told x || b)
          (or_false (group_eq id.group x.group && ((id.view == x.view) && (proc_eq id.proc x.proc && nat_le x.count id.count))))

      learnt_now : (x : Uid) → past.is_live (source_of x) ≡ true → 0 < x.count →
          nat_le x.count (told_count (learnt_ledger l id) (source_of x)) ≡ was_told (past.told ++ id ∷ []) x
      learnt_now x live positive = elim (key_cases source_total source_exact (source_of x) (source_of id)) [
        | inl same ↦
            ap (λ n. nat_le x.count n)
            (put_here source_total l.told (source_of x) (source_of id) (max (told_count l (source_of id)) id.count) 0 same)
            ∙ below_greater x.count (told_count l (source_of id)) id.count
            ∙ ap (λ s. nat_le x.count (told_count l s) || nat_le x.count id.count) (sym same)
            ∙ ap (λ b. b || nat_le x.count id.count) (fits.learnt x live positive)
            ∙ ap (λ b. was_told past.told x || b) (sym (source_tells id x (nat_le x.count id.count) (sym same)))
            ∙ sym (pushed x)
        | inr differ ↦
            ap (λ n. nat_le x.count n) (put_elsewhere source_total source_exact l.told (source_of x) (source_of id)
            (max (told_count l (source_of id)) id.count) 0 differ)
            ∙ fits.learnt x live positive
            ∙ sym (or_false (was_told past.told x))
            ∙ ap (λ b. was_told past.told x || b) (sym (sources_differ id x (nat_le x.count id.count) (λ e. differ (sym e))))
            ∙ sym (pushed x)
      ]

  pub received_meant : (u : Uid) → past.is_live (source_of u) ≡ true → 0 < u.count → is_received_in l u ≡ is_among uid_eq u past.received
  received_meant u live positive = fits.receipts u live positive

  pub acked_meant : (from : SiteNo) (u : Uid) → past.is_live (source_of u) ≡ true → 0 < u.count →
      has_acked_in l from u ≡ has_acked past.acks u from
  acked_meant from u live positive = fits.acked from u live positive

  -- to which count a site acknowledged, and the least of these counts
  abbrev acked_to : Uid → SiteNo → ℕ
  acked_to u t = (acked_run l (source_of u) t).upto

  abbrev least_of : Uid → SiteNo → List SiteNo → ℕ
  least_of u s sites = fold min (acked_to u s) (map (acked_to u) sites)

  -- the least of the counts to which each site acknowledged is the greatest that all acknowledged
  least_meant : (u : Uid) → past.is_live (source_of u) ≡ true → (s : SiteNo) (sites : List SiteNo) →
      least_acked l (source_of u) (s ∷ sites) ≡ stable_upto past.acks (s ∷ sites) u.group u.view u.proc
  least_meant u live s sites =
      one_greatest past.acks (s ∷ sites) u.group u.view u.proc (least_of u s sites)
      (stable_upto past.acks (s ∷ sites) u.group u.view u.proc)
      (record { all = all; next = next }) (stable_greatest past.acks (s ∷ sites) u.group u.view u.proc (filled s sites))
    where
      within : (t : SiteNo) → Contains (s ∷ sites) t → least_of u s sites ≤ acked_to u t
      within t in_sites = elim (contains_cases t s sites in_sites) [
        | inl same ↦ subst (λ x. least_of u s sites ≤ acked_to u x) same (least_first (acked_to u) (acked_to u s) sites)
        | inr later ↦ least_each (acked_to u) (acked_to u s) sites t later
      ]

      all : (t : SiteNo) (k : ℕ) → Contains (s ∷ sites) t → 0 < k → k ≤ least_of u s sites →
          has_acked past.acks (uid_in u.group u.view (u.proc, k)) t ≡ true
      all t k in_sites low high =
          let le : k ≤ acked_to u t = omega (arith, high, within t in_sites) in
          sym (fits.acked t (uid_in u.group u.view (u.proc, k)) live low)
          ∙ or_left (nat_lt 0 k && nat_le k (acked_to u t)) (list_any (λ x. x == k) (acked_run l (source_of u) t).above)
          (and_from (nat_lt 0 k) (nat_le k (acked_to u t)) (lt-ltb 0 k low) (le-leb k (acked_to u t) le))

      lacks : (t : SiteNo) → least_of u s sites ≡ acked_to u t →
          has_acked past.acks (uid_in u.group u.view (u.proc, least_of u s sites + 1)) t ≡ false
      lacks t is =
          ap (λ n. has_acked past.acks (uid_in u.group u.view (u.proc, n + 1)) t) is
          ∙ sym (fits.acked t (uid_in u.group u.view (u.proc, acked_to u t + 1)) live (omega arith))
          ∙ next_apart (acked_run l (source_of u) t) (fits.runs (source_of u) t)

      next : (t : SiteNo)
          × Contains (s ∷ sites) t
          × (has_acked past.acks (uid_in u.group u.view (u.proc, least_of u s sites + 1)) t ≡ false)
      next = elim (least_reached (acked_to u) (acked_to u s) sites) [
        | inl first ↦ (s, contains_here s sites, lacks s first)
        | inr (t, in_sites, is) ↦ (t, contains_later t s sites in_sites, lacks t is)
      ]

  -- so many messages are stable
  pub upto_meant : (u : Uid) → past.is_live (source_of u) ≡ true → past.others u.group ≢ [] →
      upto_in l u ≡ stable_upto past.acks (past.others u.group) u.group u.view u.proc
  upto_meant u live some = ap (λ sites. least_acked l (source_of u) sites) (fits.views u.group) ∙ among (past.others u.group) some
    where
      among : (sites : List SiteNo) → sites ≢ [] → least_acked l (source_of u) sites ≡ stable_upto past.acks sites u.group u.view u.proc
      among [] none = absurd (none refl)
      among (s ∷ sites) _ = least_meant u live s sites

  -- and these messages are
  pub stable_meant : (u : Uid) → past.is_live (source_of u) ≡ true → 0 < u.count →
      is_stable_in l u ≡ is_known_stable past.here (past.others u.group) past.acks past.told u
  stable_meant u live positive = ap (λ sites. is_stable_among l sites u) (fits.views u.group) ∙ among (past.others u.group)
    where
      among : (sites : List SiteNo) → is_stable_among l sites u ≡ is_known_stable past.here sites past.acks past.told u
      among [] = refl
      among (s ∷ sites) =
          λ i. if site_eq u.proc.site (fits.site i) then nat_le u.count (least_meant u live s sites i) else fits.learnt u live positive i

-- What is read means the same
module _ (l : Acks) (u : Uid) where
  pub is_received_means : (b : Bool) → b ≡ is_received_in l u → (past : Past) → Fits past l → past.is_live (source_of u) ≡ true →
      0 < u.count → b ≡ is_among uid_eq u past.received
  is_received_means b is past fits live positive = is ∙ received_meant past l fits u live positive

  pub has_acked_means : (from : SiteNo) (b : Bool) → b ≡ has_acked_in l from u → (past : Past) → Fits past l →
      past.is_live (source_of u) ≡ true → 0 < u.count → b ≡ has_acked past.acks u from
  has_acked_means from b is past fits live positive = is ∙ acked_meant past l fits from u live positive

  pub upto_means : (n : ℕ) → n ≡ upto_in l u → (past : Past) → Fits past l → past.is_live (source_of u) ≡ true → past.others u.group ≢ [] →
      n ≡ stable_upto past.acks (past.others u.group) u.group u.view u.proc
  upto_means n is past fits live some = is ∙ upto_meant past l fits u live some

  pub is_stable_means : (b : Bool) → b ≡ is_stable_in l u → (past : Past) → Fits past l → past.is_live (source_of u) ≡ true → 0 < u.count →
      b ≡ is_known_stable past.here (past.others u.group) past.acks past.told u
  is_stable_means b is past fits live positive = is ∙ stable_meant past l fits u live positive

  pub may_free_means : (awaited b : Bool) → b ≡ (is_stable_in l u && not awaited) → (past : Past) → Fits past l →
      past.is_live (source_of u) ≡ true → 0 < u.count →
      b ≡ (is_known_stable past.here (past.others u.group) past.acks past.told u && not awaited)
  may_free_means awaited b is past fits live positive =
      is ∙ ap (λ stable. stable && not awaited) (stable_meant past l fits u live positive)
