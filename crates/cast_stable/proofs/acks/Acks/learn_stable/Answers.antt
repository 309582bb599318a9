use Rattle.std.proofs.Common.{◌≡◌, ℕ, None, Some, List, max, unwrap_or, sym, ap, ◌∙◌, arith}
use Rattle.std.specs.BTreeMap.{is_at, insert_entry}
use Rattle.std.specs.FinMap.Entries.{find, put}
use Rattle.std.specs.Map.{lookup}
use Rattle.cast_types.specs.declared.names.Uid.{Uid}
use Rattle.cast_types.specs.declared.source.Source.{Source}
use Rattle.cast_types.specs.Sources.{source_cmp, source_of}
use Rattle.cast_types.proofs.Sources.{source_total}
use Rattle.cast_stable.specs.Acks.{Acks, told_count, learnt_ledger}
use Rattle.cast_types.proofs.Maps.{lookup_finds, insert_puts, set_puts}
use Rattle.cast_stable.proofs.acks.Acks.learn_stable.Goals as goal

-- the greater of what was told and of the count is put
learnt : (l : Acks) (u : Uid) (s : Source) (n : ℕ) (es : List (Source × ℕ)) → s ≡ source_of u →
    n ≡ max (unwrap_or (find source_cmp s l.told) 0) u.count → es ≡ put source_cmp s n l.told → record l { told = es } ≡ learnt_ledger l u
learnt l u s n es at most is =
    let same : n ≡ max (told_count l (source_of u)) u.count = most ∙ ap (λ x. max (told_count l x) u.count) at in
    ap (λ x. record l { told = x }) (is ∙ (λ i. put source_cmp (at i) (same i) l.told))

pub returns-in-Some-clause-ok : goal.returns-in-Some-clause-ok
returns-in-Some-clause-ok c =
    let was = c.self.inside in
    let l : Acks = record {
      here = was.here;
      others = was.others;
      received = was.received.entries;
      acked = was.acked.entries;
      told = was.told.entries;
    } in
    let s = c.source_of-source.result in
    let told : ℕ = c.in-Some.told.now in
    let found : lookup (is_at (source_cmp s)) l.told ≡ Some told = sym c.in-Some.ensures.value in
    learnt l c.args.id s c.max.result (c.get_mut.follows.lender c.max.result).entries c.source_of-source.ensures
    (c.max.ensures ∙ ap (λ o. max (unwrap_or o 0) c.args.id.count) (sym found ∙ lookup_finds source_cmp s l.told))
    ((c.get_mut.follows.holds c.max.result).0 ∙ set_puts source_cmp source_total s told c.max.result l.told c.get_mut.ensures.ordered found)
    ∙ ap (λ x. learnt_ledger x c.args.id) c.self.view_is

pub returns-in_ok-insert-in-None-clause-ok : goal.returns-in_ok-insert-in-None-clause-ok
returns-in_ok-insert-in-None-clause-ok c =
    let was = c.self.inside in
    let l : Acks = record {
      here = was.here;
      others = was.others;
      received = was.received.entries;
      acked = was.acked.entries;
      told = was.told.entries;
    } in
    let s = c.source_of-source.result in
    let count = c.args.id.count in
    let none : lookup (is_at (source_cmp s)) l.told ≡ None = sym c.in-None.ensures.value in
    let greater : count ≡ max 0 count = omega arith in
    learnt l c.args.id s count c.insert.new.self.entries c.source_of-source.ensures
    (greater ∙ ap (λ o. max (unwrap_or o 0) count) (sym none ∙ lookup_finds source_cmp s l.told))
    (c.in_ok-insert-in-None.ensures.entries
    ∙ ap (λ m. insert_entry source_cmp m.entries s count) c.get_mut.follows.holds-at-none
    ∙ insert_puts source_cmp s count l.told)
    ∙ ap (λ x. learnt_ledger x c.args.id) c.self.view_is
