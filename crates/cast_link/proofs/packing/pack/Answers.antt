use Rattle.std.proofs.Common.{rules, ◌≡◌, ◌≤◌, length, map, ap, subst, ◌∙◌, arith}
use Rattle.std.proofs.lemmas.List.{length-append}
use Rattle.cast_link.specs.Packing.{Carry, to_site}
use Rattle.cast_link.proofs.Packs.{all_packed, site_packed, fewer_left, for_site-length, parted}
use Rattle.cast_link.proofs.packing.pack.Goals as goal

pub loop-alloc-smaller : goal.loop-alloc-smaller
loop-alloc-smaller c =
    let some : 1 ≤ length c.loop-alloc.rest.items = search rules in
    omega (arith, ap length c.in_ok-own.ensures.others, fewer_left c.index.result.now c.loop-alloc.rest.items some c.index.ensures)

pub loop-alloc-preserved : goal.loop-alloc-preserved
loop-alloc-preserved c =
    let site = c.index.result.now.0 in
    let rest = c.loop-alloc.rest.items in
    let datagrams = c.in_ok-datagrams_with.field-0.items in
    let own = c.deref.ensures.value ∙ c.in_ok-own.ensures.own in
    let carried : Carry c.args.most datagrams (to_site site rest) =
    subst (λ l. Carry c.args.most datagrams l) own c.in_ok-datagrams_with.ensures.carried in
    record {
      packed =
          rw (c.in_ok-add_all.ensures, c.in_ok-own.ensures.others)
          (site_packed c.args.most c.loop-alloc.packed.items rest c.args.frames.items site datagrams c.loop-alloc.invariant.packed carried);
      few = omega (
        arith,
        c.loop-alloc.invariant.few,
        parted site rest,
        c.in_ok-datagrams_with.ensures.few,
        ap length own,
        ap length c.in_ok-own.ensures.others,
        ap length c.in_ok-add_all.ensures,
        length-append c.loop-alloc.packed.items (map (λ d. (site, d)) datagrams),
        for_site-length site datagrams,
      );
    }

pub returns-clause-packed : goal.returns-clause-packed
returns-clause-packed c =
    let none : length c.loop-alloc.rest.items ≡ 0 = search rules in
    all_packed c.args.most c.loop-alloc.packed.items c.loop-alloc.rest.items c.args.frames.items c.loop-alloc.invariant.packed none

pub returns-clause-few : goal.returns-clause-few
returns-clause-few c = omega (arith, c.loop-alloc.invariant.few)
