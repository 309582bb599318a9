-- What a domain does of itself it does to its records and to their history.
use Rattle.std.proofs.Common.{◌≡◌, ℕ, zero, suc, true, List, [], ◌∷◌, Option, Some, None, refl, sym, ap, subst, ◌∙◌}
use Rattle.std.specs.List.{range_with_len}
use Rattle.std.proofs.lemmas.Bool.{or_left, or_right}
use Rattle.cast_types.specs.declared.names.GroupNo.{GroupNo}
use Rattle.cast_rules.specs.State.{State}
use Rattle.cast_rules.specs.History.{history}
use Rattle.cast_rules.specs.Resting.{resting}
use Rattle.cast_rules.specs.Lawful.{IsLawful}
use Rattle.cast_rules.specs.Rest.{pass, let_go}
use Rattle.cast_rules.specs.Rules.Rest as rest
use Rattle.cast_rules.proofs.LawfulMessages.{lawful_let_go}
use Rattle.cast_rules.proofs.LawfulSteps.{lawful_deliver_all, lawful_set_order_by}
use Rattle.cast_rules.proofs.Rules.Rest.{FollowsToRest, pass_follows}
use Rattle.cast_domain.specs.Records.{Records}
use Rattle.cast_domain.specs.Calls.{records}
use Rattle.cast_domain.specs.RestCalls.{resting_records}
use Rattle.cast_domain.specs.Fits.{Fits}
use Rattle.cast_domain.proofs.Following.{IsAt}
use Rattle.cast_domain.proofs.Framing.{StandsIn, there, records_follow_all}
use Rattle.cast_domain.proofs.TurnSteps.{kept_all, fits_deliver_all}
use Rattle.cast_domain.proofs.Rows.{was_given_in}
use Rattle.cast_domain.proofs.Releases.{fits_let_go}
use Rattle.cast_domain.proofs.Rounds.{round_settle}
use Rattle.cast_rules.specs.Rules.Interface.{Resting}
use Rattle.cast_rules.specs.Rules.Home.{lead}
use Rattle.cast_rules.specs.Rules.Order.{set_orders}
use Rattle.std.specs.Prelude.{if◌then◌else◌, slice_get}
use Rattle.std.specs.List.{fold}
use Rattle.std.proofs.lemmas.Option.{none-some, same_Some}
use Rattle.cast_types.specs.Names.{group_eq}
use Rattle.cast_types.specs.Sets.{is_among}
use Rattle.cast_types.proofs.Orders.{group_itself}
use Rattle.cast_view.specs.declared.member.Pending.{Pending}
use Rattle.cast_rules.specs.State.{is_group}
use Rattle.cast_rules.specs.Reports.{has_delivered_cut, missing_in}
use Rattle.cast_rules.specs.Rules.Release as release
use Rattle.cast_rules.specs.Rules.Flushes.{complete, want_own, complete_or_want, go_on, go_on_all}
use Rattle.cast_rules.specs.Lawful.{Waits}
use Rattle.cast_rules.proofs.Rules.Follows.{choose, each}
use Rattle.cast_rules.proofs.Rules.Flushes.{want_own_follows, complete_follows}
use Rattle.cast_domain.specs.declared.record.GroupRecord.{GroupRecord}
use Rattle.cast_domain.specs.PartCalls.{record_at}
use Rattle.cast_domain.specs.FlushCalls.{has_cut_of, holders_in}
use Rattle.cast_domain.proofs.Standing.{record_there}
use Rattle.cast_domain.proofs.Reports.{cut_there, missing_there}
use Rattle.cast_domain.proofs.SetOrders.{fits_set_order_by, kept_set_order_by}
use Rattle.cast_domain.proofs.Holders.{holders_there}

-- a group that stands at a place is one of these
at_listed : (gs : List GroupNo) (i : ℕ) (g : GroupNo) → slice_get gs i ≡ Some g → is_among group_eq g gs ≡ true
at_listed [] i g at = absurd (none-some g at)
at_listed (h ∷ gs) zero g at = or_left (group_eq g h) (is_among group_eq g gs) (ap (group_eq g) (same_Some h g at) ∙ group_itself g)
at_listed (h ∷ gs) (suc i) g at = or_right (group_eq g h) (is_among group_eq g gs) (at_listed gs i g at)

-- what is free is let go on both sides
stands_let_go : (groups : List GroupNo) (r : Records) (s : State) → StandsIn groups r s →
    StandsIn groups (release.let_go records resting_records r) (let_go s)
stands_let_go groups r s f = ((fits_let_go r s f.0.0 f.1, f.0.1), lawful_let_go s f.1)

-- the Install that waits is completed on both sides, or the same is wanted
stands_go_on : (groups : List GroupNo) (r : Records) (s : State) → StandsIn groups r s → (i : ℕ) (g : GroupNo) → IsAt groups i g →
    StandsIn groups (go_on records resting_records r i) (go_on history resting s g)
stands_go_on groups r s f i g at =
    subst (λ (x : GroupRecord). StandsIn groups (elim x.here.pending [ Some p ↦ complete_or_want records resting_records r i p | None ↦ r ])
    (go_on history resting s g)) (sym (record_there r s f.0.0 i g here))
    (waits (s.group g).pending (f.1.waiting g))
  where
    here : slice_get s.config.groups i ≡ Some g
    here = there groups r s f i g at

    placed : (if is_group s g then Some g else None) ≡ Some g
    placed = ap (λ b. if b then Some g else None) (at_listed s.config.groups i g here)

    waits : (o : Option Pending) →
        Waits (s.group g).frozen o → StandsIn groups (elim o [ Some p ↦ complete_or_want records resting_records r i p | None ↦ r ])
        (elim o [ Some p ↦ complete_or_want history resting s g p | None ↦ s ])
    waits None known = f
    waits (Some p) known =
        choose (StandsIn groups) (has_cut_of r (record_at r.groups i) p.cut) (has_delivered_cut s g p.cut)
        _ _ _ _ (cut_there r s f.0.0 i g here p.cut)
        (λ _. stands_let_go groups (complete records r i p) (complete history s g p)
        (complete_follows records history (StandsIn groups) (IsAt groups) (records_follow_all groups) r s f i g at g placed p known.1))
        (λ _. subst (λ es. StandsIn groups (fold (want_own records i) r es) (fold (want_own history g) s (missing_in s g p.cut)))
        (sym (missing_there r s f.0.0 f.1 i g here p.cut))
        (each (StandsIn groups) (want_own records i) (want_own history g)
        (want_own_follows records history (StandsIn groups) (IsAt groups) (records_follow_all groups) i g at) (missing_in s g p.cut) r s f))

-- the records where each round goes over all serials
abbrev by_serials : Resting Records ℕ
by_serials = record resting_records { serials = λ r. range_with_len 1 r.used }

records_follow_to_rest : (groups : List GroupNo) → FollowsToRest records history by_serials resting (StandsIn groups) (IsAt groups)
records_follow_to_rest groups = record {
  all = records_follow_all groups;
  serials = λ r s f. ap (range_with_len 1) (ap (λ c. c.used) f.0.0.core);
  same_serials = λ s k. ap (range_with_len 1) (kept_all s k).used;
  delivers = λ r s f k at. (
    (fits_deliver_all r s f.0.0 f.1 k (was_given_in s.used k at), ap (λ c. c.groups) (kept_all s k).config ∙ f.0.1),
    lawful_deliver_all s k f.1,
  );
  holders = λ r s f i g at. ap (λ (x : GroupRecord). holders_in r x.name) (record_there r s f.0.0 i g (there groups r s f i g at))
      ∙ holders_there r s f.0.0 g;
  orders = λ r s f i g at k. (
    (fits_set_order_by r s f.0.0 f.1 i g (there groups r s f i g at) k, ap (λ c. c.groups) (kept_set_order_by s g k).config ∙ f.0.1),
    lawful_set_order_by s g k f.1,
  );
  goes_on = stands_go_on groups;
}

-- so the records go on standing for the history by each pass
pub fits_pass : (r : Records) (s : State) → Fits r s → IsLawful s → Fits (rest.pass records resting_records r) (pass s)
fits_pass r s f l =
    subst (λ x. Fits x (pass s))
    (sym (ap (λ x. lead records (go_on_all records by_serials (set_orders records by_serials x))) (round_settle r s f
    ∙ ap (λ n. fold (rest.deliver_all records resting_records) r (range_with_len 1 n)) (sym (ap (λ c. c.used) f.core)))))
    (pass_follows records history by_serials resting (StandsIn s.config.groups) (IsAt s.config.groups)
    (records_follow_to_rest s.config.groups) r s ((f, refl), l)).0.0
