-- Own ABCASTs that are not delivered, looked for in the view of each group.
use Rattle.std.proofs.Common.{◌≡◌, ◌<◌, ◌+◌, ℕ, suc, Bool, true, false, cond, not, List, [], ◌∷◌, length}
use Rattle.std.proofs.Common.{Contains, Option, Some, None, refl, sym, ap, ◌∙◌, inl, inr, arith, true≢false}
use Rattle.std.specs.Prelude.{◌&&◌, ◌||◌, ◌==◌}
use Rattle.std.specs.List.{list_any}
use Rattle.std.specs.Option.{option_map, option_map_or}
use Rattle.std.proofs.lemmas.Bool.{cases_Bool, and_parts, eqb-true}
use Rattle.cast_types.specs.declared.names.GroupNo.{GroupNo}
use Rattle.cast_types.specs.declared.names.Proc.{Proc}
use Rattle.cast_types.specs.Names.{group_eq, is_atomic, proc_eq}
use Rattle.cast_types.specs.Sources.{source}
use Rattle.cast_types.proofs.Contains.{contains_here, contains_later}
use Rattle.cast_types.proofs.Orders.{same_group, same_proc}
use Rattle.cast_message.specs.Bodies.{kind_of}
use Rattle.cast_ready.specs.Ready.{is_member}
use Rattle.cast_delay.specs.Queue.{delivered_in}
use Rattle.cast_view.specs.MemberSide.{has_view, is_current}
use Rattle.cast_domain.specs.declared.record.GroupRecord.{GroupRecord}
use Rattle.cast_domain.specs.Records.{Records}
use Rattle.cast_domain.specs.PartCalls.{awaits_own_in, is_current_in, is_own_in, place_among, record_at, standing_of}
use Rattle.cast_domain.specs.Own.{AwaitsNoneOf, source_at}

none_there : {X : Type 0} (f : X → Bool) (xs : List X) → ((x : X) → Contains xs x → f x ≡ false) → list_any f xs ≡ false
none_there f [] fails = refl
none_there f (x ∷ xs) fails =
    ap (λ b. b || list_any f xs) (fails x (contains_here x xs)) ∙ none_there f xs (λ y there. fails y (contains_later y x xs there))

-- a message of a view that stands is of the view of a group at some place
stands_at : (groups : List GroupRecord) (g : GroupNo) (view : ℕ) →
    option_map_or (λ i. is_current (record_at groups i).here view) (place_among g groups) false ≡ true →
    (i : ℕ) × (i < length groups) × ((record_at groups i).name ≡ g) × ((record_at groups i).here.number ≡ view)
stands_at [] g view is = absurd (true≢false (sym is))
stands_at (x ∷ groups) g view is = elim (cases_Bool (group_eq x.name g)) [
  | inl same ↦
      let current : is_current x.here view ≡ true =
      sym (ap (λ b. option_map_or (λ i. is_current (record_at (x ∷ groups) i).here view)
      (cond b (Some 0) (option_map (λ i. i + 1) (place_among g groups))) false) same) ∙ is in (
        0,
        omega arith,
        same_group x.name g same,
        eqb-true x.here.number
            view (and_parts (has_view x.here) (x.here.number == view) current).1,
      )
  | inr differ ↦
      let later =
      sym (ap (λ b. option_map_or (λ i. is_current (record_at (x ∷ groups) i).here view)
      (cond b (Some 0) (option_map (λ i. i + 1) (place_among g groups))) false) differ) ∙ is in
      let found = stands_at groups g view (sym (behind (place_among g groups)) ∙ later) in
      (suc found.0, omega (arith, found.1), found.2, found.3)
]
  where
    behind : (o : Option ℕ) → option_map_or (λ i. is_current (record_at (x ∷ groups) i).here view) (option_map (λ i. i + 1) o)
        false ≡ option_map_or (λ i. is_current (record_at groups i).here view) o false
    behind None = refl
    behind (Some i) =
        let more : i + 1 ≡ suc i = omega arith in
        ap (λ n. is_current (record_at (x ∷ groups) n).here view) more

-- where a process awaits none of its own in the view of any group, it awaits none
pub none_awaited : (r : Records) (p : Proc) → ((i : ℕ) → i < length r.groups → AwaitsNoneOf r p (source_at r.groups i p)) →
    awaits_own_in r p ≡ false
none_awaited r p none = none_there (λ x. is_own_in r p x.message) r.part.kept (λ x there. elim (cases_Bool (is_own_in r p x.message)) [
  | inr fails ↦ fails
  | inl own ↦
      let m = x.message in
      let stays = is_member (standing_of r.delay p m.id.group) && not (delivered_in r.delay p m.id) in
      let its =
      and_parts (proc_eq m.id.proc p) (is_current_in r m.id && stays)
      (and_parts (is_atomic (kind_of m.body)) (proc_eq m.id.proc p && (is_current_in r m.id && stays)) own).1 in
      let place = stands_at r.groups m.id.group m.id.view (and_parts (is_current_in r m.id) stays its.1).0 in
      none place.0 place.1 x there (λ i. source (sym place.2 i) (sym place.3 i) (same_proc m.id.proc p its.0 i))
])
