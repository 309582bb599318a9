-- As processes are put out of a view and enter the next one, there are as many groups as before.
use Rattle.std.proofs.Common.{◌≡◌, ℕ, Bool, true, false, ◌&&◌, List, [], ◌∷◌, length, refl, ap, ◌∙◌}
use Rattle.std.specs.Prelude.{if◌then◌else◌}
use Rattle.std.specs.List.{fold}
use Rattle.cast_types.specs.declared.names.GroupNo.{GroupNo}
use Rattle.cast_types.specs.declared.names.Proc.{Proc}
use Rattle.cast_types.specs.Names.{site_eq}
use Rattle.cast_types.proofs.Updates.{length_update}
use Rattle.cast_message.specs.Membership.{Membership}
use Rattle.cast_view.specs.MemberSide.{with_view, is_taken_in}
use Rattle.cast_domain.specs.Records.{Records}
use Rattle.cast_domain.specs.PartCalls.{serials_in, record_at, standing_of, local_in}
use Rattle.cast_domain.specs.ViewCalls.{enter_in, take_in, view_in, put_out_in, is_put_out_in, put_out_if_in, put_out_all_in, pass_in}

fold_groups : {X : Type 0} (f : Records → X → Records) → ((r : Records) (x : X) → (f r x).groups ≡ r.groups) → (xs : List X) (r : Records) →
    (fold f r xs).groups ≡ r.groups
fold_groups f same [] r = refl
fold_groups f same (x ∷ xs) r = fold_groups f same xs (f r x) ∙ same r x

put_out_groups : (g : GroupNo) (skips : Bool) (members : Membership) (r : Records) (k : ℕ) →
    (put_out_if_in g skips members r k).groups ≡ r.groups
put_out_groups g skips members r k =
    elim (is_put_out_in g skips members r k) as (λ b. (if b then put_out_in g r (local_in r k) else r).groups ≡ r.groups) [
      | true ↦ refl
      | false ↦ refl
    ]

pub put_out_all_groups : (g : GroupNo) (skips : Bool) (members : Membership) (r : Records) →
    (put_out_all_in g skips members r).groups ≡ r.groups
put_out_all_groups g skips members r = fold_groups (put_out_if_in g skips members) (put_out_groups g skips members) (serials_in r) r

take_groups : (g : GroupNo) (n : ℕ) (request : ℕ) (r : Records) (p : Proc) → (take_in g n request r p).groups ≡ r.groups
take_groups g n request r p =
    elim (site_eq p.site r.site && is_taken_in request (standing_of r.delay p g))
    as (λ b. (if b then enter_in g n r p else r).groups ≡ r.groups) [
      | true ↦ refl
      | false ↦ refl
    ]

pub pass_length : (r : Records) (i : ℕ) (skips : Bool) (n : ℕ) (members : Membership) (request : ℕ) →
    length (pass_in r i skips n members request).groups ≡ length r.groups
pass_length r i skips n members request =
    let left : Records = put_out_all_in (record_at r.groups i).name skips members r in
    ap length (fold_groups (take_in (record_at left.groups i).name n request) (take_groups (record_at left.groups i).name n request)
    members.list (view_in left i n members))
    ∙ length_update (λ x. record x { here = with_view left.site n members x.here }) left.groups i
    ∙ ap length (put_out_all_groups (record_at r.groups i).name skips members r)
