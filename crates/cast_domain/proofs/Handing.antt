-- A hand-over that passes all tests.
use Rattle.std.proofs.Common.{◌≡◌, ℕ, true, false, not, Some, sym, ap, ◌∙◌}
use Rattle.std.specs.Prelude.{if◌then◌else◌, is_some}
use Rattle.std.specs.Option.{option_map_or}
use Rattle.cast_types.specs.declared.names.GroupNo.{GroupNo}
use Rattle.cast_types.specs.declared.names.Proc.{Proc}
use Rattle.cast_types.specs.Names.{proc_eq}
use Rattle.cast_types.specs.Sets.{is_among}
use Rattle.cast_types.specs.declared.refusal.Refusal.TheVariants.{NotMember, Flushing, OwnAbcast, NotHolder, HeldFull}
use Rattle.cast_ready.specs.Ready.{is_member}
use Rattle.cast_order.specs.Log.{hand_here, log_of}
use Rattle.cast_view.specs.MemberSide.{members_of}
use Rattle.cast_rules.specs.Rules.Room.{may_order}
use Rattle.cast_rules.specs.Rules.Sending.{may_raise}
use Rattle.cast_rules.specs.Rules.Leaving.{Attempt}
use Rattle.cast_rules.specs.Rules.Commands.{pass_at, hand_over}
use Rattle.cast_domain.specs.Records.{Records}
use Rattle.cast_domain.specs.PartCalls.{awaits_own_in, local_in, record_at, standing_of, time_of}
use Rattle.cast_domain.specs.ReleaseCalls.{place_to_pass_of}
use Rattle.cast_domain.specs.Calls.{records}

-- what it does is left to the place from which the other process orders
pub pass_past : (r : Records) (k : ℕ) (g : GroupNo) (to : Proc) (i : ℕ) (p : Proc) → p ≡ local_in r k
    → is_member (standing_of r.delay p g) ≡ true
    → is_among proc_eq to (members_of (record_at r.groups i).here) ≡ true
    → (record_at r.groups i).here.frozen ≡ false
    → awaits_own_in r p ≡ false
    → is_some (hand_here (log_of r.orders (record_at r.groups i).name) p).first ≡ true
    → may_order records r ≡ true
    → may_raise (time_of r.delay p) g p ≡ true
    → pass_at records r k g to i
    ≡ option_map_or (hand_over records r k g to i) (place_to_pass_of r p (record_at r.groups i)) (r, Some HeldFull)
pass_past r k g to i p here member named going own holding room may =
    let x = record_at r.groups i in
    let q = local_in r k in
    let made : Attempt Records = option_map_or (hand_over records r k g to i) (place_to_pass_of r q x) (r, Some HeldFull) in
    let raised : Attempt Records = if not (may_raise (time_of r.delay q) g q) then (r, Some HeldFull) else made in
    let ordered : Attempt Records = if not (may_order records r) then (r, Some HeldFull) else raised in
    let held : Attempt Records = if not (is_some (hand_here (log_of r.orders x.name) q).first) then (r, Some NotHolder) else ordered in
    let owned : Attempt Records = if awaits_own_in r q then (r, Some OwnAbcast) else held in
    let frozen : Attempt Records = if x.here.frozen then (r, Some Flushing) else owned in
    let among : Attempt Records = if not (is_among proc_eq to (members_of x.here)) then (r, Some NotMember) else frozen in
    ap (λ b. if not b then (r, Some NotMember) else among) (ap (λ y. is_member (standing_of r.delay y g)) (sym here) ∙ member)
    ∙ ap (λ b. if not b then (r, Some NotMember) else frozen) named
    ∙ ap (λ b. if b then (r, Some Flushing) else owned) going
    ∙ ap (λ b. if b then (r, Some OwnAbcast) else held) (ap (awaits_own_in r) (sym here) ∙ own)
    ∙ ap (λ b. if not b then (r, Some NotHolder) else ordered)
    (ap (λ y. is_some (hand_here (log_of r.orders x.name) y).first) (sym here) ∙ holding)
    ∙ ap (λ b. if not b then (r, Some HeldFull) else raised) room
    ∙ ap (λ b. if not b then (r, Some HeldFull) else made) (ap (λ y. may_raise (time_of r.delay y) g y) (sym here) ∙ may)
    ∙ ap (λ y. option_map_or (hand_over records r k g to i) (place_to_pass_of r y x) (r, Some HeldFull)) (sym here)
