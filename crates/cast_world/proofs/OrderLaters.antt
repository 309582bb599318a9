-- What holds of orders still holds when other sites have moved and the home has decided more.
use Rattle.std.proofs.Common.{ap, arith, inl, inr, subst, sym, ◌∙◌}
use Rattle.std.proofs.lemmas.Bool.{false≢true}
use Rattle.std.specs.Prelude.{Bool, Contains, List, None, Option, Some, false, refl, true, ℕ, ◌≡◌}
use Rattle.cast_rules.specs.Acts.{Act}
use Rattle.cast_rules.specs.Acts.Act.{Delivered, Sent}
use Rattle.cast_message.specs.Bodies.{new_holder}
use Rattle.cast_message.specs.Membership.{Membership}
use Rattle.cast_message.specs.declared.message.Message.{Message}
use Rattle.cast_types.specs.Names.{Entry, proc_eq}
use Rattle.cast_types.specs.declared.names.GroupNo.{GroupNo}
use Rattle.cast_types.specs.declared.names.Proc.{Proc}
use Rattle.cast_types.specs.declared.names.SiteNo.{SiteNo}
use Rattle.cast_types.specs.declared.names.Uid.{Uid}
use Rattle.cast_view.specs.MemberSide.{MemberSide, holder_of, is_process}
use Rattle.cast_world.proofs.Derivation.{unique}
use Rattle.cast_world.proofs.Facts.{ActWell, Each}
use Rattle.cast_world.proofs.Flush.{Choice, Chosen, GroupAgrees, numbers}
use Rattle.cast_world.proofs.FlushLaters.{Extends}
use Rattle.cast_world.proofs.FlushSites.{same_proc}
use Rattle.cast_world.proofs.Invariants.{Ahead, SiteHolds, Sites, WasSent}
use Rattle.cast_world.proofs.Orders.{Begun, LastHolds, OrderHolds, token_at}
use Rattle.cast_world.proofs.Tokens.{HandOvers, HasToken}

module _ (home : SiteNo) (choice more : Choice) (at next : Sites) (ext : Extends choice (numbers at home) more (numbers next home))
    (ahead : Ahead at next) where
  pub sent_later : (m : Message) → WasSent at m → WasSent next m
  sent_later m was = (ahead m.id.proc.site).did m.id.proc.serial (Sent m) was

  pub begun_later : (g : GroupNo) (view : ℕ) → Begun choice (numbers at home) at g view → Begun more (numbers next home) next g view
  begun_later g view b = record {
    holder = b.holder;
    message = b.message;
    decided = (let up = (ext g).0 in let low = b.decided in omega (arith, up, low));
    chosen = ap (λ (c : Chosen). c.members.holder) ((ext g).1 view b.decided) ∙ b.chosen;
    sent = sent_later b.message b.sent;
    own = b.own;
    in_view = b.in_view;
  }

  last_later : (g : GroupNo) (view : ℕ) (order : List Entry) (m : Message) → LastHolds at g view order m → LastHolds next g view order m
  last_later g view order m l = record {
    place = l.place;
    to = l.to;
    is = l.is;
    sent = sent_later m l.sent;
    in_view = l.in_view;
    taken = elim l.taken [ inl did ↦ inl ((ahead l.to.site).did l.to.serial (Delivered m) did) | inr under_way ↦ inr under_way ];
  }

  pub order_later : (g : GroupNo) (view : ℕ) (order : List Entry) (handed : Option Message) →
      OrderHolds choice (numbers at home) at g view order handed → OrderHolds more (numbers next home) next g view order handed
  order_later g view order handed o = record {
    apart = o.apart;
    few = o.few;
    atomic = λ e c. let m = o.atomic e c in (m.0, sent_later m.0 m.1, m.2, m.3);
    begun = elim o.begun [ inl none ↦ inl none | inr b ↦ inr (begun_later g view b) ];
    last = λ m e. last_later g view order m (o.last m e);
  }

-- whom a view names to tell its order first is the one that was chosen with it
pub named_chosen : (choice : Choice) (g : GroupNo) (group : MemberSide) → GroupAgrees choice g group → (here : SiteNo) (k : ℕ) →
    is_process (record { site = here; serial = k }) (holder_of group) ≡ true →
    (choice g group.number).members.holder ≡ Some (record { site = here; serial = k })
named_chosen choice g group agrees here k e = go group.view refl e
  where
    by_name : (m : Membership) → m ≡ (choice g group.number).members → (o : Option Proc) → m.holder ≡ o →
        elim o as (λ x. Bool) [ Some q ↦ proc_eq q (record { site = here; serial = k }) | None ↦ false ] ≡ true →
        (choice g group.number).members.holder ≡ Some (record { site = here; serial = k })
    by_name m same None is y = absurd (false≢true y)
    by_name m same (Some q) is y =
        ap (λ (x : Membership). x.holder) (sym same) ∙ is ∙ ap (λ z. Some z) (same_proc q (record { site = here; serial = k }) y)

    go : (o : Option Membership) → group.view ≡ o → elim (elim o as (λ x. Option Proc) [ Some m ↦ m.holder | None ↦ None ])
        as (λ x. Bool) [ Some q ↦ proc_eq q (record { site = here; serial = k }) | None ↦ false ] ≡ true →
        (choice g group.number).members.holder ≡ Some (record { site = here; serial = k })
    go None is y = absurd (false≢true y)
    go (Some m) is y = by_name m (agrees.view m is) m.holder refl y

-- who tells its order has the token of the view
pub teller_chosen : (choice : Choice) (handed : HandOvers) (g : GroupNo) (group : MemberSide) → GroupAgrees choice g group →
    (here : SiteNo) (k : ℕ) (acts : List Act) (first : ℕ) →
    HasToken (handed g group.number) group (record { site = here; serial = k }) acts first →
    token_at choice handed g group.number ≡ Some (record { site = here; serial = k })
teller_chosen choice handed g group agrees here k acts first (inl named) =
    ap (λ (o : Option Message).
    elim o as (λ x. Option Proc) [ Some m ↦ new_holder m.body | None ↦ (choice g group.number).members.holder ]) named.0
    ∙ named_chosen choice g group agrees here k named.1
teller_chosen choice handed g group agrees here k acts first (inr m) =
    ap (λ (o : Option Message).
    elim o as (λ x. Option Proc) [ Some m ↦ new_holder m.body | None ↦ (choice g group.number).members.holder ]) m.1 ∙ ap new_holder m.2

-- Of all sites

module _ (at : Sites) (home : SiteNo) (all : (s : SiteNo) → SiteHolds at home s (at s)) where
  pub each_at : (p : Proc) → Each (ActWell p) ((at p.site).acts p.serial)
  each_at p =
      let x = all p.site in
      subst (λ z. Each (ActWell record { site = z; serial = p.serial }) ((at p.site).acts p.serial)) x.here_is (x.ones p.serial).fits.each

  -- messages of one name are one
  pub one_message : (x y : Message) → WasSent at x → WasSent at y → x.id ≡ y.id → x ≡ y
  one_message x y at_x at_y same =
      unique x.id.proc ((at x.id.proc.site).acts x.id.proc.serial) (each_at x.id.proc) x y at_x
      (subst (λ (p : Proc). Contains ((at p.site).acts p.serial) (Sent y)) (ap (λ (u : Uid). u.proc) (sym same)) at_y) same
