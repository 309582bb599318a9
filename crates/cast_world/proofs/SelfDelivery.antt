-- Who passes from a view to the next has delivered all that it sent in it: its site told what it had sent, so the cut covers that.
use Rattle.std.proofs.Common.{ap, append_assoc, arith, inl, inr, subst, sym, ◌∙◌}
use Rattle.std.proofs.lemmas.List.Elements.{Contains-append_left, Contains-append_right}
use Rattle.std.specs.Prelude.{◌+◌, ◌++◌, ◌<◌, Contains, IsTrue, List, [], ℕ, ◌∷◌, ◌≡◌}
use Rattle.cast_rules.specs.Acts.{Act}
use Rattle.cast_rules.specs.Acts.Act.{Delivered, Entered, Sent}
use Rattle.cast_message.specs.declared.message.Message.{Message}
use Rattle.cast_types.specs.Counts.{CountList, is_within}
use Rattle.cast_types.specs.Names.{entry_of}
use Rattle.cast_types.specs.declared.names.GroupNo.{GroupNo}
use Rattle.cast_types.specs.declared.names.Proc.{Proc}
use Rattle.cast_types.specs.declared.names.SiteNo.{SiteNo}
use Rattle.cast_types.specs.declared.names.Uid.{Uid}
use Rattle.cast_world.proofs.Acts.{contains_around, contains_here, entered_not_sent}
use Rattle.cast_world.proofs.Cuts.{fact, names_are_unique, passes_above, still_in}
use Rattle.cast_world.proofs.Facts.{Facts}
use Rattle.cast_world.proofs.FlushRuns.{AllKept, kept_in_every}
use Rattle.cast_world.proofs.Lists.{contains_split, entered_same}
use Rattle.cast_world.proofs.Same.{EachSeen, seen_in_every}
use Rattle.cast_world.specs.HappenedBefore.{NeverLeft, acts_of}
use Rattle.cast_world.specs.Laws.{NamesAreUnique}
use Rattle.cast_world.specs.Network.{Network}
use Rattle.cast_world.specs.Properties.{AllDeliverOwn, IsIn}

module _ (home : SiteNo) (w : Network) (f : Facts w) (all : AllKept home w) (seen : EachSeen w) (unique : NamesAreUnique w)
    (p : Proc) (g : GroupNo) (view : ℕ) (before cut : CountList) (a b c : List Act) (m : Message)
    (is : acts_of w p ≡ a ++ Entered g view before ∷ b ++ Entered g (view + 1) cut ∷ c) (stays : NeverLeft g b)
    (group : m.id.group ≡ g) (in_view : m.id.view ≡ view) where
  abbrev until : List Act
  until = a ++ Entered g view before ∷ b

  -- what it sent before it entered the next view is within the cut
  delivered_own : Contains until (Sent m) → Contains b (Delivered m)
  delivered_own at =
      let s = contains_split until (Sent m) at in
      let well =
      f.each p s.0 (s.1 ++ Entered g (view + 1) cut ∷ c) (Sent m)
      (is ∙ ap (λ l. l ++ Entered g (view + 1) cut ∷ c) s.2 ∙ append_assoc s.0 (Sent m ∷ s.1) (Entered g (view + 1) cut ∷ c)) in
      let within : IsTrue (is_within cut (entry_of m.id)) =
      ((all.2.sites p.site).ones p.serial).cuts until c (Entered g (view + 1) cut)
      is view m (still_in w f p g view before cut a b c is stays) (inl at) group in_view in
      let has = passes_above w f p g view before cut a b c (entry_of m.id) is stays well.counted within in
      let x : Message = has.0 in
      let named : x.id ≡ m.id =
      has.1 ∙ (λ i. record { group = sym group i; view = sym in_view i; proc = m.id.proc; count = m.id.count }) in
      let did : Contains (acts_of w p) (Delivered x) =
      subst (λ l. Contains l (Delivered x)) (sym is)
      (Contains-append_left until (Entered g (view + 1) cut ∷ c) (Delivered x)
      (Contains-append_right a (Entered g view before ∷ b) (Delivered x)
      (Contains-append_right (Entered g view before ∷ []) b (Delivered x) has.2))) in
      let sent_x : Contains (acts_of w p) (Sent x) =
      subst (λ (z : Proc). Contains (acts_of w z) (Sent x)) (ap (λ (u : Uid). u.proc) named ∙ well.own) (f.was_sent p x did) in
      let sent_m : Contains (acts_of w p) (Sent m) =
      subst (λ l. Contains l (Sent m)) (sym is) (Contains-append_left until (Entered g (view + 1) cut ∷ c) (Sent m) at) in
      subst (λ (z : Message). Contains b (Delivered z)) (unique p x m sent_x sent_m named) has.2

  -- nothing of the view is sent behind that
  never_behind : Contains c (Sent m) → ⊥
  never_behind later =
      let s = contains_split c (Sent m) later in
      let past : List Act = until ++ Entered g (view + 1) cut ∷ s.0 in
      let whole : acts_of w p ≡ past ++ Sent m ∷ s.1 =
      is ∙ ap (λ l. until ++ Entered g (view + 1) cut ∷ l) s.2 ∙ sym (append_assoc until (Entered g (view + 1) cut ∷ s.0) (Sent m ∷ s.1)) in
      let inside : IsIn past g view =
      subst (λ v. IsIn past g v) in_view (subst (λ h. IsIn past h m.id.view) group ((seen p.site p.serial).seen past s.1 (Sent m) whole)) in
      elim (contains_around inside.0 inside.1 (Entered g view inside.2) (Entered g (view + 1) cut)
      (subst (λ l. Contains l (Entered g (view + 1) cut)) inside.3 (contains_here until s.0 (Entered g (view + 1) cut)))) [
        | inl below ↦
            let low : view + 1 < view =
            (seen p.site p.serial).seen inside.0 (inside.1 ++ Sent m ∷ s.1) (Entered g view inside.2)
            (whole ∙ ap (λ l. l ++ Sent m ∷ s.1) inside.3 ∙ append_assoc inside.0 (Entered g view inside.2 ∷ inside.1) (Sent m ∷ s.1))
            (view + 1) cut below in
            omega (arith, low)
        | inr (inl same) ↦ (let equal = (entered_same g g view (view + 1) inside.2 cut same).1 in omega (arith, equal))
        | inr (inr more) ↦ inside.5 (view + 1) cut more
      ]

  pub own_delivered : Contains (acts_of w p) (Sent m) → Contains b (Delivered m)
  own_delivered sent =
      elim (contains_around until c (Entered g (view + 1) cut) (Sent m) (subst (λ l. Contains l (Sent m)) is sent)) [
        | inl early ↦ delivered_own early
        | inr (inl same) ↦ absurd (entered_not_sent m g (view + 1) cut same)
        | inr (inr later) ↦ absurd (never_behind later)
      ]

pub deliver_own : AllDeliverOwn
deliver_own sites config steps w r p g view before cut a b c m is stays sent group in_view =
    own_delivered (config record { 0 = 0 }).home w (fact sites config steps w r) (kept_in_every sites config steps w r)
    (seen_in_every sites config steps w r) (names_are_unique sites config steps w r) p g view before cut a b c m is stays group in_view sent
