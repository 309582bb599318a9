-- What holds of flushes still holds when others have moved and the home has decided more.
use Rattle.std.proofs.Common.{ap, arith, inl, inr, subst, sym, ◌∙◌}
use Rattle.std.specs.Prelude.{◌+◌, Contains, IsTrue, refl, ℕ, ◌≡◌, ◌≤◌}
use Rattle.cast_rules.specs.State.{State}
use Rattle.cast_message.specs.declared.site.SiteFrame.{SiteFrame}
use Rattle.cast_types.specs.Counts.{CountList, is_within}
use Rattle.cast_types.specs.Names.{entry_of}
use Rattle.cast_types.specs.declared.names.GroupNo.{GroupNo}
use Rattle.cast_types.specs.declared.names.SiteNo.{SiteNo}
use Rattle.cast_types.specs.declared.names.Uid.{Uid}
use Rattle.cast_world.proofs.Flush.{Choice, Chosen, Covered, IsMembers, IsTrueOf, SiteAgrees, Told, numbers}
use Rattle.cast_world.proofs.Invariants.{IsSound, SiteHolds, Sites}
use Rattle.cast_message.specs.declared.site.SiteFrame.TheVariants as frame

-- what was decided stands, and more may be
abbrev pub Extends : Choice → (GroupNo → ℕ) → Choice → (GroupNo → ℕ) → Type 0
Extends choice number more next = (g : GroupNo) → (number g ≤ next g) × ((n : ℕ) → n ≤ number g → more g n ≡ choice g n)

pub extends_same : (choice : Choice) (number : GroupNo → ℕ) → Extends choice number choice number
extends_same choice number g = (omega arith, λ n le. refl)

pub extends_then : (first : Choice) (low : GroupNo → ℕ) (choice : Choice) (number : GroupNo → ℕ) (more : Choice) (next : GroupNo → ℕ) →
    Extends first low choice number → Extends choice number more next →
    Extends first low more next
extends_then first low choice number more next one two g = (
  (let a = (one g).0 in let b = (two g).0 in omega (arith, a, b)),
  λ n le. let a = (one g).0 in (two g).1 n (omega (arith, a, le)) ∙ (one g).1 n le,
)

pub told_extends : (choice : Choice) (number : GroupNo → ℕ) (more : Choice) (next : GroupNo → ℕ) → Extends choice number more next →
    (t : State) (g : GroupNo) (view : ℕ) (counts : CountList) →
    Told choice number t g view counts → Told more next t g view counts
told_extends choice number more next ext t g view counts told = record {
  reached = told.reached;
  frozen = told.frozen;
  within = λ k m at group in_view. elim (told.within k m at group in_view) [
    | inl low ↦ inl low
    | inr cut ↦ inr (
      (let up = (ext g).0 in let was = cut.0 in omega (arith, up, was)),
      subst (λ (c : Chosen). IsTrue (is_within c.cut (entry_of m.id)))
          (sym ((ext g).1 (view + 1) (let was = cut.0 in omega (arith, was)))) cut.1,
    )
  ];
  sent = told.sent;
}

module _ (home : SiteNo) (choice more : Choice) (at next : Sites) (ext : Extends choice (numbers at home) more (numbers next home))
    (told : (s : SiteNo) (g : GroupNo) (view : ℕ) (counts : CountList) → Told choice (numbers at home) (at s) g view counts →
    Told more (numbers next home) (next s) g view counts) where
  pub members_later : (u : Uid) → IsMembers choice (numbers at home) u → IsMembers more (numbers next home) u
  members_later u is = (
    (let up = (ext u.group).0 in let low = is.0 in omega (arith, up, low)),
    subst (λ (c : Chosen). Contains c.members.list u.proc) (sym ((ext u.group).1 u.view is.0)) is.1,
  )

  pub true_later : (from to : SiteNo) (f : SiteFrame) → IsSound at home from to f → IsTrueOf choice (numbers at home) at from f →
      IsTrueOf more (numbers next home) next from f
  true_later from to (frame.Data m) sound is = tt
  true_later from to (frame.Ack u) sound is = tt
  true_later from to (frame.Stable u) sound is = tt
  true_later from to (frame.Ask g n what p) sound is = tt
  true_later from to (frame.Asked g n full) sound is = tt
  true_later from to (frame.Prepare g view) sound is = tt
  true_later from to (frame.Flushed g view counts tail kept) sound is = told from g view counts is
  true_later from to (frame.Want u) sound is = tt
  true_later from to (frame.Forward m) sound is = tt
  true_later from to (frame.Install g view members request cut tail) sound is =
      let same = (ext g).1 view sound.0 in (is.0 ∙ ap (λ (c : Chosen). c.members) (sym same), is.1 ∙ ap (λ (c : Chosen). c.cut) (sym same))
  true_later from to (frame.Installed g view) sound is = tt
  true_later from to (frame.Out g view) sound is = tt

  pub agrees_later : (s : SiteNo) (t : State) → SiteHolds at home s t → SiteAgrees choice (numbers at home) at s t →
      SiteAgrees more (numbers next home) next s t
  agrees_later s t x y = record {
    groups = λ g. record {
      view = λ m e. (y.groups g).view m e ∙ ap (λ (c : Chosen). c.members) (sym ((ext g).1 (t.group g).number (x.groups g).number));
      pending = λ p e.
          let was = (y.groups g).pending p e in
          let same = (ext g).1 ((t.group g).number + 1) ((x.groups g).pending p e).0 in
          (was.0 ∙ ap (λ (c : Chosen). c.members) (sym same), was.1 ∙ ap (λ (c : Chosen). c.cut) (sym same));
      frozen = (y.groups g).frozen;
    };
    ones = λ k. record {
      listed = (y.ones k).listed;
      has = (y.ones k).has;
      given = (y.ones k).given;
      sender = λ m c. members_later m.id ((y.ones k).sender m c);
      entered = λ g n cut c. let was = (y.ones k).entered g n cut c in
          ((let up = (ext g).0 in let low = was.0 in omega (arith, up, low)), was.1 ∙ ap (λ (z : Chosen). z.cut) (sym ((ext g).1 n was.0)));
      cuts = (y.ones k).cuts;
    };
    homes = λ g. let same = (ext g).1 (t.home g).number (x.homes g).number in record {
      members = (y.homes g).members ∙ ap (λ (c : Chosen). c.members) (sym same);
      decision = λ waiting d bodies e. (y.homes g).decision waiting d bodies e ∙ ap (λ (c : Chosen). c.cut) (sym same);
      awaits = (y.homes g).awaits;
      reports = λ q r c. told q g (t.home g).number r.counts ((y.homes g).reports q r c);
    };
    received = λ m c. members_later m.id (y.received m c);
    own = y.own;
    sent = λ to f c. true_later s to f (x.sent to f c) (y.sent to f c);
  }

  pub covered_later : (g : GroupNo) (view : ℕ) → view + 1 ≤ numbers at home g → Covered choice (numbers at home) at g view →
      Covered more (numbers next home) next g view
  covered_later g view decided covered p before after =
      let one = (ext g).1 view (omega (arith, decided)) in
      let two = (ext g).1 (view + 1) decided in
      let was =
      covered p (subst (λ (c : Chosen). Contains c.members.list p) one before)
      (subst (λ (c : Chosen). Contains c.members.list p) two after) in (
        was.0,
        told p.site g view was.0 was.1,
        λ e counted chosen low. subst (λ (c : Chosen). IsTrue (is_within c.cut e)) (sym two)
            (was.2 e counted (subst (λ (c : Chosen). Contains c.members.list e.0) one chosen) low),
      )
