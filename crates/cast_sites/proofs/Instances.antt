-- The laws at the run of `Schedules`: what they say there of the network that each domain is, which the run does not show.
-- A law cannot come to say less without one of these failing.
use Rattle.std.proofs.Common.{◌≡◌, zero, suc, Bool, true, false, List, [], ◌∷◌, ◌++◌, Some, refl, sym, ap, subst, ◌∙◌, arith, inl, inr, map}
use Rattle.std.specs.Prelude.{◌&&◌, ◌||◌, Contains, unwrap_or}
use Rattle.std.specs.List.{list_any}
use Rattle.std.specs.Option.{option_map}
use Rattle.std.proofs.lemmas.Bool.{and_from, false≢true, or_left, or_right}
use Rattle.std.proofs.lemmas.List.Elements.{Contains-append_right}
use Rattle.cast_types.specs.Names.{uid_eq}
use Rattle.cast_types.specs.Sets.{is_among}
use Rattle.cast_types.specs.declared.names.DomainNo.{DomainNo}
use Rattle.cast_types.specs.declared.names.SiteNo.{SiteNo}
use Rattle.cast_types.specs.declared.names.Uid.{Uid}
use Rattle.cast_types.specs.declared.refusal.Refusal.TheVariants.{Slow}
use Rattle.cast_types.proofs.Contains.{contains_here}
use Rattle.cast_types.proofs.Orders.{uid_itself}
use Rattle.cast_message.specs.declared.client.CastKind.TheVariants as kind
use Rattle.cast_message.specs.declared.client.Push.{Push}
use Rattle.cast_message.specs.declared.client.Push.TheVariants as push
use Rattle.cast_message.specs.declared.message.Message.{Message}
use Rattle.cast_delay.proofs.MemberLemmas.{member_any}
use Rattle.cast_events.specs.declared.config.DomainConfig.{DomainConfig}
use Rattle.cast_order.specs.Order.{known_order}
use Rattle.cast_outbox.specs.Outboxes.{outboxes_in}
use Rattle.cast_timer.specs.Rows.{owed_in}
use Rattle.cast_domain.specs.Records.{is_halted}
use Rattle.cast_table.specs.Shows.{domain_at}
use Rattle.cast_world.specs.HappenedBefore.{HappenedBefore, acts_of}
use Rattle.cast_world.specs.Network.{Network}
use Rattle.cast_world.specs.Programs.News.{Cast as Told, View}
use Rattle.cast_world.specs.Programs.{all_done, all_told, casts_in}
use Rattle.cast_world.specs.declared.step.Step.{Step}
use Rattle.cast_world.proofs.Schedules.{group, proc, site, uid}
use Rattle.cast_sites.specs.Daemons.{DaemonNetwork, TakesSteps}
use Rattle.cast_sites.specs.Laws.{AgreeOnHomeOf, AreToldLawfully, IsNetworkOf, RunsAt, pushed_in}
use Rattle.cast_sites.proofs.Domains.{domains_are_told, domains_go_on}
use Rattle.cast_sites.proofs.Schedules.{cast, domain, end, ended, met, reaches, served, sites, told_1_2}

home_of : (s : SiteNo) (b : DomainConfig) → Contains (served s) b → b.home ≡ site b.domain.0
home_of s b (zero, lt, at) = subst (λ (c : DomainConfig). c.home ≡ site c.domain.0) at refl
home_of s b (suc zero, lt, at) = subst (λ (c : DomainConfig). c.home ≡ site c.domain.0) at refl
home_of s b (suc (suc k), lt, at) = absurd (omega (arith, lt))

agree : (d : DomainNo) → AgreeOnHomeOf sites served d
agree d s t b c one two =
    home_of s b one.listed ∙ ap (λ (n : DomainNo). site n.0) (one.number ∙ sym two.number) ∙ sym (home_of t c two.listed)

abbrev steps : List Step
steps = map (λ m. m.0) ended.moves

-- what domain 1 has is a network of its own, of which the laws of what programs are told hold
own_network :
    (own : List Step) × (w : Network) × IsNetworkOf sites served (domain 1) end own w × AreToldLawfully w (pushed_in (domain 1) end)
own_network = domains_are_told sites served steps end (domain 1) reaches (agree (domain 1))

abbrev w : Network
w = own_network.1

is_closed : Push → Bool
is_closed (push.Opened p) = false
is_closed (push.Reply tag refusal) = false
is_closed (push.View g view members) = false
is_closed (push.Deliver u kind payload) = false
is_closed (push.Ejected g view) = false
is_closed (push.Denied g refusal) = false
is_closed (push.Closed refusal) = true

-- what is told to 2.1 of domain 1 is all that its process did there: it entered view 2, and delivered x, y and the cast after them
did_1_2 :
    all_done (acts_of w (proc 2 1))
    ≡ View (group 1) 2 ∷ Told (uid 1 2 (proc 1 1) 1) kind.Causal (65 ∷ []) ∷ Told (uid 1 2 (proc 1 1) 2) kind.Atomic (66 ∷ [])
    ∷ Told (uid 1 2 (proc 1 1) 4) kind.Causal (69 ∷ []) ∷ []
unfolding is_closed
did_1_2 = elim (own_network.3.all (proc 2 1)) [
  | inl is ↦ sym is ∙ ap all_told told_1_2
  | inr (last, is, closes) ↦
      absurd (false≢true (ap (list_any is_closed) (sym told_1_2)
      ∙ member_any is_closed (pushed_in (domain 1) end (proc 2 1)) (push.Closed Slow) closes refl))
]

-- whether x stands before m
comes : Uid → Uid → List Uid → Bool
comes x m [] = false
comes x m (u ∷ us) = (uid_eq x u && is_among uid_eq m us) || comes x m us

comes_there : (x m : Uid) (a b c : List Uid) → comes x m (a ++ x ∷ b ++ m ∷ c) ≡ true
unfolding comes
comes_there x m [] b c =
    or_left (uid_eq x x && is_among uid_eq m (b ++ m ∷ c)) (comes x m (b ++ m ∷ c))
    (and_from (uid_eq x x) (is_among uid_eq m (b ++ m ∷ c)) (uid_itself x)
    (member_any (uid_eq m) (b ++ m ∷ c) m (Contains-append_right b (m ∷ c) m (contains_here m c)) (uid_itself m)))
comes_there x m (u ∷ a) b c =
    or_right (uid_eq x u && is_among uid_eq m (a ++ x ∷ b ++ m ∷ c)) (comes x m (a ++ x ∷ b ++ m ∷ c)) (comes_there x m a b c)

-- 2.1 of domain 1 is told x before y, so y did not happen before x
casts_1_2 : casts_in (pushed_in (domain 1) end (proc 2 1)) ≡ uid 1 2 (proc 1 1) 1 ∷ uid 1 2 (proc 1 1) 2 ∷ uid 1 2 (proc 1 1) 4 ∷ []
casts_1_2 = ap casts_in told_1_2

never_before : (x y : Message) → x.id ≡ uid 1 2 (proc 1 1) 1 → y.id ≡ uid 1 2 (proc 1 1) 2 → HappenedBefore w y x → ⊥
unfolding comes
never_before x y is_x is_y before =
    let told : Uid → Type 0 = λ u. Contains (casts_in (pushed_in (domain 1) end (proc 2 1))) u in
    let has_y : told y.id =
    subst told (sym is_y) (subst (λ us. Contains us (uid 1 2 (proc 1 1) 2)) (sym casts_1_2) (1, omega arith, refl)) in
    let has_x : told x.id =
    subst told (sym is_x) (subst (λ us. Contains us (uid 1 2 (proc 1 1) 1)) (sym casts_1_2) (0, omega arith, refl)) in
    let there = own_network.3.causal (proc 2 1) y x has_y has_x before in
    false≢true
    (ap (comes (uid 1 2 (proc 1 1) 2) (uid 1 2 (proc 1 1) 1)) (sym casts_1_2)
    ∙ (λ i. comes (sym is_y i) (sym is_x i) (there.3 i))
    ∙ comes_there y.id x.id there.0 there.1 there.2)

-- domain 2 takes no more steps at site 1, whatever happens from then on
stopped_there : RunsAt (domain 2) end (site 1) → ⊥
unfolding owed_in outboxes_in known_order met cast ended
stopped_there at =
    let halted : option_map is_halted (domain_at (domain 2) (end.at (site 1))) ≡ Some true = refl in
    let runs : option_map is_halted (domain_at (domain 2) (end.at (site 1))) ≡ Some false =
    ap (option_map is_halted) at.stands ∙ ap Some at.runs in
    false≢true (ap (λ o. unwrap_or o false) (sym runs ∙ halted))

no_more : (later : List Step) (m : DaemonNetwork) → TakesSteps end later m →
    (own more : List Step) × (v : Network) × IsNetworkOf sites served (domain 2) m (own ++ more) v
    × ((step : Step) → Contains more step → step.site ≡ site 1 → ⊥)
no_more later m takes =
    let on = domains_go_on sites served steps later end m (domain 2) reaches takes (agree (domain 2)) in (
      on.0,
      on.1,
      on.3,
      on.7,
      λ step among there. stopped_there (subst (RunsAt (domain 2) end) there (on.9 step among)),
    )
