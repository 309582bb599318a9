-- Worked schedules over several sites.
-- Each runs steps of a small network by computation, and states what the processes delivered.
use Rattle.cast_delay.proofs.MemberLemmas.{member_any}
use Rattle.std.proofs.Common.{ap, append_assoc, subst, sym, ◌∙◌}
use Rattle.std.proofs.lemmas.Bool.{false≢true, true≢false}
use Rattle.std.proofs.lemmas.List.Elements.{Contains-append_left, Contains-append_right}
use Rattle.std.specs.List.{find, list_any}
use Rattle.std.specs.Prelude.{◌+◌, ◌++◌, ◌==◌, Bool, Contains, List, None, Some, [], false, is_some, length, map, refl, slice_get, suc, true, unwrap_or, zero, ℕ, ◌∷◌, ◌≡◌}
use Rattle.cast_rules.specs.Acts.{Act}
use Rattle.cast_rules.specs.Acts.Act.{Delivered, Entered, Left, Sent as Sends}
use Rattle.cast_rules.specs.Order.{holds}
use Rattle.cast_message.specs.declared.client.Push.{Push}
use Rattle.cast_message.specs.declared.client.Request.TheVariants.{Cast, Join, Pass}
use Rattle.cast_message.specs.declared.site.SiteFrame.{SiteFrame}
use Rattle.cast_events.specs.declared.config.DomainConfig.{DomainConfig}
use Rattle.cast_events.specs.declared.event.Event.{Event}
use Rattle.cast_order.specs.Order.{known_order}
use Rattle.cast_quota.specs.Quotas.{usual}
use Rattle.cast_types.specs.Counts.{CountList}
use Rattle.cast_types.specs.declared.names.DomainNo.{DomainNo}
use Rattle.cast_types.specs.declared.names.GroupNo.{GroupNo}
use Rattle.cast_types.specs.declared.names.Proc.{Proc}
use Rattle.cast_types.specs.declared.names.SiteNo.{SiteNo}
use Rattle.cast_types.specs.Names.{uid_eq}
use Rattle.cast_types.specs.declared.names.Uid.{Uid}
use Rattle.cast_types.specs.declared.refusal.Refusal.TheVariants.{NotHolder, OwnAbcast}
use Rattle.cast_view.specs.MemberSide.{is_pending}
use Rattle.cast_world.proofs.Allowed.{contains_more}
use Rattle.cast_world.specs.Agreement.{IsWithin, Passes, abcasts_in}
use Rattle.cast_world.specs.HappenedBefore.{NeverLeft, acts_of}
use Rattle.cast_world.specs.Network.{Network, happens_in, leads_in, start}
use Rattle.cast_world.specs.declared.step.Happening.TheVariants.{Local, Sent}
use Rattle.cast_world.specs.declared.step.Packet.{Packet}
use Rattle.cast_world.specs.declared.step.Step.{Step}
use Rattle.cast_message.specs.declared.client.Command.TheVariants as command
use Rattle.cast_events.specs.declared.event.Event.TheVariants as event
use Rattle.cast_message.specs.declared.client.CastKind.TheVariants as kind
use Rattle.cast_message.specs.declared.client.Push.TheVariants as push
use Rattle.cast_message.specs.declared.site.SiteFrame.TheVariants as frame

abbrev domain : DomainNo
domain = record { 0 = 1 }

abbrev pub site : ℕ → SiteNo
site n = record { 0 = n }

abbrev pub group : ℕ → GroupNo
group n = record { 0 = n }

abbrev pub proc : ℕ → ℕ → Proc
proc s k = record { site = site s; serial = k }

abbrev pub uid : ℕ → ℕ → Proc → ℕ → Uid
uid g v p n = record { group = group g; view = v; proc = p; count = n }

abbrev does : ℕ → Event → Step
does s e = record { site = site s; what = Local e }

abbrev pub hand : ℕ → ℕ → Step
hand s k = record { site = site s; what = Sent k }

abbrev opens : ℕ → Step
opens s = does s (event.Open domain)

abbrev pub joins : ℕ → ℕ → Step
joins s g = does s (event.Command domain 1 (command.Request (Join 7 (group g))))

abbrev pub casts : ℕ → ℕ → Step
casts s g = does s (event.Command domain 1 (command.Request (Cast 8 (group g) kind.Causal [])))

abbrev abcasts : ℕ → ℕ → Step
abcasts s g = does s (event.Command domain 1 (command.Request (Cast 8 (group g) kind.Atomic [])))

abbrev passes : ℕ → ℕ → Proc → Step
passes s g to = does s (event.Command domain 1 (command.Request (Pass 9 (group g) to)))

abbrev pub suspects : ℕ → ℕ → Step
suspects s t = does s (event.Suspect domain (site t))

-- hands every frame from the i-th on to its site, in order, and those that are sent meanwhile
abbrev drained : ℕ → ℕ → Network → Network
drained zero i w = w
drained (suc n) i w =
    elim (slice_get w.sent i) [ Some p ↦ drained n (i + 1) (happens_in 3 w (record { site = p.to; what = Sent i })) | None ↦ w ]

-- the steps, and then every frame from the first new one on
abbrev through : Network → List Step → Network
through w steps = drained 60 (length w.sent) (leads_in 3 w steps)

abbrev config : List SiteNo → List GroupNo → DomainConfig
config sites groups = record { domain = domain; home = site 1; sites = sites; groups = groups; quotas = usual }

abbrev begun : List SiteNo → List GroupNo → Network
begun sites groups = start sites (λ s. config sites groups)

-- what the first process of a site delivered
abbrev pub delivered : Network → ℕ → List Uid
delivered w s = ((w.at (site s)).process 1).delivered

-- what its program was told at the last event of the site
abbrev pushed : Network → ℕ → List Push
pushed w s = map (λ p. p.1) (w.at (site s)).pushes

-- the ABCASTs that it delivered of a view of group 1
abbrev delivered_abcasts : Network → ℕ → ℕ → List Uid
delivered_abcasts w s view = abcasts_in w (proc s 1) (group 1) view

-- Who passes a view and who is within one, by the places of their entries

unfoldable pub is_leaving : Act → Bool
is_leaving (Sends m) = false
is_leaving (Delivered m) = false
is_leaving (Entered g view cut) = false
is_leaving (Left g) = true

pub never_left : (g : GroupNo) (acts : List Act) → list_any is_leaving acts ≡ false → NeverLeft g acts
unfolding is_leaving
never_left g acts none at = true≢false (sym (member_any is_leaving acts (Left g) at refl) ∙ none)

-- what stands behind a place
abbrev pub behind : ℕ → List Act → List Act
behind n [] = []
behind zero (x ∷ acts) = acts
behind (suc n) (x ∷ acts) = behind n acts

pub split_at : (acts : List Act) (n : ℕ) (x : Act) → slice_get acts n ≡ Some x → (a : List Act) × (acts ≡ a ++ x ∷ behind n acts)
split_at [] n x e = absurd (false≢true (ap is_some e))
split_at (y ∷ acts) zero x e = ([], ap (λ z. z ∷ acts) (ap (λ o. unwrap_or o y) e))
split_at (y ∷ acts) (suc n) x e = let rest = split_at acts n x e in (y ∷ rest.0, ap (λ l. y ∷ l) rest.1)

pub passes_at : (w : Network) (p : Proc) (g : GroupNo) (view : ℕ) (before cut : CountList) (n k : ℕ) →
    slice_get (acts_of w p) n ≡ Some (Entered g view before) → slice_get (behind n (acts_of w p)) k ≡ Some (Entered g (view + 1) cut) →
    list_any is_leaving (acts_of w p) ≡ false → Passes w p g view
passes_at w p g view before cut n k first second none =
    let one = split_at (acts_of w p) n (Entered g view before) first in
    let two = split_at (behind n (acts_of w p)) k (Entered g (view + 1) cut) second in
    let is : acts_of w p ≡ (one.0 ++ Entered g view before ∷ two.0) ++ Entered g (view + 1) cut ∷ behind k (behind n (acts_of w p)) =
    one.1 ∙ ap (λ l. one.0 ++ Entered g view before ∷ l) two.1 ∙ sym (append_assoc one.0 (Entered g view before ∷ two.0) (Entered g (view + 1) cut ∷ behind k (behind n (acts_of w p)))) in (
      before,
      cut,
      one.0,
      two.0,
      behind k (behind n (acts_of w p)),
      is,
      λ at. never_left g (acts_of w p) none (subst (λ l. Contains l (Left g)) (sym is)
          (Contains-append_left (one.0 ++ Entered g view before ∷ two.0) (Entered g (view + 1) cut ∷ behind k (behind n (acts_of w p))) (Left g)
          (Contains-append_right one.0 (Entered g view before ∷ two.0) (Left g) (contains_more (Entered g view before) two.0 (Left g) at)))),
    )

within_at : (w : Network) (p : Proc) (g : GroupNo) (view : ℕ) (cut : CountList) (n : ℕ) → slice_get (acts_of w p) n ≡ Some (Entered g view cut) →
    list_any is_leaving (behind n (acts_of w p)) ≡ false → ((w.at p.site).group g).number ≡ view → is_pending ((w.at p.site).group g) ≡ false → IsWithin w p g view
within_at w p g view cut n entered none current waits =
    let one = split_at (acts_of w p) n (Entered g view cut) entered in
    record { entered = (cut, one.0, behind n (acts_of w p), one.1, never_left g (behind n (acts_of w p)) none); current = current; waits = waits }

-- Two sites in views of two groups: what comes before a message of one group may be of the other

-- 1.1 and 2.1 are in both groups
unfoldable pub both : Network
both =
    let sites : List SiteNo = site 1 ∷ site 2 ∷ [] in
    through (through (through (begun sites (group 1 ∷ group 2 ∷ [])) (opens 1 ∷ joins 1 1 ∷ joins 1 2 ∷ [])) (opens 2 ∷ joins 2 1 ∷ [])) (joins 2 2 ∷ [])

-- 2.1 casts x in group 1 and y in group 2; y comes first
crossed : Network
unfolding both
crossed = let n : ℕ = length both.sent in leads_in 3 both (casts 2 1 ∷ casts 2 2 ∷ hand 1 (n + 1) ∷ hand 1 n ∷ [])

crossed_waits : delivered (leads_in 3 both (casts 2 1 ∷ casts 2 2 ∷ hand 1 (length both.sent + 1) ∷ [])) 1 ≡ []
unfolding both
crossed_waits = refl

crossed_delivered : delivered crossed 1 ≡ uid 1 2 (proc 2 1) 1 ∷ uid 2 2 (proc 2 1) 1 ∷ []
unfolding crossed both
crossed_delivered = refl

-- Three sites in two groups: what a sender delivered comes before what it sends

-- 1.1, 2.1 and 3.1 are in group 1, and the last two in group 2
unfoldable pub trio : Network
trio =
    let sites : List SiteNo = site 1 ∷ site 2 ∷ site 3 ∷ [] in
    let first : Network = through (begun sites (group 1 ∷ group 2 ∷ [])) (opens 1 ∷ joins 1 1 ∷ []) in
    let second : Network = through (through first (opens 2 ∷ joins 2 1 ∷ [])) (joins 2 2 ∷ []) in
    through (through second (opens 3 ∷ joins 3 1 ∷ [])) (joins 3 2 ∷ [])

-- 1.1 casts x in group 1; 2.1 delivers it and casts y in group 2; y comes to 3.1 first, and waits for x
relayed_waits : delivered (leads_in 3 trio (casts 1 1 ∷ hand 2 (length trio.sent) ∷ casts 2 2 ∷ hand 3 (length trio.sent + 3) ∷ [])) 3 ≡ []
unfolding trio
relayed_waits = refl

-- Three sites in one view of group 1

unfoldable pub three : Network
three =
    let sites : List SiteNo = site 1 ∷ site 2 ∷ site 3 ∷ [] in
    through (through (through (begun sites (group 1 ∷ [])) (opens 1 ∷ joins 1 1 ∷ [])) (opens 2 ∷ joins 2 1 ∷ [])) (opens 3 ∷ joins 3 1 ∷ [])

three_view : ((three.at (site 3)).group (group 1)).number ≡ 3
unfolding three
three_view = refl

-- site 3 casts x, which reaches site 2 alone, and z, which reaches site 1 alone, and is suspected
suspected : Network
unfolding three
suspected =
    let n : ℕ = length three.sent in
    drained 60 (n + 4) (leads_in 3 three (casts 3 1 ∷ casts 3 1 ∷ hand 2 (n + 1) ∷ hand 1 (n + 2) ∷ suspects 1 3 ∷ []))

-- x belongs to the view that ends, and z does not, at each site that passes to the next view
suspected_delivered : delivered suspected 1 ≡ uid 1 3 (proc 3 1) 1 ∷ []
unfolding suspected three
suspected_delivered = refl

suspected_delivered_there : delivered suspected 2 ≡ uid 1 3 (proc 3 1) 1 ∷ []
unfolding suspected three
suspected_delivered_there = refl

suspected_passes : Passes suspected (proc 1 1) (group 1) 3
unfolding suspected three is_leaving
suspected_passes = passes_at suspected (proc 1 1) (group 1) 3 [] ((proc 3 1, 1) ∷ []) 2 1 refl refl refl

suspected_passes_there : Passes suspected (proc 2 1) (group 1) 3
unfolding suspected three is_leaving
suspected_passes_there = passes_at suspected (proc 2 1) (group 1) 3 [] ((proc 3 1, 1) ∷ []) 1 1 refl refl refl

suspected_view : ((suspected.at (site 2)).group (group 1)).number ≡ 4
unfolding suspected three
suspected_view = refl

-- The holder of a view is lost once it told the order, before who cast an ABCAST knows it

-- 2.1 holds the order of the view of all three
held : Network
held =
    let sites : List SiteNo = site 1 ∷ site 2 ∷ site 3 ∷ [] in
    through (through (through (begun sites (group 1 ∷ [])) (opens 2 ∷ joins 2 1 ∷ [])) (opens 1 ∷ joins 1 1 ∷ [])) (opens 3 ∷ joins 3 1 ∷ [])

-- 1.1 casts x and 3.1 casts y. Both come to site 2, y first, so 2.1 delivers y before x. It tells so to sites 1 and 3, and only site 3 hears it;
-- x does not come there
told : Network
unfolding held known_order
told =
    let n : ℕ = length held.sent in
    leads_in 3 held (abcasts 1 1 ∷ abcasts 3 1 ∷ hand 2 (n + 3) ∷ hand 2 n ∷ hand 3 (n + 6) ∷ hand 3 (n + 9) ∷ [])

-- what each delivered is a prefix of what the next one did
told_delivered : delivered_abcasts told 1 3 ≡ []
unfolding told held known_order
told_delivered = refl

told_delivered_to_site_3 : delivered_abcasts told 3 3 ≡ uid 1 3 (proc 3 1) 1 ∷ []
unfolding told held known_order
told_delivered_to_site_3 = refl

told_delivered_to_holder : delivered_abcasts told 2 3 ≡ uid 1 3 (proc 3 1) 1 ∷ uid 1 3 (proc 1 1) 1 ∷ []
unfolding told held known_order
told_delivered_to_holder = refl

told_within : IsWithin told (proc 1 1) (group 1) 3
unfolding told held known_order is_leaving
told_within = within_at told (proc 1 1) (group 1) 3 [] 1 refl refl refl refl

told_within_site_3 : IsWithin told (proc 3 1) (group 1) 3
unfolding told held known_order is_leaving
told_within_site_3 = within_at told (proc 3 1) (group 1) 3 [] 0 refl refl refl refl

-- then site 2 makes no step any more, and is suspected
lost : Network
unfolding told held known_order
lost = through told (suspects 1 2 ∷ [])

-- 1.1, which had x first, delivers y before it too
lost_delivered : delivered lost 1 ≡ uid 1 3 (proc 3 1) 1 ∷ uid 1 3 (proc 1 1) 1 ∷ uid 1 3 (proc 2 1) 1 ∷ []
unfolding lost told held known_order
lost_delivered = refl

lost_delivered_there : delivered lost 3 ≡ uid 1 3 (proc 3 1) 1 ∷ uid 1 3 (proc 2 1) 1 ∷ uid 1 3 (proc 1 1) 1 ∷ []
unfolding lost told held known_order
lost_delivered_there = refl

lost_order : delivered_abcasts lost 1 3 ≡ uid 1 3 (proc 3 1) 1 ∷ uid 1 3 (proc 1 1) 1 ∷ []
unfolding lost told held known_order
lost_order = refl

lost_order_there : delivered_abcasts lost 3 3 ≡ uid 1 3 (proc 3 1) 1 ∷ uid 1 3 (proc 1 1) 1 ∷ []
unfolding lost told held known_order
lost_order_there = refl

lost_passes : Passes lost (proc 1 1) (group 1) 3
unfolding lost told held known_order is_leaving
lost_passes = passes_at lost (proc 1 1) (group 1) 3 [] ((proc 1 1, 1) ∷ (proc 2 1, 1) ∷ (proc 3 1, 1) ∷ []) 1 4 refl refl refl

lost_passes_there : Passes lost (proc 3 1) (group 1) 3
unfolding lost told held known_order is_leaving
lost_passes_there = passes_at lost (proc 3 1) (group 1) 3 [] ((proc 1 1, 1) ∷ (proc 2 1, 1) ∷ (proc 3 1, 1) ∷ []) 0 4 refl refl refl

-- The token is handed over

-- 1.1 and 2.1 are in a view, and 1.1 has its token
two : Network
two =
    let sites : List SiteNo = site 1 ∷ site 2 ∷ [] in
    through (through (begun sites (group 1 ∷ [])) (opens 1 ∷ joins 1 1 ∷ [])) (opens 2 ∷ joins 2 1 ∷ [])

two_holds : holds (two.at (site 1)) (group 1) 1 ≡ true
unfolding known_order two
two_holds = refl

two_holds_not : holds (two.at (site 2)) (group 1) 1 ≡ false
unfolding known_order two
two_holds_not = refl

-- 1.1 hands it over to 2.1, and has it no more
given : Network
unfolding known_order two
given = leads_in 3 two (passes 1 1 (proc 2 1) ∷ [])

given_holds_not : holds (given.at (site 1)) (group 1) 1 ≡ false
unfolding known_order given two
given_holds_not = refl

given_holds_not_there : holds (given.at (site 2)) (group 1) 1 ≡ false
unfolding known_order given two
given_holds_not_there = refl

given_told : pushed given 1 ≡ push.Reply 9 None ∷ []
unfolding known_order given two
given_told = refl

given_again : pushed (leads_in 3 given (passes 1 1 (proc 2 1) ∷ [])) 1 ≡ push.Reply 9 (Some NotHolder) ∷ []
unfolding known_order given two
given_again = refl

-- nor does it order its own ABCAST, and while that waits it cannot hand over anything
waiting : Network
unfolding known_order given two
waiting = leads_in 3 given (abcasts 1 1 ∷ [])

waiting_told : pushed waiting 1 ≡ push.Reply 8 None ∷ []
unfolding known_order waiting given two
waiting_told = refl

waiting_delivered : delivered waiting 1 ≡ uid 1 2 (proc 1 1) 1 ∷ []
unfolding known_order waiting given two
waiting_delivered = refl

waiting_again : pushed (leads_in 3 waiting (passes 1 1 (proc 2 1) ∷ [])) 1 ≡ push.Reply 9 (Some OwnAbcast) ∷ []
unfolding known_order waiting given two
waiting_again = refl

-- 2.1 takes the token up, and orders that ABCAST; 1.1 delivers it once it hears so
ordered : Network
unfolding known_order waiting given two
ordered = let n : ℕ = length two.sent in leads_in 3 waiting (hand 2 n ∷ hand 2 (n + 1) ∷ hand 1 (n + 4) ∷ [])

ordered_delivered : delivered ordered 1 ≡ uid 1 2 (proc 1 1) 1 ∷ uid 1 2 (proc 1 1) 2 ∷ uid 1 2 (proc 2 1) 1 ∷ []
unfolding known_order ordered waiting given two
ordered_delivered = refl

ordered_there : delivered ordered 2 ≡ uid 1 2 (proc 1 1) 1 ∷ uid 1 2 (proc 1 1) 2 ∷ uid 1 2 (proc 2 1) 1 ∷ []
unfolding known_order ordered waiting given two
ordered_there = refl

ordered_told : pushed ordered 1 ≡ push.Deliver (uid 1 2 (proc 1 1) 2) kind.Atomic [] ∷ []
unfolding known_order ordered waiting given two
ordered_told = refl

-- 2.1 has no token before it delivers the hand-over, and orders its own ABCAST after
taken_before : pushed (leads_in 3 two (passes 2 1 (proc 1 1) ∷ [])) 2 ≡ push.Reply 9 (Some NotHolder) ∷ []
unfolding known_order two
taken_before = refl

taken : Network
unfolding known_order given two
taken = leads_in 3 given (hand 2 (length two.sent) ∷ abcasts 2 1 ∷ [])

taken_holds : holds (taken.at (site 2)) (group 1) 1 ≡ true
unfolding known_order taken given two
taken_holds = refl

taken_holds_not : holds (taken.at (site 1)) (group 1) 1 ≡ false
unfolding known_order taken given two
taken_holds_not = refl

taken_told : pushed taken 2 ≡ push.Reply 8 None ∷ push.Deliver (uid 1 2 (proc 2 1) 1) kind.Atomic [] ∷ []
unfolding known_order taken given two
taken_told = refl

taken_delivered : delivered taken 2 ≡ uid 1 2 (proc 1 1) 1 ∷ uid 1 2 (proc 2 1) 1 ∷ uid 1 2 (proc 2 1) 2 ∷ []
unfolding known_order taken given two
taken_delivered = refl

-- both are within the view: 1.1 has delivered a prefix of what 2.1 did, as it has not heard of the order
taken_within : IsWithin taken (proc 1 1) (group 1) 2
unfolding known_order taken given two is_leaving
taken_within = within_at taken (proc 1 1) (group 1) 2 [] 1 refl refl refl refl

taken_within_site_2 : IsWithin taken (proc 2 1) (group 1) 2
unfolding known_order taken given two is_leaving
taken_within_site_2 = within_at taken (proc 2 1) (group 1) 2 [] 0 refl refl refl refl

-- 1.1 hands the token over to 2.1, which orders its ABCAST; site 1 has that and not its place, and the flush of the view brings it
handed : Network
unfolding known_order three
handed =
    let n : ℕ = length three.sent in
    drained 60 (n + 7) (leads_in 3 three (passes 1 1 (proc 2 1) ∷ hand 2 n ∷ abcasts 2 1 ∷ hand 1 (n + 3) ∷ suspects 1 3 ∷ []))

handed_delivered : delivered handed 1 ≡ uid 1 3 (proc 1 1) 1 ∷ uid 1 3 (proc 2 1) 1 ∷ uid 1 3 (proc 2 1) 2 ∷ []
unfolding known_order handed three
handed_delivered = refl

handed_delivered_there : delivered handed 2 ≡ uid 1 3 (proc 1 1) 1 ∷ uid 1 3 (proc 2 1) 1 ∷ uid 1 3 (proc 2 1) 2 ∷ []
unfolding known_order handed three
handed_delivered_there = refl

-- a frame by which the home wants a message
is_want : Uid → Packet → Bool
is_want u p = go p.frame
  where
    go : SiteFrame → Bool
    go (frame.Want v) = uid_eq u v
    go _ = false

-- an Install of view 4
is_fourth : Packet → Bool
is_fourth p = go p.frame
  where
    go : SiteFrame → Bool
    go (frame.Install g n members request cut tail) = n == 4
    go _ = false

-- the home wants the order from site 2, and ends the view with it
handed_wanted : list_any (is_want (uid 1 3 (proc 2 1) 2)) handed.sent ≡ true
unfolding known_order handed three is_want
handed_wanted = refl

handed_installed : find is_fourth handed.sent ≡
    Some record { from = site 1; to = site 1; frame = frame.Install (group 1) 4 (record { list = proc 1 1 ∷ proc 2 1 ∷ []; holder = Some (proc 1 1) }) 1 ((proc 1 1, 1) ∷ (proc 2 1, 2) ∷ []) (record { start = 0; ids = (proc 2 1, 1) ∷ [] }) }
unfolding known_order handed three is_fourth
handed_installed = refl

handed_order : delivered_abcasts handed 1 3 ≡ uid 1 3 (proc 2 1) 1 ∷ []
unfolding known_order handed three
handed_order = refl

handed_order_there : delivered_abcasts handed 2 3 ≡ uid 1 3 (proc 2 1) 1 ∷ []
unfolding known_order handed three
handed_order_there = refl

handed_passes : Passes handed (proc 1 1) (group 1) 3
unfolding known_order handed three is_leaving
handed_passes = passes_at handed (proc 1 1) (group 1) 3 [] ((proc 1 1, 1) ∷ (proc 2 1, 2) ∷ []) 2 4 refl refl refl

handed_passes_there : Passes handed (proc 2 1) (group 1) 3
unfolding known_order handed three is_leaving
handed_passes_there = passes_at handed (proc 2 1) (group 1) 3 [] ((proc 1 1, 1) ∷ (proc 2 1, 2) ∷ []) 1 5 refl refl refl

-- A joining process does not deliver past the view that it will enter

-- 1.1 is in group 1 alone, and 1.1 and 3.1 are in group 2
unfoldable pub pair : Network
pair =
    let sites : List SiteNo = site 1 ∷ site 3 ∷ [] in
    through (through (through (begun sites (group 1 ∷ group 2 ∷ [])) (opens 1 ∷ joins 1 1 ∷ [])) (joins 1 2 ∷ [])) (opens 3 ∷ joins 3 2 ∷ [])

-- 3.1 asks to join group 1; 1.1 is in the new view before 3.1 is told, and casts x in group 1 and y in group 2; y comes first
joined : Network
unfolding pair
joined =
    let n : ℕ = length pair.sent in
    leads_in 3 pair
    (joins 3 1 ∷ hand 1 n ∷ hand 1 (n + 2) ∷ hand 1 (n + 3) ∷ hand 1 (n + 4)
    ∷ casts 1 1 ∷ casts 1 2 ∷ hand 3 (n + 8) ∷ hand 3 (n + 7) ∷ hand 3 (n + 5) ∷ hand 3 (n + 7) ∷ [])

joined_delivered : delivered joined 3 ≡ uid 1 2 (proc 1 1) 1 ∷ uid 2 2 (proc 1 1) 1 ∷ []
unfolding joined pair
joined_delivered = refl
