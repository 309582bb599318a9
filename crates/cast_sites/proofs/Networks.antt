-- What a network of daemons has of one domain goes on being a network of the domain.
use Rattle.std.proofs.Common.{◌≡◌, ℕ, Bool, true, false, ◌&&◌, List, [], ◌∷◌, ◌++◌, map, Option, Some, None, Result, is_some}
use Rattle.std.proofs.Common.{refl, sym, ap, subst, ◌∙◌, inl, inr, append_assoc}
use Rattle.std.specs.Prelude.{◌==◌, if◌then◌else◌, filter, slice_get}
use Rattle.std.specs.List.{AllByRecursion}
use Rattle.std.proofs.lemmas.Bool.{false≢true, and_from}
use Rattle.std.proofs.lemmas.List.{append-nil, map-append}
use Rattle.std.proofs.lemmas.List.Elements.{filter-append}
use Rattle.cast_types.specs.Names.{site_eq}
use Rattle.cast_types.specs.Sets.{is_among, set_at}
use Rattle.cast_types.specs.declared.names.DomainNo.{DomainNo}
use Rattle.cast_types.specs.declared.names.Proc.{Proc}
use Rattle.cast_types.specs.declared.names.SiteNo.{SiteNo}
use Rattle.cast_types.proofs.Orders.{same_site}
use Rattle.cast_message.specs.declared.client.Push.{Push}
use Rattle.cast_message.specs.declared.site.SiteFrame.{SiteFrame}
use Rattle.cast_events.specs.Outs.{no_outs}
use Rattle.cast_events.specs.declared.event.Event.{Event}
use Rattle.cast_events.specs.declared.event.Outs.{Outs}
use Rattle.cast_events.specs.declared.event.Taken.{Taken}
use Rattle.cast_events.specs.declared.event.Event.TheVariants as event
use Rattle.cast_events.specs.declared.log.Fault.{Fault}
use Rattle.cast_rules.specs.Run.{entries_for}
use Rattle.cast_rules.specs.State.{State}
use Rattle.cast_domain.specs.Fits.{Represents}
use Rattle.cast_domain.specs.Records.{is_halted, number_of}
use Rattle.cast_domain.specs.Shared.{part_of}
use Rattle.cast_domain.specs.declared.domain.Domain.{Domain}
use Rattle.cast_table.specs.Owns.{is_own}
use Rattle.cast_table.specs.Shows.{domain_at}
use Rattle.cast_table.specs.Tables.{Lent, domain_eq, domains_of, lent_of, shared_of}
use Rattle.cast_table.specs.declared.table.Table.{Table}
use Rattle.cast_table.proofs.Numbers.{applied_numbers}
use Rattle.cast_table.proofs.Parts.{same_domain}
use Rattle.cast_table.proofs.Places.{none_some, same_some}
use Rattle.cast_world.proofs.Keeps.{found_is}
use Rattle.cast_world.specs.Network.{Becomes, Happens, Network, event_at, event_of, hand_frame, is_local, move_site, names}
use Rattle.cast_world.specs.Pushed.{Tells, pushed_by}
use Rattle.cast_world.specs.declared.step.Happening.{Happening}
use Rattle.cast_world.specs.declared.step.Happening.TheVariants.{Local, Sent}
use Rattle.cast_world.specs.declared.step.Packet.{Packet}
use Rattle.cast_world.specs.declared.step.Step.{Step}
use Rattle.cast_sites.specs.Daemons.{DaemonNetwork, IsAnswered, TakesEvent, TakesStep, TakesSteps, event_coming, hand_tagged}
use Rattle.cast_sites.specs.Daemons.{in_domain, move_daemon, paired}
use Rattle.cast_sites.specs.Laws.{RunsAt, pushed_in}
use Rattle.cast_sites.proofs.Tagged.{given_in, given_mapped, in_more, in_place}
use Rattle.cast_sites.proofs.Turns.{Goes, Moves, Stands, Stepped}
use Rattle.cast_sites.proofs.Events.{Alike, AllMove, AreApart, all_stand, applied_moves, found_alike, none_found, numbers_in}

-- Runs that are told, one after the other

pub tells_alike : (w v : Network) (steps : List Step) (pushed told : Proc → List Push) → ((p : Proc) → told p ≡ pushed p) →
    Tells w steps pushed v → Tells w steps told v
tells_alike w v [] pushed told same (is, none) = (is, λ p. same p ∙ none p)
tells_alike w v (step ∷ steps) pushed told same (x, rest, happens, tells, are) = (x, rest, happens, tells, λ p. same p ∙ are p)

pub tells_both : (w u v : Network) (steps others : List Step) (pushed more : Proc → List Push) → Tells w steps pushed u →
    Tells u others more v → Tells w (steps ++ others) (λ p. pushed p ++ more p) v
tells_both w u v [] others pushed more (same, none) later =
    tells_alike w v others more (λ p. pushed p ++ more p) (λ p. ap (λ (front : List Push). front ++ more p) (none p))
    (subst (λ (x : Network). Tells x others more v) same later)
tells_both w u v (step ∷ steps) others pushed more (x, rest, happens, tells, are) later = (
  x,
  (λ p. rest p ++ more p),
  happens,
  tells_both x u v steps others rest more tells later,
  λ p. ap (λ (front : List Push). front ++ more p) (are p) ∙ append_assoc (pushed_by w step x p) (rest p) (more p),
)

pub all_both : {X : Type 0} (P : X → Type 0) (xs ys : List X) → AllByRecursion P xs → AllByRecursion P ys → AllByRecursion P (xs ++ ys)
all_both P [] ys all others = others
all_both P (x ∷ xs) ys all others = (all.0, all_both P xs ys all.1 others)

pub all_weaker : {X : Type 0} (P Q : X → Type 0) (xs : List X) → ((x : X) → P x → Q x) → AllByRecursion P xs → AllByRecursion Q xs
all_weaker P Q [] so all = tt
all_weaker P Q (x ∷ xs) so all = (so x all.0, all_weaker P Q xs so all.1)

-- what one site has, beside the history at that site in the network of the domain
pub record SiteJoins (d : DomainNo) (among : List SiteNo) (s : SiteNo) (table : Table) (t : State) : Type 0 where
  pub apart : AreApart (numbers_in (domains_of table))
  pub all : AllByRecursion (Stands (shared_of table)) (domains_of table)
  pub serves : (x : Domain) → domain_at d table ≡ Some x → is_among site_eq s among ≡ true
  pub means : (x : Domain) → domain_at d table ≡ Some x → is_halted x ≡ false → Represents x (part_of d (shared_of table)) t

pub record Joins (d : DomainNo) (n : DaemonNetwork) (w : Network) : Type 0 where
  pub sent : w.sent ≡ in_domain d n.sent
  pub sites : (s : SiteNo) → is_among site_eq s n.sites ≡ true → SiteJoins d w.sites s (n.at s) (w.at s)

-- the network of the domain goes on as the daemons do, by steps at sites where the domain runs
pub record Follows (d : DomainNo) (n : DaemonNetwork) (m : DaemonNetwork) (w : Network) : Type 0 where
  pub own : List Step
  pub more : Proc → List Push
  pub end : Network
  pub tells : Tells w own more end
  pub joins : Joins d m end
  pub pushed : (p : Proc) → pushed_in d m p ≡ pushed_in d n p ++ more p
  pub ran : (s : SiteNo) → RunsAt d m s → RunsAt d n s
  pub running : AllByRecursion (λ step. RunsAt d n step.site) own

follows_same : (d : DomainNo) (n : DaemonNetwork) (w : Network) → Joins d n w → Follows d n n w
follows_same d n w joins =
    record {
      own = [];
      more = λ p. [];
      end = w;
      tells = (refl, λ p. refl);
      joins = joins;
      pushed = λ p. sym (append-nil (pushed_in d n p));
      ran = λ s runs. runs;
      running = tt;
    }

abbrev pub follows_both : (d : DomainNo) (n u m : DaemonNetwork) (w : Network) (first : Follows d n u w) → Follows d u m first.end →
    Follows d n m w
follows_both d n u m w first later =
    record {
      own = first.own ++ later.own;
      more = λ p. first.more p ++ later.more p;
      end = later.end;
      tells = tells_both w first.end later.end first.own later.own first.more later.more first.tells later.tells;
      joins = later.joins;
      pushed = λ p.
          later.pushed p
          ∙ ap (λ (front : List Push). front ++ later.more p) (first.pushed p)
          ∙ append_assoc (pushed_in d n p) (first.more p) (later.more p);
      ran = λ s runs. first.ran s (later.ran s runs);
      running = all_both (λ (step : Step). RunsAt d n step.site) first.own later.own first.running
          (all_weaker (λ (step : Step). RunsAt d u step.site) (λ (step : Step). RunsAt d n step.site) later.own
          (λ step runs. first.ran step.site runs) later.running);
    }

-- An event at a site

-- where the table of one site changes, what holds of that site's and of all others' holds of all
moved_all : {X : Type 0} (P : SiteNo → X → Type 0) (f : SiteNo → X) (a : SiteNo) (x : X) → P a x → ((s : SiteNo) → P s (f s)) →
    (s : SiteNo) → P s (set_at site_eq f a x s)
moved_all {X} P f a x here others s = go (site_eq a s) refl
  where
    go : (b : Bool) → site_eq a s ≡ b → P s (if b then x else f s)
    go true is = subst (λ (z : SiteNo). P z x) (same_site a s is) here
    go false is = others s

moved_both : {X Y : Type 0} (P : SiteNo → X → Y → Type 0) (f : SiteNo → X) (g : SiteNo → Y) (a : SiteNo) (x : X) (y : Y) → P a x y →
    ((s : SiteNo) → P s (f s) (g s)) → (s : SiteNo) → P s (set_at site_eq f a x s) (set_at site_eq g a y s)
moved_both {X} {Y} P f g a x y here others s = go (site_eq a s) refl
  where
    go : (b : Bool) → site_eq a s ≡ b → P s (if b then x else f s) (if b then y else g s)
    go true is = subst (λ (z : SiteNo). P z x y) (same_site a s is) here
    go false is = others s

entries_more : (d : DomainNo) (k : ℕ) (xs ys : List (DomainNo × (ℕ × Push))) →
    entries_for (in_domain d (xs ++ ys)) k ≡ entries_for (in_domain d xs) k ++ entries_for (in_domain d ys) k
entries_more d k xs ys =
    ap (λ (zs : List (ℕ × Push)). entries_for zs k) (in_more d xs ys)
    ∙ ap (map (λ (z : ℕ × Push). z.1)) (filter-append (λ (z : ℕ × Push). z.0 == k) (in_domain d xs) (in_domain d ys))
    ∙ map-append (λ (z : ℕ × Push). z.1) (filter (λ (z : ℕ × Push). z.0 == k) (in_domain d xs))
    (filter (λ (z : ℕ × Push). z.0 == k) (in_domain d ys))

abbrev packet_from : SiteNo → SiteNo × SiteFrame → Packet
packet_from s f = record { from = s; to = f.0; frame = f.1 }

module _ (d : DomainNo) (n : DaemonNetwork) (w : Network) (joins : Joins d n w) (a : SiteNo) (among : is_among site_eq a n.sites ≡ true)
    (e : Event) (answer : Result Taken Fault) (table : Table) (outs : Outs) (answered : IsAnswered answer e (n.at a) table outs) where
  abbrev olds : List Domain
  olds = domains_of (n.at a)

  abbrev news : List Domain
  news = domains_of table

  abbrev before : Lent
  before = lent_of (n.at a) no_outs

  abbrev after : Lent
  after = lent_of table outs

  abbrev later : DaemonNetwork
  later = move_daemon n a table outs

  here : SiteJoins d w.sites a (n.at a) (w.at a)
  here = joins.sites a among

  all_move : AllMove e olds news before after
  all_move = applied_moves e olds news before after here.apart here.all answer answered.applied

  alike : Alike e before after (domain_at d (n.at a)) (domain_at d table)
  alike = found_alike e before after d olds news all_move.moves

  -- a domain that is there was there before, and one that runs ran before

  was_there : (o p : Option Domain) → Alike e before after o p → (x : Domain) → p ≡ Some x → (y : Domain) × (o ≡ Some y)
  was_there None None moves x is = absurd (none_some x is)
  was_there None (Some z) moves x is = absurd moves
  was_there (Some y) None moves x is = absurd moves
  was_there (Some y) (Some z) moves x is = (y, refl)

  move_ran : (y z : Domain) → Moves e before after y z → is_halted z ≡ false → is_halted y ≡ false
  move_ran y z (inl stays) runs = subst (λ (x : Domain). is_halted x ≡ false) stays.same runs
  move_ran y z (inr (inl stops)) runs = absurd (false≢true (sym runs ∙ stops.stops))
  move_ran y z (inr (inr goes)) runs = goes.ran

  did_run : (o p : Option Domain) → Alike e before after o p → (x : Domain) → p ≡ Some x → is_halted x ≡ false →
      (y : Domain) × (o ≡ Some y) × (is_halted y ≡ false)
  did_run None None moves x is runs = absurd (none_some x is)
  did_run None (Some z) moves x is runs = absurd moves
  did_run (Some y) None moves x is runs = absurd moves
  did_run (Some y) (Some z) moves x is runs =
      (y, refl, move_ran y z moves (subst (λ (v : Domain). is_halted v ≡ false) (sym (same_some z x is)) runs))

  abbrev Ran : SiteNo → Table → Type 0
  Ran s t = (x : Domain) → domain_at d t ≡ Some x → is_halted x ≡ false → is_among site_eq s n.sites ≡ true → RunsAt d n s

  ran_here : Ran a table
  ran_here x stands runs at =
      let was = did_run (domain_at d (n.at a)) (domain_at d table) alike x stands runs in
      record { among = at; domain = was.0; stands = was.1; runs = was.2 }

  ran_there : (s : SiteNo) → Ran s (n.at s)
  ran_there s x stands runs at = record { among = at; domain = x; stands = stands; runs = runs }

  ran_before : (s : SiteNo) → RunsAt d later s → RunsAt d n s
  ran_before s runs = moved_all Ran n.at a table ran_here ran_there s runs.domain runs.stands runs.runs runs.among

  -- what the site has then, where the domain stands for this history
  site_after : (t : State) → ((x : Domain) → domain_at d table ≡ Some x → is_halted x ≡ false →
      Represents x (part_of d (shared_of table)) t) → SiteJoins d w.sites a table t
  site_after t means =
      record {
        apart = subst AreApart (sym (applied_numbers answer e olds news before after answered.applied)) here.apart;
        all = all_stand e before after olds news all_move.moves here.all;
        serves = λ x stands.
            let was = was_there (domain_at d (n.at a)) (domain_at d table) alike x stands in
            here.serves was.0 was.1;
        means = means;
      }

  pushed_later : (p : Proc) → pushed_in d later p
      ≡ pushed_in d n p ++ (if site_eq a p.site then entries_for (given_in d outs.pushed) p.serial else [])
  pushed_later p = go (site_eq a p.site) refl
    where
      go : (b : Bool) → site_eq a p.site ≡ b →
          entries_for (in_domain d (if b then n.pushed a ++ paired outs.pushed else n.pushed p.site)) p.serial
          ≡ pushed_in d n p ++ (if b then entries_for (given_in d outs.pushed) p.serial else [])
      go true is =
          entries_more d p.serial (n.pushed a) (paired outs.pushed)
          ∙ ap (λ (s : SiteNo). entries_for (in_domain d (n.pushed s)) p.serial ++ entries_for (given_in d outs.pushed) p.serial)
          (same_site a p.site is)
      go false is = sym (append-nil (pushed_in d n p))

  sent_later : in_domain d later.sent ≡ in_domain d n.sent ++ map (packet_from a) (given_in d outs.frames)
  sent_later =
      in_more d n.sent (map (λ f. (f.0, packet_from a (f.1, f.2))) outs.frames)
      ∙ ap (λ (ps : List Packet). in_domain d n.sent ++ ps) (given_mapped (packet_from a) d outs.frames)

  -- the domain makes no step: it is not there, stays as it is, or is halted
  module _ (frames : given_in d outs.frames ≡ []) (pushes : given_in d outs.pushed ≡ []) where
    none_pushed : (p : Proc) (b : Bool) → (if b then entries_for (given_in d outs.pushed) p.serial else []) ≡ []
    none_pushed p true = ap (λ (xs : List (ℕ × Push)). entries_for xs p.serial) pushes
    none_pushed p false = refl

    quiet : ((x : Domain) → domain_at d table ≡ Some x → is_halted x ≡ false → Represents x (part_of d (shared_of table)) (w.at a)) →
        Follows d n later w
    quiet means =
        record {
          own = [];
          more = λ p. [];
          end = w;
          tells = (refl, λ p. refl);
          joins =
              record {
                sent =
                    joins.sent
                    ∙ sym (sent_later
                    ∙ ap (λ (fs : List (SiteNo × SiteFrame)). in_domain d n.sent ++ map (packet_from a) fs) frames
                    ∙ append-nil (in_domain d n.sent));
                sites = moved_all (λ s t. is_among site_eq s n.sites ≡ true → SiteJoins d w.sites s t (w.at s)) n.at a table
                    (λ serves. site_after (w.at a) means) joins.sites;
              };
          pushed = λ p. pushed_later p ∙ ap (λ (es : List Push). pushed_in d n p ++ es) (none_pushed p (site_eq a p.site));
          ran = ran_before;
          running = tt;
        }

  -- the domain makes its step
  module _ (what : Happening) (comes : event_coming n a what ≡ Some e) (old new : Domain) (stood : domain_at d (n.at a) ≡ Some old)
      (stands : domain_at d table ≡ Some new) (goes : Goes e old new before after) where
    numbered : number_of old ≡ d
    numbered = same_domain (number_of old) d (found_is (λ (x : Domain). domain_eq (number_of x) d) olds old stood).0

    meant : Represents old (part_of d (shared_of (n.at a))) (w.at a)
    meant = here.means old stood goes.ran

    made : Stepped e old new before after (w.at a)
    made = goes.leads (w.at a) (subst (λ (q : DomainNo). Represents old (part_of q (shared_of (n.at a))) (w.at a)) (sym numbered) meant)

    of_domain : (w.at a).config.domain ≡ d
    of_domain = sym (ap (λ c. c.config.domain) meant.fits.core) ∙ numbered

    own : is_own d e ≡ true
    own = subst (λ (q : DomainNo). is_own q e ≡ true) numbered goes.own

    -- the event is one of the domain's network

    local_is : (f : Event) (b : Bool) → is_local f ≡ b → (if b then Some f else None) ≡ Some e → event_at w a (Local e) ≡ Some e
    local_is f true local is =
        ap (λ b. if b then Some e else None)
        (and_from (is_local e) (names (w.at a).config.domain e) (subst (λ (x : Event). is_local x ≡ true) (same_some f e is) local)
        (subst (λ (q : DomainNo). names q e ≡ true) (sym of_domain) own))
    local_is f false local is = absurd (none_some e is)

    handed_is : (f : DomainNo × Packet) (k : ℕ) → slice_get n.sent k ≡ Some f → (b : Bool) → site_eq f.1.to a ≡ b →
        (if b then Some (event.Frame f.0 f.1.from f.1.frame) else None) ≡ Some e →
        (mine : Happening) × (event_at w a mine ≡ Some e)
    handed_is f k at true to is =
        let same : event.Frame f.0 f.1.from f.1.frame ≡ e = same_some (event.Frame f.0 f.1.from f.1.frame) e is in
        let its : domain_eq f.0 d ≡ true = subst (λ (x : Event). is_own d x ≡ true) (sym same) own in
        let place = in_place d f.0 f.1 n.sent k its at in
        let named : (w.at a).config.domain ≡ f.0 = of_domain ∙ sym (same_domain f.0 d its) in (
          Sent place.0,
          ap (λ (ps : List Packet). hand_frame (w.at a).config.domain a (slice_get ps place.0)) joins.sent
              ∙ ap (hand_frame (w.at a).config.domain a) place.1
              ∙ ap (λ b. if b then Some (event.Frame (w.at a).config.domain f.1.from f.1.frame) else None) to
              ∙ ap (λ (q : DomainNo). Some (event.Frame q f.1.from f.1.frame)) named
              ∙ is,
        )
    handed_is f k at false to is = absurd (none_some e is)

    sent_is : (k : ℕ) (o : Option (DomainNo × Packet)) → slice_get n.sent k ≡ o → hand_tagged a o ≡ Some e →
        (mine : Happening) × (event_at w a mine ≡ Some e)
    sent_is k None at is = absurd (none_some e is)
    sent_is k (Some f) at is = handed_is f k at (site_eq f.1.to a) refl is

    its_event : (happening : Happening) → event_coming n a happening ≡ Some e → (mine : Happening) × (event_at w a mine ≡ Some e)
    its_event (Local f) is = (Local e, local_is f (is_local f) refl is)
    its_event (Sent k) is = sent_is k (slice_get n.sent k) refl is

    abbrev mine : Step
    mine = record { site = a; what = (its_event what comes).0 }

    mine_is : event_of w mine ≡ Some e
    mine_is =
        ap (λ b. if b then event_at w a (its_event what comes).0 else None) (here.serves old stood) ∙ (its_event what comes).1

    abbrev next : Network
    next = move_site w a made.end

    happens : Happens w mine next
    happens = subst (λ (o : Option Event). Becomes w a o next) (sym mine_is) (made.answer, made.end, made.steps, refl)

    -- what it sends and pushes

    frames : given_in d outs.frames ≡ made.end.frames
    frames = subst (λ (q : DomainNo). given_in q outs.frames ≡ made.end.frames) numbered made.frames

    pushes : given_in d outs.pushed ≡ made.end.pushes
    pushes = subst (λ (q : DomainNo). given_in q outs.pushed ≡ made.end.pushes) numbered made.pushes

    told : (p : Proc) → pushed_by w mine next p ≡ (if site_eq a p.site then entries_for (given_in d outs.pushed) p.serial else [])
    told p =
        ap (λ (o : Option Event). if is_some o && site_eq a p.site then entries_for (next.at p.site).pushes p.serial else []) mine_is
        ∙ go (site_eq a p.site)
      where
        go : (b : Bool) → (if b then entries_for (if b then made.end else w.at p.site).pushes p.serial else [])
            ≡ (if b then entries_for (given_in d outs.pushed) p.serial else [])
        go true = ap (λ (xs : List (ℕ × Push)). entries_for xs p.serial) (sym pushes)
        go false = refl

    sent_next : next.sent ≡ in_domain d later.sent
    sent_next =
        ap (λ (ps : List Packet). ps ++ map (packet_from a) made.end.frames) joins.sent
        ∙ ap (λ (fs : List (SiteNo × SiteFrame)). in_domain d n.sent ++ map (packet_from a) fs) (sym frames)
        ∙ sym sent_later

    means_next : (x : Domain) → domain_at d table ≡ Some x → is_halted x ≡ false → Represents x (part_of d (shared_of table)) made.end
    means_next x is runs =
        subst (λ (y : Domain). Represents y (part_of d (shared_of table)) made.end) (same_some new x (sym stands ∙ is))
        (subst (λ (q : DomainNo). Represents new (part_of q (shared_of table)) made.end) numbered made.means)

    steps_on : Follows d n later w
    steps_on =
        record {
          own = mine ∷ [];
          more = pushed_by w mine next;
          end = next;
          tells = (next, (λ p. []), happens, (refl, λ p. refl), λ p. sym (append-nil (pushed_by w mine next p)));
          joins =
              record {
                sent = sent_next;
                sites = moved_both (λ s t u. is_among site_eq s n.sites ≡ true → SiteJoins d w.sites s t u) n.at w.at a table made.end
                    (λ serves. site_after made.end means_next) joins.sites;
              };
          pushed = λ p. pushed_later p ∙ ap (λ (es : List Push). pushed_in d n p ++ es) (sym (told p));
          ran = ran_before;
          running = (record { among = among; domain = old; stands = stood; runs = goes.ran }, tt);
        }

  -- one of these

  moves_on : (what : Happening) → event_coming n a what ≡ Some e → (y z : Domain) → domain_at d (n.at a) ≡ Some y →
      domain_at d table ≡ Some z → Moves e before after y z → Follows d n later w
  moves_on what comes y z was is (inl stays) =
      let numbered : number_of y ≡ d = same_domain (number_of y) d (found_is (λ (x : Domain). domain_eq (number_of x) d) olds y was).0 in
      let part : part_of d (shared_of table) ≡ part_of d (shared_of (n.at a)) =
      subst (λ (q : DomainNo). part_of q (shared_of table) ≡ part_of q (shared_of (n.at a))) numbered stays.keeps.part in
      quiet (subst (λ (q : DomainNo). given_in q outs.frames ≡ []) numbered stays.keeps.frames)
      (subst (λ (q : DomainNo). given_in q outs.pushed ≡ []) numbered stays.keeps.pushes)
      (λ x stands runs.
      let same : y ≡ x = sym stays.same ∙ same_some z x (sym is ∙ stands) in
      subst (λ p. Represents x p (w.at a)) (sym part)
      (here.means x (was ∙ ap Some same) runs))
  moves_on what comes y z was is (inr (inl stops)) =
      let numbered : number_of y ≡ d = same_domain (number_of y) d (found_is (λ (x : Domain). domain_eq (number_of x) d) olds y was).0 in
      quiet (subst (λ (q : DomainNo). given_in q outs.frames ≡ []) numbered stops.frames)
      (subst (λ (q : DomainNo). given_in q outs.pushed ≡ []) numbered stops.pushes)
      (λ x stands runs.
      absurd (false≢true (sym runs ∙ ap is_halted (sym (same_some z x (sym is ∙ stands))) ∙ stops.stops)))
  moves_on what comes y z was is (inr (inr goes)) = steps_on what comes y z was is goes

  event_follows : (what : Happening) → event_coming n a what ≡ Some e → Follows d n later w
  event_follows what comes = go (domain_at d (n.at a)) (domain_at d table) refl refl alike
    where
      go : (o p : Option Domain) → domain_at d (n.at a) ≡ o → domain_at d table ≡ p → Alike e before after o p → Follows d n later w
      go None None was is moves =
          let keeps = all_move.others d (none_found d olds was) in
          quiet keeps.frames keeps.pushes (λ x stands. absurd (none_some x (sym is ∙ stands)))
      go None (Some z) was is moves = absurd moves
      go (Some y) None was is moves = absurd moves
      go (Some y) (Some z) was is moves = moves_on what comes y z was is moves

-- Steps

module _ (d : DomainNo) where
  step_follows : (n m : DaemonNetwork) (w : Network) (step : Step) → Joins d n w → TakesStep n step m → Follows d n m w
  step_follows n m w step joins takes = go (is_among site_eq step.site n.sites) refl takes
    where
      at_site : is_among site_eq step.site n.sites ≡ true → (o : Option Event) → event_coming n step.site step.what ≡ o →
          TakesEvent n step.site o m → Follows d n m w
      at_site among None is same = subst (λ (x : DaemonNetwork). Follows d n x w) (sym same) (follows_same d n w joins)
      at_site among (Some e) is (answer, table, outs, answered, same) =
          subst (λ (x : DaemonNetwork). Follows d n x w) (sym same)
          (event_follows d n w joins step.site among e answer table outs answered step.what is)

      go : (b : Bool) → is_among site_eq step.site n.sites ≡ b →
          TakesEvent n step.site (if b then event_coming n step.site step.what else None) m → Follows d n m w
      go true among does = at_site among (event_coming n step.site step.what) refl does
      go false among same = subst (λ (x : DaemonNetwork). Follows d n x w) (sym same) (follows_same d n w joins)

  pub steps_follow : (steps : List Step) (n m : DaemonNetwork) (w : Network) → Joins d n w → TakesSteps n steps m → Follows d n m w
  steps_follow [] n m w joins same = subst (λ (x : DaemonNetwork). Follows d n x w) (sym same) (follows_same d n w joins)
  steps_follow (step ∷ steps) n m w joins (u, takes, later) =
      let first = step_follows n u w step joins takes in
      follows_both d n u m w first (steps_follow steps u m first.end first.joins later)
