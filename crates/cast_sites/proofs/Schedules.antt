-- A run of two daemons that serve two domains each, computed.
-- Programs connect and join, views are installed, one program casts causally and by ABCAST. Frames of both domains cross; one comes late,
-- one comes again. In the end one domain runs out of memory at one site, and the other goes on.
use Rattle.std.proofs.Common.{◌≡◌, ℕ, zero, suc, ◌+◌, true, false, List, [], ◌∷◌, ◌++◌, Some, None, refl, arith, map, length}
use Rattle.std.specs.Prelude.{slice_get}
use Rattle.cast_types.specs.declared.names.DomainNo.{DomainNo}
use Rattle.cast_types.specs.declared.names.SiteNo.{SiteNo}
use Rattle.cast_message.specs.declared.client.Push.TheVariants as push
use Rattle.cast_message.specs.declared.client.CastKind.{CastKind}
use Rattle.cast_message.specs.declared.client.CastKind.TheVariants as kind
use Rattle.cast_message.specs.declared.client.Command.TheVariants as command
use Rattle.cast_message.specs.declared.client.Request.TheVariants.{Cast, Join}
use Rattle.cast_message.specs.Membership.{Membership}
use Rattle.cast_events.specs.declared.config.DomainConfig.{DomainConfig}
use Rattle.cast_events.specs.declared.event.Event.{Event}
use Rattle.cast_events.specs.declared.event.Event.TheVariants as event
use Rattle.cast_quota.specs.declared.quotas.Quotas.{Quotas}
use Rattle.cast_rules.specs.State.{opening}
use Rattle.cast_rules.proofs.Lawful.{lawful_opening}
use Rattle.cast_stable.specs.Acks.{new_ledger}
use Rattle.cast_order.specs.Order.{known_order}
use Rattle.cast_timer.specs.Rows.{owed_in}
use Rattle.cast_outbox.specs.Outboxes.{outboxes_in}
use Rattle.cast_domain.specs.declared.domain.Domain.{Domain}
use Rattle.cast_domain.specs.declared.record.GroupRecord.{GroupRecord}
use Rattle.cast_domain.specs.Fits.{record_for}
use Rattle.cast_domain.proofs.Arrivals.{fits_before}
use Rattle.cast_table.specs.Tables.{IsNew}
use Rattle.cast_table.specs.declared.table.Table.{Table}
use Rattle.cast_world.proofs.Schedules.{group, hand, proc, site, uid}
use Rattle.cast_world.specs.declared.step.Happening.TheVariants.{Local, Sent}
use Rattle.cast_sites.specs.Daemons.{AreNew, DaemonNetwork, DaemonsReach, opened}
use Rattle.cast_sites.specs.Laws.{pushed_in}
use Rattle.cast_sites.proofs.Memory.{vec_of_one}
use Rattle.cast_sites.proofs.Computed.{Move, are_fine, moved_all, takes_all}

abbrev pub domain : ℕ → DomainNo
domain d = record { 0 = d }

-- the quotas of a domain at a site, and its configuration there: sites and domains differ in quotas
abbrev pub quotas_at : ℕ → ℕ → Quotas
quotas_at d s = record { sessions = 4 + d; held = 60 + s; outbox = 30 + d + s; resend = 200 + s }

abbrev pub conf : ℕ → ℕ → DomainConfig
conf d s = record { domain = domain d; home = site d; sites = site 1 ∷ site 2 ∷ []; groups = group 1 ∷ []; quotas = quotas_at d s }

abbrev pub served : SiteNo → List DomainConfig
served s = conf 1 s.0 ∷ conf 2 s.0 ∷ []

abbrev pub sites : List SiteNo
sites = site 1 ∷ site 2 ∷ []

-- What happens

abbrev does : ℕ → Event → Move
does s e = (record { site = site s; what = Local e }, Some 3)

abbrev gets : ℕ → ℕ → Move
gets s k = (hand s k, Some 3)

-- a program of a domain connects at a site, and does something there
abbrev opens : ℕ → ℕ → Move
opens d s = does s (event.Open (domain d))

abbrev joins : ℕ → ℕ → Move
joins d s = does s (event.Command (domain d) 1 (command.Request (Join 7 (group 1))))

abbrev casts : ℕ → ℕ → ℕ → CastKind → List ℕ → Move
casts d s tag kind payload = does s (event.Command (domain d) 1 (command.Request (Cast tag (group 1) kind payload)))

-- the moves so far, and where they have led
pub record Ran : Type 0 where
  pub moves : List Move
  pub now : DaemonNetwork

abbrev on : Ran → List Move → Ran
on r more = record { moves = r.moves ++ more; now = moved_all r.now more }

-- every frame from the i-th on comes to its site, in order, and those that are sent meanwhile
abbrev drained : ℕ → ℕ → Ran → Ran
drained zero i r = r
drained (suc n) i r =
    elim (slice_get r.now.sent i) as (λ _. Ran) [
      | Some f ↦ drained n (i + 1) (on r ((record { site = f.1.to; what = Sent i }, Some 3) ∷ []))
      | None ↦ r
    ]

-- the moves, and then every new frame
abbrev through : Ran → List Move → Ran
through r more = drained 60 (length r.now.sent) (on r more)

-- The tables in which the daemons start

abbrev pub new_domain : SiteNo → DomainConfig → GroupRecord → Domain
new_domain s c x = record {
  site = s;
  config = c;
  quotas = c.quotas;
  moment = 0;
  casts = 0;
  sessions = record { used = 0; records = [] };
  groups = vec_of_one x;
  delay = record { gates = []; offered = []; rows = []; reached = [] };
  acks = new_ledger s;
  orders = [];
  halted = false;
}

abbrev pub first_domain : ℕ → SiteNo → Domain
first_domain d s = new_domain s (conf d s.0) (record_for (opening s (conf d s.0)) (group 1))

abbrev pub table : SiteNo → Table
table s = record {
  domains = first_domain 1 s ∷ first_domain 2 s ∷ [];
  shared = record { store = []; timers = []; outboxes = [] };
}

is_new : (d : ℕ) (s : SiteNo) → IsNew s (conf d s.0) (first_domain d s)
is_new d s = record {
  number = refl;
  running = refl;
  placed = (refl, refl);
  begins = λ rising. record {
    fits = fits_before s (conf d s.0);
    lawful = lawful_opening s (conf d s.0) rising;
    dismissed = λ k gone. refl;
    freed = λ x there. absurd (omega (arith, there.1));
  };
}

are_new : AreNew sites served table
unfolding owed_in outboxes_in
are_new s among = record {
  distinct = refl;
  rising = refl;
  domains = (is_new 1 s, (is_new 2 s, tt));
  unshared = λ d. refl;
}

-- The run

abbrev began : Ran
began = record { moves = []; now = opened sites table }

-- program 1.1 of domain 1 and program 2.1 of domain 2 are alone in their views; then the other site's programs join
unfoldable pub met : Ran
unfolding owed_in outboxes_in known_order
met = through (through began (opens 1 1 ∷ joins 1 1 ∷ opens 2 2 ∷ joins 2 2 ∷ [])) (opens 1 2 ∷ joins 1 2 ∷ opens 2 1 ∷ joins 2 1 ∷ [])

-- 1.1 of domain 1 casts x, and y by ABCAST; 1.1 of domain 2 casts z. At site 2 the order of y comes first, then y, then z; x is late,
-- and comes again
unfoldable pub cast : Ran
unfolding owed_in outboxes_in known_order met
cast =
    let n : ℕ = length met.now.sent in
    on met
    (casts 1 1 8 kind.Causal (65 ∷ []) ∷ casts 1 1 9 kind.Atomic (66 ∷ []) ∷ casts 2 1 8 kind.Causal (67 ∷ [])
    ∷ gets 2 (n + 2) ∷ gets 2 (n + 1) ∷ gets 2 (n + 3) ∷ gets 2 n ∷ gets 2 n ∷ [])

-- memory runs out in domain 2 at site 1, which refuses what it is asked from then on. Domain 1 goes on there
unfoldable pub ended : Ran
unfolding owed_in outboxes_in known_order met cast
ended =
    let n : ℕ = length cast.now.sent in
    on cast
    (((does 1 (event.Command (domain 2) 1 (command.Request (Cast 9 (group 1) kind.Causal (68 ∷ []))))).0, None)
    ∷ casts 2 1 9 kind.Causal (68 ∷ []) ∷ casts 1 1 10 kind.Causal (69 ∷ []) ∷ gets 2 n ∷ [])

fine : are_fine (opened sites table) ended.moves ≡ true
unfolding owed_in outboxes_in known_order met cast ended
fine = refl

pub reaches : DaemonsReach sites served (map (λ m. m.0) ended.moves) (moved_all (opened sites table) ended.moves)
reaches = record { tables = table; new = are_new; takes = takes_all (opened sites table) ended.moves fine }

-- What programs are pushed

-- the members of the second views: who was there first goes on holding the token
abbrev both : ℕ → Membership
both s = record { list = proc 1 1 ∷ proc 2 1 ∷ []; holder = Some (proc s 1) }

abbrev pub end : DaemonNetwork
end = moved_all (opened sites table) ended.moves

told_1_1 :
    pushed_in (domain 1) end (proc 1 1)
    ≡ push.Opened (proc 1 1) ∷ push.Reply 7 None ∷ push.View (group 1) 1 (record { list = proc 1 1 ∷ []; holder = Some (proc 1 1) })
    ∷ push.View (group 1) 2 (both 1)
    ∷ push.Reply 8 None ∷ push.Deliver (uid 1 2 (proc 1 1) 1) kind.Causal (65 ∷ [])
    ∷ push.Reply 9 None ∷ push.Deliver (uid 1 2 (proc 1 1) 2) kind.Atomic (66 ∷ [])
    ∷ push.Reply 10 None ∷ push.Deliver (uid 1 2 (proc 1 1) 4) kind.Causal (69 ∷ []) ∷ []
unfolding owed_in outboxes_in known_order met cast ended
told_1_1 = refl

pub told_1_2 :
    pushed_in (domain 1) end (proc 2 1)
    ≡ push.Opened (proc 2 1) ∷ push.Reply 7 None ∷ push.View (group 1) 2 (both 1)
    ∷ push.Deliver (uid 1 2 (proc 1 1) 1) kind.Causal (65 ∷ []) ∷ push.Deliver (uid 1 2 (proc 1 1) 2) kind.Atomic (66 ∷ [])
    ∷ push.Deliver (uid 1 2 (proc 1 1) 4) kind.Causal (69 ∷ []) ∷ []
unfolding owed_in outboxes_in known_order met cast ended
told_1_2 = refl

told_2_1 :
    pushed_in (domain 2) end (proc 1 1)
    ≡ push.Opened (proc 1 1) ∷ push.Reply 7 None ∷ push.View (group 1) 2 (both 2)
    ∷ push.Reply 8 None ∷ push.Deliver (uid 1 2 (proc 1 1) 1) kind.Causal (67 ∷ []) ∷ []
unfolding owed_in outboxes_in known_order met cast ended
told_2_1 = refl

told_2_2 :
    pushed_in (domain 2) end (proc 2 1)
    ≡ push.Opened (proc 2 1) ∷ push.Reply 7 None ∷ push.View (group 1) 1 (record { list = proc 2 1 ∷ []; holder = Some (proc 2 1) })
    ∷ push.View (group 1) 2 (both 2) ∷ push.Deliver (uid 1 2 (proc 1 1) 1) kind.Causal (67 ∷ []) ∷ []
unfolding owed_in outboxes_in known_order met cast ended
told_2_2 = refl
