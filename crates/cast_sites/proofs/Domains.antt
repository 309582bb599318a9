-- Each domain of a network of daemons is a network of its own, so the laws of networks hold of it.
use Rattle.std.proofs.Common.{zero, suc, List, [], ◌∷◌, subst, arith}
use Rattle.std.specs.Prelude.{Contains}
use Rattle.std.specs.List.{AllByRecursion}
use Rattle.cast_types.specs.declared.names.DomainNo.{DomainNo}
use Rattle.cast_types.specs.declared.names.Proc.{Proc}
use Rattle.cast_types.specs.declared.names.SiteNo.{SiteNo}
use Rattle.cast_message.specs.declared.client.Push.{Push}
use Rattle.cast_events.specs.declared.config.DomainConfig.{DomainConfig}
use Rattle.cast_world.proofs.ClosingRuns.{same_order}
use Rattle.cast_world.proofs.Memberships.{show_installed, show_one_membership}
use Rattle.cast_world.proofs.NewsRuns.{are_told, tells_lead}
use Rattle.cast_world.proofs.OrderRuns.{orders_agree}
use Rattle.cast_world.proofs.Programs.{each_told_once, orders_told_agree, show_rising_views, told_causally}
use Rattle.cast_world.proofs.Programs.{told_first_in_first_out, told_in_one_order, told_in_sending_view, told_the_same, told_when_due}
use Rattle.cast_world.proofs.Properties.{deliver_causally}
use Rattle.cast_world.proofs.Runs.{causal_delivery}
use Rattle.cast_world.proofs.Same.{same_messages}
use Rattle.cast_world.specs.Agreement.{delivered_of}
use Rattle.cast_world.specs.Laws.{DeliversInOrder, HoldsInEveryNetwork, OrdersAgree, SameMessages, SameOrder}
use Rattle.cast_world.specs.Network.{AgreeOnHome, Network, start}
use Rattle.cast_world.specs.Properties.{DeliversCausally}
use Rattle.cast_world.specs.Pushed.{HoldsOfPushes}
use Rattle.cast_world.specs.declared.step.Step.{Step}
use Rattle.cast_sites.specs.Daemons.{DaemonNetwork, DaemonsReach, opened}
use Rattle.cast_sites.specs.Laws.{AgreeOnHomeOf, AreConfigs, AreToldLawfully, DomainsAgree, DomainsAreNetworks, DomainsAreTold}
use Rattle.cast_sites.specs.Laws.{DomainsDeliverCausally, DomainsGoOn, HoldsOfDomains, IsNetworkOf, RunsAt, pushed_in, sites_of}
use Rattle.cast_sites.proofs.Homes.{config_at, configs_at, homes_agree}
use Rattle.cast_sites.proofs.Networks.{Follows, follows_both, steps_follow, tells_alike}
use Rattle.cast_sites.proofs.Starts.{joins_new}

module _ (sites : List SiteNo) (served : SiteNo → List DomainConfig) (steps : List Step) (n : DaemonNetwork) (d : DomainNo)
    (reach : DaemonsReach sites served steps n) (agree : AgreeOnHomeOf sites served d) where
  abbrev config : SiteNo → DomainConfig
  config = config_at sites served d (λ s among. (reach.new s among).distinct) agree

  configs : AreConfigs sites served d config
  configs = configs_at sites served d (λ s among. (reach.new s among).distinct) agree

  home : AgreeOnHome config
  home = homes_agree sites served d (λ s among. (reach.new s among).distinct) agree

  abbrev first : Network
  first = start (sites_of d served sites) config

  run : Follows d (opened sites reach.tables) n first
  run =
      let joins = joins_new d served sites reach.tables config reach.new configs in
      steps_follow d steps (opened sites reach.tables) n first joins reach.takes

  -- whatever follows the daemons from their start on is such a network
  network_of : (m : DaemonNetwork) (f : Follows d (opened sites reach.tables) m first) → IsNetworkOf sites served d m f.own f.end
  network_of m f =
      record {
        config = config;
        configs = configs;
        reaches = record { home = home; tells = tells_alike first f.end f.own f.more (pushed_in d m) f.pushed f.tells };
        sent = f.joins.sent;
        stands = λ s at. (f.joins.sites s at.among).means at.domain at.stands at.runs;
      }

pub domains_are_networks : DomainsAreNetworks
domains_are_networks sites served steps n d reach agree =
    let made = run sites served steps n d reach agree in
    (made.own, made.end, network_of sites served steps n d reach agree n made)

held_by : {X : Type 0} (P : X → Type 0) (xs : List X) (x : X) → AllByRecursion P xs → Contains xs x → P x
held_by P [] x all (k, lt, at) = absurd (omega (arith, lt))
held_by P (y ∷ xs) x all (zero, lt, at) = subst P at all.0
held_by P (y ∷ xs) x all (suc k, lt, at) = held_by P xs x all.1 (k, omega (arith, lt), at)

pub domains_go_on : DomainsGoOn
domains_go_on sites served steps later n m d reach takes agree =
    let made = run sites served steps n d reach agree in
    let next : Follows d n m made.end = steps_follow d later n m made.end made.joins takes in
    let whole = follows_both d (opened sites reach.tables) n m (first sites served steps n d reach agree) made next in (
      made.own,
      next.own,
      made.end,
      next.end,
      next.more,
      network_of sites served steps n d reach agree n made,
      next.tells,
      network_of sites served steps n d reach agree m whole,
      next.pushed,
      λ step among. held_by (λ (x : Step). RunsAt d n x.site) next.own step next.running among,
    )

holds_of_domains : (law : Network → (Proc → List Push) → Type 0) → HoldsOfPushes law → HoldsOfDomains law
holds_of_domains law every sites served steps n d reach agree =
    let made = domains_are_networks sites served steps n d reach agree in
    let is = made.2 in
    (made.0, made.1, is, every (sites_of d served sites) is.config made.0 (pushed_in d n) made.1 is.reaches)

-- Laws of networks

of_networks : (law : Network → Type 0) → HoldsInEveryNetwork law → HoldsOfPushes (λ w pushed. law w)
of_networks law every sites config steps pushed w reaches =
    every sites config steps w
    (record { home = reaches.home; leads = tells_lead steps (start sites config) w pushed reaches.tells })

pub domains_deliver_causally : DomainsDeliverCausally
domains_deliver_causally =
    holds_of_domains (λ w pushed. DeliversCausally w × DeliversInOrder w)
    (of_networks (λ w. DeliversCausally w × DeliversInOrder w)
    (λ sites config steps w reaches. (deliver_causally sites config steps w reaches, causal_delivery sites config steps w reaches)))

pub domains_agree : DomainsAgree
domains_agree =
    holds_of_domains
    (λ w pushed. SameMessages w (delivered_of w) × SameOrder w (delivered_of w) × OrdersAgree w (delivered_of w))
    (of_networks (λ w. SameMessages w (delivered_of w) × SameOrder w (delivered_of w) × OrdersAgree w (delivered_of w))
    (λ sites config steps w reaches. (
      same_messages sites config steps w reaches,
      same_order sites config steps w reaches,
      orders_agree sites config steps w reaches,
    )))

-- Laws of what programs are told

pub domains_are_told : DomainsAreTold
domains_are_told =
    holds_of_domains AreToldLawfully
    (λ sites config steps pushed w reaches. record {
      all = are_told sites config steps pushed w reaches;
      causal = told_causally sites config steps pushed w reaches;
      due = told_when_due sites config steps pushed w reaches;
      first_in_first_out = told_first_in_first_out sites config steps pushed w reaches;
      once = each_told_once sites config steps pushed w reaches;
      sending_view = told_in_sending_view sites config steps pushed w reaches;
      views_rise = show_rising_views sites config steps pushed w reaches;
      installed = show_installed sites config steps pushed w reaches;
      same_members = show_one_membership sites config steps pushed w reaches;
      same_messages = told_the_same sites config steps pushed w reaches;
      same_order = told_in_one_order sites config steps pushed w reaches;
      prefix = orders_told_agree sites config steps pushed w reaches;
    })
