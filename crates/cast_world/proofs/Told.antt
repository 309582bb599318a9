-- What daemons are asked to tell of deliveries is what processes delivered; so the laws of deliveries hold of it.
use Rattle.std.proofs.Common.{ap, subst, sym, ◌∙◌}
use Rattle.std.proofs.lemmas.Bool.{eq-eqb}
use Rattle.std.specs.Prelude.{List, [], if◌then◌else◌, map, refl}
use Rattle.cast_types.specs.declared.names.DomainNo.{DomainNo}
use Rattle.cast_types.specs.declared.names.Proc.{Proc}
use Rattle.cast_types.specs.declared.names.Uid.{Uid}
use Rattle.cast_world.proofs.ClosingRuns.{same_order}
use Rattle.cast_world.proofs.ListsAreActs.{listed_in_order}
use Rattle.cast_world.proofs.OrderRuns.{orders_agree}
use Rattle.cast_world.proofs.Same.{same_messages}
use Rattle.cast_world.specs.Agreement.{delivered_of}
use Rattle.cast_world.specs.Laws.{HoldsOfDeliveries, ListsAreInOrder, OrdersAgree, SameMessages, SameOrder}
use Rattle.cast_world.specs.Network.{Network, start}
use Rattle.cast_world.specs.Worlds.{AllAnswersAreLists, AllRunsAreNetworks, AllTellInOrder}
use Rattle.cast_world.specs.Worlds.{AllTellOneOrder, AllTellTheSame, AllToldOrdersAgree, HoldsOfAnswers}

pub runs_are_networks : AllRunsAreNetworks
runs_are_networks configs config steps old new home solo starts runs =
    let leads = runs (start (map (λ c. c.site) configs) config) (starts config solo) in
    (leads.0, record { home = home; leads = leads.1 }, leads.2)

pub answers_are_lists : AllAnswersAreLists
answers_are_lists sites config steps w r world p ids stands tells =
    let d : DomainNo = (w.at p.site).config.domain in
    tells w stands ∙ ap (λ b. if b then delivered_of w p else []) (eq-eqb d.0 d.0 refl)

holds_of_answers : (law : Network → (Proc → List Uid) → Type 0) → HoldsOfDeliveries law → HoldsOfAnswers law
holds_of_answers law all sites config steps w r world told stands tells =
    subst (law w) (λ i p. sym (answers_are_lists sites config steps w r world p (told p) stands (tells p)) i) (all sites config steps w r)

pub told_in_order : AllTellInOrder
told_in_order = holds_of_answers ListsAreInOrder listed_in_order

pub tell_the_same : AllTellTheSame
tell_the_same = holds_of_answers SameMessages same_messages

pub tell_one_order : AllTellOneOrder
tell_one_order = holds_of_answers SameOrder same_order

pub told_orders_agree : AllToldOrdersAgree
told_orders_agree = holds_of_answers OrdersAgree orders_agree
