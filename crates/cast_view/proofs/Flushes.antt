-- What a flush that gathers waits for, and what it wants.
use Rattle.std.proofs.Common.{◌≡◌, ◌+◌, Bool, true, ◌&&◌, List, [], ◌∷◌, filter, Option, length, take, refl, sym, ap, ◌∙◌, arith}
use Rattle.std.specs.Prelude.{◌==◌, if◌then◌else◌}
use Rattle.std.specs.List.{filter_map}
use Rattle.std.proofs.lemmas.Bool.{eqb-true, false_from_ne_true}
use Rattle.cast_types.specs.declared.limits.TheConstants.{MAX_PLACED}
use Rattle.cast_types.specs.declared.names.SiteNo.{SiteNo}
use Rattle.cast_types.specs.declared.names.GroupNo.{GroupNo}
use Rattle.cast_types.specs.Names.{Entry}
use Rattle.cast_message.specs.declared.message.Message.{Message}
use Rattle.cast_types.specs.declared.names.Proc.{Proc}
use Rattle.cast_message.specs.Membership.{Membership}
use Rattle.cast_view.specs.declared.phase.Phase.{Phase}
use Rattle.cast_view.specs.declared.phase.Phase.TheVariants.{Gathering}
use Rattle.cast_flush.specs.Reports.{Reports, is_complete, cut_from, wanting, want_of, wants_of}
use Rattle.cast_view.specs.Home.{Home, is_empty, is_suspected, may_decide, may_decide_in, wants_in}
use Rattle.cast_view.specs.Home.{decided_list, decided_holder, decided_members, decide_view, after_decision}

-- a list without items is empty
empty_length : {A : Type 0} (xs : List A) → (length xs == 0) ≡ is_empty xs
empty_length [] = refl
empty_length (x ∷ xs) = false_from_ne_true (length (x ∷ xs) == 0) (λ none. absurd (omega (arith, eqb-true (length (x ∷ xs)) 0 none)))

module _ (g : GroupNo) (h : Home) (awaited : List SiteNo) (reports : Reports) (bodies : List Message) (ids : List Entry)
    (gathers : h.phase ≡ Gathering awaited reports bodies) (complete : is_complete awaited reports ≡ true)
    (lacked : ids ≡ wanting g h.number (cut_from h.members.list reports) reports bodies) where
  -- once all sites have reported, the decision may come when no message is wanted
  pub decides_when_empty : (length ids == 0) ≡ may_decide g h
  decides_when_empty =
      empty_length ids
      ∙ ap is_empty lacked
      ∙ sym (ap (λ (b : Bool). b && is_empty (wanting g h.number (cut_from h.members.list reports) reports bodies)) complete)
      ∙ sym (ap (may_decide_in g h) gathers)

  -- and until then it wants the first of them
  pub wants_when_complete : filter_map (want_of reports) (take MAX_PLACED ids) ≡ wants_in g h h.phase
  wants_when_complete =
      ap (λ (es : List Entry). filter_map (want_of reports) (take MAX_PLACED es)) lacked
      ∙ sym (ap (λ (b : Bool). if b then wants_of g h.number (cut_from h.members.list reports) reports bodies else []) complete)
      ∙ sym (ap (wants_in g h) gathers)

-- the home that passes to the next view, by its parts
pub passed_parts :
    (h : Home) (list : List Proc) (holder : Option Proc) (members : Membership) (joins leavings : List Proc) (suspected : List SiteNo)
    (phase : Phase)
    → members ≡ record { list = list; holder = holder } → list ≡ decided_list h → holder ≡ decided_holder h list
    → joins ≡ filter (λ p. is_suspected h p.site) h.joins → leavings ≡ [] → suspected ≡ []
    → record {
      number = h.number + 1;
      members = members;
      joins = joins;
      leavings = leavings;
      suspected = suspected;
      answers = h.answers;
      phase = phase;
    } ≡ record (decide_view h) { phase = phase }
passed_parts h list holder members joins leavings suspected phase with_both with_list with_holder with_joins with_leavings with_suspected =
    let holders = with_holder ∙ ap (decided_holder h) with_list in
    let memberships : record { list = list; holder = holder } ≡ decided_members h =
    λ i. record { list = with_list i; holder = holders i } in
    let both = with_both ∙ memberships in
    λ i. record {
      number = h.number + 1;
      members = both i;
      joins = with_joins i;
      leavings = with_leavings i;
      suspected = with_suspected i;
      answers = h.answers;
      phase = phase;
    }

-- where it may decide the home is the decided one
pub decision_taken : (g : GroupNo) (h : Home) → may_decide g h ≡ true → decide_view h ≡ after_decision g h
decision_taken g h may = sym (ap (λ (b : Bool). if b then decide_view h else h) may)
