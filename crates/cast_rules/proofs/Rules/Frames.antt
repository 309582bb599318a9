-- By whatever rule a frame is for, a site that follows another goes on standing for it.
use Rattle.std.proofs.Common.{◌≡◌, Option, Some, None, refl}
use Rattle.std.specs.Option.{option_map_or}
use Rattle.cast_types.specs.declared.names.SiteNo.{SiteNo}
use Rattle.cast_types.specs.Names.{site_eq}
use Rattle.cast_types.specs.Sets.{is_among}
use Rattle.cast_message.specs.declared.site.SiteFrame.{SiteFrame}
use Rattle.cast_message.specs.declared.site.SiteFrame.TheVariants as frame
use Rattle.cast_rules.specs.Lawful.{IsTypedFrame}
use Rattle.cast_rules.specs.Rules.Interface.{Site}
use Rattle.cast_rules.specs.Rules.Flushes.{on_wanted}
use Rattle.cast_rules.specs.Rules.Frames.{group_of, on_frame, on_site_frame}
use Rattle.cast_rules.proofs.Rules.Follows.{FollowsAll, AtBoth, choose, IsInvariantOfAll, AlsoHolds, SamePlace, follows_itself_in_all}
use Rattle.cast_rules.proofs.Rules.Data.{data_follows}
use Rattle.cast_rules.proofs.Rules.Stability.{ack_follows, stable_follows}
use Rattle.cast_rules.proofs.Rules.Requests.{ask_follows, asked_follows}
use Rattle.cast_rules.proofs.Rules.Home.{installed_follows, flushed_follows, forward_follows, want_answered_follows}
use Rattle.cast_rules.proofs.Rules.Views.{install_follows, out_follows}
use Rattle.cast_rules.proofs.Rules.Flushes.{prepare_follows, wanted_follows}

module _ {R S H K : Type 0} (a : Site R H) (b : Site S K) (fits : R → S → Type 0) (stands : H → K → Type 0)
    (all : FollowsAll a b fits stands) where
  frame_follows : (r : R) (s : S) → fits r s → (h : H) (k : K) → stands h k → (from : SiteNo) (x : SiteFrame) →
      b.place s (group_of x) ≡ Some k → IsTypedFrame x → fits (on_frame a r h from x) (on_frame b s k from x)
  frame_follows r s f h k at from (frame.Data m) there typed = data_follows a b fits stands all r s f h k at from m there typed
  frame_follows r s f h k at from (frame.Ack u) there typed =
      ack_follows a b fits stands all.follows r s f h k at from u (all.used s k from u there)
  frame_follows r s f h k at from (frame.Stable u) there typed = stable_follows a b fits stands all.follows r s f h k at from u
  frame_follows r s f h k at from (frame.Ask g number what p) there typed = ask_follows a b fits stands all r s f h k at from number what p
  frame_follows r s f h k at from (frame.Asked g number full) there typed = asked_follows a b fits stands all r s f h k at from number full
  frame_follows r s f h k at from (frame.Prepare g view) there typed = prepare_follows a b fits stands all r s f h k at from view
  frame_follows r s f h k at from (frame.Flushed g view counts tail kept) there typed =
      flushed_follows a b fits stands all r s f h k at from view (record { counts = counts; tail = tail; kept = kept })
  frame_follows r s f h k at from (frame.Want u) there typed = want_answered_follows a b fits stands all r s f h k at from u
  frame_follows r s f h k at from (frame.Forward m) there typed =
      forward_follows a b fits stands all (on_wanted a r h from m) (on_wanted b s k from m)
      (wanted_follows a b fits stands all r s f h k at from m there typed) h k at m
  frame_follows r s f h k at from (frame.Install g view members request cut tail) there typed =
      install_follows a b fits stands all r s f h k at from g there view members request cut tail typed
  frame_follows r s f h k at from (frame.Installed g view) there typed = installed_follows a b fits stands all r s f h k at from view
  frame_follows r s f h k at from (frame.Out g view) there typed = out_follows a b fits stands all r s f h k at g there view

  pub on_site_frame_follows : (r : R) (s : S) → fits r s → (from : SiteNo) (x : SiteFrame) → IsTypedFrame x →
      fits (on_site_frame a r from x) (on_site_frame b s from x)
  on_site_frame_follows r s f from x typed =
      choose fits (is_among site_eq from (a.config r).sites) (is_among site_eq from (b.config s).sites) _ r _ s
      (λ j. is_among site_eq from (all.follows.config r s f j).sites)
      (λ _. placed (a.place r (group_of x)) (b.place s (group_of x)) (all.follows.place r s f (group_of x)) refl)
      (λ _. f)
    where
      placed : (o : Option H) (p : Option K) → AtBoth stands o p → b.place s (group_of x) ≡ p →
          fits (option_map_or (λ h. on_frame a r h from x) o r) (option_map_or (λ k. on_frame b s k from x) p s)
      placed (Some h) (Some k) at there = frame_follows r s f h k at from x there typed
      placed (Some h) None at there = absurd at
      placed None (Some k) at there = absurd at
      placed None None at there = f

-- an invariant of the moves holds after each frame
pub on_site_frame_keeps : {S H : Type 0} (d : Site S H) (holds : S → Type 0) → IsInvariantOfAll d holds → (s : S) → holds s →
    (from : SiteNo) (x : SiteFrame) → IsTypedFrame x → holds (on_site_frame d s from x)
on_site_frame_keeps d holds keeps s l from x typed =
    (on_site_frame_follows d d (AlsoHolds holds) SamePlace (follows_itself_in_all d holds keeps) s s (refl, l) from x typed).1
