-- By the rules of commands a site that follows another goes on standing for it.
use Rattle.std.proofs.Common.{◌≡◌, ℕ, ◌+◌, true, not, List, [], length, Option, Some, None, refl, sym, ap, subst, arith}
use Rattle.std.specs.Prelude.{◌==◌, nat_lt}
use Rattle.std.specs.List.{fold}
use Rattle.std.specs.Option.{option_map_or}
use Rattle.std.proofs.lemmas.Bool.{not-false, lt-ltb}
use Rattle.cast_types.specs.declared.names.GroupNo.{GroupNo}
use Rattle.cast_types.specs.declared.refusal.Refusal.TheVariants.{BadFrame, NoGroup, NotMember, AlreadyMember}
use Rattle.cast_types.specs.declared.refusal.Refusal.TheVariants.{Flushing, OwnAbcast, HeldFull, TooLong, NotHolder}
use Rattle.cast_types.specs.declared.limits.TheConstants.{MAX_NUMBER, MAX_PAYLOAD}
use Rattle.cast_types.specs.declared.names.Proc.{Proc}
use Rattle.cast_types.specs.Names.{proc_eq}
use Rattle.cast_types.specs.Sets.{is_among}
use Rattle.cast_types.specs.declared.names.Uid.{Uid}
use Rattle.cast_clock.specs.Times.{view_of, count_in, with_bump}
use Rattle.cast_clock.proofs.Raised.{bump_raises}
use Rattle.cast_message.specs.declared.message.Body.{Body}
use Rattle.cast_message.specs.declared.site.Change.TheVariants as change
use Rattle.cast_message.specs.declared.client.CastKind.{CastKind}
use Rattle.cast_message.specs.declared.client.CastKind.TheVariants as kind
use Rattle.cast_message.specs.declared.client.Request.{Request}
use Rattle.cast_message.specs.declared.client.Request.TheVariants.{Join, Leave, Cast, Pass}
use Rattle.cast_message.specs.declared.client.Push.TheVariants as push
use Rattle.cast_message.specs.declared.client.Command.{Command}
use Rattle.cast_message.specs.declared.client.Command.TheVariants as command
use Rattle.cast_ready.specs.Ready.{is_member, is_outside}
use Rattle.cast_view.specs.MemberSide.{MemberSide, members_of}
use Rattle.cast_rules.specs.Order.{told_by}
use Rattle.cast_rules.specs.Rules.Interface.{Site}
use Rattle.cast_rules.specs.Rules.Room.{may_receive, may_order}
use Rattle.cast_rules.specs.Rules.Sending.{may_raise, send_data}
use Rattle.cast_rules.specs.Rules.Asking.{request}
use Rattle.cast_rules.specs.Rules.Leaving.{Attempt, named_here, leave_at, close_session, tell}
use Rattle.cast_rules.specs.Rules.Commands.{body_of, body_handing, join_at, join, leave, message_sent, send_own}
use Rattle.cast_rules.specs.Rules.Commands.{cast_at, cast, hand_over, pass_at, pass_token, reply, on_request, on_command}
use Rattle.cast_rules.proofs.Rules.Follows.{FollowsAll, AtBoth, IsSent, sent_here, choose}
use Rattle.cast_rules.proofs.Rules.Follows.{IsInvariantOfAll, AlsoHolds, SamePlace, follows_itself_in_all}
use Rattle.cast_rules.proofs.Rules.Room.{receive_same, order_same}
use Rattle.cast_rules.proofs.Rules.Sending.{sends_follow}
use Rattle.cast_rules.proofs.Rules.Asking.{request_follows}
use Rattle.cast_rules.proofs.Rules.Leaving.{Attempts, leave_at_follows, close_session_follows, tell_follows}

-- a cast tells nothing of the order
cast_silent : (kind : CastKind) (payload : List ℕ) → told_by (body_of kind payload) ≡ []
cast_silent kind.Causal payload = refl
cast_silent kind.Atomic payload = refl

module _ {R S H K : Type 0} (a : Site R H) (b : Site S K) (fits : R → S → Type 0) (stands : H → K → Type 0)
    (all : FollowsAll a b fits stands) where
  -- what is asked of a group that is none of the domain's is refused
  placed : (r : R) (s : S) → fits r s → (g : GroupNo) (x : H → Attempt R) (y : K → Attempt S) →
      ((h : H) (l : K) → stands h l → b.place s g ≡ Some l → Attempts fits (x h) (y l)) →
      Attempts fits (option_map_or x (a.place r g) (r, Some NoGroup)) (option_map_or y (b.place s g) (s, Some NoGroup))
  placed r s f g x y there = by_place (a.place r g) (b.place s g) (all.follows.place r s f g) refl
    where
      by_place : (o : Option H) (p : Option K) → AtBoth stands o p → b.place s g ≡ p →
          Attempts fits (option_map_or x o (r, Some NoGroup)) (option_map_or y p (s, Some NoGroup))
      by_place (Some h) (Some l) at is = there h l at is
      by_place (Some h) None at is = absurd at
      by_place None (Some l) at is = absurd at
      by_place None None at is = (f, refl)

  join_follows : (r : R) (s : S) → fits r s → (k : ℕ) → b.is_open s k ≡ true → (g : GroupNo) → Attempts fits (join a r k g) (join b s k g)
  join_follows r s f k given g = placed r s f g (join_at a r k g) (join_at b s k g) at_place
    where
      at_place : (h : H) (l : K) → stands h l → b.place s g ≡ Some l → Attempts fits (join_at a r k g h) (join_at b s k g l)
      at_place h l at there =
          let group = all.follows.group r s f h l at in
          let time = all.time r s f k given in
          let here = all.follows.here r s f in
          let number : ℕ = (b.group s l).asked + 1 in
          let heard : ℕ = view_of (b.time s k) g in
          let joins =
          request_follows a b fits stands all (a.note_joining r k g number heard) (b.note_joining s k g number heard)
          (all.note_joining r s f k given g l there number heard) h l at change.Join (named_here b s k) in
          let same : request a (a.note_joining r k g ((a.group r h).asked + 1) (view_of (a.time r k) g)) h change.Join (named_here a r k)
          ≡ request a (a.note_joining r k g number heard) h change.Join (named_here b s k) =
          (λ j. request a (a.note_joining r k g ((group j).asked + 1) (view_of (time j) g))
          h change.Join (record { site = here j; serial = k })) in
          choose (Attempts fits) (not (is_outside (a.standing r k g))) (not (is_outside (b.standing s k g))) (r, Some AlreadyMember)
          _ (s, Some AlreadyMember) _
          (ap (λ v. not (is_outside v)) (all.standing r s f k g))
          (λ _. (f, refl))
          (λ _. choose (Attempts fits) ((a.group r h).asked == MAX_NUMBER) ((b.group s l).asked == MAX_NUMBER) (r, Some HeldFull)
          _ (s, Some HeldFull) _
          (ap (λ (x : MemberSide). x.asked == MAX_NUMBER) group)
          (λ _. (f, refl))
          (λ _. (
            subst (λ x. fits x (request b (b.note_joining s k g number heard) l change.Join (named_here b s k))) (sym same) joins,
            refl,
          )))

  leave_follows : (r : R) (s : S) → fits r s → (k : ℕ) (g : GroupNo) → Attempts fits (leave a r k g) (leave b s k g)
  leave_follows r s f k g =
      placed r s f g (leave_at a r k g) (leave_at b s k g) (λ h l at _. leave_at_follows a b fits stands all r s f k g h l at)

  -- a message is sent
  all_sent : (r : R) (s : S) → fits r s → (h : H) (l : K) → stands h l → (k : ℕ) (g : GroupNo) (content : Body) → IsSent b s l k g content →
      fits (send_own a r k (message_sent a r k g h content)) (send_own b s k (message_sent b s k g l content))
  all_sent r s f h l at k g content sent =
      let t : R = sent_here a r h k g content in
      let u : S = sent_here b s l k g content in
      let now : fits t u = all.sends r s f h l at k g content sent in
      let id : Uid = (message_sent b s k g l content).id in
      let group = all.follows.group r s f h l at in
      let time = all.time r s f k sent.given in
      let here = all.follows.here r s f in
      let same : (message_sent a r k g h content).id ≡ id = (λ j. record {
        group = g;
        view = (group j).number;
        proc = record { site = here j; serial = k };
        count = count_in (with_bump (time j) g (record { site = here j; serial = k })) g (record { site = here j; serial = k });
      }) in
      let others : a.others t g ≡ b.others u g = all.follows.others t u now g in
      let raised = bump_raises (b.time s k) g (named_here b s k) in
      subst (λ x. fits x (fold (send_data b id) u (b.others u g))) (λ j. fold (send_data a (sym same j)) t (sym others j))
      (sends_follow a b fits stands all.follows id (lt-ltb 0 id.count (omega (arith, raised))) (b.others u g)
      t u now (all.sent s l k g content sent))

  cast_follows : (r : R) (s : S) → fits r s → (k : ℕ) → b.is_open s k ≡ true → (g : GroupNo) (kind : CastKind) (payload : List ℕ) →
      Attempts fits (cast a r k g kind payload) (cast b s k g kind payload)
  cast_follows r s f k given g kind payload = placed r s f g (cast_at a r k g kind payload) (cast_at b s k g kind payload) at_place
    where
      at_place : (h : H) (l : K) → stands h l → b.place s g ≡ Some l →
          Attempts fits (cast_at a r k g kind payload h) (cast_at b s k g kind payload l)
      at_place h l at there =
          let here = all.follows.here r s f in
          let time = all.time r s f k given in
          let standing = all.standing r s f k g in
          choose (Attempts fits) (nat_lt MAX_PAYLOAD (length payload)) (nat_lt MAX_PAYLOAD (length payload)) (r, Some TooLong)
          _ (s, Some TooLong) _ refl
          (λ _. (f, refl))
          (λ _. choose (Attempts fits) (not (is_member (a.standing r k g))) (not (is_member (b.standing s k g))) (r, Some NotMember)
          _ (s, Some NotMember) _
          (ap (λ v. not (is_member v)) standing)
          (λ _. (f, refl))
          (λ member. choose (Attempts fits) (a.group r h).frozen (b.group s l).frozen (r, Some Flushing) _ (s, Some Flushing) _
          (ap (λ (x : MemberSide). x.frozen) (all.follows.group r s f h l at))
          (λ _. (f, refl))
          (λ unfrozen. choose (Attempts fits) (a.awaits_own r k) (b.awaits_own s k) (r, Some OwnAbcast) _ (s, Some OwnAbcast) _
          (all.awaits_own r s f k given)
          (λ _. (f, refl))
          (λ _. choose (Attempts fits) (not (may_receive a r)) (not (may_receive b s)) (r, Some HeldFull) _ (s, Some HeldFull) _
          (ap not (receive_same a b fits stands all r s f))
          (λ _. (f, refl))
          (λ _. choose (Attempts fits) (not (may_raise (a.time r k) g (named_here a r k)))
          (not (may_raise (b.time s k) g (named_here b s k))) (r, Some HeldFull) _ (s, Some HeldFull) _
          (λ j. not (may_raise (time j) g (record { site = here j; serial = k })))
          (λ _. (f, refl))
          (λ raises. (
            all.note_cast _ _ (all_sent r s f h l at k g (body_of kind payload)
                (record {
                  given = given;
                  at = there;
                  member = not-false (is_member (b.standing s k g)) member;
                  unfrozen = unfrozen;
                  raises = not-false (may_raise (b.time s k) g (named_here b s k)) raises;
                  silent = cast_silent kind payload;
                })),
            refl,
          )))))))

  pass_follows : (r : R) (s : S) → fits r s → (k : ℕ) → b.is_open s k ≡ true → (g : GroupNo) (to : Proc) →
      Attempts fits (pass_token a r k g to) (pass_token b s k g to)
  pass_follows r s f k given g to = placed r s f g (pass_at a r k g to) (pass_at b s k g to) at_place
    where
      -- what is sent there is sent here
      handed : (h : H) (l : K) → stands h l → (place : ℕ) → IsSent b s l k g (body_handing place to) →
          Attempts fits (hand_over a r k g to h place) (hand_over b s k g to l place)
      handed h l at place sent =
          choose (Attempts fits) (proc_eq to (named_here a r k)) (proc_eq to (named_here b s k)) (r, None) _ (s, None) _
          (λ j. proc_eq to (record { site = all.follows.here r s f j; serial = k }))
          (λ _. (f, refl))
          (λ _. (all_sent r s f h l at k g (body_handing place to) sent, refl))

      at_place : (h : H) (l : K) → stands h l → b.place s g ≡ Some l → Attempts fits (pass_at a r k g to h) (pass_at b s k g to l)
      at_place h l at there =
          let here = all.follows.here r s f in
          let time = all.time r s f k given in
          let group = all.follows.group r s f h l at in
          choose (Attempts fits) (not (is_member (a.standing r k g))) (not (is_member (b.standing s k g))) (r, Some NotMember)
          _ (s, Some NotMember) _
          (ap (λ v. not (is_member v)) (all.standing r s f k g))
          (λ _. (f, refl))
          (λ member. choose (Attempts fits) (not (is_among proc_eq to (members_of (a.group r h))))
          (not (is_among proc_eq to (members_of (b.group s l)))) (r, Some NotMember) _ (s, Some NotMember) _
          (ap (λ (x : MemberSide). not (is_among proc_eq to (members_of x))) group)
          (λ _. (f, refl))
          (λ _. choose (Attempts fits) (a.group r h).frozen (b.group s l).frozen (r, Some Flushing) _ (s, Some Flushing) _
          (ap (λ (x : MemberSide). x.frozen) group)
          (λ _. (f, refl))
          (λ unfrozen. choose (Attempts fits) (a.awaits_own r k) (b.awaits_own s k) (r, Some OwnAbcast) _ (s, Some OwnAbcast) _
          (all.awaits_own r s f k given)
          (λ _. (f, refl))
          (λ _. choose (Attempts fits) (not (a.holds r h k)) (not (b.holds s l k)) (r, Some NotHolder) _ (s, Some NotHolder) _
          (ap not (all.holds r s f h l at k))
          (λ _. (f, refl))
          (λ _. choose (Attempts fits) (not (may_order a r)) (not (may_order b s)) (r, Some HeldFull) _ (s, Some HeldFull) _
          (ap not (order_same a b fits stands all r s f))
          (λ _. (f, refl))
          (λ _. choose (Attempts fits) (not (may_raise (a.time r k) g (named_here a r k)))
          (not (may_raise (b.time s k) g (named_here b s k))) (r, Some HeldFull) _ (s, Some HeldFull) _
          (λ j. not (may_raise (time j) g (record { site = here j; serial = k })))
          (λ _. (f, refl))
          (λ raises. subst (λ o. Attempts fits (option_map_or (hand_over a r k g to h) o (r, Some HeldFull))
          (option_map_or (hand_over b s k g to l) (b.place_to_pass s l k) (s, Some HeldFull)))
          (sym (all.place_to_pass r s f h l at k g there (not-false (is_member (b.standing s k g)) member) unfrozen))
          (elim (b.place_to_pass s l k) as (λ o. Attempts fits (option_map_or (hand_over a r k g to h) o (r, Some HeldFull))
          (option_map_or (hand_over b s k g to l) o (s, Some HeldFull))) [
            | Some place ↦
                handed h l at place (record {
                  given = given;
                  at = there;
                  member = not-false (is_member (b.standing s k g))
                      member;
                  unfrozen = unfrozen;
                  raises = not-false (may_raise (b.time s k) g (named_here b s k)) raises;
                  silent = refl;
                })
            | None ↦ (f, refl)
          ]))))))))

  replied : (k tag : ℕ) (x : Attempt R) (y : Attempt S) → Attempts fits x y → fits (reply a x k tag) (reply b y k tag)
  replied k tag x y same =
      subst (λ o. fits (tell a x.0 k (push.Reply tag o)) (reply b y k tag)) (sym same.1)
      (tell_follows a b fits stands all x.0 y.0 same.0 k (push.Reply tag y.1))

  requested_follows : (r : R) (s : S) → fits r s → (k : ℕ) → b.is_open s k ≡ true → (q : Request) →
      fits (on_request a r k q) (on_request b s k q)
  requested_follows r s f k given (Join tag g) = replied k tag (join a r k g) (join b s k g) (join_follows r s f k given g)
  requested_follows r s f k given (Leave tag g) = replied k tag (leave a r k g) (leave b s k g) (leave_follows r s f k g)
  requested_follows r s f k given (Cast tag g kind payload) =
      replied k tag (cast a r k g kind payload) (cast b s k g kind payload) (cast_follows r s f k given g kind payload)
  requested_follows r s f k given (Pass tag g to) =
      replied k tag (pass_token a r k g to) (pass_token b s k g to) (pass_follows r s f k given g to)

  pub on_command_follows : (r : R) (s : S) → fits r s → (k : ℕ) (c : Command) → fits (on_command a r k c) (on_command b s k c)
  on_command_follows r s f k (command.Request q) =
      choose fits (a.is_open r k) (b.is_open s k) (on_request a r k q) r (on_request b s k q) s (all.is_open r s f k)
      (λ given. requested_follows r s f k given q)
      (λ _. f)
  on_command_follows r s f k command.Bad =
      choose fits (a.is_open r k) (b.is_open s k) (close_session a r k BadFrame) r (close_session b s k BadFrame) s (all.is_open r s f k)
      (λ given. close_session_follows a b fits stands all r s f k given BadFrame)
      (λ _. f)

-- an invariant of the moves holds after each command
pub on_command_keeps : {S H : Type 0} (d : Site S H) (holds : S → Type 0) → IsInvariantOfAll d holds → (s : S) → holds s →
    (k : ℕ) (c : Command) → holds (on_command d s k c)
on_command_keeps d holds keeps s l k c =
    (on_command_follows d d (AlsoHolds holds) SamePlace (follows_itself_in_all d holds keeps) s s (refl, l) k c).1
