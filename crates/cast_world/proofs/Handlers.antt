-- What the moves of a history keep, its rules of commands and frames keep.
-- For any invariant `I` that each move keeps (`WhollyKept`), `commanded_keeps` says that a command
-- keeps `I`, and `framed_keeps` says that a frame does. A rule is made of questions, which change
-- nothing, and of moves, each of which keeps `I`; the tests before a move say what that move may
-- suppose. There is one lemma for each rule, which stands behind those of the rules that it uses.
use Rattle.cast_types.proofs.Orders.{uid_itself}
use Rattle.std.proofs.Common.{ap, arith, inl, inr, subst, sym, ◌∙◌}
use Rattle.std.proofs.lemmas.Bool.{and_parts, eq-eqb, eqb-true, false≢true, leb-false, leb-true, ltb-false, ltb-true, true≢false}
use Rattle.std.specs.List.{find, fold, list_all, list_any}
use Rattle.std.specs.Option.{option_map_or, option_or}
use Rattle.std.specs.Prelude.{◌&&◌, ◌||◌, ◌+◌, ◌++◌, ◌<◌, ◌==◌, Bool, Contains, List, None, Option, Some, [], false, filter}
use Rattle.std.specs.Prelude.{if◌then◌else◌, length, map, min, nat_le, nat_lt, not, refl, true, unwrap_or, ℕ, ◌∷◌, ◌≡◌, ◌≤◌, ◌⊎◌}
use Rattle.cast_clock.specs.Times.{view_of}
use Rattle.cast_ready.specs.Ready.{is_member, is_outside}
use Rattle.cast_flush.specs.declared.report.Report.{Report}
use Rattle.cast_rules.specs.Effects.{next_message}
use Rattle.cast_rules.specs.Entering.{freezing}
use Rattle.cast_rules.specs.History.{history}
use Rattle.cast_rules.specs.Order.{holds, place_to_pass}
use Rattle.cast_rules.specs.Owing.{noting_owed, paying, paying_upto}
use Rattle.cast_rules.specs.Reports.{had_here, report_in}
use Rattle.cast_rules.specs.Rules.Asking.{is_from_home, is_home, request}
use Rattle.cast_rules.specs.Rules.Commands.{body_handing, body_of, cast, cast_at, on_command, hand_over, join}
use Rattle.cast_rules.specs.Rules.Commands.{join_at, leave, pass_at, pass_token, reply, on_request, send_own}
use Rattle.cast_rules.specs.Rules.Data.{acknowledge, is_outdated, is_used, is_well_formed, on_data, use_data, want_no_more}
use Rattle.cast_rules.specs.Rules.Flushes.{flushed_frame, is_wanted_here, on_prepare, on_wanted}
use Rattle.cast_rules.specs.Rules.Frames.{on_site_frame, group_of, on_frame}
use Rattle.cast_rules.specs.Rules.Home.{announce, decide, drop_want, drop_wants, forwardable, is_of_home, lead}
use Rattle.cast_rules.specs.Rules.Home.{lead_group, on_flushed, on_forward, on_installed, on_want}
use Rattle.cast_rules.specs.Rules.Home.{prepare, start, suspect, suspect_in, want_bodies, want_eq, wants}
use Rattle.cast_rules.specs.Rules.Keys.{ask_key, home_key, message_key, want_key}
use Rattle.cast_rules.specs.Rules.Leaving.{Attempt, close_session, leave_at}
use Rattle.cast_rules.specs.Rules.Owing.{frame_for, owe, send_for}
use Rattle.cast_rules.specs.Rules.Requests.{answer_ask, deny, deny_if, is_joining_by, on_ask, on_asked, take_answer}
use Rattle.cast_rules.specs.Rules.Room.{may_order, may_receive, may_take}
use Rattle.cast_rules.specs.Rules.Sending.{may_raise, send_data}
use Rattle.cast_rules.specs.Rules.Stability.{is_used_ack, on_ack, on_stable, tell_more, tell_stable, with_ack}
use Rattle.cast_rules.specs.Rules.Views.{change_view, install, no_members, on_install, on_out}
use Rattle.cast_rules.specs.State.{State, awaits_own, counting_cast, emit, is_group, is_received, is_stable, local}
use Rattle.cast_rules.specs.State.{message_of, noting_sent, others_of, outside, receiving, set_group, set_home, set_standing, upto}
use Rattle.cast_message.specs.Bodies.{kind_of}
use Rattle.cast_message.specs.KeptIds.{KeptList}
use Rattle.cast_message.specs.Membership.{Membership}
use Rattle.cast_message.specs.Tail.{Tail}
use Rattle.cast_message.specs.declared.client.CastKind.{CastKind}
use Rattle.cast_message.specs.declared.client.Command.{Command}
use Rattle.cast_message.specs.declared.client.Request.{Request}
use Rattle.cast_message.specs.declared.message.Body.{Body}
use Rattle.cast_message.specs.declared.message.Message.{Message}
use Rattle.cast_message.specs.declared.site.Change.{Change}
use Rattle.cast_message.specs.declared.site.SiteFrame.{SiteFrame}
use Rattle.cast_events.specs.Session.{is_open}
use Rattle.cast_events.specs.declared.limits.TheConstants.{MAX_CASTS}
use Rattle.cast_stable.specs.Stable.{has_acked}
use Rattle.cast_timer.specs.Owed.{is_owed, is_upto}
use Rattle.cast_timer.specs.declared.key.OwedKey.{OwedKey}
use Rattle.cast_types.specs.Counts.{CountList}
use Rattle.cast_types.specs.Names.{Entry, entry_eq, entry_of, group_eq, is_order, proc_eq, site_eq, uid_eq}
use Rattle.cast_types.specs.Sets.{is_among, set_at}
use Rattle.cast_types.specs.declared.limits.TheConstants.{MAX_NUMBER, MAX_PAYLOAD}
use Rattle.cast_types.specs.declared.names.GroupNo.{GroupNo}
use Rattle.cast_types.specs.declared.names.Proc.{Proc}
use Rattle.cast_types.specs.declared.names.SiteNo.{SiteNo}
use Rattle.cast_types.specs.declared.names.Standing.TheVariants.{Joining}
use Rattle.cast_types.specs.declared.names.Uid.{Uid}
use Rattle.cast_types.specs.declared.refusal.Refusal.{Refusal}
use Rattle.cast_types.specs.declared.refusal.Refusal.TheVariants.{AlreadyMember, BadFrame, Flushing, GroupFull, HeldFull}
use Rattle.cast_types.specs.declared.refusal.Refusal.TheVariants.{NoGroup, NotHolder, NotMember, OwnAbcast, TooLong}
use Rattle.cast_view.specs.Home.{Home, answer_to, awaited_of, bodies_of, may_decide, may_start, wants_in}
use Rattle.cast_view.specs.Home.{apply_move, takes_installed, takes_report, waiting_of}
use Rattle.cast_view.specs.Home.HomeMove.{Asked, Brought, Decided, Installed, Reported, Started, Suspected}
use Rattle.cast_view.specs.MemberSide.{MemberSide, answers_prepare, counts_by, first_asking, frozen_side, greatest_of}
use Rattle.cast_view.specs.MemberSide.{has_view, is_current, is_pending, is_put_out_by, members_of, with_answer}
use Rattle.cast_view.specs.declared.member.PendingRequest.{PendingRequest}
use Rattle.cast_view.specs.declared.member.Verdict.{Verdict}
use Rattle.cast_view.specs.declared.member.Verdict.TheVariants.{Again, Completes, Ignored, Pends, Skips}
use Rattle.cast_world.proofs.Keeps.{found_is, keeps_fold, keeps_if, keeps_option}
use Rattle.cast_world.proofs.Acts.{contains_here}
use Rattle.cast_world.proofs.Allowed.{contains_more}
use Rattle.cast_world.proofs.Kept.{Comes, IsAwaited, KeptByOwing, Lacks, MaySend, Owes, Wants, WhollyKept, asked}
use Rattle.cast_world.proofs.Kept.{casts, ends, fits, hands, installs, skips, unknown, wanted}
use Rattle.cast_world.proofs.Telling.{ask_home_keeps, leave_at_keeps, outcome}
use Rattle.cast_world.proofs.Telling.{owe_keeps, pay_keeps, request_keeps, send_for_keeps}
use Rattle.cast_message.specs.declared.site.Change.TheVariants as change
use Rattle.cast_message.specs.declared.client.CastKind.TheVariants as kind_name
use Rattle.cast_message.specs.declared.client.Command.TheVariants as command
use Rattle.cast_message.specs.declared.site.SiteFrame.TheVariants as frame
use Rattle.cast_timer.specs.declared.key.OwedKind.TheVariants as kinds
use Rattle.cast_message.specs.declared.client.Request.TheVariants as request_of

pub not_true : (b : Bool) → not b ≡ false → b ≡ true
not_true true e = refl
not_true false e = absurd (true≢false e)

pub not_false : (b : Bool) → not b ≡ true → b ≡ false
not_false true e = absurd (false≢true e)
not_false false e = refl

-- what a site reports of a view stays the same when the view is frozen
told_tail : State → GroupNo → MemberSide → Tail
told_tail s g x = (report_in (record s { group = λ h. x }) g).tail

told_kept : State → GroupNo → MemberSide → KeptList
told_kept s g x = (report_in (record s { group = λ h. x }) g).kept

told_counts : State → GroupNo → MemberSide → CountList
told_counts s g x =
    counts_by (greatest_of (map entry_of (filter (λ u. group_eq u.group g && (u.view == x.number)) (had_here s)))) (members_of x)

-- where a program asks to cast, programs may cast
abbrev pub MayAsk : Bool → Request → Type 0
MayAsk casting (request_of.Join tag g) = Unit {0}
MayAsk casting (request_of.Leave tag g) = Unit {0}
MayAsk casting (request_of.Cast tag g kind payload) = casting ≡ true
MayAsk casting (request_of.Pass tag g to) = Unit {0}

abbrev pub MayCommand : Bool → Command → Type 0
MayCommand casting (command.Request q) = MayAsk casting q
MayCommand casting command.Bad = Unit {0}

-- what was received is acknowledged
module _ (I : State → Type 0) {Came : SiteNo → SiteFrame → Type 0} (t : KeptByOwing Came I) where
  acknowledge_keeps : (s : State) (to : SiteNo) (u : Uid) → I s → is_received s u ≡ true → u.view ≡ (s.group u.group).number →
      I (acknowledge history s to u)
  acknowledge_keeps s to u i has current = keeps_if I (is_stable s u) (emit s to (frame.Ack u)) (owe history s (message_key kinds.Ack u to))
      (λ _. t.emits s to (frame.Ack u) i tt has tt)
      (λ _. owe_keeps I t s (message_key kinds.Ack u to)
      i (ap (λ n. is_received s (record { group = u.group; view = n; proc = u.proc; count = u.count })) (sym current) ∙ has) tt tt tt)

module _ (I : State → Type 0) (During : Uid → State → Type 0) (Came : SiteNo → SiteFrame → Type 0) (home_here casting : Bool)
    (k : WhollyKept I During Came home_here casting) where
  abbrev t : KeptByOwing Came I
  t = k.owing

  -- Messages of local processes

  pub send_data_keeps : (u : Uid) (s : State) (to : SiteNo) → I s → I (send_data history u s to)
  send_data_keeps u s to i =
      keeps_if I (has_acked s.acks u to) (send_for history s (message_key kinds.Data u to)) (owe history s (message_key kinds.Data u to))
      (λ _. send_for_keeps I t s (message_key kinds.Data u to) i tt (inr (tt, tt)))
      (λ _. owe_keeps I t s (message_key kinds.Data u to) i tt tt tt tt)

  pub sending_keeps : (s : State) (g : GroupNo) (n : ℕ) (content : Body) → I s → is_member ((s.process n).standing g) ≡ true →
      MaySend s g n content → may_take history s content ≡ true →
      (s.group g).frozen ≡ false → (is_order (kind_of content) ≡ false → casting ≡ true) →
      I (send_own history s n (next_message s g n content))
  sending_keeps s g n content i member may room open_it asked_for =
      let m : Message = next_message s g n content in
      let taken : State = receiving (noting_sent s n m) m in
      keeps_fold I (send_data history m.id) (send_data_keeps m.id) (others_of taken m.id.group)
      taken (k.sends s g n content i member may room open_it asked_for)

  -- Commands

  reply_keeps : (a : Attempt State) (n tag : ℕ) → I a.0 → I (reply history a n tag)
  reply_keeps a n tag i = k.replies a.0 n tag a.1 i

  -- who joins is inside
  joining_inside : (s : State) (n : ℕ) (g : GroupNo) (number heard : ℕ) →
      is_outside (((set_standing s n g (Joining number heard)).process n).standing g) ≡ false
  joining_inside s n g number heard =
      ap (λ b. is_outside ((if b then record (s.process n) { standing = set_at group_eq (s.process n).standing g (Joining number heard) }
      else s.process n).standing g)) (eq-eqb n n refl)
      ∙ ap (λ b. is_outside (if b then Joining number heard else (s.process n).standing g)) (eq-eqb g.0 g.0 refl)

  join_keeps : (s : State) (n : ℕ) (g : GroupNo) → I s → is_open (s.session n) ≡ true → I (outcome (join history s n g))
  join_keeps s n g i open_it = place (is_group s g) refl
    where
      full : (b : Bool) → is_outside ((s.process n).standing g) ≡ true → is_group s g ≡ true → I (outcome (if b then (s, Some HeldFull)
          else (
            request history (set_standing s n g (Joining ((s.group g).asked + 1) (view_of (s.process n).time g))) g change.Join (local s n),
            None,
          )))
      full true out known = i
      full false out known =
          request_keeps I t (set_standing s n g (Joining ((s.group g).asked + 1) (view_of (s.process n).time g))) g change.Join (local s n)
          (k.joins s n g i open_it known out) (refl, joining_inside s n g ((s.group g).asked + 1) (view_of (s.process n).time g))

      at : (b : Bool) → not (is_outside ((s.process n).standing g)) ≡ b → is_group s g ≡ true →
          I (outcome (if b then (s, Some AlreadyMember)
          else if (s.group g).asked == MAX_NUMBER then (s, Some HeldFull)
          else (
            request history (set_standing s n g (Joining ((s.group g).asked + 1) (view_of (s.process n).time g))) g change.Join (local s n),
            None,
          )))
      at true e known = i
      at false e known = full ((s.group g).asked == MAX_NUMBER) (not_true (is_outside ((s.process n).standing g)) e) known

      place : (b : Bool) → is_group s g ≡ b →
          I (outcome (option_map_or (join_at history s n g) (if b then Some g else None) (s, Some NoGroup)))
      place true known = at (not (is_outside ((s.process n).standing g))) refl known
      place false known = i

  leave_keeps : (s : State) (n : ℕ) (g : GroupNo) → I s → I (outcome (leave history s n g))
  leave_keeps s n g i = place (is_group s g)
    where
      place : (b : Bool) → I (outcome (option_map_or (leave_at history s n g) (if b then Some g else None) (s, Some NoGroup)))
      place true = leave_at_keeps I t s n g i
      place false = i

  -- where a test refuses nothing changes
  refused_or : (b : Bool) (s : State) (refusal : Refusal) (a : Attempt State) → I s → (b ≡ false → I a.0) →
      I (outcome (if b then (s, Some refusal) else a))
  refused_or true s refusal a i else_keeps = i
  refused_or false s refusal a i else_keeps = else_keeps refl

  -- a cast sets no order
  no_order : (kind : CastKind) (payload : List ℕ) → is_order (kind_of (body_of kind payload)) ≡ false
  no_order kind_name.Causal payload = refl
  no_order kind_name.Atomic payload = refl

  cast_keeps : (s : State) (n : ℕ) (g : GroupNo) (kind : CastKind) (payload : List ℕ) → I s → casting ≡ true →
      I (outcome (cast history s n g kind payload))
  cast_keeps s n g kind payload i asked_for = place (is_group s g)
    where
      at : I (outcome (cast_at history s n g kind payload g))
      at = refused_or (nat_lt MAX_PAYLOAD (length payload)) s TooLong _ i
          (λ _. refused_or (not (is_member ((s.process n).standing g))) s NotMember _ i
          (λ member. refused_or (s.group g).frozen s Flushing _ i
          (λ open_it. refused_or (awaits_own s n) s OwnAbcast _ i
          (λ _. refused_or (not (may_receive history s)) s HeldFull _ i
          (λ room. refused_or (not (may_raise (s.process n).time g (local s n)))
          s HeldFull (counting_cast (send_own history s n (next_message s g n (body_of kind payload))), None) i
          (λ _.
          let sent : State = send_own history s n (next_message s g n (body_of kind payload)) in
          t.books sent sent.moment (min MAX_CASTS (sent.casts + 1))
          (sending_keeps s g n (body_of kind payload) i (not_true (is_member ((s.process n).standing g)) member)
          (casts (no_order kind payload) open_it)
          (ap (λ b. if b then may_order history s else may_receive history s) (no_order kind payload)
          ∙ not_true (may_receive history s) room) open_it (λ _. asked_for))))))))

      place : (b : Bool) → I (outcome (option_map_or (cast_at history s n g kind payload) (if b then Some g else None) (s, Some NoGroup)))
      place true = at
      place false = i

  -- who has settled all that it ordered hands the token over
  handed_keeps : (s : State) (n : ℕ) (g : GroupNo) (to : Proc) → I s → is_member ((s.process n).standing g) ≡ true → holds s g n ≡ true →
      (s.group g).frozen ≡ false → may_order history s ≡ true → is_among proc_eq to (members_of (s.group g)) ≡ true →
      (o : Option ℕ) → place_to_pass s g n ≡ o →
      I (outcome (option_map_or (hand_over history s n g to g) o (s, Some HeldFull)))
  handed_keeps s n g to i member held open_it room named_it None e = i
  handed_keeps s n g to i member held open_it room named_it (Some place) e = itself (proc_eq to (local s n))
    where
      itself : (b : Bool) → I (outcome (if b then (s, None) else (send_own history s n (next_message s g n (body_handing place to)), None)))
      itself true = i
      itself false = sending_keeps s g n (body_handing place to) i member (hands place to held open_it e refl named_it) room open_it
          (λ none. absurd (true≢false none))

  pass_token_keeps : (s : State) (n : ℕ) (g : GroupNo) (to : Proc) → I s → I (outcome (pass_token history s n g to))
  pass_token_keeps s n g to i = place (is_group s g)
    where
      at : I (outcome (pass_at history s n g to g))
      at = refused_or (not (is_member ((s.process n).standing g))) s NotMember _ i
          (λ member. refused_or (not (is_among proc_eq to (members_of (s.group g)))) s NotMember _ i
          (λ named_it. refused_or (s.group g).frozen s Flushing _ i
          (λ open_it. refused_or (awaits_own s n) s OwnAbcast _ i
          (λ _. refused_or (not (holds s g n)) s NotHolder _ i
          (λ held. refused_or (not (may_order history s)) s HeldFull _ i
          (λ room. refused_or (not (may_raise (s.process n).time g (local s n)))
          s HeldFull (option_map_or (hand_over history s n g to g) (place_to_pass s g n) (s, Some HeldFull)) i
          (λ _. handed_keeps s n g to i (not_true (is_member ((s.process n).standing g)) member) (not_true (holds s g n) held)
          open_it (not_true (may_order history s) room) (not_true (is_among proc_eq to (members_of (s.group g))) named_it)
          (place_to_pass s g n) refl)))))))

      place : (b : Bool) → I (outcome (option_map_or (pass_at history s n g to) (if b then Some g else None) (s, Some NoGroup)))
      place true = at
      place false = i

  on_request_keeps : (s : State) (n : ℕ) (q : Request) → I s → is_open (s.session n) ≡ true → MayAsk casting q →
      I (on_request history s n q)
  on_request_keeps s n (request_of.Join tag g) i open_it may = reply_keeps (join history s n g) n tag (join_keeps s n g i open_it)
  on_request_keeps s n (request_of.Leave tag g) i open_it may = reply_keeps (leave history s n g) n tag (leave_keeps s n g i)
  on_request_keeps s n (request_of.Cast tag g kind payload) i open_it may =
      reply_keeps (cast history s n g kind payload) n tag (cast_keeps s n g kind payload i may)
  on_request_keeps s n (request_of.Pass tag g to) i open_it may =
      reply_keeps (pass_token history s n g to) n tag (pass_token_keeps s n g to i)

  pub on_command_keeps : (s : State) (n : ℕ) (c : Command) → I s → MayCommand casting c → I (on_command history s n c)
  on_command_keeps s n (command.Request q) i may =
      keeps_if I (is_open (s.session n)) (on_request history s n q) s (λ open_it. on_request_keeps s n q i open_it may) (λ _. i)
  on_command_keeps s n command.Bad i may =
      keeps_if I (is_open (s.session n)) (close_session history s n BadFrame) s (λ open_it. k.closes s n BadFrame i open_it) (λ _. i)

  -- Messages of other sites

  received_now : (got : List Message) (m : Message) → list_any (λ x. uid_eq x.id m.id) (got ++ m ∷ []) ≡ true
  received_now [] m = ap (λ b. b || false) (uid_itself m.id)
  received_now (x ∷ got) m = go (uid_eq x.id m.id) (received_now got m)
    where
      go : (b : Bool) → list_any (λ y. uid_eq y.id m.id) (got ++ m ∷ []) ≡ true →
          (b || list_any (λ y. uid_eq y.id m.id) (got ++ m ∷ [])) ≡ true
      go true more = refl
      go false more = more

  well_formed_member : (s : State) (members : List Proc) (m : Message) → is_well_formed history s members m ≡ true →
      is_among proc_eq m.id.proc members ≡ true
  well_formed_member s members m e =
      (and_parts (is_among proc_eq m.id.proc members) _ (and_parts (list_all (λ c. is_among group_eq c.0 s.config.groups) m.times) _ e).1).0

  use_data_keeps : (s : State) (from : SiteNo) (m : Message) → I s → Came from (frame.Data m) → is_used history s m.id.group from m ≡ true →
      I (use_data history s from m)
  use_data_keeps s from m i came used =
      let a = and_parts (site_eq m.id.proc.site from) _ used in
      let b = and_parts (not (site_eq from s.here)) _ a.1 in
      let c = and_parts (m.id.view == (s.group m.id.group).number) (is_well_formed history s (members_of (s.group m.id.group)) m) b.1 in
      let current : m.id.view ≡ (s.group m.id.group).number = eqb-true m.id.view (s.group m.id.group).number c.0 in
      let elsewhere : site_eq m.id.proc.site s.here ≡ false =
      ap (λ n. n == s.here.0) (eqb-true m.id.proc.site.0 from.0 a.0) ∙ not_false (site_eq from s.here) b.0 in
      keeps_if I (is_received s m.id) (emit s from (frame.Ack m.id)) _ (λ has. t.emits s from (frame.Ack m.id) i tt has tt)
      (λ lacked. keeps_if I (may_take history s m.body) (want_no_more history (acknowledge history (receiving s m) from m.id) m.id) s
      (λ room. k.received (acknowledge history (receiving s m) from m.id)
      m.id (acknowledge_keeps (During m.id) (k.during m.id) (receiving s m) from m.id
      (k.receives s from m i (inl came) current (well_formed_member s (members_of (s.group m.id.group)) m c.1) (fits room)
      (unknown lacked elsewhere)) (received_now s.got m) current)) (λ _. i))

  on_data_keeps : (s : State) (from : SiteNo) (m : Message) → I s → Came from (frame.Data m) → I (on_data history s m.id.group from m)
  on_data_keeps s from m i came =
      keeps_if I (is_used history s m.id.group from m) (use_data history s from m) _ (use_data_keeps s from m i came)
      (λ _. keeps_if I (is_outdated history s m.id.group from m) (emit s from (frame.Out m.id.group (s.group m.id.group).number)) s
      (λ outdated. t.emits s from (frame.Out m.id.group (s.group m.id.group).number) i refl tt (
        below (and_parts (nat_lt m.id.view (s.group m.id.group).number) _ (and_parts (has_view (s.group m.id.group)) _ outdated).1).0,
        from,
        m,
        came,
        refl,
      )) (λ _. i))
    where
      below : nat_lt m.id.view (s.group m.id.group).number ≡ true → 1 ≤ (s.group m.id.group).number
      below e = let up = ltb-true m.id.view (s.group m.id.group).number e in omega (arith, up)

  -- Stability

  with_ack_keeps : (s : State) (from : SiteNo) (u : Uid) → I s → Came from (frame.Ack u) → I (with_ack history s from u)
  with_ack_keeps s from u i came =
      k.acknowledged (paying s (message_key kinds.Data u from)) from u (pay_keeps I t s (message_key kinds.Data u from) i) came

  on_ack_keeps : (s : State) (from : SiteNo) (u : Uid) → I s → Came from (frame.Ack u) → I (on_ack history s u.group from u)
  on_ack_keeps s from u i came =
      let after : State = with_ack history s from u in
      let j : I (with_ack history s from u) = with_ack_keeps s from u i came in
      keeps_if I (is_used_ack history s u.group from u) _ s
      (λ used. keeps_if I (nat_le u.count (upto s u)) (tell_stable history u (upto s u) after from) (tell_more history u (upto s u) after)
      (λ low. t.emits after from (frame.Stable (record u { count = upto s u })) j tt tt
      (least (and_parts (nat_lt 0 u.count) _ (and_parts (is_current (s.group u.group) u.view) _ used).1).0 low, from, u.count, came))
      (λ _.
      keeps_if I (nat_lt (upto s u) (upto after u)) (fold (tell_stable history u (upto after u)) after (others_of after u.group)) after
      (λ up. keeps_fold I (tell_stable history u (upto after u)) (λ r to l.
      t.emits r to (frame.Stable (record u { count = upto after u })) l tt tt (more up, from, u.count, came))
      (others_of after u.group) after j) (λ _. j))) (λ _. i)
    where
      least : nat_lt 0 u.count ≡ true → nat_le u.count (upto s u) ≡ true → 1 ≤ upto s u
      least counted low =
          let a = ltb-true 0 u.count counted in let b = leb-true u.count (upto s u) low in omega (arith, a, b)

      more : nat_lt (upto s u) (upto (with_ack history s from u) u) ≡ true → 1 ≤ upto (with_ack history s from u) u
      more up = let a = ltb-true (upto s u) (upto (with_ack history s from u) u) up in omega (arith, a)

  on_stable_keeps : (s : State) (from : SiteNo) (u : Uid) → I s → Came from (frame.Stable u) → I (on_stable history s u.group from u)
  on_stable_keeps s from u i came = keeps_if I (is_current (s.group u.group) u.view && site_eq u.proc.site from) _ s
      (λ _. k.learns (paying_upto s (message_key kinds.Ack u u.proc.site))
      from u (t.pays s (is_upto (message_key kinds.Ack u u.proc.site)) i) came) (λ _. i)

  -- Requests

  on_ask_keeps : (s : State) (from : SiteNo) (g : GroupNo) (number : ℕ) (what : Change) (q : Proc) → I s →
      Came from (frame.Ask g number what q) → I (on_ask history s g from number what q)
  on_ask_keeps s from g number what q i came =
      keeps_if I (is_home history s) _ s (λ _. answer (answer_to (s.home g) from number what q)) (λ _. i)
    where
      now : State
      now = set_home s g (apply_move (Asked from number what q) (s.home g))

      answer : (o : Option Bool) → I (answer_ask history (set_home s g (apply_move (Asked from number what q) (s.home g))) g from number o)
      answer None = k.homes s g (Asked from number what q) i came
      answer (Some full) =
          t.emits (set_home s g (apply_move (Asked from number what q) (s.home g))) from (frame.Asked g number full)
          (k.homes s g (Asked from number what q) i came) tt tt (from, what, q, came)

  deny_keeps : (s : State) (g : GroupNo) (a : PendingRequest) → I s → I (deny history s g a)
  deny_keeps s g a i = keeps_if I (is_joining_by ((s.process a.proc.serial).standing g) a.number) _ s
      (λ _. k.denies (outside s a.proc.serial g) a.proc.serial g GroupFull (t.parts s a.proc.serial g i)) (λ _. i)

  take_answer_keeps : (s : State) (g : GroupNo) → I s → I (take_answer history s g)
  take_answer_keeps s g i =
      let less : State = paying s (ask_key g s.config.home) in
      ask_home_keeps I t (set_group less g (with_answer (s.group g))) g (k.answers less g (pay_keeps I t s (ask_key g s.config.home) i))

  on_asked_keeps : (s : State) (from : SiteNo) (g : GroupNo) (number : ℕ) (full : Bool) → I s → I (on_asked history s g from number full)
  on_asked_keeps s from g number full i = go (first_asking (s.group g).requests)
    where
      denied : (b : Bool) (a : PendingRequest) → I (deny_if history b (take_answer history s g) g a)
      denied true a = deny_keeps (take_answer history s g) g a (take_answer_keeps s g i)
      denied false a = take_answer_keeps s g i

      go : (o : Option PendingRequest) → I (elim o [
        | Some a ↦ (if is_from_home history s from && (a.number == number)
            then deny_if history full (take_answer history s g) g a
            else s)
        | None ↦ s
      ])
      go (Some a) =
          keeps_if I (is_from_home history s from && (a.number == number)) (deny_if history full (take_answer history s g) g a)
          s (λ _. denied full a) (λ _. i)
      go None = i

  -- Flushes

  on_prepare_keeps : (s : State) (from : SiteNo) (g : GroupNo) (view : ℕ) → I s → I (on_prepare history s g from view)
  unfolding told_counts told_tail told_kept
  on_prepare_keeps s from g view i = keeps_if I (is_from_home history s from && answers_prepare (s.group g) view) _ s
      (λ answers.
      let current =
      and_parts (has_view (s.group g)) ((s.group g).number == view)
      (and_parts (is_current (s.group g) view) _ (and_parts (is_from_home history s from) _ answers).1).0 in
      let now : State = freezing s g in
      let here : now.group g ≡ frozen_side (s.group g) = ap (λ b. if b then frozen_side (s.group g) else s.group g) (eq-eqb g.0 g.0 refl) in
      t.emits now from (flushed_frame g view (report_in s g)) (k.freezes s g i current.0) (
        sym (eqb-true (s.group g).number view current.1) ∙ ap (λ (x : MemberSide). x.number) (sym here),
        ap (λ (x : MemberSide). x.frozen) here,
        ap (λ (x : MemberSide). has_view x) here ∙ current.0,
        ap (told_counts s g) (sym here),
      ) (
        ap (λ (x : MemberSide). is_pending x) here ∙ not_false (is_pending (s.group g)) (and_parts (is_current (s.group g) view)
            (not (is_pending (s.group g))) (and_parts (is_from_home history s from) _ answers).1).1,
        ap (told_tail s g) (sym here),
        ap (told_kept s g) (sym here),
      ) tt) (λ _. i)

  on_wanted_keeps : (s : State) (from : SiteNo) (m : Message) → I s → Came from (frame.Forward m) →
      I (on_wanted history s m.id.group from m)
  on_wanted_keeps s from m i came = keeps_if I (is_from_home history s from && is_wanted_here history s m.id.group m) _ s
      (λ may.
      let a = and_parts (is_pending (s.group m.id.group)) _ (and_parts (is_from_home history s from) _ may).1 in
      let b = and_parts (is_owed s.owed (message_key kinds.Want m.id s.config.home)) _ a.1 in
      let c = and_parts (m.id.view == (s.group m.id.group).number) (is_well_formed history s (members_of (s.group m.id.group)) m) b.1 in
      k.received (receiving s m) m.id
      (k.receives s from m i (inr came) (eqb-true m.id.view (s.group m.id.group).number c.0)
      (well_formed_member s (members_of (s.group m.id.group)) m c.1) (wanted b.0) (asked a.0 b.0))) (λ _. i)

  -- The home

  -- owing frames does not change the home
  same_home : (s : State) (key : OwedKey) → (owe history s key).home ≡ s.home
  same_home s key = go (is_owed s.owed key) (frame_for history s key)
    where
      go : (b : Bool) (o : Option SiteFrame) →
          (if b then s else noting_owed (option_map_or (history.send s key.site) o s) key).home ≡ s.home
      go true o = refl
      go false None = refl
      go false (Some f) = refl

  -- so it owes one after another what it comes to owe
  owe_all : {X : Type 0} (key : X → OwedKey) (home : GroupNo → Home) (xs : List X) (s : State) → I s → s.home ≡ home →
      ((r : State) (x : X) → Contains xs x → r.home ≡ home → Owes r (key x) × Wants r (key x) × Lacks r (key x) × IsAwaited r (key x)) →
      I (fold (λ r x. owe history r (key x)) s xs)
  owe_all key home [] s i same each = i
  owe_all key home (x ∷ xs) s i same each =
      let first = each s x (contains_here [] xs x) same in
      owe_all key home xs (owe history s (key x)) (owe_keeps I t s (key x) i first.0 first.1 first.2 first.3)
      (same_home s (key x) ∙ same) (λ r y at. each r y (contains_more x xs y at))

  prepare_keeps : (s : State) (g : GroupNo) → I s → I (prepare history s g)
  prepare_keeps s g i =
      owe_all (home_key kinds.Prepare g) s.home (awaited_of (s.home g).phase) s i refl
      (λ r to at same. (tt, tt, tt, subst (λ (h : GroupNo → Home). Contains (awaited_of (h g).phase) to) (sym same) at))

  announce_keeps : (s : State) (g : GroupNo) → I s → I (announce history s g)
  announce_keeps s g i =
      owe_all (home_key kinds.Install g) s.home (waiting_of (s.home g).phase) s i refl (λ r to at same. (tt, tt, tt, tt))

  start_keeps : (s : State) (g : GroupNo) → I s → I (start history s g)
  start_keeps s g i = keeps_if I (may_start (s.home g)) (prepare history (set_home s g (apply_move Started (s.home g))) g) s
      (λ _. prepare_keeps (set_home s g (apply_move Started (s.home g))) g (k.homes s g Started i tt)) (λ _. i)

  want_bodies_keeps : (s : State) (g : GroupNo) → I s → I (want_bodies history s g)
  want_bodies_keeps s g i = owe_all (want_key g) s.home (wants history s g) s i refl
      (λ r w at same.
      (tt, tt, tt, subst (λ (h : GroupNo → Home). Contains (wants_in g (h g) (h g).phase) (w.0, (w.1.0, w.1.1))) (sym same) at))

  decide_keeps : (s : State) (g : GroupNo) → home_here ≡ true → I s → I (decide history s g)
  decide_keeps s g here i = keeps_if I (may_decide g (s.home g)) (announce history (set_home s g (apply_move Decided (s.home g))) g) s
      (λ may. announce_keeps (set_home s g (apply_move Decided (s.home g))) g (k.homes s g Decided i (k.fixed s i ∙ here, may))) (λ _. i)

  lead_group_keeps : (s : State) (g : GroupNo) → home_here ≡ true → I s → I (lead_group history s g)
  lead_group_keeps s g here i =
      decide_keeps (want_bodies history (start history s g) g) g here (want_bodies_keeps (start history s g) g (start_keeps s g i))

  pub lead_keeps : (s : State) → I s → I (lead history s)
  lead_keeps s i = keeps_if I (is_home history s) (fold (lead_group history) s s.config.groups) s
      (λ here. keeps_fold I (lead_group history) (λ r g j. lead_group_keeps r g (sym (k.fixed s i) ∙ here) j) s.config.groups s i) (λ _. i)

  on_installed_keeps : (s : State) (from : SiteNo) (g : GroupNo) (n : ℕ) → I s → I (on_installed history s g from n)
  on_installed_keeps s from g n i = keeps_if I (is_home history s && takes_installed (s.home g) from n) _ s
      (λ _. k.homes (paying s (home_key kinds.Install g from)) g (Installed from n) (pay_keeps I t s (home_key kinds.Install g from) i) tt)
      (λ _. i)

  on_flushed_keeps : (s : State) (from : SiteNo) (g : GroupNo) (view : ℕ) (r : Report) → I s →
      Came from (frame.Flushed g view r.counts r.tail r.kept) → I (on_flushed history s g from view r)
  on_flushed_keeps s from g view r i came = keeps_if I (is_home history s && takes_report (s.home g) from view) _ s
      (λ _. k.homes (paying s (home_key kinds.Prepare g from)) g (Reported from view r) (pay_keeps I t s (home_key kinds.Prepare g from) i)
      came) (λ _. i)

  drop_wants_keeps : (s : State) (g : GroupNo) (before : List (SiteNo × Entry)) → I s → I (drop_wants history s g before)
  drop_wants_keeps s g before i = keeps_fold I (drop_want history g (wants history s g))
      (λ r w j. keeps_if I (is_among want_eq w (wants history s g)) r (paying r (want_key g w)) (λ _. j)
      (λ _. pay_keeps I t r (want_key g w) j)) before s i

  suspect_in_keeps : (site : SiteNo) (s : State) (g : GroupNo) → I s → I (suspect_in history site s g)
  suspect_in_keeps site s g i =
      let less : State = paying s (home_key kinds.Prepare g site) in
      let free : State = paying less (home_key kinds.Install g site) in
      drop_wants_keeps (set_home free g (apply_move (Suspected site) (s.home g))) g (wants history s g)
      (k.homes free g (Suspected site)
      (pay_keeps I t less (home_key kinds.Install g site) (pay_keeps I t s (home_key kinds.Prepare g site) i)) tt)

  pub suspect_keeps : (s : State) (site : SiteNo) → I s → I (suspect history s site)
  suspect_keeps s site i =
      keeps_if I (is_home history s) (fold (suspect_in history site) s s.config.groups)
      s (λ _. keeps_fold I (suspect_in history site) (suspect_in_keeps site) s.config.groups s i) (λ _. i)

  on_forward_keeps : (s : State) (from : SiteNo) (m : Message) → I s → Came from (frame.Forward m) → I (on_forward history s m.id.group m)
  on_forward_keeps s from m i came = go (find (λ w. entry_eq w.1 (entry_of m.id)) (wants history s m.id.group))
    where
      go : (o : Option (SiteNo × Entry)) → I (elim o [
        | Some w ↦
            (if is_of_home history s m.id.group m then history.move_home (paying s (want_key m.id.group w)) m.id.group (Brought m) else s)
        | None ↦ s
      ])
      go (Some w) =
          keeps_if I (is_of_home history s m.id.group m) (history.move_home (paying s (want_key m.id.group w)) m.id.group (Brought m)) s
          (λ _. k.homes (paying s (want_key m.id.group w)) m.id.group (Brought m) (pay_keeps I t s (want_key m.id.group w) i) (from, came))
          (λ _. i)
      go None = i

  on_want_keeps : (s : State) (from : SiteNo) (u : Uid) → I s → I (on_want history s u.group from u)
  on_want_keeps s from u i = keeps_if I (site_eq from s.here && not (is_home history s)) s _ (λ _. i)
      (λ _. keeps_option I (λ m. emit s from (frame.Forward m)) (forwardable history s u.group u) s
      (λ m is. t.emits s from (frame.Forward m) i (has (find (λ x. uid_eq x.id u) (bodies_of (s.home u.group).phase)) refl m is) tt tt) i)
    where
      has : (o : Option Message) → find (λ x. uid_eq x.id u) (bodies_of (s.home u.group).phase) ≡ o → (m : Message) →
          option_or o (message_of s u) ≡ Some m →
          Contains s.kept m ⊎ ((g : GroupNo) × Contains (bodies_of (s.home g).phase) m)
      has (Some x) found m is = inr (
        u.group,
        subst (Contains (bodies_of (s.home u.group).phase)) (ap (λ (o : Option Message). unwrap_or o x) is)
            (found_is (λ y. uid_eq y.id u) (bodies_of (s.home u.group).phase) x found).1,
      )
      has None found m is = inl (found_is (λ x. uid_eq x.id u) s.kept m is).1

  -- Views

  pub install_keeps : (s : State) (g : GroupNo) (skipped : Bool) (to : SiteNo) (n : ℕ) (members : Membership) (request : ℕ)
      (cut : CountList) → I s →
      Comes Came s g skipped n members request cut → I (install history skipped s g to n members request cut)
  install_keeps s g skipped to n members request cut i comes =
      t.emits (change_view history skipped s g n members request cut) to (frame.Installed g n)
      (k.enters s g skipped n members request cut i comes) tt tt (inl (s, i, skipped, members, request, cut, comes))

  -- what a verdict leads to
  abbrev By : (s : State) (from : SiteNo) (g : GroupNo) (n : ℕ) (members : Membership) (request : ℕ) (cut : CountList) (tail : Tail) →
      Verdict → Type 0
  By s from g n members request cut tail v = I (elim v [
    | Again ↦ history.send s from (frame.Installed g n)
    | Skips ↦ install history true s g from n members request cut
    | Completes ↦ install history false s g from n members request cut
    | Pends ↦ history.pend s g (record { members = members; request = request; cut = cut }) tail
    | Ignored ↦ s
  ])

  on_install_keeps : (s : State) (from : SiteNo) (g : GroupNo) (n : ℕ) (members : Membership) (request : ℕ) (cut : CountList)
      (tail : Tail) → I s →
      Came from (frame.Install g n members request cut tail) → is_group s g ≡ true →
      I (on_install history s g from n members request cut tail)
  on_install_keeps s from g n members request cut tail i came known =
      keeps_if I (is_from_home history s from) _ s (λ _. again (nat_le n (s.group g).number) refl) (λ _. i)
    where
      waits : (b : Bool) → has_view (s.group g) ≡ true → n ≡ (s.group g).number + 1 → is_pending (s.group g) ≡ b →
          By s from g n members request cut tail (if b then Ignored else Pends)
      waits true has is quiet = i
      waits false has is quiet =
          k.pends s from g (record { members = members; request = request; cut = cut })
          tail i (subst (λ v. Came from (frame.Install g v members request cut tail)) is came) has quiet known

      has_none : (b : Bool) → not (has_view (s.group g)) ≡ b → (s.group g).number < n → n ≡ (s.group g).number + 1 →
          By s from g n members request cut tail (if b then Completes else if is_pending (s.group g) then Ignored else Pends)
      has_none true none up is =
          install_keeps s g false from n members request cut i (installs from tail came (not_false (has_view (s.group g)) none) refl up)
      has_none false some up is = waits (is_pending (s.group g)) (not_true (has_view (s.group g)) some) is refl

      skipping : (b : Bool) → nat_lt ((s.group g).number + 1) n ≡ b → (s.group g).number < n →
          By s from g n members request cut tail
          (if b then Skips else if not (has_view (s.group g)) then Completes else if is_pending (s.group g) then Ignored else Pends)
      skipping true far up = install_keeps s g true from n members request cut i (skips from tail came refl up)
      skipping false near up = has_none (not (has_view (s.group g))) refl up
          (let not_far : n ≤ (s.group g).number + 1 = ltb-false ((s.group g).number + 1) n near in omega (arith, not_far, up))

      again : (b : Bool) → nat_le n (s.group g).number ≡ b →
          By s from g n members request cut tail (if b then Again else if nat_lt ((s.group g).number + 1) n then Skips
          else if not (has_view (s.group g)) then Completes else if is_pending (s.group g) then Ignored else Pends)
      again true low = t.emits s from (frame.Installed g n) i tt tt (inr (from, members, request, cut, tail, came))
      again false high = skipping (nat_lt ((s.group g).number + 1) n) refl (leb-false n (s.group g).number high)

  on_out_keeps : (s : State) (from : SiteNo) (g : GroupNo) (n : ℕ) → I s → Came from (frame.Out g n) → I (on_out history s g n)
  on_out_keeps s from g n i came = keeps_if I (is_put_out_by (s.group g) n) (change_view history true s g n no_members 0 []) s
      (λ up. k.enters s g true n no_members 0 [] i (ends from came refl (ltb-true (s.group g).number n up) refl)) (λ _. i)

  -- Frames

  on_frame_keeps : (s : State) (from : SiteNo) (f : SiteFrame) → I s → Came from f → is_group s (group_of f) ≡ true →
      I (on_frame history s (group_of f) from f)
  on_frame_keeps s from (frame.Data m) i came known = on_data_keeps s from m i came
  on_frame_keeps s from (frame.Ack u) i came known = on_ack_keeps s from u i came
  on_frame_keeps s from (frame.Stable u) i came known = on_stable_keeps s from u i came
  on_frame_keeps s from (frame.Ask g number what p) i came known = on_ask_keeps s from g number what p i came
  on_frame_keeps s from (frame.Asked g number full) i came known = on_asked_keeps s from g number full i
  on_frame_keeps s from (frame.Prepare g view) i came known = on_prepare_keeps s from g view i
  on_frame_keeps s from (frame.Flushed g view counts tail kept) i came known =
      on_flushed_keeps s from g view (record { counts = counts; tail = tail; kept = kept }) i came
  on_frame_keeps s from (frame.Want u) i came known = on_want_keeps s from u i
  on_frame_keeps s from (frame.Forward m) i came known =
      on_forward_keeps (on_wanted history s m.id.group from m) from m (on_wanted_keeps s from m i came) came
  on_frame_keeps s from (frame.Install g view members request cut tail) i came known =
      on_install_keeps s from g view members request cut tail i came known
  on_frame_keeps s from (frame.Installed g view) i came known = on_installed_keeps s from g view i
  on_frame_keeps s from (frame.Out g view) i came known = on_out_keeps s from g view i came

  pub on_site_frame_keeps : (s : State) (from : SiteNo) (f : SiteFrame) → I s → Came from f → I (on_site_frame history s from f)
  on_site_frame_keeps s from f i came =
      keeps_if I (is_among site_eq from s.config.sites) _ s (λ _. place (is_group s (group_of f)) refl) (λ _. i)
    where
      place : (b : Bool) → is_group s (group_of f) ≡ b →
          I (option_map_or (λ h. on_frame history s h from f) (if b then Some (group_of f) else None) s)
      place true known = on_frame_keeps s from f i came known
      place false known = i
