-- The messages that a site was sent and has not acknowledged, and how often they may go again.
use Rattle.std.specs.Prelude.{◌≡◌, ◌≢◌, ◌≤◌, ◌<◌, ◌+◌, ◌++◌, ◌∷◌, [], ℕ, Bool, List, MatchOption}
use Rattle.std.specs.Prelude.{Option, Some, None, Contains, cond, count_by, length, map, remove}
use Rattle.std.specs.Prelude.{sum_by}
use Rattle.cast_types.specs.declared.names.DomainNo.{DomainNo}
use Rattle.cast_types.specs.declared.names.SiteNo.{SiteNo}
use Rattle.cast_types.specs.declared.names.Uid.{Uid}
use Rattle.std.specs.List.{slice_index_or}
use Rattle.cast_message.specs.declared.message.Message.{Message}
use Rattle.cast_message.specs.declared.site.SiteFrame.{SiteFrame}
use Rattle.cast_message.specs.declared.site.SiteFrame.TheVariants.{Data}
use Rattle.cast_events.specs.declared.event.Outs.{Outs}
use Rattle.cast_events.specs.Outs.{no_outs}

-- a message, and how often it may be sent again
abbrev pub Mark : Type 0
Mark = Message × ℕ

-- what a site of a domain was sent and has not acknowledged, and what of it is left to the rules,
-- since it may have come too soon
pub record Flying : Type 0 where
  pub domain : DomainNo
  pub site : SiteNo
  pub sent : List Mark
  pub early : List Mark

abbrev pub all_marks : Flying → List Mark
all_marks flying = flying.sent ++ flying.early

-- how many messages that pass a test are remembered
abbrev pub remembered : (Message → Bool) → List Mark → ℕ
remembered test marks = count_by (λ mark. test mark.0) marks

-- how often messages that pass a test may be sent again
abbrev pub goes_left : (Message → Bool) → List Mark → ℕ
goes_left test marks = sum_by (λ mark. cond (test mark.0) mark.1 0) marks

abbrev pub IsIn : List Mark → Message → Type 0
IsIn marks message = Contains (map (λ mark. mark.0) marks) message

-- these messages are to be sent again: each is one that is remembered, and it may go so often less
-- then. Nothing else is remembered, and nothing twice
pub record Repeats (old new : Flying) (again : List Message) : Type 0 where
  pub same_domain : new.domain ≡ old.domain
  pub same_site : new.site ≡ old.site
  pub known : (message : Message) → Contains again message → IsIn (all_marks old) message
  pub left : (message : Message) → IsIn (all_marks new) message → IsIn (all_marks old) message
  pub goes : (test : Message → Bool)
      → goes_left test new.sent + count_by test again ≤ goes_left test old.sent
  pub once : (test : Message → Bool)
      → remembered test (all_marks new) ≤ remembered test (all_marks old)

-- all that this has is in that: no message is there more often, or may go more often
pub record IsPart (new all : List Mark) : Type 0 where
  pub left : (message : Message) → IsIn new message → IsIn all message
  pub goes : (test : Message → Bool) → goes_left test new ≤ goes_left test all
  pub once : (test : Message → Bool) → remembered test new ≤ remembered test all

-- a message is remembered that may go again three times
pub record Notes (old : Flying) (message : Message) (new : Flying) : Type 0 where
  pub same_domain : new.domain ≡ old.domain
  pub same_site : new.site ≡ old.site
  pub sent : IsPart new.sent (old.sent ++ (message, 3) ∷ [])
  pub early : new.early ≡ old.early

-- no other message is remembered, and none more often
pub record IsKnown (new all : List Mark) : Type 0 where
  pub left : (message : Message) → IsIn new message → IsIn all message
  pub once : (test : Message → Bool) → remembered test new ≤ remembered test all

-- the site has entered a view. What is remembered counts anew, where it may have come too soon
pub record Enters (old new : Flying) : Type 0 where
  pub same_domain : new.domain ≡ old.domain
  pub same_site : new.site ≡ old.site
  pub known : IsKnown (all_marks new) (all_marks old)

-- the frames of these messages, for the site
abbrev pub frames_for : Flying → List Message → List (DomainNo × SiteNo × SiteFrame)
frames_for flying again = map (λ message. (flying.domain, flying.site, Data message)) again

-- the frames that are answered are those of so many messages at most, to be sent again to the site
pub record Answers (old new : Flying) (most : ℕ) (before after : Outs) : Type 0 where
  pub again : List Message
  pub repeats : Repeats old new again
  pub few : length again ≤ most
  pub frames : after ≡ record before { frames = before.frames ++ frames_for old again }

-- the place of a message of an id; none if there is none
abbrev pub IsPlaceOf : List Mark → Uid → Option ℕ → Type 0
IsPlaceOf marks id (Some place) =
    (place < length marks) × ((d : Mark) → (slice_index_or marks place d).0.id ≡ id)
IsPlaceOf marks id None = (k : ℕ) (d : Mark) → k < length marks →
    (slice_index_or marks k d).0.id ≢ id

-- the message at a place is taken out, if one is there
pub record LosesOne (old : Flying) (place : ℕ) (new : Flying) : Type 0 where
  pub same_domain : new.domain ≡ old.domain
  pub same_site : new.site ≡ old.site
  pub early : new.early ≡ old.early
  pub sent : place < length old.sent → new.sent ≡ remove old.sent place

-- a message was acknowledged: one of its id is taken out, if one is remembered, and of what is left
-- then some are to be sent again
pub record Acknowledges (old : Flying) (id : Uid) (answer : Outs) (new : Flying) : Type 0 where
  pub between : Flying
  pub place : Option ℕ
  pub found : IsPlaceOf old.sent id place
  pub taken : MatchOption place (between ≡ old) (λ k. LosesOne old k between)
  pub most : ℕ
  pub answers : Answers between new most no_outs answer

-- a message is left to the rules, or kept among those that were sent too soon
pub record Leaves (old : Flying) (mark : Mark) (new : Flying) : Type 0 where
  pub same_domain : new.domain ≡ old.domain
  pub same_site : new.site ≡ old.site
  pub sent : new.sent ≡ old.sent
  pub early : IsPart new.early (old.early ++ mark ∷ [])

-- a message is remembered as the latest, or left so
pub record GoesAgain (old : Flying) (mark : Mark) (new : Flying) : Type 0 where
  pub same_domain : new.domain ≡ old.domain
  pub same_site : new.site ≡ old.site
  pub goes : (test : Message → Bool)
      → goes_left test new.sent ≤ goes_left test old.sent + goes_left test (mark ∷ [])
  pub part : IsPart (all_marks new) (all_marks old ++ mark ∷ [])
