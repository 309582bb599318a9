-- Messages that are remembered, and how often they may go again.
use Rattle.std.proofs.Common.{◌≡◌, ◌≢◌, ◌⊎◌, ◌<◌, ◌+◌, ℕ, zero, suc, Bool, true, false, List, [], ◌∷◌, ◌++◌, cond, Contains, get_or}
use Rattle.std.proofs.Common.{length, map, arith}
use Rattle.std.proofs.Common.{None, refl, sym, ap, subst, ◌∙◌, inl, inr, append_assoc, take, drop}
use Rattle.std.specs.Prelude.{count_by}
use Rattle.std.specs.List.{remove}
use Rattle.std.proofs.lemmas.List.{append-nil, map-append}
use Rattle.std.proofs.lemmas.List.Elements.{Contains-append_left, Contains-append_right, Contains-append_cases}
use Rattle.std.proofs.lemmas.List.Sums.{sum_by-append}
use Rattle.std.proofs.Math.ListN.{set}
use Rattle.std.proofs.lemmas.List.{set-get_or, set_split, length-append, length-map, get_or-map, map-set, take-map, drop-map}
use Rattle.cast_types.specs.declared.names.Uid.{Uid}
use Rattle.cast_types.specs.declared.names.DomainNo.{DomainNo}
use Rattle.cast_types.specs.declared.names.SiteNo.{SiteNo}
use Rattle.cast_events.specs.declared.event.Outs.{Outs}
use Rattle.cast_message.specs.declared.site.SiteFrame.{SiteFrame}
use Rattle.cast_message.specs.declared.site.SiteFrame.TheVariants.{Data}
use Rattle.cast_sending.specs.declared.sent.Sent.{Sent}
use Rattle.cast_events.specs.Outs.{no_outs}
use Rattle.cast_sending.specs.Marks.{mark_of, marks_of}
use Rattle.cast_message.specs.declared.message.Message.{Message}
use Rattle.cast_sending.specs.Flights.{Mark, Flying, IsIn, IsPart, Leaves, GoesAgain, Repeats, Answers, Acknowledges, Enters, IsKnown}
use Rattle.cast_sending.specs.Flights.{IsPlaceOf, LosesOne, frames_for, all_marks, goes_left, remembered}

-- ---- lists of marks

abbrev named : Mark → Message
named mark = mark.0

in_left : (xs ys : List Mark) (m : Message) → IsIn xs m → IsIn (xs ++ ys) m
in_left xs ys m there =
    subst (λ (l : List Message). Contains l m) (sym (map-append named xs ys)) (Contains-append_left (map named xs) (map named ys) m there)

in_right : (xs ys : List Mark) (m : Message) → IsIn ys m → IsIn (xs ++ ys) m
in_right xs ys m there =
    subst (λ (l : List Message). Contains l m) (sym (map-append named xs ys)) (Contains-append_right (map named xs) (map named ys) m there)

in_cases : (xs ys : List Mark) (m : Message) → IsIn (xs ++ ys) m → IsIn xs m ⊎ IsIn ys m
in_cases xs ys m there =
    Contains-append_cases (map named xs) (map named ys) m (subst (λ (l : List Message). Contains l m) (map-append named xs ys) there)

goes-append : (test : Message → Bool) (xs ys : List Mark) → goes_left test (xs ++ ys) ≡ goes_left test xs + goes_left test ys
goes-append test xs ys = sum_by-append (λ mark. cond (test mark.0) mark.1 0) xs ys

once-append : (test : Message → Bool) (xs ys : List Mark) → remembered test (xs ++ ys) ≡ remembered test xs + remembered test ys
once-append test xs ys = sum_by-append (λ mark. cond (test mark.0) 1 0) xs ys

pub part_itself : (xs : List Mark) → IsPart xs xs
part_itself xs = record { left = λ m there. there; goes = λ test. omega arith; once = λ test. omega arith }

pub part_same : (xs ys : List Mark) → xs ≡ ys → IsPart xs ys
part_same xs ys same = subst (λ (l : List Mark). IsPart xs l) same (part_itself xs)

pub part_on : (xs ys zs : List Mark) → IsPart xs ys → IsPart ys zs → IsPart xs zs
part_on xs ys zs one two = record {
  left = λ m there. two.left m (one.left m there);
  goes = λ test. omega (arith, one.goes test, two.goes test);
  once = λ test. omega (arith, one.once test, two.once test);
}

pub part_first : (xs ys : List Mark) → IsPart xs (xs ++ ys)
part_first xs ys = record {
  left = λ m there. in_left xs ys m there;
  goes = λ test. omega (arith, goes-append test xs ys);
  once = λ test. omega (arith, once-append test xs ys);
}

pub part_last : (xs ys : List Mark) → IsPart ys (xs ++ ys)
part_last xs ys = record {
  left = λ m there. in_right xs ys m there;
  goes = λ test. omega (arith, goes-append test xs ys);
  once = λ test. omega (arith, once-append test xs ys);
}

pub part_both : (xs ys zs us : List Mark) → IsPart xs ys → IsPart zs us → IsPart (xs ++ zs) (ys ++ us)
part_both xs ys zs us one two = record {
  left = λ m there. elim (in_cases xs zs m there) [
    | inl first ↦ in_left ys us m (one.left m first)
    | inr last ↦ in_right ys us m (two.left m last)
  ];
  goes = λ test. omega (arith, one.goes test, two.goes test, goes-append test xs zs, goes-append test ys us);
  once = λ test. omega (arith, one.once test, two.once test, once-append test xs zs, once-append test ys us);
}

-- ---- what calls leave

pub part_popped : (xs new : List Mark) (mark : Mark) → xs ≡ mark ∷ new → IsPart new xs
part_popped xs new mark is = part_on new (mark ∷ new) xs (part_last (mark ∷ []) new) (part_same (mark ∷ new) xs (sym is))

pub part_added : (xs less new : List Mark) (mark : Mark) → IsPart less xs → IsPart new (less ++ mark ∷ []) → IsPart new (xs ++ mark ∷ [])
part_added xs less new mark one two =
    part_on new (less ++ mark ∷ []) (xs ++ mark ∷ []) two (part_both less xs (mark ∷ []) (mark ∷ []) one (part_itself (mark ∷ [])))

-- the last mark comes between
part_between : (xs ys : List Mark) (mark : Mark) → IsPart ((xs ++ mark ∷ []) ++ ys) ((xs ++ ys) ++ mark ∷ [])
part_between xs ys mark = record {
  left = λ m there. elim (in_cases (xs ++ mark ∷ []) ys m there) [
    | inl first ↦ elim (in_cases xs (mark ∷ []) m first) [
      | inl here ↦ in_left (xs ++ ys) (mark ∷ []) m (in_left xs ys m here)
      | inr one ↦ in_right (xs ++ ys) (mark ∷ []) m one
    ]
    | inr last ↦ in_left (xs ++ ys) (mark ∷ []) m (in_right xs ys m last)
  ];
  goes = λ test.
      omega (
        arith,
        goes-append test (xs ++ mark ∷ []) ys,
        goes-append test xs (mark ∷ []),
        goes-append test (xs ++ ys) (mark ∷ []),
        goes-append test xs ys,
      );
  once = λ test.
      omega (
        arith,
        once-append test (xs ++ mark ∷ []) ys,
        once-append test xs (mark ∷ []),
        once-append test (xs ++ ys) (mark ∷ []),
        once-append test xs ys,
      );
}

pub again_sent : (old new : Flying) (mark : Mark) → new.domain ≡ old.domain → new.site ≡ old.site →
    IsPart new.sent (old.sent ++ mark ∷ []) → new.early ≡ old.early → GoesAgain old mark new
again_sent old new mark domain site part early = record {
  same_domain = domain;
  same_site = site;
  goes = λ test. omega (arith, part.goes test, goes-append test old.sent (mark ∷ []));
  part = part_on (all_marks new) ((old.sent ++ mark ∷ []) ++ old.early) (all_marks old ++ mark ∷ [])
      (part_both new.sent (old.sent ++ mark ∷ []) new.early old.early part (part_same new.early old.early early))
      (part_between old.sent old.early mark);
}

pub again_left : (old new : Flying) (mark : Mark) → Leaves old mark new → GoesAgain old mark new
again_left old new mark leaves = record {
  same_domain = leaves.same_domain;
  same_site = leaves.same_site;
  goes = λ test. omega (arith, ap (goes_left test) leaves.sent);
  part = part_on (all_marks new) (old.sent ++ (old.early ++ mark ∷ [])) (all_marks old ++ mark ∷ [])
      (part_both new.sent old.sent new.early (old.early ++ mark ∷ []) (part_same new.sent old.sent leaves.sent) leaves.early)
      (part_same (old.sent ++ (old.early ++ mark ∷ [])) ((old.sent ++ old.early) ++ mark ∷ [])
      (sym (append_assoc old.sent old.early (mark ∷ []))));
}

-- ---- repeats

-- what is taken out stands between the others
pub record TakenOut (marks : List Mark) (mark : Mark) (rest : List Mark) : Type 0 where
  pub before : List Mark
  pub after : List Mark
  pub was : marks ≡ before ++ mark ∷ after
  pub is : rest ≡ before ++ after

taken_goes : (marks rest : List Mark) (mark : Mark) → TakenOut marks mark rest → (test : Message → Bool) →
    goes_left test rest + goes_left test (mark ∷ []) ≡ goes_left test marks
taken_goes marks rest mark taken test =
    omega (
      arith,
      ap (goes_left test) taken.was,
      ap (goes_left test) taken.is,
      goes-append test taken.before (mark ∷ taken.after),
      goes-append test (mark ∷ []) taken.after,
      goes-append test taken.before taken.after,
    )

taken_once : (marks rest : List Mark) (mark : Mark) → TakenOut marks mark rest → (test : Message → Bool) →
    remembered test rest + remembered test (mark ∷ []) ≡ remembered test marks
taken_once marks rest mark taken test =
    omega (
      arith,
      ap (remembered test) taken.was,
      ap (remembered test) taken.is,
      once-append test taken.before (mark ∷ taken.after),
      once-append test (mark ∷ []) taken.after,
      once-append test taken.before taken.after,
    )

taken_here : (marks rest : List Mark) (mark : Mark) → TakenOut marks mark rest → IsIn marks mark.0
taken_here marks rest mark taken =
    subst (λ (l : List Mark). IsIn l mark.0) (sym taken.was)
    (in_right taken.before (mark ∷ taken.after) mark.0 (in_left (mark ∷ []) taken.after mark.0 (0, omega arith, refl)))

taken_left : (marks rest : List Mark) (mark : Mark) → TakenOut marks mark rest → (m : Message) → IsIn rest m → IsIn marks m
taken_left marks rest mark taken m there =
    subst (λ (l : List Mark). IsIn l m) (sym taken.was)
    (elim (in_cases taken.before taken.after m (subst (λ (l : List Mark). IsIn l m) taken.is there)) [
      | inl first ↦ in_left taken.before (mark ∷ taken.after) m first
      | inr last ↦ in_right taken.before (mark ∷ taken.after) m (in_right (mark ∷ []) taken.after m last)
    ])

one_less : (b : Bool) (n : ℕ) → (0 + cond b n 0) + (0 + cond b 1 0) ≡ 0 + cond b (n + 1) 0
one_less true n = omega arith
one_less false n = omega arith

one_more : (test : Message → Bool) (message : Message) (n : ℕ) →
    goes_left test ((message, n) ∷ []) + count_by test (message ∷ []) ≡ goes_left test ((message, n + 1) ∷ [])
one_more test message n = one_less (test message) n

one_named : (message : Message) (marks : List Mark) → (m : Message) → Contains (message ∷ []) m → IsIn marks message → IsIn marks m
one_named message marks m (zero, within, at) there = subst (λ (x : Message). IsIn marks x) at there
one_named message marks m (suc k, within, at) there = absurd (omega (arith, within))

-- one is taken out, which may go once more at least, and goes once less then
pub one_repeats : (old between new : Flying) (message : Message) (n : ℕ) → TakenOut old.sent (message, n + 1) between.sent →
    between.domain ≡ old.domain → between.site ≡ old.site → between.early ≡ old.early → GoesAgain between (message, n) new →
    Repeats old new (message ∷ [])
one_repeats old between new message n taken domain site early goes = record {
  same_domain = goes.same_domain ∙ domain;
  same_site = goes.same_site ∙ site;
  known = λ m there.
      one_named message (all_marks old) m there (in_left old.sent old.early message (taken_here old.sent between.sent (message, n + 1)
      taken));
  left = λ m there. elim (in_cases (all_marks between) ((message, n) ∷ []) m (goes.part.left m there)) [
    | inl kept ↦ elim (in_cases between.sent between.early m kept) [
      | inl sent ↦ in_left old.sent old.early m (taken_left old.sent between.sent (message, n + 1) taken m sent)
      | inr too_soon ↦ in_right old.sent old.early m (subst (λ (l : List Mark). IsIn l m) early too_soon)
    ]
    | inr this ↦
        one_named message (all_marks old) m this (in_left old.sent old.early message (taken_here old.sent between.sent (message, n + 1)
        taken))
  ];
  goes = λ test. omega (arith, goes.goes test, taken_goes old.sent between.sent (message, n + 1) taken test, one_more test message n);
  once = λ test.
      omega (
        arith,
        goes.part.once test,
        once-append test (all_marks between) ((message, n) ∷ []),
        once-append test between.sent between.early,
        once-append test old.sent old.early,
        ap (remembered test) early,
        taken_once old.sent between.sent (message, n + 1) taken test,
      );
}

-- and where it is left, or not sent
pub none_repeats : (old new : Flying) (mark : Mark) → TakenOut old.sent mark new.sent → new.domain ≡ old.domain → new.site ≡ old.site →
    new.early ≡ old.early → Repeats old new []
none_repeats old new mark taken domain site early = record {
  same_domain = domain;
  same_site = site;
  known = λ m there. absurd (omega (arith, there.1));
  left = λ m there. elim (in_cases new.sent new.early m there) [
    | inl sent ↦ in_left old.sent old.early m (taken_left old.sent new.sent mark taken m sent)
    | inr too_soon ↦ in_right old.sent old.early m (subst (λ (l : List Mark). IsIn l m) early too_soon)
  ];
  goes = λ test. omega (arith, taken_goes old.sent new.sent mark taken test);
  once = λ test.
      omega (
        arith,
        once-append test new.sent new.early,
        once-append test old.sent old.early,
        ap (remembered test) early,
        taken_once old.sent new.sent mark taken test,
      );
}

pub repeats_itself : (old : Flying) → Repeats old old []
repeats_itself old = record {
  same_domain = refl;
  same_site = refl;
  known = λ m there. absurd (omega (arith, there.1));
  left = λ m there. there;
  goes = λ test. omega arith;
  once = λ test. omega arith;
}

pub fewer_repeat : (old new : Flying) (again : List Message) → Repeats old new again → Repeats old new []
fewer_repeat old new again repeats = record {
  same_domain = repeats.same_domain;
  same_site = repeats.same_site;
  known = λ m there. absurd (omega (arith, there.1));
  left = repeats.left;
  goes = λ test. omega (arith, repeats.goes test);
  once = repeats.once;
}

pub repeat_on : (old between new : Flying) (first last : List Message) → Repeats old between first → Repeats between new last →
    Repeats old new (first ++ last)
repeat_on old between new first last one two = record {
  same_domain = two.same_domain ∙ one.same_domain;
  same_site = two.same_site ∙ one.same_site;
  known = λ m there. elim (Contains-append_cases first last m there) [
    | inl here ↦ one.known m here
    | inr later ↦ one.left m (two.known m later)
  ];
  left = λ m there. one.left m (two.left m there);
  goes = λ test. omega (arith, one.goes test, two.goes test, sum_by-append (λ m. cond (test m) 1 0) first last);
  once = λ test. omega (arith, one.once test, two.once test);
}

pub pushed : (sent new : List Sent) (last : Sent) (is_ok : Bool) → new ≡ cond is_ok (sent ++ last ∷ []) sent →
    IsPart (marks_of new) (marks_of sent ++ mark_of last ∷ [])
pushed sent new last true is =
    part_same (marks_of new) (marks_of sent ++ mark_of last ∷ []) (ap marks_of is ∙ map-append mark_of sent (last ∷ []))
pushed sent new last false is = part_on (marks_of new) (marks_of sent) (marks_of sent ++ mark_of last ∷ [])
    (part_same (marks_of new) (marks_of sent) (ap marks_of is)) (part_first (marks_of sent) (mark_of last ∷ []))

pub left_out : (old new : Flying) (mark : Mark) → new ≡ old → Leaves old mark new
left_out old new mark same = record {
  same_domain = ap (λ (f : Flying). f.domain) same;
  same_site = ap (λ (f : Flying). f.site) same;
  sent = ap (λ (f : Flying). f.sent) same;
  early = part_on new.early old.early (old.early ++ mark ∷ []) (part_same new.early old.early (ap (λ (f : Flying). f.early) same))
      (part_first old.early (mark ∷ []));
}

abbrev pub flying : DomainNo → SiteNo → List Sent → List Sent → Flying
flying domain site sent early = record { domain = domain; site = site; sent = marks_of sent; early = marks_of early }

pub taken_at : (sent : List Sent) (place : ℕ) (one : Sent) → place < length sent → one ≡ get_or sent place one →
    TakenOut (marks_of sent) (mark_of one) (marks_of (remove sent place))
taken_at sent place one within read = record {
  before = marks_of (take place sent);
  after = marks_of (drop (suc place) sent);
  was = ap marks_of (sym (set-get_or sent place one) ∙ set_split sent place (get_or sent place one) within)
      ∙ (map-append mark_of (take place sent) (get_or sent place one ∷ drop (suc place) sent)
      ∙ ap (λ (s : Sent). marks_of (take place sent) ++ mark_of s ∷ marks_of (drop (suc place) sent)) (sym read));
  is = map-append mark_of (take place sent) (drop (suc place) sent);
}

-- ---- answers

pub answers_none : (old new : Flying) (before : Outs) → Repeats old new [] → Answers old new 1 before before
answers_none old new before repeats = record {
  again = [];
  repeats = repeats;
  few = omega arith;
  frames = ap (λ (l : List (DomainNo × SiteNo × SiteFrame)). record before { frames = l }) (sym (append-nil before.frames));
}

pub answers_one : (old new : Flying) (before after : Outs) (message : Message) → Repeats old new (message ∷ []) →
    after ≡ record before { frames = before.frames ++ (old.domain, old.site, Data message) ∷ [] } → Answers old new 1 before after
answers_one old new before after message repeats is = record {
  again = message ∷ [];
  repeats = repeats;
  few = omega arith;
  frames = is;
}

pub answers_itself : (old : Flying) (before : Outs) → Answers old old 0 before before
answers_itself old before = record {
  again = [];
  repeats = repeats_itself old;
  few = omega arith;
  frames = ap (λ (l : List (DomainNo × SiteNo × SiteFrame)). record before { frames = l }) (sym (append-nil before.frames));
}

frames_same : (old between : Flying) (again : List Message) → between.domain ≡ old.domain → between.site ≡ old.site →
    frames_for between again ≡ frames_for old again
frames_same old between again domain site =
    ap (λ (d : DomainNo). map (λ message. (d, between.site, Data message)) again) domain
    ∙ ap (λ (s : SiteNo). map (λ message. (old.domain, s, Data message)) again) site

pub answers_on : (old between new : Flying) (m n : ℕ) (first second third : Outs) → Answers old between m first second →
    Answers between new n second third → Answers old new (m + n) first third
answers_on old between new m n first second third one two = record {
  again = one.again ++ two.again;
  repeats = repeat_on old between new one.again two.again one.repeats two.repeats;
  few = omega (arith, one.few, two.few, length-append one.again two.again);
  frames = two.frames
      ∙ (ap (λ (o : Outs). record o { frames = o.frames ++ frames_for between two.again }) one.frames
      ∙ ap (λ (l : List (DomainNo × SiteNo × SiteFrame)). record first { frames = l })
      (append_assoc first.frames (frames_for old one.again) (frames_for between two.again)
      ∙ (ap (λ (l : List (DomainNo × SiteNo × SiteFrame)). first.frames ++ (frames_for old one.again ++ l))
      (frames_same old between two.again one.repeats.same_domain one.repeats.same_site)
      ∙ ap (λ (l : List (DomainNo × SiteNo × SiteFrame)). first.frames ++ l)
      (sym (map-append (λ (message : Message). (old.domain, old.site, Data message)) one.again two.again)))));
}

pub answers_sent : (old new : Flying) (before after : Outs) (domain : DomainNo) (site : SiteNo) (message : Message) (is_sent : Bool) →
    domain ≡ new.domain → site ≡ new.site → Repeats old new (message ∷ []) →
    after.frames ≡ cond is_sent (before.frames ++ (domain, site, Data message) ∷ [])
    before.frames → after ≡ record before { frames = after.frames } →
    Answers old new 1 before after
answers_sent old new before after domain site message true named at repeats frames rest =
    answers_one old new before after message repeats
    (rest
    ∙ ap (λ (l : List (DomainNo × SiteNo × SiteFrame)). record before { frames = l })
    (frames
    ∙ (ap (λ (d : DomainNo). before.frames ++ (d, site, Data message) ∷ []) (named ∙ repeats.same_domain)
    ∙ ap (λ (s : SiteNo). before.frames ++ (old.domain, s, Data message) ∷ []) (at ∙ repeats.same_site))))
answers_sent old new before after domain site message false named at repeats frames rest =
    subst (λ (o : Outs). Answers old new 1 before o)
    (sym (rest ∙ ap (λ (l : List (DomainNo × SiteNo × SiteFrame)). record before { frames = l }) frames))
    (answers_none old new before (fewer_repeat old new (message ∷ []) repeats))

pub none_marked : (sent : List Sent) (id : Uid) → ((k : ℕ) (d : Sent) → k < length sent → (get_or sent k d).message.id ≢ id) →
    IsPlaceOf (marks_of sent) id None
none_marked [] id none = λ k d within. absurd (omega (arith, within))
none_marked (one ∷ sent) id none = λ k d within same.
    let inside : k < length (one ∷ sent) = omega (arith, within, length-map (one ∷ sent) mark_of) in
    none k one inside (sym (ap (λ (m : Mark). m.0.id) (get_or-map mark_of (one ∷ sent) k one d inside)) ∙ same)

pub same_marks : (sent : List Sent) (place : ℕ) (one new : Sent) → place < length sent → one ≡ get_or sent place one →
    mark_of new ≡ mark_of one →
    marks_of (set sent place new) ≡ marks_of sent
same_marks sent place one new within read same =
    map-set mark_of sent place new
    ∙ (ap (set (marks_of sent) place) (same ∙ (ap mark_of read ∙ sym (get_or-map mark_of sent place one (mark_of one) within)))
    ∙ set-get_or (marks_of sent) place (mark_of one))

-- the first goes to the end
part_moved : (xs less ys : List Mark) (mark : Mark) → xs ≡ mark ∷ less → IsPart (less ++ (ys ++ mark ∷ [])) (xs ++ ys)
part_moved xs less ys mark was = record {
  left = λ m there. subst (λ (l : List Mark). IsIn (l ++ ys) m) (sym was) (elim (in_cases less (ys ++ mark ∷ []) m there) [
    | inl here ↦ in_left (mark ∷ less) ys m (in_right (mark ∷ []) less m here)
    | inr rest ↦ elim (in_cases ys (mark ∷ []) m rest) [
      | inl late ↦ in_right (mark ∷ less) ys m late
      | inr one ↦ in_left (mark ∷ less) ys m (in_left (mark ∷ []) less m one)
    ]
  ]);
  goes = λ test.
      omega (
        arith,
        goes-append test less (ys ++ mark ∷ []),
        goes-append test ys (mark ∷ []),
        goes-append test xs ys,
        ap (goes_left test) was,
        goes-append test (mark ∷ []) less,
      );
  once = λ test.
      omega (
        arith,
        once-append test less (ys ++ mark ∷ []),
        once-append test ys (mark ∷ []),
        once-append test xs ys,
        ap (remembered test) was,
        once-append test (mark ∷ []) less,
      );
}

pub loses_one : (old new : Flying) (sent left : List Sent) (place : ℕ) → place < length sent → old.sent ≡ marks_of sent →
    left ≡ remove sent place → new.sent ≡ marks_of left → new.domain ≡ old.domain → new.site ≡ old.site → new.early ≡ old.early →
    LosesOne old place new
loses_one old new sent left place within was rest is domain site early =
    let removed : marks_of (remove sent place) ≡ remove (marks_of sent) place =
    map-append mark_of (take place sent) (drop (suc place) sent)
    ∙ (ap (λ (l : List Mark). l ++ map mark_of (drop (suc place) sent)) (sym (take-map mark_of place sent))
    ∙ ap (λ (l : List Mark). take place (marks_of sent) ++ l) (sym (drop-map mark_of (suc place) sent))) in
    let all : new.sent ≡ remove old.sent place =
    is ∙ (ap marks_of rest ∙ (removed ∙ ap (λ (l : List Mark). remove l place) (sym was))) in
    record {
      same_domain = domain;
      same_site = site;
      early = early;
      sent = λ _. all;
    }

pub first_left : (old between new : Flying) (mark : Mark) → old.sent ≡ mark ∷ between.sent → between.domain ≡ old.domain →
    between.site ≡ old.site → between.early ≡ old.early → Leaves between mark new → Repeats old new []
first_left old between new mark was domain site early leaves =
    let part : IsPart (all_marks new) (all_marks old) =
    part_on (all_marks new) (between.sent ++ (old.early ++ mark ∷ [])) (all_marks old)
    (part_both new.sent between.sent new.early (old.early ++ mark ∷ []) (part_same new.sent between.sent leaves.sent)
    (part_on new.early (between.early ++ mark ∷ []) (old.early ++ mark ∷ []) leaves.early
    (part_same (between.early ++ mark ∷ []) (old.early ++ mark ∷ []) (ap (λ (l : List Mark). l ++ mark ∷ []) early))))
    (part_moved old.sent between.sent old.early mark was) in
    record {
      same_domain = leaves.same_domain ∙ domain;
      same_site = leaves.same_site ∙ site;
      known = λ m there. absurd (omega (arith, there.1));
      left = part.left;
      goes = λ test.
          omega (arith, ap (goes_left test) leaves.sent, ap (goes_left test) was, goes-append test (mark ∷ []) between.sent);
      once = part.once;
    }

pub early_forgotten : (old new : Flying) → IsPart new.early old.early → new.sent ≡ old.sent → new.domain ≡ old.domain →
    new.site ≡ old.site →
    Repeats old new []
early_forgotten old new early sent domain site =
    let part : IsPart (all_marks new) (all_marks old) =
    part_both new.sent old.sent new.early old.early (part_same new.sent old.sent sent) early in
    record {
      same_domain = domain;
      same_site = site;
      known = λ m there. absurd (omega (arith, there.1));
      left = part.left;
      goes = λ test. omega (arith, ap (goes_left test) sent);
      once = part.once;
    }

pub nothing_acknowledged : (old : Flying) (id : Uid) (outs : Outs) → IsPlaceOf old.sent id None → outs ≡ no_outs →
    Acknowledges old id outs old
nothing_acknowledged old id outs none is = record {
  between = old;
  place = None;
  found = none;
  taken = refl;
  most = 0;
  answers = subst (λ (o : Outs). Answers old old 0 no_outs o) (sym is) (answers_itself old no_outs);
}

pub ticks_answer : (old between new : Flying) (outs after : Outs) → Repeats old between [] → outs ≡ no_outs →
    Answers between new 8 outs after →
    Answers old new 8 no_outs after
ticks_answer old between new outs after repeats is answers =
    let first : Answers old between 0 no_outs outs = record {
      again = [];
      repeats = repeats;
      few = omega arith;
      frames = is;
    } in
    answers_on old between new 0 8 no_outs outs after first answers

-- ---- a view is entered

pub known_popped : (xs new : List Mark) (mark : Mark) → xs ≡ mark ∷ new → IsKnown new xs
known_popped xs new mark was =
    let part : IsPart new xs = part_popped xs new mark was in
    record { left = part.left; once = part.once }

one_once : (test : Message → Bool) (mark other : Mark) → other.0 ≡ mark.0 → remembered test (other ∷ []) ≡ remembered test (mark ∷ [])
one_once test mark other same = ap (λ (m : Message). 0 + cond (test m) 1 0) same

pub known_turned : (xs less new : List Mark) (mark other : Mark) → xs ≡ mark ∷ less → other.0 ≡ mark.0 → IsPart new (less ++ other ∷ []) →
    IsKnown new xs
known_turned xs less new mark other was same part = record {
  left = λ m there. subst (λ (l : List Mark). IsIn l m) (sym was) (elim (in_cases less (other ∷ []) m (part.left m there)) [
    | inl kept ↦ in_right (mark ∷ []) less m kept
    | inr this ↦ in_left (mark ∷ []) less m (subst (λ (x : Message). Contains (x ∷ []) m) same this)
  ]);
  once = λ test.
      omega (
        arith,
        part.once test,
        once-append test less (other ∷ []),
        ap (remembered test) was,
        once-append test (mark ∷ []) less,
        one_once test mark other same,
      );
}

pub known_last : (xs new ys : List Mark) → IsKnown new ys → IsKnown (xs ++ new) (xs ++ ys)
known_last xs new ys known = record {
  left = λ m there. elim (in_cases xs new m there) [
    | inl first ↦ in_left xs ys m first
    | inr last ↦ in_right xs ys m (known.left m last)
  ];
  once = λ test. omega (arith, known.once test, once-append test xs new, once-append test xs ys);
}

-- the first of the second list goes to the end of the first list
pub known_moved : (xs ys less new : List Mark) (mark other : Mark) → ys ≡ mark ∷ less → other.0 ≡ mark.0 → IsPart new (xs ++ other ∷ []) →
    IsKnown (new ++ less) (xs ++ ys)
known_moved xs ys less new mark other was same part = record {
  left = λ m there. elim (in_cases new less m there) [
    | inl first ↦ elim (in_cases xs (other ∷ []) m (part.left m first)) [
      | inl kept ↦ in_left xs ys m kept
      | inr this ↦
          in_right xs ys m (subst (λ (l : List Mark). IsIn l m) (sym was)
          (in_left (mark ∷ []) less m (subst (λ (x : Message). Contains (x ∷ []) m) same this)))
    ]
    | inr last ↦ in_right xs ys m (subst (λ (l : List Mark). IsIn l m) (sym was) (in_right (mark ∷ []) less m last))
  ];
  once = λ test.
      omega (
        arith,
        part.once test,
        once-append test xs (other ∷ []),
        once-append test new less,
        once-append test xs ys,
        ap (remembered test) was,
        once-append test (mark ∷ []) less,
        one_once test mark other same,
      );
}

pub enters_on : (old between new : Flying) → Enters old between → IsKnown (all_marks new) (all_marks between) →
    new.domain ≡ between.domain →
    new.site ≡ between.site → Enters old new
enters_on old between new enters known domain site = record {
  same_domain = domain ∙ enters.same_domain;
  same_site = site ∙ enters.same_site;
  known = record {
    left = λ m there. enters.known.left m (known.left m there);
    once = λ test. omega (arith, known.once test, enters.known.once test);
  };
}

pub known_first : (xs new ys : List Mark) → IsKnown new xs → IsKnown (new ++ ys) (xs ++ ys)
known_first xs new ys known = record {
  left = λ m there. elim (in_cases new ys m there) [
    | inl first ↦ in_left xs ys m (known.left m first)
    | inr last ↦ in_right xs ys m last
  ];
  once = λ test. omega (arith, known.once test, once-append test new ys, once-append test xs ys);
}
