-- What is known of sites, and the frames that pass.
use Rattle.std.proofs.Common.{◌≡◌, ◌≢◌, ◌⊎◌, ℕ, ◌<◌, ◌≤◌, ◌+◌, suc, zero, Bool, true, false, List, [], ◌∷◌, cond, not, Contains, arith}
use Rattle.std.specs.Prelude.{MatchBool, MatchOption}
use Rattle.std.proofs.Common.{Option, Some, None, refl, sym, ap, subst, ◌∙◌, inl, inr, get_or, length, take, drop, map, ◌++◌, append_assoc}
use Rattle.std.proofs.Math.ListN.{set}
use Rattle.std.specs.Prelude.{nat_le, nat_lt, unwrap_or}
use Rattle.std.specs.List.{SwappedAt}
use Rattle.std.specs.Option.{option_map_or}
use Rattle.std.proofs.lemmas.Bool.{cases_Bool, cases_lt, true≢false, or_parts, not-false}
use Rattle.std.proofs.lemmas.List.{append-nil, drop_more, drop_all, drop-set-lt, length-set, map_more, set-set, take-set-le, take_more_set}
use Rattle.cast_types.specs.declared.names.SiteNo.{SiteNo}
use Rattle.cast_types.specs.Names.{site_eq}
use Rattle.cast_types.proofs.Orders.{same_site, site_itself}
use Rattle.cast_sending.specs.declared.silence.Silence.{Silence}
use Rattle.cast_sending.specs.Frames.{Frame}
use Rattle.cast_sending.specs.Stables.{AreParted}
use Rattle.cast_sending.specs.Silences.{Known, IsPlace, OnlyChanges, MaySend, MayPass, Pass, OnlySilentWait, Sends}
use Rattle.cast_sending.specs.Silences.{silence_of, acknowledged, Ends, is_silent, is_silent_site, carries_message}

-- ---- places

pub none_known : (known : Known) (site : SiteNo) → IsPlace known site None → silence_of known site ≡ None
none_known [] site none = refl
none_known (one ∷ others) site none =
    let differs : site_eq one.0 site ≡ false = none 0 one (omega arith) in
    rw differs (none_known others site (λ k d within. none (suc k) d (omega (arith, within))))

pub one_known : (known : Known) (site : SiteNo) (place : ℕ) (d : SiteNo × Silence) → IsPlace known site (Some place) →
    silence_of known site ≡ Some (get_or known place d).1
one_known [] site place d is = absurd (omega (arith, is.0))
one_known (one ∷ others) site zero d is =
    let same : site_eq one.0 site ≡ true = is.1 d in
    rw same refl
one_known (one ∷ others) site (suc place) d is =
    let differs : site_eq one.0 site ≡ false = is.2 0 d (omega arith) in
    rw differs (one_known others site place d (omega (arith, is.0), is.1, λ k e before. is.2 (suc k) e (omega (arith, before))))

other_differs : (site other : SiteNo) → other ≢ site → site_eq site other ≡ false
other_differs site other differ = elim (cases_Bool (site_eq site other)) [
  | inl same ↦ absurd (differ (sym (same_site site other same)))
  | inr differs ↦ differs
]

pub one_changes : (known : Known) (site : SiteNo) (place : ℕ) (silence : Silence) → IsPlace known site (Some place) →
    OnlyChanges known site silence (set known place (site, silence))
one_changes [] site place silence is = absurd (omega (arith, is.0))
one_changes (one ∷ others) site zero silence is =
    let there : one.0 ≡ site = same_site one.0 site (is.1 one) in
    record {
      changed = rw (site_itself site) refl;
      others = λ other differ.
          let new : site_eq site other ≡ false = other_differs site other differ in
          let old : site_eq one.0 other ≡ false = ap (λ (s : SiteNo). site_eq s other) there ∙ new in
          rw (new, old) refl;
    }
one_changes (one ∷ others) site (suc place) silence is =
    let differs : site_eq one.0 site ≡ false = is.2 0 one (omega arith) in
    let more : OnlyChanges others site silence (set others place (site, silence)) =
    one_changes others site place silence (omega (arith, is.0), is.1, λ k e before. is.2 (suc k) e (omega (arith, before))) in
    record {
      changed = rw differs more.changed;
      others = λ other differ. ap (cond (site_eq one.0 other) (Some one.1)) (more.others other differ);
    }

-- ---- calls at a place

pub nothing_known : (known : Known) (site : SiteNo) → IsPlace known site None → MaySend known site true known
nothing_known known site none = rw (none_known known site none) (refl, refl)

silence_there : (known : Known) (site : SiteNo) (place : ℕ) (one : SiteNo × Silence) → IsPlace known site (Some place) →
    one ≡ get_or known place one → silence_of known site ≡ Some one.1
silence_there known site place one is read =
    one_known known site place one is ∙ ap (λ (o : SiteNo × Silence). Some o.1) (sym read)

pub something_known : (known : Known) (site : SiteNo) (place : ℕ) (one : SiteNo × Silence) (passes : Bool) (after : Silence) →
    IsPlace known site (Some place) → one ≡ get_or known place one → Sends one.1 passes after →
    MaySend known site passes (set known place (site, after))
something_known known site place one passes after is read sends =
    rw (silence_there known site place one is read) (after, sends, one_changes known site place after is)

pub nothing_ends : (known : Known) (site : SiteNo) → IsPlace known site None → Ends known site known
nothing_ends known site none = rw (none_known known site none) refl

pub nothing_silent : (known : Known) (site : SiteNo) → IsPlace known site None → false ≡ is_silent_site known site
nothing_silent known site none = rw (none_known known site none) refl

pub something_ends : (known : Known) (site : SiteNo) (place : ℕ) (one : SiteNo × Silence) → IsPlace known site (Some place) →
    one ≡ get_or known place one → Ends known site (set known place (site, acknowledged one.1))
something_ends known site place one is read =
    rw (silence_there known site place one is read) (one_changes known site place (acknowledged one.1) is)

pub something_silent : (known : Known) (site : SiteNo) (place : ℕ) (one : SiteNo × Silence) → IsPlace known site (Some place) →
    one ≡ get_or known place one → is_silent one.1 ≡ is_silent_site known site
something_silent known site place one is read = rw (silence_there known site place one is read) refl

-- ---- frames that pass

-- as far as `place` those that pass stand first, and with whatever passes behind it they are all that pass
pub record PassedSoFar (old : Known) (came : List Frame) (known : Known) (frames : List Frame) (kept place : ℕ) : Type 0 where
  pub behind : kept ≤ place
  pub within : place ≤ length came
  pub long : length frames ≡ length came
  pub rest : drop place frames ≡ drop place came
  pub on : (more : List Frame) (new : Known) → Pass known (drop place came) more new → Pass old came (take kept frames ++ more) new

-- the next of those that came
next_came : (came frames : List Frame) (frame : Frame) (place : ℕ) → place < length came → length frames ≡ length came →
    drop place frames ≡ drop place came → frame ≡ get_or frames place frame →
    (drop place came ≡ frame ∷ drop (place + 1) came) × (drop (place + 1) frames ≡ drop (place + 1) came)
next_came came frames frame place within long rest read =
    let ours : drop place frames ≡ get_or frames place frame ∷ drop (place + 1)
    frames = drop_more frames place frame (omega (arith, within, long)) in
    let theirs : drop place came ≡ get_or came place frame ∷ drop (place + 1) came = drop_more came place frame within in
    let both : get_or frames place frame ∷ drop (place + 1) frames ≡ get_or came place frame ∷ drop (place + 1) came =
    sym ours ∙ (rest ∙ theirs) in
    let heads : get_or frames place frame ≡ get_or came place frame = cc both in
    (theirs ∙ ap (λ (f : Frame). f ∷ drop (place + 1) came) (sym (read ∙ heads)), cc both)

swapped_take : (frames : List Frame) (kept place : ℕ) (frame : Frame) → kept ≤ place → place < length frames →
    frame ≡ get_or frames place frame →
    take (kept + 1) (set (set frames kept frame) place (get_or frames kept frame)) ≡ take kept frames ++ frame ∷ []
swapped_take frames kept place frame behind within read = elim (cases_lt kept place) [
  | inl less ↦
      take-set-le (kept + 1) (set frames kept frame) place (get_or frames kept frame) (omega (arith, less))
      ∙ take_more_set frames kept frame (omega (arith, less, within))
  | inr here ↦
      let same : kept ≡ place = omega (arith, here, behind) in
      let there : get_or frames kept frame ≡ frame = ap (λ (n : ℕ). get_or frames n frame) same ∙ sym read in
      ap (λ (n : ℕ). take (kept + 1) (set (set frames kept frame) n (get_or frames kept frame))) (sym same)
      ∙ (ap (λ (f : Frame). take (kept + 1) (set (set frames kept frame) kept f)) there
      ∙ (ap (take (kept + 1)) (set-set frames kept frame frame) ∙ take_more_set frames kept frame (omega (arith, same, within))))
]

swapped_drop : (frames : List Frame) (kept place : ℕ) (frame other : Frame) → kept ≤ place →
    drop (place + 1) (set (set frames kept frame) place other) ≡ drop (place + 1) frames
swapped_drop frames kept place frame other behind =
    drop-set-lt (place + 1) (set frames kept frame) place other (omega arith)
    ∙ drop-set-lt (place + 1) frames kept frame (omega (arith, behind))

pub one_is_left : {old known between : Known} {came frames : List Frame} {kept place : ℕ} (frame : Frame) →
    PassedSoFar old came known frames kept place → place < length came → frame ≡ get_or frames place frame →
    MayPass known frame false between → PassedSoFar old came between frames kept (place + 1)
one_is_left {old} {known} {between} {came} {frames} {kept} {place} frame passed within read may =
    let next = next_came came frames frame place within passed.long passed.rest read in
    record {
      behind = omega (arith, passed.behind);
      within = omega (arith, within);
      long = passed.long;
      rest = next.1;
      on = λ more end pass.
          passed.on more end (subst (λ (l : List Frame). Pass known l more end) (sym next.0) (false, between, more, may, pass, refl));
    }

pub one_passes : {old known between : Known} {came frames new : List Frame} {kept place : ℕ} (frame : Frame) →
    PassedSoFar old came known frames kept place → place < length came → frame ≡ get_or frames place frame →
    MayPass known frame true between → SwappedAt frames new kept place → PassedSoFar old came between new (kept + 1) (place + 1)
one_passes {old} {known} {between} {came} {frames} {new} {kept} {place} frame passed within read may swapped =
    let next = next_came came frames frame place within passed.long passed.rest read in
    let inside : place < length frames = omega (arith, within, passed.long) in
    let is : new ≡ set (set frames kept frame) place (get_or frames kept frame) =
    swapped.3 frame ∙ ap (λ (f : Frame). set (set frames kept f) place (get_or frames kept frame)) (sym read) in
    let first : take (kept + 1) new ≡ take kept frames ++ frame ∷ [] =
    ap (take (kept + 1)) is ∙ swapped_take frames kept place frame passed.behind inside read in
    let left : drop (place + 1) new ≡ drop (place + 1) frames =
    ap (drop (place + 1)) is ∙ swapped_drop frames kept place frame (get_or frames kept frame) passed.behind in
    record {
      behind = omega (arith, passed.behind);
      within = omega (arith, within);
      long = ap length is
          ∙ (length-set (set frames kept frame) place (get_or frames kept frame) ∙ (length-set frames kept frame ∙ passed.long));
      rest = left ∙ next.1;
      on = λ more end pass.
          subst (λ (l : List Frame). Pass old came l end)
          (sym (ap (λ (l : List Frame). l ++ more) first ∙ append_assoc (take kept frames) (frame ∷ []) more))
          (passed.on (frame ∷ more) end (subst (λ (l : List Frame). Pass known l (frame ∷ more) end) (sym next.0)
          (true, between, more, may, pass, refl)));
    }

pub all_passed : {old known : Known} {came frames : List Frame} {kept place : ℕ} → PassedSoFar old came known frames kept place →
    length came ≤ place → Pass old came (take kept frames) known
all_passed {old} {known} {came} {frames} {kept} {place} passed end =
    subst (λ (l : List Frame). Pass old came l known) (append-nil (take kept frames))
    (passed.on [] known (subst (λ (l : List Frame). Pass known l [] known) (sym (drop_all place came end)) (refl, refl)))

pub all_ticked : {X : Type 0} (f : X → X) (xs ys : List X) (i : ℕ) (d : X) → i < length xs → i < length ys → take i ys ≡ map f (take i xs) →
    drop i ys ≡ drop i xs →
    (take (i + 1) (set ys i (f (get_or ys i d))) ≡ map f (take (i + 1) xs)) × (drop (i + 1) (set ys i (f (get_or ys i d))) ≡ drop (i + 1)
    xs)
all_ticked f xs ys i d within inside before after =
    let both : get_or ys i d ∷ drop (i + 1) ys ≡ get_or xs i d ∷ drop (i + 1) xs =
    sym (drop_more ys i d inside) ∙ (after ∙ drop_more xs i d within) in
    let heads : get_or ys i d ≡ get_or xs i d = cc both in
    let tails : drop (i + 1) ys ≡ drop (i + 1) xs = cc both in (
      take_more_set ys i (f (get_or ys i d)) inside
          ∙ (ap (λ l. l ++ f (get_or ys i d) ∷ []) before
          ∙ (ap (λ y. map f (take i xs) ++ f y ∷ []) heads ∙ sym (map_more f xs i d within))),
      drop-set-lt (i + 1) ys i (f (get_or ys i d)) (omega arith) ∙ tails,
    )

-- ---- only messages for silent sites wait

-- a message that is to be sent does not make a site silent
sends_silent : (old new : Silence) (passes : Bool) → Sends old passes new → is_silent new ≡ is_silent old
sends_silent old new passes sends =
    ap (λ (w : Option ℕ). option_map_or (nat_le 50) w false) sends.waits ∙ waited_silent old.waited
  where
    waited_silent : (waited : Option ℕ) →
        option_map_or (nat_le 50) (Some (unwrap_or waited 0)) false ≡ option_map_or (nat_le 50) waited false
    waited_silent (Some n) = refl
    waited_silent None = refl

site_silent : (old new : Known) (site : SiteNo) (passes : Bool) (known : Option Silence) → silence_of old site ≡ known →
    MatchOption known ((passes ≡ true) × (new ≡ old)) (λ silence. (after : Silence)
    × Sends silence passes after × OnlyChanges old site after new) →
    (other : SiteNo) → is_silent_site new other ≡ is_silent_site old other
site_silent old new site passes None is sends other = ap (λ (k : Known). is_silent_site k other) sends.1
site_silent old new site passes (Some silence) is sends other = elim (cases_Bool (site_eq other site)) [
  | inl same ↦
      let there : other ≡ site = same_site other site same in
      ap (λ (s : SiteNo). is_silent_site new s) there
      ∙ (ap (λ (o : Option Silence). option_map_or is_silent o false) sends.2.changed
      ∙ (sends_silent silence sends.0 passes sends.1
      ∙ (ap (λ (o : Option Silence). option_map_or is_silent o false) (sym is) ∙ ap (λ (s : SiteNo). is_silent_site old s) (sym there))))
  | inr differs ↦
      ap (λ (o : Option Silence). option_map_or is_silent o false)
      (sends.2.others other (λ there. true≢false (sym (ap (λ (s : SiteNo). site_eq s site) there ∙ site_itself site) ∙ differs)))
]

may_silent : (old new : Known) (frame : Frame) (passes carries : Bool) →
    MatchBool carries (MaySend old frame.1 passes new) ((passes ≡ true) × (new ≡ old)) → (other : SiteNo) →
    is_silent_site new other ≡ is_silent_site old other
may_silent old new frame passes true may other = site_silent old new frame.1 passes (silence_of old frame.1) refl may other
may_silent old new frame passes false may other = ap (λ (k : Known). is_silent_site k other) may.1

-- what does not pass is a message for a silent site
held_back : (old new : Known) (site : SiteNo) (passes : Bool) (known : Option Silence) → silence_of old site ≡ known →
    MatchOption known ((passes ≡ true) × (new ≡ old)) (λ silence. (after : Silence)
    × Sends silence passes after × OnlyChanges old site after new) →
    passes ≡ false → is_silent_site old site ≡ true
held_back old new site passes None is sends fails = absurd (true≢false (sym sends.0 ∙ fails))
held_back old new site passes (Some silence) is sends fails =
    ap (λ (o : Option Silence). option_map_or is_silent o false) is
    ∙ not-false (is_silent silence) (or_parts (not (is_silent silence)) (nat_lt 0 silence.room) (sym sends.1.passed ∙ fails)).0

may_held : (old new : Known) (frame : Frame) (passes carries : Bool) →
    MatchBool carries (MaySend old frame.1 passes new) ((passes ≡ true) × (new ≡ old)) → passes ≡ false →
    (carries ≡ true) × (is_silent_site old frame.1 ≡ true)
may_held old new frame passes true may fails = (refl, held_back old new frame.1 passes (silence_of old frame.1) refl may fails)
may_held old new frame passes false may fails = absurd (true≢false (sym may.0 ∙ fails))

contains_cases : (first frame : Frame) (frames : List Frame) → Contains (first ∷ frames) frame → (first ≡ frame) ⊎ Contains frames frame
contains_cases first frame frames (zero, within, at) = inl at
contains_cases first frame frames (suc k, within, at) = inr (k, omega (arith, within), at)

pub only_silent_wait : (frames went : List Frame) (old new : Known) → Pass old frames went new → OnlySilentWait old frames went
only_silent_wait [] went old new pass = record {
  left = [];
  parted = (pass.0, refl);
  silent = λ frame there. absurd (omega (arith, there.1));
}
only_silent_wait (first ∷ frames) went old new pass =
    let more : OnlySilentWait pass.1 frames pass.2 = only_silent_wait frames pass.2 pass.1 new pass.4 in
    let same : (other : SiteNo) → is_silent_site pass.1 other ≡ is_silent_site old other =
    may_silent old pass.1 first pass.0 (carries_message first.2) pass.3 in
    elim (cases_Bool pass.0) [
      | inl passes ↦ record {
        left = more.left;
        parted = inl (pass.2, pass.5 ∙ ap (λ (b : Bool). cond b (first ∷ pass.2) pass.2) passes, more.parted);
        silent = λ frame there.
            let waits = more.silent frame there in
            (waits.0, sym (same frame.1) ∙ waits.1);
      }
      | inr fails ↦ record {
        left = first ∷ more.left;
        parted = inr (
          more.left,
          refl,
          subst (λ (l : List Frame). AreParted l more.left frames)
              (sym (pass.5 ∙ ap (λ (b : Bool). cond b (first ∷ pass.2) pass.2) fails)) more.parted,
        );
        silent = λ frame there. elim (contains_cases first frame more.left there) [
          | inl here ↦
              let held = may_held old pass.1 first pass.0 (carries_message first.2) pass.3 fails in (
                ap (λ (f : Frame). carries_message f.2) (sym here) ∙ held.0,
                ap (λ (f : Frame). is_silent_site old f.1) (sym here) ∙ held.1,
              )
          | inr later ↦
              let waits = more.silent frame later in
              (waits.0, sym (same frame.1) ∙ waits.1)
        ];
      }
    ]
