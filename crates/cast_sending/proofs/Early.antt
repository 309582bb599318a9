-- Acknowledgements that wait, and what is let go.
use Rattle.std.proofs.Common.{◌≡◌, ◌<◌, ◌+◌, ℕ, Bool, true, false, List, [], ◌∷◌, ◌++◌, Option, Some, None, get_or, length, take, drop}
use Rattle.std.proofs.Common.{suc, refl, sym, ap, subst, ◌∙◌, append_assoc, not, arith}
use Rattle.std.specs.Prelude.{if◌then◌else◌}
use Rattle.cast_message.specs.declared.site.SiteFrame.TheVariants.{Ack}
use Rattle.std.specs.List.{flat_map, remove}
use Rattle.cast_types.specs.declared.names.DomainNo.{DomainNo}
use Rattle.cast_types.specs.declared.names.Uid.{Uid}
use Rattle.std.proofs.lemmas.List.{append-nil, length-append, set-get_or, set_split, take_more}
use Rattle.std.proofs.lemmas.List.Concat.{flat_map-append}
use Rattle.cast_types.specs.declared.names.SiteNo.{SiteNo}
use Rattle.cast_sending.specs.Frames.{Frame}
use Rattle.cast_sending.specs.Stables.{AreParted}
use Rattle.cast_sending.specs.Acks.{AddsAll, Delivery, IsTakenOut, Released, Releases, ReleasesAll, ReleasesOne, WaitingAck}
use Rattle.cast_sending.specs.Acks.{released, undelivered}
use Rattle.cast_sending.proofs.Waits.{parted_own, parted_other}

-- those of one more frame wait
adds_then : (first last old between new : List WaitingAck) → AddsAll old first between → AddsAll between last new →
    AddsAll old (first ++ last) new
adds_then [] last old between new one two = subst (λ (l : List WaitingAck). AddsAll l last new) one two
adds_then (ack ∷ first) last old between new one two = (one.0, one.1, adds_then first last one.0 between new one.2 two)

pub adds_more : (delivered : List Delivery) (frames : List Frame) (place : ℕ) (frame : Frame) (old between new : List WaitingAck) →
    place < length frames → frame ≡ get_or frames place frame →
    AddsAll old (flat_map (undelivered delivered) (take place frames)) between → AddsAll between (undelivered delivered frame) new →
    AddsAll old (flat_map (undelivered delivered) (take (place + 1) frames)) new
adds_more delivered frames place frame old between new within is one two =
    let acks : Frame → List WaitingAck = undelivered delivered in
    let upto : List Frame = take place frames in
    let more : take (place + 1) frames ≡ upto ++ frame ∷ [] =
    take_more frames place frame within ∙ ap (λ (f : Frame). upto ++ f ∷ []) (sym is) in
    let all : flat_map acks (take (place + 1) frames) ≡ flat_map acks upto ++ acks frame =
    ap (flat_map acks) more
    ∙ (flat_map-append acks upto (frame ∷ []) ∙ ap (λ (l : List WaitingAck). flat_map acks upto ++ l) (append-nil (acks frame))) in
    subst (λ (l : List WaitingAck). AddsAll old l new) (sym all)
    (adds_then (flat_map acks upto) (acks frame) old between new one two)

-- one more message was delivered
releases_then : (first : List Delivery) (it : Delivery) (frames : List Frame) (old between new : List WaitingAck) (site : Option SiteNo) →
    ReleasesAll old first frames between → Releases between it.0 it.2 site new →
    ReleasesAll old (first ++ it ∷ []) (frames ++ released it.0 it.2 site) new
releases_then [] it frames old between new site all one = (
  site,
  new,
  [],
  subst (λ (l : List WaitingAck). Releases l it.0 it.2 site new) all.1 one,
  (refl, refl),
  ap (λ (l : List Frame). l ++ released it.0 it.2 site) all.0 ∙ sym (append-nil (released it.0 it.2 site)),
)
releases_then (head ∷ first) it frames old between new site all one =
    let to = all.0 in
    let more = all.2 in (
      to,
      all.1,
      more ++ released it.0 it.2 site,
      all.3,
      releases_then first it more all.1 between new site all.4 one,
      ap (λ (l : List Frame). l ++ released it.0 it.2 site) all.5 ∙ append_assoc (released head.0 head.2 to) more (released it.0 it.2 site),
    )

-- the frame finds memory, or not
pub one_pushed : (old new : List WaitingAck) (frames went : List Frame) (it : Delivery) (site : SiteNo) (pushed : Bool) →
    Releases old it.0 it.2 (Some site) new →
    went ≡ (if pushed then frames ++ (it.0, site, Ack it.2) ∷ [] else frames) → ReleasesOne old frames it (not pushed) new went
one_pushed old new frames went it site true releases is = (Some site, releases, is)
one_pushed old new frames went it site false releases is = (Some site, releases, (is, refl))

pub none_released : (old : List WaitingAck) (frames : List Frame) → Released old frames [] frames old 0
none_released old frames = record {
  freed = [];
  kept = [];
  missing = [];
  releases = (refl, refl);
  parted = (refl, refl);
  counted = refl;
  goes = sym (append-nil frames);
}

record Freed (old : List WaitingAck) (first : List Delivery) (kept missing : List Frame) (between : List WaitingAck) : Type 0 where
  freed : List Frame
  releases : ReleasesAll old first freed between
  parted : AreParted kept missing freed

free_lost : (old between new : List WaitingAck) (first : List Delivery) (it : Delivery) (kept missing : List Frame) (site : Option SiteNo) →
    Freed old first kept missing between → Releases between it.0 it.2 site new → length (released it.0 it.2 site) ≡ 1 →
    Freed old (first ++ it ∷ []) kept (missing ++ released it.0 it.2 site) new
free_lost old between new first it kept missing None freed releases one = absurd (omega (arith, one))
free_lost old between new first it kept missing (Some site) freed releases one = record {
  freed = freed.freed ++ (it.0, site, Ack it.2) ∷ [];
  releases = releases_then first it freed.freed old between new (Some site) freed.releases releases;
  parted = parted_other kept missing freed.freed (it.0, site, Ack it.2) freed.parted;
}

free_sent : (old between new : List WaitingAck) (first : List Delivery) (it : Delivery) (kept missing : List Frame) (site : Option SiteNo) →
    Freed old first kept missing between → Releases between it.0 it.2 site new →
    Freed old (first ++ it ∷ []) (kept ++ released it.0 it.2 site) missing new
free_sent old between new first it kept missing None freed releases = record {
  freed = freed.freed ++ [];
  releases = releases_then first it freed.freed old between new None freed.releases releases;
  parted = subst (λ (l : List Frame). AreParted l missing (freed.freed ++ [])) (sym (append-nil kept))
      (subst (λ (l : List Frame). AreParted kept missing l) (sym (append-nil freed.freed)) freed.parted);
}
free_sent old between new first it kept missing (Some site) freed releases = record {
  freed = freed.freed ++ (it.0, site, Ack it.2) ∷ [];
  releases = releases_then first it freed.freed old between new (Some site) freed.releases releases;
  parted = parted_own kept missing freed.freed (it.0, site, Ack it.2) freed.parted;
}

pub one_lost : (it : Delivery) → {old between new : List WaitingAck} {frames went more : List Frame} {first : List Delivery} {lost : ℕ} →
    Released old frames first went between lost → ReleasesOne between went it true new more →
    Released old frames (first ++ it ∷ []) more new (lost + 1)
one_lost it {old} {between} {new} {frames} {went} {more} {first} {lost} all one =
    let gone : Freed old (first ++ it ∷ []) all.kept (all.missing ++ released it.0 it.2 one.0) new =
    free_lost old between new first it all.kept all.missing one.0
    (record { freed = all.freed; releases = all.releases; parted = all.parted }) one.1 one.2.1 in
    record {
      freed = gone.freed;
      kept = all.kept;
      missing = all.missing ++ released it.0 it.2 one.0;
      releases = gone.releases;
      parted = gone.parted;
      counted = omega (arith, length-append all.missing (released it.0 it.2 one.0), all.counted, one.2.1);
      goes = one.2.0 ∙ all.goes;
    }

pub one_sent : (it : Delivery) → {old between new : List WaitingAck} {frames went more : List Frame} {first : List Delivery} {lost : ℕ} →
    Released old frames first went between lost → ReleasesOne between went it false new more →
    Released old frames (first ++ it ∷ []) more new lost
one_sent it {old} {between} {new} {frames} {went} {more} {first} {lost} all one =
    let gone : Freed old (first ++ it ∷ []) (all.kept ++ released it.0 it.2 one.0) all.missing new =
    free_sent old between new first it all.kept all.missing one.0
    (record { freed = all.freed; releases = all.releases; parted = all.parted }) one.1 in
    record {
      freed = gone.freed;
      kept = all.kept ++ released it.0 it.2 one.0;
      missing = all.missing;
      releases = gone.releases;
      parted = gone.parted;
      counted = all.counted;
      goes = one.2
          ∙ (ap (λ (l : List Frame). l ++ released it.0 it.2 one.0) all.goes
          ∙ append_assoc frames all.kept (released it.0 it.2 one.0));
    }

pub upto_more : (delivered : List Delivery) (place : ℕ) (it : Delivery) → place < length delivered → it ≡ get_or delivered place it →
    take place delivered ++ it ∷ [] ≡ take (place + 1) delivered
upto_more delivered place it within is =
    sym (take_more delivered place it within ∙ ap (λ (d : Delivery). take place delivered ++ d ∷ []) (sym is))

-- one is taken out of its place
pub taken_out : (acks new : List WaitingAck) (place : ℕ) (domain : DomainNo) (id : Uid) (ack : WaitingAck) → place < length acks →
    ack ≡ get_or acks place ack → (get_or acks place ack).0 ≡ domain → (get_or acks place ack).2 ≡ id → new ≡ remove acks place →
    IsTakenOut acks (domain, ack.1, id) new
taken_out acks new place domain id ack within read of_domain of_id is =
    let all : acks ≡ take place acks ++ get_or acks place ack ∷ drop (suc place) acks =
    sym (set-get_or acks place ack) ∙ set_split acks place (get_or acks place ack) within in
    let back : get_or acks place ack ≡ ack = sym read in
    let same : get_or acks place ack ≡ (domain, ack.1, id) = λ i. (of_domain i, (back i).1, of_id i) in (
      take place acks,
      drop (suc place) acks,
      all ∙ ap (λ (a : WaitingAck). take place acks ++ a ∷ drop (suc place) acks) same,
      is,
    )
