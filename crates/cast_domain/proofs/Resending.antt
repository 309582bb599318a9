-- All frames that are due are sent again first, and then owed for another moment: the same as one frame after the other. And
-- a message is sent to many sites as one frame.
use Rattle.std.proofs.Common.{◌≡◌, ℕ, true, List, [], ◌∷◌, Option, Some, None, refl, sym, ap, ◌∙◌}
use Rattle.std.specs.Prelude.{◌==◌}
use Rattle.std.specs.List.{fold}
use Rattle.std.specs.Option.{option_map, option_map_or, option_and_then}
use Rattle.std.proofs.lemmas.Bool.{and_parts, false≢true}
use Rattle.cast_types.specs.declared.names.SiteNo.{SiteNo}
use Rattle.cast_message.specs.declared.site.SiteFrame.{SiteFrame}
use Rattle.cast_timer.specs.declared.key.OwedKey.{OwedKey}
use Rattle.cast_timer.specs.declared.key.OwedKind.{OwedKind}
use Rattle.cast_timer.specs.declared.key.OwedKind.TheVariants.{Ask, Data, Prepare, Want, Install, Ack}
use Rattle.cast_timer.specs.declared.key.Side.TheVariants.{Site, Home}
use Rattle.cast_timer.specs.Owed.{renew, due_at, kind_rank, key_eq, is_same_message}
use Rattle.cast_timer.proofs.Owing.{same_key}
use Rattle.cast_rules.specs.Rules.Owing.{frame_of_kind, frame_for, send_for, resend, resend_due}
use Rattle.cast_domain.specs.Shared.{part_renewing_due}
use Rattle.cast_domain.specs.Records.{Records}
use Rattle.cast_domain.specs.Resent.{IsFrameOf}
use Rattle.cast_domain.specs.PartCalls.{place_in, send_in, note_resent_in, next_due_in}
use Rattle.cast_domain.specs.Calls.{records}

-- what a frame says does not hang on what is owed
kind_same : (r : Records) (k x : OwedKey) (h : ℕ) (kind : OwedKind)
    → frame_of_kind records (note_resent_in r k) h x kind ≡ frame_of_kind records r h x kind
kind_same r k x h Ask = refl
kind_same r k x h Data = refl
kind_same r k x h Prepare = refl
kind_same r k x h Want =
    elim x.side as (λ side. frame_of_kind records (note_resent_in r k) h (record x { side = side }) Want
    ≡ frame_of_kind records r h (record x { side = side }) Want) [
      | Site ↦ refl
      | Home ↦ refl
    ]
kind_same r k x h Install = refl
kind_same r k x h Ack = refl

frame_same : (r : Records) (k x : OwedKey) → frame_for records (note_resent_in r k) x ≡ frame_for records r x
frame_same r k x =
    elim (place_in r x.group) as (λ o. option_and_then (λ h. frame_of_kind records (note_resent_in r k) h x x.kind) o
    ≡ option_and_then (λ h. frame_of_kind records r h x x.kind) o) [
      | None ↦ refl
      | Some h ↦ kind_same r k x h x.kind
    ]

-- and what is owed does not hang on what was sent
sent_noted : (r : Records) (k x : OwedKey) → send_for records (note_resent_in r k) x ≡ note_resent_in (send_for records r x) k
sent_noted r k x =
    ap (λ o. option_map_or (send_in (note_resent_in r k) x.site) o (note_resent_in r k)) (frame_same r k x)
    ∙ (elim (frame_for records r x) as (λ (o : Option SiteFrame).
    option_map_or (send_in (note_resent_in r k) x.site) o (note_resent_in r k) ≡ note_resent_in (option_map_or (send_in r x.site) o r) k) [
      | None ↦ refl
      | Some f ↦ refl
    ])

all_sent_noted : (keys : List OwedKey) (r : Records) (k : OwedKey)
    → fold (send_for records) (note_resent_in r k) keys ≡ note_resent_in (fold (send_for records) r keys) k
all_sent_noted [] r k = refl
all_sent_noted (x ∷ keys) r k = ap (λ s. fold (send_for records) s keys) (sent_noted r k x) ∙ all_sent_noted keys (send_for records r x) k

one_by_one : (keys : List OwedKey) (r : Records) → fold note_resent_in (fold (send_for records) r keys) keys ≡ fold (resend records) r keys
one_by_one [] r = refl
one_by_one (x ∷ keys) r =
    ap (λ s. fold note_resent_in s keys) (sym (all_sent_noted keys (send_for records r x) x))
    ∙ one_by_one keys (note_resent_in (send_for records r x) x)

noted : (keys : List OwedKey) (r : Records)
    → fold note_resent_in r keys ≡ record r { part = record r.part { owed = fold (λ os k. renew os k (next_due_in r)) r.part.owed keys } }
noted [] r = refl
noted (x ∷ keys) r = noted keys (note_resent_in r x)

-- sending leaves the domain's part
part_sent : (r : Records) (x : OwedKey) → (send_for records r x).part ≡ r.part
part_sent r x = elim (frame_for records r x) as (λ (o : Option SiteFrame). (option_map_or (send_in r x.site) o r).part ≡ r.part) [
  | None ↦ refl
  | Some f ↦ refl
]

pub part_all_sent : (keys : List OwedKey) (r : Records) → (fold (send_for records) r keys).part ≡ r.part
part_all_sent [] r = refl
part_all_sent (x ∷ keys) r = part_all_sent keys (send_for records r x) ∙ part_sent r x

-- all that is due is sent, and then all of it is owed for the next moment
pub resent : (r sent : Records) → sent ≡ fold (send_for records) r (due_at r.moment r.part.owed) → sent.moment ≡ r.moment
    → record sent { part = part_renewing_due sent.part sent.moment (next_due_in sent) } ≡ resend_due records r
resent r sent is moment =
    let keys = due_at r.moment r.part.owed in
    let part : sent.part ≡ r.part = ap (λ (s : Records). s.part) is ∙ part_all_sent keys r in
    let same : due_at sent.moment sent.part.owed ≡ keys = λ i. due_at (moment i) (part i).owed in
    sym (noted (due_at sent.moment sent.part.owed) sent)
    ∙ ap (λ all. fold note_resent_in sent all) same
    ∙ ap (λ s. fold note_resent_in s keys) is
    ∙ one_by_one keys r

data_of : (kind : OwedKind) → kind_rank kind == 1 ≡ true → kind ≡ Data
data_of Ask is = absurd (false≢true is)
data_of Data is = refl
data_of Prepare is = absurd (false≢true is)
data_of Want is = absurd (false≢true is)
data_of Install is = absurd (false≢true is)
data_of Ack is = absurd (false≢true is)

-- a message says the same to each site
site_alike : (r : Records) (x : OwedKey) (s : SiteNo) → x.kind ≡ Data → frame_for records r (record x { site = s }) ≡ frame_for records r x
site_alike r x s is =
    ap (λ kind. option_and_then (λ h. frame_of_kind records r h (record x { site = s }) kind) (place_in r x.group)) is
    ∙ ap (λ kind. option_and_then (λ h. frame_of_kind records r h x kind) (place_in r x.group)) (sym is)

pub same_frame : (r : Records) (key other : OwedKey) → is_same_message key other ≡ true
    → frame_for records r key ≡ frame_for records r other
same_frame r key other same =
    let parts = and_parts (kind_rank key.kind == kind_rank Data) (key_eq (record other { site = key.site }) key) same in
    let is : record other { site = key.site } ≡ key = same_key (record other { site = key.site }) key parts.1 in
    let kind : other.kind ≡ Data = ap (λ (k : OwedKey). k.kind) is ∙ data_of key.kind parts.0 in
    ap (frame_for records r) (sym is) ∙ site_alike r other key.site kind

-- what a key stands for, with the key
pub stands_found : (r : Records) (key : OwedKey) (o : Option SiteFrame) → frame_for records r key ≡ o
    → IsFrameOf r (option_map (λ x. (key, x)) o)
stands_found r key None is = cc
stands_found r key (Some f) is = is

pub found_alone : (key : OwedKey) (o : Option SiteFrame) → option_map (λ (l : OwedKey × SiteFrame). l.1) (option_map (λ x. (key, x)) o) ≡ o
found_alone key None = refl
found_alone key (Some f) = refl
