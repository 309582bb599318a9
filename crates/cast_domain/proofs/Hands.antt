-- What is kept of processes is of this site's alone, in their order, whatever becomes of it.
use Rattle.std.proofs.Common.{◌≡◌, ℕ, Bool, true, false, List, [], ◌∷◌, ◌++◌, length, map, take, drop, refl, sym, ap, ◌∙◌, inl, inr}
use Rattle.std.specs.Prelude.{◌&&◌, ◌||◌, if◌then◌else◌}
use Rattle.std.specs.List.{list_all, list_any, insert}
use Rattle.std.proofs.lemmas.Bool.{and_parts, and_from, or_left, or_right, cases_Bool, false≢true}
use Rattle.std.proofs.lemmas.List.Folds.{list_any-append}
use Rattle.std.proofs.lemmas.List.{take-append-drop}
use Rattle.cast_types.specs.declared.names.GroupNo.{GroupNo}
use Rattle.cast_types.specs.declared.names.SiteNo.{SiteNo}
use Rattle.cast_types.specs.declared.names.Proc.{Proc}
use Rattle.cast_types.specs.Names.{Entry, group_eq, proc_eq, site_eq}
use Rattle.cast_types.proofs.Orders.{group_itself, proc_itself}
use Rattle.cast_message.specs.Placement.{Placement}
use Rattle.cast_order.specs.Order.{facts_of}
use Rattle.cast_order.specs.Hand.{Hand, new_hand, note_placed, hand_in, hand_opened, hand_place, change_hand}
use Rattle.cast_order.specs.Log.{Log, change_in, change_log, new_log, open_log, length_of}
use Rattle.cast_order.specs.Log.{with_placement, longer, settle_log, with_facts, with_hand}
use Rattle.cast_order.proofs.Hands.{KeepsProcess, change_rises, place_rises}
use Rattle.cast_order.proofs.Logs.{KeepsGroup, change_opened}
use Rattle.cast_domain.specs.Fits.{AreOwn}

abbrev of_site : SiteNo → Hand → Bool
of_site here h = site_eq h.process.site here

all_append : {A : Type 0} (t : A → Bool) (xs ys : List A) → list_all t (xs ++ ys) ≡ (list_all t xs && list_all t ys)
all_append t [] ys = refl
all_append t (x ∷ xs) ys = ap (λ b. t x && b) (all_append t xs ys) ∙ again (t x) (list_all t xs) (list_all t ys)
  where
    again : (a b c : Bool) → (a && (b && c)) ≡ ((a && b) && c)
    again true b c = refl
    again false b c = refl

all_inserted : {A : Type 0} (t : A → Bool) (xs : List A) (i : ℕ) (x : A) → t x ≡ true → list_all t xs ≡ true →
    list_all t (insert xs i x) ≡ true
all_inserted t xs i x passes all =
    let parts =
    and_parts (list_all t (take i xs)) (list_all t (drop i xs))
    (sym (all_append t (take i xs) (drop i xs)) ∙ ap (list_all t) (take-append-drop i xs) ∙ all) in
    all_append t (take i xs) (x ∷ drop i xs)
    ∙ and_from (list_all t (take i xs)) (t x && list_all t (drop i xs)) parts.0 (and_from (t x) (list_all t (drop i xs)) passes parts.1)

opened_own : (here : SiteNo) (p : Proc) → site_eq p.site here ≡ true → (hands : List Hand) → list_all (of_site here) hands ≡ true →
    list_all (of_site here) (hand_opened p hands) ≡ true
opened_own here p at hands own =
    elim (list_any (λ h. proc_eq h.process p) hands)
    as (λ b. list_all (of_site here) (if b then hands else insert hands (hand_place p hands) (new_hand p)) ≡ true) [
      | true ↦ own
      | false ↦ all_inserted (of_site here) hands (hand_place p hands) (new_hand p) at own
    ]

in_own : (here : SiteNo) (p : Proc) (f : Hand → Hand) → KeepsProcess f → (hands : List Hand) → list_all (of_site here) hands ≡ true →
    list_all (of_site here) (hand_in p f hands) ≡ true
in_own here p f keeps [] own = refl
in_own here p f keeps (h ∷ hands) own =
    let parts = and_parts (of_site here h) (list_all (of_site here) hands) own in
    and_from (of_site here (if proc_eq h.process p then f h else h)) (list_all (of_site here) (hand_in p f hands))
    (elim (proc_eq h.process p) as (λ b. of_site here (if b then f h else h) ≡ true) [
      | true ↦
          ap (λ (q : Proc). site_eq q.site here) (keeps h) ∙ parts.0
      | false ↦ parts.0
    ])
    (in_own here p f keeps hands parts.1)

-- a process of the site does something
pub own_changed : (here : SiteNo) (p : Proc) → site_eq p.site here ≡ true → (f : Hand → Hand) → KeepsProcess f → (hands : List Hand) →
    AreOwn here hands → AreOwn here (change_hand p f hands)
own_changed here p at f keeps hands own = (
  change_rises p f hands keeps own.0,
  in_own here p f keeps (hand_opened p hands) (opened_own here p at hands own.1),
)

-- ids join the order known
placed_own : (here : SiteNo) (ids : List Entry) (hands : List Hand) → list_all (of_site here) hands ≡ true →
    list_all (of_site here) (map (note_placed ids) hands) ≡ true
placed_own here ids [] own = refl
placed_own here ids (h ∷ hands) own =
    let parts = and_parts (of_site here h) (list_all (of_site here) hands) own in
    and_from (of_site here h) (list_all (of_site here) (map (note_placed ids) hands)) parts.0 (placed_own here ids hands parts.1)

pub own_with_placement : (here : SiteNo) (q : Placement) (l : Log) → AreOwn here l.hands → AreOwn here (with_placement q l).hands
own_with_placement here q l own =
    let known : Log = record l { later = with_facts (length_of l) l.later (facts_of q) } in
    let ids : List Entry = drop (length l.window) (longer known) in
    elim l.closed as (λ b. AreOwn here (if b then l else settle_log known).hands) [
      | true ↦ own
      | false ↦ (place_rises ids l.hands own.0, placed_own here ids l.hands own.1)
    ]

-- Two changes of one process's hand are one

hand_there : (p : Proc) (f : Hand → Hand) → KeepsProcess f → (hands : List Hand) → list_any (λ h. proc_eq h.process p) hands ≡ true →
    list_any (λ h. proc_eq h.process p) (hand_in p f hands) ≡ true
hand_there p f keeps [] some = absurd (false≢true some)
hand_there p f keeps (h ∷ hands) some = elim (cases_Bool (proc_eq h.process p)) [
  | inl here ↦
      or_left (proc_eq (if proc_eq h.process p then f h else h).process p) (list_any (λ x. proc_eq x.process p) (hand_in p f hands))
      (ap (λ b. proc_eq (if b then f h else h).process p) here ∙ ap (λ q. proc_eq q p) (keeps h) ∙ here)
  | inr other ↦
      or_right (proc_eq (if proc_eq h.process p then f h else h).process p) (list_any (λ x. proc_eq x.process p) (hand_in p f hands))
      (hand_there p f keeps hands (sym (ap (λ b. b || list_any (λ x. proc_eq x.process p) hands) other) ∙ some))
]

in_twice : (p : Proc) (f g : Hand → Hand) → KeepsProcess g → (hands : List Hand) →
    hand_in p f (hand_in p g hands) ≡ hand_in p (λ h. f (g h)) hands
in_twice p f g keeps [] = refl
in_twice p f g keeps (h ∷ hands) = λ i. first i ∷ in_twice p f g keeps hands i
  where
    first : (if proc_eq (if proc_eq h.process p then g h else h).process p then f (if proc_eq h.process p then g h else h)
        else (if proc_eq h.process p then g h else h)) ≡ (if proc_eq h.process p then f (g h) else h)
    first =
        elim (proc_eq h.process p) as (λ b. proc_eq h.process p ≡ b → (if proc_eq (if b then g h else h).process p
        then f (if b then g h else h)
        else (if b then g h else h)) ≡ (if b then f (g h) else h)) [
          | true ↦ λ here. ap (λ b. if b then f (g h) else g h) (ap (λ q. proc_eq q p) (keeps h) ∙ here)
          | false ↦ λ other. ap (λ b. if b then f h else h) other
        ] refl

has_hand : (p : Proc) (hands : List Hand) → list_any (λ h. proc_eq h.process p) (hand_opened p hands) ≡ true
has_hand p hands =
    elim (list_any (λ h. proc_eq h.process p) hands) as (λ b. list_any (λ h. proc_eq h.process p) hands ≡ b →
    list_any (λ h. proc_eq h.process p) (if b then hands else insert hands (hand_place p hands) (new_hand p)) ≡ true) [
      | true ↦ λ some. some
      | false ↦ λ _.
          let n : ℕ = hand_place p hands in
          list_any-append (λ h. proc_eq h.process p) (take n hands) (new_hand p ∷ drop n hands)
          ∙ or_right (list_any (λ h. proc_eq h.process p) (take n hands)) (list_any (λ h. proc_eq h.process p) (new_hand p ∷ drop n hands))
          (or_left (proc_eq p p) (list_any (λ h. proc_eq h.process p) (drop n hands)) (proc_itself p))
    ] refl

hands_twice : (p : Proc) (f g : Hand → Hand) → KeepsProcess g → (hands : List Hand) →
    change_hand p f (change_hand p g hands) ≡ change_hand p (λ h. f (g h)) hands
hands_twice p f g keeps hands =
    let opened : List Hand = hand_opened p hands in
    ap (λ b. hand_in p f (if b then hand_in p g opened else insert (hand_in p g opened) (hand_place p (hand_in p g opened)) (new_hand p)))
    (hand_there p g keeps opened (has_hand p hands))
    ∙ in_twice p f g keeps opened

log_there : (g : GroupNo) (f : Log → Log) → KeepsGroup f → (logs : List Log) → list_any (λ l. group_eq l.group g) logs ≡ true →
    list_any (λ l. group_eq l.group g) (change_in g f logs) ≡ true
log_there g f keeps [] some = absurd (false≢true some)
log_there g f keeps (l ∷ logs) some = elim (cases_Bool (group_eq l.group g)) [
  | inl here ↦
      or_left (group_eq (if group_eq l.group g then f l else l).group g) (list_any (λ x. group_eq x.group g) (change_in g f logs))
      (ap (λ b. group_eq (if b then f l else l).group g) here ∙ ap (λ q. group_eq q g) (keeps l) ∙ here)
  | inr other ↦
      or_right (group_eq (if group_eq l.group g then f l else l).group g) (list_any (λ x. group_eq x.group g) (change_in g f logs))
      (log_there g f keeps logs (sym (ap (λ b. b || list_any (λ x. group_eq x.group g) logs) other) ∙ some))
]

logs_in_twice : (g : GroupNo) (f h : Log → Log) → KeepsGroup h → (logs : List Log) →
    change_in g f (change_in g h logs) ≡ change_in g (λ l. f (h l)) logs
logs_in_twice g f h keeps [] = refl
logs_in_twice g f h keeps (l ∷ logs) = λ i. first i ∷ logs_in_twice g f h keeps logs i
  where
    first : (if group_eq (if group_eq l.group g then h l else l).group g then f (if group_eq l.group g then h l else l)
        else (if group_eq l.group g then h l else l)) ≡ (if group_eq l.group g then f (h l) else l)
    first =
        elim (group_eq l.group g) as (λ b. group_eq l.group g ≡ b → (if group_eq (if b then h l else l).group g
        then f (if b then h l else l)
        else (if b then h l else l)) ≡ (if b then f (h l) else l)) [
          | true ↦ λ here. ap (λ b. if b then f (h l) else h l) (ap (λ q. group_eq q g) (keeps l) ∙ here)
          | false ↦ λ other. ap (λ b. if b then f l else l) other
        ] refl

pub logs_twice : (g : GroupNo) (p : Proc) (f h : Hand → Hand) → KeepsProcess h → (logs : List Log) →
    change_log g (with_hand p f) (change_log g (with_hand p h) logs) ≡ change_log g (with_hand p (λ x. f (h x))) logs
logs_twice g p f h keeps logs =
    sym (change_opened g (with_hand p f) (change_log g (with_hand p h) logs))
    ∙ ap (λ ls. change_in g (with_hand p f) (open_log g ls)) (sym (change_opened g (with_hand p h) logs))
    ∙ again
    ∙ logs_in_twice g (with_hand p f) (with_hand p h) (λ l. refl) (open_log g logs)
    ∙ ap (λ k. change_in g k (open_log g logs)) (λ i l. record l { hands = hands_twice p f h keeps l.hands i })
    ∙ change_opened g (with_hand p (λ x. f (h x))) logs
  where
    there : list_any (λ l. group_eq l.group g) (open_log g logs) ≡ true
    there =
        elim (list_any (λ l. group_eq l.group g) logs) as (λ b. list_any (λ l. group_eq l.group g) logs ≡ b →
        list_any (λ l. group_eq l.group g) (if b then logs else logs ++ new_log g ∷ []) ≡ true) [
          | true ↦ λ some. some
          | false ↦ λ _.
              list_any-append (λ l. group_eq l.group g) logs (new_log g ∷ [])
              ∙ or_right (list_any (λ l. group_eq l.group g) logs) (list_any (λ l. group_eq l.group g) (new_log g ∷ []))
              (or_left (group_eq g g) false (group_itself g))
        ] refl

    again : change_in g (with_hand p f) (open_log g (change_in g (with_hand p h) (open_log g logs)))
        ≡ change_in g (with_hand p f) (change_in g (with_hand p h) (open_log g logs))
    again =
        ap (λ b. change_in g (with_hand p f)
        (if b then change_in g (with_hand p h) (open_log g logs) else change_in g (with_hand p h) (open_log g logs) ++ new_log g ∷ []))
        (log_there g (with_hand p h) (λ l. refl) (open_log g logs) there)
