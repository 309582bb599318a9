-- The logs of all groups: what one group has while its own or another's changes or goes.
use Rattle.std.proofs.Common.{◌≡◌, ℕ, ◌+◌, ◌-◌, min, Bool, true, false, cond, not, ◌||◌, List, [], ◌∷◌, ◌++◌}
use Rattle.std.proofs.Common.{drop, length, Some, None, unwrap_or, refl, sym, ap, ◌∙◌, inl, inr, arith}
use Rattle.std.specs.Prelude.{if◌then◌else◌}
use Rattle.std.specs.List.{find, list_any}
use Rattle.std.specs.Option.{option_or}
use Rattle.std.proofs.lemmas.Bool.{cases_Bool, false≢true, or_parts}
use Rattle.std.proofs.lemmas.List.{map-append}
use Rattle.std.proofs.lemmas.List.Folds.{find-append}
use Rattle.cast_types.specs.declared.limits.TheConstants.{MAX_POSITION}
use Rattle.cast_types.specs.declared.names.GroupNo.{GroupNo}
use Rattle.cast_types.specs.Names.{group_eq}
use Rattle.cast_types.proofs.Orders.{same_group, group_itself}
use Rattle.cast_order.specs.Log.{Log, new_log, log_of, change_in, open_log, change_log, but_log, forgot}
use Rattle.cast_order.specs.Laws.{ChangeIsOfOneGroup, ForgetFirstIsOfOneGroup, ForgetIsOfOneGroup}
use Rattle.cast_order.proofs.Lists.{or_none}

abbrev of_group : GroupNo → Log → Bool
of_group g l = group_eq l.group g

-- where a group has no log none changes, and none is found
none_changes : (g : GroupNo) (f : Log → Log) (logs : List Log) → list_any (of_group g) logs ≡ false → logs ≡ change_in g f logs
none_changes g f [] none = refl
none_changes g f (l ∷ logs) none =
    let parts = or_parts (group_eq l.group g) (list_any (of_group g) logs) none in
    λ i. cond (sym parts.0 i) (f l) l ∷ none_changes g f logs parts.1 i

none_found : (g : GroupNo) (logs : List Log) → list_any (of_group g) logs ≡ false → find (of_group g) logs ≡ None
none_found g [] none = refl
none_found g (l ∷ logs) none =
    let parts = or_parts (group_eq l.group g) (list_any (of_group g) logs) none in
    ap (λ b. cond b (Some l) (find (of_group g) logs)) parts.0 ∙ none_found g logs parts.1

-- to change a group's log is to open it, and to change it
pub change_opened : (g : GroupNo) (f : Log → Log) (logs : List Log) → change_in g f (open_log g logs) ≡ change_log g f logs
change_opened g f logs =
    elim (list_any (of_group g) logs) as (λ b. list_any (of_group g) logs ≡ b →
    change_in g f (cond b logs (logs ++ new_log g ∷ [])) ≡ cond b (change_in g f logs) (logs ++ f (new_log g) ∷ [])) [
      | true ↦ λ _. refl
      | false ↦ λ none.
          map-append (λ l. if group_eq l.group g then f l else l) logs (new_log g ∷ [])
          ∙ (λ i. sym (none_changes g f logs none) i ++ cond (group_itself g i) (f (new_log g)) (new_log g) ∷ [])
    ] refl

-- a change keeps the group that a log is of
abbrev pub KeepsGroup : (Log → Log) → Type 0
KeepsGroup f = (l : Log) → (f l).group ≡ l.group

-- the group's own log is changed
own_in : (g : GroupNo) (f : Log → Log) → KeepsGroup f → (logs : List Log) → list_any (of_group g) logs ≡ true →
    unwrap_or (find (of_group g) (change_in g f logs)) (new_log g) ≡ f (unwrap_or (find (of_group g) logs) (new_log g))
own_in g f keeps [] some = absurd (false≢true some)
own_in g f keeps (l ∷ logs) some = elim (cases_Bool (group_eq l.group g)) [
  | inl here ↦
      let found : find (of_group g) (l ∷ logs) ≡ Some l = ap (λ b. cond b (Some l) (find (of_group g) logs)) here in
      let changed : change_in g f (l ∷ logs) ≡ f l ∷ change_in g f logs = ap (λ b. cond b (f l) l ∷ change_in g f logs) here in
      let still : group_eq (f l).group g ≡ true = ap (λ h. group_eq h g) (keeps l) ∙ here in
      ap (λ ls. unwrap_or (find (of_group g) ls) (new_log g)) changed
      ∙ ap (λ b. unwrap_or (cond b (Some (f l)) (find (of_group g) (change_in g f logs))) (new_log g)) still
      ∙ ap (λ o. f (unwrap_or o (new_log g))) (sym found)
  | inr other ↦
      let rest : list_any (of_group g) logs ≡ true = ap (λ b. b || list_any (of_group g) logs) (sym other) ∙ some in
      let found : find (of_group g) (l ∷ logs) ≡ find (of_group g) logs = ap (λ b. cond b (Some l) (find (of_group g) logs)) other in
      let changed : change_in g f (l ∷ logs) ≡ l ∷ change_in g f logs = ap (λ b. cond b (f l) l ∷ change_in g f logs) other in
      ap (λ ls. unwrap_or (find (of_group g) ls) (new_log g)) changed
      ∙ ap (λ b. unwrap_or (cond b (Some l) (find (of_group g) (change_in g f logs))) (new_log g)) other
      ∙ own_in g f keeps logs rest
      ∙ ap (λ o. f (unwrap_or o (new_log g))) (sym found)
]

pub change_own : (g : GroupNo) (f : Log → Log) → KeepsGroup f → (logs : List Log) → log_of (change_log g f logs) g ≡ f (log_of logs g)
change_own g f keeps logs =
    elim (list_any (of_group g) logs)
    as (λ b. list_any (of_group g) logs ≡ b → log_of (cond b (change_in g f logs) (logs ++ f (new_log g) ∷ [])) g ≡ f (log_of logs g)) [
      | true ↦ λ some. own_in g f keeps logs some
      | false ↦ λ none.
          let still : group_eq (f (new_log g)).group g ≡ true = ap (λ h. group_eq h g) (keeps (new_log g)) ∙ group_itself g in
          ap (λ o. unwrap_or o (new_log g)) (find-append (of_group g) logs (f (new_log g) ∷ []))
          ∙ ap (λ o. unwrap_or (option_or o (find (of_group g) (f (new_log g) ∷ []))) (new_log g)) (none_found g logs none)
          ∙ ap (λ b. unwrap_or (cond b (Some (f (new_log g))) None) (new_log g)) still
          ∙ ap (λ o. f (unwrap_or o (new_log g))) (sym (none_found g logs none))
    ] refl

-- and no other's
apart_of : (g h k : GroupNo) → group_eq g h ≡ false → group_eq k g ≡ true → group_eq k h ≡ false
apart_of g h k other same = ap (λ j. group_eq j h) (same_group k g same) ∙ other

other_in : (g h : GroupNo) (f : Log → Log) → KeepsGroup f → group_eq g h ≡ false → (logs : List Log) →
    find (of_group h) (change_in g f logs) ≡ find (of_group h) logs
other_in g h f keeps other [] = refl
other_in g h f keeps other (l ∷ logs) = elim (cases_Bool (group_eq l.group g)) [
  | inl same ↦
      let out = apart_of g h l.group other same in
      let changed : change_in g f (l ∷ logs) ≡ f l ∷ change_in g f logs = ap (λ b. cond b (f l) l ∷ change_in g f logs) same in
      ap (find (of_group h)) changed
      ∙ ap (λ b. cond b (Some (f l)) (find (of_group h) (change_in g f logs))) (ap (λ k. group_eq k h) (keeps l) ∙ out)
      ∙ other_in g h f keeps other logs
      ∙ ap (λ b. cond b (Some l) (find (of_group h) logs)) (sym out)
  | inr apart ↦
      let changed : change_in g f (l ∷ logs) ≡ l ∷ change_in g f logs = ap (λ b. cond b (f l) l ∷ change_in g f logs) apart in
      ap (find (of_group h)) changed
      ∙ ap (λ o. cond (group_eq l.group h) (Some l) o) (other_in g h f keeps other logs)
]

pub change_other : (g h : GroupNo) (f : Log → Log) → KeepsGroup f → group_eq g h ≡ false → (logs : List Log) →
    log_of (change_log g f logs) h ≡ log_of logs h
change_other g h f keeps other logs =
    elim (list_any (of_group g) logs) as (λ b. log_of (cond b (change_in g f logs) (logs ++ f (new_log g) ∷ [])) h ≡ log_of logs h) [
      | true ↦ ap (λ o. unwrap_or o (new_log h)) (other_in g h f keeps other logs)
      | false ↦
          let out : group_eq (f (new_log g)).group h ≡ false = ap (λ k. group_eq k h) (keeps (new_log g)) ∙ other in
          ap (λ o. unwrap_or o (new_log h)) (
          find-append (of_group h) logs (f (new_log g) ∷ [])
          ∙ ap (λ b. option_or (find (of_group h) logs) (cond b (Some (f (new_log g))) None)) out
          ∙ or_none (find (of_group h) logs))
    ]

-- what each group has after one's log is changed
pub log_of_change : ChangeIsOfOneGroup
log_of_change logs g h f keeps = elim (cases_Bool (group_eq g h)) [
  | inl same ↦
      ap (log_of (change_log g f logs)) (sym (same_group g h same))
      ∙ change_own g f keeps logs
      ∙ ap (λ b. cond b (f (log_of logs g)) (log_of logs h)) (sym same)
  | inr other ↦
      change_other g h f keeps other logs
      ∙ ap (λ b. cond b (f (log_of logs g)) (log_of logs h)) (sym other)
]

-- a new log has no ids to forget
new_forgets : (g : GroupNo) (count : ℕ) → forgot count (new_log g) ≡ new_log g
new_forgets g count =
    let more : ℕ = min (MAX_POSITION - 0) (min count 0) in
    let none : more ≡ 0 = omega arith in
    λ i. record (new_log g) { base = 0 + none i; window = drop (none i) [] }

none_forgets : (g h : GroupNo) (count : ℕ) (logs : List Log) → list_any (of_group g) logs ≡ false →
    log_of (change_in g (forgot count) logs) h ≡ (if group_eq g h then forgot count (log_of logs g) else log_of logs h)
none_forgets g h count logs none =
    ap (λ ls. log_of ls h) (sym (none_changes g (forgot count) logs none)) ∙ elim (cases_Bool (group_eq g h)) [
      | inl same ↦
          let lost : log_of logs g ≡ new_log g = ap (λ o. unwrap_or o (new_log g)) (none_found g logs none) in
          ap (log_of logs) (sym (same_group g h same))
          ∙ lost ∙ sym (new_forgets g count) ∙ ap (forgot count) (sym lost)
          ∙ ap (λ b. cond b (forgot count (log_of logs g)) (log_of logs h)) (sym same)
      | inr other ↦ ap (λ b. cond b (forgot count (log_of logs g)) (log_of logs h)) (sym other)
    ]

-- what each group has after one's first ids are forgotten
pub log_of_forget_first : ForgetFirstIsOfOneGroup
log_of_forget_first logs g h count = elim (cases_Bool (list_any (of_group g) logs)) [
  | inl some ↦
      ap (λ b. log_of (cond b (change_in g (forgot count) logs) (logs ++ forgot count (new_log g) ∷ [])) h) (sym some)
      ∙ log_of_change logs g h (forgot count) (λ l. refl)
  | inr none ↦ none_forgets g h count logs none
]

-- a forgotten log is not found, and each other one is
gone : (g : GroupNo) (logs : List Log) → find (of_group g) (but_log g logs) ≡ None
gone g [] = refl
gone g (l ∷ logs) = elim (cases_Bool (group_eq l.group g)) [
  | inl same ↦ ap (λ b. find (of_group g) (cond (not b) (l ∷ but_log g logs) (but_log g logs))) same ∙ gone g logs
  | inr other ↦
      ap (λ b. find (of_group g) (cond (not b) (l ∷ but_log g logs) (but_log g logs))) other
      ∙ ap (λ b. cond b (Some l) (find (of_group g) (but_log g logs))) other
      ∙ gone g logs
]

stays : (g h : GroupNo) → group_eq g h ≡ false → (logs : List Log) → find (of_group h) (but_log g logs) ≡ find (of_group h) logs
stays g h other [] = refl
stays g h other (l ∷ logs) = elim (cases_Bool (group_eq l.group g)) [
  | inl same ↦
      ap (λ b. find (of_group h) (cond (not b) (l ∷ but_log g logs) (but_log g logs))) same
      ∙ stays g h other logs
      ∙ ap (λ b. cond b (Some l) (find (of_group h) logs)) (sym (apart_of g h l.group other same))
  | inr apart ↦
      ap (λ b. find (of_group h) (cond (not b) (l ∷ but_log g logs) (but_log g logs))) apart
      ∙ ap (λ o. cond (group_eq l.group h) (Some l) o) (stays g h other logs)
]

pub log_of_forget : ForgetIsOfOneGroup
log_of_forget logs g h = elim (cases_Bool (group_eq g h)) [
  | inl same ↦
      ap (log_of (but_log g logs)) (sym (same_group g h same))
      ∙ ap (λ o. unwrap_or o (new_log g)) (gone g logs)
      ∙ ap (λ b. cond b (new_log g) (log_of logs h)) (sym same)
  | inr other ↦
      ap (λ o. unwrap_or o (new_log h)) (stays g h other logs)
      ∙ ap (λ b. cond b (new_log g) (log_of logs h)) (sym other)
]

-- what no log passes the group's own passes neither, also where it has none
pub none_of : (test : Log → Bool) (g : GroupNo) → test (new_log g) ≡ false → (logs : List Log) → list_any test logs ≡ false →
    test (log_of logs g) ≡ false
none_of test g new [] none = new
none_of test g new (l ∷ logs) none =
    let parts = or_parts (test l) (list_any test logs) none in
    elim (group_eq l.group g) as (λ b. test (unwrap_or (cond b (Some l) (find (of_group g) logs)) (new_log g)) ≡ false) [
      | true ↦ parts.0
      | false ↦ none_of test g new logs parts.1
    ]

-- a change that changes nothing
pub same_in : (g : GroupNo) (f : Log → Log) → ((l : Log) → f l ≡ l) → (logs : List Log) → change_in g f logs ≡ logs
same_in g f same [] = refl
same_in g f same (l ∷ logs) =
    λ i. elim (group_eq l.group g) as (λ b. cond b (f l) l ≡ l) [ true ↦ same l | false ↦ refl ] i ∷ same_in g f same logs i

-- where no id is forgotten the log stays
pub forgot_none : (l : Log) → forgot 0 l ≡ l
forgot_none l =
    let none : min (MAX_POSITION - l.base) (min 0 (length l.window)) ≡ 0 = omega arith in
    let base : l.base + min (MAX_POSITION - l.base) (min 0 (length l.window)) ≡ l.base = omega (arith, none) in
    λ i. record l { base = base i; window = drop (none i) l.window }
