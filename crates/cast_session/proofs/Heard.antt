-- What is heard of bytes that come in parts.
use Rattle.std.proofs.Common.{◌≡◌, ℕ, zero, suc, ◌≤◌, List, [], ◌∷◌, ◌++◌, length, drop}
use Rattle.std.proofs.Common.{map, Some, Result, Ok, Err, refl, sym, ap, ◌∙◌, arith}
use Rattle.std.proofs.lemmas.List.{append-nil, length-drop, drop-append-le}
use Rattle.std.proofs.Math.Seq.{drop-append_seam}
use Rattle.cast_field.specs.declared.fault.FrameFault.{FrameFault}
use Rattle.cast_message.specs.declared.client.ClientFrame.{ClientFrame}
use Rattle.cast_message.specs.declared.client.ClientFrame.TheVariants as client
use Rattle.cast_client.specs.declared.front.ClientRead.{ClientRead}
use Rattle.cast_client.specs.declared.front.ClientRead.TheVariants.{Frame, More}
use Rattle.cast_message.specs.declared.client.Request.{Request as Asked}
use Rattle.cast_message.specs.declared.client.Command.{Command}
use Rattle.cast_message.specs.declared.client.Command.TheVariants.{Request}
use Rattle.cast_client.specs.Reading.{client_of}
use Rattle.cast_client.proofs.Stays.{frame_is_there, length_fits, frame_stays, fault_stays}
use Rattle.cast_device.specs.Writing.{IsBeginning}
use Rattle.cast_session.specs.Commands.{Heard, nothing, and_then, heard_of, commands_within, commands_of}
use Rattle.cast_session.proofs.Fronts.{no_front}
use Rattle.cast_session.specs.Laws.{CommandsStay, FaultEnds, RequestsThenBad, bad_for}

-- what is left behind a frame is shorter, and what comes later is still behind it
pub record IsBehind (bytes : List ℕ) (n : ℕ) : Type 0 where
  pub shorter : (fuel : ℕ) → length bytes ≤ suc fuel → length (drop n bytes) ≤ fuel
  pub later : (more : List ℕ) → drop n (bytes ++ more) ≡ drop n bytes ++ more

pub behind : (bytes : List ℕ) (f : ClientFrame) (n : ℕ) → client_of bytes ≡ Ok (Frame f n) → IsBehind bytes n
behind bytes f n e =
    let there = frame_is_there bytes f n e in
    let least = (length_fits bytes n there.says).least in
    record { shorter = λ fuel h. omega (arith, length-drop n bytes, least); later = λ more. drop-append-le n bytes more there.whole }

-- ---- all that is heard is what the first frame says, and then what is heard behind it

same_heard : (read : Result ClientRead FrameFault) (a b : ℕ → Heard) → ((f : ClientFrame) (n : ℕ) → read ≡ Ok (Frame f n) → a n ≡ b n) →
    heard_of read a ≡ heard_of read b
same_heard (Ok (Frame (client.Request r) n)) a b same = ap (and_then (Request r ∷ [])) (same (client.Request r) n refl)
same_heard (Ok (Frame (client.Push p) n)) a b same = refl
same_heard (Ok (More n)) a b same = refl
same_heard (Err e) a b same = refl

enough : (i j : ℕ) (bytes : List ℕ) → length bytes ≤ i → length bytes ≤ j → commands_within i bytes ≡ commands_within j bytes
unfolding commands_within
enough zero zero bytes p q = refl
enough zero (suc j) [] p q = rw no_front refl
enough (suc i) zero [] p q = rw no_front refl
enough zero (suc j) (b ∷ bytes) p q = absurd (omega arith)
enough (suc i) zero (b ∷ bytes) p q = absurd (omega arith)
enough (suc i) (suc j) bytes p q =
    same_heard (client_of bytes) (λ n. commands_within i (drop n bytes)) (λ n. commands_within j (drop n bytes))
    (λ f n e. let left = behind bytes f n e in enough i j (drop n bytes) (left.shorter i p) (left.shorter j q))

pub by_the_first : (bytes : List ℕ) → commands_of bytes ≡ heard_of (client_of bytes) (λ n. commands_of (drop n bytes))
unfolding commands_of commands_within
by_the_first [] = rw no_front refl
by_the_first (b ∷ bytes) =
    same_heard (client_of (b ∷ bytes)) (λ n. commands_within (length bytes) (drop n (b ∷ bytes))) (λ n. commands_of (drop n (b ∷ bytes)))
    (λ f n e.
    let left =
    behind (b ∷ bytes) f n e in
    enough (length bytes) (length (drop n (b ∷ bytes))) (drop n (b ∷ bytes)) (left.shorter (length bytes) (omega arith)) (omega arith))

pub by_what_stands : (bytes : List ℕ) (read : Result ClientRead FrameFault) → client_of bytes ≡ read →
    commands_of bytes ≡ heard_of read (λ n. commands_of (drop n bytes))
by_what_stands bytes read e = by_the_first bytes ∙ ap (λ (r : Result ClientRead FrameFault). heard_of r (λ n. commands_of (drop n bytes))) e

-- a whole request, and whatever comes behind it
pub request_first : (bytes rest : List ℕ) (r : Asked) → client_of bytes ≡ Ok (Frame (client.Request r) (length bytes)) →
    commands_of (bytes ++ rest) ≡ and_then (Request r ∷ []) (commands_of rest)
request_first bytes rest r e =
    by_what_stands (bytes ++ rest) (Ok (Frame (client.Request r) (length bytes)))
    (frame_stays bytes rest (client.Request r) (length bytes) e)
    ∙ ap (λ (l : List ℕ). and_then (Request r ∷ []) (commands_of l)) (drop-append_seam bytes rest)

-- ---- more bytes come

record Stays (first all : Heard) : Type 0 where
  commands : IsBeginning first.commands all.commands
  fault : (e : FrameFault) → first.fault ≡ Some e → all ≡ first

silence_stays : (all : Heard) → Stays nothing all
silence_stays all = record { commands = (all.commands, refl); fault = λ e no. absurd cc }

same_stays : (first all : Heard) → all ≡ first → Stays first all
same_stays first all same = record { commands = ([], rw same (sym (append-nil first.commands))); fault = λ e is. same }

request_stays : (c : Command) (first all : Heard) → Stays first all → Stays (and_then (c ∷ []) first) (and_then (c ∷ []) all)
request_stays c first all stays =
    record {
      commands = (stays.commands.0, ap (λ (l : List Command). c ∷ l) stays.commands.1);
      fault = λ e is. ap (and_then (c ∷ [])) (stays.fault e is);
    }

-- all bytes that are no more than these stay heard
abbrev StayTo : ℕ → Type 0
StayTo fuel = (bytes more : List ℕ) → length bytes ≤ fuel → Stays (commands_of bytes) (commands_of (bytes ++ more))

stays_at : (fuel : ℕ) → StayTo fuel → (bytes more : List ℕ) (read : Result ClientRead FrameFault) → length bytes ≤ suc fuel →
    client_of bytes ≡ read → Stays (commands_of bytes) (commands_of (bytes ++ more))
stays_at fuel stay bytes more (Ok (Frame (client.Request r) n)) few e =
    let left = behind bytes (client.Request r) n e in
    rw (by_what_stands bytes _ e, by_what_stands (bytes ++ more) _ (frame_stays bytes more _ n e), left.later more)
    (request_stays (Request r) (commands_of (drop n bytes)) (commands_of (drop n bytes ++ more))
    (stay (drop n bytes) more (left.shorter fuel few)))
stays_at fuel stay bytes more (Ok (Frame (client.Push p) n)) few e =
    same_stays (commands_of bytes) (commands_of (bytes ++ more))
    (by_what_stands (bytes ++ more) _ (frame_stays bytes more _ n e) ∙ sym (by_what_stands bytes _ e))
stays_at fuel stay bytes more (Ok (More n)) few e = rw (by_what_stands bytes _ e) (silence_stays (commands_of (bytes ++ more)))
stays_at fuel stay bytes more (Err d) few e =
    same_stays (commands_of bytes) (commands_of (bytes ++ more))
    (by_what_stands (bytes ++ more) _ (fault_stays bytes more d e) ∙ sym (by_what_stands bytes _ e))

stays_within : (fuel : ℕ) → StayTo fuel
stays_within zero [] more few = rw (by_what_stands [] (Ok (More 4)) no_front) (silence_stays (commands_of more))
stays_within zero (b ∷ bytes) more few = absurd (omega arith)
stays_within (suc fuel) bytes more few = stays_at fuel (stays_within fuel) bytes more (client_of bytes) few refl

pub commands_stay : CommandsStay
commands_stay bytes more = (stays_within (length bytes) bytes more (omega arith)).commands

pub fault_ends : FaultEnds
fault_ends bytes more e is = (stays_within (length bytes) bytes more (omega arith)).fault e is

-- ---- requests, and then what a fault is

abbrev AreRequestsThenBad : Heard → Type 0
AreRequestsThenBad said = (requests : List Asked) × (said.commands ≡ map Request requests ++ bad_for said.fault)

requests_at : (fuel : ℕ) → ((bytes : List ℕ) → length bytes ≤ fuel → AreRequestsThenBad (commands_of bytes)) →
    (bytes : List ℕ) (read : Result ClientRead FrameFault) → length bytes ≤ suc fuel → client_of bytes ≡ read →
    AreRequestsThenBad (commands_of bytes)
requests_at fuel are bytes (Ok (Frame (client.Request r) n)) few e =
    let rest = are (drop n bytes) ((behind bytes (client.Request r) n e).shorter fuel few) in
    rw (by_what_stands bytes _ e) (r ∷ rest.0, ap (λ (l : List Command). Request r ∷ l) rest.1)
requests_at fuel are bytes (Ok (Frame (client.Push p) n)) few e = rw (by_what_stands bytes _ e) ([], refl)
requests_at fuel are bytes (Ok (More n)) few e = rw (by_what_stands bytes _ e) ([], refl)
requests_at fuel are bytes (Err d) few e = rw (by_what_stands bytes _ e) ([], refl)

requests_within : (fuel : ℕ) (bytes : List ℕ) → length bytes ≤ fuel → AreRequestsThenBad (commands_of bytes)
requests_within zero [] few = rw (by_what_stands [] (Ok (More 4)) no_front) ([], refl)
requests_within zero (b ∷ bytes) few = absurd (omega arith)
requests_within (suc fuel) bytes few = requests_at fuel (requests_within fuel) bytes (client_of bytes) few refl

pub requests_then_bad : RequestsThenBad
requests_then_bad bytes = requests_within (length bytes) bytes (omega arith)
