-- Commands that are handed on while their bytes are read.
use Rattle.std.proofs.Common.{◌≡◌, ◌≢◌, ℕ, ◌+◌, ◌-◌, ◌≤◌, ◌<◌, List, [], ◌∷◌, ◌++◌, length, take, drop, true}
use Rattle.std.proofs.Common.{false, Option, Some, None, Result, Ok, Err, refl, sym, ap, ◌∙◌, append_assoc, arith}
use Rattle.std.proofs.lemmas.List.{append-nil, length-drop, length-take-le, take-append-drop, take-take, take_rest, drop-take}
use Rattle.std.specs.Result.{is_err, OnErr, OnOk}
use Rattle.std.specs.Io.KnownBytes.{Consumes}
use Rattle.cast_field.specs.declared.fault.FrameFault.{FrameFault}
use Rattle.cast_field.specs.declared.fault.FrameFault.TheVariants.{NoMemory}
use Rattle.cast_message.specs.declared.client.ClientFrame.TheVariants as client
use Rattle.cast_client.specs.declared.front.ClientRead.{ClientRead}
use Rattle.cast_client.specs.declared.front.ClientRead.TheVariants as read
use Rattle.cast_message.specs.declared.client.Request.{Request as Asked}
use Rattle.cast_message.specs.declared.client.Command.{Command}
use Rattle.cast_message.specs.declared.client.Command.TheVariants.{Request, Bad}
use Rattle.cast_client.specs.Reading.{client_of}
use Rattle.cast_client.proofs.Stays.{length_fits, frame_is_there, frame_alone, of_the_length, of_the_frame, more_is_wanting}
use Rattle.cast_session.specs.declared.ahead.Filled.{Filled}
use Rattle.cast_session.specs.declared.ahead.Filled.TheVariants as fill
use Rattle.cast_session.specs.declared.incoming.InEnd.{InEnd}
use Rattle.cast_session.specs.declared.incoming.InEnd.TheVariants as ends
use Rattle.cast_session.specs.Known.{Adds}
use Rattle.cast_session.specs.Commands.{Heard, nothing, only_bad, and_then, commands_of}
use Rattle.cast_session.specs.Pushes.{IsCut}
use Rattle.cast_session.specs.Ahead.{IsFilled}
use Rattle.cast_session.specs.Handing.{HandedOn, EndedIn, StopsIn, HandsOn}
use Rattle.cast_session.specs.Incoming.{Ended, PumpedIn, Pumping, EndsBad}
use Rattle.cast_session.proofs.Fronts.{no_front}
use Rattle.cast_session.proofs.Heard.{by_what_stands, request_first}

-- ---- what is read, and what is taken, one after the other

pub consumes_more : (a b c : Option (List ℕ)) (xs ys : List ℕ) → Consumes a b xs → Consumes b c ys → Consumes a c (xs ++ ys)
consumes_more None b c xs ys p q = tt
consumes_more (Some x) None c xs ys p q = absurd p
consumes_more (Some x) (Some y) None xs ys p q = absurd q
consumes_more (Some x) (Some y) (Some z) xs ys p q = p ∙ (ap (λ (l : List ℕ). xs ++ l) q ∙ sym (append_assoc xs ys z))

pub consumes_nothing : (a : Option (List ℕ)) → Consumes a a []
consumes_nothing None = tt
consumes_nothing (Some x) = refl

adds_more : {X : Type 0} (a b c : Option (List X)) (xs ys : List X) → Adds a b xs → Adds b c ys → Adds a c (xs ++ ys)
adds_more None b c xs ys p q = tt
adds_more (Some x) None c xs ys p q = absurd p
adds_more (Some x) (Some y) None xs ys p q = absurd q
adds_more {X} (Some x) (Some y) (Some z) xs ys p q = q ∙ (ap (λ (l : List X). l ++ ys) p ∙ append_assoc x xs ys)

pub adds_nothing : {X : Type 0} (a : Option (List X)) → Adds a a []
adds_nothing None = tt
adds_nothing (Some x) = sym (append-nil x)

-- ---- commands of whole frames

pub handed_nothing : (s : Option (List Command)) → HandedOn s s []
handed_nothing s = record { commands = []; taken = adds_nothing s; whole = λ rest. refl }

ended_behind : (end : InEnd) (front : List Command) (said : Heard) (commands : List Command) → EndedIn end said commands →
    EndedIn end (and_then front said) (front ++ commands)
ended_behind (ends.Bad e) front said commands is = (ap (λ (l : List Command). front ++ l) is.0, is.1)
ended_behind ends.NoMemory front said commands is =
    (is.0, ap (λ (l : List Command). front ++ l) is.1 ∙ sym (append_assoc front commands is.0))
ended_behind ends.End front said commands is = absurd is
ended_behind ends.ReadFault front said commands is = absurd is

module _ {s t u : Option (List Command)} where
  pub handed_more : (a b : List ℕ) → HandedOn s t a → HandedOn t u b → HandedOn s u (a ++ b)
  handed_more a b p q =
      record {
        commands = p.commands ++ q.commands;
        taken = adds_more s t u p.commands q.commands p.taken q.taken;
        whole = λ rest.
            let said = commands_of rest in
            ap commands_of (append_assoc a b rest)
            ∙ (p.whole (b ++ rest)
            ∙ (ap (and_then p.commands) (q.whole rest)
            ∙ ap (λ (l : List Command). record { commands = l; fault = said.fault })
            (sym (append_assoc p.commands q.commands said.commands))));
      }

  pub stops_behind : (a b : List ℕ) (end : InEnd) → HandedOn s t a → StopsIn t u b end → StopsIn s u (a ++ b) end
  stops_behind a b end p q =
      record {
        commands = p.commands ++ q.commands;
        taken = adds_more s t u p.commands q.commands p.taken q.taken;
        ended = rw (p.whole b) (ended_behind end p.commands (commands_of b) q.commands q.ended);
      }

module _ {s t : Option (List Command)} where
  pub stops_without_memory : (bytes : List ℕ) → Adds s t [] → StopsIn s t bytes ends.NoMemory
  stops_without_memory bytes added = record { commands = []; taken = added; ended = ((commands_of bytes).commands, refl) }

  -- at a fault, for which the bytes say `Bad` if it is their own
  pub stops_bad : (bytes : List ℕ) (e : FrameFault) (end : InEnd) → (e ≢ NoMemory → commands_of bytes ≡ only_bad e) → EndsBad s t e end →
      StopsIn s t bytes end
  stops_bad bytes e (ends.Bad f) says bad =
      record { commands = Bad ∷ []; taken = bad.2; ended = rw (says bad.1) (refl, ap (λ (d : FrameFault). Some d) (sym bad.0)) }
  stops_bad bytes e ends.NoMemory says bad = stops_without_memory bytes bad
  stops_bad bytes e ends.End says bad = absurd bad
  stops_bad bytes e ends.ReadFault says bad = absurd bad

-- ---- one frame after the other

split : (bytes : List ℕ) (done n : ℕ) → take done bytes ++ take n (drop done bytes) ≡ take (done + n) bytes
split bytes done n =
    ap (λ (l : List ℕ). l ++ take n (drop done bytes)) (sym (take-take done (done + n) bytes (omega arith)))
    ∙ (ap (λ (l : List ℕ). take done (take (done + n) bytes) ++ l) (sym (drop-take done n bytes))
    ∙ take-append-drop done (take (done + n) bytes))

-- a frame has some bytes, and all of them are there
pub record Fits (bytes : List ℕ) (done n : ℕ) : Type 0 where
  pub some : 1 ≤ n
  pub within : done + n ≤ length bytes

-- so many bytes of frames were handed on
pub record HandedTo (old now : Option (List Command)) (bytes : List ℕ) (done : ℕ) : Type 0 where
  pub within : done ≤ length bytes
  pub handed : HandedOn old now (take done bytes)

-- what stands at the front of the slice behind so many bytes
pub at_rest : (bytes : List ℕ) (done : ℕ) (r : Result ClientRead FrameFault) →
    client_of (take (length bytes - done) (drop done bytes)) ≡ r → client_of (drop done bytes) ≡ r
at_rest bytes done r e = ap client_of (sym (take_rest bytes done)) ∙ e

request_alone : (rest : List ℕ) (n : ℕ) (r : Asked) → client_of rest ≡ Ok (read.Frame (client.Request r) n) →
    client_of (take n rest) ≡ Ok (read.Frame (client.Request r) (length (take n rest)))
request_alone rest n r e =
    let there = frame_is_there rest (client.Request r) n e in
    frame_alone rest (client.Request r) n e ∙ ap (λ (k : ℕ). Ok (read.Frame (client.Request r) k)) (sym (length-take-le n rest there.whole))

module _ {s t : Option (List Command)} {bytes : List ℕ} {done : ℕ} where
  pub frame_fits : (n : ℕ) (r : Asked) → HandedTo s t bytes done → client_of (drop done bytes) ≡ Ok (read.Frame (client.Request r) n) →
      Fits bytes done n
  frame_fits n r h e =
      let there = frame_is_there (drop done bytes) (client.Request r) n e in
      let least = (length_fits (drop done bytes) n there.says).least in
      let len = length-drop done bytes in
      record { some = omega (arith, least); within = omega (arith, len, there.whole, h.within) }

  pub handed_further : (u : Option (List Command)) (n : ℕ) (r : Asked) → HandedTo s t bytes done →
      client_of (drop done bytes) ≡ Ok (read.Frame (client.Request r) n) → Adds t u (Request r ∷ []) → HandedTo s u bytes (done + n)
  handed_further u n r h e added =
      let rest = drop done bytes in
      let one : HandedOn t u (take n rest) = record {
        commands = Request r ∷ [];
        taken = added;
        whole = λ behind. request_first (take n rest) behind r (request_alone rest n r e);
      } in
      record {
        within = (frame_fits n r h e).within;
        handed = rw (split bytes done n) at (handed_more (take done bytes) (take n rest) h.handed one);
      }

  pub stops_there : (u : Option (List Command)) (end : InEnd) → HandedTo s t bytes done → StopsIn t u (drop done bytes) end →
      StopsIn s u bytes end
  stops_there u end h stops = rw (take-append-drop done bytes) at (stops_behind (take done bytes) (drop done bytes) end h.handed stops)

-- ---- between two calls of `read`

-- a part of a frame has fewer bytes than a frame
pub cut_fits : (bytes : List ℕ) → IsCut bytes → length bytes < 65536
cut_fits bytes cut =
    elim (more_is_wanting bytes cut.0 cut.1) [
      | of_the_length short is ↦ omega arith
      | of_the_frame said long says part is ↦ (let most = (length_fits bytes said says).most in omega (arith, most, part))
    ]

pub no_bytes_are_cut : (kept : List ℕ) → kept ≡ [] → IsCut kept
no_bytes_are_cut kept none = (4, rw none no_front)

pub begun : (a : Option (List ℕ)) (s : Option (List Command)) (kept : List ℕ) → kept ≡ [] → Pumping a a s s kept
begun a s kept none =
    record { done = []; consumed = rw none (consumes_nothing a); handed = handed_nothing s; cut = no_bytes_are_cut kept none }

ended_so : (end : InEnd) (left : Option (List ℕ)) (said : Heard) (commands : List Command) → EndedIn end said commands →
    Ended end left said commands
ended_so (ends.Bad e) left said commands is = is
ended_so ends.NoMemory left said commands is = is
ended_so ends.End left said commands is = absurd is
ended_so ends.ReadFault left said commands is = absurd is

-- a part of a frame says nothing
silent : {a b : Option (List ℕ)} {s t : Option (List Command)} {old : List ℕ} → (p : Pumping a b s t old) →
    commands_of (p.done ++ old) ≡ and_then p.handed.commands nothing
silent {old = old} p = p.handed.whole old ∙ ap (and_then p.handed.commands) (by_what_stands old (Ok (read.More p.cut.0)) p.cut.1)

no_more : {b c : Option (List ℕ)} {old new : List ℕ} {filled : Filled} → (f : IsFilled b c old new filled) → f.came ≡ [] → new ≡ old
no_more {old = old} f none = f.behind ∙ (ap (λ (l : List ℕ). old ++ l) none ∙ append-nil old)

-- the same bytes, in another room
pub with_room : {a b : Option (List ℕ)} {s t : Option (List Command)} {old : List ℕ} (kept : List ℕ) → Pumping a b s t old → kept ≡ old →
    Pumping a b s t kept
with_room kept p same = rw same p

module _ {a b c : Option (List ℕ)} {s t : Option (List Command)} {old new : List ℕ} where
  -- what came behind the bytes that were kept
  read_on : {filled : Filled} → (p : Pumping a b s t old) → IsFilled b c old new filled → Consumes a c (p.done ++ new)
  read_on p f =
      let regrouped : (p.done ++ old) ++ f.came ≡ p.done ++ new =
      append_assoc p.done old f.came ∙ ap (λ (l : List ℕ). p.done ++ l) (sym f.behind) in
      rw regrouped at (consumes_more a b c (p.done ++ old) f.came p.consumed f.consumed)

  pub went_on : {filled : Filled} (u : Option (List Command)) (n : ℕ) (kept : List ℕ) → Pumping a b s t old → IsFilled b c old new filled →
      HandsOn t u new (Ok n) → kept ≡ drop n new → Pumping a c s u kept
  went_on u n kept p f hands is =
      let joined : (p.done ++ take n new) ++ drop n new ≡ p.done ++ new =
      append_assoc p.done (take n new) (drop n new) ∙ ap (λ (l : List ℕ). p.done ++ l) (take-append-drop n new) in
      rw is
      (record {
        done = p.done ++ take n new;
        consumed = rw joined (read_on p f);
        handed = handed_more p.done (take n new) p.handed hands.1;
        cut = hands.2;
      })

  -- ---- the end

  pub ends_in_them : {filled : Filled} (u : Option (List Command)) (end : InEnd) → Pumping a b s t old → IsFilled b c old new filled →
      HandsOn t u new (Err end) → PumpedIn a c s u end
  ends_in_them u end p f stops =
      let all = stops_behind p.done new end p.handed stops in
      record {
        read = p.done ++ new;
        consumed = read_on p f;
        handed = all.commands;
        taken = all.taken;
        ended = ended_so end c (commands_of (p.done ++ new)) all.commands all.ended;
      }

  -- nothing came behind it
  ends_silent : (end : InEnd) → (p : Pumping a b s t old) → Consumes a c (p.done ++ new) → new ≡ old →
      Ended end c (and_then p.handed.commands nothing) p.handed.commands → PumpedIn a c s t end
  ends_silent end p consumed same ended =
      record {
        read = p.done ++ old;
        consumed = rw same at consumed;
        handed = p.handed.commands;
        taken = p.handed.taken;
        ended = rw (silent p) ended;
      }

  pub ends_at_end : Pumping a b s t old → IsFilled b c old new fill.End → PumpedIn a c s t ends.End
  ends_at_end p f =
      ends_silent ends.End p (read_on p f) (no_more f f.as_said.0) (f.as_said.1, sym (append-nil p.handed.commands), refl)

  pub ends_at_read_fault : Pumping a b s t old → IsFilled b c old new fill.ReadFault → PumpedIn a c s t ends.ReadFault
  ends_at_read_fault p f =
      ends_silent ends.ReadFault p (read_on p f) (no_more f f.as_said) (sym (append-nil p.handed.commands), refl)

module _ {a b : Option (List ℕ)} {s t : Option (List Command)} {old : List ℕ} where
  pub ends_at_last_turn : Pumping a b s t old → PumpedIn a b s t ends.ReadFault
  ends_at_last_turn p = ends_silent ends.ReadFault p p.consumed refl (sym (append-nil p.handed.commands), refl)

  pub ends_without_room : Pumping a b s t old → PumpedIn a b s t ends.NoMemory
  ends_without_room p = ends_silent ends.NoMemory p p.consumed refl ([], refl)

-- what a test says of a call
pub refused : {T E : Type 0} {P : Type 0} (r : Result T E) → true ≡ is_err r → OnErr r P → P
refused (Ok x) test h = absurd cc
refused (Err e) test h = h

pub granted : {T E : Type 0} {P : Type 0} (r : Result T E) → false ≡ is_err r → OnOk r P → P
granted (Ok x) test h = h
granted (Err e) test h = absurd cc
