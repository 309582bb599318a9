-- A push that is read from the front of a reader.
use Rattle.std.proofs.Common.{◌≡◌, ◌≢◌, ℕ, List, [], ◌∷◌, ◌++◌, length, Option, Some, None, Result, Ok, Err, refl, sym, ap, subst, ◌∙◌}
use Rattle.std.proofs.lemmas.List.{append-nil}
use Rattle.std.proofs.Math.Seq.{drop-append_seam}
use Rattle.std.specs.Io.KnownBytes.{Consumes, IsAtEnd}
use Rattle.cast_field.specs.declared.fault.FrameFault.{FrameFault}
use Rattle.cast_field.specs.declared.fault.FrameFault.TheVariants.{Short, WrongType}
use Rattle.cast_message.specs.declared.client.ClientFrame.{ClientFrame}
use Rattle.cast_message.specs.declared.client.ClientFrame.TheVariants as client
use Rattle.cast_client.specs.declared.front.ClientRead.{ClientRead}
use Rattle.cast_client.specs.declared.front.ClientRead.TheVariants as read
use Rattle.cast_message.specs.declared.client.Push.{Push}
use Rattle.cast_message.specs.declared.client.Request.{Request}
use Rattle.cast_client.specs.Reading.{client_of}
use Rattle.cast_client.proofs.Stays.{frame_stays, fault_stays}
use Rattle.cast_session.specs.declared.frames.ReadStep.TheVariants as step
use Rattle.cast_session.specs.declared.client.PushFault.TheVariants as faults
use Rattle.cast_session.specs.Known.{Between}
use Rattle.cast_session.specs.ReadSteps.{HasRead}
use Rattle.cast_session.specs.Pushes.{push_at, push_or_fault, IsCut, ReadsPush}
use Rattle.cast_session.proofs.Pumping.{consumes_more}

-- ---- by what stands at the front

at_front : (bytes : List ℕ) (r : Result ClientRead FrameFault) → client_of bytes ≡ r → push_at bytes ≡ push_or_fault bytes r
unfolding push_at
at_front bytes r e = ap (push_or_fault bytes) e

-- ---- the bytes that were read are the first of all

-- a fact of bytes that are known, by those that were read of them and those that are left
from_read : (before left : Option (List ℕ)) (read : List ℕ) (P : List ℕ → List ℕ → Type 0) → Consumes before left read →
    ((left : List ℕ) → P (read ++ left) left) → Between before left P
from_read None left read P consumed all = tt
from_read (Some before) None read P consumed all = absurd consumed
from_read (Some before) (Some left) read P consumed all = let Q : List ℕ → Type 0 = λ l. P l left in subst Q (sym consumed) (all left)

-- the same where nothing is left
from_all : (before left : Option (List ℕ)) (read : List ℕ) (P : List ℕ → List ℕ → Type 0) → Consumes before left read → IsAtEnd left →
    P read [] → Between before left P
from_all None left read P consumed end all = tt
from_all (Some before) None read P consumed end all = absurd consumed
from_all (Some before) (Some left) read P consumed end all =
    let same : before ≡ read = consumed ∙ (ap (λ (l : List ℕ). read ++ l) end ∙ append-nil read) in
    rw (same, end) all

-- a frame and a fault are not cut
frame_is_not_cut : (bytes : List ℕ) (f : ClientFrame) (n : ℕ) → client_of bytes ≡ Ok (read.Frame f n) → IsCut bytes → ⊥
frame_is_not_cut bytes f n e cut = let no = sym e ∙ cut.1 in cc

fault_is_not_cut : (bytes : List ℕ) (e : FrameFault) → client_of bytes ≡ Err e → IsCut bytes → ⊥
fault_is_not_cut bytes e is cut = let no = sym is ∙ cut.1 in cc

-- an end before a frame, and an end within one
none_at : (bytes : List ℕ) (n : ℕ) → client_of bytes ≡ Ok (read.More n) → bytes ≡ [] → push_at bytes ≡ Ok (None, [])
none_at bytes n e none = at_front bytes (Ok (read.More n)) e ∙ rw none refl

short_at : (bytes : List ℕ) (n : ℕ) → client_of bytes ≡ Ok (read.More n) → bytes ≢ [] → push_at bytes ≡ Err Short
short_at [] n e some = absurd (some refl)
short_at (b ∷ bytes) n e some = at_front (b ∷ bytes) (Ok (read.More n)) e

-- these bytes of a frame have come
pub record Awaiting (before now : Option (List ℕ)) (kept : List ℕ) : Type 0 where
  pub consumed : Consumes before now kept

pub ends_at_last_turn : {a b : Option (List ℕ)} {old : List ℕ} {n : ℕ} → Awaiting a b old → client_of old ≡ Ok (read.More n) →
    Between a b (ReadsPush (Err faults.ReadFault))
ends_at_last_turn {a} {b} {old} {n} p e = from_read a b old (ReadsPush (Err faults.ReadFault)) p.consumed (λ left. (old, refl, (n, e)))

module _ {a b c : Option (List ℕ)} {old kept : List ℕ} where
  pub ends_at_push : {push : Push} → Awaiting a b old → HasRead b c old kept (step.Frame (client.Push push)) →
      Between a c (ReadsPush (Ok (Some push)))
  ends_at_push {push} p has =
      let all = old ++ has.came in
      from_read a c all (ReadsPush (Ok (Some push))) (consumes_more a b c old has.came p.consumed has.consumed)
      (λ left.
      at_front (all ++ left) (Ok (read.Frame (client.Push push) (length all)))
      (frame_stays all left (client.Push push) (length all) has.is.0)
      ∙ ap (λ (l : List ℕ). Ok (Some push, l)) (drop-append_seam all left))

  pub ends_at_request : {r : Request} → Awaiting a b old → HasRead b c old kept (step.Frame (client.Request r)) →
      Between a c (ReadsPush (Err (faults.Frame WrongType)))
  ends_at_request {r} p has =
      let all = old ++ has.came in
      from_read a c all (ReadsPush (Err (faults.Frame WrongType))) (consumes_more a b c old has.came p.consumed has.consumed)
      (λ left other.
      let stays = frame_stays all left (client.Request r) (length all) has.is.0 in (
        at_front (all ++ left) (Ok (read.Frame (client.Request r) (length all))) stays,
        λ cut. absurd (frame_is_not_cut (all ++ left) (client.Request r) (length all) stays cut),
      ))

  pub ends_at_fault : {e : FrameFault} → Awaiting a b old → HasRead b c old kept (step.Fault e) →
      Between a c (ReadsPush (Err (faults.Frame e)))
  ends_at_fault {e} p has =
      let all = old ++ has.came in
      from_read a c all (ReadsPush (Err (faults.Frame e))) (consumes_more a b c old has.came p.consumed has.consumed)
      (λ left other.
      let stays = fault_stays all left e (has.is other) in
      (at_front (all ++ left) (Err e) stays, λ cut. absurd (fault_is_not_cut (all ++ left) e stays cut)))

  -- the bytes that had come are all
  all_came : Awaiting a b old → (has : HasRead b c old kept step.End) → (Consumes a c old) × (kept ≡ old)
  all_came p has =
      let consumed = consumes_more a b c old has.came p.consumed has.consumed in
      (rw (has.is.0, append-nil) at consumed, rw (has.is.0, append-nil) at has.is.1)

  pub ends_before_a_frame : {n : ℕ} → Awaiting a b old → client_of old ≡ Ok (read.More n) → HasRead b c old kept step.End → kept ≡ [] →
      Between a c (ReadsPush (Ok None))
  ends_before_a_frame {n} p e has none =
      let all = all_came p has in
      from_all a c old (ReadsPush (Ok None)) all.0 has.is.2 (none_at old n e (sym all.1 ∙ none))

  pub ends_within_a_frame : {n : ℕ} → Awaiting a b old → client_of old ≡ Ok (read.More n) → HasRead b c old kept step.End → kept ≢ [] →
      Between a c (ReadsPush (Err (faults.Frame Short)))
  ends_within_a_frame {n} p e has some =
      let all = all_came p has in
      from_all a c old (ReadsPush (Err (faults.Frame Short)))
      all.0 has.is.2 (λ other. (short_at old n e (λ none. some (all.1 ∙ none)), λ cut. refl))

  pub ends_at_read_fault : {n : ℕ} → Awaiting a b old → client_of old ≡ Ok (read.More n) → HasRead b c old kept step.ReadFault →
      Between a c (ReadsPush (Err faults.ReadFault))
  ends_at_read_fault {n} p e has =
      let consumed = rw (has.is, append-nil) at (consumes_more a b c old has.came p.consumed has.consumed) in
      from_read a c old (ReadsPush (Err faults.ReadFault)) consumed (λ left. (old, refl, (n, e)))
